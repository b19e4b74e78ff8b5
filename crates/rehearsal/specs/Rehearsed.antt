-- What a rehearsal promises. Assumes nothing.
--
--   shown       an answer's number and values, by case
--   Rehearsed   which answer is given
use Rattle.std.specs.Prelude.{◌≡◌, ℕ, List, [], ◌∷◌, Some, Ok, Err, Result}
use Rattle.model.specs.Strips.{Problem, State, Plan, Within}
use Rattle.model.specs.Rehearsals.{verdict, Reading, good, refused, reading}
use Rattle.strips.specs.Members.{FirstFrom}
use Rattle.rehearsal.specs.declared.verdict.Verdict.{Verdict}
use Rattle.rehearsal.specs.declared.verdict.Verdict.TheVariants as answer
use Rattle.rehearsal.specs.declared.verdict.UnknownFact.{UnknownFact}

-- 8: a fact beyond the task; 12, 13, 14: the plan's faults
abbrev pub shown : Result Verdict UnknownFact → Reading
shown (Ok answer.Plan) = good
shown (Ok (answer.UnknownAction step)) = refused 12 (step ∷ [])
shown (Ok (answer.Blocked step fact)) = refused 13 (step ∷ fact ∷ [])
shown (Ok (answer.GoalMissing fact)) = refused 14 (fact ∷ [])
shown (Err e) = refused 8 (e.fact ∷ [])

pub record Rehearsed (p : Problem) (s : State) (acts : List ℕ) (r : Result Verdict UnknownFact) : Type 0 where
  -- where the state has only facts of the task, the verdict
  pub within : Within p.facts s → shown r ≡ reading (verdict p s acts)
  -- where f is the first fact beyond the task, 8 with f
  pub beyond : (f : ℕ) → FirstFrom s p.facts (Some f) → shown r ≡ refused 8 (f ∷ [])
  -- "a plan" is answered of plans only, and of every plan from a state of the task
  pub plan : (shown r ≡ good → Plan p s acts) × (Within p.facts s → Plan p s acts → shown r ≡ good)
