-- What a rehearsal of a list of actions answers. Assumes nothing.
--
--   Verdict    the four answers
--   verdict    the answer to a list of actions from a state
--   Judged     what each answer says of the list
--   Verdicts   the answer is the one that is so, and the only one
--   reading    the number and the values of an answer
use Rattle.std.specs.Prelude.{◌≡◌, ℕ, ◌+◌, ◌<◌, ◌≤◌, cond, List, [], ◌∷◌, length, take, Some, None, Option, nat_lt, slice_index}
use Rattle.model.specs.Strips.{Problem, State, action, step, Path, after, Plan, FirstMissing}

-- a plan; an unknown action at a step; a step blocked by a fact; a goal fact missing at the end
pub data Verdict : Type 0 where
  plan : Verdict
  unknown : ℕ → Verdict
  blocked : ℕ → ℕ → Verdict
  missing : ℕ → Verdict

-- the first fact of the list that does not stand
abbrev pub lacking : State → List ℕ → Option ℕ
lacking s [] = None
lacking s (f ∷ l) = cond (s f) (lacking s l) (Some f)

abbrev pub unless : Option ℕ → (ℕ → Verdict) → Verdict → Verdict
unless None bad good = good
unless (Some f) bad good = bad f

-- the answer to the actions from s, the first of which is step i
abbrev pub verdict_from : Problem → ℕ → State → List ℕ → Verdict
verdict_from p i s [] = unless (lacking s p.goal) missing plan
verdict_from p i s (a ∷ acts) =
    cond (nat_lt a (length p.actions)) (unless (lacking s (action p a).pre) (blocked i) (verdict_from p (i + 1) (step p a s) acts)) (unknown i)

abbrev pub verdict : Problem → State → List ℕ → Verdict
verdict p s acts = verdict_from p 0 s acts

-- the actions before step i may be taken in turn
abbrev pub UpTo : Problem → State → List ℕ → ℕ → Type 0
UpTo p s acts i = (i < length acts) × Path p s (take i acts)

-- what an answer says: the list is a plan; or step i, or a goal fact, is the first that fails
abbrev pub Judged : Problem → State → List ℕ → Verdict → Type 0
Judged p s acts plan = Plan p s acts
Judged p s acts (unknown i) = UpTo p s acts i × (length p.actions ≤ slice_index acts i)
Judged p s acts (blocked i f) =
    UpTo p s acts i × (slice_index acts i < length p.actions) × FirstMissing (after p s (take i acts)) (action p (slice_index acts i)).pre f
Judged p s acts (missing f) = Path p s acts × FirstMissing (after p s acts) p.goal f

-- an answer is given exactly where what it says is so
abbrev pub Verdicts : Type 0
Verdicts =
    (p : Problem) (s : State) (acts : List ℕ) (v : Verdict) → (verdict p s acts ≡ v → Judged p s acts v) × (Judged p s acts v → verdict p s acts ≡ v)

-- how an answer is told: a plan, or a number with its values
pub data Reading : Type 0 where
  good : Reading
  refused : ℕ → List ℕ → Reading

-- 12 unknown action, with the step; 13 step blocked, with the step and the fact; 14 goal missing, with the fact
abbrev pub reading : Verdict → Reading
reading plan = good
reading (unknown i) = refused 12 (i ∷ [])
reading (blocked i f) = refused 13 (i ∷ f ∷ [])
reading (missing f) = refused 14 (f ∷ [])
