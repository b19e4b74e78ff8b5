-- The calls that make a session's facts stand as in another state. Assumes nothing.
--
--   move    the call for one fact, if it stands otherwise
--   moves   the calls for the facts below a number, in turn
--   asked   the calls of an estimate: the moves, a settle and the goal figure
use Rattle.std.specs.Prelude.{ℕ, zero, suc, Bool, true, false, List, [], ◌∷◌, ◌++◌}
use Rattle.model.specs.Strips.{Problem, State}
use Rattle.model.specs.Runs.{Call}
use Rattle.model.specs.Runs.Call.{enter, strike, settle, goal}

-- enter the fact if it is to stand and does not; strike it if it stands and is not to
abbrev pub move : ℕ → Bool → Bool → List Call
move f true true = []
move f true false = strike f ∷ []
move f false true = enter f ∷ []
move f false false = []

-- so with every fact below n, from s to u
abbrev pub moves : ℕ → State → State → List Call
moves zero s u = []
moves (suc n) s u = moves n s u ++ move n (s n) (u n)

-- an estimate counts as the enters and strikes where the states differ, a settle on n rows and the goal figure
abbrev pub asked : Problem → State → State → ℕ → List Call
asked p s u n = moves p.facts s u ++ settle n ∷ goal ∷ []
