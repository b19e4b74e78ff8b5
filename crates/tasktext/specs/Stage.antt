-- How far a load has come. Assumes nothing.
--
--   in_order   the parts of a load fit the frame that is due
--   before     the frames that were taken before this one was due
use Rattle.std.specs.Prelude.{ℕ, Bool, ◌&&◌, List, [], ◌∷◌, ◌++◌, map, ◌==◌, nat_le, nat_lt}
use Rattle.model.specs.Strips.{Action as Means}
use Rattle.textspec.specs.declared.due.Due.{Due}
use Rattle.textspec.specs.declared.due.Due.TheVariants.{Head, Action, Goal, Start, End, Nothing}
use Rattle.textspec.specs.Frames.{head_frame, action_frame, goal_frame, start_frame, end_frame}

-- with this frame due, these are the facts and the actions announced, and so many actions were taken
abbrev pub in_order : Due → ℕ → ℕ → ℕ → Bool
in_order Head facts wanted n = n == 0
in_order (Action m) facts wanted n = m == facts && (nat_lt 0 facts && (nat_le wanted 512 && nat_lt n wanted))
in_order (Goal m) facts wanted n = m == facts && (nat_lt 0 facts && (nat_le wanted 512 && n == wanted))
in_order (Start m) facts wanted n = m == facts && (nat_lt 0 facts && (nat_le wanted 512 && n == wanted))
in_order End facts wanted n = nat_lt 0 facts && (nat_le wanted 512 && n == wanted)
in_order Nothing facts wanted n = nat_lt 0 facts && (nat_le wanted 512 && n == wanted)

-- the frames that were taken before this one was due
abbrev pub before : Due → ℕ → ℕ → List Means → List ℕ → List ℕ → List (List ℕ)
before Head f w acts goal start = []
before (Action m) f w acts goal start = head_frame f w ∷ map action_frame acts
before (Goal m) f w acts goal start = head_frame f w ∷ map action_frame acts
before (Start m) f w acts goal start = head_frame f w ∷ (map action_frame acts ++ goal_frame goal ∷ [])
before End f w acts goal start = head_frame f w ∷ (map action_frame acts ++ goal_frame goal ∷ start_frame start ∷ [])
before Nothing f w acts goal start = head_frame f w ∷ (map action_frame acts ++ goal_frame goal ∷ start_frame start ∷ end_frame ∷ [])
