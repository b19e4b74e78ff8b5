-- How a problem is written: its frames, a line each. Assumes nothing.
--
--   head_frame .. end_frame   the bytes of each kind of frame
--   frames_of                 the frames of a problem, in order
--   text_of                   the text of a problem
use Rattle.std.specs.Prelude.{ℕ, ◌/◌, ◌%◌, List, [], ◌∷◌, ◌++◌, map, length}
use Rattle.std.specs.List.{flat_map}
use Rattle.model.specs.Strips.{Action, Problem}
use Rattle.textspec.specs.Hex.{line_of}

-- 01: how many facts, and in two bytes how many actions
abbrev pub head_frame : ℕ → ℕ → List ℕ
head_frame facts actions = 1 ∷ facts ∷ actions / 256 ∷ actions % 256 ∷ []

-- 02: how many preconditions, adds and deletes, then these
abbrev pub action_frame : Action → List ℕ
action_frame a = 2 ∷ length a.pre ∷ length a.add ∷ length a.del ∷ (a.pre ++ (a.add ++ a.del))

-- 03: how many facts the goal has, then these
abbrev pub goal_frame : List ℕ → List ℕ
goal_frame l = 3 ∷ length l ∷ l

-- 04: the same of the start
abbrev pub start_frame : List ℕ → List ℕ
start_frame l = 4 ∷ length l ∷ l

-- 05: the end
abbrev pub end_frame : List ℕ
end_frame = 5 ∷ []

-- the frames of a problem
abbrev pub frames_of : Problem → List (List ℕ)
frames_of p =
    head_frame p.facts (length p.actions)
    ∷ (map action_frame p.actions ++ goal_frame p.goal ∷ start_frame p.start ∷ end_frame ∷ [])

-- the text of a problem
abbrev pub text_of : Problem → List ℕ
text_of p = flat_map line_of (frames_of p)
