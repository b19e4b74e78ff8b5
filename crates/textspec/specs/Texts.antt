-- What a text states, and its first fault. Assumes nothing.
--
--   States        the text states the problem
--   Fault         a fault: number, line and place
--   InTurn        each frame is due in its turn and has no fault
--   IsLineFault   the first fault of the line that comes after these frames
--   Faulty        the first fault of a text
--   OneProblem .. StatedOrFaulty   the five theorems about these
use Rattle.std.specs.Prelude.{◌≡◌, ℕ, ◌+◌, ◌<◌, ◌⊎◌, List, [], ◌∷◌, ◌++◌, length, Some, None}
use Rattle.std.specs.List.{flat_map}
use Rattle.model.specs.Strips.{Problem, Lawful}
use Rattle.textspec.specs.declared.due.Due.{Due}
use Rattle.textspec.specs.declared.due.Due.TheVariants.{Nothing}
use Rattle.textspec.specs.Hex.{line_of, FirstFault, Sized, LineIs}
use Rattle.textspec.specs.Frames.{text_of}
use Rattle.textspec.specs.Refusals.{refusal}
use Rattle.textspec.specs.Order.{due_after}

-- the problem is one that a task may have, and the text is the one written of it
pub record States (text : List ℕ) (p : Problem) : Type 0 where
  pub lawful : Lawful p
  pub is : text ≡ text_of p

-- the line counts from 1; the place is a column from 1, or for 3 to 6 a byte from 0 (for 4 the byte count)
pub record Fault : Type 0 where
  pub number : ℕ
  pub line : ℕ
  pub place : ℕ

-- after the frames `before`, each of these is the one that is due, and has no fault
abbrev pub InTurn : List (List ℕ) → List (List ℕ) → Type 0
InTurn before [] = Unit {0}
InTurn before (b ∷ fs) = Sized b × (refusal (due_after before) b ≡ None) × InTurn (before ++ b ∷ []) fs

-- the text begins with a line, and the frame on it is refused
pub record IsFrameFault (due : Due) (text : List ℕ) (n p : ℕ) : Type 0 where
  pub bytes : List ℕ
  pub rest : List ℕ
  pub line : LineIs text rest bytes
  pub why : refusal due bytes ≡ Some (record { number = n; place = p })

-- the first fault of the line with which the text begins, after these frames: of its digits, or else of its frame
pub record IsLineFault (frames : List (List ℕ)) (text : List ℕ) (f : Fault) : Type 0 where
  pub line : f.line ≡ length frames + 1
  pub why : FirstFault text f.number f.place ⊎ IsFrameFault (due_after frames) text f.number f.place

-- the text begins with the lines of these frames, each accepted in its turn, and goes on with the rest
pub record Begins (text : List ℕ) (frames : List (List ℕ)) (rest : List ℕ) : Type 0 where
  pub is : text ≡ flat_map line_of frames ++ rest
  pub turn : InTurn [] frames

-- a line after the accepted ones has the fault
pub record AtLine (text : List ℕ) (f : Fault) : Type 0 where
  pub frames : List (List ℕ)
  pub rest : List ℕ
  pub begins : Begins text frames rest
  pub more : 0 < length rest
  pub fault : IsLineFault frames rest f

-- the text ends after the accepted lines, and the end frame is not among them: 7, in column 1 of the next line
pub record AtEnd (text : List ℕ) (f : Fault) : Type 0 where
  pub frames : List (List ℕ)
  pub begins : Begins text frames []
  pub unended : due_after frames ≡ Nothing → ⊥
  pub fault : f ≡ record { number = 7; line = length frames + 1; place = 1 }

-- the first fault of a text
abbrev pub Faulty : List ℕ → Fault → Type 0
Faulty text f = AtLine text f ⊎ AtEnd text f

-- a text states at most one problem
abbrev pub OneProblem : Type 0
OneProblem = (text : List ℕ) (p q : Problem) → States text p → States text q → p ≡ q

-- a text has at most one first fault
abbrev pub OneFault : Type 0
OneFault = (text : List ℕ) (f g : Fault) → Faulty text f → Faulty text g → f ≡ g

-- no text that states a problem has a fault
abbrev pub NotBoth : Type 0
NotBoth = (text : List ℕ) (p : Problem) (f : Fault) → States text p → Faulty text f → ⊥

-- every lawful problem has a text, which states it and has no fault
abbrev pub EachAccepted : Type 0
EachAccepted = (p : Problem) → Lawful p → States (text_of p) p × ((f : Fault) → Faulty (text_of p) f → ⊥)

-- every text states a problem or has a first fault
abbrev pub StatedOrFaulty : Type 0
StatedOrFaulty = (text : List ℕ) → ((p : Problem) × States text p) ⊎ ((f : Fault) × Faulty text f)
