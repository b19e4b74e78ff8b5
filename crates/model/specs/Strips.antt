-- The STRIPS state space: problems, states, steps, plans. Assumes nothing.
--
--   Problem           facts and actions by number, a goal, a start
--   Lawful            the limits that every task keeps
--   State             which facts stand
--   entered, struck   the state with one fact made to stand, or to fall
--   May, step         an action may be taken in a state; the state after it
--   Path, after actions may be taken in turn; the state after the last
--   Plan        a path after which the goal stands
--   Reachable   a path leads there
use Rattle.std.specs.Prelude.{◌≡◌, ℕ, ◌+◌, ◌<◌, ◌≤◌, Bool, true, false, cond, not, ◌&&◌, ◌||◌, List, [], ◌∷◌, length, ◌==◌, slice_index_or}
use Rattle.std.specs.List.{AllByRecursion}

-- what an action needs, adds and deletes
pub record Action : Type 0 where
  pub pre : List ℕ
  pub add : List ℕ
  pub del : List ℕ

-- facts are numbered from 0, and so are actions
pub record Problem : Type 0 where
  pub facts : ℕ
  pub actions : List Action
  pub goal : List ℕ
  pub start : List ℕ

-- an item is a fact or an action: fact f is item f, and action k is item facts + k
abbrev pub items : Problem → ℕ
items p = p.facts + length p.actions

-- each member is below the next
abbrev pub Rising : List ℕ → Type 0
Rising [] = Unit {0}
Rising (x ∷ []) = Unit {0}
Rising (x ∷ y ∷ l) = (x < y) × Rising (y ∷ l)

-- a list of a problem with n facts: at most m of them, strictly rising
pub record Listed (n m : ℕ) (l : List ℕ) : Type 0 where
  pub few : length l ≤ m
  pub rising : Rising l
  pub known : AllByRecursion (λ f. f < n) l

pub record Fits (n : ℕ) (a : Action) : Type 0 where
  pub pre : Listed n 16 a.pre
  pub add : Listed n 16 a.add
  pub del : Listed n 16 a.del

-- what every task keeps: 1 to 255 facts, at most 512 actions, lists of its facts
pub record Lawful (p : Problem) : Type 0 where
  pub some : 1 ≤ p.facts
  pub few : p.facts ≤ 255
  pub actions_few : length p.actions ≤ 512
  pub actions_fit : AllByRecursion (Fits p.facts) p.actions
  pub goal : Listed p.facts 255 p.goal
  pub start : Listed p.facts 255 p.start

-- a state says of each fact whether it stands
abbrev pub State : Type 0
State = ℕ → Bool

abbrev pub Stands : State → ℕ → Type 0
Stands s f = s f ≡ true

-- whether the list names f
abbrev pub names : List ℕ → ℕ → Bool
names [] f = false
names (x ∷ l) f = x == f || names l f

-- the facts of the list stand, and no others
abbrev pub these : List ℕ → State
these l = names l

-- s with f made to stand
abbrev pub entered : ℕ → State → State
entered f s g = f == g || s g

-- s with f made to fall
abbrev pub struck : ℕ → State → State
struck f s g = not (f == g) && s g

-- s with the facts of d removed, then those of a put in
abbrev pub changed : State → State → State → State
changed d a s f = (s f && not (d f)) || a f

abbrev pub no_action : Action
no_action = record { pre = []; add = []; del = [] }

-- the action of a number
abbrev pub action : Problem → ℕ → Action
action p a = slice_index_or p.actions a no_action

-- action a may be taken in s: its preconditions stand
unfoldable pub May : Problem → ℕ → State → Type 0
May p a s = (a < length p.actions) × AllByRecursion (Stands s) (action p a).pre

-- the state after it: its deletes removed, then its adds put in
unfoldable pub step : Problem → ℕ → State → State
step p a s = changed (these (action p a).del) (these (action p a).add) s

unfoldable pub Goal : Problem → State → Type 0
Goal p s = AllByRecursion (Stands s) p.goal

-- the actions may be taken in turn from s
abbrev pub Path : Problem → State → List ℕ → Type 0
Path p s [] = Unit {0}
Path p s (a ∷ acts) = May p a s × Path p (step p a s) acts

-- the state after the last
abbrev pub after : Problem → State → List ℕ → State
after p s [] = s
after p s (a ∷ acts) = after p (step p a s) acts

-- the actions may be taken in turn, and then the goal stands
abbrev pub Plan : Problem → State → List ℕ → Type 0
Plan p s acts = Path p s acts × Goal p (after p s acts)

abbrev pub Reachable : Problem → State → State → Type 0
Reachable p s u = (acts : List ℕ) × Path p s acts × (after p s acts ≡ u)

-- s has a fact at or beyond n
abbrev pub Beyond : ℕ → State → Type 0
Beyond n s = (f : ℕ) × (n ≤ f) × Stands s f

-- no fact of s is at or beyond n
abbrev pub Within : ℕ → State → Type 0
Within n s = (f : ℕ) → n ≤ f → s f ≡ false

-- f is the first fact of the list that does not stand in s
abbrev pub FirstMissing : State → List ℕ → ℕ → Type 0
FirstMissing s [] f = ⊥
FirstMissing s (x ∷ l) f = cond (s x) (FirstMissing s l f) (x ≡ f)
