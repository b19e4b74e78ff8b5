-- What the indexes of a task say. Assumes nothing.
--
--   picked, Picks           the items of the actions that pass a test
--   Lists                   what is listed for each number below a count
--   adders_at, readers_at   what the indexes list for a fact, or for an item
--   Linked                  the indexes are a problem's
use Rattle.std.specs.Prelude.{◌≡◌, ℕ, ◌+◌, ◌<◌, Bool, true, cond, List, [], ◌∷◌, map, length, IfOk, vec_items, Result, Vec, slice_index_or}
use Rattle.std.specs.declared.alloc.AllocError.{AllocError}
use Rattle.std.specs.declared.alloc.Global.{Global}
use Rattle.model.specs.Strips.{Problem, Action, items, names}
use Rattle.model.specs.Figures.{adders}
use Rattle.model.specs.Settling.{reads}
use Rattle.strips.specs.declared.action.Action.{Action as ActionValue}
use Rattle.strips.specs.Actions.{action_of}
use Rattle.links.specs.declared.links.Links.{Links}

-- of these actions, the first of which is item j, the items of those that pass the test
abbrev pub picked : (Action → Bool) → ℕ → List Action → List ℕ
picked test j [] = []
picked test j (a ∷ acts) = cond (test a) (j ∷ picked test (j + 1) acts) (picked test (j + 1) acts)

-- whichever test of the actions the answers of a closure are, the list has the items of those that pass it
abbrev pub Picks : (ActionValue → Bool → Type 0) → Problem → List ℕ → Type 0
Picks answers p l =
    (test : Action → Bool) → ((act : ActionValue) (b : Bool) → answers act b → b ≡ test (action_of act)) → l ≡ picked test p.facts p.actions

-- a vector of vectors as a list of lists
abbrev pub lists : Vec (Vec ℕ Global) Global → List (List ℕ)
lists v = map vec_items (vec_items v)

-- what is listed for a fact
abbrev pub adders_at : Links → ℕ → List ℕ
adders_at links f = slice_index_or (lists links.adders) f []

-- what is listed for an item
abbrev pub readers_at : Links → ℕ → List ℕ
readers_at links q = slice_index_or (lists links.readers) q []

-- a list of n lists, the one of each number being that of f
pub record Indexes (n : ℕ) (f : ℕ → List ℕ) (l : List (List ℕ)) : Type 0 where
  pub long : length l ≡ n
  pub each : (q : ℕ) → q < n → slice_index_or l q [] ≡ f q

-- whichever list of each number below n the answers are, these are the lists
abbrev pub Lists : (ℕ → Result (Vec ℕ Global) AllocError → Type 0) → ℕ → Vec (Vec ℕ Global) Global → Type 0
Lists answers n v =
    (f : ℕ → List ℕ) → ((q : ℕ) (r : Result (Vec ℕ Global) AllocError) → q < n → answers q r → IfOk r (λ w. vec_items w ≡ f q)) → Indexes n f (lists v)

-- the indexes are the problem's: by fact exactly the actions that add it, and who reads an item is among its readers
pub record Linked (p : Problem) (links : Links) : Type 0 where
  pub adders : (f : ℕ) → f < p.facts → adders_at links f ≡ adders p f
  pub readers : (q r : ℕ) → q < items p → reads p r q ≡ true → names (readers_at links q) r ≡ true
