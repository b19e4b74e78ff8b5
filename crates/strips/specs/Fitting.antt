-- Whether lists and actions name only facts of a task. Assumes nothing.
use Rattle.std.specs.Prelude.{ℕ, Bool, ◌&&◌, List, nat_lt}
use Rattle.std.specs.List.{list_all}
use Rattle.strips.specs.declared.action.Action.{Action}
use Rattle.strips.specs.Lists.{listed}

-- each number of the list is below n
abbrev pub below : ℕ → List ℕ → Bool
below n l = list_all (λ f. nat_lt f n) l

abbrev pub fits : ℕ → Action → Bool
fits n a = below n (listed a.preconditions.list) && (below n (listed a.adds.list) && below n (listed a.deletes.list))

abbrev pub all_fit : ℕ → List Action → Bool
all_fit n l = list_all (fits n) l
