-- Which items read an item. Assumes nothing.
--
--   needing_items   of some actions, the items of those that need a fact
--   readers         the items whose equations read an item
use Rattle.std.specs.Prelude.{ℕ, ◌+◌, ◌-◌, cond, List, [], ◌∷◌, nat_lt}
use Rattle.model.specs.Strips.{Problem, Action, names, action}

-- of these actions, the first of which is item j, the items of those that need f
abbrev pub needing_items : ℕ → ℕ → List Action → List ℕ
needing_items f j [] = []
needing_items f j (a ∷ acts) = cond (names a.pre f) (j ∷ needing_items f (j + 1) acts) (needing_items f (j + 1) acts)

-- the items that read q: the actions that need a fact, the facts that an action adds
abbrev pub readers : Problem → ℕ → List ℕ
readers p q = cond (nat_lt q p.facts) (needing_items q p.facts p.actions) (action p (q - p.facts)).add
