-- The equation of an item, by what the item is. Assumes nothing.
use Rattle.std.proofs.Common.{◌≡◌, ℕ, zero, suc, ◌+◌, ◌-◌, ◌<◌, ◌≤◌, true, false, List, [], ◌∷◌, map, length, get_or, Some, None, ap, arith}
use Rattle.std.specs.List.{slice_get}
use Rattle.figure.specs.Ranks.{top, cut}
use Rattle.model.specs.Strips.{Problem, State, items, action}
use Rattle.model.specs.Figures.{Rule, Table, least, adders, side, equations}
use Rattle.model.proofs.Equations.{node_standing, node_added, node_action, node_past}

module _ (rule : Rule) (p : Problem) (s : State) (x : Table) (q : ℕ) where
  pub at_standing : q < p.facts → s q ≡ true → equations rule p s x q ≡ 0
  unfolding equations
  at_standing l e = ap (side rule x) (node_standing p s q l e)

  pub at_added : q < p.facts → s q ≡ false → equations rule p s x q ≡ cut (least x (adders p q) + 1)
  unfolding equations
  at_added l e = ap (side rule x) (node_added p s q l e)

  pub at_action : p.facts ≤ q → q < items p → equations rule p s x q ≡ cut (rule (map x (action p (q - p.facts)).pre) + 1)
  unfolding equations
  at_action l e = ap (side rule x) (node_action p s q l e)

  pub at_past : items p ≤ q → equations rule p s x q ≡ top
  unfolding equations
  at_past l = ap (side rule x) (node_past p s q l)

module _ {X : Type 0} where
  pub nth_some : (l : List X) (k : ℕ) (y d : X) → slice_get l k ≡ Some y → (k < length l) × (get_or l k d ≡ y)
  nth_some [] k y d e = absurd (let z : ◌≡◌ {A = ℕ} 0 1 = cc in omega arith)
  nth_some (a ∷ l) zero y d e = (omega arith, cc)
  nth_some (a ∷ l) (suc k) y d e = let r = nth_some l k y d e in (omega (arith, r.0), r.1)

  pub nth_none : (l : List X) (k : ℕ) → slice_get l k ≡ None → length l ≤ k
  nth_none [] k e = omega arith
  nth_none (a ∷ l) zero e = absurd (let z : ◌≡◌ {A = ℕ} 0 1 = cc in omega arith)
  nth_none (a ∷ l) (suc k) e = let r = nth_none l k e in omega arith
