-- What comparing tasks part by part says. Assumes nothing.
use Rattle.std.proofs.Common.{◌≡◌, ℕ, Bool, ◌&&◌, List, [], ◌∷◌, map, vec_items, Decides, refl, ap}
use Rattle.std.specs.Prelude.{nat_eq}
use Rattle.std.specs.Cmp.Lexicographic.{pointwise}
use Rattle.std.proofs.lemmas.Bool.Decides.{Decides-like, Decides-at, Decides-and, Decides-eqb}
use Rattle.std.proofs.lemmas.Slice.Eq.{slice_eq-Decides}
use Rattle.strips.specs.declared.action.Action.{Action}
use Rattle.strips.specs.declared.task.Task.{Task}
use Rattle.strips.specs.Lists.{listed}
use Rattle.strips.specs.Actions.{action_of}
use Rattle.strips.specs.Tasks.{problem}

-- where E decides whether items mean the same, it decides of lists whether they do
module _ {X Y : Type 0} (E : X → X → Bool) (f : X → Y) (each : (x y : X) → Decides (E x y) (f x ≡ f y)) where
  same_map : (xs ys : List X) → Decides (pointwise E xs ys) (map f xs ≡ map f ys)
  same_map [] [] = (λ _. refl, λ _. refl)
  same_map [] (y ∷ ys) = (λ e. absurd (cc), λ e. absurd (cc))
  same_map (x ∷ xs) [] = (λ e. absurd (cc), λ e. absurd (cc))
  same_map (x ∷ xs) (y ∷ ys) =
      Decides-like _ (λ (p : (f x ≡ f y) × (map f xs ≡ map f ys)). let a = p.0 in let b = p.1 in cc) (λ e. (cc, cc)) (Decides-and _ _ (each x y) (same_map xs ys))

same_list : (xs ys : List ℕ) → Decides (pointwise nat_eq xs ys) (xs ≡ ys)
same_list xs ys = slice_eq-Decides Decides-eqb xs ys _ refl

abbrev alike : Action → Action → Bool
alike a b =
    pointwise nat_eq (listed a.preconditions.list) (listed b.preconditions.list) && (pointwise nat_eq (listed a.adds.list) (listed b.adds.list) && pointwise nat_eq (listed a.deletes.list) (listed b.deletes.list))

same_action : (a b : Action) → Decides (alike a b) (action_of a ≡ action_of b)
same_action a b =
    Decides-like _ (λ p i. record { pre = p.0 i; add = p.1.0 i; del = p.1.1 i }) (λ e. (ap (λ m. m.pre) e, (ap (λ m. m.add) e, ap (λ m. m.del) e)))
    (Decides-and _ _ (same_list _ _) (Decides-and _ _ (same_list _ _) (same_list _ _)))

pub same_task : (s t : Task) (r : Bool)
    → r ≡ (nat_eq s.facts t.facts && (pointwise nat_eq (listed s.goal.list) (listed t.goal.list) && (pointwise nat_eq (listed s.start) (listed t.start) && pointwise alike (vec_items s.actions) (vec_items t.actions))))
    → Decides r (problem s ≡ problem t)
same_task s t r e =
    Decides-at _ _ e
    (Decides-like _ (λ p i. record { facts = p.0 i; actions = p.1.1.1 i; goal = p.1.0 i; start = p.1.1.0 i }) (λ e. (ap (λ m. m.facts) e, (ap (λ m. m.goal) e, (ap (λ m. m.start) e, ap (λ m. m.actions) e))))
    (Decides-and _ _ (Decides-eqb _ _) (Decides-and _ _ (same_list _ _) (Decides-and _ _ (same_list _ _) (same_map alike action_of same_action _ _)))))
