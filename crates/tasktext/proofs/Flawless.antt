-- The parts of a load that has taken its end frame make a task.
use Rattle.std.proofs.Common.{◌≡◌, ℕ, ◌+◌, ◌<◌, ◌≤◌, true, eqb, ltb, List, [], ◌∷◌, length, vec_items, Some, None, Option, Ok, Err, Vec, Result, IsOk, refl, ap, ◌∙◌, arith}
use Rattle.std.proofs.lemmas.Bool.{and_parts, ne_eqb, le-ltb, cond-true, cond-false}
use Rattle.strips.specs.declared.fault.TaskFault.{TaskFault}
use Rattle.strips.specs.declared.action.Action.{Action}
use Rattle.strips.specs.declared.list.FactList.{FactList}
use Rattle.strips.specs.declared.task.Task.{Task}
use Rattle.std.specs.declared.alloc.Global.{Global}
use Rattle.strips.specs.Lists.{listed}
use Rattle.strips.specs.Fitting.{below, fits, all_fit}
use Rattle.strips.specs.Tasks.{flaw, first_unfit, in_lists, Made}

none_unfit : (n k : ℕ) (l : List Action) → all_fit n l ≡ true → first_unfit n k l ≡ None
none_unfit n k [] h = refl
none_unfit n k (a ∷ l) h =
    let p = and_parts (fits n a) (all_fit n l) h in
    cond-true (fits n a) _ _ p.0 ∙ none_unfit n (k + 1) l p.1

pub flawless : (n : ℕ) (actions : List Action) (goal start : List ℕ) → 0 < n → length actions ≤ 512 → all_fit n actions ≡ true → below n goal ≡ true → below n start ≡ true
    → flaw n actions goal start ≡ None
flawless n actions goal start some few fit g s =
    cond-false (eqb n 0) _ _ (ne_eqb n 0 (λ e. omega arith)) ∙ cond-false (ltb 512 (length actions)) _ _ (le-ltb 512 (length actions) few)
    ∙ ap (λ o. in_lists n o goal start) (none_unfit n 0 actions fit)
    ∙ cond-true (below n goal) _ _ g ∙ cond-true (below n start) _ _ s

pub makes : (n : ℕ) (actions : Vec Action Global) (goal start : FactList 255) (r : Result Task (TaskFault × Vec Action Global))
    → flaw n (vec_items actions) (listed goal) (listed start) ≡ None → Made n actions goal start r → IsOk r
makes n actions goal start (Ok task) none h = refl
makes n actions goal start (Err e) none h = let flawed = h.0 in cc

pub clash : (o : Option TaskFault) (f : TaskFault) → o ≡ None → o ≡ Some f → ⊥
clash o f a b = let z : ◌≡◌ {A = ℕ} 0 1 = cc in omega arith
