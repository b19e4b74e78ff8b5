-- The worked examples. Assumes nothing.
use Rattle.std.proofs.Common.{◌≡◌, ℕ, zero, suc, Bool, true, false, ◌&&◌, ◌||◌, eqb, [], ◌∷◌, replicate, sym, refl, arith}
use Rattle.std.proofs.lemmas.Bool.{ne_eqb, false≢true}
use Rattle.std.specs.List.{AllByRecursion}
use Rattle.model.specs.Strips.{Listed, Fits, no_action, May, step, Goal}
use Rattle.model.specs.Examples.{sixteen, Limits, Worked, WorkedVerdicts}

or_true : (b : Bool) → (b || true) ≡ true
or_true true = refl
or_true false = refl

or_false : (b : Bool) → b ≡ false → (b || false) ≡ false
or_false true e = e
or_false false e = refl

empty_fits : Fits 255 no_action
empty_fits = record {
  pre = record { few = omega arith; rising = tt; known = tt };
  add = record { few = omega arith; rising = tt; known = tt };
  del = record { few = omega arith; rising = tt; known = tt };
}

all_fit : (m : ℕ) → AllByRecursion (Fits 255) (replicate m no_action)
all_fit zero = tt
all_fit (suc m) = (empty_fits, all_fit m)

sixteen_listed : Listed 255 16 sixteen
sixteen_listed = record { few = omega arith; rising = omega arith; known = omega arith }

pub limits : Limits
limits = record {
  largest = record {
    some = omega arith;
    few = omega arith;
    actions_few = omega arith;
    actions_fit = all_fit 512;
    goal = record { few = omega arith; rising = tt; known = tt };
    start = record { few = omega arith; rising = tt; known = tt };
  };
  no_facts = λ l. omega (arith, l.some);
  facts_256 = λ l. omega (arith, l.few);
  actions_513 = λ l. omega (arith, l.actions_few);
  lists_16 = record { pre = sixteen_listed; add = sixteen_listed; del = sixteen_listed };
  needs_17 = λ f. omega (arith, f.pre.few);
  adds_17 = λ f. omega (arith, f.add.few);
  deletes_17 = λ f. omega (arith, f.del.few);
  last = omega arith;
  beyond = λ l. omega (arith, l.known.1.0);
  twice = λ l. omega (arith, l.rising.0);
  falling = λ l. omega (arith, l.rising.0);
}

pub worked : Worked
unfolding May step Goal
worked = record {
  plan_a = (((omega arith, (refl, tt)), ((omega arith, (refl, tt)), tt)), (refl, tt));
  blocked_a = refl;
  empty_goal = λ s. (tt, tt);
  added_and_deleted = λ s. or_true (s 0 && false);
}

pub worked_verdicts : WorkedVerdicts
unfolding May step Goal
worked_verdicts = record {
  reached_a = (0 ∷ 1 ∷ [], ((omega arith, (refl, tt)), ((omega arith, (refl, tt)), tt)), refl);
  far_a = refl;
  within_a = λ f h. or_false (eqb 2 f) (ne_eqb 2 f (λ e. omega arith));
  not_within_a = λ w. false≢true (sym (w 3 (omega arith)));
  told_plan = refl;
  told_unknown = refl;
  told_blocked = refl;
  told_missing = refl;
}
