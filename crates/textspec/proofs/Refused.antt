-- Which test refuses a frame.
use Rattle.std.proofs.Common.{◌≡◌, ℕ, ◌+◌, ◌≤◌, true, false, eqb, leb, List, length, get_or, Some, None, Option, refl, ap, ◌∙◌}
use Rattle.std.proofs.lemmas.Bool.{and_parts, and_left, leb-true, eqb-true}
use Rattle.textspec.specs.First.{first}
use Rattle.textspec.specs.declared.due.Due.{Due}
use Rattle.textspec.specs.declared.due.Due.TheVariants.{Head, Action, Goal, Start, End, Nothing}
use Rattle.textspec.specs.Refusals.{Refusal, not_due, whole, out_of_bounds, follows, not_rising, first_refused, refusal}

pub action_whole : (n : ℕ) (b : List ℕ) → whole (Action n) b ≡ true → (4 ≤ length b) × (length b ≡ 4 + get_or b 1 0 + get_or b 2 0 + get_or b 3 0)
action_whole n b e = let p = and_parts (leb 4 (length b)) (eqb (length b) (4 + get_or b 1 0 + get_or b 2 0 + get_or b 3 0)) e in (leb-true _ _ p.0, eqb-true _ _ p.1)

pub follows_zero : (due : Due) (b : List ℕ) → follows due b 0 ≡ false
follows_zero Head b = refl
follows_zero (Action n) b = refl
follows_zero (Goal n) b = refl
follows_zero (Start n) b = refl
follows_zero End b = refl
follows_zero Nothing b = refl

module _ (due : Due) (b : List ℕ) (d : not_due due b ≡ false) (w : whole due b ≡ true) where
  after : Option ℕ → Option ℕ → Option Refusal
  after o r = first_refused 5 o (first_refused 6 r None)

  pub to_bytes : refusal due b ≡ first_refused 5 (first (out_of_bounds due b) (length b)) (first_refused 6 (first (not_rising due b) (length b)) None)
  to_bytes = rw (d, w)

  pub refused_5 : (k : ℕ) → first (out_of_bounds due b) (length b) ≡ Some k → refusal due b ≡ Some (record { number = 5; place = k })
  refused_5 k e = to_bytes ∙ ap (λ o. first_refused 5 o (first_refused 6 (first (not_rising due b) (length b)) None)) e

  pub refused_6 : (k : ℕ) → first (out_of_bounds due b) (length b) ≡ None → first (not_rising due b) (length b) ≡ Some k → refusal due b ≡ Some (record { number = 6; place = k })
  refused_6 k n e = to_bytes ∙ ap (λ o. first_refused 5 o (first_refused 6 (first (not_rising due b) (length b)) None)) n ∙ ap (λ o. first_refused 6 o None) e

  pub accepted : first (out_of_bounds due b) (length b) ≡ None → first (not_rising due b) (length b) ≡ None → refusal due b ≡ None
  accepted n e = to_bytes ∙ ap (λ o. first_refused 5 o (first_refused 6 (first (not_rising due b) (length b)) None)) n ∙ ap (λ o. first_refused 6 o None) e

pub rising_zero : (due : Due) (b : List ℕ) → not_rising due b 0 ≡ false
rising_zero due b = and_left _ _ (follows_zero due b)
