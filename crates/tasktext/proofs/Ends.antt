-- How the reading of a text ends.
use Rattle.std.proofs.Common.{◌≡◌, ℕ, ◌+◌, ◌<◌, List, [], length, Ok, Err, Result, MatchResult, IsErrAnd, sym, refl, ap, ◌∙◌, subst, inl, inr}
use Rattle.std.specs.List.{flat_map}
use Rattle.std.proofs.lemmas.List.{append-nil}
use Rattle.textspec.specs.Hex.{line_of}
use Rattle.textspec.specs.Texts.{States, Begins, AtLine, AtEnd}
use Rattle.textspec.proofs.Theorems.{not_both}
use Rattle.strips.specs.declared.task.Task.{Task}
use Rattle.strips.specs.Tasks.{problem}
use Rattle.tasktext.specs.declared.load.Load.{Load}
use Rattle.textfault.specs.declared.fault.LoadFault.{LoadFault}
use Rattle.textfault.specs.declared.fault.LoadFault.TheVariants.{Frame, Early}
use Rattle.textfault.specs.Shown.{frame_shown, load_shown}
use Rattle.tasktext.specs.Loads.{taken, Taking, Closing}
use Rattle.tasktext.specs.Reading.{ReadingInto}

-- at a refused line
pub at_line : (text : List ℕ) (l l' : Load) (xs ys : List ℕ) (e : LoadFault) → Begins text (taken l) xs → 0 < length xs → Taking l xs l' ys (Err e) → ReadingInto text (Err e)
at_line text l l' xs ys (Frame f) b m h =
    let a : AtLine text (frame_shown f) = record { frames = taken l; rest = xs; begins = b; more = m; fault = h.2 } in
    (a, λ p s. not_both text p (frame_shown f) s (inl a))
at_line text l l' xs ys (Early p) b m h = absurd h

-- where the text ends too early
pub at_end : (text : List ℕ) (l : Load) (e : Load × LoadFault) → Begins text (taken l) [] → Closing l (Err e) → ReadingInto text (Err e.1)
at_end text l e b h =
    let n = length (taken l) + 1 in
    let f = Early (record { line = n; at = 1 }) in
    let a : AtEnd text (load_shown f) = record { frames = taken l; begins = b; unended = h.2; fault = refl } in
    subst (λ x. ReadingInto text (Err x)) (sym h.1) (a, λ p s. not_both text p (load_shown f) s (inr a))

-- where it states a task
pub stated : (text : List ℕ) (l : Load) (t : Task) → Begins text (taken l) [] → Closing l (Ok t) → States text (problem t)
stated text l t b h = record { lawful = h.0; is = b.is ∙ append-nil (flat_map line_of (taken l)) ∙ ap (flat_map line_of) h.1 }

-- where the load is closed, and let go if that fails
pub closed : {P : Load × LoadFault → LoadFault → Type 0} (text : List ℕ) (l : Load) (r : Result Task (Load × LoadFault)) (answer : Result Task LoadFault)
    → ((e : Load × LoadFault) (f : LoadFault) → P e f → f ≡ e.1) → Begins text (taken l) [] → Closing l r → MatchResult r (λ t. answer ≡ Ok t) (λ e. IsErrAnd answer (P e))
    → ReadingInto text answer
closed text l (Ok t) answer same b h m = subst (ReadingInto text) (sym m) (stated text l t b h)
closed text l (Err e) (Ok t) same b h m = absurd m
closed text l (Err e) (Err f) same b h m = subst (λ x. ReadingInto text (Err x)) (sym (same e f m)) (at_end text l e b h)
