-- Every text states a problem or has a fault.
use Rattle.std.proofs.Common.{◌≡◌, ℕ, zero, suc, ◌+◌, ◌<◌, ◌≤◌, ◌⊎◌, List, [], ◌∷◌, ◌++◌, length, Some, None, Option, sym, refl, ap, ◌∙◌, subst, inl, inr, ⊎_elim, append_assoc, arith, length-append}
use Rattle.std.specs.List.{flat_map}
use Rattle.std.proofs.lemmas.List.{flat_map_more, append-nil}
use Rattle.model.specs.Strips.{Problem}
use Rattle.textspec.specs.declared.due.Due.{Due}
use Rattle.textspec.specs.declared.due.Due.TheVariants.{Head, Action, Goal, Start, End, Nothing}
use Rattle.textspec.specs.Hex.{hex, line_of, Sized, LineIs, FirstFault}
use Rattle.textspec.specs.Refusals.{Refusal, refusal}
use Rattle.textspec.specs.Order.{due_after}
use Rattle.textspec.specs.Texts.{States, Fault, InTurn, Begins, IsLineFault, Faulty, StatedOrFaulty}
use Rattle.textspec.proofs.Decide.{decide}
use Rattle.textspec.proofs.Whole.{whole}

turn_more : (pre frames : List (List ℕ)) (b : List ℕ) → InTurn pre frames → Sized b → refusal (due_after (pre ++ frames)) b ≡ None → InTurn pre (frames ++ b ∷ [])
turn_more pre [] b h s e = (s, ap (λ fs. refusal (due_after fs) b) (sym (append-nil pre)) ∙ e, tt)
turn_more pre (f ∷ fs) b h s e = (h.0, h.1, turn_more (pre ++ f ∷ []) fs b h.2 s (ap (λ xs. refusal (due_after xs) b) (append_assoc pre (f ∷ []) fs) ∙ e))

-- an accepted line more
pub begins_next : (text : List ℕ) (frames : List (List ℕ)) (xs rest b : List ℕ) → Begins text frames xs → LineIs xs rest b → refusal (due_after frames) b ≡ None → Begins text (frames ++ b ∷ []) rest
begins_next text frames xs rest b h l e =
    record {
      is =
          h.is ∙ ap (λ ys. flat_map line_of frames ++ ys) (l.is ∙ sym (append_assoc (hex b) (10 ∷ []) rest))
          ∙ sym (append_assoc (flat_map line_of frames) (line_of b) rest) ∙ ap (λ ys. ys ++ rest) (flat_map_more line_of [] frames b);
      turn = turn_more [] frames b h.turn l.sized e;
    }

pub shorter : (xs rest b : List ℕ) → LineIs xs rest b → length rest < length xs
shorter xs rest b l =
    let e : length xs ≡ length (hex b ++ 10 ∷ rest) = ap length l.is in
    omega (arith, length-append (hex b) (10 ∷ rest))

ended : (d : Due) → (d ≡ Nothing) ⊎ (d ≡ Nothing → ⊥)
ended Nothing = inl refl
ended Head = inr (λ e. let z : ◌≡◌ {A = ℕ} 0 1 = cc in omega arith)
ended (Action n) = inr (λ e. let z : ◌≡◌ {A = ℕ} 0 1 = cc in omega arith)
ended (Goal n) = inr (λ e. let z : ◌≡◌ {A = ℕ} 0 1 = cc in omega arith)
ended (Start n) = inr (λ e. let z : ◌≡◌ {A = ℕ} 0 1 = cc in omega arith)
ended End = inr (λ e. let z : ◌≡◌ {A = ℕ} 0 1 = cc in omega arith)

refused_or : (o : Option Refusal) → (o ≡ None) ⊎ ((r : Refusal) × (o ≡ Some r))
refused_or None = inl refl
refused_or (Some r) = inr (r, refl)

abbrev Answer : List ℕ → Type 0
Answer text = ((p : Problem) × States text p) ⊎ ((f : Fault) × Faulty text f)

at_end : (text : List ℕ) (frames : List (List ℕ)) → Begins text frames [] → Answer text
at_end text frames b =
    ⊎_elim
    (λ e.
    let w = whole frames b.turn e in
    inl (w.problem, record { lawful = w.lawful; is = b.is ∙ append-nil (flat_map line_of frames) ∙ ap (flat_map line_of) w.is }))
    (λ ne.
    let f : Fault = record { number = 7; line = length frames + 1; place = 1 } in
    inr (f, inr (record { frames = frames; begins = b; unended = ne; fault = refl })))
    (ended (due_after frames))

at_line : (text : List ℕ) (frames : List (List ℕ)) (rest : List ℕ) (n p : ℕ) → Begins text frames rest → 0 < length rest
    → ((f : Fault) → f ≡ record { number = n; line = length frames + 1; place = p } → IsLineFault frames rest f) → Answer text
at_line text frames rest n p b m h =
    let f : Fault = record { number = n; line = length frames + 1; place = p } in
    inr (f, inl (record { frames = frames; rest = rest; begins = b; more = m; fault = h f refl }))

walk : (fuel : ℕ) (text : List ℕ) (frames : List (List ℕ)) (rest : List ℕ) → length rest ≤ fuel → Begins text frames rest → Answer text
walk fuel text frames [] le b = at_end text frames b
walk zero text frames (x ∷ xs) le b = absurd (omega arith)
walk (suc fuel) text frames (x ∷ xs) le b =
    ⊎_elim
    (λ l.
    ⊎_elim
    (λ e. walk fuel text (frames ++ l.bytes ∷ []) l.rest (omega (arith, shorter (x ∷ xs) l.rest l.bytes l.line)) (begins_next text frames (x ∷ xs) l.rest l.bytes b l.line e))
    (λ r. at_line text frames (x ∷ xs) r.0.number r.0.place b (omega arith)
    (λ f e. record { line = ap (λ g. g.line) e; why = inr (record { bytes = l.bytes; rest = l.rest; line = l.line; why = r.1 ∙ ap (λ g. Some (record { number = g.number; place = g.place })) (sym e) }) }))
    (refused_or (refusal (due_after frames) l.bytes)))
    (λ q. at_line text frames (x ∷ xs) q.number q.column b (omega arith)
    (λ f e. record { line = ap (λ g. g.line) e; why = inl (subst (λ g. FirstFault (x ∷ xs) g.number g.place) (sym e) q.first) }))
    (decide (x ∷ xs))

pub stated_or_faulty : StatedOrFaulty
stated_or_faulty text = walk (length text) text [] text (omega arith) (record { is = refl; turn = tt })
