-- The theorems about texts.
use Rattle.std.proofs.Common.{◌≡◌, ℕ, ◌+◌, List, [], length, sym, refl, ap, ◌∙◌, subst, inl, inr, ⊎_elim, arith}
use Rattle.std.proofs.lemmas.List.{append-nil}
use Rattle.model.specs.Strips.{Problem}
use Rattle.textspec.specs.Frames.{frames_of, text_of}
use Rattle.textspec.specs.Order.{due_after}
use Rattle.textspec.specs.Texts.{States, Fault, Begins, IsLineFault, OneProblem, OneFault, NotBoth, EachAccepted}
use Rattle.textspec.proofs.Walk.{Next, none_here, walk, why_once, why_not}
use Rattle.textspec.proofs.Complete.{frames_turn, frames_due}
use Rattle.textspec.proofs.Same.{problem_same}

ends : (frames : List (List ℕ)) → Next frames [] → ⊥
ends frames t = none_here t.rest t.bytes t.line

stops : (frames : List (List ℕ)) (rest : List ℕ) (f : Fault) → IsLineFault frames rest f → Next frames rest → ⊥
stops frames rest f h t = why_not frames rest f.number f.place h.why t

-- the lines of a problem's text, accepted in turn
pub begins : (text : List ℕ) (p : Problem) → States text p → Begins text (frames_of p) []
begins text p s = record { is = s.is ∙ sym (append-nil (text_of p)); turn = frames_turn p s.lawful }

-- two readings that both stop are the same
both : (text : List ℕ) (fs gs : List (List ℕ)) (y z : List ℕ) → Begins text fs y → Begins text gs z → (Next fs y → ⊥) → (Next gs z → ⊥) → (fs ≡ gs) × (y ≡ z)
both text fs gs y z a b f g =
    ⊎_elim (λ s. s) (λ t. absurd (⊎_elim f g t)) (walk [] fs gs text y z a.is a.turn b.is b.turn)

pub one_problem : OneProblem
one_problem text p q s t =
    problem_same p q (both text (frames_of p) (frames_of q) [] [] (begins text p s) (begins text q t) (ends (frames_of p)) (ends (frames_of q))).0

pub not_both : NotBoth
not_both text p f s (inl h) =
    let e = (both text (frames_of p) h.frames [] h.rest (begins text p s) h.begins (ends (frames_of p)) (stops h.frames h.rest f h.fault)).1 in
    let l : ◌≡◌ {A = ℕ} 0 (length h.rest) = ap length e in omega (arith, h.more)
not_both text p f s (inr h) =
    let e = (both text (frames_of p) h.frames [] [] (begins text p s) h.begins (ends (frames_of p)) (ends h.frames)).0 in
    h.unended (ap due_after (sym e) ∙ frames_due p)

line_once : (frames : List (List ℕ)) (rest : List ℕ) (f g : Fault) → IsLineFault frames rest f → IsLineFault frames rest g → f ≡ g
line_once frames rest f g a b =
    let o = why_once (due_after frames) rest f.number f.place g.number g.place a.why b.why in
    let x = o.0 in let y = o.1 in let l = a.line in let m = b.line in
    let same : ◌≡◌ {A = Fault} (record { number = f.number; line = f.line; place = f.place }) (record { number = g.number; line = g.line; place = g.place }) = cc in
    same

pub one_fault : OneFault
one_fault text f g (inl a) (inl b) =
    let o = both text a.frames b.frames a.rest b.rest a.begins b.begins (stops a.frames a.rest f a.fault) (stops b.frames b.rest g b.fault) in
    line_once b.frames b.rest f g
    (subst (λ fs. IsLineFault fs b.rest f) o.0 (subst (λ r. IsLineFault a.frames r f) o.1 a.fault)) b.fault
one_fault text f g (inl a) (inr b) =
    let o = both text a.frames b.frames a.rest [] a.begins b.begins (stops a.frames a.rest f a.fault) (ends b.frames) in
    let l : ◌≡◌ {A = ℕ} (length a.rest) 0 = ap length o.1 in absurd (omega (arith, a.more))
one_fault text f g (inr a) (inl b) =
    let o = both text a.frames b.frames [] b.rest a.begins b.begins (ends a.frames) (stops b.frames b.rest g b.fault) in
    let l : ◌≡◌ {A = ℕ} 0 (length b.rest) = ap length o.1 in absurd (omega (arith, b.more))
one_fault text f g (inr a) (inr b) =
    let o = both text a.frames b.frames [] [] a.begins b.begins (ends a.frames) (ends b.frames) in
    a.fault ∙ ap (λ fs. record { number = 7; line = length fs + 1; place = 1 }) o.0 ∙ sym b.fault

pub each_accepted : EachAccepted
each_accepted p h = let s : States (text_of p) p = record { lawful = h; is = refl } in (s, λ f. not_both (text_of p) p f s)
