-- Two readings of one text: they agree as far as both go.
use Rattle.std.proofs.Common.{◌≡◌, ℕ, ◌⊎◌, List, [], ◌∷◌, ◌++◌, length, None, sym, refl, ap, ◌∙◌, subst, inl, inr, ⊎_elim, append_assoc, arith, length-append}
use Rattle.std.specs.List.{flat_map}
use Rattle.std.proofs.lemmas.List.{append-nil}
use Rattle.textspec.specs.declared.due.Due.{Due}
use Rattle.textspec.specs.Hex.{hex, line_of, FirstFault, LineIs, Sized}
use Rattle.textspec.specs.Refusals.{Refusal, refusal}
use Rattle.textspec.specs.Order.{due_after}
use Rattle.textspec.specs.Texts.{InTurn, IsFrameFault}
use Rattle.textspec.proofs.Once.{one_fault, not_both, one_line}

-- after the frames, the text goes on with an accepted line
pub record Next (frames : List (List ℕ)) (text : List ℕ) : Type 0 where
  pub bytes : List ℕ
  pub rest : List ℕ
  pub line : LineIs text rest bytes
  pub none : refusal (due_after frames) bytes ≡ None

pub none_here : (r b : List ℕ) → LineIs [] r b → ⊥
none_here r b h = let e : ◌≡◌ {A = ℕ} 0 (length (hex b ++ 10 ∷ r)) = ap length h.is in omega (arith, length-append (hex b) (10 ∷ r))

first_line : (xs rest b : List ℕ) → Sized b → xs ≡ line_of b ++ rest → LineIs xs rest b
first_line xs rest b s e = record { is = e ∙ append_assoc (hex b) (10 ∷ []) rest; sized = s }

-- either both readings are the same, or one goes on where the other stops
pub walk : (pre fs gs : List (List ℕ)) (xs y z : List ℕ)
    → xs ≡ flat_map line_of fs ++ y → InTurn pre fs → xs ≡ flat_map line_of gs ++ z → InTurn pre gs
    → ((fs ≡ gs) × (y ≡ z)) ⊎ (Next (pre ++ fs) y ⊎ Next (pre ++ gs) z)
walk pre [] [] xs y z m n m' n' = inl (refl, sym m ∙ m')
walk pre [] (g ∷ gs) xs y z m n m' n' =
    let h = first_line y (flat_map line_of gs ++ z) g n'.0 (sym m ∙ m' ∙ append_assoc (line_of g) (flat_map line_of gs) z) in
    inr (inl (subst (λ fs. Next fs y) (sym (append-nil pre)) (record { bytes = g; rest = flat_map line_of gs ++ z; line = h; none = n'.1 })))
walk pre (k ∷ fs) [] xs y z m n m' n' =
    let h = first_line z (flat_map line_of fs ++ y) k n.0 (sym m' ∙ m ∙ append_assoc (line_of k) (flat_map line_of fs) y) in
    inr (inr (subst (λ fs. Next fs z) (sym (append-nil pre)) (record { bytes = k; rest = flat_map line_of fs ++ y; line = h; none = n.1 })))
walk pre (k ∷ fs) (g ∷ gs) xs y z m n m' n' =
    let u = first_line xs (flat_map line_of fs ++ y) k n.0 (m ∙ append_assoc (line_of k) (flat_map line_of fs) y) in
    let v = first_line xs (flat_map line_of gs ++ z) g n'.0 (m' ∙ append_assoc (line_of g) (flat_map line_of gs) z) in
    let o = one_line xs (flat_map line_of fs ++ y) k (flat_map line_of gs ++ z) g u v in
    let q = o.1 in
    let here : pre ++ k ∷ gs ≡ pre ++ g ∷ gs = ap (λ b. pre ++ b ∷ gs) q in
    let again = walk (pre ++ k ∷ []) fs gs (flat_map line_of fs ++ y) y z refl n.2 o.0 (subst (λ b. InTurn (pre ++ b ∷ []) gs) (sym q) n'.2) in
    ⊎_elim
    (λ s. let e = s.0 in inl (cc, s.1))
    (λ t. inr (⊎_elim
    (λ a. inl (subst (λ l. Next l y) (append_assoc pre (k ∷ []) fs) a))
    (λ a. inr (subst (λ l. Next l z) (append_assoc pre (k ∷ []) gs ∙ here) a)) t))
    again

-- one refusal of a line
frames_once : (d : Due) (xs : List ℕ) (n p m q : ℕ) → IsFrameFault d xs n p → IsFrameFault d xs m q → (n ≡ m) × (p ≡ q)
frames_once d xs n p m q g h =
    let e = (one_line xs g.rest g.bytes h.rest h.bytes g.line h.line).1 in
    let a = g.why in let b = h.why in
    let c : refusal d g.bytes ≡ refusal d h.bytes = ap (refusal d) e in
    let s : ◌≡◌ {A = Refusal} (record { number = n; place = p }) (record { number = m; place = q }) = cc in
    (ap (λ x. x.number) s, ap (λ x. x.place) s)

abbrev pub Why : Due → List ℕ → ℕ → ℕ → Type 0
Why d xs n p = FirstFault xs n p ⊎ IsFrameFault d xs n p

pub why_once : (d : Due) (xs : List ℕ) (n p m q : ℕ) → Why d xs n p → Why d xs m q → (n ≡ m) × (p ≡ q)
why_once d xs n p m q (inl g) (inl h) = one_fault xs n p m q g h
why_once d xs n p m q (inl g) (inr h) = absurd (not_both xs h.rest h.bytes n p g h.line)
why_once d xs n p m q (inr g) (inl h) = absurd (not_both xs g.rest g.bytes m q h g.line)
why_once d xs n p m q (inr g) (inr h) = frames_once d xs n p m q g h

-- an accepted line has no fault
pub why_not : (frames : List (List ℕ)) (xs : List ℕ) (n p : ℕ) → Why (due_after frames) xs n p → Next frames xs → ⊥
why_not frames xs n p (inl g) t = not_both xs t.rest t.bytes n p g t.line
why_not frames xs n p (inr g) t =
    let q = (one_line xs g.rest g.bytes t.rest t.bytes g.line t.line).1 in
    let d = due_after frames in
    let a = g.why in let b = t.none in
    let c : refusal d g.bytes ≡ refusal d t.bytes = ap (refusal d) q in
    let z : ◌≡◌ {A = ℕ} 0 1 = cc in omega arith
