-- States' words, place by place. Assumes nothing.
use Rattle.std.proofs.Common.{◌≡◌, ℕ, ◌+◌, ◌-◌, ◌*◌, ◌/◌, ◌%◌, ◌^◌, ◌<◌, ◌≤◌, Bool, true, false, not, ◌&&◌, ◌||◌, eqb, ◌≢◌, List, length, get_or, set, sym, refl, ap, ◌∙◌, ⊎_elim, arith, get_or-set_other, get_or-set_same, zero, suc, [], ◌∷◌, Decides, Option, Some, None, MatchOption}
use mathlib.Core.Path.{fun_ext}
use Rattle.std.proofs.Math.Bool.{or_comm, and_comm}
use native.Mathlib.Decide.{ℕ_discrete}
use Rattle.std.specs.List.{list_all, zip}
use Rattle.strips.specs.Members.{Covers, FirstFrom}
use lib.Bits.{bit_or, bit_and, and_le_r}
use Rattle.std.proofs.lemmas.List.{get_or_past}
use Rattle.std.proofs.lemmas.Bool.{eq-eqb, eqb-true, ne_eqb, and_parts, cases_lt, false≢true}
use Rattle.model.specs.Strips.{State as Facts, entered, struck, changed}
use Rattle.strips.specs.Standing.{bit}
use Rattle.strips.proofs.Places.{or_bit, and_bit, not_bit, one_bit, no_bit, bits_same}

-- which facts stand, by the words alone
abbrev pub inside : List ℕ → Facts
inside ws f = bit (get_or ws (f / 64) 0) (f % 64)

-- a fact is the bit that is set or cleared
same_place : (f g : ℕ) → f / 64 ≡ g / 64 → eqb (f % 64) (g % 64) ≡ eqb f g
same_place f g e =
    elim (ℕ_discrete f g) [
      | yes p ↦ eq-eqb (f % 64) (g % 64) (ap (λ n. n % 64) p) ∙ sym (eq-eqb f g p)
      | no n ↦ ne_eqb (f % 64) (g % 64) (λ q. n (omega arith)) ∙ sym (ne_eqb f g n)
    ]

other_place : (f g : ℕ) → f / 64 ≢ g / 64 → eqb f g ≡ false
other_place f g n = ne_eqb f g (λ e. n (ap (λ x. x / 64) e))

-- a word is replaced whose bits are as P says
pub put_word : (ws : List ℕ) (f v : ℕ) (P : Bool → Bool → Bool) → f / 64 < length ws → ((b : Bool) → P false b ≡ b) → ((k : ℕ) → k < 64 → bit v k ≡ P (eqb (f % 64) k) (bit (get_or ws (f / 64) 0) k)) → inside (set ws (f / 64) v) ≡ (λ g. P (eqb f g) (inside ws g))
put_word ws f v P lt none h =
    fun_ext (λ g. elim (ℕ_discrete (f / 64) (g / 64)) [
      | yes e ↦
          ap (λ i. bit (get_or (set ws (f / 64) v) i 0) (g % 64)) (sym e)
          ∙ ap (λ n. bit n (g % 64)) (get_or-set_same ws (f / 64) v 0 lt)
          ∙ h (g % 64) (omega arith)
          ∙ ap (λ b. P b (bit (get_or ws (f / 64) 0) (g % 64))) (same_place f g e)
          ∙ ap (λ i. P (eqb f g) (bit (get_or ws i 0) (g % 64))) e
      | no n ↦
          ap (λ x. bit x (g % 64)) (get_or-set_other ws (f / 64) (g / 64) v 0 (λ e. n (sym e)))
          ∙ sym (none (inside ws g))
          ∙ ap (λ b. P b (inside ws g)) (sym (other_place f g n))
    ])

module _ (ws : List ℕ) (f : ℕ) (lt : f / 64 < length ws) where
  -- the fact's bit is set
  pub insert_word : (v : ℕ) → v ≡ 2 ^ (f % 64) → inside (set ws (f / 64) (bit_or (get_or ws (f / 64) 0) v)) ≡ entered f (inside ws)
  insert_word v e =
      let w = get_or ws (f / 64) 0 in
      put_word ws f (bit_or w v) ◌||◌ lt (λ b. refl) (λ k l.
      or_bit w v k ∙ or_comm (bit w k) (bit v k) ∙ ap (λ n. bit n k || bit w k) e ∙ ap (λ b. b || bit w k) (one_bit (f % 64) k))

  -- the fact's bit is cleared
  pub remove_word : (v : ℕ) → v ≡ 2 ^ (f % 64) → v < 2 ^ 64 → inside (set ws (f / 64) (bit_and (get_or ws (f / 64) 0) (2 ^ 64 - 1 - v))) ≡ struck f (inside ws)
  remove_word v e small =
      let w = get_or ws (f / 64) 0 in
      put_word ws f (bit_and w (2 ^ 64 - 1 - v)) (λ a b. not a && b) lt (λ b. refl) (λ k l.
      and_bit w (2 ^ 64 - 1 - v) k ∙ ap (λ b. bit w k && b) (not_bit 64 v k l small) ∙ and_comm (bit w k) (not (bit v k))
      ∙ ap (λ n. not (bit n k) && bit w k) e ∙ ap (λ b. not b && bit w k) (one_bit (f % 64) k))

-- one word of a change
pub change_word : (s d a j : ℕ) → d < 2 ^ 64 → j < 64 → bit (bit_or (bit_and s (2 ^ 64 - 1 - d)) a) j ≡ ((bit s j && not (bit d j)) || bit a j)
change_word s d a j small lt =
    or_bit (bit_and s (2 ^ 64 - 1 - d)) a j
    ∙ ap (λ b. b || bit a j) (and_bit s (2 ^ 64 - 1 - d) j ∙ ap (λ b. bit s j && b) (not_bit 64 d j lt small))

pub past_word : (ws : List ℕ) (f : ℕ) → length ws ≡ 4 → 4 ≤ f / 64 → inside ws f ≡ false
past_word ws f e h = ap (λ n. bit n (f % 64)) (get_or_past ws (f / 64) 0 (omega arith)) ∙ no_bit (f % 64)

pub change_words : (us ws ds bs : List ℕ) → length us ≡ 4 → length ws ≡ 4 → length ds ≡ 4 → length bs ≡ 4
    → ((k : ℕ) → k < 4 → (j : ℕ) → j < 64 → bit (get_or us k 0) j ≡ ((bit (get_or ws k 0) j && not (bit (get_or ds k 0) j)) || bit (get_or bs k 0) j))
    → inside us ≡ changed (inside ds) (inside bs) (inside ws)
change_words us ws ds bs eu ew ed eb h =
    fun_ext (λ f. ⊎_elim
    (λ lt. h (f / 64) lt (f % 64) (omega arith))
    (λ le. past_word us f eu le ∙ sym (ap (λ b. (b && not (inside ds f)) || inside bs f) (past_word ws f ew le) ∙ past_word bs f eb le))
    (cases_lt (f / 64) 4))

-- a word that has the bits of another
pub word_covers : (w m j : ℕ) → bit_and w m ≡ m → bit m j ≡ true → bit w j ≡ true
word_covers w m j e h = left (bit w j) (bit m j) (sym (and_bit w m j) ∙ ap (λ n. bit n j) e ∙ h)
  where
    left : (a b : Bool) → (a && b) ≡ true → a ≡ true
    left true b h = refl
    left false b h = h

pub covers_word : (w m : ℕ) → m < 2 ^ 64 → ((j : ℕ) → j < 64 → bit m j ≡ true → bit w j ≡ true) → bit_and w m ≡ m
covers_word w m small h =
    bits_same 64 (bit_and w m) m (omega (arith, and_le_r w m)) small (λ j l. and_bit w m j ∙ onto (bit w j) (bit m j) (h j l))
  where
    onto : (a b : Bool) → (b ≡ true → a ≡ true) → (a && b) ≡ b
    onto true b h = refl
    onto false true h = h refl
    onto false false h = refl

-- what stands at a place of a word
pub inside_at : (ws : List ℕ) (k j : ℕ) → j < 64 → inside ws (64 * k + j) ≡ bit (get_or ws k 0) j
inside_at ws k j lt =
    let p : (64 * k + j) / 64 ≡ k = omega arith in
    let q : (64 * k + j) % 64 ≡ j = omega arith in
    ap (λ n. bit (get_or ws n 0) ((64 * k + j) % 64)) p ∙ ap (bit (get_or ws k 0)) q

pub word_same : (ws vs : List ℕ) (i : ℕ) → get_or ws i 0 < 2 ^ 64 → get_or vs i 0 < 2 ^ 64 → inside ws ≡ inside vs → get_or ws i 0 ≡ get_or vs i 0
word_same ws vs i h l e = bits_same 64 (get_or ws i 0) (get_or vs i 0) h l (λ j lt. sym (inside_at ws i j lt) ∙ ap (λ s. s (64 * i + j)) e ∙ inside_at vs i j lt)

-- each word covers the other's
pub words_cover : (ws ms : List ℕ) → length ms ≡ 4 → ((k : ℕ) → k < 4 → (j : ℕ) → j < 64 → bit (get_or ms k 0) j ≡ true → bit (get_or ws k 0) j ≡ true) → (f : ℕ) → inside ms f ≡ true → inside ws f ≡ true
words_cover ws ms e h f t =
    ⊎_elim
    (λ lt. h (f / 64) lt (f % 64) (omega arith) t)
    (λ le. absurd (false≢true (sym (past_word ms f e le) ∙ t)))
    (cases_lt (f / 64) 4)

-- whether the second word's bits are all in the first
abbrev pub covered : ℕ × ℕ → Bool
covered p = eqb (bit_and p.0 p.1) p.1

-- so it is of each word
zip_covered : (ws ms : List ℕ) → length ws ≡ length ms → list_all covered (zip ws ms) ≡ true → (k : ℕ) → k < length ms → bit_and (get_or ws k 0) (get_or ms k 0) ≡ get_or ms k 0
zip_covered [] [] e h k lt = absurd (omega arith)
zip_covered [] (m ∷ ms) e h k lt = absurd (omega arith)
zip_covered (w ∷ ws) [] e h k lt = absurd (omega arith)
zip_covered (w ∷ ws) (m ∷ ms) e h zero lt = eqb-true _ _ (and_parts (covered (w, m)) _ h).0
zip_covered (w ∷ ws) (m ∷ ms) e h (suc k) lt = zip_covered ws ms (omega arith) (and_parts (covered (w, m)) _ h).1 k (omega arith)

covered_zip : (ws ms : List ℕ) → ((k : ℕ) → k < length ms → bit_and (get_or ws k 0) (get_or ms k 0) ≡ get_or ms k 0) → list_all covered (zip ws ms) ≡ true
covered_zip [] ms h = refl
covered_zip (w ∷ ws) [] h = refl
covered_zip (w ∷ ws) (m ∷ ms) h = ap (λ b. b && list_all covered (zip ws ms)) (eq-eqb _ _ (h 0 (omega arith))) ∙ covered_zip ws ms (λ k lt. h (suc k) (omega arith))

-- states cover one another word by word
pub zip_covers : (ws ms : List ℕ) (r : Bool) → length ws ≡ 4 → length ms ≡ 4 → ((k : ℕ) → get_or ms k 0 < 2 ^ 64) → r ≡ list_all covered (zip ws ms) → Decides r (Covers (inside ws) (inside ms))
zip_covers ws ms r ew em small e = (
  (λ t. words_cover ws ms em (λ k lt j l. word_covers (get_or ws k 0) (get_or ms k 0) j (zip_covered ws ms (omega arith) (sym e ∙ t) k (omega arith)))),
  (λ h. e ∙ covered_zip ws ms (λ k lt. covers_word _ _ (small k) (λ j l t. sym (inside_at ws k j l) ∙ h (64 * k + j) (inside_at ms k j l ∙ t)))),
)

-- no fact stands past the words
pub first_standing : (ws : List ℕ) (n : ℕ) (o : Option ℕ) → length ws ≡ 4
    → MatchOption o ((k : ℕ) → n ≤ k → k < 256 → inside ws k ≡ false) (λ f. (n ≤ f) × (inside ws f ≡ true) × ((k : ℕ) → n ≤ k → k < f → inside ws k ≡ false)) → FirstFrom (inside ws) n o
first_standing ws n (Some f) e h = h
first_standing ws n None e h = λ k le. ⊎_elim (λ lt. h k le lt) (λ past. past_word ws k e (omega arith)) (cases_lt k 256)

-- words stay small where one is replaced by a small one
pub small_set : (ws : List ℕ) (k v : ℕ) → ((i : ℕ) → get_or ws i 0 < 2 ^ 64) → v < 2 ^ 64 → (i : ℕ) → get_or (set ws k v) i 0 < 2 ^ 64
small_set [] k v h lt i = h i
small_set (w ∷ ws) zero v h lt zero = lt
small_set (w ∷ ws) zero v h lt (suc i) = h (suc i)
small_set (w ∷ ws) (suc k) v h lt zero = h 0
small_set (w ∷ ws) (suc k) v h lt (suc i) = small_set ws k v (λ j. h (suc j)) lt i
