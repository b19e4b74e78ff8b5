-- Bytes read as calls, one call after another. Assumes nothing.
--
--   Read         the bytes are those of some calls and then of a rest, and whatever calls they are of, the rest is of some
--   read_none    at the beginning
--   less         a call has some bytes
--   read_more    one call further
--   read_all     at the end
--   read_stuck   at bytes that begin with those of no call
use Rattle.std.proofs.Common.{◌≡◌, ℕ, ◌<◌, List, [], ◌∷◌, ◌++◌, length, sym, refl, ap, ◌∙◌, subst, arith}
use Rattle.std.specs.List.{flat_map, AllByRecursion}
use Rattle.std.proofs.lemmas.List.{append-nil, append_assoc, flat_map_more}
use Rattle.std.proofs.ByRecursion.{All-append}
use Rattle.model.specs.Runs.{Call}
use Rattle.model.specs.Runs.Call.{enter, strike, settle, figure, goal}
use Rattle.wire.specs.Calls.{call_bytes, Small, Writes, Begins, Unreadable}

pub record Read (bytes : List ℕ) (done : List Call) (rest : List ℕ) : Type 0 where
  pub small : AllByRecursion Small done
  pub is : bytes ≡ flat_map call_bytes done ++ rest
  pub back : (cs : List Call) → Writes bytes cs → (ds : List Call) × Writes rest ds

pub read_none : (bytes : List ℕ) → Read bytes [] bytes
read_none bytes = record { small = tt; is = refl; back = λ cs w. (cs, w) }

-- the first byte tells how many bytes a call has
same_rest : (c d : Call) (x y : List ℕ) → call_bytes c ++ x ≡ call_bytes d ++ y → x ≡ y
same_rest (enter f) (enter g) x y e = cc
same_rest (enter f) (strike g) x y e = cc
same_rest (enter f) (settle n) x y e = cc
same_rest (enter f) (figure i) x y e = cc
same_rest (enter f) goal x y e = cc
same_rest (strike f) (enter g) x y e = cc
same_rest (strike f) (strike g) x y e = cc
same_rest (strike f) (settle n) x y e = cc
same_rest (strike f) (figure i) x y e = cc
same_rest (strike f) goal x y e = cc
same_rest (settle f) (enter g) x y e = cc
same_rest (settle f) (strike g) x y e = cc
same_rest (settle f) (settle n) x y e = cc
same_rest (settle f) (figure i) x y e = cc
same_rest (settle f) goal x y e = cc
same_rest (figure f) (enter g) x y e = cc
same_rest (figure f) (strike g) x y e = cc
same_rest (figure f) (settle n) x y e = cc
same_rest (figure f) (figure i) x y e = cc
same_rest (figure f) goal x y e = cc
same_rest goal (enter g) x y e = cc
same_rest goal (strike g) x y e = cc
same_rest goal (settle n) x y e = cc
same_rest goal (figure i) x y e = cc
same_rest goal goal x y e = cc

-- a call has some bytes
shorter : (c : Call) (rest : List ℕ) → length rest < length (call_bytes c ++ rest)
shorter (enter f) rest = omega arith
shorter (strike f) rest = omega arith
shorter (settle n) rest = omega arith
shorter (figure i) rest = omega arith
shorter goal rest = omega arith

pub less : (bytes : List ℕ) (c : Call) (rest : List ℕ) → Begins bytes c rest → length rest < length bytes
less bytes c rest b = subst (λ t. length rest < length t) (sym b.is) (shorter c rest)

-- calls that a nonempty rest is of begin with one call, and the others are those of what follows it
others : (rest : List ℕ) (c : Call) (behind : List ℕ) → Begins rest c behind → (ds : List Call) → Writes rest ds → (es : List Call) × Writes behind es
others rest c behind b [] w = absurd (omega (arith, less rest c behind b, ap length w.is))
others rest c behind b (d ∷ ds) w = (ds, record { small = w.small.1; is = same_rest c d behind (flat_map call_bytes ds) (sym b.is ∙ w.is) })

pub read_more : (bytes : List ℕ) (done : List Call) (rest : List ℕ) (c : Call) (behind : List ℕ) → Read bytes done rest → Begins rest c behind → Read bytes (done ++ c ∷ []) behind
read_more bytes done rest c behind r b = record {
  small = All-append Small done (c ∷ []) r.small (b.small, tt);
  is = r.is ∙ ap (λ t. flat_map call_bytes done ++ t) b.is ∙ sym (append_assoc (flat_map call_bytes done) (call_bytes c) behind) ∙ ap (λ t. t ++ behind) (flat_map_more call_bytes [] done c);
  back = λ cs w. let h = r.back cs w in others rest c behind b h.0 h.1;
}

pub read_all : (bytes : List ℕ) (done : List Call) (rest : List ℕ) → rest ≡ [] → Read bytes done rest → Writes bytes done
read_all bytes done rest e r = record { small = r.small; is = r.is ∙ ap (λ t. flat_map call_bytes done ++ t) e ∙ append-nil (flat_map call_bytes done) }

stuck : (rest : List ℕ) → 0 < length rest → Unreadable rest → (ds : List Call) → Writes rest ds → ⊥
stuck rest l u [] w = omega (arith, l, ap length w.is)
stuck rest l u (d ∷ ds) w = u d (flat_map call_bytes ds) w.small.0 w.is

pub read_stuck : (bytes : List ℕ) (done : List Call) (rest : List ℕ) → 0 < length rest → Unreadable rest → Read bytes done rest → (cs : List Call) → Writes bytes cs → ⊥
read_stuck bytes done rest l u r cs w = let h = r.back cs w in stuck rest l u h.0 h.1
