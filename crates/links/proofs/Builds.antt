-- The lists that the indexes are built of. Assumes nothing.
use Rattle.std.proofs.Common.{◌≡◌, ℕ, ◌+◌, ◌<◌, Bool, cond, ◌||◌, List, [], ◌∷◌, ◌++◌, map, length, get_or, drop, Ok, Err, vec_items, Result, Vec, IfOk, sym, refl, ap, ◌∙◌, arith, below_more}
use Rattle.std.specs.declared.alloc.Global.{Global}
use Rattle.std.specs.Prelude.{◌==◌}
use Rattle.std.specs.declared.alloc.AllocError.{AllocError}
use Rattle.std.specs.List.{list_any}
use Rattle.std.proofs.lemmas.List.{get_or-map, get_or_push, get_or_append_left, length_push, map_push, at_drop_more}
use Rattle.model.specs.Strips.{Problem, Action, names, no_action}
use Rattle.model.specs.Figures.{adding, adders}
use Rattle.strips.specs.declared.action.Action.{Action as ActionValue}
use Rattle.strips.specs.Actions.{action_of}
use Rattle.session_theory.specs.Readers.{needing_items}
use Rattle.links.specs.Indexes.{lists, Indexes, picked, Picks}

pub picked_more : (test : Action → Bool) (facts k : ℕ) (acts : List Action) (b : Bool) → k < length acts → test (get_or acts k no_action) ≡ b → picked test (facts + k) (drop k acts) ≡ cond b ((facts + k) ∷ picked test (facts + (k + 1)) (drop (k + 1) acts)) (picked test (facts + (k + 1)) (drop (k + 1) acts))
picked_more test facts k acts b h m =
    let j : facts + k + 1 ≡ facts + (k + 1) = omega arith in
    at_drop_more (picked test (facts + k)) acts k no_action h
    ∙ ap (λ c. cond c ((facts + k) ∷ picked test (facts + k + 1) (drop (k + 1) acts)) (picked test (facts + k + 1) (drop (k + 1) acts))) m
    ∙ ap (λ i. cond b ((facts + k) ∷ picked test i (drop (k + 1) acts)) (picked test i (drop (k + 1) acts))) j

pub adding_picked : (f j : ℕ) (acts : List Action) → picked (λ a. names a.add f) j acts ≡ adding f j acts
adding_picked f j [] = refl
adding_picked f j (a ∷ acts) = ap (λ l. cond (names a.add f) (j ∷ l) l) (adding_picked f (j + 1) acts)

pub needing_picked : (f j : ℕ) (acts : List Action) → picked (λ a. names a.pre f) j acts ≡ needing_items f j acts
needing_picked f j [] = refl
needing_picked f j (a ∷ acts) = ap (λ l. cond (names a.pre f) (j ∷ l) l) (needing_picked f (j + 1) acts)

-- the closure tests whether an action adds the fact, or needs it
pub adders_picked : {answers : ActionValue → Bool → Type 0} (p : Problem) (f : ℕ) (r : Result (Vec ℕ Global) AllocError) → ((act : ActionValue) (b : Bool) → answers act b → b ≡ names (action_of act).add f) → IfOk r (λ v. Picks answers p (vec_items v)) → IfOk r (λ v. vec_items v ≡ adders p f)
adders_picked p f (Ok v) told h = h (λ a. names a.add f) told ∙ adding_picked f p.facts p.actions
adders_picked p f (Err e) told h = tt

pub needers_picked : {answers : ActionValue → Bool → Type 0} (p : Problem) (f : ℕ) (r : Result (Vec ℕ Global) AllocError) → ((act : ActionValue) (b : Bool) → answers act b → b ≡ names (action_of act).pre f) → IfOk r (λ v. Picks answers p (vec_items v)) → IfOk r (λ v. vec_items v ≡ needing_items f p.facts p.actions)
needers_picked p f (Ok v) told h = h (λ a. names a.pre f) told ∙ needing_picked f p.facts p.actions
needers_picked p f (Err e) told h = tt

pub names_any : (l : List ℕ) (f : ℕ) → list_any (λ x. x == f) l ≡ names l f
names_any [] f = refl
names_any (x ∷ l) f = ap (λ b. x == f || b) (names_any l f)

pub lists_at : (v : Vec (Vec ℕ Global) Global) (r : ℕ) (x : Vec ℕ Global) → r < length (vec_items v) → x ≡ get_or (vec_items v) r x → vec_items x ≡ get_or (lists v) r []
lists_at v r x h e = sym (get_or-map vec_items (vec_items v) r x [] h ∙ ap vec_items (sym e))

-- one more list at the end
pub indexes_push : (n : ℕ) (f : ℕ → List ℕ) (v w : Vec (Vec ℕ Global) Global) (x : Vec ℕ Global) → Indexes n f (lists v) → vec_items w ≡ vec_items v ++ (x ∷ []) → vec_items x ≡ f n → Indexes (n + 1) f (lists w)
indexes_push n f v w x old e here =
    let l = lists v in
    let y = vec_items x in
    let m : lists w ≡ l ++ (y ∷ []) = ap (map vec_items) e ∙ map_push vec_items (vec_items v) x in
    record {
      long = ap length m ∙ length_push l y ∙ ap (λ i. i + 1) old.long;
      each = below_more (λ q. get_or (lists w) q [] ≡ f q) n
          (λ q h. ap (λ z. get_or z q []) m ∙ get_or_append_left l (y ∷ []) [] q (omega (arith, h, old.long)) ∙ old.each q h)
          (ap (λ z. get_or z n []) m ∙ get_or_push l y [] n old.long ∙ here);
    }
