-- No plan is shorter than the max rule's goal figure. Assumes nothing.
--
-- Along a plan a bound m on the figures of the standing facts rises by at most 2 a step, and each rise
-- brings at least one more fact to at most m. So m never passes twice the facts, and the ceiling is never met.
use Rattle.std.proofs.Common.{◌≡◌, ℕ, zero, suc, ◌+◌, ◌-◌, ◌*◌, ◌/◌, ◌<◌, ◌≤◌, true, cond, ltb, leb, ◌⊎◌, List, [], ◌∷◌, map, length, get_or, sym, ap, ◌∙◌, inl, inr, ⊎_elim, arith}
use Rattle.std.specs.List.{AllByRecursion}
use Rattle.std.proofs.lemmas.Bool.{cases_lt, cases_eq, cases_Bool, cond-true, cond-false, lt-ltb, le-leb, lt-leb, and_parts, or_cases, true≢false}
use Rattle.figure.specs.Ranks.{top, cut}
use Rattle.model.specs.Strips.{Problem, Action, State, Stands, Lawful, names, action, no_action, May, step, Goal, Path, after, Plan}
use Rattle.model.specs.Figures.{max_rule, Table, least, adding, side, equations, Solves, goal_figure}
use Rattle.model.specs.Heuristics.{AtMost, Admissible}
use Rattle.model.proofs.Causal.{total, falls}
use Rattle.model.proofs.Equations.{node_standing, node_added, node_action}
use Rattle.model.proofs.Parities.{pre_known}

-- ---- figures of lists
module _ (x : Table) (m : ℕ) where
  max_le : (l : List ℕ) → AllByRecursion (λ f. x f ≤ m) l → max_rule (map x l) ≤ m
  max_le [] e = omega arith
  max_le (f ∷ l) e = omega (arith, e.0, max_le l e.1)

  -- either all facts below n that the list names are at most m, or one of them is not
  sorted : (l : List ℕ) (n : ℕ) → ((f : ℕ) → f < n → names l f ≡ true → x f ≤ m) ⊎ ((f : ℕ) × (f < n) × (names l f ≡ true) × (m < x f))
  sorted l zero = inl (λ f h. absurd (omega arith))
  sorted l (suc n) =
      ⊎_elim
      (λ all. ⊎_elim
      (λ over. ⊎_elim
      (λ on. inr (n, omega arith, on, over))
      (λ off. inl (λ f h on. ⊎_elim (λ i. absurd (true≢false (sym on ∙ ap (names l) i ∙ off))) (λ o. all f (omega arith) on) (cases_eq f n)))
      (cases_Bool (names l n)))
      (λ under. inl (λ f h on. ⊎_elim (λ i. omega (arith, ap x i)) (λ o. all f (omega arith) on) (cases_eq f n)))
      (cases_lt m (x n)))
      (λ (f, h, on, over). inr (f, omega arith, on, over))
      (sorted l n)

-- an action that adds f is one of those that `least` goes through
least_le : (x : Table) (f j : ℕ) (acts : List Action) (i : ℕ) → i < length acts → names (get_or acts i no_action).add f ≡ true → least x (adding f j acts) ≤ x (j + i)
least_le x f j [] i l e = absurd (omega arith)
least_le x f j (a ∷ acts) zero l e =
    let c = ap (least x) (cond-true (names a.add f) (j ∷ adding f (j + 1) acts) (adding f (j + 1) acts) e) in
    let k : j + 0 ≡ j = omega arith in
    omega (arith, c, ap x k)
least_le x f j (a ∷ acts) (suc i) l e =
    let ih = least_le x f (j + 1) acts i (omega arith) e in
    let k : (j + 1) + i ≡ j + suc i = omega arith in
    let u = ap x k in
    ⊎_elim
    (λ b. let c = ap (least x) (cond-true (names a.add f) (j ∷ adding f (j + 1) acts) (adding f (j + 1) acts) b) in omega (arith, c, u, ih))
    (λ b. let c = ap (least x) (cond-false (names a.add f) (j ∷ adding f (j + 1) acts) (adding f (j + 1) acts) b) in omega (arith, c, u, ih))
    (cases_Bool (names a.add f))

-- ---- how many facts have a figure of at most m
hit : Table → ℕ → Table
hit x m f = cond (leb (x f) m) 1 0

hit_yes : (x : Table) (m f : ℕ) → x f ≤ m → hit x m f ≡ 1
unfolding hit
hit_yes x m f h = cond-true _ _ _ (le-leb (x f) m h)

hit_no : (x : Table) (m f : ℕ) → m < x f → hit x m f ≡ 0
unfolding hit
hit_no x m f h = cond-false _ _ _ (lt-leb (x f) m h)

hit_more : (x : Table) (m f : ℕ) → hit x m f ≤ hit x (m + 2) f
hit_more x m f =
    ⊎_elim (λ l. omega (arith, hit_no x m f l)) (λ l. omega (arith, hit_yes x m f l, hit_yes x (m + 2) f (omega arith))) (cases_lt m (x f))

hit_one : (x : Table) (m f : ℕ) → hit x m f ≤ 1
hit_one x m f = ⊎_elim (λ l. omega (arith, hit_no x m f l)) (λ l. omega (arith, hit_yes x m f l)) (cases_lt m (x f))

hits_le : (x : Table) (m n : ℕ) → total n (hit x m) ≤ n
unfolding total
hits_le x m zero = omega arith
hits_le x m (suc n) = omega (arith, hits_le x m n, hit_one x m n)

hits_grow : (x : Table) (m n f : ℕ) → f < n → m < x f → x f ≤ m + 2 → total n (hit x m) < total n (hit x (m + 2))
hits_grow x m n f l over under =
    ⊎_elim (λ less. less) (λ same. absurd (omega (arith, same f l, hit_no x m f over, hit_yes x (m + 2) f under))) (falls (hit x (m + 2)) (hit x m) (hit_more x m) n).1

module _ (p : Problem) (w : Lawful p) (s₀ : State) (x : Table) (e : Solves (equations max_rule p s₀) x) where
  stands_zero : (f : ℕ) → f < p.facts → Stands s₀ f → x f ≡ 0
  unfolding equations
  stands_zero f l on = e f ∙ ap (side max_rule x) (node_standing p s₀ f l on)

  action_is : (a : ℕ) → a < length p.actions → x (p.facts + a) ≡ cut (max_rule (map x (action p a).pre) + 1)
  unfolding equations
  action_is a l =
      let k : (p.facts + a) - p.facts ≡ a = omega arith in
      e (p.facts + a) ∙ ap (side max_rule x) (node_action p s₀ (p.facts + a) (omega arith) (omega arith)) ∙ ap (λ i. cut (max_rule (map x (action p i).pre) + 1)) k

  -- what an action adds has at most two more than its preconditions
  added : (m a f : ℕ) → a < length p.actions → f < p.facts → names (action p a).add f ≡ true → max_rule (map x (action p a).pre) ≤ m → x f ≤ m + 2
  unfolding equations
  added m a f l h on pre =
      ⊎_elim
      (λ up. omega (arith, stands_zero f h up))
      (λ off.
      let is = e f ∙ ap (side max_rule x) (node_added p s₀ f h off) in
      omega (arith, is, action_is a l, least_le x f p.facts p.actions a l on))
      (cases_Bool (s₀ f))

  -- every standing fact has at most m
  Under : ℕ → State → Type 0
  Under m s = (f : ℕ) → f < p.facts → Stands s f → x f ≤ m

  under_step : (m a : ℕ) (s : State) → Under m s → ((f : ℕ) → f < p.facts → names (action p a).add f ≡ true → x f ≤ m) → Under m (step p a s)
  unfolding Under step
  under_step m a s u adds f l on = ⊎_elim (λ b. u f l (and_parts _ _ b).0) (adds f l) (or_cases _ _ on)

  listed : (m : ℕ) (s : State) → Under m s → (l : List ℕ) → AllByRecursion (λ f. f < p.facts) l → AllByRecursion (Stands s) l → max_rule (map x l) ≤ m
  unfolding Under
  listed m s u [] k on = omega arith
  listed m s u (f ∷ l) k on = omega (arith, u f k.0 on.0, listed m s u l k.1 on.1)

  reach : (acts : List ℕ) (s : State) (m k : ℕ) → Under m s → m ≤ 2 * k → m ≤ 2 * total p.facts (hit x m) → Path p s acts → Goal p (after p s acts) → (max_rule (map x p.goal) ≤ 2 * (k + length acts)) × (max_rule (map x p.goal) ≤ 2 * p.facts)
  unfolding Goal May Under
  reach [] s m k u soon few path goal =
      let low = listed m s u p.goal w.goal.known goal in
      (omega arith, omega (arith, hits_le x m p.facts))
  reach (a ∷ acts) s m k u soon few (may, path) goal =
      let pre = listed m s u (action p a).pre (pre_known p w a may.0) may.1 in
      ⊎_elim
      (λ low.
      let r = reach acts (step p a s) m (suc k) (under_step m a s u low) (omega arith) few path goal in
      (omega (arith, r.0), r.1))
      (λ (f, l, on, over).
      let under : (g : ℕ) → g < p.facts → names (action p a).add g ≡ true → x g ≤ m + 2 = λ g h b. added m a g may.0 h b pre in
      let grows = hits_grow x m p.facts f l over (under f l on) in
      let r = reach acts (step p a s) (m + 2) (suc k) (under_step (m + 2) a s (λ g h b. omega (arith, u g h b)) under) (omega arith) (omega arith) path goal in
      (omega (arith, r.0), r.1))
      (sorted x m (action p a).add p.facts)

  admits : (acts : List ℕ) → Plan p s₀ acts → AtMost (goal_figure max_rule p x) (length acts)
  unfolding Under
  admits acts plan =
      let r = reach acts s₀ 0 0 (λ f l on. omega (arith, stands_zero f l on)) (omega arith) (omega arith) plan.0 plan.1 in
      let v = max_rule (map x p.goal) in
      let h = cond-true (ltb v top) (v / 2) top (lt-ltb v top (omega (arith, r.1, w.few))) in
      record { number = omega (arith, h, r.1, w.few); low = omega (arith, h, r.0) }

pub admissible : Admissible
admissible p w s x e = admits p w s x e
