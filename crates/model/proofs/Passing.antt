-- Runs of a session, call by call. Assumes nothing.
use Rattle.std.proofs.Common.{◌≡◌, ℕ, ◌*◌, Bool, true, false, cond, ltb, List, [], ◌∷◌, ◌++◌, map, Some, sym, refl, ap, ◌∙◌, subst}
use Rattle.std.proofs.lemmas.Bool.{cond-false, le-ltb, true≢false, false≢true}
use Rattle.figure.specs.Ranks.{halved}
use Rattle.model.specs.Strips.{Problem, State, items, these}
use Rattle.model.specs.Figures.{Rule, Laws, Table, figure_of, node, equations, Solves, goal_figure}
use Rattle.model.specs.Runs.{Past, fresh, at_rest, next, ended, Tabled, Right, Rights, Tells, Restarted, FreshStart, Call, Reply}
use Rattle.model.specs.Runs.Call.{enter, strike, settle, figure, goal}
use Rattle.model.specs.Runs.Reply.{is, refused}
use Rattle.model.proofs.Equations.{one_table}

pub pick_true : (b : Bool) (A B : Type 0) → b ≡ true → A → cond b A B
pick_true true A B e x = x
pick_true false A B e x = absurd (false≢true e)

pub pick_false : (b : Bool) (A B : Type 0) → b ≡ false → B → cond b A B
pick_false true A B e x = absurd (true≢false e)
pick_false false A B e x = x

pub picked_true : (b : Bool) (A B : Type 0) → b ≡ true → cond b A B → A
picked_true true A B e x = x
picked_true false A B e x = absurd (false≢true e)

module _ (p : Problem) (rule : Rule) where
  pub ended_push : (past : Past) (cs : List Call) (c : Call) → ended p past (cs ++ (c ∷ [])) ≡ next p (ended p past cs) c
  ended_push past [] c = refl
  ended_push past (d ∷ cs) c = ended_push (next p past d) cs c

  pub rights_push : (past : Past) (cs : List Call) (bs : List Reply) (c : Call) (b : Reply) → Rights p rule past cs bs → Right p rule (ended p past cs) c b → Rights p rule past (cs ++ (c ∷ [])) (bs ++ (b ∷ []))
  rights_push past [] [] c b h r = (r, tt)
  rights_push past [] (d ∷ bs) c b h r = absurd h
  rights_push past (e ∷ cs) [] c b h r = absurd h
  rights_push past (e ∷ cs) (d ∷ bs) c b h r = (h.0, rights_push (next p past e) cs bs c b h.1 r)

every_same : (x y : Table) (l : List ℕ) → ((q : ℕ) → y q ≡ x q) → map y l ≡ map x l
every_same x y [] h = refl
every_same x y (a ∷ l) h = ap (λ v. v ∷ map y l) (h a) ∙ ap (λ v. x a ∷ v) (every_same x y l h)

-- two tables that solve the equations for the same facts are one
same_table : (rule : Rule) → Laws rule → (p : Problem) (s : State) (x y : Table) → Solves (equations rule p s) x → Solves (equations rule p s) y → (q : ℕ) → y q ≡ x q
same_table rule laws p s x y hx hy q = let o = one_table rule laws p s in o.2 y hy q ∙ sym (o.2 x hx q)

-- the problem with the same facts, actions and goal
abbrev restart : Problem → List ℕ → Problem
restart p l = record { facts = p.facts; actions = p.actions; goal = p.goal; start = l }

rebuilt : (p q : Problem) → Restarted p q → q ≡ restart p q.start
rebuilt p q r =
    ap (λ n. record { facts = n; actions = q.actions; goal = q.goal; start = q.start }) r.facts
    ∙ ap (λ n. record { facts = p.facts; actions = n; goal = q.goal; start = q.start }) r.actions
    ∙ ap (λ n. record { facts = p.facts; actions = p.actions; goal = n; start = q.start }) r.goal

module _ (rule : Rule) (laws : Laws rule) (p : Problem) (l : List ℕ) (past : Past) (settled : past.settled ≡ true) (same : these l ≡ past.facts) where
  abbrev twin : Problem
  twin = restart p l

  both : (f g : Table → ℕ) → ((x y : Table) → ((q : ℕ) → y q ≡ x q) → g y ≡ f x) → (a b : Reply) → Tabled p rule past f a → Tabled twin rule (at_rest (these l)) g b → a ≡ b
  unfolding equations node
  both f g respects a b (x, hx, ea) (y, hy, eb) =
      let hz : Solves (equations rule p past.facts) y = subst (λ s. Solves (equations rule p s) y) same hy in
      ea ∙ ap (λ v. is (figure_of v)) (sym (respects x y (same_table rule laws p past.facts x y hx hz))) ∙ sym eb

  tells : (c : Call) → Tells c → (a b : Reply) → Right p rule past c a → Right twin rule (at_rest (these l)) c b → a ≡ b
  tells (enter f) t a b ha hb = absurd t
  tells (strike f) t a b ha hb = absurd t
  tells (settle n) t a b ha hb = absurd t
  tells (figure i) t a b ha hb = go (ltb i (items p)) ha hb where
    go : (w : Bool) → cond w (cond past.settled (Tabled p rule past (λ x. x i) a) (a ≡ refused (Some 9))) (a ≡ refused (Some 8)) → cond w (Tabled twin rule (at_rest (these l)) (λ x. x i) b) (b ≡ refused (Some 8)) → a ≡ b
    go true ga gb = both (λ x. x i) (λ x. x i) (λ x y h. h i) a b (picked_true past.settled _ _ settled ga) gb
    go false ga gb = ga ∙ sym gb
  tells goal t a b ha hb =
      both (goal_figure rule p) (goal_figure rule twin) (λ x y h. ap (λ v. halved (rule v)) (every_same x y p.goal h)) a b (picked_true past.settled _ _ settled ha) hb

pub fresh_start : FreshStart
fresh_start rule laws p q r past settled same n enough c t a b ha hb =
    let e : next q (fresh q) (settle n) ≡ at_rest (these q.start) = cond-false _ _ _ (le-ltb n (2 * items q) enough) in
    let hb₁ = subst (λ z. Right q rule z c b) e hb in
    tells rule laws p q.start past settled same c t a b ha (subst (λ (z : Problem). Right z rule (at_rest (these q.start)) c b) (rebuilt p q r) hb₁)
