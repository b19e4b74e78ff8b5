-- The table of a state under the max rule, and how a session's figures are it. Assumes nothing.
use Rattle.std.specs.Prelude.{◌≡◌, ℕ, ◌/◌, ◌<◌, ◌≤◌, Bool, true, false, cond, List, [], ◌∷◌, ◌++◌, map, nat_lt, refl}
use Rattle.std.proofs.Common.{ap, sym, ◌∙◌, ⊎_elim, arith}
use Rattle.std.proofs.Math.Path.{fun_ext}
use Rattle.std.proofs.lemmas.Bool.{cases_lt}
use Rattle.figure.specs.Ranks.{rank, top, cut, halved}
use Rattle.model.specs.Strips.{Problem, State, items}
use Rattle.model.specs.Figures.{Rule, Table, figure_of, max_rule, equations, Solves, goal_figure, side}
use Rattle.model.specs.Runs.{Past, Call, next, ended}
use Rattle.model.proofs.Equations.{one_table, max_laws, moved, node_action, node_past}
use Rattle.model.proofs.Ranked.{rank_figure}
use Rattle.session_estimator.specs.Estimating.{the_table, distance}

-- where the task's facts stand alike, the equations are the same
pub alike : (rule : Rule) (p : Problem) (s u : State) → ((g : ℕ) → g < p.facts → s g ≡ u g) → (x : Table) (q : ℕ) → equations rule p s x q ≡ equations rule p u x q
unfolding equations
alike rule p s u e x q =
    ⊎_elim
    (λ lt. moved rule p s u x q (e q lt))
    (λ le. ⊎_elim
    (λ lt. ap (side rule x) (node_action p s q le lt ∙ sym (node_action p u q le lt)))
    (λ ge. ap (side rule x) (node_past p s q ge ∙ sym (node_past p u q ge)))
    (cases_lt q (items p)))
    (cases_lt q p.facts)

-- figures that solve the equations are the table
pub is_the_table : (p : Problem) (s : State) (x : Table) → Solves (equations max_rule p s) x → x ≡ the_table p s
unfolding the_table
is_the_table p s x h = fun_ext ((one_table max_rule max_laws p s).2 x h)

pub the_table_solves : (p : Problem) (s : State) → Solves (equations max_rule p s) (the_table p s)
unfolding the_table
the_table_solves p s = (one_table max_rule max_laws p s).1

halved_low : (r : ℕ) → r ≤ top → halved r ≤ top
halved_low r h = ⊎_elim (λ lt. low (nat_lt r top)) (λ ge. low (nat_lt r top)) (cases_lt r top)
  where
    low : (b : Bool) → cond b (r / 2) top ≤ top
    low true = omega arith
    low false = omega arith

-- the goal figure of such figures is the distance
pub tells_distance : (p : Problem) (s u : State) (x : Table) → ((g : ℕ) → g < p.facts → s g ≡ u g) → Solves (equations max_rule p s) x → rank (figure_of (goal_figure max_rule p x)) ≡ distance p u
tells_distance p s u x e h =
    let v = goal_figure max_rule p x in
    let low = halved_low (max_rule (map x p.goal)) (max_laws.figure (map x p.goal)) in
    let same : x ≡ the_table p u = is_the_table p u x (λ q. h q ∙ alike max_rule p s u e x q) in
    rank_figure v ∙ cut_low v low ∙ ap (goal_figure max_rule p) same
  where
    cut_low : (v : ℕ) → v ≤ top → cut v ≡ v
    cut_low v l = omega arith

-- calls after calls
pub ended_append : (p : Problem) (past : Past) (cs ds : List Call) → ended p past (cs ++ ds) ≡ ended p (ended p past cs) ds
ended_append p past [] ds = refl
ended_append p past (c ∷ cs) ds = ended_append p (next p past c) cs ds
