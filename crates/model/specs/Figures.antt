-- Figures of a problem's items: cost rules, the equations, the one table, the goal figure. Assumes nothing.
--
--   Rule, Laws                a cost rule, and the laws that it keeps
--   additive_rule, max_rule   the two rules
--   Table                     a figure for each item
--   Node, node                what an item is, as its equation reads it
--   equations                 what the equations make of a table
--   Solves                    the table is what the equations make of it
--   goal_figure               half the rule's result over the goal
--   Compares, OneTable, BothLawful, Parity   the theorems
--
-- Figures are given by their ranks: a number is itself, and none is `top`.
use Rattle.std.specs.Prelude.{◌≡◌, ℕ, ◌+◌, ◌-◌, ◌*◌, ◌%◌, ◌<◌, ◌≤◌, min, max, cond, ◌⊎◌, List, [], ◌∷◌, map, length, nat_lt, slice_index_or}
use Rattle.std.proofs.Math.Decide.{dec_le}
use Rattle.std.specs.List.{AllZip, AllByRecursion}
use Rattle.figure.specs.declared.figure.Figure.{Figure}
use Rattle.figure.specs.declared.figure.Figure.TheVariants.{None, Number}
use Rattle.figure.specs.Ranks.{top, rank, cut, halved}
use Rattle.model.specs.Strips.{Problem, Action, State, Lawful, items, names, action}

-- a cost rule makes one figure from a list of figures
abbrev pub Rule : Type 0
Rule = List ℕ → ℕ

-- an even number, or none
abbrev pub Even : ℕ → Type 0
Even v = (v % 2 ≡ 0) ⊎ (v ≡ top)

-- an odd number, or none
abbrev pub Odd : ℕ → Type 0
Odd v = (v % 2 ≡ 1) ⊎ (v ≡ top)

-- the laws of a cost rule; a member above the ceiling counts as none
pub record Laws (rule : Rule) : Type 0 where
  -- the result is a figure
  pub figure : (vs : List ℕ) → rule vs ≤ top
  -- nothing gives 0
  pub nothing : rule [] ≡ 0
  -- the result is at least every member
  pub covers : (vs : List ℕ) → AllByRecursion (λ v. cut v ≤ rule vs) vs
  -- raising a member never lowers the result
  pub monotone : (vs ws : List ℕ) → AllZip ◌≤◌ vs ws → rule vs ≤ rule ws
  -- even members give an even figure or none
  pub even : (vs : List ℕ) → AllByRecursion Even vs → Even (rule vs)

-- the sum, or none if a member is none or the sum exceeds the ceiling
abbrev pub additive_rule : Rule
additive_rule [] = 0
additive_rule (v ∷ vs) = cut (v + additive_rule vs)

-- the largest member
abbrev pub max_rule : Rule
max_rule [] = 0
max_rule (v ∷ vs) = cut (max v (max_rule vs))

-- a figure for each item
abbrev pub Table : Type 0
Table = ℕ → ℕ

-- the figure of a rank: the number, or none above the ceiling
unfoldable pub figure_of : ℕ → Figure
unfolding dec_le
figure_of v = elim (dec_le v 2000000) [ yes h ↦ Number (record { value = v; within = h }) | no _ ↦ None ]

-- a list of figures as a table: none past its end
abbrev pub table : List Figure → Table
table figures q = rank (slice_index_or figures q None)

-- the smallest figure of the items listed; none if there are none
abbrev pub least : Table → List ℕ → ℕ
least x [] = top
least x (q ∷ qs) = min (x q) (least x qs)

-- of these actions, the first of which is item j, the items of those that add f
abbrev pub adding : ℕ → ℕ → List Action → List ℕ
adding f j [] = []
adding f j (a ∷ acts) = cond (names a.add f) (j ∷ adding f (j + 1) acts) (adding f (j + 1) acts)

-- the items of the actions that add f
abbrev pub adders : Problem → ℕ → List ℕ
adders p f = adding f p.facts p.actions

-- what an item is: a standing fact, another fact with the actions that add it, an action with its preconditions, or no item
pub data Node : Type 0 where
  standing : Node
  added_by : List ℕ → Node
  needing : List ℕ → Node
  absent : Node

-- what item q is, in a problem and a state
unfoldable pub node : Problem → State → ℕ → Node
node p s q =
    cond (nat_lt q p.facts) (cond (s q) standing (added_by (adders p q))) (cond (nat_lt q (items p)) (needing (action p (q - p.facts)).pre) absent)

-- a fact's figure, from the least one of the actions that add it: 1 more
abbrev pub fact_from : ℕ → ℕ
fact_from v = cut (v + 1)

-- an action's figure, from the rule's result over its preconditions: 1 more
abbrev pub action_from : ℕ → ℕ
action_from v = cut (v + 1)

-- the right-hand side of an item's equation
abbrev pub side : Rule → Table → Node → ℕ
side rule x standing = 0
side rule x (added_by acts) = fact_from (least x acts)
side rule x (needing pre) = action_from (rule (map x pre))
side rule x absent = top

-- what the equations make of a table
unfoldable pub equations : Rule → Problem → State → Table → Table
equations rule p s x q = side rule x (node p s q)

-- the table is what the equations make of it
abbrev pub Solves : (Table → Table) → Table → Type 0
Solves F x = (q : ℕ) → x q ≡ F x q

-- half the rule's result over the goal; half of none is none
abbrev pub goal_figure : Rule → Problem → Table → ℕ
goal_figure rule p x = halved (rule (map x p.goal))

-- exactly one table solves the equations
abbrev pub One : (Table → Table) → Type 0
One F = (x : Table) × Solves F x × ((y : Table) → Solves F y → (q : ℕ) → y q ≡ x q)

-- a table at or above what the equations make of it is at or above every table that is at or below
abbrev pub Compares : Type 0
Compares =
    (rule : Rule) → Laws rule → (p : Problem) (s : State) (x y : Table) →
    ((q : ℕ) → equations rule p s x q ≤ x q) → ((q : ℕ) → y q ≤ equations rule p s y q) → (q : ℕ) → y q ≤ x q

-- for every lawful rule exactly one table solves the equations
abbrev pub OneTable : Type 0
OneTable = (rule : Rule) → Laws rule → (p : Problem) (s : State) → One (equations rule p s)

-- both rules keep the laws
abbrev pub BothLawful : Type 0
BothLawful = Laws additive_rule × Laws max_rule

-- facts have even numbers and actions odd ones, so that the goal figure is an exact half
pub record Halves (rule : Rule) (p : Problem) (x : Table) : Type 0 where
  pub facts : (f : ℕ) → f < p.facts → Even (x f)
  pub actions : (k : ℕ) → k < length p.actions → Odd (x (p.facts + k))
  pub goal : rule (map x p.goal) < top → 2 * goal_figure rule p x ≡ rule (map x p.goal)

-- so it is in the one table, for every lawful rule and problem
abbrev pub Parity : Type 0
Parity = (rule : Rule) → Laws rule → (p : Problem) → Lawful p → (s : State) (x : Table) → Solves (equations rule p s) x → Halves rule p x
