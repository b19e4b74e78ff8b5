-- The additive heuristic and the max heuristic of the field, and how the goal figures agree with them. Assumes nothing.
--
--   Value                a whole number, or infinite
--   sum_of, largest_of   what a set of facts costs, to h_add and to h_max
--   Costs                the equations of the facts' costs, with no ceiling
--   OneCost              they have exactly one solution
--   Agrees               figures are twice the costs, and the goal figure is the heuristic's value, cut at the ceiling
--   Admissible           the max rule's goal figure never passes a plan's length
use Rattle.std.specs.Prelude.{◌≡◌, ℕ, ◌+◌, ◌*◌, ◌<◌, ◌≤◌, min, max, cond, List, [], ◌∷◌, length, nat_le}
use Rattle.figure.specs.Ranks.{top, cut}
use Rattle.model.specs.Strips.{Problem, Action, State, Lawful, Plan, names}
use Rattle.model.specs.Figures.{Rule, additive_rule, max_rule, Table, equations, Solves, goal_figure}

-- what something costs: a whole number, or infinite if it is out of reach
pub data Value : Type 0 where
  finite : ℕ → Value
  infinite : Value

-- the sum of two values
abbrev pub plus : Value → Value → Value
plus infinite v = infinite
plus (finite a) infinite = infinite
plus (finite a) (finite b) = finite (a + b)

-- the larger of two values
abbrev pub larger : Value → Value → Value
larger infinite v = infinite
larger (finite a) infinite = infinite
larger (finite a) (finite b) = finite (max a b)

-- the smaller of two values
abbrev pub smaller : Value → Value → Value
smaller infinite v = v
smaller (finite a) infinite = finite a
smaller (finite a) (finite b) = finite (min a b)

-- what a set of facts costs, where a fact f costs g f
abbrev pub SetCost : Type 0
SetCost = (ℕ → Value) → List ℕ → Value

-- the sum of the facts' costs
abbrev pub sum_of : SetCost
sum_of g [] = finite 0
sum_of g (f ∷ l) = plus (g f) (sum_of g l)

-- the largest of them
abbrev pub largest_of : SetCost
largest_of g [] = finite 0
largest_of g (f ∷ l) = larger (g f) (largest_of g l)

-- the least of 1 + the cost of the preconditions, over those of the actions that add f; infinite without one
abbrev pub cheapest : SetCost → (ℕ → Value) → ℕ → List Action → Value
cheapest cost g f [] = infinite
cheapest cost g f (a ∷ acts) =
    cond (names a.add f) (smaller (plus (finite 1) (cost g a.pre)) (cheapest cost g f acts)) (cheapest cost g f acts)

-- g f is what fact f costs from s: 0 if it stands, otherwise as its cheapest action says
abbrev pub Costs : SetCost → Problem → State → (ℕ → Value) → Type 0
Costs cost p s g = (f : ℕ) → f < p.facts → g f ≡ cond (s f) (finite 0) (cheapest cost g f p.actions)

-- exactly one cost of each fact solves these equations
abbrev pub OneCost : SetCost → Type 0
OneCost cost =
    (p : Problem) → Lawful p → (s : State) →
    (g : ℕ → Value) × Costs cost p s g × ((h : ℕ → Value) → Costs cost p s h → (f : ℕ) → f < p.facts → h f ≡ g f)

-- twice a value as a figure: none above the ceiling
abbrev pub doubled : Value → ℕ
doubled infinite = top
doubled (finite n) = cut (2 * n)

-- a value as a goal figure: none above 1,000,000, half of the ceiling
abbrev pub cut_value : Value → ℕ
cut_value infinite = top
cut_value (finite n) = cond (nat_le n 1000000) n top

-- a fact's figure in the table is twice its cost, and the goal figure is what the goal costs, cut at the ceiling
pub record IsCost (rule : Rule) (cost : SetCost) (p : Problem) (x : Table) (g : ℕ → Value) : Type 0 where
  pub facts : (f : ℕ) → f < p.facts → x f ≡ doubled (g f)
  pub goal : goal_figure rule p x ≡ cut_value (cost g p.goal)

-- so it is in the one table under the rule
abbrev pub Agrees : Rule → SetCost → Type 0
Agrees rule cost =
    (p : Problem) → Lawful p → (s : State) (x : Table) → Solves (equations rule p s) x →
    (g : ℕ → Value) → Costs cost p s g → IsCost rule cost p x g

-- both heuristics are determined, and the goal figures are theirs
pub record Heuristics : Type 0 where
  pub one_add : OneCost sum_of
  pub one_max : OneCost largest_of
  pub add : Agrees additive_rule sum_of
  pub max : Agrees max_rule largest_of

-- a figure that is a number, and at most n; none is not
pub record AtMost (figure n : ℕ) : Type 0 where
  pub number : figure < top
  pub low : figure ≤ n

-- the max rule's goal figure is at most the length of every plan, and none only where there is no plan
abbrev pub Admissible : Type 0
Admissible =
    (p : Problem) → Lawful p → (s : State) (x : Table) → Solves (equations max_rule p s) x →
    (acts : List ℕ) → Plan p s acts → AtMost (goal_figure max_rule p x) (length acts)
