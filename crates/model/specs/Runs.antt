-- Runs of a session: lists of calls, and which answers to them are right. Assumes nothing.
--
--   Call, Reply   what a session is asked, and what it answers
--   Past          what the calls so far decide: the standing facts, whether settled, the facts shown
--   fresh         the past of a session just opened
--   next, ended   the past after one more call, or after a list of calls
--   Shown         the figures that the last accepted settle left
--   Right         what the answer to the next call must be
--   Rights        each answer of a list is right for the calls before it
--   FreshStart    a settled session answers what one opened on its standing facts answers
use Rattle.std.specs.Prelude.{◌≡◌, ℕ, ◌*◌, ◌≤◌, Bool, true, false, cond, not, ◌&&◌, List, [], ◌∷◌, length, Some, None, Option, nat_lt}
use Rattle.figure.specs.declared.figure.Figure.{Figure}
use Rattle.figure.specs.Ranks.{top}
use Rattle.model.specs.Strips.{Problem, State, items, these, entered, struck}
use Rattle.model.specs.Figures.{Rule, Laws, Table, table, figure_of, equations, Solves, goal_figure}
use Rattle.model.specs.Docket.{Row, Docket}

-- make a fact stand; make it fall; settle on a docket of so many rows; tell an item's figure; tell the goal figure
pub data Call : Type 0 where
  enter : ℕ → Call
  strike : ℕ → Call
  settle : ℕ → Call
  figure : ℕ → Call
  goal : Call

-- told whether the state changed; wrote these rows; a figure; refused, by the number of the refusal
pub data Reply : Type 0 where
  told : Bool → Reply
  wrote : List Row → Reply
  is : Figure → Reply
  refused : Option ℕ → Reply

-- what the calls so far decide: which facts stand, whether the session is settled, and which facts stood at the last accepted settle, if there was one
pub record Past : Type 0 where
  pub facts : State
  pub settled : Bool
  pub shown : Option State

-- at the opening the start facts stand, and nothing was settled
abbrev pub fresh : Problem → Past
fresh p = record { facts = these p.start; settled = false; shown = None }

-- after an accepted settle
abbrev pub at_rest : State → Past
at_rest s = record { facts = s; settled = true; shown = Some s }

module _ (p : Problem) where
  -- the standing facts are others now, which unsettles
  abbrev pub moved_to : Past → State → Past
  moved_to past s = record { facts = s; settled = false; shown = past.shown }

  -- the past after one more call: only a known fact that stood otherwise moves, and only a docket of two rows for each item settles
  abbrev pub next : Past → Call → Past
  next past (enter f) = cond (nat_lt f p.facts && not (past.facts f)) (moved_to past (entered f past.facts)) past
  next past (strike f) = cond (nat_lt f p.facts && past.facts f) (moved_to past (struck f past.facts)) past
  next past (settle n) = cond (nat_lt n (2 * items p)) past (at_rest past.facts)
  next past (figure i) = past
  next past goal = past

  -- the past after the calls
  abbrev pub ended : Past → List Call → Past
  ended past [] = past
  ended past (c ∷ cs) = ended (next past c) cs

  module _ (rule : Rule) where
    -- the figures of the last accepted settle: the table's for the facts that stood then; all none before the first
    abbrev pub Shown : Option State → Table → Type 0
    Shown None x = (q : ℕ) → x q ≡ top
    Shown (Some s) x = Solves (equations rule p s) x

    -- the answer to an accepted settle on n rows: the rows are the docket from the figures shown before to the table's for the facts standing now
    pub record Docketed (past : Past) (n : ℕ) (a : Reply) : Type 0 where
      pub rows : List Row
      pub wrote_rows : a ≡ wrote rows
      pub fit : length rows ≤ n
      pub before : List Figure
      pub after : List Figure
      pub before_long : length before ≡ items p
      pub earlier : Shown past.shown (table before)
      pub later : Solves (equations rule p past.facts) (table after)
      pub docket : Docket before after rows

    -- the answer is the figure that f gives in the only table for the standing facts
    abbrev pub Tabled : Past → (Table → ℕ) → Reply → Type 0
    Tabled past f a = (x : Table) × Solves (equations rule p past.facts) x × (a ≡ is (figure_of (f x)))

    -- the right answer to the next call
    abbrev pub Right : Past → Call → Reply → Type 0
    Right past (enter f) a = a ≡ cond (nat_lt f p.facts) (told (not (past.facts f))) (refused (Some 8))
    Right past (strike f) a = a ≡ cond (nat_lt f p.facts) (told (past.facts f)) (refused (Some 8))
    Right past (settle n) a = cond (nat_lt n (2 * items p)) (a ≡ refused (Some 10)) (Docketed past n a)
    Right past (figure i) a =
        cond (nat_lt i (items p)) (cond past.settled (Tabled past (λ x. x i) a) (a ≡ refused (Some 9))) (a ≡ refused (Some 8))
    Right past goal a = cond past.settled (Tabled past (goal_figure rule p) a) (a ≡ refused (Some 9))

    -- each answer is right for the calls before it
    abbrev pub Rights : Past → List Call → List Reply → Type 0
    Rights past [] [] = Unit {0}
    Rights past [] (b ∷ bs) = ⊥
    Rights past (c ∷ cs) [] = ⊥
    Rights past (c ∷ cs) (b ∷ bs) = Right past c b × Rights (next past c) cs bs

-- a call that tells a figure
abbrev pub Tells : Call → Type 0
Tells (enter f) = ⊥
Tells (strike f) = ⊥
Tells (settle n) = ⊥
Tells (figure i) = Unit {0}
Tells goal = Unit {0}

-- two problems that differ in the start alone
pub record Restarted (p q : Problem) : Type 0 where
  pub facts : q.facts ≡ p.facts
  pub actions : q.actions ≡ p.actions
  pub goal : q.goal ≡ p.goal

-- whatever led to a settled session, it tells what a session tells that is opened on the facts now standing and settled once
abbrev pub FreshStart : Type 0
FreshStart =
    (rule : Rule) → Laws rule → (p q : Problem) → Restarted p q → (past : Past) → past.settled ≡ true → these q.start ≡ past.facts →
    (n : ℕ) → 2 * items q ≤ n → (c : Call) → Tells c → (a b : Reply) → Right p rule past c a → Right q rule (next q (fresh q) (settle n)) c b → a ≡ b
