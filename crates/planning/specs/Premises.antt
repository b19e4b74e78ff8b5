-- What planning makes for its session and its search. Assumes nothing.
--
--   asked        the calls made of each session
--   Told         the last of two answers tells this figure
--   SomeTold     it tells a figure
--   Unrefused    a search was not refused
--   Estimating   an estimator with nothing kept, over a sound session on a problem
--   Lendable     an empty and sound queue, rows and steps
use Rattle.std.specs.Prelude.{◌≡◌, ◌*◌, List, [], ◌∷◌, map, length, replicate, None, Ok, Err, vec_items, Result}
use Rattle.figure.specs.declared.figure.Figure.{Figure}
use Rattle.model.specs.Strips.{Problem, items}
use Rattle.model.specs.Figures.{max_rule}
use Rattle.model.specs.Runs.{Call, Reply}
use Rattle.model.specs.Runs.Call.{settle, goal}
use Rattle.model.specs.Runs.Reply.{is}
use Rattle.queue.specs.Keys.{figure_leq, pair_leq}
use Rattle.heap.specs.declared.store.HeapQueue.{HeapQueue}
use Rattle.heap.specs.Meaning.{pairs_of, InOrder}
use Rattle.session.specs.declared.call.Answer.{Answer}
use Rattle.session.specs.Sessions.{task_of, Sound}
use Rattle.session.specs.Works.{reply_of}
use Rattle.estimator.specs.declared.blind.Blind.{Blind}
use Rattle.estimator.specs.declared.keeping.Keeping.{Keeping}
use Rattle.estimator.specs.declared.larger.Larger.{Larger}
use Rattle.estimator.specs.Keeps.{kept}
use Rattle.search_law.specs.declared.outcome.Outcome.{Outcome}
use Rattle.search_law.specs.declared.refusal.SearchRefusal.{SearchRefusal}
use Rattle.session_estimator.specs.declared.session_estimator.SessionEstimator.{SessionEstimator}
use Rattle.planning.specs.declared.lent.Lent.{Lent}
use Rattle.planning.specs.Laws.{rows}

-- settle with two rows for each item, and tell the goal figure
abbrev pub asked : Problem → List Call
asked p = settle (2 * items p) ∷ goal ∷ []

-- there are two answers, and the last tells the figure
abbrev pub Told : List Answer → Figure → Type 0
Told answers f = (a : Reply) × (map reply_of answers ≡ a ∷ is f ∷ [])

-- so it is with some figure
abbrev pub SomeTold : List Answer → Type 0
SomeTold answers = (f : Figure) × Told answers f

-- the search was not refused
abbrev pub Unrefused : Result Outcome SearchRefusal → Type 0
Unrefused (Ok o) = Unit {0}
Unrefused (Err e) = ⊥

-- nothing is kept yet, and the session is sound and on the problem
pub record Estimating (p : Problem) (e : Keeping (Larger (SessionEstimator (HeapQueue Figure)) Blind)) : Type 0 where
  pub fresh : kept e ≡ []
  pub on_task : task_of e.inner.first.session ≡ p
  pub sound : Sound (λ _. max_rule) (InOrder figure_leq) pairs_of e.inner.first.session

-- the queue is sound and holds nothing; there are as many rows, and steps, as it has room for
pub record Lendable (l : Lent) : Type 0 where
  pub sound : InOrder pair_leq l.frontier
  pub empty : pairs_of l.frontier ≡ replicate rows None
  pub rows_long : length (vec_items l.rows) ≡ rows
  pub steps_long : length (vec_items l.steps) ≡ rows
