-- What working a list of calls promises. Assumes nothing.
--
--   call_of, reply_of   calls and answers of the code as those of the subject
--   On                  the session is on this task and rule
--   Working             each answer is right for the calls before it, whatever led to the session
use Rattle.std.specs.Prelude.{◌≡◌, true, List, map, vec_items, Option}
use Rattle.figure.specs.declared.figure.Figure.{Figure}
use Rattle.model.specs.Figures.{Rule}
use Rattle.model.specs.Runs.{Call, Reply, Past, ended, Rights}
use Rattle.model.specs.Runs.Call.{enter, strike, settle, figure, goal}
use Rattle.model.specs.Runs.Reply.{told, wrote, is, refused}
use Rattle.strips.specs.declared.task.Task.{Task}
use Rattle.strips.specs.Tasks.{problem}
use Rattle.settling.specs.Holding.{row_of}
use Rattle.session.specs.declared.call.Call.{Call as CallValue}
use Rattle.session.specs.declared.call.Call.TheVariants as call
use Rattle.session.specs.declared.call.Answer.{Answer}
use Rattle.session.specs.declared.call.Answer.TheVariants as answer
use Rattle.session.specs.declared.session.Session.{Session}
use Rattle.session.specs.Refusals.{number_of}
use Rattle.session.specs.Sessions.{task_of}
use Rattle.session.specs.Openings.{ready}
use Rattle.session.specs.Laws.{Led}

-- a call of the code
abbrev pub call_of : CallValue → Call
call_of (call.Enter f) = enter f
call_of (call.Strike f) = strike f
call_of (call.Settle n) = settle n
call_of (call.Figure i) = figure i
call_of call.Goal = goal

-- an answer of the code
abbrev pub reply_of : Answer → Reply
reply_of (answer.Told b) = told b
reply_of (answer.Wrote rows) = wrote (map row_of (vec_items rows))
reply_of (answer.Is f) = is f
reply_of (answer.Refused e) = refused (number_of e)

-- the queue was ready, and the session is on this task and rule
pub record On {R Q : Type 0} (pairs : Q → List (Option Figure)) (task : Task) (rule : R) (queue : Q) (s : Session R Q) : Type 0 where
  pub was_ready : ready (problem task) (pairs queue) ≡ true
  pub on_task : s.base.task ≡ task
  pub by_rule : s.base.rule ≡ rule

module _ {R Q : Type 0} (result : R → Rule) (queue_sound : Q → Type 0) (pairs : Q → List (Option Figure)) where
  -- whatever past led to s, each answer is right for the calls before it, and t is a session that this past and the calls lead to
  abbrev pub Working : Session R Q → List CallValue → List Answer → Session R Q → Type 0
  Working s calls answers t =
      (past : Past) → Led result queue_sound pairs past s →
      Rights (task_of s) (result s.base.rule) past (map call_of calls) (map reply_of answers) × Led result queue_sound pairs (ended (task_of s) past (map call_of calls)) t
