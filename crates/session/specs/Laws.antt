-- The law over runs, for sessions as values. Assumes nothing.
--
--   told_of, shown_of, wrote_of   the reply that an answer of the code is
--   Led     the session is one that a past led to
--   Goes    the answer to one call is right, whatever led to the session
use Rattle.std.specs.Prelude.{◌≡◌, ℕ, Bool, List, map, take, Ok, Err, Option, Result}
use Rattle.figure.specs.declared.figure.Figure.{Figure}
use Rattle.model.specs.Figures.{Rule, table}
use Rattle.model.specs.Runs.{Call, Reply, Past, next, Shown, Right}
use Rattle.model.specs.Runs.Reply.{told, wrote, is, refused}
use Rattle.settling.specs.declared.row.DocketRow.{DocketRow}
use Rattle.settling.specs.Holding.{row_of}
use Rattle.session.specs.declared.fault.SessionFault.{SessionFault}
use Rattle.session.specs.declared.session.Session.{Session}
use Rattle.session.specs.Refusals.{number_of}
use Rattle.session.specs.Sessions.{task_of, facts_of, figures_of, Sound}

-- what enter and strike answered
abbrev pub told_of : Result Bool SessionFault → Reply
told_of (Ok b) = told b
told_of (Err e) = refused (number_of e)

-- what figure and goal figure answered
abbrev pub shown_of : Result Figure SessionFault → Reply
shown_of (Ok f) = is f
shown_of (Err e) = refused (number_of e)

-- what settle answered: as many rows of the docket
abbrev pub wrote_of : List DocketRow → Result ℕ SessionFault → Reply
wrote_of docket (Ok n) = wrote (map row_of (take n docket))
wrote_of docket (Err e) = refused (number_of e)

module _ {R Q : Type 0} (result : R → Rule) (queue_sound : Q → Type 0) (pairs : Q → List (Option Figure)) where
  -- the session is one that this past led to
  pub record Led (past : Past) (s : Session R Q) : Type 0 where
    pub sound : Sound result queue_sound pairs s
    pub facts : facts_of s ≡ past.facts
    pub settled : s.settled ≡ past.settled
    pub shown : Shown (task_of s) (result s.base.rule) past.shown (table (figures_of s))

  -- whatever past led to s, the answer a to the call c is right, and t is a session that this past and the call lead to
  abbrev pub Goes : Session R Q → Call → Reply → Session R Q → Type 0
  Goes s c a t = (past : Past) → Led past s → Right (task_of s) (result s.base.rule) past c a × Led (next (task_of s) past c) t
