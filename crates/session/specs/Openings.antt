-- What an opening answers. Assumes nothing.
--
--   ready      whether a session can be opened on a queue
--   Indexed    what an opening begins with
--   Opened     the session that it then is
--   Refusing   a refused opening: why, and all given back
use Rattle.std.specs.Prelude.{◌≡◌, Bool, true, false, ◌&&◌, List, length, replicate, Option, nat_le}
use Rattle.figure.specs.declared.figure.Figure.{Figure}
use Rattle.figure.specs.declared.figure.Figure.TheVariants.{None}
use Rattle.model.specs.Strips.{Problem, items, these}
use Rattle.strips.specs.declared.task.Task.{Task}
use Rattle.strips.specs.Tasks.{problem}
use Rattle.links.specs.declared.links.Links.{Links}
use Rattle.links.specs.Indexes.{Linked}
use Rattle.queue.specs.Queues.{vacant}
use Rattle.session.specs.declared.fault.SessionFault.{SessionFault}
use Rattle.session.specs.declared.fault.SessionFault.TheVariants.{Unknown, Unsettled, DocketShort, QueueUnfit, Memory}
use Rattle.session.specs.declared.session.Session.{Session}
use Rattle.session.specs.declared.unopened.Unopened.{Unopened}
use Rattle.session.specs.Sessions.{facts_of, figures_of}

-- the queue is empty, with room for every item
abbrev pub ready : Problem → List (Option Figure) → Bool
ready p pairs = vacant pairs && nat_le (items p) (length pairs)

-- an opening fails under 11 exactly where the queue is not ready, and else only for want of memory
abbrev pub Why : Bool → SessionFault → Type 0
Why b Unknown = ⊥
Why b Unsettled = ⊥
Why b DocketShort = ⊥
Why b QueueUnfit = b ≡ false
Why b Memory = b ≡ true

-- the queue is ready, and the indexes are the problem's
abbrev pub Indexed : Problem → List (Option Figure) → Links → Type 0
Indexed p pairs links = (ready p pairs ≡ true) × Linked p links

module _ {R Q : Type 0} (pairs : Q → List (Option Figure)) where
  -- the session is on this task and rule, unsettled, with the start facts standing and every figure none
  pub record Opened (task : Task) (rule : R) (queue : Q) (s : Session R Q) : Type 0 where
    pub was_ready : ready (problem task) (pairs queue) ≡ true
    pub on_task : s.base.task ≡ task
    pub by_rule : s.base.rule ≡ rule
    pub facts : facts_of s ≡ these (problem task).start
    pub figures : figures_of s ≡ replicate (items (problem task)) None
    pub settled : s.settled ≡ false

  -- all is given back as it was
  pub record Refusing (task : Task) (rule : R) (queue : Q) (e : Unopened R Q) : Type 0 where
    pub why : Why (ready (problem task) (pairs queue)) e.fault
    pub same_task : e.task ≡ task
    pub same_rule : e.rule ≡ rule
    pub same_queue : e.queue ≡ queue
