-- Why a session that was to search did not. Assumes nothing.
--
--   Halting   the opening was refused and all is given back, or the calls were worked and memory was wanting
use Rattle.std.specs.Prelude.{List, map, vec_items, Option}
use Rattle.figure.specs.declared.figure.Figure.{Figure}
use Rattle.model.specs.Figures.{max_rule}
use Rattle.model.specs.Runs.{Call, fresh, Rights}
use Rattle.strips.specs.declared.task.Task.{Task}
use Rattle.strips.specs.Tasks.{problem}
use Rattle.session.specs.Openings.{Refusing}
use Rattle.session.specs.Works.{reply_of}
use Rattle.engine.specs.declared.halted.Halted.{Halted}
use Rattle.engine.specs.declared.halted.Halted.TheVariants.{Unopened, NoMemory}

-- all is given back under 11 or for want of memory; or the answers are right for the calls
abbrev pub Halting : {Q : Type 0} (sound : Q → Type 0) (pairs : Q → List (Option Figure)) (task : Task) (queue : Q) (calls : List Call) → Halted Q → Type 0
Halting sound pairs task queue calls (Unopened u) = Refusing pairs task u.rule queue u
Halting sound pairs task queue calls (NoMemory session answers) = sound queue → Rights (problem task) max_rule (fresh (problem task)) calls (map reply_of (vec_items answers))
