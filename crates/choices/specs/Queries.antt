-- What a search found, for what was searched. Assumes nothing.
--
--   FindsFor   what the outcome says of plans of the task from the state
use Rattle.strips.specs.Standing.{standing}
use Rattle.strips.specs.Tasks.{problem}
use Rattle.choices.specs.declared.found.Found.{Found}
use Rattle.choices.specs.declared.query.Query.{Query}
use Rattle.choices.specs.Finding.{Finds}

abbrev pub FindsFor : Query → Found → Type 0
FindsFor q f = Finds (problem q.task.now) (standing q.start.now) q.rows f.steps.items f.result
