use Rattle.std.proofs.lemmas.Bool.Decides.{Decides-like}
use Rattle.model.specs.Strips.{Goal}
use Rattle.strips.specs.Standing.{standing}
use Rattle.strips.specs.Lists.{listed}
use Rattle.strips.proofs.Keeping.{covers_every, every_covers}
use Rattle.strips.proofs.task.Task.has_goal.Goals as goal

pub returns : goal.returns
unfolding Goal
returns c =
    let goals = c.args.self.now.goal in let s = standing c.args.state.now in
    Decides-like _ (covers_every s (standing goals.state) (listed goals.list) goals.same) (every_covers s (standing goals.state) (listed goals.list) goals.same) c.covers.ensures
