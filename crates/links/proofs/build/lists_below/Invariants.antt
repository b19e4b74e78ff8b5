use Rattle.links.specs.Indexes.{Lists}
use Rattle.links.proofs.build.lists_below.Given as goal

abbrev pub invariant-loop-q : goal.invariant-loop-q
invariant-loop-q g l = Lists (goal.F-post g l.list) l.q l.all
