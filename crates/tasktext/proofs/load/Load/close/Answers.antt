use Rattle.std.proofs.Common.{sym, ap, ◌∙◌}
use Rattle.textspec.specs.Frames.{frames_of}
use Rattle.strips.proofs.Keeping.{lawful}
use Rattle.tasktext.proofs.Flawless.{makes}
use Rattle.tasktext.proofs.Meant.{whole, flawless_load}
use Rattle.tasktext.proofs.load.Load.close.Goals as goal

pub unwrap-requires : goal.unwrap-requires
unwrap-requires c = let l = c.args.self in makes l.facts l.actions l.goal l.start c.new.result (flawless_load l c.in-Nothing.is) c.new.ensures

pub returns-in-Nothing : goal.returns-in-Nothing
returns-in-Nothing c =
    let made = rw c.unwrap.ensures at c.new.ensures in
    (lawful c.unwrap.result, whole c.args.self c.in-Nothing.is ∙ ap frames_of (sym made.1))
