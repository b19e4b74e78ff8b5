use Rattle.std.proofs.Common.{ap, ◌∙◌, arith, rules}
use Rattle.model.specs.Strips.{names}
use Rattle.model.specs.Figures.{adders}
use Rattle.strips.specs.Tasks.{problem}
use Rattle.session_theory.specs.Readers.{readers}
use Rattle.session_theory.proofs.Reading.{read_listed}
use Rattle.links.proofs.links.Links.of.Goals as goal

pub returns : goal.returns
returns c =
    let p = problem c.args.task.now in
    let a = c.in_ok-adders.ensures (adders p) (λ q r l k. search rules) in
    let b = c.in_ok-readers.ensures (readers p) (λ q r l k. search rules) in
    record {
      adders = λ f h. a.each f (omega (arith, c.from-facts.ensures, c.facts.ensures.is));
      readers = λ q r h e. ap (λ l. names l r) (b.each q (omega (arith, c.item_count.ensures))) ∙ read_listed p c.facts.ensures.lawful q r e;
    }
