use Rattle.std.proofs.Common.{cond, sym, ap, ◌∙◌}
use Rattle.rows.specs.Lookups.{link}
use Rattle.rows.proofs.row.Row.next.Goals as goal

pub returns-then-stands : goal.returns-then-stands
unfolding link
returns-then-stands c = ap (λ b. cond b c.args.self.now.on c.args.self.now.off) (sym c.if-stands.true ∙ c.stands.ensures)

pub returns-else-stands : goal.returns-else-stands
unfolding link
returns-else-stands c = ap (λ b. cond b c.args.self.now.on c.args.self.now.off) (sym c.if-stands.false ∙ c.stands.ensures)
