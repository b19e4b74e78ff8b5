use Rattle.std.proofs.Common.{◌≡◌, ◌<◌, true, false, ltb, length, get_or, Ok, Err, sym, ap, ◌∙◌, arith}
use Rattle.std.proofs.lemmas.List.{get_or_read}
use Rattle.std.proofs.lemmas.Bool.{cond-true, cond-false, lt-ltb, le-ltb}
use Rattle.figure.specs.declared.figure.Figure.{Figure}
use Rattle.figure.specs.declared.figure.Figure.TheVariants.{None}
use Rattle.model.specs.Strips.{items}
use Rattle.session.specs.declared.fault.SessionFault.TheVariants.{Unknown, Unsettled}
use Rattle.session.specs.Sessions.{task_of, figures_of, figure_answer}
use Rattle.session.proofs.Passing.{figure_goes}
use Rattle.session.proofs.session.Session.figure.Goals as goal

pub returns-then-item-as_slice : goal.returns-then-item-as_slice
returns-then-item-as_slice g c =
    let s = c.args.self.now in
    let b : ltb c.args.item (items (task_of s)) ≡ false = le-ltb c.args.item (items (task_of s)) (omega (arith, c.if-item-as_slice.true, ap length c.as_slice.ensures, s.long, s.held.figures.ok.0)) in
    let a : Err Unknown ≡ figure_answer s c.args.item = sym (cond-false _ _ _ b) in
    record { answer = a; law = figure_goes g.R.CostRule.rule g.Q.Queue.sound g.Q.Queue.pairs s c.args.item (Err Unknown) a }

pub returns-then-not-self : goal.returns-then-not-self
returns-then-not-self g c =
    let s = c.args.self.now in
    let b : ltb c.args.item (items (task_of s)) ≡ true = lt-ltb c.args.item (items (task_of s)) (omega (arith, c.if-item-as_slice.false, ap length c.as_slice.ensures, s.long, s.held.figures.ok.0)) in
    let a : Err Unsettled ≡ figure_answer s c.args.item = sym (cond-true _ _ _ b ∙ cond-false _ _ _ c.if-not-self.true) in
    record { answer = a; law = figure_goes g.R.CostRule.rule g.Q.Queue.sound g.Q.Queue.pairs s c.args.item (Err Unsettled) a }

pub returns : goal.returns
returns g c =
    let s = c.args.self.now in
    let i = c.args.item in
    let f = c.index-as_slice-item.result in
    let within : i < length c.as_slice-2.result.now = omega (arith, c.if-item-as_slice.false, ap length c.as_slice.ensures, ap length c.as_slice-2.ensures) in
    let b : ltb i (items (task_of s)) ≡ true = lt-ltb i (items (task_of s)) (omega (arith, c.if-item-as_slice.false, ap length c.as_slice.ensures, s.long, s.held.figures.ok.0)) in
    let is : f ≡ get_or (figures_of s) i None = get_or_read c.as_slice-2.result.now i f within c.index-as_slice-item.is None ∙ ap (λ l. get_or l i None) c.as_slice-2.ensures in
    let a : Ok f ≡ figure_answer s i = ap (λ (v : Figure). Ok v) is ∙ sym (cond-true _ _ _ b ∙ cond-true _ _ _ c.if-not-self.false) in
    record { answer = a; law = figure_goes g.R.CostRule.rule g.Q.Queue.sound g.Q.Queue.pairs s i (Ok f) a }
