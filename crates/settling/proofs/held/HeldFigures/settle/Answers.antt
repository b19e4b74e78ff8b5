use Rattle.std.proofs.Common.{◌≡◌, List, map, length, take, drop, vec_items, sym, refl, ap, ◌∙◌, subst, arith}
use Rattle.std.proofs.lemmas.List.{set-get_or}
use Rattle.figure.specs.declared.figure.Figure.{Figure}
use Rattle.model.specs.Strips.{items}
use Rattle.model.specs.Figures.{table, Solves}
use Rattle.model.specs.Docket.{Docket}
use Rattle.strips.specs.Tasks.{problem}
use Rattle.strips.specs.Standing.{standing}
use Rattle.settling.specs.declared.row.DocketRow.{DocketRow}
use Rattle.settling.specs.Holding.{equations_of, row_of}
use Rattle.settling.proofs.Loops.{rows_more, later_more, run_docket, run_spent}
use Rattle.settling.proofs.held.HeldFigures.settle.Goals as goal
use Rattle.model.specs.Settling.Settling.{begun}

pub loop-n-init : goal.loop-n-init
loop-n-init g c = (refl, refl, (λ s. s), λ s fit k. (k, begun))

pub loop-n-preserved : goal.loop-n-preserved
loop-n-preserved g c =
    let h = c.args.self.now in
    let k = c.loop-n.self in
    let d = c.loop-n.docket in
    let n = c.loop-n.n in
    let w = c.in-Some.row in
    let inv = c.loop-n.invariant in
    let e = c.in-Some.ensures in
    let F = equations_of g.R.CostRule.rule c.args.base.now c.args.state.now in (
      later_more d c.args.docket.now n w inv.0,
      e.long ∙ inv.1,
      (λ s. e.keeps (inv.2 s)),
      λ s fit kept.
          let was = inv.3 s fit kept in
          let m = e.after (inv.2 s) (record { linked = fit.linked; long = inv.1 ∙ fit.long }) was.0 in
          (m.keeping, rows_more F (vec_items h.figures) (vec_items k.figures) (vec_items c.turn.new.self.figures) d n w was.1 (omega (arith, c.loop-n-test.true, c.loop-n.auto.docket)) m.step m.before m.after),
    )

pub returns-in_default-clause-keeps : goal.returns-in_default-clause-keeps
returns-in_default-clause-keeps g c = λ s. c.in_default.ensures.keeps (c.loop-n.invariant.2 s)

pub returns-in_default-clause-long : goal.returns-in_default-clause-long
returns-in_default-clause-long g c = c.in_default.ensures.long ∙ c.loop-n.invariant.1

pub returns-in_default-clause-later : goal.returns-in_default-clause-later
returns-in_default-clause-later g c = ap (drop c.loop-n.n) (set-get_or c.loop-n.docket c.loop-n.n c.index-docket-n.result) ∙ c.loop-n.invariant.0

pub returns-in_default-clause-after : goal.returns-in_default-clause-after
returns-in_default-clause-after g c = λ s fit kept enough.
    let h = c.args.self.now in
    let k = c.loop-n.self in
    let d = c.loop-n.docket in
    let n = c.loop-n.n in
    let inv = c.loop-n.invariant in
    let base = c.args.base.now in
    let F = equations_of g.R.CostRule.rule base c.args.state.now in
    let was = inv.3 s fit kept in
    let r = c.in_default.ensures.after (inv.2 s) (record { linked = fit.linked; long = inv.1 ∙ fit.long }) was.0 in
    let doc = run_docket (g.R.CostRule.rule base.rule) (g.met.R.CostRule.lawful base.rule) (problem base.task) (standing c.args.state.now) (vec_items h.figures) (vec_items k.figures) d n (omega (arith, fit.long, h.figures.ok.0)) was.1 in
    record {
      solves = subst (λ (v : List Figure). Solves F (table v)) (sym r.after) r.solves;
      docket =
          subst (λ (l : List DocketRow). Docket (vec_items h.figures) (vec_items c.turn.new.self.figures) (map row_of (take n l))) (sym (set-get_or d n c.index-docket-n.result))
          (subst (λ (v : List Figure). Docket (vec_items h.figures) v (map row_of (take n d))) (sym r.after) doc);
      keeping = r.keeping;
    }

pub returns-clause-keeps : goal.returns-clause-keeps
returns-clause-keeps g c = c.loop-n.invariant.2

pub returns-clause-long : goal.returns-clause-long
returns-clause-long g c = c.loop-n.invariant.1

pub returns-clause-after : goal.returns-clause-after
returns-clause-after g c = λ s fit kept enough.
    let h = c.args.self.now in
    let k = c.loop-n.self in
    let d = c.loop-n.docket in
    let n = c.loop-n.n in
    let base = c.args.base.now in
    let rule = g.R.CostRule.rule base.rule in
    let laws = g.met.R.CostRule.lawful base.rule in
    let p = problem base.task in
    let st = standing c.args.state.now in
    let was = c.loop-n.invariant.3 s fit kept in
    let long : length (vec_items h.figures) ≡ items p = omega (arith, fit.long, h.figures.ok.0) in
    let all : n ≡ length d = omega (arith, c.loop-n-test.false, c.loop-n.auto.n-end, c.loop-n.auto.docket) in
    record {
      solves = run_spent rule laws p st (vec_items h.figures) (vec_items k.figures) d n long was.1 (omega (arith, enough, all, c.loop-n.auto.docket)) (omega (arith, all));
      docket = subst (λ m. Docket (vec_items h.figures) (vec_items k.figures) (map row_of (take m d))) all (run_docket rule laws p st (vec_items h.figures) (vec_items k.figures) d n long was.1);
      keeping = was.0;
    }
