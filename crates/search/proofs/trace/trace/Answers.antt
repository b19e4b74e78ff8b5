use Rattle.std.proofs.Common.{◌≡◌, ◌-◌, ◌<◌, ◌≤◌, [], length, get_or, take, drop, set, sym, ap, ◌∙◌, subst₂, arith, length-set, drop-set-lt}
use Rattle.rows.specs.Rows.{blank}
use Rattle.rows.specs.declared.row.Row.{Row}
use Rattle.search_law.proofs.Successors.{any}
use Rattle.search_law.specs.Boards.{Depth, way_back}
use Rattle.search_law.proofs.Traces.{depth_on, depth_less, front_step, back_step}
use Rattle.search.proofs.trace.trace.Goals as goal

pub loop-at-preserved : goal.loop-at-preserved
loop-at-preserved c =
    let rows = c.args.rows.now in
    let i = c.loop-at.i in
    let at = c.loop-at.at in
    let n = c.args.n in
    let out = c.loop-at.steps in
    let inv = c.loop-at.invariant in
    let some : 0 < at = omega (arith, c.loop-at-test.true) in
    let pos = depth_on rows at i inv.3 some in
    let inside : i < length rows = omega (arith, inv.0, c.requires.fits.1) in
    let e = any rows i c.index-rows-i.result inside in
    let f = any rows i c.index-rows-i-in-loop-at.result inside in
    let goes : Row → Row → Type 0 = λ w x.
    (w.from < c.args.used) × (at - 1 ≤ n) × (length (set out (at - 1) x.action) ≡ length c.args.steps.now) × Depth rows (at - 1) w.from
    × (way_back rows (at - 1) w.from (drop (at - 1) (take n (set out (at - 1) x.action))) ≡ way_back rows n c.args.row [])
    × (drop n (set out (at - 1) x.action) ≡ drop n c.args.steps.now) in
    let x = (get_or rows i blank).action in
    subst₂ goes (sym f) (sym e) (
      (c.requires.rooted i pos inv.0).0,
      omega (arith, inv.1),
      length-set _ _ _ ∙ inv.2,
      depth_less rows at i inv.3 pos,
      ap (way_back rows (at - 1) (get_or rows i blank).from) (front_step out x at n some inv.1 (omega (arith, inv.2, c.requires.room))) ∙ sym (back_step rows at i (drop at (take n out)) inv.3 pos) ∙ inv.4,
      drop-set-lt n out (at - 1) x (omega (arith, inv.1)) ∙ inv.5,
    )
