use Rattle.std.proofs.Common.{◌≡◌, ℕ, suc, ◌+◌, ◌<◌, ◌≤◌, get_or, sym, subst, arith}
use Rattle.rows.specs.Rows.{blank}
use Rattle.search_law.specs.Boards.{Depth}
use Rattle.search_law.proofs.Successors.{any}
use Rattle.search.proofs.trace.depth.Goals as goal

pub loop-i-init : goal.loop-i-init
loop-i-init c = (c.requires.fits.0, λ m d. subst (λ n. Depth c.args.rows.now n c.args.row) (omega arith) d, omega arith)

pub overflow_add-n : goal.overflow_add-n
overflow_add-n c =
    let i = c.loop-i.i in
    let inv = c.loop-i.invariant in
    let h = c.requires.rooted i (omega (arith, c.loop-i-test.true)) inv.0 in
    omega (arith, inv.2, c.requires.low, c.requires.fits.1, h.1)

pub loop-i-preserved : goal.loop-i-preserved
loop-i-preserved c =
    let rows = c.args.rows.now in
    let i = c.loop-i.i in
    let n = c.loop-i.n in
    let row = c.args.row in
    let inv = c.loop-i.invariant in
    let pos : 0 < i = omega (arith, c.loop-i-test.true) in
    let h = c.requires.rooted i pos inv.0 in
    let e = any rows i c.index-rows-i.result (omega (arith, inv.0, c.requires.fits.1)) in
    subst (λ w. (w.from < c.args.used) × ((m : ℕ) → Depth rows m w.from → Depth rows (n + 1 + m) row) × (n + 1 + (get_or rows w.from blank).steps ≤ (get_or rows row blank).steps)) (sym e)
    (h.0, λ m d. let q : n + suc m ≡ n + 1 + m = omega arith in subst (λ k. Depth rows k row) q (inv.1 (suc m) (pos, d)), omega (arith, inv.2, h.1))

pub loop-i-smaller : goal.loop-i-smaller
loop-i-smaller c =
    let rows = c.args.rows.now in
    let i = c.loop-i.i in
    let e = any rows i c.index-rows-i.result (omega (arith, c.loop-i.invariant.0, c.requires.fits.1)) in
    subst (λ w. (get_or rows w.from blank).steps < (get_or rows i blank).steps) (sym e) (c.requires.rooted i (omega (arith, c.loop-i-test.true)) c.loop-i.invariant.0).1

pub returns : goal.returns
returns c =
    let rows = c.args.rows.now in
    let inv = c.loop-i.invariant in
    let z : c.loop-i.i ≡ 0 = omega (arith, c.loop-i-test.false) in
    let e : c.loop-i.n + 0 ≡ c.loop-i.n = omega arith in
    record { far = subst (λ n. Depth rows n c.args.row) e (inv.1 0 z); low = omega (arith, inv.2) }
