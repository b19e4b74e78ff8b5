use Rattle.std.proofs.Common.{◌≡◌, ℕ, ◌+◌, ◌-◌, ◌<◌, ◌⊎◌, false, ◌&&◌, leb, length, get_or, drop, ap, ◌∙◌, subst, ⊎_elim, arith, length-drop}
use Rattle.std.proofs.lemmas.List.{take_all}
use Rattle.hexline.specs.Lines.{bytes_of}
use Rattle.textspec.specs.declared.due.Due.TheVariants.{Goal, Start}
use Rattle.strips.specs.Lists.{listed}
use Rattle.strips.specs.Fitting.{below}
use Rattle.textspec.proofs.Hexes.{length_bytes}
use Rattle.textspec.proofs.Shapes.{Listing, list_goal, list_start, rest_under}
use Rattle.tasktext.proofs.Frames.{passed_as}
use Rattle.tasktext.specs.declared.frame.Frame.{Frame}
use Rattle.tasktext.proofs.frame.Frame.facts.Goals as goal

shape : (f : Frame) (n : ℕ) → (f.due ≡ Goal n) ⊎ (f.due ≡ Start n) → Listing (bytes_of f.line)
shape f n e = ⊎_elim (λ g. list_goal n (bytes_of f.line) (passed_as f (Goal n) g)) (λ s. list_start n (bytes_of f.line) (passed_as f (Start n) s)) e

bound : (f : Frame) (n : ℕ) → (f.due ≡ Goal n) ⊎ (f.due ≡ Start n) → (k : ℕ) → k < length (bytes_of f.line) → (leb 2 k && leb n (get_or (bytes_of f.line) k 0)) ≡ false
bound f n e = ⊎_elim (λ g. (passed_as f (Goal n) g).bound) (λ s. (passed_as f (Start n) s).bound) e

pub list-requires : goal.list-requires
list-requires c =
    let f = c.args.self.now in
    let b = bytes_of f.line in
    let h = shape f c.args.facts c.requires in
    let l = length_bytes f.line.digits.now in
    let few = f.line.few in
    let e1 = c.byte.ensures in (
      omega arith,
      (
        omega arith,
        (
          omega arith,
          λ k i.
              let e : 2 + k + 1 - 1 ≡ 2 + k = omega arith in
              subst (λ j. get_or b j 0 < get_or b (2 + k + 1) 0) e (h.rising (2 + k + 1) (omega arith) (omega arith)),
        ),
      ),
    )

pub returns-clause-fit : goal.returns-clause-fit
returns-clause-fit c =
    let f = c.args.self.now in
    let n = c.args.facts in
    let b = bytes_of f.line in
    let h = shape f n c.requires in
    let e1 = c.byte.ensures in
    let rest : listed c.list.result ≡ drop 2 b = c.list.ensures ∙ take_all c.byte.result (drop 2 b) (omega (arith, length-drop 2 b, h.size)) in
    ap (below n) rest ∙ rest_under n b h.some (bound f n c.requires)
