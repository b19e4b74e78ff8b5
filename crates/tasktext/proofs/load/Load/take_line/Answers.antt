use Rattle.std.proofs.Common.{◌≡◌, ◌+◌, ◌⊎◌, None, refl, ap, ◌∙◌, subst}
use Rattle.std.proofs.lemmas.Result.{err_from_is_err_and}
use Rattle.textspec.specs.Hex.{FirstFault}
use Rattle.textspec.specs.Refusals.{refusal}
use Rattle.textspec.specs.Texts.{IsFrameFault}
use Rattle.hexline.specs.Lines.{bytes_of, left}
use Rattle.textfault.specs.Shown.{frame_shown}
use Rattle.tasktext.proofs.Meant.{due_is}
use Rattle.tasktext.proofs.load.Load.take_line.Goals as goal

pub returns-in_err-frame : goal.returns-in_err-frame
returns-in_err-frame c =
    let p = err_from_is_err_and c.from_residual.result c.from_residual.ensures.1 in
    let h = c.in_err-frame.ensures in
    let s = c.args.self.now in
    let f = frame_shown c.in_err-frame.field-0.0 in
    let text = left c.args.reader.now in
    rw (p.1, p.2) (
      refl,
      h.0,
      record {
        line = h.1 ∙ ap (λ n. n + 1) c.accepted.ensures.count;
        why = subst (λ d. FirstFault text f.number f.place ⊎ IsFrameFault d text f.number f.place) (due_is s) h.2;
      },
    )

pub returns : goal.returns
returns c =
    let h = c.in_ok-frame.ensures in
    let f = c.in_ok-frame.frame in
    let b = bytes_of f.line in
    record { bytes = b; line = h.1; none = subst (λ d. refusal d b ≡ None) (h.0 ∙ due_is c.args.self.now) f.accepted; moved = c.put.ensures }
