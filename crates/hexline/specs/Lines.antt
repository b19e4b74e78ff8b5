-- What a line states, what is left of a text, and what reading a line answers. Assumes nothing.
--
--   bytes_of   the bytes that a line states
--   left       the text that a reader has still to read
--   ReadLine   what the next line of a text is answered with
use Rattle.std.specs.Prelude.{◌≡◌, ℕ, List, Ok, Err, Result}
use Rattle.textspec.specs.Hex.{bytes, FirstFault, LineIs}
use Rattle.hexline.specs.declared.line.Line.{Line}
use Rattle.hexline.specs.declared.line.Reader.{Reader}
use Rattle.textfault.specs.declared.fault.LineFault.{LineFault}
use Rattle.textfault.specs.Shown.{line_shown}

-- the bytes that a line states
abbrev pub bytes_of : Line → List ℕ
bytes_of l = bytes l.digits.now

-- the text that is still to be read
abbrev pub left : Reader → List ℕ
left r = r.text.now

-- the line with which the text begins, or its first fault, and then the text stays
abbrev pub ReadLine : ℕ → List ℕ → List ℕ → Result Line LineFault → Type 0
ReadLine number text rest (Ok l) = (l.number ≡ number) × LineIs text rest (bytes_of l)
ReadLine number text rest (Err e) = (rest ≡ text) × ((line_shown e).line ≡ number) × FirstFault text (line_shown e).number (line_shown e).place
