-- Calls as they are printed. Assumes nothing.
--
--   named   a call in words, with its fact or item in decimal digits
use Rattle.std.specs.Prelude.{ℕ, List, ◌++◌, codes}
use Rattle.std.specs.Fmt.{decimal}
use Rattle.session.specs.declared.call.Call.{Call}
use Rattle.session.specs.declared.call.Call.TheVariants.{Enter, Strike, Settle, Figure, Goal}

abbrev pub named : Call → List ℕ
named (Enter f) = codes "enter " ++ decimal f
named (Strike f) = codes "strike " ++ decimal f
named (Settle n) = codes "settle"
named (Figure i) = codes "figure " ++ decimal i
named Goal = codes "goal figure"
