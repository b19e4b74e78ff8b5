-- What reading bytes as calls answers. Assumes nothing.
--
--   Decoded   the calls that the bytes are of, or that they are of none
use Rattle.std.specs.Prelude.{ℕ, List, map, Ok, Err, vec_items, Result, Vec}
use Rattle.std.specs.declared.alloc.Global.{Global}
use Rattle.model.specs.Runs.{Call as Asked}
use Rattle.session.specs.declared.call.Call.{Call}
use Rattle.session.specs.Works.{call_of}
use Rattle.wire.specs.declared.fault.CallsFault.{CallsFault}
use Rattle.wire.specs.declared.fault.CallsFault.TheVariants.{Malformed, Memory}
use Rattle.wire.specs.Calls.{Writes}

-- the calls that the bytes are of; malformed bytes are of no calls; or memory is wanting
abbrev pub Decoded : List ℕ → Result (Vec Call Global) CallsFault → Type 0
Decoded bytes (Ok calls) = Writes bytes (map call_of (vec_items calls))
Decoded bytes (Err Malformed) = (calls : List Asked) → Writes bytes calls → ⊥
Decoded bytes (Err Memory) = Unit {0}
