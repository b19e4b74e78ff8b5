-- Failures of the layers below, as failures of a call. Assumes nothing.
--
--   of_reading   of reading a text
--   of_calls     of reading calls
use Rattle.textfault.specs.declared.fault.ReadFault.{ReadFault}
use Rattle.textfault.specs.declared.fault.ReadFault.TheVariants as reading
use Rattle.wire.specs.declared.fault.CallsFault.{CallsFault}
use Rattle.wire.specs.declared.fault.CallsFault.TheVariants as calls
use Rattle.c_interface.specs.declared.why.Failure.{Failure}
use Rattle.c_interface.specs.declared.why.Failure.TheVariants.{Text, Calls, Memory}

-- a faulty text, or no memory
abbrev pub of_reading : ReadFault → Failure
of_reading (reading.Text e) = Text e
of_reading reading.Memory = Memory

-- malformed calls, or no memory
abbrev pub of_calls : CallsFault → Failure
of_calls calls.Malformed = Calls
of_calls calls.Memory = Memory
