-- How an answer comes to the caller: by a status, and by bytes in the buffer. Assumes nothing.
--
--   none_at_fault, fault_of   no fault of a text, and a fault by number, line and place
--   told        a status without a fault
--   failed      the status of a failure
--   Delivered   the answer is in the buffer if it fits; else, and after a failure, the buffer is as it was
use Rattle.std.specs.Prelude.{◌≡◌, ℕ, ◌<◌, ◌⊎◌, List, length, Ok, Err, vec_items, Result, Vec}
use Rattle.std.specs.declared.alloc.Global.{Global}
use Rattle.textfault.specs.declared.fault.LoadFault.{LoadFault}
use Rattle.textfault.specs.Shown.{load_shown}
use Rattle.wire.specs.Placing.{Placed}
use Rattle.c_interface.specs.declared.structs.TextFault.{TextFault}
use Rattle.c_interface.specs.declared.structs.Answered.{Answered}
use Rattle.c_interface.specs.declared.why.Failure.{Failure}
use Rattle.c_interface.specs.declared.why.Failure.TheVariants.{Text, Calls, Choice, Memory}

abbrev pub none_at_fault : TextFault
none_at_fault = record { number = 0; line = 0; place = 0 }

abbrev pub fault_of : LoadFault → TextFault
fault_of e = record { number = (load_shown e).number; line = (load_shown e).line; place = (load_shown e).place }

-- a status without a fault, and how many bytes were written
abbrev pub told : ℕ → ℕ → Answered
told status n = record { status = status; fault = none_at_fault; length = n }

-- 1 a refused text, with its fault; 2 malformed calls; 3 an unknown choice; 5 no memory
abbrev pub failed : Failure → Answered
failed (Text e) = record { status = 1; fault = fault_of e; length = 0 }
failed Calls = told 2 0
failed Choice = told 3 0
failed Memory = told 5 0

-- the bytes that a vector holds
abbrev pub bytes_of : Result (Vec ℕ Global) Failure → Result (List ℕ) Failure
bytes_of (Ok v) = Ok (vec_items v)
bytes_of (Err e) = Err e

-- 0, and the bytes are at the beginning of the buffer, and behind them it is as it was; or 4, they do not fit, and all of it is as it was
abbrev pub Delivered : Result (List ℕ) Failure → List ℕ → List ℕ → Answered → Type 0
Delivered (Ok bytes) before after r =
    ((r ≡ told 0 (length bytes)) × Placed bytes before after (length bytes)) ⊎ ((r ≡ told 4 0) × (length before < length bytes) × (after ≡ before))
Delivered (Err e) before after r = (r ≡ failed e) × (after ≡ before)
