-- What a session refuses, by number and in words. Assumes nothing.
--
--   number_of   the number of a refusal
--   worded      a refusal in words
use Rattle.std.specs.Prelude.{ℕ, List, Some, None, Option, codes}
use Rattle.session.specs.declared.fault.SessionFault.{SessionFault}
use Rattle.session.specs.declared.fault.SessionFault.TheVariants.{Unknown, Unsettled, DocketShort, QueueUnfit, Memory}

-- an unknown fact or item is 8, an unsettled session 9, a short docket 10, a queue not empty or too small 11; want of memory has no number; none has values
abbrev pub number_of : SessionFault → Option ℕ
number_of Unknown = Some 8
number_of Unsettled = Some 9
number_of DocketShort = Some 10
number_of QueueUnfit = Some 11
number_of Memory = None

-- the words that a reader is shown, the number among them
abbrev pub worded : SessionFault → List ℕ
worded Unknown = codes "refused 8: no such fact or item"
worded Unsettled = codes "refused 9: not settled"
worded DocketShort = codes "refused 10: the docket is short"
worded QueueUnfit = codes "refused 11: the queue does not fit"
worded Memory = codes "refused: no memory"
