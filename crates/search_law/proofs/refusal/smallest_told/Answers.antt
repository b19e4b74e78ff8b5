use Rattle.search_law.proofs.Numbers.{smallest_told}
use Rattle.search_law.proofs.refusal.smallest_told.Goals as goal

pub returns : goal.returns
returns c = smallest_told
