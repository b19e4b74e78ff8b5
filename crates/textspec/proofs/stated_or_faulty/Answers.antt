use Rattle.textspec.proofs.Each.{stated_or_faulty}
use Rattle.textspec.proofs.stated_or_faulty.Goals as goal

pub returns : goal.returns
returns c = stated_or_faulty
