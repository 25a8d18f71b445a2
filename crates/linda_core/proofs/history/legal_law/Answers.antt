use Rattle.linda_core.proofs.Callers.{legal_of}
use Rattle.linda_core.proofs.history.legal_law.Goals as goal

pub returns : goal.returns
returns c = legal_of
