use Rattle.linda_core.proofs.FifoLemmas.{fifo}
use Rattle.linda_core.proofs.history.fifo_law.Goals as goal

pub returns : goal.returns
returns c = fifo
