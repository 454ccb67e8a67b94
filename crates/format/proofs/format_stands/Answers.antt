use Rattle.format.proofs.format_stands.Goals as goal
use Rattle.format.proofs.Exact.{accepted_exactly}

pub returns : goal.returns
returns c = accepted_exactly
