use Rattle.nl_calls_files.proofs.laws.lines_write_over.Goals as goal
use Rattle.nl_calls_files.proofs.LineWrites.{lines_write_over}

pub returns : goal.returns
returns c = lines_write_over
