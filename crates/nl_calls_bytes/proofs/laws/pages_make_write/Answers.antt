use Rattle.nl_calls_bytes.proofs.laws.pages_make_write.Goals as goal
use Rattle.nl_calls_bytes.proofs.Content.{is-written}

pub returns : goal.returns
returns c = λ content from bytes pages size right some are is. is-written content from bytes pages right some are size is
