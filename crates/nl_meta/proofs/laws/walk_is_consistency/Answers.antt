use Rattle.nl_meta.proofs.WalkProofs.{walk_is_consistency, walk_over_is_consistency}
use Rattle.nl_meta.proofs.laws.walk_is_consistency.Goals as goal

pub returns-clause-image : goal.returns-clause-image
returns-clause-image c = walk_is_consistency

pub returns-clause-any : goal.returns-clause-any
returns-clause-any c = walk_over_is_consistency
