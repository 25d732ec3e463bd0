use Rattle.nl_tree_content.proofs.ContentProofs.{write_laws}
use Rattle.nl_tree_content.proofs.content_laws.content_after_write.Goals as goal

pub returns : goal.returns
returns c = write_laws
