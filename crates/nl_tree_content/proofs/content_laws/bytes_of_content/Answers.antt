use Rattle.nl_tree_content.proofs.ContentProofs.{byte_laws}
use Rattle.nl_tree_content.proofs.content_laws.bytes_of_content.Goals as goal

pub returns : goal.returns
returns c = byte_laws
