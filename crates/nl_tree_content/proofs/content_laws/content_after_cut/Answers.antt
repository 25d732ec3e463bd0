use Rattle.nl_tree_content.proofs.ContentProofs.{cut_laws}
use Rattle.nl_tree_content.proofs.content_laws.content_after_cut.Goals as goal

pub returns : goal.returns
returns c = cut_laws
