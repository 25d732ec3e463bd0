use Rattle.std.proofs.Common.{subst, sym}
use Rattle.nl_tree_content.specs.Pages.{AreWhole}
use Rattle.nl_tree_content.proofs.FileProofs.{whole-put}
use Rattle.nl_tree_content.proofs.file_ops.put_overlaid.Goals as goal

pub returns-clause-whole : goal.returns-clause-whole
returns-clause-whole c = subst AreWhole (sym c.in_ok-put.ensures) (whole-put _ _ _ c.in_ok-page.ensures.whole c.requires.whole)
