use Rattle.std.proofs.Common.{refl}
use Rattle.nl_field.specs.Inode.{are_filled, is_inode_of_kind}
use Rattle.nl_meta.specs.Pages.{no_pages, page_of}
use Rattle.nl_dir.proofs.LawProofs.{empty_is_directory}
use Rattle.nl_test_metadata.proofs.dir.empty.Goals as goal

pub returns : goal.returns
unfolding is_inode_of_kind are_filled
returns c = λ count. empty_is_directory (page_of (no_pages count)) _ refl refl refl
