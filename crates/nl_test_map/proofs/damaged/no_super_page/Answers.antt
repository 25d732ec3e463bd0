use Rattle.std.proofs.Common.{refl}
use Rattle.std.specs.Fmt.{digits}
use Rattle.nl_map.specs.Text.{blocks_text, totals_text}
use Rattle.nl_map_pages.specs.Marks.{look_of}
use Rattle.nl_meta.proofs.OnLiterals.{meta_on_literals}
use Rattle.nl_test_map.proofs.damaged.no_super_page.Goals as goal

pub returns : goal.returns
unfolding digits blocks_text look_of meta_on_literals totals_text
returns c = refl
