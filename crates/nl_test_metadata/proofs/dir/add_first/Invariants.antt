use Rattle.std.proofs.Common.{◌≡◌, length}
use Rattle.nl_meta.specs.Pages.{page_of}
use Rattle.nl_dir.specs.Directory.{IsDirectory}
use Rattle.nl_test_metadata.proofs.dir.add_first.Given as goal

abbrev pub invariant-loop-n : goal.invariant-loop-n
invariant-loop-n l = record { directory : IsDirectory (page_of l.meta) l.rec; count : length l.meta.running ≡ 103 }
