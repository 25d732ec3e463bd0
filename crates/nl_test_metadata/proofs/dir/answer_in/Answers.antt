use Rattle.std.proofs.Common.{◌≡◌, ◌∙◌, List, Option, None, ℕ, ap, sym, subst, length}
use Rattle.std.proofs.lemmas.List.{length-replicate}
use Rattle.nl_meta.specs.Pages.{Pages, no_pages, page_of}
use Rattle.nl_dir.specs.Directory.{IsDirectory}
use Rattle.nl_test_metadata.proofs.dir.answer_in.Goals as goal

count : length (no_pages 103).running ≡ 103
unfolding no_pages
count = length-replicate {A = Option (List ℕ)} 103 None

pub add_first-requires-clause-directory : goal.add_first-requires-clause-directory
add_first-requires-clause-directory c = subst (λ (p : Pages). IsDirectory (page_of p) c.empty-rec.result) (sym c.requires.blank) (c.empty-rec.ensures 103)

pub add_first-requires-clause-count : goal.add_first-requires-clause-count
add_first-requires-clause-count c = ap (λ (p : Pages). length p.running) c.requires.blank ∙ count
