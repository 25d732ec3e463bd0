use Rattle.std.proofs.Common.{◌≡◌, ◌∙◌, List, Option, None, ℕ, ap, length}
use Rattle.std.proofs.lemmas.List.{length-replicate}
use Rattle.nl_meta.specs.Pages.{Pages, no_pages}
use Rattle.nl_test_metadata.proofs.inode.bytes_at.Goals as goal

count : length (no_pages 103).running ≡ 103
unfolding no_pages
count = length-replicate {A = Option (List ℕ)} 103 None

pub bytes_in-found-requires-clause-count : goal.bytes_in-found-requires-clause-count
bytes_in-found-requires-clause-count c = ap (λ (p : Pages). length p.running) c.in_ok-meta.ensures ∙ count
