use Rattle.std.proofs.Common.{◌≡◌, length, filter_map}
use Rattle.nl_meta.specs.Pages.{page_of}
use Rattle.nl_recover.specs.Entries.{place_there}
use Rattle.nl_recover.specs.Reaching.{reached_by, target_of, with_node}
use Rattle.nl_recover.specs.Scanning.{gathered}
use Rattle.nl_recover.proofs.Scans.{upto}
use Rattle.nl_recover.proofs.reach.visit_places.Given as goal

abbrev pub invariant-loop-place : goal.invariant-loop-place
invariant-loop-place l = record {
  size : length l.marks.items ≡ length l.initial.marks.items;
  visited : reached_by l.marks.items l.queue.items
      ≡ gathered (with_node l.shape.nodes) (reached_by l.initial.marks.items l.initial.queue.items) (filter_map target_of (upto (place_there (page_of l.meta) l.dir l.rec) l.place));
}
