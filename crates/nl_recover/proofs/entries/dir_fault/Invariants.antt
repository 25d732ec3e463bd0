use Rattle.std.proofs.Common.{◌≡◌, length, None}
use Rattle.nl_meta.specs.Pages.{page_of}
use Rattle.nl_recover.specs.Entries.{PassesPlaces, named_by, place_there}
use Rattle.nl_recover.proofs.Scans.{upto}
use Rattle.nl_recover.proofs.entries.dir_fault.Given as goal

abbrev pub invariant-loop-place : goal.invariant-loop-place
invariant-loop-place l = record {
  size : length l.nodes.items ≡ length l.initial.nodes.items;
  passes : PassesPlaces l.shape (page_of l.meta) (named_by l.initial.nodes.items l.initial.names.items) (named_by l.nodes.items l.names.items) (upto (place_there (page_of l.meta) l.ino l.rec) l.place) None;
}
