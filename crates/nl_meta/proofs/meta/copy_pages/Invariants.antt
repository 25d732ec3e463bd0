use Rattle.std.proofs.Common.{◌≡◌, take, length, map}
use Rattle.std.specs.Prelude.{slice_index_or}
use Rattle.nl_meta.specs.Inside.{no_page}
use Rattle.nl_meta.proofs.meta.copy_pages.Given as goal

abbrev pub invariant-loop-i : goal.invariant-loop-i
invariant-loop-i l = record {
  size : length l.images.items ≡ length l.fn.images.items;
  copied : take l.i l.images.items ≡ map (λ v. slice_index_or l.pages v no_page) (take l.i l.addresses);
}
