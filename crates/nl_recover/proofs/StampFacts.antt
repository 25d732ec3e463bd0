-- The first page that does not agree with a lower one, segment by segment.
use Rattle.std.proofs.Common.{◌≡◌, List, find, not, ap, option_map}
use Rattle.nl_field.specs.ScanList.{physical_seen, virtual_seen}
use Rattle.nl_field.specs.declared.seen.Seen.{Seen}
use Rattle.nl_field.specs.declared.shape.Shape.{Shape}
use Rattle.nl_meta.specs.Walk.{stamp_fault}
use Rattle.nl_recover.specs.Phases.{is_physical_apart, is_physical_page, is_virtual_apart, is_virtual_page}
use Rattle.nl_recover.proofs.Firsts.{find-filter}

pub virtual_first : (shape : Shape) (seen : List Seen) → stamp_fault (virtual_seen shape seen) ≡ option_map (λ s. s.page) (find (is_virtual_apart shape) seen)
unfolding stamp_fault virtual_seen
virtual_first shape seen = ap (option_map (λ s. s.page)) (find-filter (λ s. not s.agrees) (is_virtual_page shape) seen)

pub physical_first : (shape : Shape) (seen : List Seen) → stamp_fault (physical_seen shape seen) ≡ option_map (λ s. s.page) (find (is_physical_apart shape) seen)
unfolding stamp_fault physical_seen
physical_first shape seen = ap (option_map (λ s. s.page)) (find-filter (λ s. not s.agrees) (is_physical_page shape) seen)
