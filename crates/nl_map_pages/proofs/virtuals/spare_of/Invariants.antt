use Rattle.std.proofs.Common.{◌≡◌, ℕ, ◌/◌, ◌<◌, ◌&&◌, ◌||◌, not, false}
use Rattle.std.specs.Prelude.{◌==◌}
use Rattle.std.specs.List.{list_all, list_any}
use Rattle.nl_field.specs.Medium.{address_of}
use Rattle.nl_field.specs.ScanList.{on_list}
use Rattle.nl_field.specs.Space.{has_greatest_among}
use Rattle.nl_field.specs.SpareRecord.{stamp_of}
use Rattle.nl_map_pages.proofs.virtuals.spare_of.Given as goal

-- none of the blocks so far is one
abbrev pub invariant-blocks-2 : goal.invariant-blocks-2
invariant-blocks-2 l =
    (i : ℕ) → i < l.block
    → list_all (λ r. not (r.page / l.size == i && has_greatest_among on_list l.pages r)
    || list_any (λ q. not (q.page / l.size == i) && (address_of q.rec == address_of r.rec && stamp_of q.rec == stamp_of r.rec)) l.pages) l.pages ≡ false
