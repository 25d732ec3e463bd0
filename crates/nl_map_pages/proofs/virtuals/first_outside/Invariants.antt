use Rattle.std.proofs.Common.{◌≡◌, ◌&&◌, drop}
use Rattle.std.specs.Prelude.{find}
use Rattle.nl_field.specs.Space.{is_outside}
use Rattle.nl_map_pages.specs.Looks.{is_current}
use Rattle.nl_map_pages.proofs.virtuals.first_outside.Given as goal

abbrev pub invariant-loop-page : goal.invariant-loop-page
invariant-loop-page l =
    find (λ s. is_current l.pages l.address s && is_outside l.size l.spare s.page) (drop l.page-index l.pages)
    ≡ find (λ s. is_current l.pages l.address s && is_outside l.size l.spare s.page) l.pages
