-- The count of calls in the super page, and the dirty pages as a commit freezes them.
use Rattle.std.specs.Prelude.{ℕ, []}
use Rattle.nl_field.specs.SuperPage.{super_bytes}
use Rattle.nl_field.specs.declared.shape.Shape.{Shape}
use Rattle.nl_field.specs.declared.super_page.SuperRec.{SuperRec}
use Rattle.nl_meta.specs.Pages.{Pages, dirty_pages}
use Rattle.nl_meta.specs.Steps.{with_dirty}

abbrev pub record_of : Shape → ℕ → SuperRec
record_of shape count = record { version = 1; blocks = shape.blocks; pages = shape.pages; count = count }

-- the super page has this count, and is dirty
abbrev pub with_count : Shape → ℕ → Pages → Pages
with_count shape count pages = with_dirty pages 0 (super_bytes (record_of shape count))

-- the dirty pages are frozen
abbrev pub with_frozen : Pages → Pages
with_frozen pages = record pages { dirty = []; frozen = dirty_pages pages }
