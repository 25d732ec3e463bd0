-- What the metadata pages become once the borrow of one of them has ended.
use Rattle.std.specs.Prelude.{ℕ, Option}
use Rattle.std.specs.Borrow.{Lends, LendsIf, MutBor, Fml}
use Rattle.nl_field.specs.Page.{PageBytes}
use Rattle.nl_field.specs.contracts.page_buf.PageBuf as page
use Rattle.nl_meta.specs.Pages.{Pages}
use Rattle.nl_meta.specs.Steps.{with_admitted, with_dirty, with_page}
use Rattle.nl_meta.specs.contracts.meta.Meta.{the_row}

-- the page of an address is the last one behind the borrow
abbrev pub LendsPage : MutBor Pages → ℕ → MutBor PageBytes → Fml
LendsPage p v r = Lends the_row page.the_row p r (λ page. with_page p.now v page.main)

-- the page of an address is the last one behind the borrow, and dirty; at None all is as before
abbrev pub LendsDirty : MutBor Pages → ℕ → Option (MutBor PageBytes) → Fml
LendsDirty p v r = LendsIf the_row page.the_row p r (λ page. with_dirty p.now v page.main) p.now

-- the page of an address is the last one behind the borrow, resident and touched
abbrev pub LendsAdmitted : MutBor Pages → ℕ → MutBor PageBytes → Fml
LendsAdmitted p v r = Lends the_row page.the_row p r (λ page. with_admitted p.now v page.main)
