-- A page-mapped device that holds nothing can have a new volume, what is stored on it can always be opened, and how many numbers a volume
-- has in use.
use Rattle.std.proofs.Common.{◌≡◌, ℕ, zero, suc, ◌+◌, ◌<◌, List, [], ◌∷◌, ◌++◌, length, map, flat_map, Option, Some, None, refl, sym, ap, subst, ◌∙◌, arith}
use Rattle.std.proofs.lemmas.Option.{none-some, same_Some}
use Rattle.nl_field.specs.Page.{page_at}
use Rattle.nl_field.specs.declared.pointer.Pointer.{Pointer}
use Rattle.nl_field.specs.declared.pointer.Tag.{Tag}
use Rattle.nl_flight.specs.Flight.{InFlight, begun, carried, of_worker}
use Rattle.nl_flight.specs.declared.page.FlightPage.{FlightPage}
use Rattle.nl_iface.specs.Stored.{NamedAgree, NamedPage}
use Rattle.nl_nand.specs.declared.geometry.Geometry.{Geometry}
use Rattle.nl_pagemap.specs.Mapped.{Mapped, named_at, named_by, named_on, stored_in}
use Rattle.nl_pagemap.specs.Stands.{IsMapped}
use Rattle.nl_pagemap_names.specs.Table.{entry_at}
use Rattle.nl_pagemap_names.specs.declared.entry.Entry.{Entry}
use Rattle.nl_pseg_pages.specs.Pages.{main_of}

-- ---- pages of one stamp are one page

module _ {tells : Type 0} {geometry : Geometry} {s : Mapped} (f : IsMapped tells geometry s) (t : tells) where
  -- what a number was given last that has a page
  entry_for : (n : ℕ) (page : NamedPage) → named_at s n ≡ Some page → (e : Entry) × (entry_at s.table n ≡ Some e) × (e.stamp ≡ page.stamp)
  entry_for n page is = by (entry_at s.table n) refl is
    where
      by : (o : Option Entry) → entry_at s.table n ≡ o → named_by s.image o ≡ Some page → (e : Entry) × (entry_at s.table n ≡ Some e) × (e.stamp ≡ page.stamp)
      by None here none = absurd (none-some page none)
      by (Some e) here some =
          let shown = ap named_on ((f.medium t).holds n e here) in
          let same = same_Some (record { tag = e.tag; stamp = e.stamp; bytes = main_of (page_at s.image e.page) }) page (sym shown ∙ some) in
          (e, here, ap (λ (x : NamedPage). x.stamp) same)

  pub pages_agree : NamedAgree (stored_in s)
  pages_agree p q a b is_a is_b same =
      let x = entry_for p a is_a in
      let y = entry_for q b is_b in
      let one : p ≡ q = f.differ p q x.0 y.0 x.1 y.1 (x.2 ∙ (same ∙ sym y.2)) in
      same_Some a b (sym is_a ∙ (ap (λ n. named_at s n) one ∙ is_b))

-- ---- lines in flight

abbrev pages_of : InFlight → List (Tag × Pointer)
pages_of now = map (λ (page : FlightPage). (page.tag, page.at)) now.pages

pub none_carried : (flight : List InFlight) → ((worker : ℕ) → of_worker flight worker ≡ begun 0) → carried flight ≡ []
unfolding carried
none_carried [] idle = refl
none_carried (x ∷ xs) idle = ap (λ (y : InFlight). pages_of y ++ flat_map pages_of xs) (idle 0) ∙ none_carried xs (λ worker. idle (suc worker))
