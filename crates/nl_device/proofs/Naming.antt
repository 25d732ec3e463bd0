-- What a write under a new name leaves of the medium.
use Rattle.std.proofs.Common.{◌≡◌, ◌⊎◌, inl, inr, ⊎_elim, ℕ, ◌+◌, ◌*◌, ◌/◌, ◌<◌, ◌≤◌, nat_lt, cond, List, [], Option, Some, None, refl, sym, ◌∙◌, ap, subst, arith}
use Rattle.std.specs.Prelude.{Contains}
use Rattle.std.proofs.lemmas.Bool.{cases_lt, cases_eq}
use Rattle.std.proofs.lemmas.Option.{none-some, same_Some}
use Rattle.nl_field.specs.Page.{Image, Page, written, page_at}
use Rattle.nl_field.specs.declared.pointer.Tag.{Tag}
use Rattle.nl_field.specs.declared.shape.Shape.{Shape}
use Rattle.nl_nand.specs.Nand.{ImageOf}
use Rattle.nl_nand.specs.declared.geometry.Geometry.{Geometry}
use Rattle.nl_iface.specs.Left.{ChangesInBlock, HoldsLive, IsOutcomeOfWrite, LeavesTried}
use Rattle.nl_iface.specs.Names.{IsNewName}
use Rattle.nl_iface.specs.Stored.{NamedPage, Value, stored_in, Stored}
use Rattle.nl_pseg.specs.Effects.{PreservesSegment, PlacesOnImage, PageIsProgrammed, TakesImagePage}
use Rattle.nl_pseg.specs.Pages.{IsUnreadable, main_of, page_with, shown_by}
use Rattle.nl_pseg.specs.Segment.{CanSpareBlock, IsDead, IsPhysicalOf, Physical, held_at, wear_of}
use Rattle.nl_pseg.specs.Space.{IsWhole}
use Rattle.nl_pseg.specs.declared.held.Held.{Held}
use Rattle.nl_vseg.specs.Maps.{Dominated}
use Rattle.nl_vseg.specs.Pages.{PageShows, fact_of}
use Rattle.nl_vseg.specs.Pages as virtual
use Rattle.nl_vseg.specs.Places.{map_of, place_of, value_at}
use Rattle.nl_vseg.specs.Segment.{IsSegmentOf, Segment}
use Rattle.nl_vseg.specs.declared.place.Place.{Place}
use Rattle.nl_device.specs.Device.{HasLive, HasMapped, HasSegments, HasSpareBlock}
use Rattle.nl_device.specs.Laws.{leaves_as}
use Rattle.nl_device.specs.State.{held_of}
use Rattle.nl_device.specs.State.{to_itself}
use Rattle.nl_device.proofs.Leaving.{NamesHold, leaves_pages, led_before, named_either, names_still, spare_either}
use Rattle.nl_device.specs.Shown.{IsStray, bytes_at, live_page, names_of}
use Rattle.nl_device.proofs.Forms.{as_firm, begins, named_below, named_from, same_below, same_form, shape_is}
use Rattle.nl_device.proofs.Made.{live_held}
use Rattle.nl_device.proofs.PhysicalPages.{named_of}
use Rattle.nl_callbacks.specs.Pending.{PendingTable}
use Rattle.nl_device.specs.Callbacks.{names_with}

unread : (page : Page) → IsUnreadable page → named_of (shown_by page) ≡ None
unread page (inl is) = ap (λ p. named_of (shown_by p)) is
unread page (inr is) = ap (λ p. named_of (shown_by p)) is

-- whichever of the two, a page is as it was, or it was not live and nothing is read from it, or it is the new one
pub either_each : {seg : Physical} {page : ℕ} {value : Page} {old c : Image} → PreservesSegment seg old c ⊎ TakesImagePage seg page value old c → (p : ℕ) → (page_at c p ≡ page_at old p) ⊎ IsDead seg p
either_each (inl k) p = ⊎_elim (λ same. inl same) (λ dead. inr dead.0) (k.each p)
either_each {seg} {page} (inr k) p = ⊎_elim (λ is. inr (subst (IsDead seg) (sym is) k.dead)) (λ ne. ⊎_elim (λ same. inl same) (λ dead. inr dead.0) (k.others p ne)) (cases_eq p page)

-- with or without what the page shows
pub to_takes : {seg : Physical} {page stamp : ℕ} {tag : Tag} {main : List ℕ} {old c : Image} → PreservesSegment seg old c ⊎ PlacesOnImage seg page tag stamp main old c → PreservesSegment seg old c ⊎ TakesImagePage seg page (written (page_with main tag stamp (wear_of seg (page / seg.size)))) old c
to_takes (inl k) = inl k
to_takes (inr k) = inr k.takes

-- what a page shows that was programmed
pub shown_from : (tag : Tag) (stamp wear : ℕ) (main : List ℕ) (page : Page) → page ≡ written (page_with main tag stamp wear) → shown_by page ≡ Some (tag, stamp, main_of page) → shown_by (written (page_with main tag stamp wear)) ≡ Some (tag, stamp, main)
shown_from tag stamp wear main page is shows = subst (λ (p : Page). shown_by p ≡ Some (tag, stamp, main_of p)) is shows

-- after a write under a new name a page of the virtual segment is as it was
pub either_low : {seg : Physical} {page : ℕ} {value : Page} {old c : Image} → PreservesSegment seg old c ⊎ TakesImagePage seg page value old c → (p : ℕ) → p < seg.first * seg.size → page_at c p ≡ page_at old p
either_low k p below = ⊎_elim (λ same. same) (λ dead. let from = dead.within.0 in absurd (omega (arith, below, from))) (either_each k p)

-- after a write under a new name a live page is as it was
pub either_live : {seg : Physical} {page : ℕ} {value : Page} {old c : Image} → PreservesSegment seg old c ⊎ TakesImagePage seg page value old c → (p : ℕ) (h : Held) → held_at seg p ≡ Some h → page_at c p ≡ page_at old p
either_live k p h has = ⊎_elim (λ same. same) (λ dead. absurd (none-some h (sym dead.dead ∙ has))) (either_each k p)

-- once the page was programmed it is there, and what else changed is what may
pub placed_takes : {seg : Physical} {page name : ℕ} {value : Page} {old c : Image} → PreservesSegment seg old c ⊎ TakesImagePage seg page value old c → page ≡ name → PageIsProgrammed seg name value old c → TakesImagePage seg name value old c
placed_takes (inl k) is p = record { dead = p.dead; has = p.has; others = λ q ne. k.each q }
placed_takes {seg} {page} {name} {value} {old} {c} (inr k) is p = subst (λ n. TakesImagePage seg n value old c) is k

pub live_bytes : (first : ℕ) (old c : Image) (p : ℕ) → page_at c p ≡ page_at old p → bytes_at first c p ≡ bytes_at first old p
live_bytes first old c p same = ap (λ page. cond (nat_lt p first) [] (main_of page)) same

-- ---- the virtual segment

value_same : (old c : Image) (bound : ℕ) (place : Option Place) → ((p : Place) → place ≡ Some p → p.page < bound) → ((p : ℕ) → p < bound → page_at c p ≡ page_at old p) → value_at c place ≡ value_at old place
value_same old c bound None within same = refl
value_same old c bound (Some p) within same = ap (λ page. Some (p.stamp, virtual.main_of page)) (same p.page (within p refl))

pub map_same : (old c : Image) (vseg : Segment) → HasMapped vseg → ((p : ℕ) → p < vseg.bound → page_at c p ≡ page_at old p) → (v : ℕ) → map_of vseg.places c v ≡ map_of vseg.places old v
map_same old c vseg has same v = value_same old c vseg.bound (place_of vseg.places v) (λ p is. has.places_in v p is) same

pub virtual_kept : (old c : Image) (vseg : Segment) → HasMapped vseg → ((p : ℕ) → p < vseg.bound → page_at c p ≡ page_at old p) → IsSegmentOf old vseg → IsSegmentOf c vseg
virtual_kept old c vseg has same is = record {
  holds = λ v place named.
      let e : page_at c place.page ≡ page_at old place.page = same place.page (has.places_in v place named) in
      ap fact_of e ∙ (is.holds v place named ∙ ap (λ page. Some (v, place.stamp, virtual.main_of page)) (sym e));
  erased_is = λ p blank. same p (has.blank_in p blank) ∙ is.erased_is p blank;
}

pub shows_same : (bound : ℕ) (old c : Image) → ((p : ℕ) → p < bound → page_at c p ≡ page_at old p) → (v t : ℕ) (n : List ℕ) → PageShows bound c v t n → PageShows bound old v t n
shows_same bound old c same v t n shows = (shows.0, shows.1, ap fact_of (sym (same shows.0 shows.1)) ∙ shows.2)

pub shows_still : (bound : ℕ) (old c : Image) → ((p : ℕ) → p < bound → page_at c p ≡ page_at old p) → (v t : ℕ) (n : List ℕ) → PageShows bound old v t n → PageShows bound c v t n
shows_still bound old c same v t n shows = (shows.0, shows.1, ap fact_of (same shows.0 shows.1) ∙ shows.2)

pub stray_same : (bound : ℕ) (old c : Image) (map now : ℕ → Option Value) → ((p : ℕ) → p < bound → page_at c p ≡ page_at old p) → ((v : ℕ) → now v ≡ map v) → (v : ℕ) (x : Value) → IsStray bound c now v x → IsStray bound old map v x
stray_same bound old c map now same is v x stray = record {
  shown = shows_same bound old c same v x.0 x.1 stray.shown;
  newer = λ d. stray.newer (subst (λ o. Dominated o x.0 x.1) (sym (is v)) d);
}

-- ---- what a stop leaves

module _ (geometry : Geometry) (shape : Shape) (vseg : Segment) (seg : Physical) (old c : Image) (segments : HasSegments geometry shape vseg seg) (old_fits : ImageOf geometry old) (c_fits : ImageOf geometry c) (live : HasLive seg) (is : IsPhysicalOf old seg) where
  first_is : seg.first * seg.size ≡ shape.vblocks * shape.pages
  first_is = begins segments

  -- a page that is as it was
  pub named_same : (p : ℕ) → page_at c p ≡ page_at old p → (stored_in c).named p ≡ (stored_in old).named p
  named_same p same = ⊎_elim
      (λ lt. named_below shape c (shape_is segments c_fits) p lt ∙ sym (named_below shape old (shape_is segments old_fits) p lt))
      (λ le. named_from shape c (shape_is segments c_fits) p le ∙ (ap (λ page. named_of (shown_by page)) same ∙ sym (named_from shape old (shape_is segments old_fits) p le)))
      (cases_lt p (shape.vblocks * shape.pages))

  -- a page of the segment from which nothing is read
  pub named_none : (p : ℕ) → IsUnreadable (page_at c p) → (stored_in c).named p ≡ None
  named_none p un = ⊎_elim
      (λ lt. named_below shape c (shape_is segments c_fits) p lt)
      (λ le. named_from shape c (shape_is segments c_fits) p le ∙ unread (page_at c p) un)
      (cases_lt p (shape.vblocks * shape.pages))

  pub addresses_same : ((p : ℕ) → p < seg.first * seg.size → page_at c p ≡ page_at old p) → (v : ℕ) → (stored_in c).virtual v ≡ (stored_in old).virtual v
  addresses_same same = same_below shape old c (shape_is segments old_fits) (same_form old c old_fits c_fits) (subst (λ n. (p : ℕ) → p < n → page_at c p ≡ page_at old p) first_is same)

  pub firm_kept : ((p : ℕ) → p < seg.first * seg.size → page_at c p ≡ page_at old p) → (stored_in c).firm ≡ (stored_in old).firm
  firm_kept same = as_firm shape old c (shape_is segments old_fits) (same_form old c old_fits c_fits) (subst (λ n. (p : ℕ) → p < n → page_at c p ≡ page_at old p) first_is same)

  pub holds_live : ((p : ℕ) (h : Held) → held_at seg p ≡ Some h → page_at c p ≡ page_at old p) → HoldsLive (names_of seg).live (λ p. bytes_at (shape.vblocks * shape.pages) old p) (stored_in c)
  holds_live same p page has =
      let h = held_of (held_at seg p) page has in
      named_same p (same p h.0 h.1) ∙ live_held segments old_fits live is p page has

  dead_live : (p : ℕ) → IsDead seg p → (names_of seg).live p ≡ None
  dead_live p dead = ap live_page dead.dead

  is_new_page : (page : ℕ) → IsDead seg page → IsNewName shape (names_of seg) page
  is_new_page page dead = record {
    low = subst (λ n. n ≤ page) first_is dead.within.0;
    high = subst (λ n. page < n) (λ i. segments.physical_blocks i * segments.physical_pages i) dead.within.1;
    dead = dead_live page dead;
    own = to_itself seg.pairs page dead.own;
  }

  -- the page that was programmed holds what it shows
  pub programmed_named : (page : ℕ) (tag : Tag) (stamp wear : ℕ) (main : List ℕ) → shown_by (written (page_with main tag stamp wear)) ≡ Some (tag, stamp, main) → TakesImagePage seg page (written (page_with main tag stamp wear)) old c
      → (stored_in c).named page ≡ Some (record { tag = tag; stamp = stamp; bytes = main })
  programmed_named page tag stamp wear main shows k =
      named_from shape c (shape_is segments c_fits) page (subst (λ n. n ≤ page) first_is k.dead.within.0) ∙ (ap (λ p. named_of (shown_by p)) k.has ∙ ap named_of shows)

  -- what a stop leaves of a page
  pub tried_page : (page stamp : ℕ) (tag : Tag) (main : List ℕ) → PreservesSegment seg old c ⊎ PlacesOnImage seg page tag stamp main old c → (p : ℕ) → IsOutcomeOfWrite shape (names_of seg) (record { tag = tag; stamp = stamp; bytes = main }) (stored_in old) (stored_in c) p
  tried_page page stamp tag main (inl k) p = ⊎_elim
      (λ same. inl (named_same p same))
      (λ dead. inr (inl (record { dead = dead_live p dead.0; own = to_itself seg.pairs p dead.0.own }, named_none p dead.1)))
      (k.each p)
  tried_page page stamp tag main (inr k) p = ⊎_elim
      (λ here. inr (inr (
        subst (IsNewName shape (names_of seg)) (sym here) (is_new_page page k.takes.dead),
        ap (stored_in c).named here ∙ programmed_named page tag stamp (wear_of seg (page / seg.size)) main k.shows k.takes,
      )))
      (λ ne. ⊎_elim
      (λ same. inl (named_same p same))
      (λ dead. inr (inl (record { dead = dead_live p dead.0; own = to_itself seg.pairs p dead.0.own }, named_none p dead.1)))
      (k.takes.others p ne))
      (cases_eq p page)

  pub leaves_tried : (page stamp : ℕ) (tag : Tag) (main : List ℕ) → HasSpareBlock seg → CanSpareBlock old seg → NamesHold shape (names_of seg) (stored_in old) → PreservesSegment seg old c ⊎ PlacesOnImage seg page tag stamp main old c
      → LeavesTried shape (names_of seg) (λ p. bytes_at (shape.vblocks * shape.pages) old p) (record { tag = tag; stamp = stamp; bytes = main }) (stored_in old) (stored_in c)
  leaves_tried page stamp tag main spare on names k =
      let holds = holds_live (either_live (to_takes k)) in
      record {
        same_virtual = record { values = addresses_same (either_low (to_takes k)); firm = firm_kept (either_low (to_takes k)) };
        holds = holds;
        pages = leaves_pages segments c_fits live spare (spare_either seg old c (either_each (to_takes k)) on) (λ p. bytes_at (shape.vblocks * shape.pages) old p) holds
            (names_still names (λ name page has. inl (has, named_same name (named_either seg old c (either_each (to_takes k)) name page has))));
        others = tried_page page stamp tag main k;
      }

  -- no page has a stamp from this one on
  pub below_after : (page stamp after : ℕ) (tag : Tag) (main : List ℕ) → PreservesSegment seg old c ⊎ PlacesOnImage seg page tag stamp main old c → ((p : ℕ) (n : NamedPage) → (stored_in old).named p ≡ Some n → n.stamp + 1 ≤ after) → stamp + 1 ≤ after
      → (p : ℕ) (n : NamedPage) → (stored_in c).named p ≡ Some n → n.stamp + 1 ≤ after
  below_after page stamp after tag main k was new p n is = by (tried_page page stamp tag main k p)
    where
      by : IsOutcomeOfWrite shape (names_of seg) (record { tag = tag; stamp = stamp; bytes = main }) (stored_in old) (stored_in c) p → n.stamp + 1 ≤ after
      by (inl same) = was p n (sym same ∙ is)
      by (inr (inl gone)) = absurd (none-some n (sym gone.1 ∙ is))
      by (inr (inr here)) = subst (λ (x : NamedPage). x.stamp + 1 ≤ after) (same_Some (record { tag = tag; stamp = stamp; bytes = main }) n (sym here.1 ∙ is)) new

  -- a new name
  pub is_new : (page : ℕ) → IsDead seg page → IsNewName shape (names_of seg) page
  is_new page dead = is_new_page page dead

  -- What the names lead to holds its stamps still, after a call of which each new page is on the medium.
  pub names_after : (new : Physical) → IsWhole seg → ((p : ℕ) → (page_at c p ≡ page_at old p) ⊎ IsDead seg p) → ((n t : ℕ) → Contains new.pairs (n, t) → Contains seg.pairs (n, t)) → (New : ℕ → Type 0) → ((p : ℕ) → New p → held_at seg p ≡ None)
      → ((p : ℕ) (h : Held) → held_at new p ≡ Some h → (held_at seg p ≡ Some h) ⊎ New p) → (bytes : ℕ → List ℕ) → HoldsLive (names_of new).live bytes (stored_in c) → NamesHold shape (names_of seg) (stored_in old) → NamesHold shape (names_of new) (stored_in c)
  names_after new whole either fewer New fresh less bytes holds names = names_still names (λ name page has. ⊎_elim
      (λ was. inl (was, named_same name (named_either seg old c either name page was)))
      (λ made. inr (record { tag = page.tag; stamp = page.stamp; bytes = bytes name }, holds name page made.1, refl))
      (led_before seg new whole fewer New fresh less name page has))

  pub in_block : (name : ℕ) (value : Page) → PageIsProgrammed seg name value old c → ChangesInBlock shape.pages name (stored_in old) (stored_in c)
  in_block name value k p ne = ⊎_elim
      (λ same. inl (named_same p same))
      (λ wiped. inr (subst (λ n. p / n ≡ name / n) segments.physical_pages wiped.0, named_none p (inl wiped.3)))
      (k.others p ne)

-- what is said of names does not hang on the callbacks
pub new_as : {shape : Shape} {page : ℕ} (pseg : Physical) (table : PendingTable) → IsNewName shape (names_of pseg) page → IsNewName shape (names_with pseg table) page
new_as pseg table is = record { low = is.low; high = is.high; dead = is.dead; own = is.own }

pub tried_as : {shape : Shape} {bytes : ℕ → List ℕ} {new : NamedPage} {old c : Stored} (pseg : Physical) (table : PendingTable) → LeavesTried shape (names_of pseg) bytes new old c → LeavesTried shape (names_with pseg table) bytes new old c
tried_as {shape} {bytes} {new} {old} {c} pseg table l = record {
  same_virtual = l.same_virtual;
  holds = l.holds;
  pages = leaves_as pseg table l.pages;
  others = λ p. by p (l.others p);
}
  where
    by : (p : ℕ) → IsOutcomeOfWrite shape (names_of pseg) new old c p → IsOutcomeOfWrite shape (names_with pseg table) new old c p
    by p (inl same) = inl same
    by p (inr (inl gone)) = inr (inl (record { dead = gone.0.dead; own = gone.0.own }, gone.1))
    by p (inr (inr here)) = inr (inr (new_as pseg table here.0, here.1))
