-- The device once the listed pointers are live.
use Rattle.std.proofs.Common.{◌≡◌, ℕ, ◌+◌, ◌-◌, ◌*◌, ◌<◌, ◌≤◌, true, List, [], Option, Some, None, get_or, length, refl, sym, ◌∙◌, ap, subst, arith}
use Rattle.std.specs.Prelude.{All, ◌==◌, find, option_map}
use Rattle.std.proofs.lemmas.Option.{none-some, same_Some}
use Rattle.nl_field.specs.Page.{Image, page_at}
use Rattle.nl_field.specs.declared.pointer.Tag.{Tag}
use Rattle.nl_field.specs.declared.shape.Shape.{Shape}
use Rattle.nl_nand.specs.Nand.{ImageOf}
use Rattle.nl_nand.specs.declared.geometry.Geometry.{Geometry}
use Rattle.nl_iface.specs.Left.{HoldsLive}
use Rattle.nl_iface.specs.Names.{LivePage}
use Rattle.nl_iface.specs.Stored.{NamedPage, stored_in}
use Rattle.nl_pseg.specs.Pages.{main_of, shown_by}
use Rattle.nl_field.specs.Numbers.{ShapeBounds}
use Rattle.nl_field.proofs.Bounds.{bounds}
use Rattle.nl_device.proofs.Bounds.{two_blocks}
use Rattle.nl_pseg.specs.Segment.{InSegment, IsPhysicalOf, KeptAreDead, Physical, IsNextCopy, TakenAsErased, held_at, is_kept}
use Rattle.nl_pseg.specs.Space.{IsWhole}
use Rattle.nl_pseg.specs.declared.held.Held.{Held}
use Rattle.nl_field.specs.Medium.{first_physical}
use Rattle.nl_scan.specs.Tables.{greatest_stamp}
use Rattle.nl_field.specs.declared.seen.Seen.{Seen}
use Rattle.nl_vseg.specs.Segment.{Segment}
use Rattle.nl_device.specs.Device.{HasFound, HasLive, HasSegments, HasSpareBlock, IsDevice}
use Rattle.nl_device.specs.Kept.{KeptPages, kept_pages}
use Rattle.nl_device.specs.Retain.{IsFreshSegment, IsSegmentFor}
use Rattle.nl_device.proofs.Retaining.{IsFoundIn}
use Rattle.nl_device.specs.Shown.{bytes_at, found_in, live_page, names_of}
use Rattle.nl_device.specs.Space.{live_in, space_of}
use Rattle.nl_device.specs.declared.kept.page.KeptPage.{KeptPage}
use Rattle.nl_device.proofs.Alone.{found_passes}
use Rattle.nl_device.proofs.Found.{kept_below}
use Rattle.nl_device.proofs.Forms.{begins, named_from, shape_is}
use Rattle.nl_device.proofs.Laws.{names_are}
use Rattle.nl_device.proofs.Made.{bytes_from, live_held, made_medium}
use Rattle.nl_device.proofs.Leaving.{NamesHold, spare_idle}
use Rattle.nl_device.specs.Callbacks.{AreCalled}
use Rattle.nl_device.proofs.PhysicalPages.{named_of}
use Rattle.nl_device.proofs.Spacing.{free_is, space_is}
use Rattle.nl_callbacks.specs.Pending.{PendingTable}

pub segment_for : {geometry : Geometry} {shape : Shape} {vseg : Segment} {pseg : Physical} {kept : KeptPages} {next : ℕ} → HasSegments geometry shape vseg pseg → HasFound shape kept next → IsSegmentFor kept pseg
segment_for has found = record {
  first = has.physical_first ∙ sym found.first;
  blocks = has.physical_blocks ∙ sym has.split ∙ (λ i. sym found.first i + sym found.count i);
  size = has.physical_pages ∙ sym found.size;
}

not_live : (o : Option Held) → live_page o ≡ None → o ≡ None
not_live None is = refl
not_live (Some h) is = absurd (none-some (record { tag = h.tag; stamp = h.stamp }) (sym is))

pub live_is : (pseg : Physical) → (space_of pseg).live ≡ live_in pseg.held
unfolding space_of
live_is pseg = refl

pub none_held : (pseg : Physical) → ((p : ℕ) → (names_of pseg).live p ≡ None) → (page : ℕ) → held_at pseg page ≡ None
none_held pseg dead page = not_live (held_at pseg page) (dead page)

-- every block is Free where the numbers say so
pub all_free : {geometry : Geometry} {shape : Shape} {vseg : Segment} {pseg : Physical} → HasSegments geometry shape vseg pseg → (space_of pseg).free ≡ shape.pblocks → pseg.first + pseg.free ≡ pseg.blocks
all_free {pseg = pseg} has free = (λ i. has.physical_first i + (sym (free_is pseg) ∙ free) i) ∙ has.split ∙ sym has.physical_blocks

pub is_fresh : {geometry : Geometry} {shape : Shape} {vseg : Segment} {old new : Physical} → HasSegments geometry shape vseg old → old.pairs ≡ [] → ((p : ℕ) → (names_of old).live p ≡ None) → new.held ≡ old.held → new.pairs ≡ old.pairs → new.blocks ≡ old.blocks
    → new.size ≡ old.size → ((block : ℕ) → new.first ≤ block → block < new.blocks → is_kept new block ≡ true) → IsWhole new → new.victim ≡ None → IsFreshSegment new
is_fresh {old = old} has none dead held pairs blocks size each whole hand = record {
  whole = whole;
  none_in_hand = hand;
  each = each;
  no_live = λ page. ap (λ (h : List (Option Held)). get_or h page None) held ∙ none_held old dead page;
  pages = ap length held ∙ has.physical_held ∙ (λ i. sym (blocks ∙ has.physical_blocks) i * sym (size ∙ has.physical_pages) i);
  no_pairs = pairs ∙ none;
}

-- where each block is Free, one is
pub free_some : {geometry : Geometry} {shape : Shape} {vseg : Segment} {old : Physical} (new : Physical) → HasSegments geometry shape vseg old → new.first ≡ old.first → new.blocks ≡ old.blocks → new.first + new.free ≡ new.blocks → 1 ≤ new.free
free_some {shape = shape} new has first blocks count =
    let roomy : ShapeBounds shape = subst ShapeBounds (sym has.numbers) (bounds _ _ has.legal) in
    let two = two_blocks roomy in
    let all = roomy.segments in
    let f = has.physical_first in
    let b = has.physical_blocks in
    omega (arith, two, all, f, b, first, blocks, count)

-- where no page is live, none of a block that is kept is
pub none_dead : (seg : Physical) → ((page : ℕ) → held_at seg page ≡ None) → KeptAreDead seg
none_dead seg none page h held = absurd (none-some h (sym (none page) ∙ held))

-- no block is written to
pub room_is : (seg : Physical) → seg.left ≡ 0 → (space_of seg).room ≡ ((space_of seg).free - (space_of seg).keep) * (space_of seg).block
unfolding space_of
room_is seg left = omega (arith, left)

named_back : (o : Option (Tag × ℕ × List ℕ)) (n : NamedPage) → named_of o ≡ Some n → o ≡ Some (n.tag, n.stamp, n.bytes)
named_back None n is = absurd (none-some n is)
named_back (Some s) n is =
    let e = same_Some (record { tag = s.0; stamp = s.1; bytes = s.2 }) n is in
    λ i. Some ((e i).tag, (e i).stamp, (e i).bytes)

found_live : (kept : KeptPages) (page : ℕ) (h : Held) → find (λ (k : KeptPage). k.page == page) kept.pages ≡ Some (record { page = page; stamp = h.stamp; tag = h.tag }) → found_in kept page ≡ Some (record { tag = h.tag; stamp = h.stamp })
unfolding found_in
found_live kept page h is = ap (option_map {U = LivePage} (λ (k : KeptPage). record { tag = k.tag; stamp = k.stamp })) is

-- the medium holds what is live, where it holds what was found
pub held_on : {geometry : Geometry} {shape : Shape} {vseg : Segment} {old new : Physical} {kept : KeptPages} {image : Image} → HasSegments geometry shape vseg old → ImageOf geometry image → IsPhysicalOf image old
    → HoldsLive (found_in kept) (λ p. bytes_at (shape.vblocks * shape.pages) image p) (stored_in image) → ((page : ℕ) (h : Held) → held_at new page ≡ Some h → IsFoundIn kept new page h)
    → ((page : ℕ) → InSegment new page → shape.vblocks * shape.pages ≤ page) → ((p : ℕ) → TakenAsErased new p → TakenAsErased old p) → ((p : ℕ) → IsNextCopy new p → IsNextCopy old p) → IsPhysicalOf image new
held_on {shape = shape} {kept = kept} {image = image} segments fit was holds from low erased copies = record {
  blank_copy = λ page taken. was.blank_copy page (copies page taken);
  holds = λ page h held.
      let f = from page h held in
      let above = low page f.within in
      let named = holds page (record { tag = h.tag; stamp = h.stamp }) (found_live kept page h f.found) in
      named_back (shown_by (page_at image page)) (record { tag = h.tag; stamp = h.stamp; bytes = main_of (page_at image page) })
      (sym (named_from shape image (shape_is segments fit) page above) ∙ named
      ∙ (λ i. Some (record { tag = h.tag; stamp = h.stamp; bytes = bytes_from (shape.vblocks * shape.pages) image page above i })));
  blank = λ page taken. was.blank page (erased page taken);
}

pub retained_device : {geometry : Geometry} {tells : Type 0} {image : Image} {shape : Shape} {vseg : Segment} {old new : Physical} {pending now : PendingTable} {kept : KeptPages} {next : ℕ} → IsDevice geometry tells image shape vseg old pending kept next
    → IsSegmentFor kept new → length new.held ≡ length old.held → HasSpareBlock new → new.victim ≡ None → new.left ≡ 0 → AreCalled new now → ((page : ℕ) (h : Held) → held_at new page ≡ Some h → IsFoundIn kept new page h)
    → ((p q : ℕ) (g h : Held) → held_at new p ≡ Some g → held_at new q ≡ Some h → g.stamp ≡ h.stamp → p ≡ q) → ((p : ℕ) → TakenAsErased new p → TakenAsErased old p) → ((p : ℕ) → IsNextCopy new p → IsNextCopy old p) → (tells → ImageOf geometry image)
    → (tells → HoldsLive (names_of new).live (λ p. bytes_at (shape.vblocks * shape.pages) image p) (stored_in image) → NamesHold shape (names_of new) (stored_in image)) → IsDevice geometry tells image shape vseg new now kept next
retained_device {geometry} {tells} {image} {shape} {vseg} {old} {new} {pending} {now} {kept} {next} f same pages spare hand left called from differ erased copies fit hold =
    let first : new.first ≡ old.first = same.first ∙ f.found.first ∙ sym f.segments.physical_first in
    let blocks : new.blocks ≡ old.blocks = same.blocks ∙ (λ i. f.found.first i + f.found.count i) ∙ f.segments.split ∙ sym f.segments.physical_blocks in
    let size : new.size ≡ old.size = same.size ∙ f.found.size ∙ sym f.segments.physical_pages in
    let segments : HasSegments geometry shape vseg new = record {
      legal = f.segments.legal;
      numbers = f.segments.numbers;
      blocks = f.segments.blocks;
      pages = f.segments.pages;
      some = f.segments.some;
      split = f.segments.split;
      rest = f.segments.rest;
      virtual_pages = f.segments.virtual_pages;
      virtual_bound = f.segments.virtual_bound;
      addresses = f.segments.addresses;
      physical_first = first ∙ f.segments.physical_first;
      physical_blocks = blocks ∙ f.segments.physical_blocks;
      physical_pages = size ∙ f.segments.physical_pages;
      physical_held = pages ∙ f.segments.physical_held;
    } in
    let live : HasLive new = record {
      in_segment = λ p h held. (from p h held).within;
      blank_in = λ p taken. let w = f.live.blank_in p (erased p taken) in
          (subst (λ n. n ≤ p) (sym (λ i. first i * size i)) w.0, subst (λ n. p < n) (sym (λ i. blocks i * size i)) w.1);
      differ = differ;
    } in
    let below : (p : ℕ) (h : Held) → held_at new p ≡ Some h → h.stamp < next = λ p h held.
    let k : KeptPage = record { page = p; stamp = h.stamp; tag = h.tag } in
    let one = found_passes (λ (q : KeptPage). q.page == p) kept.pages k (from p h held).found in
    subst (λ (q : KeptPage). q.stamp < next) (one.is k) (f.found.below one.at k one.within) in
    record {
      segments = segments;
      mapped = f.mapped;
      live = live;
      spare = spare;
      called = called;
      stamp = record { some = f.stamp.some; addresses = f.stamp.addresses; live = below };
      found = f.found;
      found_stored = f.found_stored;
      legal = f.legal;
      unwritten = f.unwritten;
      names = names_are segments next live (space_is new spare) below;
      medium = λ t.
          let physical = held_on {new = new} f.segments (fit t) (f.medium t).physical_is (f.found_stored t).holds from (λ page within. subst (λ n. n ≤ page) (begins segments) within.0) erased copies in
          made_medium segments (fit t) live (f.medium t).virtual_is physical (f.medium t).there (f.medium t).below (f.medium t).named_below spare (spare_idle new image spare.whole spare.block hand left)
          (hold t (live_held segments (fit t) live physical));
    }

-- what is kept of a scan at the start of a device
pub has_found : (shape : Shape) (kept : KeptPages) (seen : List Seen) → kept ≡ record { first = shape.vblocks; count = shape.pblocks; size = shape.pages; pages = kept_pages (first_physical shape) seen } → HasFound shape kept (1 + greatest_stamp seen)
has_found shape kept seen is = record {
  first = ap (λ (k : KeptPages). k.first) is;
  count = ap (λ (k : KeptPages). k.count) is;
  size = ap (λ (k : KeptPages). k.size) is;
  below = subst (λ (k : KeptPages). All (λ x. x.stamp < 1 + greatest_stamp seen) k.pages) (sym is) (kept_below (first_physical shape) seen);
}
