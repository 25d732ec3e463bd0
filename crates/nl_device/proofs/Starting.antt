-- The tables of a device after a scan.
use Rattle.std.proofs.Common.{◌≡◌, inl, inr, ⊎_elim, ℕ, ◌+◌, ◌-◌, ◌*◌, ◌<◌, ◌≤◌, ◌∙◌, List, [], ◌∷◌, length, replicate, get_or, max, Option, Some, None, option_map, refl, sym, ap, subst, arith, IsTrue}
use Rattle.std.specs.Prelude.{fold}
use Rattle.std.proofs.lemmas.Bool.{cases_lt}
use Rattle.std.proofs.lemmas.List.{get_or-replicate, get_or_past, length-replicate}
use Rattle.std.proofs.lemmas.Option.{none-some, same_Some}
use Rattle.nl_field.specs.Page.{Image}
use Rattle.nl_field.specs.Numbers.{ShapeBounds, is_legal, shape_for}
use Rattle.nl_field.proofs.Bounds.{bounds}
use Rattle.nl_field.specs.SpareRecord.{stamp_of}
use Rattle.nl_field.specs.declared.shape.Shape.{Shape}
use Rattle.nl_iface.specs.Stored.{stored_in}
use Rattle.nl_nand.specs.declared.geometry.Geometry.{Geometry}
use Rattle.nl_device.proofs.Calling.{called_none}
use Rattle.nl_device.proofs.Leaving.{none_in_hand}
use Rattle.nl_device.proofs.Bounds.{some_pages, two_blocks}
use Rattle.nl_pseg.specs.Segment.{Physical}
use Rattle.nl_pseg.specs.declared.held.Held.{Held}
use Rattle.nl_scan.specs.Tables.{ScanTable, greatest_stamp}
use Rattle.nl_field.specs.declared.seen.Seen.{Seen}
use Rattle.nl_vseg.proofs.Members.{In}
use Rattle.nl_vseg.specs.Places.{place_of, stamp_in_place}
use Rattle.nl_vseg.specs.Segment.{Segment}
use Rattle.nl_vseg.specs.declared.place.Place.{Place}
use Rattle.nl_device.specs.Device.{HasLive, HasMapped, HasSegments, HasSpareBlock, IsDevice, IsFoundStored, IsNextStamp, IsOnMedium}
use Rattle.nl_device.specs.Opening.{FitsShape, IsOpenedPhysical, IsOpenedVirtual, needed_of, owns_of, pick_of, place_on}
use Rattle.nl_field.specs.Medium.{first_physical}
use Rattle.nl_device.specs.Kept.{KeptPages, kept_pages}
use Rattle.nl_device.specs.Shown.{bytes_at}
use Rattle.nl_device.proofs.Laws.{names_are, no_stamp_beyond, shape_is_legal}
use Rattle.nl_device.proofs.Retained.{has_found}
use Rattle.nl_device.specs.Space.{space_of}
use Rattle.nl_device.specs.Spread.{spare_of}
use Rattle.nl_device.specs.declared.opening.own.Own.{Own}
use Rattle.nl_device.proofs.Opened.{can_load}
use Rattle.nl_device.proofs.Owns.{needed_in, owns_is}
use Rattle.nl_device.proofs.Picks.{pick_in}
use Rattle.nl_callbacks.specs.Pending.{PendingTable}
use Rattle.nl_device.proofs.Spacing.{space_is}

pub for_shape : (s : Shape) (b p : ℕ) → s ≡ shape_for b p → (s.blocks ≡ b) × (s.pages ≡ p) × (s ≡ shape_for s.blocks s.pages)
unfolding shape_for
for_shape s b p e =
    let x : s.blocks ≡ b = ap (λ (t : Shape). t.blocks) e in
    let y : s.pages ≡ p = ap (λ (t : Shape). t.pages) e in
    (x, y, e ∙ (λ i. shape_for (sym x i) (sym y i)))

none_at : (n p : ℕ) (held : List (Option Held)) → held ≡ replicate n None → get_or held p None ≡ None
none_at n p held e = ap (λ (l : List (Option Held)). get_or l p None) e ∙ ⊎_elim
    (λ lt. get_or-replicate n p None None lt)
    (λ past. get_or_past (replicate n None) p None (subst (λ k. k ≤ p) (sym (length-replicate n None)) past))
    (cases_lt p n)

fold_least : (best : ℕ) (seen : List Seen) → best ≤ fold (λ b (s : Seen). max b (stamp_of s.rec)) best seen
fold_least best [] = omega arith
fold_least best (s ∷ seen) = let rest = fold_least (max best (stamp_of s.rec)) seen in omega (arith, rest)

fold_over : (best : ℕ) (seen : List Seen) (s : Seen) → In s seen → stamp_of s.rec ≤ fold (λ b (x : Seen). max b (stamp_of x.rec)) best seen
fold_over best [] s is = absurd is
fold_over best (x ∷ seen) s (inl same) = let rest = fold_least (max best (stamp_of x.rec)) seen in let e = ap (λ (y : Seen). stamp_of y.rec) same in omega (arith, rest, e)
fold_over best (x ∷ seen) s (inr there) = fold_over (max best (stamp_of x.rec)) seen s there

pub at_most : (seen : List Seen) (s : Seen) → In s seen → stamp_of s.rec ≤ greatest_stamp seen
unfolding greatest_stamp
at_most seen s is = fold_over 0 seen s is

mapped_some : (o : Option Own) (place : Place) → option_map place_on o ≡ Some place → (x : Own) × (o ≡ Some x) × (place_on x ≡ place)
mapped_some None place is = absurd (none-some place is)
mapped_some (Some x) place is = (x, refl, same_Some (place_on x) place is)

module _ (shape : Shape) (t : ScanTable) (vseg : Segment) (o : IsOpenedVirtual shape t vseg) where
  -- the page of the place of an address
  pub place_own : (v : ℕ) (place : Place) → place_of vseg.places v ≡ Some place
      → (x : Own) × (v < shape.vaddrs) × (pick_of shape.pages (spare_of 0 shape.vblocks o.spreads) (needed_of shape t.seen) v ≡ Some x) × (place_on x ≡ place)
  place_own v place is = elim (cases_lt v shape.vaddrs) [
    | inl below ↦
        let m = mapped_some (pick_of shape.pages (spare_of 0 shape.vblocks o.spreads) (needed_of shape t.seen) v) place (sym (o.places v below) ∙ is) in
        (m.0, below, m.1, m.2)
    | inr past ↦ absurd (none-some place (sym (get_or_past vseg.places v None (subst (λ k. k ≤ v) (sym o.addresses) past)) ∙ is))
  ]

  pub mapped : FitsShape shape t → HasMapped vseg
  mapped fits = record {
    places_in = λ v place is.
        let x = place_own v place is in
        let load = can_load shape t fits v x.0 (pick_in shape.pages (spare_of 0 shape.vblocks o.spreads) (needed_of shape t.seen) v x.0 x.2).0 in
        subst (λ k. place.page < k) (sym o.same_bound) (subst (λ (q : Place). q.page < shape.vblocks * shape.pages) x.3 load.within);
    blank_in = λ p is. (o.blank p is).0;
  }

  place_stamp : (v s : ℕ) (p : Option Place) → place_of vseg.places v ≡ p → stamp_in_place p ≡ Some s → s < 1 + greatest_stamp t.seen
  place_stamp v s None e is = absurd (none-some s is)
  place_stamp v s (Some place) e is =
      let x = place_own v place e in
      let picked = pick_in shape.pages (spare_of 0 shape.vblocks o.spreads) (needed_of shape t.seen) v x.0 x.2 in
      let own = owns_is shape t.seen x.0 (needed_in (owns_of shape t.seen) x.0 picked.0).0 in
      let most = at_most t.seen own.0 own.1 in
      let same = own.3.same_stamp in
      let stamp : x.0.stamp ≡ s = ap (λ (q : Place). q.stamp) x.3 ∙ same_Some place.stamp s is in
      omega (arith, most, same, stamp)

  pub next_is : (pseg : Physical) → IsOpenedPhysical shape t pseg → IsNextStamp (1 + greatest_stamp t.seen) vseg pseg
  next_is pseg p = record {
    some = omega arith;
    addresses = λ v s is. place_stamp v s (place_of vseg.places v) refl is;
    live = λ q h is. absurd (none-some h (sym (none_at (shape.blocks * shape.pages) q pseg.held p.none_held) ∙ is));
  }

module _ (shape : Shape) (t : ScanTable) (pseg : Physical) (p : IsOpenedPhysical shape t pseg) (roomy : ShapeBounds shape) where
  pub live_none : HasLive pseg
  live_none = record {
    in_segment = λ q h is. absurd (none-some h (sym (none_at (shape.blocks * shape.pages) q pseg.held p.none_held) ∙ is));
    blank_in = p.within;
    differ = λ q r g h is. absurd (none-some g (sym (none_at (shape.blocks * shape.pages) q pseg.held p.none_held) ∙ is));
  }

  pub free_space : (space_of pseg).free ≡ shape.pblocks
  unfolding space_of
  free_space = p.free_is

  pub room_space : (space_of pseg).room + (space_of pseg).block ≡ (space_of pseg).all
  unfolding space_of
  room_space =
      let all = roomy.segments in
      let k = shape.pblocks - 1 in
      let two = two_blocks roomy in
      let e : shape.pblocks ≡ k + 1 = omega (arith, two) in
      let left = p.left_is in
      let first = p.first_is in
      let blocks = p.blocks_is in
      let count : pseg.blocks - pseg.first ≡ k + 1 = omega (arith, all, first, blocks, e) in
      let free : pseg.free - 1 ≡ k = let f = p.free_is in omega (arith, f, e) in
      let whole : (pseg.blocks - pseg.first) * pseg.size ≡ (k + 1) * pseg.size = ap (λ n. n * pseg.size) count in
      let most : (pseg.free - 1) * pseg.size ≡ k * pseg.size = ap (λ n. n * pseg.size) free in
      let spread : (k + 1) * pseg.size ≡ k * pseg.size + pseg.size = omega arith in
      omega (arith, left, whole, most, spread)

-- the device of a scan, beside what its medium holds
pub opened_device : (geometry : Geometry) (shape : Shape) (t : ScanTable) (vseg : Segment) (pseg : Physical) (pending : PendingTable) (kept : KeptPages) (tells : Type 0) (image : Image) → IsTrue (is_legal geometry.blocks geometry.pages) → shape ≡ shape_for geometry.blocks geometry.pages → FitsShape shape t
    → IsOpenedVirtual shape t vseg → IsOpenedPhysical shape t pseg → (HasSegments geometry shape vseg pseg → HasLive pseg → HasSpareBlock pseg → tells → IsOnMedium shape (1 + greatest_stamp t.seen) image vseg pseg)
    → kept ≡ record { first = shape.vblocks; count = shape.pblocks; size = shape.pages; pages = kept_pages (first_physical shape) t.seen }
    → (tells → IsFoundStored kept (λ p. bytes_at (shape.vblocks * shape.pages) image p) (stored_in image))
    → pending ≡ record { callbacks = []; posted = 0; room = 4 * shape.pages } → IsDevice geometry tells image shape vseg pseg pending kept (1 + greatest_stamp t.seen)
opened_device geometry shape t vseg pseg pending kept tells image legal e fits o p medium found stored none =
    let x = for_shape shape geometry.blocks geometry.pages e in
    let roomy : ShapeBounds shape = subst ShapeBounds (sym e) (bounds geometry.blocks geometry.pages legal) in
    let segments : HasSegments geometry shape vseg pseg = record {
      legal = legal;
      numbers = e;
      blocks = sym x.0;
      pages = sym x.1;
      some = some_pages roomy;
      split = roomy.segments;
      rest = let a = roomy.segments in omega (arith, a);
      virtual_pages = o.same_pages;
      virtual_bound = o.same_bound;
      addresses = o.addresses;
      physical_first = p.first_is;
      physical_blocks = p.blocks_is;
      physical_pages = p.size_is;
      physical_held = ap (λ (l : List (Option Held)). length l) p.none_held ∙ length-replicate (shape.blocks * shape.pages) None;
    } in
    let live = live_none shape t pseg p roomy in
    let spare : HasSpareBlock pseg = record { whole = p.whole; block = p.kept_block; in_hand = none_in_hand pseg p.none_in_hand } in
    record {
      segments = segments;
      mapped = mapped shape t vseg o fits;
      live = live;
      spare = spare;
      called = called_none pseg pending p.no_pairs (ap (λ (x : PendingTable). x.callbacks) none) (let few = ap (λ (x : PendingTable). length x.callbacks) none in let room = ap (λ (x : PendingTable). x.room) none in let size = p.size_is in omega (arith, few, room, size));
      stamp = next_is shape t vseg o pseg p;
      found = has_found shape kept t.seen found;
      found_stored = stored;
      legal = shape_is_legal segments;
      unwritten = no_stamp_beyond segments;
      names = names_are segments (1 + greatest_stamp t.seen) live (space_is pseg spare) (λ page h held. absurd (none-some h (sym (none_at (shape.blocks * shape.pages) page pseg.held p.none_held) ∙ held)));
      medium = λ tell. medium segments live spare tell;
    }
