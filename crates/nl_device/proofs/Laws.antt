-- What holds of the tables of a device, and of a medium that stores them.
use Rattle.std.proofs.Common.{arith, ◌≡◌, ℕ, ◌+◌, ◌*◌, ◌-◌, ◌<◌, ◌≤◌, ◌∙◌, Bool, Option, Some, None, length, is_some, refl, sym, ap, subst, add-mul, zero-add, IsTrue}
use Rattle.std.specs.List.{count_by, range_with_len}
use Rattle.std.proofs.lemmas.List.{get_or_past}
use Rattle.std.proofs.lemmas.Option.{none-some}
use Rattle.nl_field.specs.Numbers.{is_legal, shape_for}
use Rattle.nl_field.specs.declared.shape.Shape.{Shape}
use Rattle.nl_nand.specs.declared.geometry.Geometry.{Geometry}
use Rattle.nl_iface.specs.Device.{IsVolumeShape}
use Rattle.nl_iface.specs.Names.{IsNames}
use Rattle.nl_iface.specs.Space.{IsSpace}
use Rattle.nl_pseg.specs.Segment.{Physical, held_at}
use Rattle.nl_pseg.specs.declared.held.Held.{Held}
use Rattle.nl_vseg.specs.Places.{stamp_for, stamp_in_place}
use Rattle.nl_vseg.specs.Segment.{Segment}
use Rattle.nl_device.specs.Device.{HasLive, HasSegments}
use Rattle.nl_device.specs.State.{held_of}
use Rattle.nl_device.specs.Shown.{live_page, names_of}
use Rattle.nl_device.specs.Space.{live_in, space_of}
use Rattle.nl_device.proofs.Counted.{live_counts}

module _ {geometry : Geometry} {shape : Shape} {vseg : Segment} {pseg : Physical} (segments : HasSegments geometry shape vseg pseg) where
  -- the numbers of the space are those of the volume
  space_block : (space_of pseg).block ≡ shape.pages
  unfolding space_of
  space_block = segments.physical_pages

  space_all : (space_of pseg).all ≡ shape.pblocks * shape.pages
  unfolding space_of
  space_all = (λ i. (segments.physical_blocks i - segments.physical_first i) * segments.physical_pages i) ∙ ap (λ n. n * shape.pages) segments.rest

  space_pairs : (space_of pseg).pairs ≡ length pseg.pairs
  unfolding space_of
  space_pairs = refl

  space_live : (space_of pseg).live ≡ live_in pseg.held
  unfolding space_of
  space_live = refl

  -- a live page lies in the segment
  live_from : HasLive pseg → (p : ℕ) (h : Held) → held_at pseg p ≡ Some h → shape.vblocks * shape.pages ≤ p
  live_from live p h is = subst (λ n. n ≤ p) (λ i. segments.physical_first i * segments.physical_pages i) (live.in_segment p h is).0

  live_to : HasLive pseg → (p : ℕ) (h : Held) → held_at pseg p ≡ Some h → p < shape.blocks * shape.pages
  live_to live p h is = subst (λ n. p < n) (λ i. segments.physical_blocks i * segments.physical_pages i) (live.in_segment p h is).1

  live_some : (o : Option Held) → is_some (live_page o) ≡ is_some o
  live_some None = refl
  live_some (Some h) = refl

  -- so many pages are live as are counted
  space_counted : HasLive pseg → (space_of pseg).live ≡ count_by (λ p. is_some (live_page (held_at pseg p))) (range_with_len (shape.vblocks * shape.pages) (shape.pblocks * shape.pages))
  space_counted live =
      let split : (shape.vblocks + shape.pblocks) * shape.pages ≡ shape.vblocks * shape.pages + shape.pblocks * shape.pages = add-mul shape.vblocks shape.pblocks shape.pages in
      let long = segments.physical_held ∙ ap (λ n. n * shape.pages) (sym segments.split) ∙ split in
      let test : ℕ → Bool = λ p. is_some (live_page (held_at pseg p)) in
      space_live ∙ live_counts test pseg.held 0 (shape.vblocks * shape.pages) (shape.pblocks * shape.pages) long
      (λ k within. ap test (zero-add k) ∙ live_some (held_at pseg k))
      (λ k below. before k below (held_at pseg k) refl)
      ∙ ap (λ n. count_by test (range_with_len n (shape.pblocks * shape.pages))) (zero-add (shape.vblocks * shape.pages))
    where
      before : (k : ℕ) → k < shape.vblocks * shape.pages → (o : Option Held) → held_at pseg k ≡ o → o ≡ None
      before k below None is = refl
      before k below (Some h) is = let from = live_from live k h is in absurd (omega (arith, below, from))

  pub names_are : (next : ℕ) → HasLive pseg → IsSpace (space_of pseg) → ((p : ℕ) (h : Held) → held_at pseg p ≡ Some h → h.stamp < next) → IsNames shape next (names_of pseg)
  names_are next live space below = record {
    space = space;
    block = space_block;
    all = space_all;
    pairs = space_pairs;
    counted = space_counted live;
    from_first = λ p page is. let h = held_of (held_at pseg p) page is in live_from live p h.0 h.1;
    to_last = λ p page is. let h = held_of (held_at pseg p) page is in live_to live p h.0 h.1;
    below = λ p page is. let h = held_of (held_at pseg p) page is in subst (λ n. n < next) h.2 (below p h.0 h.1);
    given = λ c has. absurd has;
    marked = λ n transaction is. absurd (none-some transaction is);
  }

  pub shape_is_legal : IsVolumeShape shape
  shape_is_legal =
      let e : geometry ≡ record { blocks = shape.blocks; pages = shape.pages } = λ i. record { blocks = segments.blocks i; pages = segments.pages i } in
      record { legal = subst (λ (n : Geometry). IsTrue (is_legal n.blocks n.pages)) e segments.legal; numbers = segments.numbers ∙ ap (λ (n : Geometry). shape_for n.blocks n.pages) e }

  -- no address beyond the last has a stamp
  pub no_stamp_beyond : (v : ℕ) → shape.vaddrs ≤ v → stamp_for vseg.places v ≡ None
  no_stamp_beyond v past = ap stamp_in_place (get_or_past vseg.places v None (let e = segments.addresses in omega (arith, e, past)))
