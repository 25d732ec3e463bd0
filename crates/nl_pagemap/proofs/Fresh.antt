-- A device that nothing was written to.
use Rattle.std.proofs.Common.{◌≡◌, ⊎_elim, ℕ, ◌+◌, ◌-◌, ◌*◌, ◌/◌, ◌<◌, ◌≤◌, Bool, true, false, cond, sum, List, Option, None, is_some, option_map, length, replicate, get_or, refl, sym, ◌∙◌, ap, arith}
use Rattle.std.proofs.lemmas.Bool.{cases_lt}
use Rattle.std.proofs.lemmas.List.{get_or-replicate, get_or_past, length-replicate}
use Rattle.std.proofs.lemmas.List.Folds.{sum_by-replicate}
use Rattle.std.proofs.lemmas.Option.{none-some}
use Rattle.nl_field.specs.Medium.{first_physical}
use Rattle.nl_field.specs.Numbers.{ShapeBounds}
use Rattle.nl_field.specs.Page.{Image}
use Rattle.nl_field.specs.declared.shape.Shape.{Shape}
use Rattle.nl_iface.specs.Device.{IsVolumeShape}
use Rattle.nl_nand.specs.Nand.{IsBlank}
use Rattle.nl_nand.specs.declared.geometry.Geometry.{Geometry}
use Rattle.nl_pagemap.specs.Mapped.{Mapped, live_among, page_live, page_of, untried_of}
use Rattle.nl_pagemap.specs.Stands.{IsMapped}
use Rattle.nl_pagemap.proofs.Counted.{none_pass}
use Rattle.nl_pagemap_names.specs.Table.{Table, entry_at, live_at}
use Rattle.nl_pagemap_names.specs.Untried.{is_in, used_in}
use Rattle.nl_pagemap_names.specs.declared.entry.Entry.{Entry}
use Rattle.nl_vseg.specs.Places.{place_of, stamp_for, stamp_in_place}
use Rattle.nl_vseg.specs.Segment.{Segment, is_taken_as_erased}
use Rattle.nl_vseg.specs.declared.place.Place.{Place}

pub all_none : {X : Type 0} (xs : List (Option X)) (n : ℕ) → xs ≡ replicate n None → (p : ℕ) → get_or xs p None ≡ None
all_none {X} xs n is p = ap (λ (ys : List (Option X)). get_or ys p None) is
    ∙ ⊎_elim (λ low. get_or-replicate n p None None low) (λ past. get_or_past (replicate n None) p None (let count = length-replicate {A = Option X} n None in omega (arith, past, count))) (cases_lt p n)

-- the virtual segment, the pages that can be written, and the block that is kept fill the medium
pub fits : (h : Shape) → ShapeBounds h → h.vblocks * h.pages + (h.blocks * h.pages - h.pages - h.vblocks * h.pages) + h.pages ≡ h.blocks * h.pages
fits h b =
    let all : (h.vblocks + h.pblocks) * h.pages ≡ h.blocks * h.pages = ap (λ n. n * h.pages) b.segments in
    let parts : (h.vblocks + h.pblocks) * h.pages ≡ h.vblocks * h.pages + h.pblocks * h.pages = omega arith in
    let fill = b.data_pages in
    omega (arith, all, parts, fill)

abbrev pub fresh_table : ℕ → ℕ → ℕ → Table
fresh_table first last count = record { first = first; last = last; entries = replicate count None; used = replicate count false }

pub no_entry : (first last count n : ℕ) → entry_at (fresh_table first last count) n ≡ None
no_entry first last count n = all_none (replicate count None) count refl n

empty : (o : Option Entry) (b : Bool) → o ≡ None → cond b o None ≡ None
empty o true is = is
empty o false is = refl

pub none_live : (first last count n : ℕ) → page_live (fresh_table first last count) n ≡ None
none_live first last count n =
    ap (λ (o : Option Entry). option_map page_of o) (empty (entry_at (fresh_table first last count) n) (get_or (replicate count false) n false) (no_entry first last count n))

-- the device as it is made
abbrev pub fresh : Shape → Segment → Image → Mapped
fresh shape seg image = record {
  shape = shape;
  vseg = seg;
  table = fresh_table (shape.vblocks * shape.pages) (shape.blocks * shape.pages - shape.pages) (shape.blocks * shape.pages);
  untried = replicate shape.pblocks shape.pages;
  room = shape.blocks * shape.pages - shape.pages - shape.vblocks * shape.pages;
  free = 1 + (shape.blocks * shape.pages - shape.pages - shape.vblocks * shape.pages) / shape.pages;
  count = 0;
  next = 1;
  image = image;
}

module _ {tells : Type 0} {geometry : Geometry} (shape : Shape) (seg : Segment) (image : Image) (volume : IsVolumeShape shape) (bounds : ShapeBounds shape) (numbers : geometry ≡ record { blocks = shape.blocks; pages = shape.pages }) (blank : tells → IsBlank image)
    (places : seg.places ≡ replicate shape.vaddrs None) (pages : seg.pages ≡ shape.pages) (bound : seg.bound ≡ shape.vblocks * shape.pages) (inside : (p : ℕ) → is_taken_as_erased seg p ≡ true → p < seg.bound) where
  pub no_place : (v : ℕ) → place_of seg.places v ≡ None
  no_place v = all_none seg.places shape.vaddrs places v

  pub no_stamp : (v : ℕ) → stamp_for seg.places v ≡ None
  no_stamp v = ap stamp_in_place (no_place v)

  none_used : live_among shape (fresh shape seg image).table ≡ 0
  none_used = none_pass (λ n. is_some (page_live (fresh shape seg image).table n)) (first_physical shape) (shape.pblocks * shape.pages) (λ k from. ap is_some (none_live (shape.vblocks * shape.pages) (shape.blocks * shape.pages - shape.pages) (shape.blocks * shape.pages) k))

  pub fresh_room : shape.blocks * shape.pages - shape.pages - shape.vblocks * shape.pages + shape.pages ≡ shape.pblocks * shape.pages
  fresh_room =
      let whole : (shape.vblocks + shape.pblocks) * shape.pages ≡ shape.blocks * shape.pages = ap (λ n. n * shape.pages) bounds.segments in
      let halves : (shape.vblocks + shape.pblocks) * shape.pages ≡ shape.vblocks * shape.pages + shape.pblocks * shape.pages = omega arith in
      let fill = bounds.data_pages in
      omega (arith, whole, halves, fill)

  -- no page was tried
  sum_fresh : sum (replicate shape.pblocks shape.pages) ≡ shape.pblocks * shape.pages
  sum_fresh = sum_by-replicate (λ x. x) shape.pblocks shape.pages

  few : (b : ℕ) → shape.vblocks ≤ b → b < shape.blocks → used_in shape.pages (fresh shape seg image).table b + untried_of shape (replicate shape.pblocks shape.pages) b ≤ shape.pages
  few b from below =
      let none = none_pass (λ n. is_in shape.pages b (live_at (fresh shape seg image).table n)) (fresh shape seg image).table.first ((fresh shape seg image).table.last - (fresh shape seg image).table.first)
      (λ k low. ap (λ o. is_in shape.pages b o) (empty (entry_at (fresh shape seg image).table k) (get_or (replicate (shape.blocks * shape.pages) false) k false) (no_entry (shape.vblocks * shape.pages) (shape.blocks * shape.pages - shape.pages) (shape.blocks * shape.pages) k))) in
      let segments = bounds.segments in
      let all = get_or-replicate shape.pblocks (b - shape.vblocks) shape.pages 0 (omega (arith, from, below, segments)) in
      omega (arith, none, all)

  pub fresh_mapped : IsMapped tells geometry (fresh shape seg image)
  fresh_mapped =
      let count = none_used in
      record {
        volume = volume;
        bounds = bounds;
        blocks = ap (λ (g : Geometry). g.blocks) numbers;
        pages = ap (λ (g : Geometry). g.pages) numbers;
        virtual = record {
          pages = pages;
          bound = bound;
          addresses = ap (λ (ps : List (Option Place)). length ps) places ∙ length-replicate shape.vaddrs None;
          below = λ v place is. absurd (none-some place (sym (no_place v) ∙ is));
          within = inside;
        };
        numbers = record {
          table = record { same = length-replicate (shape.blocks * shape.pages) false ∙ sym (length-replicate {A = Option Entry} (shape.blocks * shape.pages) None) };
          count = length-replicate {A = Option Entry} (shape.blocks * shape.pages) None;
          first = refl;
          last = let fill = fits shape bounds in omega (arith, fill);
        };
        counts = record { count = length-replicate shape.pblocks shape.pages; few = few };
        entries = λ n e is. absurd (none-some e (sym (no_entry (shape.vblocks * shape.pages) (shape.blocks * shape.pages - shape.pages) (shape.blocks * shape.pages) n) ∙ is));
        differ = λ n m d e is other same. absurd (none-some d (sym (no_entry (shape.vblocks * shape.pages) (shape.blocks * shape.pages - shape.pages) (shape.blocks * shape.pages) n) ∙ is));
        room = let all = sum_fresh in let whole = fresh_room in omega (arith, all, whole);
        free = refl;
        count = sym count;
        some = omega arith;
        most = omega arith;
        addresses = λ v t is. absurd (none-some t (sym (no_stamp v) ∙ is));
        medium = λ told. record {
          virtual_is = record { holds = λ v place is. absurd (none-some place (sym (no_place v) ∙ is)); erased_is = λ p taken. blank told p };
          holds = λ n e is. absurd (none-some e (sym (no_entry (shape.vblocks * shape.pages) (shape.blocks * shape.pages - shape.pages) (shape.blocks * shape.pages) n) ∙ is));
          blank = λ p from un. blank told p;
        };
      }
