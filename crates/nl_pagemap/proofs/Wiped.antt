-- A block was erased, or its erase failed, under which no number has its page.
use Rattle.std.proofs.Common.{◌≡◌, ◌⊎◌, inl, ⊎_elim, ℕ, ◌+◌, ◌-◌, ◌*◌, ◌/◌, ◌<◌, ◌≤◌, false, List, Option, Some, None, length, slice_set, sum, refl, sym, ◌∙◌, ap, subst, arith, eqb-true}
use Rattle.std.proofs.Math.Nat.{lt-div-mul-add, mul-le-mul_right}
use Rattle.std.proofs.lemmas.Bool.{cases_eq, false_from_ne_true}
use Rattle.std.proofs.lemmas.List.{length-set}
use Rattle.nl_field.specs.Page.{Image, Page, erased, page_at}
use Rattle.nl_nand.specs.Nand.{OperationLeaves}
use Rattle.nl_nand.specs.declared.answers.WriteAnswer.{WriteAnswer}
use Rattle.nl_nand.specs.declared.answers.WriteAnswer.TheVariants as write
use Rattle.nl_nand.specs.declared.geometry.Geometry.{Geometry}
use Rattle.nl_pagemap.specs.Cleaning.{IsFull, KeepsNumbers}
use Rattle.nl_pagemap.specs.Laws.{live_entry}
use Rattle.nl_pagemap.specs.Mapped.{Mapped, untried_of}
use Rattle.nl_pagemap.specs.Stands.{IsMapped}
use Rattle.nl_pagemap.proofs.Counted.{none_pass}
use Rattle.nl_pagemap.proofs.Images.{map_same, named_same, segment_same}
use Rattle.nl_pagemap.proofs.Pages.{beside, block_from, count_here, count_other, sum_here}
use Rattle.nl_pagemap_names.specs.Table.{entry_at, live_at}
use Rattle.nl_pagemap_names.specs.Untried.{is_in, used_in}
use Rattle.nl_pagemap_names.specs.declared.entry.Entry.{Entry}
use Rattle.nl_pseg_pages.specs.Pages.{main_of, shown_by}

-- no page of another block has changed
pub erase_outside : (answer : WriteAnswer) (low high : ℕ) (value : Page) (old new : Image) → OperationLeaves low high value old answer new
    → (p : ℕ) → (p < low) ⊎ (high ≤ p) → page_at new p ≡ page_at old p
erase_outside write.Done low high value old new k p off = k.outside p off
erase_outside write.Failed low high value old new k p off = ⊎_elim
    (λ same. same)
    (λ here. absurd (let a = here.0 in let b = here.1 in ⊎_elim (λ lt. omega (arith, a, lt)) (λ le. omega (arith, b, le)) off))
    (k.each p)

-- where it was done, each page of the block is erased
pub erase_inside : (answer : WriteAnswer) (low high : ℕ) (value : Page) (old new : Image) → answer ≡ write.Done → OperationLeaves low high value old answer new
    → (p : ℕ) → low ≤ p → p < high → page_at new p ≡ value
erase_inside answer low high value old new is k = (subst (λ (a : WriteAnswer). OperationLeaves low high value old a new) is k).inside

module _ {tells : Type 0} {geometry : Geometry} (block : ℕ) (s : Mapped) (image : Image) (f : IsMapped tells geometry s) (h : IsFull s block)
    (empty : (n : ℕ) (e : Entry) → entry_at s.table n ≡ Some e → e.page / s.shape.pages ≡ block → ⊥)
    (others : tells → (p : ℕ) → (p < block * s.shape.pages) ⊎ (block * s.shape.pages + s.shape.pages ≤ p) → page_at image p ≡ page_at s.image p) where
  some_pages : 0 < s.shape.pages
  some_pages = let least = f.bounds.least_pages in omega (arith, least)

  off_block : tells → (p : ℕ) → (p / s.shape.pages ≡ block → ⊥) → page_at image p ≡ page_at s.image p
  off_block told p off = others told p (beside s.shape.pages some_pages block p off)

  first_same : tells → (p : ℕ) → p < s.vseg.bound → page_at image p ≡ page_at s.image p
  first_same told p lt = others told p (inl (
      let bound = f.virtual.bound in
      let le = mul-le-mul_right s.shape.pages h.from in
      omega (arith, lt, bound, le)
      ))

  entry_page : tells → (q : ℕ) (e : Entry) → entry_at s.table q ≡ Some e → page_at image e.page ≡ page_at s.image e.page
  entry_page told q e is = off_block told e.page (empty q e is)

  -- ---- the erase failed

  abbrev pub failed : Mapped
  failed = record s { image = image }

  pub failed_mapped : IsMapped tells geometry failed
  failed_mapped = record {
    volume = f.volume;
    bounds = f.bounds;
    blocks = f.blocks;
    pages = f.pages;
    virtual = f.virtual;
    numbers = f.numbers;
    counts = f.counts;
    entries = f.entries;
    differ = f.differ;
    room = f.room;
    free = f.free;
    count = f.count;
    some = f.some;
    most = f.most;
    addresses = f.addresses;
    medium = λ told. record {
      virtual_is = segment_same s.vseg s.image image f.virtual.below f.virtual.within (first_same told) (f.medium told).virtual_is;
      holds = λ q e is.
          let same = entry_page told q e is in
          ap shown_by same ∙ ((f.medium told).holds q e is ∙ ap (λ page. Some (e.tag, e.stamp, main_of page)) (sym same));
      blank = λ p from un.
          off_block told p (λ here.
          let u : block * s.shape.pages + s.shape.pages ≤ p + untried_of s.shape s.untried block = subst (λ q. q * s.shape.pages + s.shape.pages ≤ p + untried_of s.shape s.untried q) here un in
          let none = h.full in
          let below = lt_block p here in
          omega (arith, u, none, below))
          ∙ (f.medium told).blank p from un;
    };
  }
    where
      lt_block : (p : ℕ) → p / s.shape.pages ≡ block → p < block * s.shape.pages + s.shape.pages
      lt_block p here = subst (λ q. p < q * s.shape.pages + s.shape.pages) here (lt-div-mul-add some_pages)

  pub failed_keeps : KeepsNumbers tells s failed
  failed_keeps = record {
    shape = refl;
    vseg = refl;
    next = refl;
    count = refl;
    live = λ n. refl;
    map = λ told v. map_same s.vseg.bound s.vseg.places s.image image f.virtual.below (first_same told) v;
    stored = λ told n. inl (named_same s.image image (entry_at s.table n) (entry_page told n));
  }

  -- ---- the block was erased

  abbrev pub refilled : List ℕ
  refilled = slice_set s.untried (block - s.shape.vblocks) s.shape.pages

  abbrev pub wiped : Mapped
  wiped = record s {
    untried = refilled;
    room = sum refilled - s.shape.pages;
    free = 1 + (sum refilled - s.shape.pages) / s.shape.pages;
    image = image;
  }

  pub inside : block - s.shape.vblocks < length s.untried
  inside = let from = h.from in let below = h.below in let count = f.counts.count in let segments = f.bounds.segments in omega (arith, from, below, count, segments)

  pub sum_wiped : sum refilled ≡ sum s.untried + s.shape.pages
  sum_wiped = let all = sum_here s.shape s.untried block s.shape.pages h.from inside in let none = h.full in omega (arith, all, none)

  none_used : used_in s.shape.pages s.table block ≡ 0
  none_used = none_pass (λ n. is_in s.shape.pages block (live_at s.table n)) s.table.first (s.table.last - s.table.first) (λ n from. off n (live_at s.table n) refl)
    where
      off : (n : ℕ) (o : Option Entry) → live_at s.table n ≡ o → is_in s.shape.pages block o ≡ false
      off n None is = refl
      off n (Some e) is = false_from_ne_true (is_in s.shape.pages block (Some e)) (λ has. empty n e (live_entry s.table.entries s.table.used n e is) (eqb-true (e.page / s.shape.pages) block has))

  few : (b : ℕ) → s.shape.vblocks ≤ b → b < s.shape.blocks → used_in s.shape.pages s.table b + untried_of s.shape refilled b ≤ s.shape.pages
  few b from below = ⊎_elim
      (λ here.
      let all = count_here s.shape s.untried block s.shape.pages h.from inside in
      let none = none_used in
      subst (λ q. used_in s.shape.pages s.table q + untried_of s.shape refilled q ≤ s.shape.pages) (sym here) (omega (arith, all, none)))
      (λ off. let same = count_other s.shape s.untried block s.shape.pages h.from inside b from off in let was = f.counts.few b from below in omega (arith, same, was))
      (cases_eq b block)

  pub wiped_mapped : (tells → (p : ℕ) → p / s.shape.pages ≡ block → page_at image p ≡ erased) → IsMapped tells geometry wiped
  wiped_mapped clear = record {
    volume = f.volume;
    bounds = f.bounds;
    blocks = f.blocks;
    pages = f.pages;
    virtual = f.virtual;
    numbers = f.numbers;
    counts = record { count = length-set s.untried (block - s.shape.vblocks) s.shape.pages ∙ f.counts.count; few = few };
    entries = λ q e is.
        let w = f.entries q e is in
        record {
          from = w.from;
          below = w.below;
          page_from = w.page_from;
          page_below = w.page_below;
          tried =
              let same = count_other s.shape s.untried block s.shape.pages h.from inside (e.page / s.shape.pages) (block_from s.shape.pages some_pages s.shape.vblocks e.page w.page_from) (empty q e is) in
              let lt = w.tried in
              omega (arith, same, lt);
          some = w.some;
          stamp = w.stamp;
        };
    differ = f.differ;
    room = refl;
    free = refl;
    count = f.count;
    some = f.some;
    most = f.most;
    addresses = f.addresses;
    medium = λ told. record {
      virtual_is = (failed_mapped.medium told).virtual_is;
      holds = (failed_mapped.medium told).holds;
      blank = λ p from un. ⊎_elim
          (λ here. clear told p here)
          (λ off.
          let same = count_other s.shape s.untried block s.shape.pages h.from inside (p / s.shape.pages) (block_from s.shape.pages some_pages s.shape.vblocks p from) off in
          (failed_mapped.medium told).blank p from (omega (arith, un, same)))
          (cases_eq (p / s.shape.pages) block);
    };
  }

  pub wiped_keeps : KeepsNumbers tells s wiped
  wiped_keeps = record {
    shape = refl;
    vseg = refl;
    next = refl;
    count = refl;
    live = λ n. refl;
    map = failed_keeps.map;
    stored = failed_keeps.stored;
  }
