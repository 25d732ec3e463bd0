-- The page of a number in use was copied to the next page of a block.
use Rattle.std.proofs.Common.{◌≡◌, inl, ⊎_elim, ℕ, ◌+◌, ◌-◌, ◌*◌, ◌/◌, ◌<◌, ◌≤◌, false, List, Some, is_some, option_map, refl, sym, ◌∙◌, ap, subst, arith, eq-eqb, ne_eqb}
use Rattle.std.proofs.lemmas.Bool.{cases_eq}
use Rattle.nl_field.specs.Medium.{first_physical}
use Rattle.nl_field.specs.Page.{Image, page_at}
use Rattle.nl_nand.specs.declared.geometry.Geometry.{Geometry}
use Rattle.nl_pagemap.specs.Cleaning.{CopiesFrom, IsFull, KeepsNumbers}
use Rattle.nl_pagemap.specs.Laws.{live_entry}
use Rattle.nl_pagemap.specs.Mapped.{Mapped, live_among, named_at, named_by, named_on, page_live, page_of, untried_in, untried_of}
use Rattle.nl_pagemap.specs.Placing.{ChangesNext, HasNext, IsProgrammed, copied, next_entry, spent}
use Rattle.nl_pagemap.specs.Stands.{IsEntry, IsMapped}
use Rattle.nl_pagemap.proofs.Counted.{one_more, same_count}
use Rattle.nl_pagemap.proofs.Granted.{entry_here, entry_other, granted_mapped, live_here, live_other}
use Rattle.nl_pagemap.proofs.Spent.{few_left, less, one_less, page_below, page_block, page_from, slack, spent_map, spent_mapped, spent_named, sum_less}
use Rattle.nl_pagemap_names.specs.Table.{entry_at, live_at}
use Rattle.nl_pagemap_names.specs.Untried.{is_in, used_in}
use Rattle.nl_pagemap_names.specs.declared.entry.Entry.{Entry}
use Rattle.nl_pseg_pages.specs.Pages.{main_of, shown_by}

-- the next page of a block was spent, and nothing leads to it
module _ {tells : Type 0} {geometry : Geometry} (to : ℕ) (s : Mapped) (image : Image) (f : IsMapped tells geometry s) (h : HasNext s to) (k : ChangesNext tells to s image) where
  same_next : s.next ≤ s.next
  same_next = omega arith

  pub lost_mapped : IsMapped tells geometry (spent to image s)
  lost_mapped = spent_mapped to s image s.next f h same_next f.most k

  pub lost_keeps : KeepsNumbers tells s (spent to image s)
  lost_keeps = record {
    shape = refl;
    vseg = refl;
    next = refl;
    count = refl;
    live = λ n. refl;
    map = λ told v. spent_map to s image s.next f h same_next f.most k told v;
    stored = λ told n. inl (spent_named to s image s.next f h same_next f.most k told n);
  }

  pub lost_less : untried_in (spent to image s) ≤ untried_in s
  lost_less = let one = sum_less to s image s.next f h same_next f.most k in omega (arith, one)

  -- a full block is full still
  pub lost_full : (block : ℕ) → IsFull s block → IsFull (spent to image s) block
  lost_full block full = record {
    from = full.from;
    below = full.below;
    full =
        let le = less to s image s.next f h same_next f.most k block full.from in
        let none = full.full in
        omega (arith, le, none);
  }

module _ {tells : Type 0} {geometry : Geometry} (to name : ℕ) (e : Entry) (main : List ℕ) (s : Mapped) (image : Image) (f : IsMapped tells geometry s) (h : HasNext s to)
    (live : live_at s.table name ≡ Some e) (k : IsProgrammed tells to e.tag e.stamp main s image) (bytes : tells → main ≡ main_of (page_at s.image e.page)) where
  abbrev mid : Mapped
  mid = spent to image s

  abbrev pub now : Mapped
  now = copied to name e image s

  abbrev pub entry : Entry
  entry = next_entry to e.tag e.stamp s

  up : s.next ≤ s.next
  up = omega arith

  mid_mapped : IsMapped tells geometry mid
  mid_mapped = spent_mapped to s image s.next f h up f.most k.others

  was : entry_at s.table name ≡ Some e
  was = live_entry s.table.entries s.table.used name e live

  is_entry : IsEntry s.shape mid.untried s.table.last s.next name entry
  is_entry =
      let w = f.entries name e was in
      let here = page_block to s image s.next f h up f.most k.others in
      let one = one_less to s image s.next f h up f.most k.others in
      let few = few_left to s image s.next f h up f.most k.others in
      let left = h.some in
      record {
        from = w.from;
        below = w.below;
        page_from = page_from to s image s.next f h up f.most k.others;
        page_below = page_below to s image s.next f h up f.most k.others;
        tried = subst (λ b. entry.page + untried_of s.shape mid.untried b < b * s.shape.pages + s.shape.pages) (sym here) (omega (arith, one, few, left));
        some = w.some;
        stamp = w.stamp;
      }

  own : (m : ℕ) (d : Entry) → entry_at s.table m ≡ Some d → d.stamp ≡ e.stamp → m ≡ name
  own m d is same = f.differ m name d e is was same

  shown : tells → shown_by (page_at image entry.page) ≡ Some (e.tag, e.stamp, main_of (page_at image entry.page))
  shown told = let held = k.holds told in ap shown_by held ∙ (k.shows ∙ ap (λ page. Some (e.tag, e.stamp, main_of page)) (sym held))

  room_in_block : used_in s.shape.pages s.table (entry.page / s.shape.pages) + untried_of s.shape mid.untried (entry.page / s.shape.pages) + 1 ≤ s.shape.pages
  room_in_block =
      let here = page_block to s image s.next f h up f.most k.others in
      subst (λ b. used_in s.shape.pages s.table b + untried_of s.shape mid.untried b + 1 ≤ s.shape.pages) (sym here) (slack to s image s.next f h up f.most k.others)

  pub live_away : (q : ℕ) → (q ≡ name → ⊥) → live_at now.table q ≡ live_at s.table q
  live_away q off = live_other mid mid_mapped name entry is_entry q off

  live_now : live_at now.table name ≡ Some entry
  live_now = live_here mid mid_mapped name entry is_entry

  same_live : (q : ℕ) → page_live now.table q ≡ page_live s.table q
  same_live q = ⊎_elim
      (λ here.
      let new : page_live now.table name ≡ Some (page_of e) = ap (option_map page_of) live_now in
      let old : page_live s.table name ≡ Some (page_of e) = ap (option_map page_of) live in
      subst (λ m. page_live now.table m ≡ page_live s.table m) (sym here) (new ∙ sym old))
      (λ off. ap (option_map page_of) (live_away q off))
      (cases_eq q name)

  count_is : s.count ≡ live_among s.shape now.table
  count_is = f.count ∙ sym (same_count (λ q. is_some (page_live s.table q)) (λ q. is_some (page_live now.table q)) (first_physical s.shape) (s.shape.pblocks * s.shape.pages) (λ q from. ap is_some (same_live q)))

  pub copied_mapped : IsMapped tells geometry now
  copied_mapped = granted_mapped mid mid_mapped name entry is_entry s.count own shown room_in_block count_is

  same_stored : tells → (q : ℕ) → named_at now q ≡ named_at s q
  same_stored told q = ⊎_elim
      (λ here.
      let new : named_at now name ≡ Some (record { tag = e.tag; stamp = e.stamp; bytes = main }) =
      ap (λ o. named_by image o) (entry_here mid mid_mapped name entry is_entry) ∙ ap named_on (ap shown_by (k.holds told) ∙ k.shows) in
      let old : named_at s name ≡ Some (record { tag = e.tag; stamp = e.stamp; bytes = main_of (page_at s.image e.page) }) =
      ap (λ o. named_by s.image o) was ∙ ap named_on ((f.medium told).holds name e was) in
      subst (λ m. named_at now m ≡ named_at s m) (sym here) (new ∙ (ap (λ b. Some (record { tag = e.tag; stamp = e.stamp; bytes = b })) (bytes told) ∙ sym old)))
      (λ off. ap (λ o. named_by image o) (entry_other mid mid_mapped name entry is_entry q off) ∙ spent_named to s image s.next f h up f.most k.others told q)
      (cases_eq q name)

  pub copied_keeps : KeepsNumbers tells s now
  copied_keeps = record {
    shape = refl;
    vseg = refl;
    next = refl;
    count = refl;
    live = same_live;
    map = λ told v. spent_map to s image s.next f h up f.most k.others told v;
    stored = λ told q. inl (same_stored told q);
  }

  pub copied_less : untried_in now ≤ untried_in s
  copied_less = let one = sum_less to s image s.next f h up f.most k.others in omega (arith, one)

  -- ---- the block that the page was in, of which each page was tried

  module _ (block : ℕ) (full : IsFull s block) (in_block : e.page / s.shape.pages ≡ block) where
    other : entry.page / s.shape.pages ≡ block → ⊥
    other same =
        let here = page_block to s image s.next f h up f.most k.others in
        let alike : to ≡ block = sym here ∙ same in
        let left = ap (λ b. untried_of s.shape s.untried b) alike in
        let none = full.full in
        let some = h.some in
        omega (arith, left, none, some)

    pub copied_off : is_in s.shape.pages block (live_at now.table name) ≡ false
    copied_off = ap (λ o. is_in s.shape.pages block o) live_now ∙ ne_eqb (entry.page / s.shape.pages) block other

    pub copied_full : IsFull now block
    copied_full = record {
      from = full.from;
      below = full.below;
      full =
          let le = less to s image s.next f h up f.most k.others block full.from in
          let none = full.full in
          omega (arith, le, none);
    }

    pub copied_from : CopiesFrom block s now
    copied_from =
        let w = f.entries name e was in
        let low = w.from in
        let high = w.below in
        let first = f.numbers.first in
        let one = sum_less to s image s.next f h up f.most k.others in
        let used = one_more (λ q. is_in s.shape.pages block (live_at now.table q)) (λ q. is_in s.shape.pages block (live_at s.table q)) name s.table.first (s.table.last - s.table.first)
        (omega (arith, low, first)) (omega (arith, low, first, high)) copied_off
        (ap (λ o. is_in s.shape.pages block o) live ∙ eq-eqb (e.page / s.shape.pages) block in_block)
        (λ q off. ap (λ o. is_in s.shape.pages block o) (sym (live_away q off))) in
        omega (arith, one, used)
