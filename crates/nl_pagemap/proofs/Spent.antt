-- The next page of a block is spent: what holds then, whatever came of its program.
use Rattle.std.proofs.Common.{◌≡◌, ℕ, ◌+◌, ◌-◌, ◌*◌, ◌/◌, ◌<◌, ◌≤◌, ◌^◌, Some, length, sum, refl, sym, ◌∙◌, ap, subst, arith}
use Rattle.std.proofs.Math.Nat.{mul-le-mul_right}
use Rattle.std.proofs.lemmas.List.{length-set}
use Rattle.nl_field.specs.Medium.{first_physical}
use Rattle.nl_field.specs.Page.{Image, page_at}
use Rattle.nl_iface.specs.Left.{HoldsLive}
use Rattle.nl_nand.specs.declared.geometry.Geometry.{Geometry}
use Rattle.nl_pagemap.specs.Laws.{holds_live}
use Rattle.nl_pagemap.specs.Mapped.{Mapped, bytes_at, named_at, page_live, stored_in, untried_of}
use Rattle.nl_pagemap.specs.Placing.{ChangesNext, HasNext, next_of, spent}
use Rattle.nl_pagemap.specs.Stands.{IsEntry, IsMapped}
use Rattle.nl_pagemap.proofs.Images.{bytes_same, map_same, named_same, segment_same}
use Rattle.nl_pagemap.proofs.Pages.{block_from, count_here, count_less, counted, ends_before, in_block, sum_here}
use Rattle.nl_pagemap_names.specs.Table.{entry_at}
use Rattle.nl_pagemap_names.specs.Untried.{used_in}
use Rattle.nl_pagemap_names.specs.declared.entry.Entry.{Entry}
use Rattle.nl_pseg_pages.specs.Pages.{main_of, shown_by}
use Rattle.nl_vseg.specs.Places.{map_of}

module _ {tells : Type 0} {geometry : Geometry} (block : ℕ) (s : Mapped) (image : Image) (next : ℕ) (f : IsMapped tells geometry s) (h : HasNext s block) (rises : s.next ≤ next) (most : next ≤ 2 ^ 63) (k : ChangesNext tells block s image) where
  abbrev pub after : Mapped
  after = record (spent block image s) { next = next }

  abbrev left : ℕ
  left = untried_of s.shape s.untried block

  some_pages : 0 < s.shape.pages
  some_pages = let least = f.bounds.least_pages in omega (arith, least)

  inside : block - s.shape.vblocks < length s.untried
  inside = counted s.shape s.untried block h.some

  pub few_left : left ≤ s.shape.pages
  few_left = let few = f.counts.few block h.from h.below in omega (arith, few)

  -- ---- where the page is

  low : block * s.shape.pages ≤ next_of s block
  low = let few = few_left in omega (arith, few)

  high : next_of s block < block * s.shape.pages + s.shape.pages
  high = let some = h.some in let few = few_left in omega (arith, some, few)

  pub page_block : next_of s block / s.shape.pages ≡ block
  page_block = in_block s.shape.pages some_pages block (next_of s block) low high

  pub page_from : first_physical s.shape ≤ next_of s block
  page_from = let le = mul-le-mul_right s.shape.pages h.from in let from = low in omega (arith, le, from)

  pub page_below : next_of s block < s.shape.blocks * s.shape.pages
  page_below = let le = ends_before s.shape.blocks block s.shape.pages h.below in let below = high in omega (arith, le, below)

  -- ---- counts

  pub less : (c : ℕ) → s.shape.vblocks ≤ c → untried_of s.shape after.untried c ≤ untried_of s.shape s.untried c
  less c from = count_less s.shape s.untried block (left - 1) h.from inside (omega arith) c from

  pub one_less : untried_of s.shape after.untried block + 1 ≡ left
  one_less = let here = count_here s.shape s.untried block (left - 1) h.from inside in let some = h.some in omega (arith, here, some)

  pub sum_less : sum after.untried + 1 ≡ sum s.untried
  sum_less = let all = sum_here s.shape s.untried block (left - 1) h.from inside in let some = h.some in omega (arith, all, some)

  pub slack : used_in s.shape.pages s.table block + untried_of s.shape after.untried block + 1 ≤ s.shape.pages
  slack = let few = f.counts.few block h.from h.below in let one = one_less in omega (arith, few, one)

  -- ---- entries, and what the medium holds of them

  pub entry_later : {last n : ℕ} {e : Entry} → IsEntry s.shape s.untried last s.next n e → IsEntry s.shape after.untried last next n e
  entry_later {last} {n} {e} is = record {
    from = is.from;
    below = is.below;
    page_from = is.page_from;
    page_below = is.page_below;
    tried =
        let lt = is.tried in
        let le = less (e.page / s.shape.pages) (block_from s.shape.pages some_pages s.shape.vblocks e.page is.page_from) in
        omega (arith, lt, le);
    some = is.some;
    stamp = let lt = is.stamp in omega (arith, lt, rises);
  }

  -- a page that was tried is another one
  pub other_page : {last n : ℕ} {e : Entry} → IsEntry s.shape s.untried last s.next n e → e.page ≡ next_of s block → ⊥
  other_page {last} {n} {e} is same =
      let b : e.page / s.shape.pages ≡ block = ap (λ q. q / s.shape.pages) same ∙ page_block in
      let lt : e.page + left < block * s.shape.pages + s.shape.pages = subst (λ q. e.page + untried_of s.shape s.untried q < q * s.shape.pages + s.shape.pages) b is.tried in
      omega (arith, lt, same)

  pub first_same : tells → (p : ℕ) → p < s.vseg.bound → page_at image p ≡ page_at s.image p
  first_same told p lt = k told p (λ e. let from = page_from in let bound = f.virtual.bound in omega (arith, e, lt, from, bound))

  pub entry_page : tells → (q : ℕ) (e : Entry) → entry_at s.table q ≡ Some e → page_at image e.page ≡ page_at s.image e.page
  entry_page told q e is = k told e.page (other_page (f.entries q e is))

  pub spent_mapped : IsMapped tells geometry after
  spent_mapped =
      let some = f.some in
      let room = f.room in
      let all = sum_less in
      record {
        volume = f.volume;
        bounds = f.bounds;
        blocks = f.blocks;
        pages = f.pages;
        virtual = f.virtual;
        numbers = f.numbers;
        counts = record {
          count = length-set s.untried (block - s.shape.vblocks) (left - 1) ∙ f.counts.count;
          few = λ c from below. let few = f.counts.few c from below in let le = less c from in omega (arith, few, le);
        };
        entries = λ q e is. entry_later (f.entries q e is);
        differ = f.differ;
        room = omega (arith, room, all);
        free = refl;
        count = f.count;
        some = omega (arith, some, rises);
        most = most;
        addresses = λ v t is. let lt = f.addresses v t is in omega (arith, lt, rises);
        medium = λ told. record {
          virtual_is = segment_same s.vseg s.image image f.virtual.below f.virtual.within (first_same told) (f.medium told).virtual_is;
          holds = λ q e is.
              let same = entry_page told q e is in
              ap shown_by same ∙ ((f.medium told).holds q e is ∙ ap (λ page. Some (e.tag, e.stamp, main_of page)) (sym same));
          blank = λ p from un.
              let le = less (p / s.shape.pages) (block_from s.shape.pages some_pages s.shape.vblocks p from) in
              k told p (λ e.
              let b : p / s.shape.pages ≡ block = ap (λ q. q / s.shape.pages) e ∙ page_block in
              let u : block * s.shape.pages + s.shape.pages ≤ p + untried_of s.shape after.untried block = subst (λ q. q * s.shape.pages + s.shape.pages ≤ p + untried_of s.shape after.untried q) b un in
              let one = one_less in
              let few = few_left in
              omega (arith, u, e, one, few))
              ∙ (f.medium told).blank p from (omega (arith, un, le));
        };
      }

  -- ---- what is seen then

  pub spent_named : tells → (q : ℕ) → named_at after q ≡ named_at s q
  spent_named told q = named_same s.image image (entry_at s.table q) (entry_page told q)

  pub spent_bytes : tells → (q : ℕ) → bytes_at after q ≡ bytes_at s q
  spent_bytes told q = bytes_same s.image image (entry_at s.table q) (entry_page told q)

  pub spent_map : tells → (v : ℕ) → map_of s.vseg.places image v ≡ map_of s.vseg.places s.image v
  spent_map told v = map_same s.vseg.bound s.vseg.places s.image image f.virtual.below (first_same told) v

  pub holds_still : tells → HoldsLive (λ q. page_live s.table q) (λ q. bytes_at s q) (stored_in after)
  holds_still told q page live = spent_named told q ∙ holds_live f told q page live
