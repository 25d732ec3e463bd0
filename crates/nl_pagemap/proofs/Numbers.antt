-- Which numbers can be given out, and how many are in use.
use Rattle.std.proofs.Common.{◌≡◌, ℕ, ◌+◌, ◌-◌, ◌*◌, ◌/◌, ◌<◌, ◌≤◌, ◌==◌, if◌then◌else◌, Bool, true, false, count_by, Option, Some, None, is_some, option_map, length, refl, sym, ◌∙◌, ap, subst, arith, eq-eqb, ne_eqb}
use Rattle.std.specs.List.{range_with_len}
use Rattle.std.proofs.lemmas.Bool.{cond-false, cond-true}
use Rattle.std.proofs.lemmas.List.{length-set}
use Rattle.nl_field.specs.Medium.{first_physical}
use Rattle.nl_field.specs.declared.shape.Shape.{Shape}
use Rattle.nl_iface.specs.Names.{with_page, without_page}
use Rattle.nl_nand.specs.declared.geometry.Geometry.{Geometry}
use Rattle.nl_pagemap.specs.Laws.{live_entry}
use Rattle.nl_pagemap.specs.Mapped.{Mapped, live_among, page_live, page_of, untried_in}
use Rattle.nl_pagemap.specs.Stands.{HasNumbers, IsMapped}
use Rattle.nl_pagemap.proofs.Counted.{many, one_more}
use Rattle.nl_pagemap.proofs.Filled.{filled}
use Rattle.nl_pagemap.proofs.Pages.{block_below, block_from}
use Rattle.nl_pagemap_names.specs.Table.{IsTable, Table, entry_at, given, live_at, released}
use Rattle.nl_pagemap_names.specs.Untried.{count_at, used_in}
use Rattle.nl_pagemap_names.specs.declared.entry.Entry.{Entry}
use Rattle.nl_pagemap_names.proofs.Changed.{given_live, released_live}
use Rattle.nl_pagemap_names.proofs.Counting.{count_most}

is_used : (o : Option Entry) → (o ≡ None → ⊥) → is_some o ≡ true
is_used None some = absurd (some refl)
is_used (Some e) some = refl

-- the numbers of the segment, and those of the last block
pub segment_ends : {tells : Type 0} {geometry : Geometry} {s : Mapped} → IsMapped tells geometry s
    → s.table.last + s.shape.pages ≡ first_physical s.shape + s.shape.pblocks * s.shape.pages
segment_ends {tells} {geometry} {s} f =
    let last = f.numbers.last in
    let all : (s.shape.vblocks + s.shape.pblocks) * s.shape.pages ≡ s.shape.blocks * s.shape.pages = ap (λ n. n * s.shape.pages) f.bounds.segments in
    let parts : (s.shape.vblocks + s.shape.pblocks) * s.shape.pages ≡ s.shape.vblocks * s.shape.pages + s.shape.pblocks * s.shape.pages = omega arith in
    omega (arith, last, all, parts)

-- where the page of an entry is
pub entry_block : {tells : Type 0} {geometry : Geometry} {s : Mapped} → IsMapped tells geometry s → (n : ℕ) (e : Entry) → entry_at s.table n ≡ Some e
    → (s.shape.vblocks ≤ e.page / s.shape.pages) × (e.page / s.shape.pages < s.shape.blocks)
entry_block {tells} {geometry} {s} f n e is =
    let w = f.entries n e is in
    let least = f.bounds.least_pages in
    let some : 0 < s.shape.pages = omega (arith, least) in
    (block_from s.shape.pages some s.shape.vblocks e.page w.page_from, block_below s.shape.pages some s.shape.blocks e.page w.page_below)

-- The numbers in use and the pages that were not tried are no more than the pages of the segment.
pub all_fit : {tells : Type 0} {geometry : Geometry} {s : Mapped} → IsMapped tells geometry s
    → count_by (λ n. is_some (live_at s.table n)) (range_with_len s.table.first (s.table.last - s.table.first)) + untried_in s ≤ s.shape.pblocks * s.shape.pages
all_fit {tells} {geometry} {s} f =
    let count = f.counts.count in
    let segments = f.bounds.segments in
    let all = filled s.shape.pages s.table s.untried s.shape.vblocks
    (λ i below.
    let few = f.counts.few (s.shape.vblocks + i) (omega arith) (omega (arith, below, count, segments)) in
    let place : s.shape.vblocks + i - s.shape.vblocks ≡ i = omega arith in
    subst (λ k. used_in s.shape.pages s.table (s.shape.vblocks + i) + count_at s.untried k ≤ s.shape.pages) place few)
    (λ n e live.
    let w = entry_block f n e (live_entry s.table.entries s.table.used n e live) in
    let below = w.1 in
    (w.0, omega (arith, below, count, segments))) in
    subst (λ k. count_by (λ n. is_some (live_at s.table n)) (range_with_len s.table.first (s.table.last - s.table.first)) + untried_in s ≤ k * s.shape.pages) count all

-- Where pages can be programmed, fewer numbers are in use than can be given out.
pub some_free : {tells : Type 0} {geometry : Geometry} {s : Mapped} → IsMapped tells geometry s → 0 < s.room
    → ((n : ℕ) → s.table.first ≤ n → n < s.table.last → live_at s.table n ≡ None → ⊥) → ⊥
some_free {tells} {geometry} {s} f room none =
    let first = f.numbers.first in
    let ends = segment_ends f in
    let kept = f.room in
    let fit = all_fit f in
    let used = many (λ n. is_some (live_at s.table n)) s.table.first (s.table.last - s.table.first) (s.table.last - s.table.first)
    (λ n low high. is_used (live_at s.table n) (none n low (omega (arith, low, high))))
    (omega arith) in
    omega (arith, first, ends, kept, fit, used, room)

-- a number that can be given out has its entry, and lies in the segment
pub within : {tells : Type 0} {geometry : Geometry} {s : Mapped} → IsMapped tells geometry s → (n : ℕ) → n < s.table.last → n < length s.table.entries
within {tells} {geometry} {s} f n below = let last = f.numbers.last in let count = f.numbers.count in omega (arith, below, last, count)

pub in_segment : {tells : Type 0} {geometry : Geometry} {s : Mapped} → IsMapped tells geometry s → (n : ℕ) → n < s.table.last
    → n < first_physical s.shape + s.shape.pblocks * s.shape.pages
in_segment {tells} {geometry} {s} f n below = let ends = segment_ends f in omega (arith, below, ends)

-- the live pages with one more
pub live_with : (t : Table) → IsTable t → (n : ℕ) → n < length t.entries → (e : Entry) (q : ℕ)
    → page_live (given n e t) q ≡ with_page (λ r. page_live t r) n (page_of e) q
live_with t f n below e q =
    ap (λ (o : Option Entry). option_map page_of o) (given_live t f n below e q) ∙ by (q == n)
  where
    by : (b : Bool) → option_map page_of (if b then Some e else live_at t q) ≡ (if b then Some (page_of e) else page_live t q)
    by true = refl
    by false = refl

-- with one less
pub live_without : (t : Table) → IsTable t → (n : ℕ) → n < length t.entries → (q : ℕ)
    → page_live (released n t) q ≡ without_page (λ r. page_live t r) n q
live_without t f n below q =
    ap (λ (o : Option Entry). option_map page_of o) (released_live t f n below q) ∙ by (q == n)
  where
    by : (b : Bool) → option_map page_of (if b then None else live_at t q) ≡ (if b then None else page_live t q)
    by true = refl
    by false = refl

-- one number more is in use
pub count_with : (shape : Shape) (t : Table) → IsTable t → (n : ℕ) → n < length t.entries → (e : Entry) → first_physical shape ≤ n
    → n < first_physical shape + shape.pblocks * shape.pages → live_at t n ≡ None → live_among shape (given n e t) ≡ live_among shape t + 1
count_with shape t f n below e from to unused =
    one_more (λ q. is_some (page_live t q)) (λ q. is_some (page_live (given n e t) q)) n (first_physical shape) (shape.pblocks * shape.pages) from to
    (ap (λ (o : Option Entry). is_some (option_map page_of o)) unused)
    (ap is_some (live_with t f n below e n ∙ cond-true (n == n) (Some (page_of e)) (page_live t n) (eq-eqb n n refl)))
    (λ q off. ap is_some (live_with t f n below e q ∙ cond-false (q == n) (Some (page_of e)) (page_live t q) (ne_eqb q n off)))

-- one less
pub count_without : (shape : Shape) (t : Table) → IsTable t → (n : ℕ) → n < length t.entries → (e : Entry) → first_physical shape ≤ n
    → n < first_physical shape + shape.pblocks * shape.pages → live_at t n ≡ Some e → live_among shape (released n t) + 1 ≡ live_among shape t
count_without shape t f n below e from to live =
    sym (one_more (λ q. is_some (page_live (released n t) q)) (λ q. is_some (page_live t q)) n (first_physical shape) (shape.pblocks * shape.pages) from to
    (ap is_some (live_without t f n below n ∙ cond-true (n == n) None (page_live t n) (eq-eqb n n refl)))
    (ap (λ (o : Option Entry). is_some (option_map page_of o)) live)
    (λ q off. sym (ap is_some (live_without t f n below q ∙ cond-false (q == n) None (page_live t q) (ne_eqb q n off)))))

-- the table has its numbers still
pub numbers_with : (shape : Shape) (t : Table) (n : ℕ) (e : Entry) → HasNumbers shape t → HasNumbers shape (given n e t)
numbers_with shape t n e has = record {
  table = record { same = length-set t.used n true ∙ (has.table.same ∙ sym (length-set t.entries n (Some e))) };
  count = length-set t.entries n (Some e) ∙ has.count;
  first = has.first;
  last = has.last;
}

pub numbers_without : (shape : Shape) (t : Table) (n : ℕ) → HasNumbers shape t → HasNumbers shape (released n t)
numbers_without shape t n has = record {
  table = record { same = length-set t.used n false ∙ has.table.same };
  count = has.count;
  first = has.first;
  last = has.last;
}

-- no more numbers are in use than the medium has pages
pub few_used : {tells : Type 0} {geometry : Geometry} {s : Mapped} → IsMapped tells geometry s → s.count ≤ 262144
few_used {tells} {geometry} {s} f =
    let count = f.count in
    let most = count_most (λ n. is_some (page_live s.table n)) (first_physical s.shape) (s.shape.pblocks * s.shape.pages) in
    let all = f.bounds.all_pages in
    let ends = segment_ends f in
    let last = f.numbers.last in
    omega (arith, count, most, all, ends, last)

-- nor have they more that were not tried
pub few_untried : {tells : Type 0} {geometry : Geometry} {s : Mapped} → IsMapped tells geometry s → untried_in s ≤ 262144
few_untried {tells} {geometry} {s} f =
    let fit = all_fit f in
    let all = f.bounds.all_pages in
    let ends = segment_ends f in
    let last = f.numbers.last in
    omega (arith, fit, all, ends, last)
