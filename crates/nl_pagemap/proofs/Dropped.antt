-- A number is in use no longer.
use Rattle.std.proofs.Common.{◌≡◌, ◌⊎◌, inl, inr, ℕ, ◌+◌, ◌-◌, ◌<◌, ◌≤◌, ◌==◌, Option, Some, None, option_map, length, refl, sym, ◌∙◌, ap, arith, eq-eqb, eqb-true, ne_eqb, true}
use Rattle.std.proofs.lemmas.Bool.{cases_eq, cond-false, cond-true, false≢true}
use Rattle.nl_iface.specs.Names.{has_stamp, without_page}
use Rattle.nl_nand.specs.declared.geometry.Geometry.{Geometry}
use Rattle.nl_pagemap.specs.Laws.{live_entry}
use Rattle.nl_pagemap.specs.Mapped.{Mapped, live_among, page_live, page_of}
use Rattle.nl_pagemap.specs.Placing.{dropped}
use Rattle.nl_pagemap.specs.Stands.{IsEntry, IsMapped}
use Rattle.nl_pagemap.proofs.Counted.{less}
use Rattle.nl_pagemap.proofs.Numbers.{count_without, in_segment, live_without, numbers_without, within}
use Rattle.nl_pagemap_names.specs.Table.{live_at}
use Rattle.nl_pagemap_names.specs.Untried.{is_in, used_in}
use Rattle.nl_pagemap_names.specs.declared.entry.Entry.{Entry}
use Rattle.nl_pagemap_names.proofs.Changed.{released_live}

-- a number under which a page of this stamp is live has an entry of this stamp
pub led_entry : (o : Option Entry) (stamp : ℕ) → has_stamp (option_map page_of o) stamp ≡ true → (e : Entry) × (o ≡ Some e) × (e.stamp ≡ stamp)
led_entry None stamp is = absurd (false≢true is)
led_entry (Some e) stamp is = (e, refl, eqb-true e.stamp stamp is)

module _ {tells : Type 0} {geometry : Geometry} (s : Mapped) (f : IsMapped tells geometry s) (k : ℕ) (e : Entry) (live : live_at s.table k ≡ Some e) where
  is_entry : IsEntry s.shape s.untried s.table.last s.next k e
  is_entry = f.entries k e (live_entry s.table.entries s.table.used k e live)

  pub dropped_within : k < length s.table.entries
  dropped_within = within f k is_entry.below

  pub count_dropped : live_among s.shape (dropped k s).table + 1 ≡ live_among s.shape s.table
  count_dropped = count_without s.shape s.table f.numbers.table k dropped_within e is_entry.from (in_segment f k is_entry.below) live

  pub live_dropped : (q : ℕ) → page_live (dropped k s).table q ≡ without_page (λ r. page_live s.table r) k q
  live_dropped q = live_without s.table f.numbers.table k dropped_within q

  -- no block has more numbers in use
  used_less : (b : ℕ) → used_in s.shape.pages (dropped k s).table b ≤ used_in s.shape.pages s.table b
  used_less b = less (λ n. is_in s.shape.pages b (live_at s.table n)) (λ n. is_in s.shape.pages b (live_at (dropped k s).table n)) s.table.first (s.table.last - s.table.first)
      (λ q from has. was q (cases_eq q k) has)
    where
      was : (q : ℕ) → (q ≡ k) ⊎ (q ≡ k → ⊥) → is_in s.shape.pages b (live_at (dropped k s).table q) ≡ true → is_in s.shape.pages b (live_at s.table q) ≡ true
      was q (inl here) has = absurd (false≢true (ap (λ o. is_in s.shape.pages b o) (sym (released_live s.table f.numbers.table k dropped_within q ∙ cond-true (q == k) None (live_at s.table q) (eq-eqb q k here))) ∙ has))
      was q (inr off) has = ap (λ o. is_in s.shape.pages b o) (sym (released_live s.table f.numbers.table k dropped_within q ∙ cond-false (q == k) None (live_at s.table q) (ne_eqb q k off))) ∙ has

  pub dropped_mapped : IsMapped tells geometry (dropped k s)
  dropped_mapped =
      let fewer = count_dropped in
      let count = f.count in
      record {
        volume = f.volume;
        bounds = f.bounds;
        blocks = f.blocks;
        pages = f.pages;
        virtual = f.virtual;
        numbers = numbers_without s.shape s.table k f.numbers;
        counts = record { count = f.counts.count; few = λ b from below. let le = used_less b in let was = f.counts.few b from below in omega (arith, le, was) };
        entries = f.entries;
        differ = f.differ;
        room = f.room;
        free = f.free;
        count = omega (arith, count, fewer);
        some = f.some;
        most = f.most;
        addresses = f.addresses;
        medium = λ told. let m = f.medium told in record { virtual_is = m.virtual_is; holds = m.holds; blank = m.blank };
      }
