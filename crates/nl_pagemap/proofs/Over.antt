-- A page was written in place of one that is in use no longer.
use Rattle.std.proofs.Common.{◌≡◌, ◌⊎◌, inl, inr, ℕ, ◌+◌, ◌<◌, ◌==◌, ◌^◌, cond, List, Option, Some, None, sym, ◌∙◌, ap, ne_eqb, eq-eqb}
use Rattle.std.proofs.lemmas.Bool.{cases_eq, cond-false, cond-true}
use Rattle.std.proofs.lemmas.Option.{none-some}
use Rattle.nl_field.specs.Page.{Image}
use Rattle.nl_field.specs.declared.pointer.Pointer.{Pointer}
use Rattle.nl_field.specs.declared.pointer.Tag.{Tag}
use Rattle.nl_iface.specs.Names.{LivePage, with_page, without_page}
use Rattle.nl_nand.specs.declared.geometry.Geometry.{Geometry}
use Rattle.nl_pagemap.specs.Mapped.{Mapped, live_among, page_live, page_of}
use Rattle.nl_pagemap.specs.Placing.{HasNext, IsNewPointer, IsProgrammed, dropped, next_entry, placed}
use Rattle.nl_pagemap.specs.Stands.{IsMapped}
use Rattle.nl_pagemap.proofs.Dropped.{count_dropped, dropped_mapped, live_dropped}
use Rattle.nl_pagemap.proofs.Numbers.{within}
use Rattle.nl_pagemap.proofs.Placed.{count_now, live_now, placed_mapped}
use Rattle.nl_pagemap_names.specs.Table.{live_at}
use Rattle.nl_pagemap_names.specs.declared.entry.Entry.{Entry}
use Rattle.nl_pagemap_names.proofs.Changed.{given_live}

module _ {tells : Type 0} {geometry : Geometry} (block : ℕ) (at : Pointer) (tag : Tag) (main : List ℕ) (s : Mapped) (image : Image) (f : IsMapped tells geometry s) (h : HasNext s block) (next : s.next < 2 ^ 63)
    (n : IsNewPointer s at) (k : IsProgrammed tells block tag s.next main s image) (gone : ℕ) (e : Entry) (live : live_at s.table gone ≡ Some e) where
  abbrev pub mid : Mapped
  mid = placed block at.name tag image s

  abbrev pub over : Mapped
  over = dropped gone mid

  other : gone ≡ at.name → ⊥
  other same = none-some e (sym n.unused ∙ (ap (λ m. live_at s.table m) (sym same) ∙ live))

  live_mid : live_at mid.table gone ≡ Some e
  live_mid = given_live s.table f.numbers.table at.name (within f at.name n.below) (next_entry block tag s.next s) gone
      ∙ (cond-false (gone == at.name) (Some (next_entry block tag s.next s)) (live_at s.table gone) (ne_eqb gone at.name other) ∙ live)

  mid_mapped : IsMapped tells geometry mid
  mid_mapped = placed_mapped block at tag main s image f h next n k

  pub over_mapped : IsMapped tells geometry over
  over_mapped = dropped_mapped mid mid_mapped gone e live_mid

  pub count_over : live_among s.shape over.table + 1 ≡ live_among s.shape s.table + 1
  count_over = count_dropped mid mid_mapped gone e live_mid ∙ count_now block at tag main s image f h next n k

  -- the live pages: without the one that is gone, and with the new one
  pub live_over : (q : ℕ) → page_live over.table q ≡ with_page (λ r. without_page (λ m. page_live s.table m) gone r) at.name (page_of (next_entry block tag s.next s)) q
  live_over q = live_dropped mid mid_mapped gone e live_mid q ∙ by (cases_eq q gone)
    where
      by : (q ≡ gone) ⊎ (q ≡ gone → ⊥) → without_page (λ r. page_live mid.table r) gone q ≡ with_page (λ r. without_page (λ m. page_live s.table m) gone r) at.name (page_of (next_entry block tag s.next s)) q
      by (inl here) =
          let off : q ≡ at.name → ⊥ = λ same. other (sym here ∙ same) in
          cond-true (q == gone) None (page_live mid.table q) (eq-eqb q gone here)
          ∙ sym (cond-false (q == at.name) (Some (page_of (next_entry block tag s.next s))) (without_page (λ m. page_live s.table m) gone q) (ne_eqb q at.name off)
          ∙ cond-true (q == gone) None (page_live s.table q) (eq-eqb q gone here))
      by (inr away) =
          cond-false (q == gone) None (page_live mid.table q) (ne_eqb q gone away)
          ∙ (live_now block at tag main s image f h next n k q
          ∙ sym (ap (λ (o : Option LivePage). cond (q == at.name) (Some (page_of (next_entry block tag s.next s))) o) (cond-false (q == gone) None (page_live s.table q) (ne_eqb q gone away))))
