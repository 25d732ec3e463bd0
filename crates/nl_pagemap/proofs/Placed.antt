-- A page was written under a new number.
use Rattle.std.proofs.Common.{◌≡◌, inl, inr, ⊎_elim, ℕ, ◌+◌, ◌*◌, ◌/◌, ◌<◌, ◌≤◌, ◌^◌, List, Option, Some, None, option_map, length, refl, sym, ◌∙◌, ap, subst, arith}
use Rattle.std.proofs.lemmas.Bool.{cases_eq}
use Rattle.std.proofs.lemmas.Option.{none-some}
use Rattle.nl_field.specs.Page.{Image, page_at}
use Rattle.nl_field.specs.declared.pointer.Pointer.{Pointer}
use Rattle.nl_field.specs.declared.pointer.Tag.{Tag}
use Rattle.nl_iface.specs.Left.{HoldsLive, LeavesTried}
use Rattle.nl_iface.specs.Names.{IsNewName, LivePage, with_page}
use Rattle.nl_iface.specs.Space.{Wrote}
use Rattle.nl_iface.specs.Stored.{NamedPage, Stored}
use Rattle.nl_nand.specs.declared.geometry.Geometry.{Geometry}
use Rattle.nl_pagemap.specs.Laws.{holds_live, leaves_in, leaves_pages}
use Rattle.nl_pagemap.specs.Mapped.{Mapped, bytes_at, bytes_by, live_among, named_at, named_by, named_on, names_of, page_live, page_of, space_of, stored_in, untried_of}
use Rattle.nl_pagemap.specs.Placing.{HasNext, IsNewPointer, IsProgrammed, next_entry, placed, spent_stamp}
use Rattle.nl_pagemap.specs.Stands.{IsEntry, IsMapped}
use Rattle.nl_pagemap.proofs.Granted.{entry_here, entry_other, granted_mapped}
use Rattle.nl_pagemap.proofs.Numbers.{count_with, in_segment, live_with, within}
use Rattle.nl_pagemap.proofs.Spent.{few_left, one_less, page_below, page_block, page_from, slack, spent_bytes, spent_map, spent_mapped, spent_named}
use Rattle.nl_pagemap_names.specs.Table.{entry_at}
use Rattle.nl_pagemap_names.specs.Untried.{used_in}
use Rattle.nl_pagemap_names.specs.declared.entry.Entry.{Entry}
use Rattle.nl_pseg_pages.specs.Pages.{main_of, shown_by}
use Rattle.nl_vseg.specs.Places.{map_of}

-- nothing is tried
pub stays : {tells : Type 0} {geometry : Geometry} {s : Mapped} → IsMapped tells geometry s → tells → (new : NamedPage)
    → LeavesTried s.shape (names_of s) (λ n. bytes_at s n) new (stored_in s) (stored_in s)
stays {tells} {geometry} {s} f told new = record {
  same_virtual = record { values = λ v. refl; firm = refl };
  holds = holds_live f told;
  pages = leaves_pages f told;
  others = λ p. inl refl;
}

module _ {tells : Type 0} {geometry : Geometry} (block : ℕ) (at : Pointer) (tag : Tag) (main : List ℕ) (s : Mapped) (image : Image) (f : IsMapped tells geometry s) (h : HasNext s block) (next : s.next < 2 ^ 63)
    (n : IsNewPointer s at) (k : IsProgrammed tells block tag s.next main s image) where
  abbrev mid : Mapped
  mid = spent_stamp block image s

  abbrev pub now : Mapped
  now = placed block at.name tag image s

  abbrev pub entry : Entry
  entry = next_entry block tag s.next s

  up : s.next ≤ s.next + 1
  up = omega arith

  most : s.next + 1 ≤ 2 ^ 63
  most = omega (arith, next)

  mid_mapped : IsMapped tells geometry mid
  mid_mapped = spent_mapped block s image (s.next + 1) f h up most k.others

  is_entry : IsEntry s.shape mid.untried s.table.last (s.next + 1) at.name entry
  is_entry =
      let some = f.some in
      let here = page_block block s image (s.next + 1) f h up most k.others in
      let one = one_less block s image (s.next + 1) f h up most k.others in
      let few = few_left block s image (s.next + 1) f h up most k.others in
      let left = h.some in
      record {
        from = n.from;
        below = n.below;
        page_from = page_from block s image (s.next + 1) f h up most k.others;
        page_below = page_below block s image (s.next + 1) f h up most k.others;
        tried = subst (λ b. entry.page + untried_of s.shape mid.untried b < b * s.shape.pages + s.shape.pages) (sym here) (omega (arith, one, few, left));
        some = some;
        stamp = omega arith;
      }

  own : (m : ℕ) (d : Entry) → entry_at s.table m ≡ Some d → d.stamp ≡ s.next → m ≡ at.name
  own m d is same = let lt = (f.entries m d is).stamp in absurd (omega (arith, lt, same))

  shown : tells → shown_by (page_at image entry.page) ≡ Some (tag, s.next, main_of (page_at image entry.page))
  shown told = let held = k.holds told in ap shown_by held ∙ (k.shows ∙ ap (λ page. Some (tag, s.next, main_of page)) (sym held))

  room_in_block : used_in s.shape.pages s.table (entry.page / s.shape.pages) + untried_of s.shape mid.untried (entry.page / s.shape.pages) + 1 ≤ s.shape.pages
  room_in_block =
      let here = page_block block s image (s.next + 1) f h up most k.others in
      subst (λ b. used_in s.shape.pages s.table b + untried_of s.shape mid.untried b + 1 ≤ s.shape.pages) (sym here) (slack block s image (s.next + 1) f h up most k.others)

  has_entry : at.name < length s.table.entries
  has_entry = within f at.name n.below

  pub count_now : live_among s.shape now.table ≡ live_among s.shape s.table + 1
  count_now = count_with s.shape s.table f.numbers.table at.name has_entry entry n.from (in_segment f at.name n.below) n.unused

  pub placed_mapped : IsMapped tells geometry now
  placed_mapped =
      let count = f.count in
      let more = count_now in
      granted_mapped mid mid_mapped at.name entry is_entry (s.count + 1) own shown room_in_block (omega (arith, count, more))

  pub entry_now : entry_at now.table at.name ≡ Some entry
  entry_now = entry_here mid mid_mapped at.name entry is_entry

  entry_away : (q : ℕ) → (q ≡ at.name → ⊥) → entry_at now.table q ≡ entry_at s.table q
  entry_away q off = entry_other mid mid_mapped at.name entry is_entry q off

  -- ---- what is seen then

  pub live_now : (q : ℕ) → page_live now.table q ≡ with_page (λ r. page_live s.table r) at.name (page_of entry) q
  live_now q = live_with s.table f.numbers.table at.name has_entry entry q

  pub bytes_here : tells → bytes_at now at.name ≡ main
  bytes_here told = ap (λ (o : Option Entry). bytes_by image o) entry_now ∙ ap main_of (k.holds told)

  pub named_here : tells → named_at now at.name ≡ Some (record { tag = tag; stamp = s.next; bytes = main })
  named_here told = ap (λ (o : Option Entry). named_by image o) entry_now ∙ ap named_on (ap shown_by (k.holds told) ∙ k.shows)

  pub named_other : tells → (q : ℕ) → (q ≡ at.name → ⊥) → named_at now q ≡ named_at s q
  named_other told q off = ap (λ (o : Option Entry). named_by image o) (entry_away q off) ∙ spent_named block s image (s.next + 1) f h up most k.others told q

  pub bytes_other : tells → (q : ℕ) → (q ≡ at.name → ⊥) → bytes_at now q ≡ bytes_at s q
  bytes_other told q off = ap (λ (o : Option Entry). bytes_by image o) (entry_away q off) ∙ spent_bytes block s image (s.next + 1) f h up most k.others told q

  pub map_now : tells → (v : ℕ) → map_of s.vseg.places image v ≡ map_of s.vseg.places s.image v
  map_now told v = spent_map block s image (s.next + 1) f h up most k.others told v

  was_dead : page_live s.table at.name ≡ None
  was_dead = ap (λ (o : Option Entry). option_map page_of o) n.unused

  pub is_new : IsNewName s.shape (names_of s) at.name
  is_new = record {
    low = n.from;
    high = let below = n.below in let last = f.numbers.last in let some = f.bounds.least_pages in omega (arith, below, last, some);
    dead = was_dead;
    own = refl;
  }

  off_new : (q : ℕ) (page : LivePage) → page_live s.table q ≡ Some page → q ≡ at.name → ⊥
  off_new q page live here = none-some page (sym was_dead ∙ (ap (λ m. page_live s.table m) (sym here) ∙ live))

  pub bytes_kept : tells → (q : ℕ) (page : LivePage) → page_live s.table q ≡ Some page → bytes_at now q ≡ bytes_at s q
  bytes_kept told q page live = bytes_other told q (off_new q page live)

  holds_still : tells → HoldsLive (λ q. page_live s.table q) (λ q. bytes_at s q) (stored_in now)
  holds_still told q page live = named_other told q (off_new q page live) ∙ holds_live f told q page live

  pub tried : tells → LeavesTried s.shape (names_of s) (λ q. bytes_at s q) (record { tag = tag; stamp = s.next; bytes = main }) (stored_in s) (stored_in now)
  tried told = record {
    same_virtual = record { values = map_now told; firm = refl };
    holds = holds_still told;
    pages = leaves_in f (stored_in now) (holds_still told);
    others = λ q. ⊎_elim
        (λ here. inr (inr (subst (λ m. IsNewName s.shape (names_of s) m) (sym here) is_new, ap (λ m. named_at now m) here ∙ named_here told)))
        (λ off. inl (named_other told q off))
        (cases_eq q at.name);
  }

  -- what a stop leaves then
  pub left_with : tells → (c : Stored) → c ≡ stored_in now
      → LeavesTried s.shape (names_of s) (λ q. bytes_at s q) (record { tag = tag; stamp = s.next; bytes = main }) (stored_in s) c
      × (c.named at.name ≡ Some (record { tag = tag; stamp = s.next; bytes = main }))
  left_with told c is = subst
      (λ (x : Stored). LeavesTried s.shape (names_of s) (λ q. bytes_at s q) (record { tag = tag; stamp = s.next; bytes = main }) (stored_in s) x
      × (x.named at.name ≡ Some (record { tag = tag; stamp = s.next; bytes = main })))
      (sym is)
      (tried told, named_here told)

-- the numbers after it, where as many pages as `gone` are live no longer
pub wrote : (gone : ℕ) (s t : Mapped) → t.shape ≡ s.shape → t.room + 1 ≡ s.room → live_among t.shape t.table + gone ≡ live_among s.shape s.table + 1 → Wrote gone (space_of s) (space_of t)
wrote gone s t shape room live = record {
  same = record { block = λ i. (shape i).pages; all = λ i. (shape i).pblocks * (shape i).pages; bad = omega arith; kept = refl };
  lessened = record { victim = refl; waiting = omega arith; pairs = omega arith; left = omega arith; left_most = omega arith; lands = λ none can. omega arith };
  live = live;
  room = λ none. omega (arith, room);
  exact = λ none why. (refl, room);
}
