-- The pages of the segments, and which of them are needed.
use Rattle.std.proofs.Common.{◌≡◌, ℕ, ◌/◌, max, Bool, true, false, not, ◌&&◌, ◌||◌, cond, List, [], ◌∷◌, Some, map, unwrap_or, refl, sym, ◌∙◌, ap, arith}
use Rattle.std.specs.Prelude.{◌==◌, nat_lt, find, fold, is_some}
use Rattle.std.specs.List.{list_all, list_any, range_with_len}
use Rattle.std.specs.BTreeMap.{BTreeMap, Updates, get}
use Rattle.std.specs.Ordering.{nat_cmp}
use Rattle.std.proofs.lemmas.Bool.Decides.{nat_tests}
use Rattle.nl_field.specs.Medium.{address_of}
use Rattle.nl_field.specs.ScanList.{on_list, physical_seen, physical_spare_seen, virtual_seen, virtual_spare_seen}
use Rattle.nl_field.specs.Space.{has_greatest_among, spare_among}
use Rattle.nl_field.specs.SpareRecord.{stamp_of}
use Rattle.nl_field.specs.declared.seen.Seen.{Seen}
use Rattle.nl_field.specs.declared.shape.Shape.{Shape}
use Rattle.nl_meta.specs.Nodes.{Held}
use Rattle.nl_meta.specs.Walk.{spare_beside}
use Rattle.nl_recover_pointers.specs.Copies.{greatest_stamp, is_stamp_of, physical_copies, virtual_copies, with_stamp}
use Rattle.nl_recover_pointers.specs.Spare.{has_spare, is_copy, is_spare_among}
use Rattle.nl_recover_pointers.specs.declared.spare.PageCopy.{PageCopy}
use Rattle.nl_recover_pointers.proofs.Keys.{number_is, number_test}

-- ---- the greatest number of an address

raised : (a b s : ℕ) (old new : BTreeMap ℕ ℕ) (test : Bool) → (a == b) ≡ test → unwrap_or (get nat_cmp new b) 0 ≡ unwrap_or (cond test (Some (max (unwrap_or (get nat_cmp old a) 0) s)) (get nat_cmp old b)) 0
    → unwrap_or (get nat_cmp new b) 0 ≡ cond test (max (unwrap_or (get nat_cmp old b) 0) s) (unwrap_or (get nat_cmp old b) 0)
raised a b s old new true is e = e ∙ (λ i. max (unwrap_or (get nat_cmp old (number_is a b is i)) 0) s)
raised a b s old new false is e = e

pub greatest_more : (page : Seen) (old new : BTreeMap ℕ ℕ) → Updates nat_cmp old new (address_of page.rec) (Some (max (unwrap_or (get nat_cmp old (address_of page.rec)) 0) (stamp_of page.rec)))
    → (b : ℕ) → unwrap_or (get nat_cmp new b) 0 ≡ with_stamp b (unwrap_or (get nat_cmp old b) 0) page
greatest_more page old new updates b =
    let a = address_of page.rec in
    let s = stamp_of page.rec in
    raised a b s old new (a == b) refl (ap (λ o. unwrap_or o 0) (updates.0 b ∙ ap (λ x. cond x (Some (max (unwrap_or (get nat_cmp old a) 0) s)) (get nat_cmp old b)) (number_test a b)))

below_max : (s best t : ℕ) → nat_lt s (max best t) ≡ (nat_lt s best || nat_lt s t)
below_max s best t = grind (arith, nat_tests)

above_after : (a s best : ℕ) (pages : List Seen) → nat_lt s (fold (with_stamp a) best pages) ≡ (nat_lt s best || list_any (λ q. address_of q.rec == a && nat_lt s (stamp_of q.rec)) pages)
above_after a s best [] = none (nat_lt s best)
  where
    none : (b : Bool) → b ≡ (b || false)
    none true = refl
    none false = refl
above_after a s best (q ∷ pages) = by (address_of q.rec == a) (above_after a s (max best (stamp_of q.rec)) pages) (above_after a s best pages)
  where
    rest : Bool
    rest = list_any (λ q. address_of q.rec == a && nat_lt s (stamp_of q.rec)) pages

    grouped : (x y z : Bool) → ((x || y) || z) ≡ (x || (y || z))
    grouped true y z = refl
    grouped false y z = refl

    by : (b : Bool) → nat_lt s (fold (with_stamp a) (max best (stamp_of q.rec)) pages) ≡ (nat_lt s (max best (stamp_of q.rec)) || list_any (λ q. address_of q.rec == a && nat_lt s (stamp_of q.rec)) pages)
        → nat_lt s (fold (with_stamp a) best pages) ≡ (nat_lt s best || list_any (λ q. address_of q.rec == a && nat_lt s (stamp_of q.rec)) pages)
        → nat_lt s (fold (with_stamp a) (cond b (max best (stamp_of q.rec)) best) pages) ≡ (nat_lt s best || ((b && nat_lt s (stamp_of q.rec)) || list_any (λ q. address_of q.rec == a && nat_lt s (stamp_of q.rec)) pages))
    by true more same = more ∙ (ap (λ x. x || list_any (λ q. address_of q.rec == a && nat_lt s (stamp_of q.rec)) pages) (below_max s best (stamp_of q.rec)) ∙ grouped (nat_lt s best) (nat_lt s (stamp_of q.rec)) (list_any (λ q. address_of q.rec == a && nat_lt s (stamp_of q.rec)) pages))
    by false more same = same

below_none : (s : ℕ) → nat_lt s 0 ≡ false
below_none s = grind (arith, nat_tests)

-- a page has the greatest number of its address
pub greatest_test : (pages : List Seen) (r : Seen) → not (nat_lt (stamp_of r.rec) (greatest_stamp pages (address_of r.rec))) ≡ has_greatest_among on_list pages r
unfolding greatest_stamp
greatest_test pages r =
    ap not (above_after (address_of r.rec) (stamp_of r.rec) 0 pages ∙ ap (λ x. x || list_any (λ q. address_of q.rec == address_of r.rec && nat_lt (stamp_of r.rec) (stamp_of q.rec)) pages) (below_none (stamp_of r.rec)))

-- ---- the pages of a segment, as those that can be erased are found

all_mapped : {X Y : Type 0} (f : X → Y) (p : X → Bool) (q : Y → Bool) → ((x : X) → p x ≡ q (f x)) → (xs : List X) → list_all p xs ≡ list_all q (map f xs)
all_mapped f p q same [] = refl
all_mapped f p q same (x ∷ xs) = λ i. same x i && all_mapped f p q same xs i

any_mapped : {X Y : Type 0} (f : X → Y) (p : X → Bool) (q : Y → Bool) → ((x : X) → p x ≡ q (f x)) → (xs : List X) → list_any p xs ≡ list_any q (map f xs)
any_mapped f p q same [] = refl
any_mapped f p q same (x ∷ xs) = λ i. same x i || any_mapped f p q same xs i

found_any : (p q : ℕ → Bool) → ((n : ℕ) → p n ≡ q n) → (ns : List ℕ) → list_any q ns ≡ is_some (find p ns)
found_any p q same [] = refl
found_any p q same (n ∷ ns) = ap (λ b. b || list_any q ns) (sym (same n)) ∙ by (p n) (found_any p q same ns)
  where
    by : (b : Bool) → list_any q ns ≡ is_some (find p ns) → (b || list_any q ns) ≡ is_some (cond b (Some n) (find p ns))
    by true rest = refl
    by false rest = rest

module _ (size : ℕ) (pages : List Seen) (needed : Seen → Bool) (copy : Seen → Seen → Bool) (f : Seen → PageCopy)
    (block_is : (s : Seen) → s.page / size ≡ (f s).block) (needed_is : (s : Seen) → needed s ≡ (f s).is_needed) (copy_is : (q r : Seen) → copy q r ≡ is_copy (f q) (f r)) where
  spare_mapped : (first count : ℕ) → has_spare first count (map f pages) ≡ is_some (spare_among on_list size first count pages needed copy)
  unfolding has_spare
  spare_mapped first count =
      found_any (λ block. list_all (λ r. not (r.page / size == block && needed r) || list_any (λ q. not (q.page / size == block) && copy q r) pages) pages) (is_spare_among (map f pages))
      (λ block. all_mapped f (λ r. not (r.page / size == block && needed r) || list_any (λ q. not (q.page / size == block) && copy q r) pages)
      (λ r. not (r.block == block && r.is_needed) || list_any (λ q. not (q.block == block) && is_copy q r) (map f pages))
      (λ r. λ i. not (block_is r i == block && needed_is r i)
      || any_mapped f (λ q. not (q.page / size == block) && copy q r) (λ q. not (q.block == block) && is_copy q (f r)) (λ q. λ j. not (block_is q j == block) && copy_is q r j) pages i) pages)
      (range_with_len first count)

pub virtual_spare_is : (shape : Shape) (seen : List Seen) → has_spare 0 shape.vblocks (virtual_copies shape.pages (virtual_seen shape seen)) ≡ is_some (virtual_spare_seen shape seen)
unfolding virtual_copies virtual_spare_seen
virtual_spare_is shape seen =
    let pages = virtual_seen shape seen in
    spare_mapped shape.pages pages (has_greatest_among on_list pages) (λ q r. address_of q.rec == address_of r.rec && stamp_of q.rec == stamp_of r.rec)
    (λ s. record { block = s.page / shape.pages; address = address_of s.rec; stamp = stamp_of s.rec; is_needed = has_greatest_among on_list pages s })
    (λ s. refl) (λ s. refl) (λ q r. refl) 0 shape.vblocks

stamps_mapped : (held : List Held) (stamp : ℕ) → list_any (λ s. s == stamp) (map (λ (h : Held). h.pointer.stamp) held) ≡ is_stamp_of held stamp
stamps_mapped [] stamp = refl
stamps_mapped (h ∷ held) stamp = ap (λ x. h.pointer.stamp == stamp || x) (stamps_mapped held stamp)

pub physical_spare_is : (shape : Shape) (seen : List Seen) (held : List Held)
    → has_spare shape.vblocks shape.pblocks (physical_copies shape.pages held (physical_seen shape seen)) ≡ is_some (spare_beside shape seen held)
unfolding physical_copies physical_spare_seen
physical_spare_is shape seen held =
    let pages = physical_seen shape seen in
    spare_mapped shape.pages pages (λ r. list_any (λ s. s == stamp_of r.rec) (map (λ (h : Held). h.pointer.stamp) held)) (λ q r. stamp_of q.rec == stamp_of r.rec)
    (λ s. record { block = s.page / shape.pages; address = 0; stamp = stamp_of s.rec; is_needed = is_stamp_of held (stamp_of s.rec) })
    (λ s. refl) (λ s. stamps_mapped held (stamp_of s.rec)) (λ q r. refl) shape.vblocks shape.pblocks
