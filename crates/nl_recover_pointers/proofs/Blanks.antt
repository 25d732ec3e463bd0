-- A block in which no page was seen can be erased.
use Rattle.std.proofs.Common.{◌≡◌, ℕ, ◌+◌, ◌<◌, ◌/◌, Bool, true, false, not, ◌&&◌, ◌||◌, cond, List, [], ◌∷◌, length, get_or, map, Some, refl, sym, ◌∙◌, ap, arith}
use Rattle.std.specs.Prelude.{◌==◌, filter, find, is_some, nat_le, nat_lt}
use Rattle.std.specs.List.{list_all, list_any, range_with_len}
use Rattle.std.proofs.lemmas.Bool.{false≢true, not-true, not_from_false, or_parts}
use Rattle.nl_field.specs.Medium.{address_of, first_physical, is_physical_rec, is_virtual_rec}
use Rattle.nl_field.specs.ScanList.{on_list, physical_seen, physical_spare_seen, virtual_seen, virtual_spare_seen}
use Rattle.nl_field.specs.Space.{has_greatest_among, spare_among}
use Rattle.nl_field.specs.SpareRecord.{stamp_of}
use Rattle.nl_field.specs.declared.seen.Seen.{Seen}
use Rattle.nl_field.specs.declared.shape.Shape.{Shape}
use Rattle.nl_meta.specs.Nodes.{Held}
use Rattle.nl_meta.specs.Walk.{spare_beside}
use Rattle.nl_recover_pointers.specs.Blank.{has_blank, is_within}
use Rattle.nl_recover_pointers.proofs.Sparing.{each_block}

-- ---- marks of blocks

double : (x : Bool) → x ≡ not (not x)
double true = refl
double false = refl

-- some block is not marked exactly where in one no page was seen
pub blank_by_marks : (seen : List Seen) (size first count : ℕ) (marks : List Bool) → length marks ≡ count
    → ((i : ℕ) → i < count → get_or marks i false ≡ list_any (is_within size (first + i)) seen) → not (list_all (λ mark. mark) marks) ≡ has_blank size first count seen
unfolding has_blank
blank_by_marks seen size first count marks same each =
    each_block (λ block. not (list_any (is_within size block) seen)) first marks
    (λ i within. each i (omega (arith, within, same)) ∙ double (list_any (is_within size (first + i)) seen))
    ∙ ap (λ n. list_any (λ block. not (list_any (is_within size block) seen)) (range_with_len first n)) same

-- ---- what is found where one is blank

-- one that passes is found, where each passes that is blank
found_blank : (blank p : ℕ → Bool) → ((n : ℕ) → blank n ≡ true → p n ≡ true) → (ns : List ℕ) → list_any blank ns ≡ true → is_some (find p ns) ≡ true
found_blank blank p passes [] any = any
found_blank blank p passes (n ∷ ns) any = by (blank n) (p n) refl refl any (found_blank blank p passes ns)
  where
    by : (b q : Bool) → blank n ≡ b → p n ≡ q → (b || list_any blank ns) ≡ true → (list_any blank ns ≡ true → is_some (find p ns) ≡ true) → is_some (cond q (Some n) (find p ns)) ≡ true
    by b true is_blank is_one any later = refl
    by true false is_blank is_one any later = absurd (false≢true (sym is_one ∙ passes n is_blank))
    by false false is_blank is_one any later = later any

module _ (size block : ℕ) (needed copied : Seen → Bool) (test : Seen → Bool) where
  abbrev may_go : Seen → Bool
  may_go r = not (r.page / size == block && needed r) || copied r

  all_go : (seen : List Seen) → not (list_any (is_within size block) seen) ≡ true → list_all may_go (filter test seen) ≡ true
  all_go [] none = refl
  all_go (s ∷ seen) none =
      let parts = or_parts (s.page / size == block) (list_any (is_within size block) seen) (not-true ((s.page / size == block) || list_any (is_within size block) seen) none) in
      by (test s) parts.0 (all_go seen (not_from_false (list_any (is_within size block) seen) parts.1))
    where
      by : (kept : Bool) → (s.page / size == block) ≡ false → list_all may_go (filter test seen) ≡ true → list_all may_go (cond kept (s ∷ filter test seen) (filter test seen)) ≡ true
      by true apart rest = ap (λ x. (not (x && needed s) || copied s) && list_all may_go (filter test seen)) apart ∙ rest
      by false apart rest = rest

module _ (size first count : ℕ) (test needed : Seen → Bool) (copy : Seen → Seen → Bool) (seen : List Seen) where
  spare_of_blank : has_blank size first count seen ≡ true → is_some (spare_among on_list size first count (filter test seen) needed copy) ≡ true
  unfolding has_blank
  spare_of_blank blank =
      found_blank (λ block. not (list_any (is_within size block) seen))
      (λ block. list_all (λ r. not (r.page / size == block && needed r) || list_any (λ q. not (q.page / size == block) && copy q r) (filter test seen)) (filter test seen))
      (λ block none. all_go size block needed (λ r. list_any (λ q. not (q.page / size == block) && copy q r) (filter test seen)) test seen none)
      (range_with_len first count) blank

pub virtual_blank : (shape : Shape) (seen : List Seen) → has_blank shape.pages 0 shape.vblocks seen ≡ true → is_some (virtual_spare_seen shape seen) ≡ true
unfolding virtual_spare_seen virtual_seen
virtual_blank shape seen blank =
    let pages = virtual_seen shape seen in
    spare_of_blank shape.pages 0 shape.vblocks (λ s. nat_lt s.page (first_physical shape) && is_virtual_rec shape s.rec) (has_greatest_among on_list pages)
    (λ q r. address_of q.rec == address_of r.rec && stamp_of q.rec == stamp_of r.rec) seen blank

pub physical_blank : (shape : Shape) (seen : List Seen) (held : List Held) → has_blank shape.pages shape.vblocks shape.pblocks seen ≡ true → is_some (spare_beside shape seen held) ≡ true
unfolding physical_spare_seen physical_seen
physical_blank shape seen held blank =
    spare_of_blank shape.pages shape.vblocks shape.pblocks (λ s. nat_le (first_physical shape) s.page && is_physical_rec s.rec)
    (λ r. list_any (λ s. s == stamp_of r.rec) (map (λ (h : Held). h.pointer.stamp) held)) (λ q r. stamp_of q.rec == stamp_of r.rec) seen blank
