-- From where the pages of a number and an owner are zero.
use Rattle.std.proofs.Common.{◌≡◌, ℕ, ◌-◌, ◌*◌, ◌<◌, Bool, true, false, not, ◌&&◌, ◌||◌, max, cond, List, [], ◌∷◌, length, get_or, set, replicate, Option, Some, None, refl, sym, ◌∙◌, ap, arith}
use Rattle.std.specs.Prelude.{◌==◌, filter, fold, nat_le}
use Rattle.std.specs.List.{list_all, list_any}
use Rattle.std.specs.BTreeMap.{BTreeMap, Updates, get}
use Rattle.std.specs.Map.{lookup}
use Rattle.std.specs.Ordering.{is_eq}
use Rattle.std.proofs.lemmas.Bool.{and_parts}
use Rattle.std.proofs.lemmas.Bool.Decides.{nat_tests}
use Rattle.std.proofs.lemmas.List.{length-set}
use Rattle.nl_field.specs.Medium.{first_physical, is_physical_rec}
use Rattle.nl_field.specs.ScanList.{physical_seen}
use Rattle.nl_field.specs.SpareRecord.{stamp_of}
use Rattle.nl_field.specs.declared.pointer.Tag.{Tag}
use Rattle.nl_field.specs.declared.seen.Seen.{Seen}
use Rattle.nl_field.specs.declared.shape.Shape.{Shape}
use Rattle.nl_field.specs.declared.spare.SpareRec.{SpareRec}
use Rattle.nl_field.specs.declared.spare.SpareRec.TheVariants.{Virtual, Physical}
use Rattle.nl_meta.specs.Nodes.{Held}
use Rattle.nl_meta.specs.Walk.{has_page, has_tag, tag_eq}
use Rattle.nl_recover_pointers.specs.Numbers.{place_in}
use Rattle.nl_recover_pointers.specs.Owners.{KeepsOwned, PageKey, and_owned, and_page, greatest_zeros, is_zero_from, key_cmp, key_of, more_zeros, owned_by, owned_in, with_page, zeros_and, zeros_kept, zeros_of}
use Rattle.nl_recover_pointers.specs.declared.owners.Owned.{Owned}
use Rattle.nl_recover_pointers.proofs.Keys.{key_test, number_is}
use Rattle.nl_recover_pointers.proofs.Numbering.{blank, put_elsewhere, put_here, was_free}

same_tag : (a b : Tag) → tag_eq b a ≡ true → a ≡ b
same_tag a b is =
    let parts = and_parts (b.ino == a.ino && b.generation == a.generation) (b.index == a.index) is in
    let firsts = and_parts (b.ino == a.ino) (b.generation == a.generation) parts.0 in
    λ i. record { ino = sym (number_is b.ino a.ino firsts.0) i; generation = sym (number_is b.generation a.generation firsts.1) i; index = sym (number_is b.index a.index parts.1) i }

-- one more page of a key, as every key sees it
noted : (s t : ℕ) (a b : Tag) (from : ℕ) (old new : BTreeMap PageKey ℕ) (test : Bool) → (s == t && tag_eq b a) ≡ test
    → get key_cmp new (key_of t b) ≡ cond test (Some (more_zeros (get key_cmp old (key_of s a)) from)) (get key_cmp old (key_of t b))
    → get key_cmp new (key_of t b) ≡ cond test (Some (more_zeros (get key_cmp old (key_of t b)) from)) (get key_cmp old (key_of t b))
noted s t a b from old new true is e =
    let parts = and_parts (s == t) (tag_eq b a) is in
    e ∙ (λ i. Some (more_zeros (get key_cmp old (key_of (number_is s t parts.0 i) (same_tag a b parts.1 i))) from))
noted s t a b from old new false is e = e

at_key : (s t : ℕ) (a b : Tag) (from : ℕ) (old new : BTreeMap PageKey ℕ) → Updates key_cmp old new (key_of s a) (Some (more_zeros (get key_cmp old (key_of s a)) from))
    → get key_cmp new (key_of t b) ≡ cond (s == t && tag_eq b a) (Some (more_zeros (get key_cmp old (key_of t b)) from)) (get key_cmp old (key_of t b))
at_key s t a b from old new updates =
    noted s t a b from old new (s == t && tag_eq b a) refl
    (updates.0 (key_of t b) ∙ ap (λ x. cond x (Some (more_zeros (get key_cmp old (key_of s a)) from)) (get key_cmp old (key_of t b))) (key_test s t a b))

-- ---- pages that are kept at places

-- what is found at a place, once a page was put at a free one
found : (kept : List (Option Owned)) (at j : ℕ) (o : Owned) (t : ℕ) (b : Tag) (others : Option ℕ) → at < length kept → get_or kept at None ≡ None → (o.stamp ≡ t → j ≡ at)
    → (test : Bool) → (o.stamp == t && tag_eq b o.tag) ≡ test
    → zeros_and (zeros_of t b (get_or (set kept at (Some o)) j None)) others
    ≡ cond test (Some (more_zeros (zeros_and (zeros_of t b (get_or kept j None)) others) o.zeros)) (zeros_and (zeros_of t b (get_or kept j None)) others)
found kept at j o t b others within free same true is =
    let here : j ≡ at = same (number_is o.stamp t (and_parts (o.stamp == t) (tag_eq b o.tag) is).0) in
    ap (λ z. zeros_and z others) (ap (zeros_of t b) (put_here kept at j o within here) ∙ ap (λ x. cond x (Some o.zeros) None) is)
    ∙ sym (ap (λ z. Some (more_zeros (zeros_and (zeros_of t b z) others) o.zeros)) (was_free kept at j free here))
found kept at j o t b others within free same false is = by (j == at) refl
  where
    by : (here : Bool) → (j == at) ≡ here → zeros_and (zeros_of t b (get_or (set kept at (Some o)) j None)) others ≡ zeros_and (zeros_of t b (get_or kept j None)) others
    by true e =
        ap (λ z. zeros_and z others) (ap (zeros_of t b) (put_here kept at j o within (number_is j at e)) ∙ ap (λ x. cond x (Some o.zeros) None) is)
        ∙ sym (ap (λ z. zeros_and (zeros_of t b z) others) (was_free kept at j free (number_is j at e)))
    by false e = ap (λ z. zeros_and (zeros_of t b z) others) (put_elsewhere kept at j o e)

-- a page is kept at the place of its number, which was free
pub put_owned : (kept : List (Option Owned)) (o : Owned) (at : ℕ) → at ≡ place_in (length kept) o.stamp → at < length kept → get_or kept at None ≡ None → KeepsOwned kept (set kept at (Some o)) o
put_owned kept o at at_is within free t b others =
    ap (λ count. zeros_and (zeros_of t b (get_or (set kept at (Some o)) (place_in count t) None)) others) (length-set kept at (Some o))
    ∙ found kept at (place_in (length kept) t) o t b others within free (λ e. ap (place_in (length kept)) (sym e) ∙ sym at_is) (o.stamp == t && tag_eq b o.tag) refl

swapped : (k from : ℕ) → max k from ≡ max from k
swapped k from = omega arith

exchanged : (k from g : ℕ) → max k (max from g) ≡ max from (max k g)
exchanged k from g = omega arith

and_more : (zeros others : Option ℕ) (from : ℕ) (test : Bool) → zeros_and zeros (cond test (Some (more_zeros others from)) others) ≡ cond test (Some (more_zeros (zeros_and zeros others) from)) (zeros_and zeros others)
and_more zeros others from false = refl
and_more None others from true = refl
and_more (Some k) None from true = ap Some (swapped k from)
and_more (Some k) (Some g) from true = ap Some (exchanged k from g)

-- a page is one of the others
pub owned_other : (kept new_kept : List (Option Owned)) (s : ℕ) (a : Tag) (from : ℕ) (old new : BTreeMap PageKey ℕ) → new_kept ≡ kept
    → Updates key_cmp old new (key_of s a) (Some (more_zeros (get key_cmp old (key_of s a)) from)) → (t : ℕ) (b : Tag)
    → zeros_and (zeros_kept new_kept t b) (get key_cmp new (key_of t b)) ≡ and_page s a from (zeros_and (zeros_kept kept t b) (get key_cmp old (key_of t b))) t b
owned_other kept new_kept s a from old new same updates t b =
    ap (λ l. zeros_and (zeros_kept l t b) (get key_cmp new (key_of t b))) same
    ∙ (ap (zeros_and (zeros_kept kept t b)) (at_key s t a b from old new updates) ∙ and_more (zeros_kept kept t b) (get key_cmp old (key_of t b)) from (s == t && tag_eq b a))

-- no page
pub no_owner : (count : ℕ) (more : BTreeMap PageKey ℕ) → more.entries ≡ [] → (s : ℕ) (t : Tag) → zeros_and (zeros_kept (replicate count None) s t) (get key_cmp more (key_of s t)) ≡ None
no_owner count more none s t =
    ap (λ z. zeros_and (zeros_of s t z) (get key_cmp more (key_of s t))) (blank {X = Owned} count (place_in (length (replicate {A = Option Owned} count None)) s))
    ∙ ap (λ (es : List (PageKey × ℕ)). lookup (λ k. is_eq (key_cmp (key_of s t) k)) es) none

-- ---- the pages that a scan saw

-- one more of them
pub seen_more : (shape : Shape) (x : Seen) (rest : List Seen) (s : ℕ) (t : Tag) (old : Option ℕ)
    → fold (with_page s t) old (physical_seen shape (x ∷ rest)) ≡ fold (with_page s t) (and_owned (owned_in shape x) old s t) (physical_seen shape rest)
unfolding physical_seen
seen_more shape x rest s t old = by (nat_le (first_physical shape) x.page) x.rec refl
  where
    by : (b : Bool) (rec : SpareRec) → x.rec ≡ rec
        → fold (with_page s t) old (cond (b && is_physical_rec rec) (x ∷ filter (λ s. nat_le (first_physical shape) s.page && is_physical_rec s.rec) rest) (filter (λ s. nat_le (first_physical shape) s.page && is_physical_rec s.rec) rest))
        ≡ fold (with_page s t) (and_owned (cond b (owned_by x.zeros rec) None) old s t) (filter (λ s. nat_le (first_physical shape) s.page && is_physical_rec s.rec) rest)
    by false rec is = refl
    by true (Virtual vaddr stamp wear) is = refl
    by true (Physical tag stamp wear) is = ap (λ r. fold (with_page s t) (cond (stamp_of r == s && has_tag t r) (Some (more_zeros old x.zeros)) old) (filter (λ s. nat_le (first_physical shape) s.page && is_physical_rec s.rec) rest)) is

pub seen_none : (shape : Shape) (s : ℕ) (t : Tag) (old : Option ℕ) → fold (with_page s t) old (physical_seen shape []) ≡ old
unfolding physical_seen
seen_none shape s t old = refl

-- ---- what the greatest offset tells

within_max : (a z end : ℕ) → nat_le (max a z) end ≡ (nat_le z end && nat_le a end)
within_max a z end = grind (arith, nat_tests)

and_regrouped : (a b c : Bool) → ((a && b) && c) ≡ (a && (b && c))
and_regrouped true b c = refl
and_regrouped false b c = refl

module _ (stamp end : ℕ) (tag : Tag) where
  abbrev is_it : Seen → Bool
  is_it s = stamp_of s.rec == stamp && has_tag tag s.rec

  abbrev is_short : Seen → Bool
  is_short s = not (is_it s) || nat_le s.zeros end

  after_some : (z : ℕ) (pages : List Seen) → is_zero_from end (fold (with_page stamp tag) (Some z) pages) ≡ (nat_le z end && list_all is_short pages)
  after_some z [] = none (nat_le z end)
    where
      none : (b : Bool) → b ≡ (b && true)
      none true = refl
      none false = refl
  after_some z (s ∷ pages) = by (is_it s) (after_some (max s.zeros z) pages) (after_some z pages)
    where
      by : (b : Bool) → is_zero_from end (fold (with_page stamp tag) (Some (max s.zeros z)) pages) ≡ (nat_le (max s.zeros z) end && list_all is_short pages)
          → is_zero_from end (fold (with_page stamp tag) (Some z) pages) ≡ (nat_le z end && list_all is_short pages)
          → is_zero_from end (fold (with_page stamp tag) (cond b (Some (max s.zeros z)) (Some z)) pages) ≡ (nat_le z end && ((not b || nat_le s.zeros end) && list_all is_short pages))
      by true more same = more ∙ (ap (λ x. x && list_all is_short pages) (within_max s.zeros z end) ∙ and_regrouped (nat_le z end) (nat_le s.zeros end) (list_all is_short pages))
      by false more same = same

  after_none : (pages : List Seen) → is_zero_from end (fold (with_page stamp tag) None pages) ≡ (list_any is_it pages && list_all is_short pages)
  after_none [] = refl
  after_none (s ∷ pages) = by (is_it s) (after_some s.zeros pages) (after_none pages)
    where
      by : (b : Bool) → is_zero_from end (fold (with_page stamp tag) (Some s.zeros) pages) ≡ (nat_le s.zeros end && list_all is_short pages)
          → is_zero_from end (fold (with_page stamp tag) None pages) ≡ (list_any is_it pages && list_all is_short pages)
          → is_zero_from end (fold (with_page stamp tag) (cond b (Some s.zeros) None) pages) ≡ ((b || list_any is_it pages) && ((not b || nat_le s.zeros end) && list_all is_short pages))
      by true more same = more
      by false more same = same

-- the page of a pointer is there exactly where its key has one that is zero early enough
pub has_page_by_key : (physicals : List Seen) (h : Held) → is_zero_from (h.size - 4096 * h.tag.index) (greatest_zeros physicals h.pointer.stamp h.tag) ≡ has_page physicals h
unfolding greatest_zeros
has_page_by_key physicals h = after_none h.pointer.stamp (h.size - 4096 * h.tag.index) h.tag physicals
