-- Numbers at places by their remainders, with one more.
use Rattle.std.proofs.Common.{◌≡◌, ℕ, ◌<◌, Bool, true, false, ◌||◌, cond, List, length, get_or, set, replicate, Option, Some, None, ⊎_elim, refl, sym, ◌∙◌, ap, arith}
use Rattle.std.specs.Prelude.{◌==◌, is_none, slice_get}
use Rattle.std.specs.BTreeSet.{BTreeSet, IsEmpty, Updates, contains}
use Rattle.std.specs.List.{list_any}
use Rattle.std.specs.Ordering.{is_eq, nat_cmp}
use Rattle.std.proofs.lemmas.Bool.{cases_lt, eqb-false, false≢true}
use Rattle.std.proofs.lemmas.List.{get_or-replicate, get_or-set_other, get_or-set_same, get_or_past, length-replicate, length-set}
use Rattle.std.proofs.lemmas.Option.{get_or_from_slice_get}
use Rattle.nl_recover_pointers.specs.Numbers.{is_it, is_kept, place_in}
use Rattle.nl_recover_pointers.proofs.Keys.{grouped, number_is, number_test, or_added}

-- ---- sets of numbers

pub number_added : (old new : BTreeSet ℕ) (n : ℕ) → Updates nat_cmp old new n true → (m : ℕ) → contains nat_cmp new m ≡ (n == m || contains nat_cmp old m)
number_added old new n updates m = updates.0 m ∙ (ap (λ x. cond x true (contains nat_cmp old m)) (number_test n m) ∙ or_added (n == m) (contains nat_cmp old m))

pub no_number : (set : BTreeSet ℕ) → IsEmpty set → (m : ℕ) → contains nat_cmp set m ≡ false
no_number set none m = ap (list_any (λ k. is_eq (nat_cmp m k))) none

-- ---- places

-- nothing is kept at any place
pub blank : {X : Type 0} (count at : ℕ) → get_or (replicate {A = Option X} count None) at None ≡ None
blank {X} count at = ⊎_elim (λ less. get_or-replicate count at None None less)
    (λ past. get_or_past (replicate {A = Option X} count None) at None (omega (arith, past, length-replicate {A = Option X} count None))) (cases_lt at count)

pub none_kept : (count : ℕ) (more : BTreeSet ℕ) → IsEmpty more → (n : ℕ) → (is_kept (replicate count None) n || contains nat_cmp more n) ≡ false
none_kept count more none n = (λ i. is_it n (blank {X = ℕ} count (place_in (length (replicate {A = Option ℕ} count None)) n) i) || no_number more none n i)

-- a place that is there and has nothing is free
pub free_by : {X : Type 0} (kept : List (Option X)) (at : ℕ) (one : Option X) → slice_get kept at ≡ Some one → is_none one ≡ true → get_or kept at None ≡ None
free_by kept at None is none = get_or_from_slice_get kept at None None is
free_by kept at (Some x) is none = absurd (false≢true none)

pub put_here : {X : Type 0} (kept : List (Option X)) (at j : ℕ) (x : X) → at < length kept → j ≡ at → get_or (set kept at (Some x)) j None ≡ Some x
put_here kept at j x within here = ap (λ k. get_or (set kept at (Some x)) k None) here ∙ get_or-set_same kept at (Some x) None within

pub was_free : {X : Type 0} (kept : List (Option X)) (at j : ℕ) → get_or kept at None ≡ None → j ≡ at → get_or kept j None ≡ None
was_free kept at j free here = ap (λ k. get_or kept k None) here ∙ free

pub put_elsewhere : {X : Type 0} (kept : List (Option X)) (at j : ℕ) (x : X) → (j == at) ≡ false → get_or (set kept at (Some x)) j None ≡ get_or kept j None
put_elsewhere kept at j x apart = get_or-set_other kept at j (Some x) None (eqb-false j at apart)

-- what is found at a place, once a number was put at a free one
found : (kept : List (Option ℕ)) (at j n m : ℕ) → at < length kept → get_or kept at None ≡ None → (n ≡ m → j ≡ at) → (test : Bool) → (n == m) ≡ test
    → is_it m (get_or (set kept at (Some n)) j None) ≡ (test || is_it m (get_or kept j None))
found kept at j n m within free same true is = ap (is_it m) (put_here kept at j n within (same (number_is n m is))) ∙ is
found kept at j n m within free same false is = by (j == at) refl
  where
    by : (here : Bool) → (j == at) ≡ here → is_it m (get_or (set kept at (Some n)) j None) ≡ is_it m (get_or kept j None)
    by true e = ap (is_it m) (put_here kept at j n within (number_is j at e)) ∙ (is ∙ sym (ap (is_it m) (was_free kept at j free (number_is j at e))))
    by false e = ap (is_it m) (put_elsewhere kept at j n e)

-- a number is kept at its place, which was free
pub put_number : (kept : List (Option ℕ)) (n at : ℕ) → at ≡ place_in (length kept) n → at < length kept → get_or kept at None ≡ None
    → (m : ℕ) → is_kept (set kept at (Some n)) m ≡ (n == m || is_kept kept m)
put_number kept n at at_is within free m =
    ap (λ count. is_it m (get_or (set kept at (Some n)) (place_in count m) None)) (length-set kept at (Some n))
    ∙ found kept at (place_in (length kept) m) n m within free (λ e. ap (place_in (length kept)) (sym e) ∙ sym at_is) (n == m) refl

-- one more of those that are kept, or of the others
pub added_kept : (old new : List (Option ℕ)) (n m : ℕ) (others : Bool) → is_kept new m ≡ (n == m || is_kept old m) → (is_kept new m || others) ≡ (n == m || (is_kept old m || others))
added_kept old new n m others is = ap (λ x. x || others) is ∙ grouped (n == m) (is_kept old m) others

moved : (x y z : Bool) → (x || (y || z)) ≡ (y || (x || z))
moved true true z = refl
moved true false z = refl
moved false y z = refl

pub added_other : (kept new_kept : List (Option ℕ)) (old new : BTreeSet ℕ) (n : ℕ) → new_kept ≡ kept → Updates nat_cmp old new n true
    → (m : ℕ) → (is_kept new_kept m || contains nat_cmp new m) ≡ (n == m || (is_kept kept m || contains nat_cmp old m))
added_other kept new_kept old new n same updates m =
    ap (λ l. is_kept l m || contains nat_cmp new m) same
    ∙ (ap (λ x. is_kept kept m || x) (number_added old new n updates m) ∙ moved (is_kept kept m) (n == m) (contains nat_cmp old m))
