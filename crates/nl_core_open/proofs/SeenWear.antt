-- The wear of the pages that a scan of an image lists is that of its readable pages.
use Rattle.std.proofs.Common.{◌≡◌, ℕ, ◌+◌, ◌≤◌, List, [], ◌∷◌, max, min, length, map, drop, Some, refl, sym, ap, ◌∙◌, rules}
use Rattle.std.specs.Ordering.{nat_cmp, ord_max}
use Rattle.std.specs.Prelude.{fold, slice_get}
use Rattle.std.proofs.lemmas.List.{drop_all, drop_more}
use Rattle.std.proofs.lemmas.Option.{get_or_from_slice_get, slice_get_within}
use Rattle.nl_field.specs.Medium.{Readable, readable_pages}
use Rattle.nl_field.specs.Page.{Image}
use Rattle.nl_field.specs.Scan.{greatest_wear, least_on, least_wear}
use Rattle.nl_field.specs.ScanList.{seen_in, seen_of}
use Rattle.nl_field.specs.SpareRecord.{wear_of}
use Rattle.nl_field.specs.declared.seen.Seen.{Seen}
use Rattle.nl_field.proofs.ScanLists.{lists_tell}
use Rattle.nl_core_open.specs.Figures.{greatest_seen, least_seen}

abbrev pub higher : ℕ → Seen → ℕ
higher best s = max best (wear_of s.rec)

abbrev pub lower : ℕ → Seen → ℕ
lower best s = min best (wear_of s.rec)

-- what the comparison of numbers picks
pub greater : (a b : ℕ) → ord_max nat_cmp a b ≡ max a b
greater a b = search rules

-- ---- the list of an image

module _ (image : Image) where
  higher_on : (best : ℕ) (rs : List Readable) → fold higher best (map (seen_of image) rs) ≡ fold (λ best r. max best (wear_of r.rec)) best rs
  higher_on best [] = refl
  higher_on best (r ∷ rs) = higher_on (max best (wear_of r.rec)) rs

  lower_on : (best : ℕ) (rs : List Readable) → fold lower best (map (seen_of image) rs) ≡ fold (λ best r. min best (wear_of r.rec)) best rs
  lower_on best [] = refl
  lower_on best (r ∷ rs) = lower_on (min best (wear_of r.rec)) rs

  pub greatest_is : greatest_seen (seen_in image) ≡ greatest_wear image
  unfolding greatest_seen greatest_wear
  greatest_is = ap (fold higher 0) (lists_tell image).each ∙ higher_on 0 (readable_pages image)

  pub least_is : least_seen (seen_in image) ≡ least_wear image
  unfolding least_seen least_wear
  least_is = ap least_seen (lists_tell image).each ∙ by (readable_pages image)
    where
      by : (rs : List Readable) → least_seen (map (seen_of image) rs) ≡ least_on rs
      by [] = refl
      by (r ∷ rs) = lower_on (wear_of r.rec) rs

-- ---- one page on

pub drop_got : (xs : List Seen) (at : ℕ) (x : Seen) → slice_get xs at ≡ Some x → drop at xs ≡ x ∷ drop (at + 1) xs
drop_got xs at x is = drop_more xs at x (slice_get_within xs at x is) ∙ ap (λ y. y ∷ drop (at + 1) xs) (get_or_from_slice_get xs at x x is)

pub more : (f : ℕ → Seen → ℕ) (xs : List Seen) (at n m : ℕ) (x : Seen) → slice_get xs at ≡ Some x → fold f n (drop at xs) ≡ m → fold f (f n x) (drop (at + 1) xs) ≡ m
more f xs at n m x is so = sym (ap (fold f n) (drop_got xs at x is)) ∙ so

pub ended : (f : ℕ → Seen → ℕ) (xs : List Seen) (at n m : ℕ) → length xs ≤ at → fold f n (drop at xs) ≡ m → n ≡ m
ended f xs at n m past so = sym (ap (fold f n) (drop_all at xs past)) ∙ so

-- the least one begins with the first page
pub first : (xs : List Seen) (x : Seen) → slice_get xs 0 ≡ Some x → fold lower (wear_of x.rec) (drop 1 xs) ≡ least_seen xs
unfolding least_seen
first [] x is = absurd (let no : ⊥ = cc in no)
first (y ∷ ys) x is = ap (λ (s : Seen). fold lower (wear_of s.rec) ys) (sym (some_same y x is))
  where
    some_same : (y x : Seen) → Some y ≡ Some x → y ≡ x
    some_same y x e = cc

pub none : (xs : List Seen) → length xs ≡ 0 → 0 ≡ least_seen xs
unfolding least_seen
none [] e = refl
none (x ∷ xs) e = absurd (let no : ⊥ = cc in no)
