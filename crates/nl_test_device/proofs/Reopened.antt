-- What a scan tells of a medium of the least volume.
use Rattle.std.proofs.Common.{◌≡◌, ℕ, zero, suc, ◌+◌, ◌<◌, Bool, List, [], ◌∷◌, Option, Some, length, map, refl, sym, ◌∙◌, ap, subst, arith}
use Rattle.std.specs.Prelude.{slice_get, filter_map}
use Rattle.std.specs.List.{cons_option, range_with_len}
use Rattle.std.proofs.lemmas.Option.{same_Some}
use Rattle.nl_field.specs.Numbers.{shape_for}
use Rattle.nl_field.specs.declared.seen.Seen.{Seen}
use Rattle.nl_field.specs.declared.shape.Shape.{Shape}
use Rattle.nl_device.specs.Kept.{KeptPages, kept_from, kept_of_scan, kept_pages}
use Rattle.nl_device.specs.declared.kept.page.KeptPage.{KeptPage}
use Rattle.nl_test_device.specs.Reopened.{of_least, own_page, pages_from, place_of, wanted_at}

-- what is kept of the page that the scan saw at that place
pub record IsAt (seen : List Seen) (i : ℕ) (kept : KeptPage) : Type 0 where
  pub page : Seen
  pub here : slice_get seen i ≡ Some page
  pub same : kept_from 256 page ≡ Some kept

next_at : (s : Seen) (seen : List Seen) (i : ℕ) (kept : KeptPage) → IsAt (s ∷ seen) (suc i) kept → IsAt seen i kept
next_at s seen i kept at = record { page = at.page; here = at.here; same = at.same }

first_at : (s : Seen) (seen : List Seen) (kept : KeptPage) → IsAt (s ∷ seen) zero kept → kept_from 256 s ≡ Some kept
first_at s seen kept at = ap (kept_from 256) (same_Some s at.page at.here) ∙ at.same

all_at : (f : ℕ → KeptPage) (seen : List Seen) (from count : ℕ) → length seen ≡ count → ((i : ℕ) → i < count → IsAt seen i (f (from + i))) → filter_map (kept_from 256) seen ≡ map f (range_with_len from count)
all_at f [] from zero same each = refl
all_at f [] from (suc count) same each = absurd (omega (arith, same))
all_at f (s ∷ seen) from zero same each = absurd (omega (arith, same))
all_at f (s ∷ seen) from (suc count) same each =
    let here : from + 0 ≡ from = omega arith in
    ap (λ o. cons_option o (filter_map (kept_from 256) seen)) (first_at s seen (f from) (subst (λ n. IsAt (s ∷ seen) zero (f n)) here (each zero (omega arith))))
    ∙ ap (λ (rest : List KeptPage). f from ∷ rest)
    (all_at f seen (from + 1) count (omega (arith, same))
    (λ i within. let there : from + suc i ≡ from + 1 + i = omega arith in next_at s seen i (f (from + 1 + i)) (subst (λ n. IsAt (s ∷ seen) (suc i) (f n)) there (each (suc i) (omega (arith, within))))))

pub are_kept : (seen : List Seen) (first : ℕ) (fives : Bool) (count : ℕ) → length seen ≡ count → ((i : ℕ) → i < count → IsAt seen i (own_page (wanted_at (place_of first fives i)))) → kept_pages 256 seen ≡ pages_from first fives count
unfolding kept_pages
are_kept seen first fives count same each =
    all_at (λ at. own_page (wanted_at (place_of first fives at))) seen 0 count same
    (λ i within. let e : i ≡ 0 + i = omega arith in subst (λ n. IsAt seen i (own_page (wanted_at (place_of first fives n)))) e (each i within))

with_pages : List KeptPage → KeptPages
with_pages pages = record { first = 8; count = 24; size = 32; pages = pages }

pub kept_least : (shape : Shape) (kept : KeptPages) (seen : List Seen) (first : ℕ) (fives : Bool) (count : ℕ) → shape ≡ shape_for 32 32 → kept ≡ kept_of_scan shape seen → kept_pages 256 seen ≡ pages_from first fives count → kept ≡ of_least first fives count
unfolding shape_for with_pages
kept_least shape kept seen first fives count numbers is found = is ∙ (ap (λ (s : Shape). kept_of_scan s seen) numbers ∙ ap with_pages found)
