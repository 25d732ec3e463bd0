-- A blank medium has a block of the virtual segment that can be erased.
use Rattle.std.proofs.Common.{Bool, arith, ◌≡◌, ℕ, zero, suc, ◌+◌, ◌<◌, List, [], ◌∷◌, filter, Some, refl, sym, ap, ◌∙◌, subst}
use Rattle.std.specs.Prelude.{◌==◌, ◌&&◌, nat_lt, slice_index_or, filter_map}
use Rattle.std.specs.List.{enumerate_from}
use Rattle.nl_field.specs.Medium.{Readable, address_on, first_physical, is_virtual_rec, readable, readable_pages, shape_of_image, stamp_on, virtual_pages}
use Rattle.nl_field.specs.Page.{Image, Page, erased}
use Rattle.nl_field.specs.Space.{has_greatest_stamp, spare_block, virtual_spare}
use Rattle.nl_nand.specs.Nand.{IsBlank}

none-readable : (n : ℕ) (pages : List Page) → ((i : ℕ) → slice_index_or pages i erased ≡ erased) → filter_map readable (enumerate_from n pages) ≡ []
none-readable n [] blank = refl
none-readable n (page ∷ pages) blank = subst (λ (p : Page). filter_map readable (enumerate_from n (p ∷ pages)) ≡ []) (sym (blank zero)) (none-readable (n + 1) pages (λ i. blank (suc i)))

no-virtual : (image : Image) → IsBlank image → virtual_pages image ≡ []
unfolding virtual_pages readable_pages
no-virtual image blank = ap (filter (λ r. nat_lt r.page (first_physical (shape_of_image image)) && is_virtual_rec (shape_of_image image) r.rec)) (none-readable 0 image.contents blank)

first-block : (image : Image) (count : ℕ) (is_needed : Readable → Bool) (is_copy : Readable → Readable → Bool) → 0 < count → spare_block image 0 count [] is_needed is_copy ≡ Some 0
unfolding spare_block
first-block image zero is_needed is_copy some = absurd (omega (arith, some))
first-block image (suc n) is_needed is_copy some = refl

pub blank-spare : (image : Image) → 0 < (shape_of_image image).vblocks → IsBlank image → virtual_spare image ≡ Some 0
unfolding virtual_spare
blank-spare image some blank =
    (λ i. let rs = no-virtual image blank i in spare_block image 0 (shape_of_image image).vblocks rs (has_greatest_stamp rs) (λ q r. address_on q == address_on r && stamp_on q == stamp_on r))
    ∙ first-block image (shape_of_image image).vblocks (has_greatest_stamp []) (λ q r. address_on q == address_on r && stamp_on q == stamp_on r) some
