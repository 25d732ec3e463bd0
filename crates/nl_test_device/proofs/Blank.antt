-- A blank medium of 32 blocks has a block that can be erased.
use Rattle.std.proofs.Common.{true, ◌≡◌, ℕ, zero, suc, ◌+◌, List, [], ◌∷◌, filter, Some, refl, sym, ap, subst}
use Rattle.std.specs.Prelude.{◌==◌, ◌&&◌, nat_lt, slice_index_or, filter_map}
use Rattle.std.specs.List.{enumerate_from}
use Rattle.nl_field.specs.Medium.{address_on, first_physical, is_virtual_rec, readable, readable_pages, shape_of_image, stamp_on, virtual_pages}
use Rattle.nl_field.specs.Numbers.{shape_for}
use Rattle.nl_field.specs.Page.{Image, Page, erased}
use Rattle.nl_field.specs.Space.{has_greatest_stamp, spare_block, virtual_spare}
use Rattle.nl_nand.specs.Nand.{IsBlank}

none_readable : (n : ℕ) (pages : List Page) → ((i : ℕ) → slice_index_or pages i erased ≡ erased) → filter_map readable (enumerate_from n pages) ≡ []
none_readable n [] blank = refl
none_readable n (page ∷ pages) blank = subst (λ (p : Page). filter_map readable (enumerate_from n (p ∷ pages)) ≡ []) (sym (blank zero)) (none_readable (n + 1) pages (λ i. blank (suc i)))

no_virtual : (image : Image) → IsBlank image → virtual_pages image ≡ []
unfolding virtual_pages readable_pages
no_virtual image blank = ap (filter (λ r. nat_lt r.page (first_physical (shape_of_image image)) && is_virtual_rec (shape_of_image image) r.rec)) (none_readable 0 image.contents blank)

pub blank_spare : (image : Image) → image.blocks ≡ 32 → image.pages ≡ 32 → IsBlank image → virtual_spare image ≡ Some 0
unfolding virtual_spare spare_block shape_for
blank_spare image blocks pages blank =
    (λ i. let rs = no_virtual image blank i in spare_block image 0 (shape_for (blocks i) (pages i)).vblocks rs (has_greatest_stamp rs) (λ q r. address_on q == address_on r && stamp_on q == stamp_on r))
