-- The images of a medium on which a volume is made, one program after the other.
use Rattle.std.proofs.Common.{◌≡◌, inl, inr, ⊎_elim, ℕ, ◌≤◌, ◌∙◌, arith}
use Rattle.nl_field.specs.Page.{Image, erased, page_at, written}
use Rattle.nl_nand.specs.Nand.{Cut, Filled, ImageOf, IsBlank}
use Rattle.nl_spec_image.specs.Formatted.{IsFormatted, formatted_root, formatted_super}
use Rattle.nl_volume_format.specs.Making.{IsBegun}

-- the root is written, and nothing behind it
pub record HasRoot (image : Image) : Type 0 where
  pub root : page_at image 0 ≡ written formatted_root
  pub behind : (p : ℕ) → 1 ≤ p → page_at image p ≡ erased

module _ (blocks pages : ℕ) (image : Image) (fits : ImageOf (record { blocks = blocks; pages = pages }) image) where
  pub blank_begun : IsBlank image → IsBegun blocks pages image
  blank_begun blank = record { whole = fits.whole; same_blocks = fits.blocks; same_pages = fits.pages; root = inl (blank 0); numbers = inl (blank 1); others = λ p _. blank p }

  pub root_cut : (old : Image) → IsBlank old → Cut 0 1 (written formatted_root) old image → IsBegun blocks pages image
  root_cut old blank cut = record {
    whole = fits.whole;
    same_blocks = fits.blocks;
    same_pages = fits.pages;
    root = ⊎_elim (λ same. inl (same ∙ blank 0)) (λ tried. ⊎_elim (λ done. inr (inr done)) (λ spoilt. inr (inl spoilt)) tried.2) (cut.each 0);
    numbers = inl (beside 1 (omega arith));
    others = λ p far. beside p (omega (arith, far));
  }
    where
      beside : (p : ℕ) → 1 ≤ p → page_at image p ≡ erased
      beside p far = ⊎_elim (λ same. same ∙ blank p) (λ tried. let below = tried.1 in absurd (let none : ⊥ = omega (arith, far, below) in none)) (cut.each p)

  pub rooted_begun : HasRoot image → IsBegun blocks pages image
  rooted_begun has = record {
    whole = fits.whole;
    same_blocks = fits.blocks;
    same_pages = fits.pages;
    root = inr (inr has.root);
    numbers = inl (has.behind 1 (omega arith));
    others = λ p far. has.behind p (omega (arith, far));
  }

  pub super_cut : (old : Image) → HasRoot old → Cut 1 2 (written (formatted_super blocks pages)) old image → IsBegun blocks pages image
  super_cut old has cut = record {
    whole = fits.whole;
    same_blocks = fits.blocks;
    same_pages = fits.pages;
    root = inr (inr first);
    numbers = ⊎_elim (λ same. inl (same ∙ has.behind 1 (omega arith))) (λ tried. inr (first, ⊎_elim (λ done. inr done) (λ spoilt. inl spoilt) tried.2)) (cut.each 1);
    others = λ p far. ⊎_elim (λ same. same ∙ has.behind p (omega (arith, far))) (λ tried. let below = tried.1 in absurd (let none : ⊥ = omega (arith, far, below) in none)) (cut.each p);
  }
    where
      first : page_at image 0 ≡ written formatted_root
      first = ⊎_elim (λ same. same ∙ has.root) (λ tried. let above = tried.0 in absurd (let none : ⊥ = omega (arith, above) in none)) (cut.each 0)

pub root_filled : (old new : Image) → IsBlank old → Filled 0 1 (written formatted_root) old new → HasRoot new
root_filled old new blank f = record { root = f.inside 0 (omega arith) (omega arith); behind = λ p far. f.outside p (inr far) ∙ blank p }

pub super_filled : (blocks pages : ℕ) (old new : Image) → HasRoot old → Filled 1 2 (written (formatted_super blocks pages)) old new → IsFormatted blocks pages new
super_filled blocks pages old new has f = record {
  root = f.outside 0 (inl (omega arith)) ∙ has.root;
  numbers = f.inside 1 (omega arith) (omega arith);
  others = λ p far. f.outside p (inr far) ∙ has.behind p (omega (arith, far));
}
