-- Which pages of an image are readable on which a volume is made.
use Rattle.std.proofs.Common.{◌≡◌, ◌⊎◌, inl, inr, ℕ, zero, suc, ◌+◌, ◌≤◌, List, [], ◌∷◌, Some, option_map, slice_index_or, refl, sym, ap, ◌∙◌, arith}
use Rattle.std.specs.List.{enumerate_from}
use Rattle.nl_field.proofs.SpareRecord.{spare-spelled}
use Rattle.nl_field.specs.Medium.{Readable, readable, readable_pages}
use Rattle.nl_field.specs.Members.{Has}
use Rattle.nl_field.specs.Page.{Image, Page, erased, page_at, uncorrectable, written}
use Rattle.nl_field.specs.SpareRecord.{fits_spare, spare_bytes, spare_rec_of}
use Rattle.nl_field.specs.declared.spare.SpareRec.{SpareRec}
use Rattle.nl_field.specs.declared.spare.SpareRec.TheVariants.{Virtual}
use Rattle.nl_meta.proofs.Lists.{member-some, none_some, some_in}
use Rattle.nl_nand.specs.Nand.{IsBlank}
use Rattle.nl_spec_image.specs.Formatted.{formatted_root}
use Rattle.nl_spec_image.specs.Fresh.{root_page}
use Rattle.nl_volume_format.specs.Making.{IsBegun}

pub no_member : {X : Type 0} (xs : List X) → ((x : X) → Has xs x → ⊥) → xs ≡ []
no_member [] none = refl
no_member (x ∷ xs) none = absurd (none x (inl refl))

-- a numbered element stands at its number
stands : {X : Type 0} (a : ℕ) (xs : List X) (p : ℕ × X) (d : X) → Has (enumerate_from a xs) p → (i : ℕ) × (p.0 ≡ a + i) × (slice_index_or xs i d ≡ p.1)
stands a [] p d m = absurd m
stands a (x ∷ xs) p d (inl e) = let first = ap (λ (q : ℕ × _). q.0) e in (0, omega (arith, first), ap (λ q. q.1) e)
stands a (x ∷ xs) p d (inr m) = let s = stands (a + 1) xs p d m in let next = s.1 in (suc s.0, omega (arith, next), s.2)

-- the readable page of a number has what its page spells
pub at_page : (image : Image) (r : Readable) → Has (readable_pages image) r → (n : ℕ) × (readable (n, page_at image n) ≡ Some r)
unfolding readable_pages
at_page image r m =
    let q = member-some readable (enumerate_from 0 image.contents) r m in
    let s = stands 0 image.contents q.0 erased q.1 in
    (s.0, (λ i. readable (same s.0 q.0.0 s.1 i, s.2 i)) ∙ q.2)
  where
    same : (i k : ℕ) → k ≡ 0 + i → i ≡ k
    same i k e = omega (arith, e)

root_spare : spare_rec_of (spare_bytes (Virtual 67 1 0)) ≡ Some (Virtual 67 1 0)
unfolding fits_spare
root_spare = spare-spelled (Virtual 67 1 0) refl refl

abbrev pub the_root : Readable
the_root = record { page = 0; rec = Virtual 67 1 0; main = root_page }

root_reads : readable (0, written formatted_root) ≡ Some the_root
unfolding formatted_root
root_reads = ap (option_map (λ (rec : SpareRec). record { page = 0; rec = rec; main = root_page })) root_spare

none_on : (n : ℕ) (page : Page) (r : Readable) → (page ≡ erased) ⊎ (page ≡ uncorrectable) → readable (n, page) ≡ Some r → ⊥
none_on n page r (inl e) is = none_some r (ap (λ (p : Page). readable (n, p)) (sym e) ∙ is)
none_on n page r (inr e) is = none_some r (ap (λ (p : Page). readable (n, p)) (sym e) ∙ is)

-- none of an image with all pages erased
pub none_on_blank : (image : Image) → IsBlank image → readable_pages image ≡ []
none_on_blank image blank = no_member (readable_pages image) (λ r m. let q = at_page image r m in none_on q.0 (page_at image q.0) r (inl (blank q.0)) q.1)

module _ (blocks pages : ℕ) (image : Image) (begun : IsBegun blocks pages image) where
  -- no page but the first two
  behind : (n : ℕ) (r : Readable) → 2 ≤ n → readable (n, page_at image n) ≡ Some r → ⊥
  behind n r far is = none_on n (page_at image n) r (inl (begun.others n far)) is

  -- none at all, where neither of these is
  pub none_readable : (page_at image 0 ≡ erased) ⊎ (page_at image 0 ≡ uncorrectable) → (page_at image 1 ≡ erased) ⊎ (page_at image 1 ≡ uncorrectable) → readable_pages image ≡ []
  none_readable one two = no_member (readable_pages image) (λ r m. let q = at_page image r m in at q.0 r q.1)
    where
      at : (n : ℕ) (r : Readable) → readable (n, page_at image n) ≡ Some r → ⊥
      at zero r is = none_on 0 (page_at image 0) r one is
      at (suc zero) r is = none_on 1 (page_at image 1) r two is
      at (suc (suc n)) r is = behind (suc (suc n)) r (omega arith) is

  -- the root alone, where the super page is not
  pub root_alone : page_at image 0 ≡ written formatted_root → (page_at image 1 ≡ erased) ⊎ (page_at image 1 ≡ uncorrectable) → (r : Readable) → Has (readable_pages image) r → the_root ≡ r
  root_alone one two r m = let q = at_page image r m in at q.0 q.1
    where
      at : (n : ℕ) → readable (n, page_at image n) ≡ Some r → the_root ≡ r
      at zero is = some_in the_root r (sym root_reads ∙ ap (λ (p : Page). readable (0, p)) (sym one) ∙ is)
      at (suc zero) is = absurd (none_on 1 (page_at image 1) r two is)
      at (suc (suc n)) is = absurd (behind (suc (suc n)) r (omega arith) is)
