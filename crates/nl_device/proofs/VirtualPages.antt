-- What an image stores of the virtual addresses depends on the pages of their segment alone.
use Rattle.std.proofs.Common.{◌≡◌, ⊎_elim, ℕ, suc, ◌+◌, ◌<◌, ◌≤◌, ◌==◌, nat_lt, Bool, false, cond, not, ◌&&◌, ◌||◌, ◌/◌, Option, Some, None, is_some, List, [], ◌∷◌, length, get_or, filter, filter_map, find, option_map, refl, sym, ◌∙◌, ap, arith}
use Rattle.std.specs.List.{enumerate_from, cons_option, list_all, list_any, range_with_len}
use Rattle.std.proofs.lemmas.Bool.{cases_lt, le-ltb}
use Rattle.nl_field.specs.Page.{Page, erased, Image, page_at}
use Rattle.nl_field.specs.Numbers.{shape_for}
use Rattle.nl_field.specs.Medium.{Readable, readable, readable_pages, virtual_pages, first_physical, shape_of_image, is_virtual_rec, address_on, stamp_on}
use Rattle.nl_field.specs.Space.{has_greatest_stamp, is_outside, spare_block, virtual_spare}
use Rattle.nl_field.specs.Virtual.{newest, or_first_in}
use Rattle.nl_field.specs.declared.shape.Shape.{Shape}
use Rattle.nl_field.specs.Scan.{agree}
use Rattle.nl_iface.specs.Stored.{is_firm, stored_in, value_on}
use Rattle.nl_device.proofs.PhysicalPages.{page_is}

module _ (shape : Shape) where
  abbrev is_own : Readable → Bool
  is_own r = nat_lt r.page (first_physical shape) && is_virtual_rec shape r.rec

  abbrev own_in : ℕ → List Page → List Readable
  own_in a xs = filter is_own (filter_map readable (enumerate_from a xs))

  skip : (o : Option Readable) (ys : List Readable) → ((r : Readable) → o ≡ Some r → is_own r ≡ false) → filter is_own (cons_option o ys) ≡ filter is_own ys
  skip None ys unlike = refl
  skip (Some r) ys unlike = ap (λ b. cond b (r ∷ filter is_own ys) (filter is_own ys)) (unlike r refl)

  both : (o : Option Readable) (ys zs : List Readable) → filter is_own ys ≡ filter is_own zs → filter is_own (cons_option o ys) ≡ filter is_own (cons_option o zs)
  both None ys zs same = same
  both (Some r) ys zs same = ap (λ (ws : List Readable). cond (is_own r) (r ∷ ws) ws) same

  past : (a : ℕ) (x : Page) → first_physical shape ≤ a → (r : Readable) → readable (a, x) ≡ Some r → is_own r ≡ false
  past a x from r is = let e = page_is a x r is in ap (λ b. b && is_virtual_rec shape r.rec) (le-ltb r.page (first_physical shape) (omega (arith, from, e)))

  own_same : (a : ℕ) (xs ys : List Page) → length xs ≡ length ys → ((k : ℕ) → a + k < first_physical shape → get_or xs k erased ≡ get_or ys k erased) → own_in a xs ≡ own_in a ys
  own_same a [] [] len same = refl
  own_same a [] (y ∷ ys) len same = absurd (omega (arith, len))
  own_same a (x ∷ xs) [] len same = absurd (omega (arith, len))
  own_same a (x ∷ xs) (y ∷ ys) len same =
      let rest = own_same (a + 1) xs ys (omega (arith, len)) (λ k below. same (suc k) (omega (arith, below))) in
      ⊎_elim
      (λ lt. ap (λ p. filter is_own (cons_option (readable (a, p)) (filter_map readable (enumerate_from (a + 1) xs)))) (same 0 (omega (arith, lt)))
      ∙ both (readable (a, y)) (filter_map readable (enumerate_from (a + 1) xs)) (filter_map readable (enumerate_from (a + 1) ys)) rest)
      (λ le. skip (readable (a, x)) (filter_map readable (enumerate_from (a + 1) xs)) (past a x le) ∙ (rest ∙ sym (skip (readable (a, y)) (filter_map readable (enumerate_from (a + 1) ys)) (past a y le))))
      (cases_lt a (first_physical shape))

-- as many blocks, pages and contents
pub record SameForm (old c : Image) : Type 0 where
  pub blocks : c.blocks ≡ old.blocks
  pub pages : c.pages ≡ old.pages
  pub count : length c.contents ≡ length old.contents

pub pages_same : (old c : Image) → SameForm old c → ((p : ℕ) → p < first_physical (shape_of_image old) → page_at c p ≡ page_at old p) → virtual_pages c ≡ virtual_pages old
unfolding virtual_pages readable_pages
pages_same old c form same =
    ap (λ shape. own_in shape 0 c.contents) (λ i. shape_for (form.blocks i) (form.pages i))
    ∙ own_same (shape_of_image old) 0 c.contents old.contents form.count (λ k below. same k (omega (arith, below)))

-- the newest page, from the numbers and the pages of the segment
unfoldable newest_of : ℕ → ℕ → List Readable → ℕ → Option Readable
newest_of pages vblocks list v =
    let spare = find (λ block.
    list_all (λ r. not (r.page / pages == block && has_greatest_stamp list r)
    || list_any (λ q. not (q.page / pages == block) && (address_on q == address_on r && stamp_on q == stamp_on r)) list) list) (range_with_len 0 vblocks) in
    let greatest = filter (λ r. address_on r == v && has_greatest_stamp list r) list in
    or_first_in greatest (find (λ r. is_outside pages spare r.page) greatest)

newest_is : (image : Image) (v : ℕ) → newest image v ≡ newest_of image.pages (shape_of_image image).vblocks (virtual_pages image) v
unfolding newest newest_of virtual_spare spare_block
newest_is image v = refl

-- where the pages of the virtual segment are the same, the addresses have the same values
pub virtual_same : (old c : Image) → SameForm old c → ((p : ℕ) → p < first_physical (shape_of_image old) → page_at c p ≡ page_at old p) → (v : ℕ) → (stored_in c).virtual v ≡ (stored_in old).virtual v
unfolding stored_in
virtual_same old c form same v = ap (option_map value_on)
    (newest_is c v ∙ ((λ i. newest_of (form.pages i) (shape_for (form.blocks i) (form.pages i)).vblocks (pages_same old c form same i) v) ∙ sym (newest_is old v)))

-- whether the segment is firm, from the numbers and the pages of the segment
unfoldable firm_of : ℕ → ℕ → List Readable → Bool
firm_of pages vblocks list =
    list_all (λ r. list_all (λ q. not (stamp_on r == stamp_on q) || agree r q) list) list && is_some (find (λ block.
    list_all (λ r. not (r.page / pages == block && has_greatest_stamp list r)
    || list_any (λ q. not (q.page / pages == block) && (address_on q == address_on r && stamp_on q == stamp_on r)) list) list) (range_with_len 0 vblocks))

firm_is : (image : Image) → (stored_in image).firm ≡ firm_of image.pages (shape_of_image image).vblocks (virtual_pages image)
unfolding stored_in is_firm firm_of virtual_spare spare_block
firm_is image = refl

-- where the pages of the virtual segment are the same, an image is as firm as before
pub firm_same : (old c : Image) → SameForm old c → ((p : ℕ) → p < first_physical (shape_of_image old) → page_at c p ≡ page_at old p) → (stored_in c).firm ≡ (stored_in old).firm
firm_same old c form same = firm_is c ∙ ((λ i. firm_of (form.pages i) (shape_for (form.blocks i) (form.pages i)).vblocks (pages_same old c form same i)) ∙ sym (firm_is old))
