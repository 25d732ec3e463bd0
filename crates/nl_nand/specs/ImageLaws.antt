-- An image is one page by page, and stays one under an operation, whole or cut short.
use Rattle.std.proofs.Common.{◌≡◌, ◌⊎◌, inl, inr, ⊎_elim, ℕ, zero, suc, ◌*◌, ◌<◌, ◌≤◌, ◌==◌, Bool, ◌&&◌, List, [], ◌∷◌, length, get_or, refl, sym, ◌∙◌, ap, IsTrue, rules}
use Rattle.std.proofs.lemmas.Bool.{cases_lt, eqb-true, eq-eqb}
use Rattle.std.specs.List.{list_all}
use Rattle.nl_field.specs.Page.{Page, erased, uncorrectable, Image, page_at, is_page, is_image}
use Rattle.nl_nand.specs.Nand.{SameImageShape, Filled, Cut}

and_left : (a b : Bool) → IsTrue (a && b) → IsTrue a
and_left a b h = search rules

and_right : (a b : Bool) → IsTrue (a && b) → IsTrue b
and_right a b h = search rules

and_both : (a b : Bool) → IsTrue a → IsTrue b → IsTrue (a && b)
and_both a b h k = search rules

all_at : (pages : List Page) → IsTrue (list_all is_page pages) → (p : ℕ) → IsTrue (is_page (get_or pages p erased))
all_at [] all p = refl
all_at (x ∷ xs) all zero = and_left (is_page x) (list_all is_page xs) all
all_at (x ∷ xs) all (suc p) = all_at xs (and_right (is_page x) (list_all is_page xs) all) p

all_from : (pages : List Page) → ((p : ℕ) → IsTrue (is_page (get_or pages p erased))) → IsTrue (list_all is_page pages)
all_from [] each = refl
all_from (x ∷ xs) each = and_both (is_page x) (list_all is_page xs) (each zero) (all_from xs (λ p. each (suc p)))

pub image_from : (image : Image) → length image.contents ≡ image.blocks * image.pages
    → ((p : ℕ) → IsTrue (is_page (page_at image p))) → IsTrue (is_image image)
unfolding is_image
image_from image size each = and_both (length image.contents == image.blocks * image.pages) (list_all is_page image.contents)
    (eq-eqb (length image.contents) (image.blocks * image.pages) size) (all_from image.contents each)

pub image_size : (image : Image) → IsTrue (is_image image) → length image.contents ≡ image.blocks * image.pages
unfolding is_image
image_size image is =
    eqb-true (length image.contents) (image.blocks * image.pages)
    (and_left (length image.contents == image.blocks * image.pages) (list_all is_page image.contents) is)

pub image_page : (image : Image) → IsTrue (is_image image) → (p : ℕ) → IsTrue (is_page (page_at image p))
unfolding is_image
image_page image is =
    all_at image.contents (and_right (length image.contents == image.blocks * image.pages) (list_all is_page image.contents) is)

filled_each : {low high : ℕ} {value : Page} {old c : Image} → Filled low high value old c → (p : ℕ)
    → (page_at c p ≡ page_at old p) ⊎ ((low ≤ p) × (p < high) × ((page_at c p ≡ value) ⊎ (page_at c p ≡ uncorrectable)))
filled_each {low} {high} filled p = elim (cases_lt p low) [
  | inl below ↦ inl (filled.outside p (inl below))
  | inr from ↦ elim (cases_lt p high) [
    | inl within ↦ inr (from, within, inl (filled.inside p from within))
    | inr above ↦ inl (filled.outside p (inr above))
  ]
]

-- a finished operation leaves what a cut one may
pub filled_cut : {low high : ℕ} {value : Page} {old c : Image} → Filled low high value old c → Cut low high value old c
filled_cut filled = record { shape = filled.shape; each = filled_each filled }

pub same_shape : (image : Image) → SameImageShape image image
same_shape image = record { same_blocks = refl; same_pages = refl; same_length = refl }

-- an operation cut short may have changed nothing
pub nothing_cut : {low high : ℕ} {value : Page} (image : Image) → Cut low high value image image
nothing_cut image = record { shape = same_shape image; each = λ p. inl refl }

pub cut_fits : {low high : ℕ} {value : Page} {old c : Image} → Cut low high value old c → IsTrue (is_page value)
    → IsTrue (is_image old) → IsTrue (is_image c)
cut_fits {low} {high} {value} {old} {c} cut page is = image_from c size each
  where
    size : length c.contents ≡ c.blocks * c.pages
    size = cut.shape.same_length ∙ image_size old is ∙ (λ i. sym cut.shape.same_blocks i * sym cut.shape.same_pages i)

    each : (p : ℕ) → IsTrue (is_page (page_at c p))
    each p = ⊎_elim
        (λ same. ap is_page same ∙ image_page old is p)
        (λ within. ⊎_elim (λ new. ap is_page new ∙ page) (λ lost. ap is_page lost) within.2)
        (cut.each p)
