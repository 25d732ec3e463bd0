-- The image that the bytes of a store are, and what its writes do to the pages.
use Rattle.std.specs.Prelude.{◌≡◌, ◌⊎◌, ℕ, zero, suc, ◌+◌, ◌*◌, ◌<◌, ◌≤◌, List, [], ◌∷◌, length, slice_index, nat_lt, if◌then◌else◌}
use Rattle.nl_field.specs.Page.{Page, erased, uncorrectable, Image}
use Rattle.nl_nand.specs.Nand.{IsBlank}
use Rattle.nl_nand.specs.declared.geometry.Geometry.{Geometry}
use Rattle.nl_store.specs.Store.{window}
use Rattle.nl_store.specs.declared.answers.StoreAnswer.{StoreAnswer}
use Rattle.nl_store.specs.declared.answers.StoreAnswer.TheVariants as store
use Rattle.nl_imgfile.specs.Layout.{position, file_length}
use Rattle.nl_imgfile.specs.Header.{geometry_of, unformed}
use Rattle.nl_imgfile.specs.PageRecord.{page_of}

-- the 4168 bytes of the record of a page. Where the store ends before, zeros stand for them.
abbrev pub record_at : List ℕ → ℕ → List ℕ
record_at bytes page = window (position page) 4168 bytes

-- the page that the record at its place is
unfoldable pub page_here : List ℕ → ℕ → Page
page_here bytes page = page_of (window (position page) 4168 bytes)

-- so many pages from one on
unfoldable pub pages_in_store : ℕ → ℕ → List ℕ → List Page
pages_in_store page zero bytes = []
pages_in_store page (suc n) bytes = page_here bytes page ∷ pages_in_store (page + 1) n bytes

abbrev pub image_in : Geometry → List ℕ → Image
image_in geometry bytes =
    record { blocks = geometry.blocks; pages = geometry.pages; contents = pages_in_store 0 (geometry.blocks * geometry.pages) bytes }

-- the geometry that the bytes tell: none where they end before the header does
unfoldable pub geometry_in_store : List ℕ → Geometry
geometry_in_store bytes = if nat_lt (length bytes) 4096 then unformed else geometry_of (window 0 4096 bytes)

-- The image that these bytes are: the pages that their records are, of the geometry that their header tells. A medium that is attached to
-- them has it.
abbrev pub image_of_store : List ℕ → Image
image_of_store bytes = image_in (geometry_in_store bytes) bytes

-- what is shown is the image, or no page of either is written
abbrev pub SameOrBlank : Image → Image → Type 0
SameOrBlank image shown = (shown ≡ image) ⊎ (IsBlank shown × IsBlank image)

-- the bytes tell the same geometry, where they did not end within the header
pub record SameHeader (old new : List ℕ) : Type 0 where
  pub longer : length old ≤ length new
  pub same : 4096 ≤ length old → geometry_in_store new ≡ geometry_in_store old

-- each page of a range has this value, and no other page nor the header changed
pub record PagesFilled (low high : ℕ) (value : Page) (old new : List ℕ) : Type 0 where
  pub inside : (p : ℕ) → low ≤ p → p < high → page_here new p ≡ value
  pub outside : (p : ℕ) → (p < low) ⊎ (high ≤ p) → page_here new p ≡ page_here old p
  pub header : SameHeader old new

-- each page of a range is as it was, has this value or is uncorrectable, and no other page nor the header changed
pub record PagesCut (low high : ℕ) (value : Page) (old new : List ℕ) : Type 0 where
  pub each : (p : ℕ) → (page_here new p ≡ page_here old p)
      ⊎ ((low ≤ p) × (p < high) × ((page_here new p ≡ value) ⊎ (page_here new p ≡ uncorrectable)))
  pub header : SameHeader old new

-- what the writes of an operation leave
abbrev pub PagesLeave : ℕ → ℕ → Page → List ℕ → StoreAnswer → List ℕ → Type 0
PagesLeave low high value old store.Done new = PagesFilled low high value old new
PagesLeave low high value old store.Failed new = PagesCut low high value old new

-- the pages of a range have this record, and no other record changed
pub record RecordsFilled (low high : ℕ) (filled old new : List ℕ) : Type 0 where
  pub inside : (p : ℕ) → low ≤ p → p < high → record_at new p ≡ filled
  pub outside : (p : ℕ) → (p < low) ⊎ (high ≤ p) → record_at new p ≡ record_at old p

-- all pages are erased
abbrev pub AllErased : List ℕ → Type 0
AllErased bytes = (p : ℕ) → page_here bytes p ≡ erased

-- what a kill within a forming may leave: a medium that was never formed, or one that is formed; and no page is written
abbrev pub FormCut : Geometry → List ℕ → Type 0
FormCut geometry bytes = AllErased bytes × ((geometry_in_store bytes ≡ unformed) ⊎ (geometry_in_store bytes ≡ geometry))

-- The bytes are a formed medium: the header of the geometry, and behind it zeros up to the end of the last record.
pub record StoreIsFormed (geometry : Geometry) (bytes : List ℕ) : Type 0 where
  pub header : geometry_in_store bytes ≡ geometry
  pub blank : AllErased bytes
  pub zeros : (i : ℕ) → 4096 ≤ i → slice_index bytes i ≡ 0
  pub length_is : length bytes ≡ file_length geometry.blocks geometry.pages
