-- Laws of a medium in a store.
use Rattle.std.proofs.Common.{◌≡◌, ℕ, zero, suc, ◌+◌, ◌*◌, ◌<◌, ◌≤◌, Bool, true, false, ◌==◌, ◌&&◌, List, length, get_or, take, drop, refl, sym, ◌∙◌, ap, subst, inl, inr, IsTrue, arith, length-drop}
use Rattle.std.proofs.Math.Nat.{le_refl}
use Rattle.std.proofs.lemmas.Bool.{cases_lt, eq-eqb, false≢true}
use Rattle.std.proofs.lemmas.List.{get_or_past, length-take-le}
use Rattle.nl_field.specs.Page.{PageBytes, erased, Image, page_at, is_page}
use Rattle.nl_field.specs.Spelling.{u64_at}
use Rattle.nl_nand.specs.Nand.{ImageOf}
use Rattle.nl_nand.specs.ImageLaws.{image_from}
use Rattle.nl_nand.specs.declared.geometry.Geometry.{Geometry}
use Rattle.nl_store.specs.Store.{window}
use Rattle.nl_imgfile.specs.Layout.{position}
use Rattle.nl_imgfile.specs.PageRecord.{page_in, page_of}
use Rattle.nl_imgfile.specs.DiskImage.{page_here, pages_in_store, image_in}
use Rattle.nl_imgfile.specs.DiskMedium.{geometry_of, clock_of, contents_of, left_of}
use Rattle.nl_imgfile.specs.declared.disk_nand.DiskNand.{DiskNand}

pub length-window : (at n : ℕ) (bytes : List ℕ) → length (window at n bytes) ≡ n
unfolding window
length-window at zero bytes = refl
length-window at (suc n) bytes = ap suc (length-window (at + 1) n bytes)

pub length-pages : (page n : ℕ) (bytes : List ℕ) → length (pages_in_store page n bytes) ≡ n
unfolding pages_in_store
length-pages page zero bytes = refl
length-pages page (suc n) bytes = ap suc (length-pages (page + 1) n bytes)

pub page_in-pages : (page n p : ℕ) (bytes : List ℕ) → p < n → get_or (pages_in_store page n bytes) p erased ≡ page_here bytes (page + p)
unfolding pages_in_store
page_in-pages page zero p bytes within = absurd (omega arith)
page_in-pages page (suc n) zero bytes within = let same : page ≡ page + 0 = omega arith in ap (page_here bytes) same
page_in-pages page (suc n) (suc p) bytes within = let same : page + 1 + p ≡ page + suc p = omega arith in page_in-pages (page + 1) n p bytes (omega arith) ∙ ap (page_here bytes) same

pub page_of_image : (g : Geometry) (bytes : List ℕ) (p : ℕ) → p < g.blocks * g.pages → page_at (image_in g bytes) p ≡ page_here bytes p
page_of_image g bytes p within = let same : 0 + p ≡ p = omega arith in page_in-pages 0 (g.blocks * g.pages) p bytes within ∙ ap (page_here bytes) same

pub page_past_image : (g : Geometry) (bytes : List ℕ) (p : ℕ) → g.blocks * g.pages ≤ p → page_at (image_in g bytes) p ≡ erased
page_past_image g bytes p past = get_or_past (pages_in_store 0 (g.blocks * g.pages) bytes) p erased (omega (arith, length-pages 0 (g.blocks * g.pages) bytes))

-- a record of 4168 bytes is a page
is_page-in : (n : ℕ) (bytes : PageBytes) → length bytes.main ≡ 4096 → length bytes.spare ≡ 64 → IsTrue (is_page (page_in n bytes))
is_page-in zero bytes main spare = refl
is_page-in (suc zero) bytes main spare = both (length bytes.main == 4096) (length bytes.spare == 64) (eq-eqb (length bytes.main) 4096 main) (eq-eqb (length bytes.spare) 64 spare)
  where
    both : (a b : Bool) → IsTrue a → IsTrue b → IsTrue (a && b)
    both true b h k = k
    both false b h k = absurd (false≢true h)
is_page-in (suc (suc n)) bytes main spare = refl

is_page-record : (record_bytes : List ℕ) → length record_bytes ≡ 4168 → IsTrue (is_page (page_of record_bytes))
unfolding page_of
is_page-record r size = is_page-in (u64_at r 0) (record { main = take 4096 (drop 8 r); spare = take 64 (drop 4104 r) })
    (length-take-le 4096 (drop 8 r) (omega (arith, length-drop 8 r, size)))
    (length-take-le 64 (drop 4104 r) (omega (arith, length-drop 4104 r, size)))

pub is_page-here : (bytes : List ℕ) (p : ℕ) → IsTrue (is_page (page_here bytes p))
unfolding page_here
is_page-here bytes p = is_page-record (window (position p) 4168 bytes) (length-window (position p) 4168 bytes)

-- whatever the bytes are, they are an image of the geometry
pub image_fits : (g : Geometry) (bytes : List ℕ) → ImageOf g (image_in g bytes)
image_fits g bytes = record { blocks = refl; pages = refl; whole = image_from (image_in g bytes) (length-pages 0 (g.blocks * g.pages) bytes) each }
  where
    each : (p : ℕ) → IsTrue (is_page (page_at (image_in g bytes) p))
    each p = elim (cases_lt p (g.blocks * g.pages)) [
      | inl within ↦ ap is_page (page_of_image g bytes p within) ∙ is_page-here bytes p
      | inr past ↦ ap is_page (page_past_image g bytes p past)
    ]

module _ {S : Type 0} where
  pub contents_fit : (tells : Bool) (bytes : S → List ℕ) (d : DiskNand S) → IsTrue tells
      → ImageOf (geometry_of d) (contents_of tells bytes d)
  contents_fit true bytes d t = image_fits d.geometry (bytes d.store)
  contents_fit false bytes d t = absurd (false≢true t)

  pub left_fits : (tells : Bool) (moment : S → ℕ) (left : S → ℕ → List ℕ → Type 0) (d : DiskNand S) (m : ℕ) (c : Image) → IsTrue tells
      → left_of tells moment left d m c → ImageOf (geometry_of d) c
  left_fits true moment left d m c t l = subst (ImageOf d.geometry) (sym l.2) (image_fits d.geometry l.0)
  left_fits false moment left d m c t l = absurd (false≢true t)

  pub now_left : (tells : Bool) (bytes : S → List ℕ) (moment : S → ℕ) (left : S → ℕ → List ℕ → Type 0) (d : DiskNand S)
      → left d.store (moment d.store) (bytes d.store)
      → left_of tells moment left d (clock_of moment d) (contents_of tells bytes d)
  now_left true bytes moment left d now = (bytes d.store, now, refl)
  now_left false bytes moment left d now = (le_refl (moment d.store), refl)

  pub no_later : (tells : Bool) (moment : S → ℕ) (left : S → ℕ → List ℕ → Type 0) (d : DiskNand S) (m : ℕ) (c : Image)
      → ((b : List ℕ) → left d.store m b → m ≤ moment d.store)
      → left_of tells moment left d m c → m ≤ clock_of moment d
  no_later true moment left d m c law l = law l.0 l.1
  no_later false moment left d m c law l = l.0
