-- What the read of a place answers.
use Rattle.std.proofs.Common.{◌≡◌, ℕ, ◌*◌, ◌<◌, ◌≤◌, Option, Some, None, List, length, refl, sym, ◌∙◌, ap, subst, arith, mul-le-mul_right}
use Rattle.std.proofs.lemmas.Option.{none-some, same_Some}
use Rattle.nl_field.specs.Page.{PageBytes, Page, erased, uncorrectable, written, Image, page_at}
use Rattle.nl_field.specs.SpareRecord.{spare_rec_of}
use Rattle.nl_field.specs.declared.answers.VirtualRead.{VirtualRead}
use Rattle.nl_field.specs.declared.answers.VirtualRead.TheVariants as read
use Rattle.nl_field.specs.declared.spare.SpareRec.{SpareRec}
use Rattle.nl_field.specs.declared.spare.SpareRec.TheVariants.{Virtual, Physical}
use Rattle.nl_nand.specs.declared.geometry.Geometry.{Geometry}
use Rattle.nl_vseg.specs.Pages.{Fact, fact_with, fact_of, main_of, stamp_in, stamp_found, stamp_at}
use Rattle.nl_vseg.specs.Places.{place_of, value_at, map_of}
use Rattle.nl_vseg.specs.Layout.{Layout, bound}
use Rattle.nl_vseg.specs.Seen.{FitsLayout}
use Rattle.nl_vseg.specs.Answers.{ReadsPage, ReadsValueInto}
use Rattle.nl_vseg.specs.declared.place.Place.{Place}

times_le : (a b n : ℕ) → a ≤ b → a * n ≤ b * n
times_le a b n le = mul-le-mul_right n le

-- a page of the segment is one of the medium
pub within_medium : (geometry : Geometry) (seg : Layout) → FitsLayout geometry seg → (p : ℕ) → p < bound seg → p < geometry.blocks * geometry.pages
within_medium geometry seg fits p below =
    let le : length seg.table.blocks * seg.table.size ≤ geometry.blocks * seg.table.size = times_le (length seg.table.blocks) geometry.blocks seg.table.size fits.blocks in
    subst (λ n. p < geometry.blocks * n) (sym fits.pages) (omega (arith, below, le))

-- the number of a page that shows something is what it shows
fact_stamp : (rec : Option SpareRec) (main : List ℕ) (f : Fact) → fact_with rec main ≡ Some f → stamp_in rec ≡ f.1
fact_stamp None main f is = absurd (none-some f is)
fact_stamp (Some (Virtual v s w)) main f is = ap (λ (x : Fact). x.1) (same_Some (v, s, main) f is)
fact_stamp (Some (Physical tag s w)) main f is = absurd (none-some f is)

pub shown_stamp : (page : Page) (f : Fact) → fact_of page ≡ Some f → stamp_at page ≡ f.1
shown_stamp erased f is = absurd (none-some f is)
shown_stamp uncorrectable f is = absurd (none-some f is)
shown_stamp (written bytes) f is = fact_stamp (spare_rec_of bytes.spare) bytes.main f is

pub reads_value : (places : List (Option Place)) (image : Image) (v : ℕ) (place : Place) (buf : PageBytes) (answer : VirtualRead) → place_of places v ≡ Some place
    → fact_of (page_at image place.page) ≡ Some (v, place.stamp, main_of (page_at image place.page)) → ReadsPage (page_at image place.page) place.stamp buf answer
    → (answer ≡ read.Done → stamp_found buf ≡ place.stamp) → ((w f : ℕ) → answer ≡ read.Lost w f → (w ≡ place.stamp) × (f ≡ place.stamp → ⊥))
    → ReadsValueInto (map_of places image v) buf answer
reads_value places image v place buf read.Done named holds reads done lost =
    ap (value_at image) named ∙ (λ i. Some (sym (done refl) i, ap main_of reads i))
reads_value places image v place buf read.Unmapped named holds reads done lost = absurd reads
reads_value places image v place buf (read.Lost w f) named holds reads done lost =
    (lost w f refl).1 (sym reads ∙ shown_stamp (page_at image place.page) (v, place.stamp, main_of (page_at image place.page)) holds)
reads_value places image v place buf read.Fault named holds reads done lost = tt
