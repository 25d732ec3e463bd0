-- Images of the device's medium, in the numbers of the volume.
use Rattle.std.proofs.Common.{◌≡◌, ◌⊎◌, inl, inr, ⊎_elim, ℕ, ◌*◌, ◌<◌, ◌≤◌, ◌==◌, List, Option, Some, None, length, sym, ◌∙◌, ap, subst, arith, eqb-true, mul-le-mul_right, true}
use Rattle.std.specs.List.{list_all}
use Rattle.std.proofs.lemmas.Bool.{and_parts, cases_lt}
use Rattle.nl_field.specs.Numbers.{shape_for}
use Rattle.nl_field.specs.Page.{Image, is_image, is_page, page_at}
use Rattle.nl_field.specs.Medium.{first_physical, shape_of_image}
use Rattle.nl_field.specs.CrashStates.{LeavesOnly}
use Rattle.nl_field.specs.declared.shape.Shape.{Shape}
use Rattle.nl_nand.specs.Nand.{ImageOf}
use Rattle.nl_nand.specs.declared.geometry.Geometry.{Geometry}
use Rattle.nl_iface.specs.Stored.{NothingStoredBeyond, Value, ShowsMap as StoresMap, stored_in}
use Rattle.nl_iface.proofs.Beyond.{stores_none_beyond}
use Rattle.nl_vseg.specs.Maps.{Dominated}
use Rattle.nl_vseg.specs.Pages.{PageShows}
use Rattle.nl_vseg.specs.Segment.{FitsSegment as VirtualFits, SameSize, Segment}
use Rattle.nl_pseg.specs.Pages.{shown_by}
use Rattle.nl_pseg.specs.Seen.{FitsPhysical as PhysicalFits}
use Rattle.nl_pseg.specs.Segment.{Physical}
use Rattle.nl_device.specs.Device.{HasSegments}
use Rattle.nl_device.proofs.PhysicalPages.{named_of, named_at, named_low}
use Rattle.nl_device.proofs.Showing.{stores}
use Rattle.nl_device.proofs.VirtualPages.{SameForm, firm_same, virtual_same}

pub shape_is : {geometry : Geometry} {shape : Shape} {vseg : Segment} {pseg : Physical} {image : Image} → HasSegments geometry shape vseg pseg → ImageOf geometry image → shape_of_image image ≡ shape
shape_is has fit = (λ i. shape_for (fit.blocks i) (fit.pages i)) ∙ sym has.numbers

count_is : (image : Image) → is_image image ≡ true → length image.contents ≡ image.blocks * image.pages
unfolding is_image
count_is image whole = eqb-true (length image.contents) (image.blocks * image.pages) (and_parts (length image.contents == image.blocks * image.pages) (list_all is_page image.contents) whole).0

pub same_form : {geometry : Geometry} (old c : Image) → ImageOf geometry old → ImageOf geometry c → SameForm old c
same_form old c a b = record {
  blocks = b.blocks ∙ sym a.blocks;
  pages = b.pages ∙ sym a.pages;
  count = count_is c b.whole ∙ ((λ i. b.blocks i * b.pages i) ∙ (sym (λ i. a.blocks i * a.pages i) ∙ sym (count_is old a.whole)));
}

pub fits_virtual : {geometry : Geometry} {shape : Shape} {vseg : Segment} {pseg : Physical} → HasSegments geometry shape vseg pseg → VirtualFits geometry vseg
fits_virtual {geometry} {shape} {vseg} {pseg} has = record {
  same_pages = has.pages ∙ sym has.virtual_pages;
  within =
      let split = has.split in
      let le : shape.vblocks * shape.pages ≤ shape.blocks * shape.pages = mul-le-mul_right shape.pages (omega (arith, split)) in
      subst (λ n. n ≤ geometry.blocks * geometry.pages) (sym has.virtual_bound) (subst (λ n. shape.vblocks * shape.pages ≤ n) (sym (λ i. has.blocks i * has.pages i)) le);
}

pub fits_physical : {geometry : Geometry} {shape : Shape} {vseg : Segment} {pseg : Physical} → HasSegments geometry shape vseg pseg → PhysicalFits geometry pseg
fits_physical has = record {
  pages = has.pages ∙ sym has.physical_pages;
  blocks = let a = has.physical_blocks in let b = has.blocks in omega (arith, a, b);
}

-- an image stores what its pages hold, with the numbers of the volume
module _ (shape : Shape) (image : Image) (is : shape_of_image image ≡ shape) where
  pub named_from : (p : ℕ) → shape.vblocks * shape.pages ≤ p → (stored_in image).named p ≡ named_of (shown_by (page_at image p))
  named_from p from = named_at image p (subst (λ s. first_physical s ≤ p) (sym is) from)

  pub named_below : (p : ℕ) → p < shape.vblocks * shape.pages → (stored_in image).named p ≡ None
  named_below p below = named_low image p (subst (λ s. p < first_physical s) (sym is) below)

  pub stores_map : (map : ℕ → Option Value) (failed : ℕ → Value → Type 0)
      → ((v s : ℕ) (main : List ℕ) → map v ≡ Some (s, main) → PageShows (shape.vblocks * shape.pages) image v s main)
      → ((v t : ℕ) (n : List ℕ) → PageShows (shape.vblocks * shape.pages) image v t n → Dominated (map v) t n ⊎ failed v (t, n)) → StoresMap shape.vaddrs map failed (stored_in image)
  stores_map map failed there each =
      subst (λ s. ((v t : ℕ) (n : List ℕ) → map v ≡ Some (t, n) → PageShows (first_physical s) image v t n)
      → ((v t : ℕ) (n : List ℕ) → PageShows (first_physical s) image v t n → Dominated (map v) t n ⊎ failed v (t, n)) → StoresMap s.vaddrs map failed (stored_in image))
      is (stores image map failed) there each

-- nothing is stored beyond the last address
pub beyond_in : (shape : Shape) (image : Image) → shape_of_image image ≡ shape → NothingStoredBeyond shape.vaddrs (stored_in image)
beyond_in shape image is = subst (λ (s : Shape). NothingStoredBeyond s.vaddrs (stored_in image)) is (stores_none_beyond image)

-- the pages of the virtual segment are as before
module _ (shape : Shape) (old c : Image) (is : shape_of_image old ≡ shape) (form : SameForm old c) where
  pub same_below : ((p : ℕ) → p < shape.vblocks * shape.pages → page_at c p ≡ page_at old p) → (v : ℕ) → (stored_in c).virtual v ≡ (stored_in old).virtual v
  same_below same = virtual_same old c form (subst (λ s. (p : ℕ) → p < first_physical s → page_at c p ≡ page_at old p) (sym is) same)

  pub as_firm : ((p : ℕ) → p < shape.vblocks * shape.pages → page_at c p ≡ page_at old p) → (stored_in c).firm ≡ (stored_in old).firm
  as_firm same = firm_same old c form (subst (λ s. (p : ℕ) → p < first_physical s → page_at c p ≡ page_at old p) (sym is) same)

-- the pages of the physical segment are as before
pub same_from : (shape : Shape) (old c : Image) → shape_of_image old ≡ shape → shape_of_image c ≡ shape → ((p : ℕ) → shape.vblocks * shape.pages ≤ p → page_at c p ≡ page_at old p) → (p : ℕ) → (stored_in c).named p ≡ (stored_in old).named p
same_from shape old c old_is c_is same p = ⊎_elim
    (λ lt. named_below shape c c_is p lt ∙ sym (named_below shape old old_is p lt))
    (λ le. named_from shape c c_is p le ∙ (ap (λ page. named_of (shown_by page)) (same p le) ∙ sym (named_from shape old old_is p le)))
    (cases_lt p (shape.vblocks * shape.pages))

-- what a call leaves of the medium
pub lift : {D M : Type 0} {clock : M → ℕ} {left : M → ℕ → Image → Type 0} (media : D → M) {old new : D} (P Q : ℕ → Image → Type 0)
    → LeavesOnly clock left (media old) (media new) P → ((m : ℕ) (c : Image) → left (media new) m c → P m c → Q m c) → LeavesOnly (λ d. clock (media d)) (λ d m c. left (media d) m c) old new Q
lift media P Q leaves by = record {
  later = leaves.later;
  each = λ m c l. ⊎_elim
      (λ before. inl before)
      (λ here. inr (here.0, here.1, by m c l here.2))
      (leaves.each m c l);
}

-- the two segments, after a write of the first
pub kept_segments : {geometry now : Geometry} {shape : Shape} {old new : Segment} {pseg : Physical} → HasSegments geometry shape old pseg → now ≡ geometry → SameSize old new → HasSegments now shape new pseg
kept_segments {geometry} {now} {shape} {old} {new} {pseg} has is same = subst (λ n. HasSegments n shape new pseg) (sym is) (record {
  legal = has.legal;
  numbers = has.numbers;
  blocks = has.blocks;
  pages = has.pages;
  some = has.some;
  split = has.split;
  rest = has.rest;
  virtual_pages = same.same_pages ∙ has.virtual_pages;
  virtual_bound = same.same_bound ∙ has.virtual_bound;
  addresses = same.addresses ∙ has.addresses;
  physical_first = has.physical_first;
  physical_blocks = has.physical_blocks;
  physical_pages = has.physical_pages;
  physical_held = has.physical_held;
})

-- where the physical segment begins
pub begins : {geometry : Geometry} {shape : Shape} {vseg : Segment} {pseg : Physical} → HasSegments geometry shape vseg pseg → pseg.first * pseg.size ≡ shape.vblocks * shape.pages
begins has = λ i. has.physical_first i * has.physical_pages i
