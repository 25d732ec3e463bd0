-- The least volume, and its segments when they are new.
use Rattle.std.proofs.Common.{◌≡◌, ℕ, zero, suc, ◌≤◌, ◌<◌, ◌*◌, ◌/◌, None, Option, List, [], length, get_or, replicate, refl, sym, ◌∙◌, ap, subst, arith, IsTrue}
use Rattle.std.proofs.lemmas.List.{length-replicate}
use Rattle.std.proofs.lemmas.Option.{none-some}
use Rattle.nl_field.specs.Numbers.{is_legal, shape_for}
use Rattle.nl_field.specs.Page.{Image}
use Rattle.nl_field.specs.declared.shape.Shape.{Shape}
use Rattle.nl_nand.specs.declared.geometry.Geometry.{Geometry}
use Rattle.nl_nand.specs.Nand.{IsBlank}
use Rattle.nl_pseg.specs.Segment.{Physical, IsDead, IsPhysicalOf}
use Rattle.nl_pseg.specs.declared.held.Held.{Held}
use Rattle.nl_vseg.specs.Segment.{Segment, SameSize, SegmentHasUnmapped, IsSegmentOf}
use Rattle.nl_vseg.specs.declared.place.Place.{Place}
use Rattle.nl_test_device_segments.specs.Rigs.{HasAddresses, HasNames, IsLeastVolume}

pub least : (shape : Shape) → shape ≡ shape_for 32 32 → IsLeastVolume shape
unfolding shape_for
least shape is = record {
  legal = subst (λ (s : Shape). IsTrue (is_legal s.blocks s.pages)) (sym is) refl;
  numbers = is ∙ (λ i. shape_for (sym is i).blocks (sym is i).pages);
  addresses = ap (λ (s : Shape). s.vaddrs) is;
  first = ap (λ (s : Shape). s.vblocks) is;
  blocks = ap (λ (s : Shape). s.blocks) is;
  pages = ap (λ (s : Shape). s.pages) is;
}

all_none : {X : Type 0} (n i : ℕ) → get_or (replicate n (let none : Option X = None in none)) i None ≡ None
all_none zero i = refl
all_none (suc n) zero = refl
all_none (suc n) (suc i) = all_none n i

pub new_names : (shape : Shape) (geometry : Geometry) (image : Image) (seg : Physical) → IsLeastVolume shape → geometry ≡ record { blocks = 32; pages = 32 } → IsBlank image → seg.held ≡ replicate (shape.blocks * shape.pages) None → seg.first ≡ shape.vblocks
    → seg.blocks ≡ shape.blocks → seg.size ≡ shape.pages → HasNames geometry image seg
new_names shape geometry image seg least_is numbers blank held first blocks size = record {
  numbers = numbers;
  first = first ∙ least_is.first;
  blocks = blocks ∙ least_is.blocks;
  size = size ∙ least_is.pages;
  segment = record {
    holds = λ p h named. absurd (none-some h (sym (ap (λ (l : List (Option Held)). get_or l p None) held ∙ all_none (shape.blocks * shape.pages) p) ∙ named));
    blank = λ p taken. blank p;
    blank_copy = λ p next. blank p;
  };
}

-- no page of a new segment is live
pub new_dead : (shape : Shape) (seg : Physical) (page : ℕ) → IsLeastVolume shape → seg.held ≡ replicate (shape.blocks * shape.pages) None → seg.first ≡ shape.vblocks → seg.blocks ≡ shape.blocks → seg.size ≡ shape.pages → seg.pairs ≡ [] → seg.victim ≡ None → 256 ≤ page → page < 1024 → IsDead seg page
new_dead shape seg page least_is held first blocks size pairs victim from below =
    let f = first ∙ least_is.first in
    let b = blocks ∙ least_is.blocks in
    let s = size ∙ least_is.pages in
    let low : seg.first * seg.size ≡ 256 = (λ i. f i * s i) in
    let high : seg.blocks * seg.size ≡ 1024 = (λ i. b i * s i) in
    record {
      within = (omega (arith, low, from), omega (arith, high, below));
      dead = ap (λ (l : List (Option Held)). get_or l page None) held ∙ all_none (shape.blocks * shape.pages) page;
      own = λ old. let none : length seg.pairs ≡ 0 = ap (λ (ps : List (ℕ × ℕ)). length ps) pairs in let less = old.1.1 in omega (arith, none, less);
      apart = λ at. none-some (page / seg.size) (sym victim ∙ at);
    }

pub new_addresses : (shape : Shape) (geometry : Geometry) (image : Image) (seg : Segment) → IsLeastVolume shape → geometry ≡ record { blocks = 32; pages = 32 } → IsBlank image → seg.places ≡ replicate shape.vaddrs None → seg.pages ≡ shape.pages
    → seg.bound ≡ shape.vblocks * shape.pages → SegmentHasUnmapped seg → HasAddresses geometry image seg
new_addresses shape geometry image seg least_is numbers blank places pages bound spare = record {
  numbers = numbers;
  addresses = ap (λ (l : List (Option Place)). length l) places ∙ (length-replicate shape.vaddrs None ∙ least_is.addresses);
  fits = record {
    same_pages = ap (λ (g : Geometry). g.pages) numbers ∙ sym (pages ∙ least_is.pages);
    within = subst (λ (g : Geometry). seg.bound ≤ g.blocks * g.pages) (sym numbers) (subst (λ n. n ≤ 32 * 32) (sym (bound ∙ (λ i. least_is.first i * least_is.pages i))) (omega arith));
  };
  spare = spare;
  segment = record {
    holds = λ v place named. absurd (none-some place (sym (ap (λ (l : List (Option Place)). get_or l v None) places ∙ all_none shape.vaddrs v) ∙ named));
    erased_is = λ p taken. blank p;
  };
}

pub kept_addresses : (old new : Geometry) (before after : Image) (seg next : Segment) → HasAddresses old before seg → new ≡ old → SameSize seg next → SegmentHasUnmapped next → IsSegmentOf after next → HasAddresses new after next
kept_addresses old new before after seg next is same size spare segment = record {
  numbers = same ∙ is.numbers;
  addresses = size.addresses ∙ is.addresses;
  fits = record {
    same_pages = ap (λ (g : Geometry). g.pages) same ∙ (is.fits.same_pages ∙ sym size.same_pages);
    within = subst (λ n. n ≤ new.blocks * new.pages) (sym size.same_bound) (subst (λ (g : Geometry). seg.bound ≤ g.blocks * g.pages) (sym same) is.fits.within);
  };
  spare = spare;
  segment = segment;
}
