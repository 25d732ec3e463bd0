-- A block is taken as the victim.
use Rattle.std.proofs.Common.{◌≡◌, inl, ℕ, ◌*◌, ◌<◌, ◌≤◌, Bool, List, length, Option, refl, sym, ◌∙◌, ap, subst, arith}
use Rattle.std.specs.Prelude.{Contains}
use Rattle.std.proofs.lemmas.Option.{same_Some}
use Rattle.nl_field.specs.Page.{Image}
use Rattle.nl_field.specs.declared.shape.Shape.{Shape}
use Rattle.nl_nand.specs.Nand.{ImageOf}
use Rattle.nl_nand.specs.declared.geometry.Geometry.{Geometry}
use Rattle.nl_callbacks.specs.Pending.{PendingTable}
use Rattle.nl_pseg.specs.Cleaning.{BeginsBlock, IsChosen}
use Rattle.nl_pseg.specs.Segment.{CanSpareBlock, IsPhysicalOf, KeepsBlock, Physical, SameBlocksAndPages}
use Rattle.nl_pseg.specs.Space.{IsWhole, victims}
use Rattle.nl_pseg.specs.declared.held.Held.{Held}
use Rattle.nl_vseg.specs.Segment.{Segment}
use Rattle.nl_device.specs.Device.{HasSpareBlock, IsDevice}
use Rattle.nl_device.specs.Kept.{KeptPages}
use Rattle.nl_device.specs.Shown.{bytes_at}
use Rattle.nl_device.specs.Space.{space_of}
use Rattle.nl_device.proofs.Calling.{called_same}
use Rattle.nl_device.proofs.Calls.{device_with, medium_with, named_segments}
use Rattle.nl_device.proofs.Leaving.{names_in}
use Rattle.nl_device.proofs.Living.{live_kept, same_before, same_keeps}
use Rattle.nl_device.proofs.Made.{live_held}
use Rattle.nl_device.proofs.Naming.{names_after}

pub space_victim : (seg : Physical) → (space_of seg).victim ≡ victims seg
unfolding space_of
space_victim seg = refl

pub space_size : (seg : Physical) → (space_of seg).block ≡ seg.size
unfolding space_of
space_size seg = refl

pub begun_pages : {block : ℕ} {old new : Physical} → BeginsBlock block old new → SameBlocksAndPages old new
begun_pages b = record { same_first = b.tables.same_first; same_blocks = b.tables.same_blocks; same_size = b.tables.same_size; same_wear = b.wears }

-- the device that has a victim in hand now
pub begun_device : {geometry : Geometry} {tells : Type 0} {image : Image} {shape : Shape} {vseg : Segment} {old : Physical} {pending : PendingTable} {kept : KeptPages} {next : ℕ} → IsDevice geometry tells image shape vseg old pending kept next → (tells → ImageOf geometry image)
    → (new : Physical) (cold : Bool) (block : ℕ) → IsChosen cold old block → BeginsBlock block old new → IsWhole new → (KeepsBlock old → KeepsBlock new) → ((i : Image) → IsPhysicalOf i old → IsPhysicalOf i new) → ((i : Image) → CanSpareBlock i old → CanSpareBlock i new)
    → IsDevice geometry tells image shape vseg new pending kept next
begun_device {geometry} {tells} {image} {shape} {vseg} {old} {pending} {kept} {next} f fits new cold block chosen b whole keeps segment on =
    let same = begun_pages b in
    let held = b.tables.same_held in
    let live = live_kept old new f.live same whole.pages.erased_within held in
    let count : length new.held ≡ length old.held = ap (λ (l : List (Option Held)). length l) held in
    let spare : HasSpareBlock new = record {
      whole = whole;
      block = keeps f.spare.block;
      in_hand = λ v is. let e = same_Some block v (sym b.victim ∙ is) in
          (subst (λ n. n ≤ v) (sym same.same_first) (subst (λ n. old.first ≤ n) e chosen.from), subst (λ n. v < n) (sym same.same_blocks) (subst (λ n. n < old.blocks) e chosen.below));
    } in
    device_with f f.found f.found_stored refl same count live spare (called_same old new pending pending f.called refl f.called.numbers refl b.tables.same_pairs same.same_size (same_keeps old new held)) (omega arith)
    (λ p h has. f.stamp.live p h (same_before old new held p h has))
    (λ t.
    let fit = fits t in
    let physical = segment image (f.medium t).physical_is in
    medium_with f t refl same count fit live (λ p lt. refl) physical (omega arith) spare (on image (f.medium t).spare)
    (names_after geometry shape vseg old image image f.segments fit fit f.live (f.medium t).physical_is new f.spare.whole (λ p. inl refl)
    (λ n x h. subst (λ (l : List (ℕ × ℕ)). Contains l (n, x)) b.tables.same_pairs h) (λ p. ⊥) (λ p off. absurd off) (λ p x has. inl (same_before old new held p x has))
    (λ p. bytes_at (shape.vblocks * shape.pages) image p) (live_held (named_segments f.segments refl same count) fit live physical) (names_in (f.medium t).pages))
    (f.medium t).named_below)
