-- The device after a write under a new name, whether its page was tried or not.
use Rattle.std.proofs.Common.{◌≡◌, ◌⊎◌, ℕ, ◌+◌, ◌*◌, ◌<◌, ◌≤◌, ◌∙◌, Bool, true, false, cond, List, Some, None, length, refl, sym, ap, subst, arith}
use Rattle.nl_field.specs.Page.{Image}
use Rattle.nl_field.specs.declared.answers.Named.{Named}
use Rattle.nl_field.specs.declared.pointer.Tag.{Tag}
use Rattle.nl_field.specs.declared.shape.Shape.{Shape}
use Rattle.nl_nand.specs.Nand.{ImageOf}
use Rattle.nl_nand.specs.declared.geometry.Geometry.{Geometry}
use Rattle.nl_iface.specs.Names.{IsNewName}
use Rattle.nl_iface.specs.Stored.{NamedPage, stored_in}
use Rattle.nl_pseg.specs.Effects.{PreservesSegment, PlacesOnImage}
use Rattle.std.specs.Prelude.{Contains}
use Rattle.nl_pseg.specs.Segment.{CanSpareBlock, IsDead, IsPhysicalOf, Physical, SameBlocksAndPages, held_at}
use Rattle.nl_pseg.specs.declared.held.Held.{Held}
use Rattle.nl_vseg.specs.Segment.{Segment}
use Rattle.nl_device.specs.Device.{HasLive, HasSegments, HasSpareBlock, IsDevice, IsFoundStored}
use Rattle.nl_device.specs.Kept.{KeptPages, forgotten}
use Rattle.nl_device.specs.Shown.{bytes_at, live_page, names_of}
use Rattle.nl_device.specs.Stamps.{is_tried}
use Rattle.nl_device.proofs.Calls.{device_with, found_after, medium_with, named_segments, stored_after}
use Rattle.nl_device.proofs.Forms.{begins}
use Rattle.nl_device.proofs.Naming.{below_after, either_each, either_low, names_after, to_takes}
use Rattle.nl_device.proofs.Leaving.{names_in}
use Rattle.nl_device.proofs.Made.{live_held}
use Rattle.nl_device.specs.Callbacks.{AreCalled}
use Rattle.nl_device.specs.State.{to_itself}
use Rattle.nl_callbacks.specs.Pending.{PendingTable}

-- what is kept of the scan, and the next stamp, where nothing was tried
pub kept_untried : (kept left : KeptPages) (tried : Bool) → left ≡ cond tried (forgotten kept) kept → tried ≡ false → left ≡ kept
kept_untried kept left tried is un = is ∙ ap (λ b. cond b (forgotten kept) kept) un

pub next_untried : (tried : Bool) (now next : ℕ) → now ≡ next + cond tried 1 0 → tried ≡ false → now ≡ next
next_untried tried now next is un = let e : next + cond tried 1 0 ≡ next + 0 = ap (λ b. next + cond b 1 0) un in omega (arith, is, e)

-- the page of a new name
pub new_name : {geometry : Geometry} {shape : Shape} {vseg : Segment} {pseg : Physical} → HasSegments geometry shape vseg pseg → (page : ℕ) → IsDead pseg page → IsNewName shape (names_of pseg) page
new_name {geometry} {shape} {vseg} {pseg} segments page dead = record {
  low = subst (λ n. n ≤ page) (begins segments) dead.within.0;
  high = subst (λ n. page < n) (λ i. segments.physical_blocks i * segments.physical_pages i) dead.within.1;
  dead = ap live_page dead.dead;
  own = to_itself pseg.pairs page dead.own;
}

module _ {geometry now : Geometry} {tells : Type 0} {image c : Image} {shape : Shape} {vseg : Segment} {old : Physical} {pending : PendingTable} {kept left : KeptPages} {next after : ℕ} (answer : Named) (tried : Bool) (tag : Tag) (main : List ℕ) (f : IsDevice geometry tells image shape vseg old pending kept next)
    (same_geometry : now ≡ geometry) (old_fits : tells → ImageOf geometry image) (fits : tells → ImageOf now c) (either : tells → (page : ℕ) × (PreservesSegment old image c ⊎ PlacesOnImage old page tag next main image c)) (untouched : is_tried answer ≡ false → c ≡ image)
    (is_left : left ≡ cond tried (forgotten kept) kept) (is_after : after ≡ next + cond tried 1 0) (tried_is : tried ≡ is_tried answer) where
  rises : next ≤ after
  rises = omega (arith, is_after)

  stored : tells → IsFoundStored left (λ p. bytes_at (shape.vblocks * shape.pages) c p) (stored_in c)
  stored t = stored_after kept left tried is_left (λ p. bytes_at (shape.vblocks * shape.pages) c p) (stored_in c)
      (λ un. subst (λ (i : Image). IsFoundStored kept (λ p. bytes_at (shape.vblocks * shape.pages) i p) (stored_in i)) (sym (untouched (sym tried_is ∙ un))) (f.found_stored t))

  named_below : tells → (p : ℕ) (page : NamedPage) → (stored_in c).named p ≡ Some page → page.stamp + 1 ≤ after
  named_below t = by tried refl
    where
      was : (p : ℕ) (page : NamedPage) → (stored_in image).named p ≡ Some page → page.stamp + 1 ≤ after
      was p page is = let lt = (f.medium t).named_below p page is in omega (arith, lt, rises)

      by : (b : Bool) → tried ≡ b → (p : ℕ) (page : NamedPage) → (stored_in c).named p ≡ Some page → page.stamp + 1 ≤ after
      by false e p page is = was p page (ap (λ (i : Image). (stored_in i).named p) (sym (untouched (sym tried_is ∙ e))) ∙ is)
      by true e p page is =
          let one : after ≡ next + 1 = is_after ∙ ap (λ b. next + cond b 1 0) e in
          let k = either t in
          below_after geometry shape vseg old image c f.segments (old_fits t) (subst (λ n. ImageOf n c) same_geometry (fits t)) f.live (f.medium t).physical_is k.0 next after tag main k.1 was (omega (arith, one)) p page is

  pub tried_device : (new : Physical) (now_pending : PendingTable) → SameBlocksAndPages old new → length new.held ≡ length old.held → HasLive new → HasSpareBlock new → AreCalled new now_pending → ((p : ℕ) (h : Held) → held_at new p ≡ Some h → h.stamp < after) → (tells → IsPhysicalOf c new) → (tells → CanSpareBlock image old → CanSpareBlock c new)
      → ((n t : ℕ) → Contains new.pairs (n, t) → Contains old.pairs (n, t)) → (New : ℕ → Type 0) → ((p : ℕ) → New p → held_at old p ≡ None) → ((p : ℕ) (h : Held) → held_at new p ≡ Some h → (held_at old p ≡ Some h) ⊎ New p) → IsDevice now tells c shape vseg new now_pending left after
  tried_device new now_pending same count live spare called stamps physical on fewer New fresh less =
      device_with f (found_after kept left tried is_left shape next after rises f.found) stored same_geometry same count live spare called rises stamps
      (λ t.
      let fit = subst (λ n. ImageOf n c) same_geometry (fits t) in
      let segments = named_segments f.segments refl same count in
      medium_with f t same_geometry same count (fits t) live (either_low (to_takes (either t).1)) (physical t) rises spare (on t (f.medium t).spare)
      (names_after geometry shape vseg old image c f.segments (old_fits t) fit f.live (f.medium t).physical_is new f.spare.whole (either_each (to_takes (either t).1)) fewer New fresh less (λ p. bytes_at (shape.vblocks * shape.pages) c p) (live_held segments fit live (physical t)) (names_in (f.medium t).pages))
      (named_below t))
