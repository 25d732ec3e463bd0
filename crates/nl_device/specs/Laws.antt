-- What holds of each device whose tables stand.
use Rattle.std.proofs.Common.{arith, cond, is_some, ◌≡◌, ◌∙◌, ℕ, ◌+◌, ◌*◌, ◌≤◌, List, Option, Some, None, option_map, refl, subst, sym}
use Rattle.nl_field.specs.Page.{Image}
use Rattle.nl_field.specs.declared.shape.Shape.{Shape}
use Rattle.nl_nand.specs.declared.geometry.Geometry.{Geometry}
use Rattle.nl_iface.specs.Device.{IsDeviceState, state_of}
use Rattle.nl_iface.specs.Names.{Has, IsNames}
use Rattle.nl_iface.specs.Stored.{Value, Stored}
use Rattle.nl_iface.specs.declared.Callback.{Callback}
use Rattle.nl_pseg.specs.Segment.{Physical}
use Rattle.nl_vseg.specs.Places.{map_of, place_of, stamp_for, stamp_in_place, value_at}
use Rattle.nl_vseg.specs.Segment.{Segment}
use Rattle.nl_vseg.specs.declared.place.Place.{Place}
use Rattle.nl_device.specs.Device.{IsDevice, IsOnMedium}
use Rattle.nl_device.specs.Kept.{KeptPages}
use Rattle.nl_device.specs.Shown.{IsStray, names_of}
use Rattle.nl_device.specs.Space.{space_of}
use Rattle.nl_callbacks.specs.Pending.{ArePendingEntries, PendingTable}
use Rattle.nl_device.specs.Callbacks.{callbacks_of, names_with}
use Rattle.nl_device.specs.State.{given_of, marked_of, state_called}
use Rattle.nl_iface.specs.Left.{LeavesPages}

stamp_of_value : (image : Image) (place : Option Place) → option_map (λ (x : Value). x.0) (value_at image place) ≡ stamp_in_place place
stamp_of_value image None = refl
stamp_of_value image (Some place) = refl

pub stamp_in_map : (places : List (Option Place)) (image : Image) (v : ℕ)
    → option_map (λ (x : Value). x.0) (map_of places image v) ≡ stamp_for places v
stamp_in_map places image v = stamp_of_value image (place_of places v)

pub state_is : {geometry : Geometry} {tells : Type 0} {image : Image} {shape : Shape} {vseg : Segment} {pseg : Physical}
    {pending : PendingTable} {kept : KeptPages} {next : ℕ} (bytes : ℕ → List ℕ) (map : ℕ → Option Value)
    → IsDevice geometry tells image shape vseg pseg pending kept next
    → IsDeviceState shape.pages (state_of (names_with pseg pending) bytes map next)
state_is {geometry} {tells} {image} {shape} {vseg} {pseg} {pending} {kept} {next} bytes map f =
    subst (λ pages. IsDeviceState pages (state_of (names_with pseg pending) bytes map next)) f.segments.physical_pages
    (state_called pseg pending bytes map next f.spare.whole f.live f.called)

-- a write that failed has a lesser stamp than the next
pub failed_below : {shape : Shape} {next : ℕ} {image : Image} {vseg : Segment} {pseg : Physical}
    → IsOnMedium shape next image vseg pseg → (v : ℕ) (x : Value)
    → IsStray (shape.vblocks * shape.pages) image (λ u. map_of vseg.places image u) v x → x.0 + 1 ≤ next
failed_below on v x stray = let lt = on.below v x.0 x.1 stray.shown in omega (arith, lt)

-- the names with their callbacks
pub names_as : {shape : Shape} {next : ℕ} (pseg : Physical) (table : PendingTable) → ArePendingEntries table.callbacks table.posted
    → IsNames shape next (names_of pseg) → IsNames shape next (names_with pseg table)
names_as pseg table numbers is = record {
  space = is.space;
  block = is.block;
  all = is.all;
  pairs = is.pairs;
  counted = is.counted;
  from_first = is.from_first;
  to_last = is.to_last;
  below = is.below;
  given = given_of table.callbacks table.posted numbers;
  marked = marked_of table.callbacks;
}

-- what is left of the live pages does not hang on the callbacks
pub leaves_as : {shape : Shape} {bytes : ℕ → List ℕ} {c : Stored} (pseg : Physical) (table : PendingTable)
    → LeavesPages shape (names_of pseg) bytes c → LeavesPages shape (names_with pseg table) bytes c
leaves_as pseg table l = record {
  spare = l.spare;
  from = l.from;
  below = l.below;
  held = l.held;
  own = l.own;
  stale = l.stale;
  few = l.few;
  at_names = l.at_names;
}

-- the victim is one block
pub in_hand : (pseg : Physical) → (space_of pseg).victim ≡ cond (is_some pseg.victim) 1 0
unfolding space_of
in_hand pseg = refl

-- no block is bad
pub none_bad : (pseg : Physical) → (space_of pseg).bad ≡ 0
unfolding space_of
none_bad pseg = refl

-- With no pair no callback is pending, since its old name has one.
pub unpaired : {geometry : Geometry} {tells : Type 0} {image : Image} {shape : Shape} {vseg : Segment} {pseg : Physical} {pending : PendingTable} {kept : KeptPages} {next : ℕ} → IsDevice geometry tells image shape vseg pseg pending kept next
    → (space_of pseg).pairs ≡ 0 → (c : Callback) → Has (callbacks_of pending.callbacks) c → ⊥
unpaired f none c has =
    let old = f.called.old c has in
    let within = old.1.1 in
    let empty = sym f.names.pairs ∙ none in
    absurd (omega (arith, within, empty))
