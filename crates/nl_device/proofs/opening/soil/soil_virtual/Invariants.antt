use Rattle.std.proofs.Common.{◌≡◌, ℕ, ◌/◌, ◌<◌, true}
use Rattle.nl_device.specs.Opening.{SaysErased}
use Rattle.nl_vseg.specs.Segment.{SameSize, is_taken_as_erased}
use Rattle.nl_device.proofs.opening.soil.soil_virtual.Given as goal

abbrev pub invariant-loop-block : goal.invariant-loop-block
invariant-loop-block l = record {
  places : l.vseg.places ≡ l.initial.vseg.places;
  numbers : SameSize l.initial.vseg l.vseg;
  blank : (p : ℕ) → is_taken_as_erased l.vseg p ≡ true → (is_taken_as_erased l.initial.vseg p ≡ true) × (p / l.initial.vseg.pages < l.block → SaysErased l.fn.tables (p / l.initial.vseg.pages));
}
