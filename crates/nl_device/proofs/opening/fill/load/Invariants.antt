use Rattle.std.proofs.Common.{◌≡◌, ℕ, ◌<◌, ◌≤◌, true, None, get_or, option_map}
use Rattle.nl_device.specs.Opening.{place_on}
use Rattle.nl_vseg.specs.Places.{place_of}
use Rattle.nl_vseg.specs.Segment.{SameSize, is_taken_as_erased}
use Rattle.nl_device.proofs.opening.fill.load.Given as goal

abbrev pub invariant-loop-vaddr : goal.invariant-loop-vaddr
invariant-loop-vaddr l = record {
  loaded : (v : ℕ) → v < l.vaddr → place_of l.vseg.places v ≡ option_map place_on (get_or l.fn.picks.items v None);
  behind : (v : ℕ) → l.vaddr ≤ v → place_of l.vseg.places v ≡ None;
  numbers : SameSize l.initial.vseg l.vseg;
  blank : (p : ℕ) → is_taken_as_erased l.vseg p ≡ true → is_taken_as_erased l.initial.vseg p ≡ true;
}
