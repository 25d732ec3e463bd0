-- Marks of the blocks that hold a stamp alone.
use Rattle.std.specs.Prelude.{ℕ, ◌-◌, ◌/◌, if◌then◌else◌, Bool, true, List, slice_set, Option, Some, None, is_some}
use Rattle.nl_device.specs.declared.kept.copies.Copies.{Copies}

-- the marks, from a first block on, with the block of a stamp that has pages there only
abbrev pub with_lone_block : ℕ → ℕ → Option Copies → List Bool → List Bool
with_lone_block first size None marks = marks
with_lone_block first size (Some c) marks = if is_some c.apart then marks else slice_set marks (c.first / size - first) true
