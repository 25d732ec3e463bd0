-- What holds of the space of each device.
use Rattle.std.proofs.Common.{◌≡◌, ◌+◌, refl}
use Rattle.nl_device.specs.Space.{space_of}
use Rattle.nl_pseg.specs.Segment.{Physical}

-- one block is kept for the cleaner, and none is bad
pub one_kept : (seg : Physical) → (space_of seg).keep + (space_of seg).bad ≡ 1
unfolding space_of
one_kept seg = refl
