use Rattle.std.proofs.Common.{sym}
use Rattle.nl_meta.proofs.Kept.{position-has, position-below}
use Rattle.nl_meta.proofs.meta.place.Goals as goal

pub returns-in-Some : goal.returns-in-Some
returns-in-Some c = record { at = sym c.in-Some.ensures; below = position-below c.args.addresses.now c.args.vaddr c.in-Some.at (sym c.in-Some.ensures) }

pub returns-in-None : goal.returns-in-None
returns-in-None c = absurd (position-has c.args.addresses.now c.args.vaddr c.requires (sym c.in-None.ensures))
