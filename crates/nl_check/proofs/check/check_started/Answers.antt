use Rattle.std.proofs.Common.{sym, subst}
use Rattle.nl_field.specs.Numbers.{ShapeBounds}
use Rattle.nl_meta_running.proofs.Holds.{bounds-of}
use Rattle.nl_check.proofs.check.check_started.Goals as goal

pub checked_of-requires : goal.checked_of-requires
checked_of-requires g c = subst ShapeBounds (sym c.requires.shape) (bounds-of (g.D.Counts.shape c.args.device.now) (g.met.D.VirtualPages.numbers c.args.device.now c.requires.formed))
