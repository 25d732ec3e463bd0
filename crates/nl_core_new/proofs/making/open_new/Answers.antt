use Rattle.std.proofs.Common.{subst, sym}
use Rattle.nl_field.specs.Numbers.{ShapeBounds}
use Rattle.nl_meta_running.proofs.Holds.{bounds-of}
use Rattle.nl_core_new.proofs.making.open_new.Goals as goal

pub wants_for-requires : goal.wants_for-requires
wants_for-requires g c = subst ShapeBounds (sym c.requires.shape) (bounds-of (g.D.Counts.shape c.args.device) c.device_stands.ensures.volume)
