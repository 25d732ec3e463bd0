use Rattle.std.proofs.Common.{refl, inl, arith}
use Rattle.nl_iface.specs.Examples.{pointer}
use Rattle.nl_spec_holders.specs.Examples.{callback}
use Rattle.nl_spec_holders.proofs.rows.handles_for_frozen.Goals as goal

pub returns : goal.returns
returns c f = let r = f.frozen (pointer 40 7) (inl refl) in r.safe (callback 1 40 300 7) 2 (inl refl) refl (omega arith) refl
