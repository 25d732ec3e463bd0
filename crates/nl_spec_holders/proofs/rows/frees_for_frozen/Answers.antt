use Rattle.std.proofs.Common.{refl, inl, arith}
use Rattle.nl_iface.specs.Examples.{pointer}
use Rattle.nl_spec_holders.proofs.rows.frees_for_frozen.Goals as goal

pub returns : goal.returns
returns c f = let r = f.committed_kept (pointer 40 7) (inl refl) in omega (arith, r)
