use Rattle.std.proofs.Common.{refl, inl}
use Rattle.nl_iface.specs.Examples.{some_tag, pointer}
use Rattle.nl_spec_holders.specs.Examples.{callback}
use Rattle.nl_spec_holders.proofs.rows.overlooks_flight.Goals as goal

-- the name in flight is the old name of a callback that was handled
pub returns : goal.returns
returns c f = let r = f.held.flight (some_tag, pointer 40 7) (inl refl) in r.safe (callback 1 40 300 7) 3 (inl refl) refl tt refl
