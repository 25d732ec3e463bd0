use Rattle.nl_device.specs.Retain.{HasCalled, HasLoaded}
use Rattle.nl_device.proofs.kept.Kept.retain.Given as goal

abbrev pub invariant-listed : goal.invariant-listed
invariant-listed l = record {
  loaded : HasLoaded l.fn.self l.list.items l.at l.fn.pseg l.pseg;
  called : HasCalled l.fn.self l.list.items l.at l.pseg l.fn.pending l.pending;
}
