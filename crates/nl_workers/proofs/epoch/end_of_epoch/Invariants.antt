use Rattle.nl_workers.proofs.Epochs.{IsWithin}
use Rattle.nl_workers.proofs.epoch.end_of_epoch.Given as goal

abbrev pub invariant-loop-at : goal.invariant-loop-at
invariant-loop-at l = IsWithin l.lines l.from l.at l.round
