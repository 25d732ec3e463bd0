use Rattle.std.proofs.Common.{◌≡◌, ◌<◌, ℕ, get_or, IsSome}
use Rattle.nl_meta.specs.Pages.{page_of}
use Rattle.nl_meta_running.specs.Running.{PreservesRunning}
use Rattle.nl_namespace.proofs.hold.hold_entries.Given as goal

abbrev pub invariant-loop-row : goal.invariant-loop-row
invariant-loop-row g l = record {
  formed : g.D.Counts.formed l.device;
  kept : PreservesRunning g.D.Counts l.initial.device l.initial.meta l.device l.meta;
  faults : g.D.Counts.read_faults l.device ≡ g.D.Counts.read_faults l.initial.device;
  there : (i : ℕ) → i < l.row → IsSome (page_of l.meta (get_or l.rec.addresses i 0));
}
