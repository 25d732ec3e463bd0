-- What every answer leaves around the names.
use Rattle.nl_iface.specs.Device.{IsVolumeShape}
use Rattle.nl_iface.specs.declared.counts.Counts.{Ghosts}
use Rattle.nl_meta.specs.Pages.{Pages}
use Rattle.nl_meta.proofs.PageProofs.{loaded}
use Rattle.nl_meta_running.specs.Running.{PreservesRunning}
use Rattle.nl_meta_running.proofs.Kept.{loads-on}
use Rattle.nl_namespace.specs.LeavingLaws.{KeepsAround, NamesKeepAround}
use Rattle.nl_namespace.specs.declared.answer.Change.TheVariants as change
use Rattle.nl_namespace.proofs.PointersStay.{tagged-read}

read-keeps : {D : Type 0} (g : Ghosts D) (s : D) (p : Pages) (t : D) (q : Pages) → IsVolumeShape (g.shape s) → PreservesRunning g s p t q → KeepsAround g s p t q
read-keeps g s p t q volume on = record { pages = loaded p q (loads-on g s p t q on); pointers = tagged-read g s p t q volume on }

pub names_keep_around : {D : Type 0} (g : Ghosts D) → NamesKeepAround g
names_keep_around g s p free t q after (change.Changed lost) volume c = record { pages = c.pages; pointers = c.pointers }
names_keep_around g s p free t q after (change.No refusal) volume l = read-keeps g s p t q volume l.0
names_keep_around g s p free t q after change.Fault volume l = read-keeps g s p t q volume l.0
names_keep_around g s p free t q after (change.Lost w f) volume l = read-keeps g s p t q volume l.0
