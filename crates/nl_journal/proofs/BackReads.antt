-- A journal that was read back, by what was found.
use Rattle.std.proofs.Common.{◌≡◌, ◌+◌, length, refl}
use Rattle.nl_iface.specs.Calls.{KeepsVirtual}
use Rattle.nl_iface.specs.Device.{IsVolumeShape}
use Rattle.nl_iface.specs.declared.counts.Counts.{Ghosts}
use Rattle.nl_meta.specs.Committed.{next_number}
use Rattle.nl_meta.specs.Pages.{IsPages, Pages}
use Rattle.nl_journal.specs.Opening.{FindsTransaction, phase_found}
use Rattle.nl_journal.specs.Outcomes.{bytes_of}
use Rattle.nl_journal.specs.Progress.{Progress}
use Rattle.nl_journal.specs.Restoring.{BringsBack, Restores}
use Rattle.nl_journal.specs.declared.answers.ReadBack.{ReadBack}
use Rattle.nl_journal.specs.declared.answers.ReadBack.TheVariants.{Agreed, Nothing, Fault}
use Rattle.nl_journal.proofs.BackStands.{back-none, back-on, back-some}

module _ {D : Type 0} (g : Ghosts D) where
  pub brought : (s t : D) → IsVolumeShape (g.shape s) → (journal : Progress) (p : Pages) (r : ReadBack) → KeepsVirtual g s t → (g.tells → journal.number + 1 ≡ next_number (g.shape s) (bytes_of (g.map s)))
      → IsPages p → length p.running ≡ (g.shape s).vaddrs → journal.phase ≡ phase_found r → (g.tells → FindsTransaction (g.shape s) (bytes_of (g.map s)) r) → Restores g.tells (g.shape s) (bytes_of (g.map s)) r p
      → (r ≡ Fault → ⊥) → BringsBack g t journal p
  brought s t volume journal p (Agreed n) k number stands count phase found restored done = back-on g s t journal p k (back-some g s volume journal p number stands count phase (λ tells. let f = found tells in (f.0, f.1)) restored)
  brought s t volume journal p Nothing k number stands count phase found restored done = back-on g s t journal p k (back-none g s volume journal p number restored phase found)
  brought s t volume journal p Fault k number stands count phase found restored done = absurd (done refl)
