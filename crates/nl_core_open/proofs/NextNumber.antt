-- The number of the last transaction of a volume that is opened: the next one has the number that the image tells.
use Rattle.std.proofs.Common.{◌≡◌, ◌⊎◌, ⊎_elim, ℕ, ◌+◌, ◌<◌, ◌≤◌, List, length, max, sym, ap, ◌∙◌, arith}
use Rattle.nl_field.specs.Medium.{shape_of_image}
use Rattle.nl_field.specs.Page.{Image}
use Rattle.nl_field.specs.Virtual.{map_bytes, virtual_bytes}
use Rattle.nl_field.specs.declared.seen.Seen.{Seen}
use Rattle.nl_field.specs.declared.shape.Shape.{Shape}
use Rattle.nl_tree.specs.Tree.{Tree}
use Rattle.nl_device.specs.declared.device.Device.{Device}
use Rattle.nl_iface.specs.declared.counts.Counts.{Ghosts}
use Rattle.nl_journal.specs.Opening.{commit_number, header_number}
use Rattle.nl_journal.specs.Outcomes.{bytes_of}
use Rattle.nl_journal.specs.Progress.{Progress, begun}
use Rattle.nl_journal.specs.Transaction.{head, mark}
use Rattle.nl_journal.specs.declared.answers.Phase.{Phase}
use Rattle.nl_journal.specs.declared.answers.Phase.TheVariants.{Header, Home}
use Rattle.nl_journal.proofs.CommitSteps.{begun_none}
use Rattle.nl_journal.proofs.Openings.{next_is}
use Rattle.nl_meta.specs.Committed.{VirtualMap, next_number}
use Rattle.nl_meta.specs.Pages.{Frozen, Pages}
use Rattle.nl_recover.specs.Recovering.{IsWalked}
use Rattle.nl_journal.specs.Restoring.{HasRestored}
use Rattle.nl_recover.specs.declared.opening.Walked.{Walked}
use Rattle.nl_journal.proofs.BackFacts.{journal-bytes}
use Rattle.nl_recover.proofs.Imaged.{stored-is}
use Rattle.nl_core.specs.Core.{begun_of}
use Rattle.nl_core.specs.declared.state.Core.{Core}
use Rattle.nl_core_open.specs.Beginning.{IsStartedOver}

-- only two pages are asked
next_same : (shape : Shape) (f h : VirtualMap) → f 1 ≡ h 1 → f 66 ≡ h 66 → next_number shape f ≡ next_number shape h
next_same shape f h begins ends =
    next_is shape f
    ∙ ap (λ b. 1 + max (header_number (head shape b)) (commit_number (mark (f 66)))) begins
    ∙ ap (λ b. 1 + max (header_number (head shape (h 1))) (commit_number (mark b))) ends
    ∙ sym (next_is shape h)

-- no transaction waits for its commit page
restored_begun : (p : Progress) (pages : Pages) → HasRestored p pages → begun p (length pages.frozen.addresses) ≡ p.number
restored_begun p pages is = ⊎_elim
    (λ none. begun_none p.phase p.number (length pages.frozen.addresses) none.0 (ap (λ (f : Frozen). length f.addresses) none.1))
    (λ home. ap (λ (x : Phase). begun (record { number = p.number; phase = x }) (length pages.frozen.addresses)) home.0)
    is.due

module _ {M : Type 0} (g : Ghosts (Device M)) (d : Device M) (seen : List Seen) (w : Walked) (image : Image) (tree : Tree) (over : IsStartedOver g d w image tree) (walked : IsWalked g d seen w) (tells : g.tells) (wide : 67 ≤ (g.shape d).vaddrs) where
  bytes_are : map_bytes (g.shape d) (g.map d) ≡ virtual_bytes image
  bytes_are = λ i v. stored-is image (g.shape d) (g.map d) over.shape over.map v i

  pub next_number_is : (v : Core (Device M)) → v.journal ≡ w.journal → v.meta ≡ w.meta → begun_of v + 1 ≡ next_number (shape_of_image image) (virtual_bytes image)
  next_number_is v journal meta =
      (λ i. begun (journal i) (length (meta i).frozen.addresses) + 1)
      ∙ ap (λ n. n + 1) (restored_begun w.journal w.meta walked.restored)
      ∙ walked.number tells
      ∙ next_same (g.shape d) (bytes_of (g.map d)) (map_bytes (g.shape d) (g.map d)) (sym (journal-bytes (g.shape d) (g.map d) wide 1 (omega arith))) (sym (journal-bytes (g.shape d) (g.map d) wide 66 (omega arith)))
      ∙ (λ i. next_number (over.shape i) (bytes_are i))
