-- Between two calls of the journal.
use Rattle.std.proofs.Common.{length, sym, ap, subst}
use Rattle.nl_iface.specs.declared.counts.Counts.{Ghosts}
use Rattle.nl_journal.specs.Laws.{StaysInOrder, StoredPages}
use Rattle.nl_journal.specs.Outcomes.{Agrees, May, bytes_of}
use Rattle.nl_journal.specs.Committing.{committed_now}
use Rattle.nl_journal.specs.Progress.{HasNumber, number_in}
use Rattle.nl_journal.specs.Standing.{JournalMatchesMap, JournalInPhase}
use Rattle.nl_journal.proofs.Addresses.{addresses_of}
use Rattle.nl_journal.proofs.Moving.{certain_commits, either_commits, keeps_still}
use Rattle.nl_journal.proofs.Writes.{within_shown}
use Rattle.nl_journal.specs.Transaction.{IsTransaction}

module _ {D : Type 0} (g : Ghosts D) where
  pub stored_pages_are : StoredPages g
  stored_pages_are s p frozen volume order t numbers c shows = (
    either_commits p.phase (g.shape s) (May (g.map s) (g.failed s)) (bytes_of (g.map s)) (committed_now (g.shape s) (g.map s)) (number_in p.phase p.number) frozen
        order.phase order.pages (addresses_of (g.shape s) volume) (order.keeps t numbers) (bytes_of c.virtual) (within_shown c shows),
    (λ none. certain_commits p.phase (g.shape s) (g.map s) (g.failed s) (number_in p.phase p.number) frozen order.phase order.pages (addresses_of (g.shape s) volume) none (order.keeps t numbers) (bytes_of c.virtual) (within_shown c shows)),
  )

  pub stays : StaysInOrder g
  stays s t p frozen volume order kept = (
    record {
      phase = order.phase;
      pages = λ some. subst (λ n. IsTransaction n frozen) (ap (λ h. h.vaddrs) (sym kept.same_shape)) (order.pages some);
      keeps = λ tells numbers. subst (λ h. JournalInPhase p.phase h (May (g.map t) (g.failed t)) (bytes_of (g.map t)) (committed_now h (g.map t)) (number_in p.phase p.number) frozen) (sym kept.same_shape) (still tells numbers).0;
    },
    (λ tells numbers. subst (λ h. Agrees (g.shape s).vaddrs (committed_now h (g.map t)) (committed_now (g.shape s) (g.map s))) (sym kept.same_shape) (still tells numbers).1),
  )
    where
      still : g.tells → HasNumber p (length frozen.addresses) → JournalMatchesMap (g.shape s) (g.map t) (g.failed t) p frozen × Agrees (g.shape s).vaddrs (committed_now (g.shape s) (g.map t)) (committed_now (g.shape s) (g.map s))
      still tells numbers = keeps_still (g.shape s) (g.map s) (g.map t) (g.failed s) (g.failed t) p frozen order.phase order.pages (addresses_of (g.shape s) volume) (kept.same_map tells) (kept.no_failed tells) (order.keeps tells numbers)
