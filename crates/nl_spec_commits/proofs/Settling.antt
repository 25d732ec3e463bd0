-- Pages that are due are freed, and callbacks acknowledged.
use Rattle.std.proofs.Common.{◌≡◌, ℕ, ◌+◌, ◌≤◌, List, [], length, drop, refl, sym, ap, subst, ◌∙◌, arith}
use Rattle.nl_field.specs.declared.pointer.Pointer.{Pointer}
use Rattle.nl_field.specs.declared.pointer.Tag.{Tag}
use Rattle.nl_field.specs.declared.shape.Shape.{Shape}
use Rattle.nl_iface.specs.Calls.{KeepsVirtual}
use Rattle.nl_iface.specs.Device.{IsVolumeShape}
use Rattle.nl_iface.specs.Holders.{plain, tagged, times}
use Rattle.nl_iface.specs.Moves.{Acknowledges}
use Rattle.nl_iface.specs.Names.{Names}
use Rattle.nl_iface.specs.declared.counts.Counts.{Ghosts}
use Rattle.nl_spec_holders.specs.Holding.{Holding}
use Rattle.nl_spec_holders.specs.Laws.{PreservesHolding, OldNamesDiffer}
use Rattle.nl_spec_holders.proofs.LawProofs.{acknowledge_keeps}
use Rattle.nl_spec_holders.proofs.Lists.{times_drop}
use Rattle.nl_journal.specs.Committing.{committed_on, finished, finished_on}
use Rattle.nl_journal.specs.Outcomes.{Agrees}
use Rattle.nl_journal.specs.Progress.{HasNumber, Progress, begun}
use Rattle.nl_journal.proofs.Finishing.{finished_same}
use Rattle.nl_journal.proofs.InOrders.{stays}
use Rattle.nl_meta.specs.Committed.{VirtualMap}
use Rattle.nl_meta.specs.Pages.{Frozen, Pages}
use Rattle.nl_meta.specs.PointerLists.{tagged_in}
use Rattle.nl_meta_running.specs.Running.{running_on}
use Rattle.nl_meta_running.proofs.Holds.{bounds-of}
use Rattle.nl_journal_commit.specs.Completing.{AwaitsCommitPage}
use Rattle.nl_journal_commit.specs.Freeing.{FreesEach}
use Rattle.nl_journal_commit.specs.Standing.{IsJournaled}
use Rattle.nl_journal_commit.proofs.Frees.{freeing_keeps}
use Rattle.nl_journal_commit.proofs.Standing.{addresses_stand}
use Rattle.nl_spec_commits.specs.Committed.{AreKept, IsHoldingOn}
use Rattle.nl_spec_commits.specs.SettlingLaws.{AcknowledgesHold, AddressesHold, FreesHold, MetadataHolds, NoneDue}
use Rattle.nl_spec_commits.proofs.Kept.{kept_alike, tagged_same}

-- ---- the addresses stay

module _ {D : Type 0} (g : Ghosts D) (s t : D) (p : Progress) (pages : Pages) (v : Holding) (volume : IsVolumeShape (g.shape s)) (j : IsJournaled g s p pages) (k : KeepsVirtual g s t) (is : IsHoldingOn g s p pages v) where
  on_now : (a b : VirtualMap) (kept : List Pointer) → Agrees (g.shape s).vaddrs a b → AreKept (g.shape s) b kept → AreKept (g.shape t) a kept
  on_now a b kept alike are = subst (λ (h : Shape). AreKept h a kept) (sym k.same_shape) (kept_alike (g.shape s) (bounds-of (g.shape s) volume) b a kept alike are)

  committed_same : g.tells → HasNumber p (length pages.frozen.addresses) → Agrees (g.shape s).vaddrs (committed_on g t) (committed_on g s)
  committed_same = (stays g s t p pages.frozen volume j.order k).1

  pub running_same : tagged_in (g.shape t) (running_on g t pages) ≡ tagged_in (g.shape s) (running_on g s pages)
  running_same =
      ap (λ (h : Shape). tagged_in h (running_on g t pages)) k.same_shape
      ∙ tagged_same (g.shape s) (bounds-of (g.shape s) volume) (running_on g s pages) (running_on g t pages) (addresses_stand g s t p pages volume j k).needed

  pub hold_on : (flight : List (Tag × Pointer)) (freeing : List Pointer) (due : ℕ) → IsHoldingOn g t p pages (record v { names = g.names t; flight = flight; freeing = freeing; due = due })
  hold_on flight freeing due = record {
    runs = record { names = refl; running = is.runs.running ∙ sym running_same };
    told = λ tells numbers.
        let q = is.told tells numbers in
        record {
          decided = q.decided;
          number = q.number;
          next = q.next;
          committed = on_now (committed_on g t) (committed_on g s) v.committed (committed_same tells numbers) q.committed;
          frozen = λ more. on_now (finished_on g t p pages) (finished_on g s p pages) v.frozen
              (finished_same p.phase pages.frozen (g.shape s).vaddrs (committed_on g t) (committed_on g s) (committed_same tells numbers)) (q.frozen more);
          thawed = q.thawed;
        };
  }

pub addresses_hold : {D : Type 0} (g : Ghosts D) → AddressesHold g
addresses_hold g s t p pages v flight freeing due volume j k is = hold_on g s t p pages v volume j k is flight freeing due

-- ---- the metadata changes

pub metadata_holds : {D : Type 0} (g : Ghosts D) → MetadataHolds g
metadata_holds g s p pages now v flight freeing same is = record {
  runs = record { names = is.runs.names; running = refl };
  told = λ tells numbers.
      let q = is.told tells (subst (λ (x : Frozen). HasNumber p (length x.addresses)) same numbers) in
      record {
        decided = q.decided;
        number = q.number ∙ ap (λ (x : Frozen). begun p (length x.addresses)) (sym same);
        next = q.next ∙ ap (λ (x : Frozen). begun p (length x.addresses) + 1) (sym same);
        committed = q.committed;
        frozen = λ more. subst (λ (x : Frozen). AreKept (g.shape s) (finished p.phase x (committed_on g s)) v.frozen) (sym same) (q.frozen (subst (λ (x : Frozen). AwaitsCommitPage p x) same more));
        thawed = λ shut. q.thawed (λ more. shut (subst (λ (x : Frozen). AwaitsCommitPage p x) (sym same) more));
      };
}

-- ---- who holds pages

pub frees_hold : {D : Type 0} (g : Ghosts D) → FreesHold g
frees_hold g s t p pages v front rest is shut differ first due frees = record {
  holds = λ h. let w = settled.holds (record { table = h.table; held = h.held }) in record { table = w.table; held = w.held };
  committed = λ told h c.
      let q = (is.told told.0 told.1).thawed shut in
      let k : PreservesHolding v (record v { names = g.names t; freeing = rest; due = 0 }) =
      freeing_keeps v front rest (g.names t) (record { first = first; due = due; thawed = q.0; none_leaves = q.1; differ = subst OldNamesDiffer (sym is.runs.names) differ }) frees_now in
      k.committed h c;
}
  where
    frees_now : FreesEach front v.names (g.names t)
    frees_now = subst (λ (n : Names). FreesEach front n (g.names t)) (sym is.runs.names) frees

    -- who holds pages does not depend on what is frozen
    settled : PreservesHolding (record v { frozen = []; leaving = 0 }) (record v { names = g.names t; frozen = []; leaving = 0; freeing = rest; due = 0 })
    settled = freeing_keeps (record v { frozen = []; leaving = 0 }) front rest (g.names t)
        (record { first = first; due = due; thawed = refl; none_leaves = refl; differ = subst OldNamesDiffer (sym is.runs.names) differ }) frees_now

pub acknowledges_hold : {D : Type 0} (g : Ghosts D) → AcknowledgesHold g
acknowledges_hold g s t p pages v upto is counts acks = record {
  holds = λ h. let w = any.holds (record { table = h.table; held = h.held }) in record { table = w.table; held = w.held };
  committed = λ told h c.
      let q = (is.told told.0 told.1).decided in
      let below = counts told in
      let k : PreservesHolding v (record v { names = g.names t }) = acknowledge_keeps v (g.names t) upto (omega (arith, q, below)) acks_now in
      k.committed h c;
}
  where
    acks_now : Acknowledges upto v.names (g.names t)
    acks_now = subst (λ (n : Names). Acknowledges upto n (g.names t)) (sym is.runs.names) acks

    -- nor on which transaction counts
    any : PreservesHolding (record v { decided = upto }) (record v { names = g.names t; decided = upto })
    any = acknowledge_keeps (record v { decided = upto }) (g.names t) upto (omega arith) acks_now

-- ---- no page is due

fewer : (r n m : ℕ) → 1 ≤ r + n → n ≤ m → 1 ≤ r + m
fewer r n m some le = omega (arith, some, le)

-- no page is due: those that the frozen transaction gives up stay
pub none_due_now : (v : Holding) → PreservesHolding v (record v { due = 0 })
none_due_now v = record {
  holds = λ h. record { table = h.table; held = h.held };
  committed = λ h k. record {
    committed = k.committed;
    committed_kept = λ p has. fewer (times tagged p.stamp v.running) (times plain p.stamp (drop v.due v.freeing)) (times plain p.stamp v.freeing) (k.committed_kept p has) (times_drop plain p.stamp v.due v.freeing);
    frozen = k.frozen;
    frozen_kept = k.frozen_kept;
    decided_first = k.decided_first;
    next_later = k.next_later;
    leaving_awaits = k.leaving_awaits;
    due_awaits = omega arith;
  };
}

pub none_due : NoneDue
none_due v = record {
  holds = λ h. record { table = h.table; held = h.held };
  committed = λ h k. record {
    committed = k.committed;
    committed_kept = λ p has. fewer (times tagged p.stamp v.running) (times plain p.stamp (drop v.due v.freeing)) (times plain p.stamp v.freeing) (k.committed_kept p has) (times_drop plain p.stamp v.due v.freeing);
    frozen = k.frozen;
    frozen_kept = λ p has. fewer (times tagged p.stamp v.running) (times plain p.stamp (drop v.leaving v.freeing)) (times plain p.stamp v.freeing) (k.frozen_kept p has) (times_drop plain p.stamp v.leaving v.freeing);
    decided_first = k.decided_first;
    next_later = k.next_later;
    leaving_awaits = omega arith;
    due_awaits = omega arith;
  };
}
