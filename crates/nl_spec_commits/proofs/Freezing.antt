-- The dirty pages are frozen, or the super page changes, and what was kept is kept.
use Rattle.std.proofs.Common.{◌≡◌, inl, ℕ, ◌+◌, ◌<◌, length, refl, sym, ap, subst, ◌∙◌, arith}
use Rattle.nl_field.specs.Virtual.{or_zeros}
use Rattle.nl_iface.specs.Device.{IsVolumeShape}
use Rattle.nl_iface.specs.declared.counts.Counts.{Ghosts}
use Rattle.nl_spec_holders.specs.Holding.{Holding}
use Rattle.nl_spec_holders.proofs.LawProofs.{freeze_keeps}
use Rattle.nl_journal.specs.Committing.{committed_on, finished, finished_on}
use Rattle.nl_journal.specs.Outcomes.{Agrees, IsHome}
use Rattle.nl_journal.specs.Progress.{HasNumber, Progress, begun, raised, units_left}
use Rattle.nl_journal.specs.declared.answers.Phase.{Phase}
use Rattle.nl_journal.proofs.CommitSteps.{begun_header}
use Rattle.nl_journal.proofs.Finishing.{header_units, with_same}
use Rattle.nl_meta.specs.Pages.{Frozen, IsPages, Pages, dirty_pages}
use Rattle.nl_meta.specs.Steps.{with_dirty}
use Rattle.nl_meta_running.specs.Running.{running_on}
use Rattle.nl_meta_running.proofs.Holds.{bounds-of}
use Rattle.nl_journal_commit.specs.Completing.{AwaitsCommitPage}
use Rattle.nl_journal_commit.specs.Counting.{with_frozen}
use Rattle.nl_journal_commit.specs.Standing.{CanFreeze, IsJournaled, PreservesGraph}
use Rattle.nl_journal_commit.proofs.CompletingSteps.{closed_number, closed_pages}
use Rattle.nl_journal_commit.proofs.Standing.{freezing_stands, super_page_stands}
use Rattle.nl_spec_commits.specs.Committed.{AreKept, IsHoldingOn, KeepsJournaled, read_as}
use Rattle.nl_spec_commits.specs.CommittedLaws.{FreezingHolds, PreservesHoldingInFlight, SuperPageHolds}
use Rattle.nl_spec_commits.proofs.Ahead.{ahead_is_running}
use Rattle.nl_spec_commits.proofs.Kept.{from_plain, plain_of, running_kept, tagged_same}

-- ---- the number of a transaction of the dirty pages

module _ (count : ℕ) (p : Progress) (pages : Pages) (can : CanFreeze count p pages) where
  begun_before : begun p (length pages.frozen.addresses) ≡ p.number
  begun_before = closed_number p pages.frozen (inl (can.header, ap (λ (x : Frozen). x.addresses) can.none))

  begun_now : begun p (length pages.dirty) ≡ raised p.number
  begun_now = begun_header p.phase p.number (length pages.dirty) can.header can.dirty.pages.some

  pub number_before : HasNumber p (length pages.dirty) → HasNumber p (length pages.frozen.addresses)
  number_before numbers = let e = begun_now in let o = begun_before in omega (arith, numbers, e, o)

  one_more : HasNumber p (length pages.dirty) → begun p (length pages.dirty) ≡ begun p (length pages.frozen.addresses) + 1
  one_more numbers = let e = begun_now in let o = begun_before in omega (arith, numbers, e, o)

  -- its commit page is still to be written
  pub freeze_opens : AwaitsCommitPage p (dirty_pages pages)
  freeze_opens = subst (λ (x : Phase). length pages.dirty < units_left x (length pages.dirty)) (sym can.header) (let e = header_units (length pages.dirty) can.dirty.pages.some in omega (arith, e))

-- ---- the dirty pages are frozen

module _ {D : Type 0} (g : Ghosts D) (s : D) (p : Progress) (pages : Pages) (v : Holding) (volume : IsVolumeShape (g.shape s)) (is : IsHoldingOn g s p pages v) (j : IsJournaled g s p pages) (held : IsPages pages)
    (can : CanFreeze (g.shape s).vaddrs p pages) where
  abbrev pub now : Pages
  now = with_frozen pages

  stands : PreservesGraph g s pages s p now
  stands = freezing_stands g s p pages volume j held can

  module _ (tells : g.tells) (numbers : HasNumber p (length pages.frozen.addresses)) where
    -- nothing is frozen before
    none_before : Agrees (g.shape s).vaddrs (committed_on g s) (finished_on g s p pages)
    none_before = closed_pages p.phase pages.frozen (committed_on g s) (g.shape s).vaddrs (inl (can.header, ap (λ (x : Frozen). x.addresses) can.none))

    -- the running pages are those that will be committed
    frozen_reads : (u : ℕ) → IsHome (g.shape s).vaddrs u → read_as (g.shape s) (finished_on g s p now) u ≡ running_on g s pages u
    frozen_reads u home =
        ap (λ (x : Phase). or_zeros (g.shape s) u (finished x (dirty_pages pages) (committed_on g s) u)) can.header
        ∙ ap (or_zeros (g.shape s) u) (with_same (dirty_pages pages) (g.shape s).vaddrs (committed_on g s) (finished_on g s p pages) none_before u home)
        ∙ ahead_is_running g s p pages j held can.dirty tells numbers u home

    frozen_kept : AreKept (g.shape s) (finished_on g s p now) (plain_of v.running)
    frozen_kept = running_kept g s pages v volume j.runs is.runs (finished_on g s p now) frozen_reads

  abbrev pub freezes : Holding
  freezes = record v { frozen = plain_of v.running; number = v.next; leaving = length v.freeing; next = v.next + 1 }

  frozen_told : g.tells → HasNumber p (length pages.dirty) → KeepsJournaled g s p now freezes
  frozen_told tells numbers =
      let k = is.told tells (number_before (g.shape s).vaddrs p pages can numbers) in
      record {
        decided = k.decided;
        number = k.next ∙ sym (one_more (g.shape s).vaddrs p pages can numbers);
        next = ap (λ n. n + 1) (k.next ∙ sym (one_more (g.shape s).vaddrs p pages can numbers));
        committed = k.committed;
        frozen = λ more. frozen_kept tells (number_before (g.shape s).vaddrs p pages can numbers);
        thawed = λ shut. absurd (shut (freeze_opens (g.shape s).vaddrs p pages can));
      }

  pub freezing_holds : (w : Holding) × IsHoldingOn g s p (with_frozen pages) w × PreservesHoldingInFlight v w × (w.leaving ≡ length v.freeing)
  freezing_holds = (
    freezes,
    record { runs = record { names = is.runs.names; running = is.runs.running ∙ sym (tagged_same (g.shape s) (bounds-of (g.shape s) volume) (running_on g s pages) (running_on g s now) stands.needed) }; told = frozen_told },
    record { keeps = freeze_keeps v (plain_of v.running) (v.next + 1) (omega arith) (from_plain v.running); same_flight = refl; same_freeing = refl },
    refl,
  )

pub freezings_hold : {D : Type 0} (g : Ghosts D) → FreezingHolds g
freezings_hold g s p pages v volume is j held can = freezing_holds g s p pages v volume is j held can

-- ---- the super page

pub super_pages_hold : {D : Type 0} (g : Ghosts D) → SuperPageHolds g
super_pages_hold g s p pages bytes v volume j is = record {
  runs = record { names = is.runs.names; running = is.runs.running ∙ sym (tagged_same (g.shape s) (bounds-of (g.shape s) volume) (running_on g s pages) (running_on g s (with_dirty pages 0 bytes)) (super_page_stands g s p pages bytes volume j).needed) };
  told = λ tells numbers.
      let k = is.told tells numbers in
      record { decided = k.decided; number = k.number; next = k.next; committed = k.committed; frozen = k.frozen; thawed = k.thawed };
}
