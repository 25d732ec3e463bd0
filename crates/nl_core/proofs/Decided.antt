-- A unit by its answer: a commit page that was written, and what its transaction gave up freed; or another unit, or none.
use Rattle.std.proofs.Common.{◌≡◌, ◌≢◌, ℕ, ◌+◌, ◌<◌, ◌≤◌, ◌^◌, List, length, take, drop, Option, Some, None, refl, sym, ap, subst, ◌∙◌, arith}
use Rattle.nl_field.specs.declared.answers.VirtualWrite.{VirtualWrite}
use Rattle.nl_field.specs.declared.answers.VirtualWrite.TheVariants as write
use Rattle.nl_field.specs.declared.pointer.Pointer.{Pointer}
use Rattle.nl_flight.specs.Flight.{carried}
use Rattle.nl_iface.specs.Answers.{LosesStamp}
use Rattle.nl_iface.specs.Calls.{KeepsMedium, StoresPages}
use Rattle.nl_iface.specs.Device.{IsVolumeShape}
use Rattle.nl_iface.specs.Moves.{IsHandledBy}
use Rattle.nl_iface.specs.Names.{Has, Names}
use Rattle.nl_iface.specs.declared.Callback.{Callback}
use Rattle.nl_iface.specs.declared.counts.Counts.{Ghosts}
use Rattle.nl_journal.specs.Progress.{Progress, next_after}
use Rattle.nl_journal.specs.declared.answers.Phase.TheVariants.{Commit}
use Rattle.nl_journal_commit.specs.Freeing.{FreesEach}
use Rattle.nl_journal_commit.specs.Stepping.{TakesUnit, TellsCommitPage}
use Rattle.nl_spec_commits.specs.Held.{IsHeldVolume}
use Rattle.nl_spec_commits.specs.SettlingLaws.{JournalIsObservable}
use Rattle.nl_spec_commits.proofs.Holding.{decided_keeps_held}
use Rattle.nl_core.specs.Calls.{FailureIsCounted}
use Rattle.nl_core.specs.Core.{IsCore, names_of}
use Rattle.nl_core.specs.Goes.{PreservesVolume}
use Rattle.nl_core.specs.Units.{AcknowledgesUpTo, DecidesCommit, DoesUnit, FinishesCommitPage, FinishesNone, units_for}
use Rattle.nl_core.specs.Writing.{Settles}
use Rattle.nl_core.specs.declared.state.Core.{Core}
use Rattle.nl_core.proofs.Settled.{fewer, first_fewer, kept, live_then, settled_core, settled_goes}
use Rattle.nl_core.proofs.Taken.{WritesUnit, decided_core, decided_goes, decided_less, done_core, done_goes, done_less, number_raised, unit_decided, unit_done}

-- where a unit was lost, another number was found, and the medium does not tell its contents
lost_by : (tells : Type 0) (stamps : ℕ → Option ℕ) (answer : VirtualWrite) → LosesStamp tells stamps answer → (w f : ℕ) → answer ≡ write.Lost w f → (f ≢ w) × (tells → ⊥)
lost_by tells stamps answer lost w f is = let k = subst (λ (a : VirtualWrite). LosesStamp tells stamps a) is lost in (k.1, k.2)

not_fault : (answer : VirtualWrite) → answer ≡ write.Done → answer ≡ write.Fault → ⊥
not_fault answer done fault = let same : write.Done ≡ write.Fault = sym done ∙ fault in cc

-- a unit that tells no commit page finished none
pub no_commit_page : (done : Type 0) (p : Progress) (d : Option ℕ) → ((n : ℕ) → d ≡ Some n → ⊥) → TellsCommitPage done p d → done → p.phase ≢ Commit
no_commit_page done p None off tells = tells
no_commit_page done p (Some n) off tells = absurd (off n refl)

module _ {D : Type 0} (g : Ghosts D) (v w : Core D) (answer : VirtualWrite) (b : WritesUnit g v w answer) (core : IsCore g v) (volume : IsVolumeShape (g.shape v.device)) (stores_w : g.tells → StoresPages g w.device) (runs : v.stopped ≡ 0)
    (some : 1 ≤ length v.meta.frozen.addresses) (formed_w : g.formed w.device) where
  -- ---- no commit page

  module _ (off : answer ≡ write.Done → v.journal.phase ≢ Commit) where
    pub other_core : IsCore g w
    other_core = subst (λ (x : Core D). IsCore g x) (sym b.others) (done_core g v w answer b core volume stores_w runs some formed_w off)

    pub other_goes : PreservesVolume g 1 v w
    other_goes = subst (λ (x : Core D). PreservesVolume g 1 v x) (sym b.others) (done_goes g v w answer b core volume stores_w runs some formed_w off)

    pub other_does : DoesUnit g v w answer
    other_does = record {
      less = λ done goal few more. subst (λ (x : Core D). units_for x goal < units_for v goal) (sym b.others) (done_less g v w answer b core volume stores_w runs some formed_w done (off done) goal more);
      decides = λ done is. absurd (off done is);
      others = λ none. record {
        committed = ap (λ (x : Core D). x.committed) b.others;
        moment = ap (λ (x : Core D). x.moment) b.others;
        freeing = ap (λ (x : Core D). x.freeing) b.others;
        pending = b.passes.named.tables.pending;
      };
      lost = lost_by g.tells (g.stamps w.device) answer b.lost;
      same_flight = ap (λ (x : Core D). x.flight) b.others;
      same_nodes = ap (λ (x : Core D). x.nodes) b.others;
    }

  pub unit_cause : FailureIsCounted g (answer ≡ write.Fault) v w
  unit_cause = b.faults.cause

  -- ---- the commit page

  module _ (u : Core D) (number : ℕ) (d : DecidesCommit g number w u) (done : answer ≡ write.Done) (is : v.journal.phase ≡ Commit) (number_is : number ≡ next_after v.journal.number) where
    abbrev mid : Core D
    mid = unit_decided g v w answer b core volume stores_w runs some formed_w

    mid_core : IsCore g (unit_decided g v w answer b core volume stores_w runs some formed_w)
    mid_core = decided_core g v w answer b core volume stores_w runs some formed_w done is

    volume_w : IsVolumeShape (g.shape w.device)
    volume_w = subst IsVolumeShape (sym b.passes.named.same_shape) volume

    settles : Settles g v.leaving number (unit_decided g v w answer b core volume stores_w runs some formed_w) u
    settles =
        let s = d.settled in
        record {
          between = s.between;
          frees = subst (λ (x : Core D). FreesEach (take x.leaving x.freeing.items) (g.names w.device) (g.names s.between)) b.others s.frees;
          first_kept = s.first_kept;
          acknowledges = s.acknowledges;
          then_kept = s.then_kept;
          read_faults = s.read_faults;
          items = s.items ∙ ap (λ (x : Core D). drop x.leaving x.freeing.items) b.others;
          room = s.room ∙ ap (λ (x : Core D). x.freeing.room + length (take x.leaving x.freeing.items)) b.others;
          others = s.others ∙ ap (λ (x : Core D). record x { device = u.device; freeing = u.freeing; leaving = 0; committed = x.frozen; moment = g.clock w.device }) b.others;
        }

    takes : TakesUnit g (answer ≡ write.Done) v.device v.journal v.meta w.device w.journal w.meta
    takes = record { same_shape = b.passes.named.same_shape; tables = b.passes.named.tables; stands = b.stands; goes = b.goes; writes = b.writes }

    may : JournalIsObservable g w.journal w.meta → number ≤ w.journal.number
    may told = let raised_is = number_raised g v w answer b core volume stores_w runs some formed_w done is in omega (arith, number_is, raised_is)

    held_m : IsHeldVolume g settles.between w.journal w.meta (carried v.flight) (drop v.leaving v.freeing.items) 0
    held_m = decided_keeps_held g answer v.device w.device settles.between v.journal w.journal v.meta w.meta (carried v.flight) v.freeing.items _ volume core.journaled core.held some takes done is volume_w b.stands.journaled d.table.differ
        settles.first_kept settles.frees

    module _ (stores_u : g.tells → StoresPages g u.device) where
      pub decides_core : g.formed u.device → IsCore g u
      decides_core formed = settled_core g mid u v.leaving number mid_core volume_w settles d.table stores_u may held_m formed

      pub decides_goes : PreservesVolume g 1 v u
      decides_goes = settled_goes g mid u v.leaving number mid_core volume_w settles d.table stores_u may held_m v 1 (decided_goes g v w answer b core volume stores_w runs some formed_w done is)

      acknowledged : AcknowledgesUpTo (next_after v.journal.number) (names_of g v) (names_of g u)
      acknowledged =
          let t = b.passes.named.tables in
          let first = first_fewer g mid u v.leaving number mid_core volume_w settles d.table stores_u may held_m in
          let all = fewer g mid u v.leaving number mid_core volume_w settles d.table stores_u may held_m in
          record {
            gone = λ c has.
                let only = settles.acknowledges.only c has in
                let one = first.pending c only.0 in (
                  subst (λ (cs : List Callback). Has cs c) t.pending one.0,
                  λ handled. only.1 (handled.0, one.1 ∙ t.handled c.number ∙ handled.1, let low = handled.2 in omega (arith, low, number_is)),
                );
            handled = λ c has. (all.pending c has).1 ∙ t.handled c.number;
            posted = all.posted ∙ t.posted;
          }

      finishes : FinishesCommitPage g v u
      finishes =
          let keeps : KeepsMedium g w.device u.device = kept g mid u v.leaving number mid_core volume_w settles d.table stores_u may held_m in
          record {
            was_due = is;
            committed = ap (λ (x : Core D). x.committed) settles.others;
            moment = ap (λ (x : Core D). x.moment) settles.others ∙ sym keeps.clock;
            freed = settles.items;
            live = live_then g mid u v.leaving number mid_core volume_w settles d.table stores_u may held_m ∙ b.passes.named.space.pages.1;
            acknowledged = acknowledged;
          }

      pub decides_does : DoesUnit g v u answer
      decides_does = record {
        less = λ over goal few more. subst (λ (x : Core D). units_for x goal < units_for v goal) (sym settles.others) (decided_less g v w answer b core volume stores_w runs some formed_w done goal more);
        decides = λ over due. finishes;
        others = λ none. absurd (none done is);
        lost = λ x y lost. absurd (let same : write.Done ≡ write.Lost x y = sym done ∙ lost in let no : ⊥ = cc in no);
        same_flight = ap (λ (x : Core D). x.flight) settles.others;
        same_nodes = ap (λ (x : Core D). x.nodes) settles.others;
      }

      pub decides_cause : FailureIsCounted g (answer ≡ write.Fault) v u
      decides_cause fault = absurd (not_fault answer done fault)
