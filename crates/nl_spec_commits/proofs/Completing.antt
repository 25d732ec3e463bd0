-- A frozen transaction is completed, at once or by one unit, and what was kept is kept.
use Rattle.std.proofs.Common.{◌≡◌, ◌⊎◌, inl, inr, ⊎_elim, ℕ, ◌+◌, ◌<◌, ◌≤◌, ◌==◌, nat_lt, Bool, true, false, cond, List, [], length, refl, sym, ap, subst, ◌∙◌, arith}
use Rattle.std.proofs.lemmas.Bool.{cases_lt, cond-false, ne_eqb}
use Rattle.nl_field.specs.declared.answers.VirtualWrite.{VirtualWrite}
use Rattle.nl_field.specs.declared.answers.VirtualWrite.TheVariants as write
use Rattle.nl_field.specs.declared.pointer.Pointer.{Pointer}
use Rattle.nl_field.specs.declared.shape.Shape.{Shape}
use Rattle.nl_iface.specs.Device.{IsVolumeShape}
use Rattle.nl_iface.specs.Names.{SameTables}
use Rattle.nl_iface.specs.declared.counts.Counts.{Ghosts}
use Rattle.nl_spec_holders.specs.Holding.{Holding}
use Rattle.nl_spec_holders.specs.Laws.{PreservesHolding}
use Rattle.nl_spec_holders.proofs.LawProofs.{decide_keeps}
use Rattle.nl_journal.specs.Committing.{committed_on, finished, finished_on}
use Rattle.nl_journal.specs.Outcomes.{Agrees}
use Rattle.nl_journal.specs.Progress.{HasNumber, IsPhase, Progress, begun, begun_in, next_number_in, next_phase, raised, units_left}
use Rattle.nl_journal.specs.Units.{frozen_after}
use Rattle.nl_journal.specs.declared.answers.Phase.{Phase}
use Rattle.nl_journal.specs.declared.answers.Phase.TheVariants.{Header, Image, Commit, Home}
use Rattle.nl_journal.proofs.Finishing.{agrees_then, finished_next, finished_same}
use Rattle.nl_journal.proofs.FinishSteps.{after_one, begun_step, units_step}
use Rattle.nl_meta.specs.Committed.{VirtualMap}
use Rattle.nl_meta.specs.Pages.{Frozen, Pages}
use Rattle.nl_meta_running.proofs.Holds.{bounds-of}
use Rattle.nl_journal_commit.specs.Completing.{Completes, AwaitsCommitPage}
use Rattle.nl_journal_commit.specs.Holding.{running_holders}
use Rattle.nl_journal_commit.specs.Standing.{IsJournaled, PreservesGraph}
use Rattle.nl_journal_commit.specs.Stepping.{TakesUnit}
use Rattle.nl_journal_commit.proofs.CompletingSteps.{IsClosed, closed_by, closed_number, closed_pages}
use Rattle.nl_journal_commit.proofs.HoldingOn.{holders_stand}
use Rattle.nl_spec_commits.specs.Committed.{AreKept, IsHoldingOn, KeepsJournaled}
use Rattle.nl_spec_commits.specs.CommittedLaws.{CompletingHolds, GivesUpThen, IsShutNow, PreservesHoldingInFlight, UnitHolds}
use Rattle.nl_spec_commits.proofs.Kept.{keeps_then, kept_alike}

-- a transaction whose commit page is to be written has the number behind the last one
begun_open : (phase : Phase) (number pages : ℕ) → pages < units_left phase pages → begun_in phase number pages ≡ raised number
begun_open Header number pages more = cond-false (pages == 0) number (raised number) (ne_eqb pages 0 (λ e. none (subst (λ n. n < units_left Header n) e more)))
  where
    none : 0 < 0 → ⊥
    none lt = omega (arith, lt)
begun_open (Image i) number pages more = refl
begun_open Commit number pages more = refl
begun_open (Home i) number pages more = absurd (let no : ⊥ = omega (arith, more) in no)

pub open_number : (p : Progress) (pages : ℕ) → pages < units_left p.phase pages → HasNumber p pages → begun p pages ≡ p.number + 1
open_number p pages more numbers = let e = begun_open p.phase p.number pages more in omega (arith, e, numbers)

-- what the completing of a transaction, and each unit of it, say of the committed pages
pub record MovesOn {D : Type 0} (g : Ghosts D) (s : D) (p : Progress) (pages : Pages) (t : D) (q : Progress) (now : Pages) : Type 0 where
  pub same_shape : g.shape t ≡ g.shape s
  pub tables : SameTables (g.names s) (g.names t)
  pub stands : PreservesGraph g s pages t q now
  pub begun_stays : begun q (length now.frozen.addresses) ≡ begun p (length pages.frozen.addresses)
  pub decided : g.tells → HasNumber p (length pages.frozen.addresses) → ((q.number ≡ p.number) × Agrees (g.shape s).vaddrs (committed_on g t) (committed_on g s))
      ⊎ ((q.number ≡ begun p (length pages.frozen.addresses)) × Agrees (g.shape s).vaddrs (committed_on g t) (finished_on g s p pages))
  pub same_finished : g.tells → HasNumber p (length pages.frozen.addresses) → Agrees (g.shape s).vaddrs (finished_on g t q now) (finished_on g s p pages)

module _ {D : Type 0} (g : Ghosts D) (s t : D) (p q : Progress) (pages now : Pages) (v : Holding) (volume : IsVolumeShape (g.shape s)) (is : IsHoldingOn g s p pages v) (j : IsJournaled g s p pages)
    (c : MovesOn g s p pages t q now) where
  abbrev pub old_count : ℕ
  old_count = length pages.frozen.addresses

  abbrev pub new_count : ℕ
  new_count = length now.frozen.addresses

  -- what agrees is kept on the device as it is now
  as_new : (a b : VirtualMap) (kept : List Pointer) → Agrees (g.shape s).vaddrs a b → AreKept (g.shape s) b kept → AreKept (g.shape t) a kept
  as_new a b kept alike k = subst (λ (h : Shape). AreKept h a kept) (sym c.same_shape) (kept_alike (g.shape s) (bounds-of (g.shape s) volume) b a kept alike k)

  -- the commit page is not written now
  abbrev pub waits : Holding
  waits = record v { names = g.names t; running = running_holders g t now }

  waits_keeps : PreservesHolding v waits
  waits_keeps = holders_stand g s t q pages now v is.runs c.same_shape c.tables c.stands

  -- or it is
  abbrev pub decides : Holding
  decides = record waits { committed = v.frozen; decided = v.number; due = v.leaving; frozen = []; leaving = 0 }

  before : HasNumber q new_count → HasNumber p old_count
  before numbers = subst (λ n. n < 9223372036854775808) c.begun_stays numbers

  old_closed : units_left p.phase old_count ≤ old_count → IsClosed p.phase pages.frozen
  old_closed few = closed_by p.phase pages.frozen j.order.phase few

  new_closed : units_left q.phase new_count ≤ new_count → IsClosed q.phase now.frozen
  new_closed few = closed_by q.phase now.frozen c.stands.journaled.order.phase few

  new_number : units_left q.phase new_count ≤ new_count → q.number ≡ begun p old_count
  new_number few = sym (closed_number q now.frozen (new_closed few)) ∙ c.begun_stays

  not_open : units_left q.phase new_count ≤ new_count → AwaitsCommitPage q now.frozen → ⊥
  not_open few more = omega (arith, few, more)

  -- ---- the commit page is written

  decided_told : AwaitsCommitPage p pages.frozen → units_left q.phase new_count ≤ new_count → g.tells → HasNumber q new_count → KeepsJournaled g t q now decides
  decided_told was few tells numbers =
      let k = is.told tells (before numbers) in
      let one_more = open_number p old_count was (before numbers) in
      let same = new_number few in
      record {
        decided = k.number ∙ sym same;
        number = k.number ∙ sym c.begun_stays;
        next = k.next ∙ ap (λ n. n + 1) (sym c.begun_stays);
        committed = as_new (committed_on g t) (finished_on g s p pages) v.frozen (⊎_elim (λ x. absurd (let e = x.0 in let no : ⊥ = omega (arith, e, same, one_more) in no)) (λ x. x.1) (c.decided tells (before numbers))) (k.frozen was);
        frozen = λ more. absurd (not_open few more);
        thawed = λ shut. (refl, refl);
      }

  -- ---- it is still to be written

  open_told : AwaitsCommitPage q now.frozen → g.tells → HasNumber q new_count → KeepsJournaled g t q now waits
  open_told more tells numbers = record {
    decided = k.decided ∙ sym same;
    number = k.number ∙ sym c.begun_stays;
    next = k.next ∙ ap (λ n. n + 1) (sym c.begun_stays);
    committed = as_new (committed_on g t) (committed_on g s) v.committed (⊎_elim (λ x. x.1) (λ x. absurd (let e = x.0 in let no : ⊥ = omega (arith, e, ahead, stays) in no)) (c.decided tells (before numbers))) k.committed;
    frozen = λ m. as_new (finished_on g t q now) (finished_on g s p pages) v.frozen (c.same_finished tells (before numbers)) (k.frozen was);
    thawed = λ shut. absurd (shut more);
  }
    where
      k : KeepsJournaled g s p pages v
      k = is.told tells (before numbers)

      stays : begun q new_count ≡ begun p old_count
      stays = c.begun_stays

      ahead : begun q new_count ≡ q.number + 1
      ahead = open_number q new_count more numbers

      same : q.number ≡ p.number
      same = ⊎_elim (λ x. x.0) (λ x. absurd (let e = x.0 in let no : ⊥ = omega (arith, e, ahead, stays) in no)) (c.decided tells (before numbers))

      was : AwaitsCommitPage p pages.frozen
      was = ⊎_elim (λ m. m) (λ few. absurd (let e = closed_number p pages.frozen (old_closed few) in let no : ⊥ = omega (arith, e, ahead, stays, same) in no)) (cases_lt old_count (units_left p.phase old_count))

  -- ---- nothing was to be written

  closed_told : units_left p.phase old_count ≤ old_count → units_left q.phase new_count ≤ new_count → g.tells → HasNumber q new_count → KeepsJournaled g t q now waits
  closed_told shut few tells numbers =
      let k = is.told tells (before numbers) in
      let closed = old_closed shut in
      record {
        decided = k.decided ∙ sym (closed_number p pages.frozen closed) ∙ sym (new_number few);
        number = k.number ∙ sym c.begun_stays;
        next = k.next ∙ ap (λ n. n + 1) (sym c.begun_stays);
        committed = as_new (committed_on g t) (committed_on g s) v.committed
            (⊎_elim (λ x. x.1)
            (λ x. agrees_then (g.shape s).vaddrs (committed_on g t) (finished_on g s p pages) (committed_on g s) x.1 (λ u home. sym (closed_pages p.phase pages.frozen (committed_on g s) (g.shape s).vaddrs closed u home)))
            (c.decided tells (before numbers))) k.committed;
        frozen = λ more. absurd (not_open few more);
        thawed = λ o. k.thawed (λ m. let no : ⊥ = omega (arith, m, shut) in no);
      }

  runs_now : (w : Holding) → w.names ≡ g.names t → w.running ≡ running_holders g t now → (g.tells → HasNumber q new_count → KeepsJournaled g t q now w) → IsHoldingOn g t q now w
  runs_now w names running told = record { runs = record { names = names; running = running }; told = told }

  pub moving_holds : (w : Holding) × IsHoldingOn g t q now w × PreservesHoldingInFlight v w × GivesUpThen (IsShutNow p q pages.frozen now.frozen) v w
  moving_holds = ⊎_elim
      (λ more. (
        waits,
        runs_now waits refl refl (open_told more),
        record { keeps = waits_keeps; same_flight = refl; same_freeing = refl },
        record { due = λ shut. absurd (shut.1 more); none = λ shut. absurd (shut.1 more); same = λ off. (refl, refl) },
      ))
      (λ few. ⊎_elim
      (λ was. (
        decides,
        runs_now decides refl refl (decided_told was few),
        record { keeps = keeps_then waits_keeps (decide_keeps waits); same_flight = refl; same_freeing = refl },
        record { due = λ shut. refl; none = λ shut. refl; same = λ off. absurd (off (was, not_open few)) },
      ))
      (λ shut. (
        waits,
        runs_now waits refl refl (closed_told shut few),
        record { keeps = waits_keeps; same_flight = refl; same_freeing = refl },
        record {
          due = λ now_shut. absurd (let was = now_shut.0 in let no : ⊥ = omega (arith, was, shut) in no);
          none = λ now_shut. absurd (let was = now_shut.0 in let no : ⊥ = omega (arith, was, shut) in no);
          same = λ off. (refl, refl);
        },
      ))
      (cases_lt old_count (units_left p.phase old_count)))
      (cases_lt new_count (units_left q.phase new_count))

pub completes_moves : {D : Type 0} (g : Ghosts D) (done : Type 0) (s t : D) (p q : Progress) (pages now : Pages) → Completes g done s p pages t q now → MovesOn g s p pages t q now
completes_moves g done s t p q pages now c = record {
  same_shape = c.same_shape;
  tables = c.tables;
  stands = c.stands;
  begun_stays = c.finishes.begun_stays;
  decided = λ tells numbers. (c.writes tells numbers).decided;
  same_finished = λ tells numbers. (c.writes tells numbers).same_finished;
}

pub completing_holds : {D : Type 0} (g : Ghosts D) (answer : VirtualWrite) (s t : D) (p q : Progress) (pages now : Pages) (v : Holding) → IsVolumeShape (g.shape s) → IsHoldingOn g s p pages v → IsJournaled g s p pages
    → Completes g (answer ≡ write.Done) s p pages t q now → (w : Holding) × IsHoldingOn g t q now w × PreservesHoldingInFlight v w × GivesUpThen (IsShutNow p q pages.frozen now.frozen) v w
completing_holds g answer s t p q pages now v volume is j c = moving_holds g s t p q pages now v volume is j (completes_moves g (answer ≡ write.Done) s t p q pages now c)

pub completings_hold : {D : Type 0} (g : Ghosts D) → CompletingHolds g
completings_hold g = completing_holds g

-- ---- one unit

done_or : (answer : VirtualWrite) → (answer ≡ write.Done) ⊎ (answer ≡ write.Done → ⊥)
done_or write.Done = inl refl
done_or (write.Lost w f) = inr (λ e. cc e)
done_or write.Fault = inr (λ e. cc e)

commit_or : (phase : Phase) → (phase ≡ Commit) ⊎ (phase ≡ Commit → ⊥)
commit_or Header = inr (λ e. cc e)
commit_or (Image i) = inr (λ e. cc e)
commit_or Commit = inl refl
commit_or (Home i) = inr (λ e. cc e)

-- the units that are left once one was done that is not the commit page: where it is awaited, it still is
still_open : (phase : Phase) (frozen : Frozen) → IsPhase phase (length frozen.addresses) → (phase ≡ Commit → ⊥) → length frozen.addresses < units_left phase (length frozen.addresses)
    → length (frozen_after phase frozen).addresses < units_left (next_phase phase (length frozen.addresses)) (length (frozen_after phase frozen).addresses)
still_open Header frozen at off more = omega arith
still_open (Image i) frozen at off more = by (nat_lt (i + 1) (length frozen.addresses)) refl
  where
    by : (b : Bool) → nat_lt (i + 1) (length frozen.addresses) ≡ b → length frozen.addresses < units_left (cond b (Image (i + 1)) Commit) (length frozen.addresses)
    by true e = omega (arith, at)
    by false e = omega arith
still_open Commit frozen at off more = absurd (off refl)
still_open (Home i) frozen at off more = absurd (let no : ⊥ = omega (arith, more) in no)

module _ {D : Type 0} (g : Ghosts D) (answer : VirtualWrite) (s t : D) (p q : Progress) (pages now : Pages) (j : IsJournaled g s p pages) (some : 1 ≤ length pages.frozen.addresses) (c : TakesUnit g (answer ≡ write.Done) s p pages t q now) where
  abbrev pub Done : Type 0
  Done = answer ≡ write.Done

  moves_done : Done → MovesOn g s p pages t q now
  moves_done done =
      let k = c.goes.taken done in
      let stays = begun_step p q pages now some k.0 k.1 in
      record {
        same_shape = c.same_shape;
        tables = c.tables;
        stands = c.stands;
        begun_stays = stays;
        decided = λ tells numbers.
            let number : q.number ≡ next_number_in p.phase p.number = ap (λ (x : Progress). x.number) k.0 in
            ⊎_elim (λ x. inl (number ∙ x.0, x.1)) (λ x. inr (number ∙ x.0, x.1))
            (after_one p.phase p.number (g.shape s).vaddrs (length pages.frozen.addresses) pages.frozen (committed_on g t) (committed_on g s) some ((c.writes tells numbers).commits done));
        same_finished = λ tells numbers.
            let next_is : finished_on g t q now ≡ finished (next_phase p.phase (length pages.frozen.addresses)) (frozen_after p.phase pages.frozen) (committed_on g t) =
            ap (λ (x : Progress). finished x.phase now.frozen (committed_on g t)) k.0 ∙ ap (λ (n : Pages). finished (next_phase p.phase (length pages.frozen.addresses)) n.frozen (committed_on g t)) k.1 in
            subst (λ (m : VirtualMap). Agrees (g.shape s).vaddrs m (finished_on g s p pages)) (sym next_is)
            (finished_next p.phase pages.frozen (g.shape s).vaddrs (committed_on g s) (committed_on g t) ((c.writes tells numbers).commits done));
      }

  moves_not : (Done → ⊥) → MovesOn g s p pages t q now
  moves_not off =
      let k = c.goes.waits off in
      record {
        same_shape = c.same_shape;
        tables = c.tables;
        stands = c.stands;
        begun_stays = ap (λ (x : Progress). begun x (length now.frozen.addresses)) k.0 ∙ ap (λ (n : Pages). begun p (length n.frozen.addresses)) k.1;
        decided = λ tells numbers. inl (ap (λ (x : Progress). x.number) k.0, (c.writes tells numbers).remains off);
        same_finished = λ tells numbers.
            let same : finished_on g t q now ≡ finished p.phase pages.frozen (committed_on g t) = ap (λ (x : Progress). finished x.phase now.frozen (committed_on g t)) k.0 ∙ ap (λ (n : Pages). finished p.phase n.frozen (committed_on g t)) k.1 in
            subst (λ (m : VirtualMap). Agrees (g.shape s).vaddrs m (finished_on g s p pages)) (sym same)
            (finished_same p.phase pages.frozen (g.shape s).vaddrs (committed_on g t) (committed_on g s) ((c.writes tells numbers).remains off));
      }

  pub unit_moves : MovesOn g s p pages t q now
  unit_moves = ⊎_elim moves_done moves_not (done_or answer)

  -- the commit page is no longer awaited exactly where it was due and was written
  pub shut_by : Done → p.phase ≡ Commit → IsShutNow p q pages.frozen now.frozen
  shut_by done is =
      let k = c.goes.taken done in
      let before : units_left p.phase (length pages.frozen.addresses) ≡ length pages.frozen.addresses + 1 = ap (λ (x : Phase). units_left x (length pages.frozen.addresses)) is in
      let left = units_step p q pages now j.order.phase some k.0 k.1 in
      let same : length now.frozen.addresses ≡ length pages.frozen.addresses = ap (λ (n : Pages). length n.frozen.addresses) k.1 ∙ ap (λ (x : Phase). length (frozen_after x pages.frozen).addresses) is in
      (omega (arith, before), λ more. let no : ⊥ = omega (arith, before, left, same, more) in no)

  pub unit_opens : (Done × (p.phase ≡ Commit) → ⊥) → AwaitsCommitPage p pages.frozen → AwaitsCommitPage q now.frozen
  unit_opens off was = ⊎_elim
      (λ done.
      let k = c.goes.taken done in
      let next_is = still_open p.phase pages.frozen j.order.phase (λ is. off (done, is)) was in
      let left : units_left q.phase (length now.frozen.addresses) ≡ units_left (next_phase p.phase (length pages.frozen.addresses)) (length (frozen_after p.phase pages.frozen).addresses) =
      ap (λ (x : Progress). units_left x.phase (length now.frozen.addresses)) k.0 ∙ ap (λ (n : Pages). units_left (next_phase p.phase (length pages.frozen.addresses)) (length n.frozen.addresses)) k.1 in
      let many : length now.frozen.addresses ≡ length (frozen_after p.phase pages.frozen).addresses = ap (λ (n : Pages). length n.frozen.addresses) k.1 in
      omega (arith, next_is, left, many))
      (λ undone.
      let k = c.goes.waits undone in
      let left : units_left q.phase (length now.frozen.addresses) ≡ units_left p.phase (length pages.frozen.addresses) = ap (λ (x : Progress). units_left x.phase (length now.frozen.addresses)) k.0 ∙ ap (λ (n : Pages). units_left p.phase (length n.frozen.addresses)) k.1 in
      let many : length now.frozen.addresses ≡ length pages.frozen.addresses = ap (λ (n : Pages). length n.frozen.addresses) k.1 in
      omega (arith, was, left, many))
      (done_or answer)

  pub unit_holds : (v : Holding) → IsVolumeShape (g.shape s) → IsHoldingOn g s p pages v
      → (w : Holding) × IsHoldingOn g t q now w × PreservesHoldingInFlight v w × GivesUpThen (Done × (p.phase ≡ Commit)) v w
  unit_holds v volume is =
      let k = moving_holds g s t p q pages now v volume is j unit_moves in
      (k.0, k.1, k.2, record { due = λ x. k.3.due (shut_by x.0 x.1); none = λ x. k.3.none (shut_by x.0 x.1); same = λ off. k.3.same (λ shut. shut.1 (unit_opens off shut.0)) })

pub units_hold : {D : Type 0} (g : Ghosts D) → UnitHolds g
units_hold g answer s t p q pages now v volume is j some c = unit_holds g answer s t p q pages now j some c v volume is
