-- A whole commit, and what comes after it, leaves a volume held.
use Rattle.std.proofs.Common.{◌≡◌, ⊎_elim, ℕ, ◌+◌, ◌<◌, ◌≤◌, Bool, true, false, List, [], length, length-take, take, drop, Option, Some, None, refl, sym, ap, subst, ◌∙◌, arith}
use Rattle.std.proofs.lemmas.Bool.{cases_lt}
use Rattle.std.proofs.lemmas.List.{append-nil, take-append-drop}
use Rattle.nl_field.specs.declared.answers.VirtualWrite.{VirtualWrite}
use Rattle.nl_field.specs.declared.answers.VirtualWrite.TheVariants as write
use Rattle.nl_field.specs.declared.pointer.Pointer.{Pointer}
use Rattle.nl_field.specs.declared.pointer.Tag.{Tag}
use Rattle.nl_iface.specs.Device.{IsVolumeShape}
use Rattle.nl_iface.specs.declared.counts.Counts.{Ghosts}
use Rattle.nl_spec_holders.specs.Holding.{Holding, HoldsPages, KeepsCommitted}
use Rattle.nl_spec_holders.proofs.LawProofs.{opening_holds}
use Rattle.nl_journal.specs.Committing.{committed_on}
use Rattle.nl_journal.specs.Progress.{HasNumber, Progress, begun, units_left}
use Rattle.nl_meta.specs.Pages.{Frozen, IsPages, Pages, dirty_pages}
use Rattle.nl_journal_commit.specs.Completing.{AwaitsCommitPage, Completes, IsDecided}
use Rattle.nl_journal_commit.specs.Counting.{with_frozen}
use Rattle.nl_journal_commit.specs.Standing.{CanFreeze, IsJournaled}
use Rattle.nl_journal_commit.specs.Stepping.{TakesUnit}
use Rattle.nl_journal.specs.declared.answers.Phase.TheVariants.{Commit}
use Rattle.nl_journal_commit.proofs.CompletingSteps.{closed_by, closed_number}
use Rattle.nl_journal_commit.proofs.Standing.{freezing_stands}
use Rattle.nl_spec_commits.specs.Committed.{IsHoldingOn}
use Rattle.nl_spec_commits.specs.CommittedLaws.{GivesUpThen, IsShutNow, PreservesHoldingInFlight}
use Rattle.nl_spec_commits.specs.Held.{AcknowledgedKeepsHeld, CommitHolds, CommitKeepsHeld, CommitsOn, DecidedKeepsHeld, FreedKeepsHeld, FreezeKeepsHeld, IsHeldVolume, OpeningIsHeld, UnitKeepsHeld, leaving_after, leaving_part, opened}
use Rattle.nl_spec_commits.proofs.Completing.{completing_holds, shut_by, unit_holds, unit_moves}
use Rattle.nl_spec_commits.proofs.Freezing.{freeze_opens, freezing_holds, number_before}
use Rattle.nl_spec_commits.proofs.Kept.{keeps_then, running_kept}
use Rattle.nl_spec_commits.proofs.Settling.{acknowledges_hold, addresses_hold, frees_hold, none_due_now}

holds_then : {u v w : Holding} → PreservesHoldingInFlight u v → PreservesHoldingInFlight v w → PreservesHoldingInFlight u w
holds_then a b = record { keeps = keeps_then a.keeps b.keeps; same_flight = b.same_flight ∙ a.same_flight; same_freeing = b.same_freeing ∙ a.same_freeing }

-- how many pages are given up after a part of a commit, by whether its commit page was finished
part_leaves : (o : Option ℕ) (p q : Progress) (frozen now : Frozen) (v w : Holding) → IsDecided o p q frozen now → GivesUpThen (IsShutNow p q frozen now) v w → w.leaving ≡ leaving_part o v.leaving
part_leaves None p q frozen now v w stays gives = (gives.same (λ shut. shut.1 (stays shut.0))).0
part_leaves (Some moment) p q frozen now v w decided gives = gives.none (decided.0, decided.1)

module _ {D : Type 0} (g : Ghosts D) (answer : VirtualWrite) (s : D) (p : Progress) (pages : Pages) (v : Holding) (volume : IsVolumeShape (g.shape s)) (j : IsJournaled g s p pages) (is : IsHoldingOn g s p pages v) (earlier : Option ℕ) where
  abbrev Found : Bool → Option ℕ → D → Progress → Pages → Type 0
  Found froze decided t r now = (w : Holding) × CommitsOn g (answer ≡ write.Done) froze earlier decided p pages t r now v w

  -- the first part alone
  stopped : (t m : D) (r q : Progress) (now mid : Pages) (froze : Bool) (decided : Option ℕ) → froze ≡ false → t ≡ m → r ≡ q → now ≡ mid → decided ≡ None → (half : VirtualWrite) → Completes g (half ≡ write.Done) s p pages m q mid
      → IsDecided earlier p q pages.frozen mid.frozen → (answer ≡ write.Done → ⊥) → Found froze decided t r now
  stopped t m r q now mid froze decided ef et er en ed half first first_decided off =
      let one = completing_holds g half s m p q pages mid v volume is j first in
      let begun = first.finishes.begun_stays in
      subst (λ (b : Bool). Found b decided t r now) (sym ef)
      (subst (λ (o : Option ℕ). Found false o t r now) (sym ed)
      (subst (λ (x : D). Found false None x r now) (sym et)
      (subst (λ (x : Progress). Found false None m x now) (sym er)
      (subst (λ (x : Pages). Found false None m q x) (sym en) (
        one.0,
        record {
          is_of = one.1;
          holds = one.2;
          due = λ done. absurd (off done);
          leaves = part_leaves earlier p q pages.frozen mid.frozen v one.0 first_decided one.3;
          numbers = λ numbers. subst (λ n. n < 9223372036854775808) begun numbers;
        },
      )))))

  -- both parts
  whole : (m t : D) (q r : Progress) (mid now : Pages) (froze : Bool) (decided : Option ℕ) → froze ≡ true → (half : VirtualWrite) → Completes g (half ≡ write.Done) s p pages m q mid → IsPages mid → CanFreeze (g.shape m).vaddrs q mid
      → Completes g (answer ≡ write.Done) m q (with_frozen mid) t r now → IsDecided decided q r (dirty_pages mid) now.frozen → Found froze decided t r now
  whole m t q r mid now froze decided ef half first held can second second_decided =
      let one = completing_holds g half s m p q pages mid v volume is j first in
      let volume_m = subst IsVolumeShape (sym first.same_shape) volume in
      let two = freezing_holds g m q mid one.0 volume_m one.1 first.stands.journaled held can in
      let frozen = freezing_stands g m q mid volume_m first.stands.journaled held can in
      let three = completing_holds g answer m t q r (with_frozen mid) now two.0 volume_m two.1 frozen.journaled second in
      let begun = first.finishes.begun_stays in
      let later = second.finishes.begun_stays in
      let waiting : two.0.leaving ≡ length v.freeing = two.3 ∙ ap (λ (xs : List Pointer). length xs) one.2.same_freeing in
      subst (λ (b : Bool). Found b decided t r now) (sym ef) (
        three.0,
        record {
          is_of = three.1;
          holds = holds_then (holds_then one.2 two.2) three.2;
          due = λ done. three.3.due (freeze_opens (g.shape m).vaddrs q mid can, λ more. let left = second.finishes.left done in let no : ⊥ = omega (arith, left, more) in no) ∙ waiting;
          leaves = part_leaves decided q r (dirty_pages mid) now.frozen two.0 three.0 second_decided three.3 ∙ ap (leaving_part decided) waiting;
          numbers = λ numbers. subst (λ n. n < 9223372036854775808) begun (number_before (g.shape m).vaddrs q mid can (subst (λ n. n < 9223372036854775808) later numbers));
        },
      )

pub commits_hold : {D : Type 0} (g : Ghosts D) → CommitHolds g
commits_hold g answer froze earlier decided s t p r pages now v volume j is c = ⊎_elim
    (λ x. stopped g answer s p pages v volume j is earlier t c.between r c.halfway now c.rest froze decided x.0 x.2 x.3 x.4 x.5 c.answer c.first c.first_decided x.1)
    (λ x. whole g answer s p pages v volume j is earlier c.between t c.halfway r c.rest now froze decided x.0 c.answer c.first x.1 x.2 x.3 x.4) c.second

-- ---- a volume that is held

-- another number of pages is due: what is journaled does not speak of it
due_now : {D : Type 0} (g : Ghosts D) (s : D) (p : Progress) (pages : Pages) (v : Holding) (due : ℕ) → IsHoldingOn g s p pages v → IsHoldingOn g s p pages (record v { due = due })
due_now g s p pages v due is = record {
  runs = record { names = is.runs.names; running = is.runs.running };
  told = λ tells numbers.
      let q = is.told tells numbers in
      record { decided = q.decided; number = q.number; next = q.next; committed = q.committed; frozen = q.frozen; thawed = q.thawed };
}

pub commit_keeps_held : {D : Type 0} (g : Ghosts D) → CommitKeepsHeld g
commit_keeps_held g answer froze earlier decided s t p r pages now flight freeing leaving volume j h c =
    let made = commits_hold g answer froze earlier decided s t p r pages now h.holding volume j h.is_of c in
    let on = made.1 in
    let low = none_due_now made.0 in
    let holds = on.holds.keeps.holds h.holds in
    record {
      holding = record made.0 { due = 0 };
      is_of = due_now g t r now made.0 0 on.is_of;
      in_flight = on.holds.same_flight ∙ h.in_flight;
      awaits = on.holds.same_freeing ∙ h.awaits;
      none_due = refl;
      gives_up = on.leaves ∙ ap (λ (xs : List Pointer). leaving_after froze earlier decided (length xs) h.holding.leaving) h.awaits ∙ ap (leaving_after froze earlier decided (length freeing)) h.gives_up;
      holds = low.holds holds;
      committed = λ told. low.committed holds (on.holds.keeps.committed h.holds (h.committed (told.0, on.numbers told.1)));
    }

-- once a commit is done, no page is given up any more
none_left : (froze : Bool) (earlier decided : Option ℕ) (waiting leaving : ℕ) → (decided ≡ None → ⊥) → leaving_after froze earlier decided waiting leaving ≡ 0
none_left froze earlier None waiting leaving off = absurd (off refl)
none_left froze earlier (Some moment) waiting leaving off = refl

pub freed_keeps_held : {D : Type 0} (g : Ghosts D) → FreedKeepsHeld g
freed_keeps_held g answer froze earlier decided s t u p r pages now flight freeing leaving volume j h c done volume_t j_t shut differ kept frees =
    let made = commits_hold g answer froze earlier decided s t p r pages now h.holding volume j h.is_of c in
    let w = made.0 in
    let on = made.1 in
    let waiting : w.freeing ≡ freeing = on.holds.same_freeing ∙ h.awaits in
    let due : w.due ≡ length freeing = on.due done ∙ ap (λ (xs : List Pointer). length xs) h.awaits in
    let gone = frees_hold g t u r now w freeing [] on.is_of shut differ (waiting ∙ sym (append-nil freeing)) due frees in
    let holds = on.holds.keeps.holds h.holds in
    record {
      holding = record w { names = g.names u; freeing = []; due = 0 };
      is_of = addresses_hold g t u r now w w.flight [] 0 volume_t j_t kept.virtual on.is_of;
      in_flight = on.holds.same_flight ∙ h.in_flight;
      awaits = refl;
      none_due = refl;
      gives_up = on.leaves ∙ none_left froze earlier decided (length h.holding.freeing) h.holding.leaving (λ none. ⊎_elim (λ x. x.1 done)
          (λ x. shut (subst (λ (o : Option ℕ). IsDecided o c.halfway r (dirty_pages c.rest) now.frozen) none x.4 (freeze_opens (g.shape c.between).vaddrs c.halfway c.rest x.2))) c.second);
      holds = gone.holds holds;
      committed = λ told. gone.committed told holds (on.holds.keeps.committed h.holds (h.committed (told.0, on.numbers told.1)));
    }

-- ---- unit by unit

pub freeze_keeps_held : {D : Type 0} (g : Ghosts D) → FreezeKeepsHeld g
freeze_keeps_held g s p pages flight freeing leaving volume j held can h =
    let made = freezing_holds g s p pages h.holding volume h.is_of j held can in
    let low = none_due_now made.0 in
    let holds = made.2.keeps.holds h.holds in
    record {
      holding = record made.0 { due = 0 };
      is_of = due_now g s p (with_frozen pages) made.0 0 made.1;
      in_flight = made.2.same_flight ∙ h.in_flight;
      awaits = made.2.same_freeing ∙ h.awaits;
      none_due = refl;
      gives_up = made.3 ∙ ap (λ (xs : List Pointer). length xs) h.awaits;
      holds = low.holds holds;
      committed = λ told. low.committed holds (made.2.keeps.committed h.holds (h.committed (told.0, number_before (g.shape s).vaddrs p pages can told.1)));
    }

pub unit_keeps_held : {D : Type 0} (g : Ghosts D) → UnitKeepsHeld g
unit_keeps_held g answer s t p q pages now flight freeing leaving volume j h some c off =
    let made = unit_holds g answer s t p q pages now j some c h.holding volume h.is_of in
    let same = made.3.same (λ x. off x.0 x.1) in
    let low = none_due_now made.0 in
    let holds = made.2.keeps.holds h.holds in
    let numbers : HasNumber q (length now.frozen.addresses) → HasNumber p (length pages.frozen.addresses) = λ n. subst (λ k. k < 9223372036854775808) (unit_moves g answer s t p q pages now j some c).begun_stays n in
    record {
      holding = record made.0 { due = 0 };
      is_of = due_now g t q now made.0 0 made.1;
      in_flight = made.2.same_flight ∙ h.in_flight;
      awaits = made.2.same_freeing ∙ h.awaits;
      none_due = refl;
      gives_up = same.0 ∙ h.gives_up;
      holds = low.holds holds;
      committed = λ told. low.committed holds (made.2.keeps.committed h.holds (h.committed (told.0, numbers told.1)));
    }

-- once the commit page is written, and before a page is freed
pub shut_keeps_held : {D : Type 0} (g : Ghosts D) (answer : VirtualWrite) (s t : D) (p q : Progress) (pages now : Pages) (flight : List (Tag × Pointer)) (freeing : List Pointer) (leaving : ℕ) → IsVolumeShape (g.shape s) → IsJournaled g s p pages
    → IsHeldVolume g s p pages flight freeing leaving → 1 ≤ length pages.frozen.addresses → TakesUnit g (answer ≡ write.Done) s p pages t q now → answer ≡ write.Done → p.phase ≡ Commit → IsHeldVolume g t q now flight freeing 0
shut_keeps_held g answer s t p q pages now flight freeing leaving volume j h some c done is =
    let made = unit_holds g answer s t p q pages now j some c h.holding volume h.is_of in
    let low = none_due_now made.0 in
    let holds = made.2.keeps.holds h.holds in
    let numbers : HasNumber q (length now.frozen.addresses) → HasNumber p (length pages.frozen.addresses) = λ n. subst (λ k. k < 9223372036854775808) (unit_moves g answer s t p q pages now j some c).begun_stays n in
    record {
      holding = record made.0 { due = 0 };
      is_of = due_now g t q now made.0 0 made.1;
      in_flight = made.2.same_flight ∙ h.in_flight;
      awaits = made.2.same_freeing ∙ h.awaits;
      none_due = refl;
      gives_up = made.3.none (done, is);
      holds = low.holds holds;
      committed = λ told. low.committed holds (made.2.keeps.committed h.holds (h.committed (told.0, numbers told.1)));
    }

pub decided_keeps_held : {D : Type 0} (g : Ghosts D) → DecidedKeepsHeld g
decided_keeps_held g answer s t u p q pages now flight freeing leaving volume j h some c done is volume_t j_t differ kept frees =
    let made = unit_holds g answer s t p q pages now j some c h.holding volume h.is_of in
    let w = made.0 in
    let front = take leaving freeing in
    let rest = drop leaving freeing in
    let waiting : w.freeing ≡ freeing = made.2.same_freeing ∙ h.awaits in
    let due : w.due ≡ leaving = made.3.due (done, is) ∙ h.gives_up in
    let shut : AwaitsCommitPage q now.frozen → ⊥ = (shut_by g answer s t p q pages now j some c done is).1 in
    let taken = length-take leaving freeing in
    let numbers : HasNumber q (length now.frozen.addresses) → HasNumber p (length pages.frozen.addresses) = λ n. subst (λ k. k < 9223372036854775808) (unit_moves g answer s t p q pages now j some c).begun_stays n in
    let first = record w { due = length front } in
    let gone = frees_hold g t u q now first front rest (due_now g t q now w (length front) made.1) shut differ (waiting ∙ sym (take-append-drop leaving freeing)) refl frees in
    let holds : HoldsPages w = made.2.keeps.holds h.holds in
    let holds_first : HoldsPages first = record { table = holds.table; held = holds.held } in
    record {
      holding = record w { names = g.names u; freeing = rest; due = 0 };
      is_of = addresses_hold g t u q now w w.flight rest 0 volume_t j_t kept.virtual made.1;
      in_flight = made.2.same_flight ∙ h.in_flight;
      awaits = refl;
      none_due = refl;
      gives_up = made.3.none (done, is);
      holds = gone.holds holds_first;
      committed = λ told.
          let k : KeepsCommitted w = made.2.keeps.committed h.holds (h.committed (told.0, numbers told.1)) in
          let most = k.due_awaits in
          let many = ap (λ (xs : List Pointer). length xs) waiting in
          let same : w.due ≡ length front = omega (arith, due, most, many, taken) in
          gone.committed told holds_first (subst (λ n. KeepsCommitted (record w { due = n })) same k);
    }

pub acknowledged_keeps_held : {D : Type 0} (g : Ghosts D) → AcknowledgedKeepsHeld g
acknowledged_keeps_held g s t p pages flight freeing upto leaving volume j h kept below acks =
    let v = h.holding in
    let gone = acknowledges_hold g s t p pages v upto h.is_of below acks in
    record {
      holding = record v { names = g.names t };
      is_of = addresses_hold g s t p pages v v.flight v.freeing v.due volume j kept.virtual h.is_of;
      in_flight = h.in_flight;
      awaits = h.awaits;
      none_due = h.none_due;
      gives_up = h.gives_up;
      holds = gone.holds h.holds;
      committed = λ told. gone.committed told h.holds (h.committed told);
    }

-- ---- an opening

pub opening_is_held : {D : Type 0} (g : Ghosts D) → OpeningIsHeld g
opening_is_held g s p pages kept place found volume j shut same table retains opens = record {
  holding = opened g s p pages;
  is_of = record {
    runs = record { names = refl; running = refl };
    told = λ tells numbers. record {
      decided = refl;
      number = sym closed;
      next = ap (λ n. n + 1) (sym closed);
      committed = running_kept g s pages (opened g s p pages) volume j.runs (record { names = refl; running = refl }) (committed_on g s) (same tells);
      frozen = λ more. absurd (shut more);
      thawed = λ o. (refl, refl);
    };
  };
  in_flight = refl;
  awaits = refl;
  none_due = refl;
  gives_up = refl;
  holds = both.0;
  committed = λ told. both.1;
}
  where
    both : HoldsPages (opened g s p pages) × KeepsCommitted (opened g s p pages)
    both = opening_holds kept place found (opened g s p pages) table retains opens

    closed : begun p (length pages.frozen.addresses) ≡ p.number
    closed = closed_number p pages.frozen
        (closed_by p.phase pages.frozen j.order.phase (⊎_elim (λ more. absurd (shut more)) (λ few. few) (cases_lt (length pages.frozen.addresses) (units_left p.phase (length pages.frozen.addresses)))))
