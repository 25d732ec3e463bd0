-- One unit: the journal stays in order, and what is committed.
use Rattle.std.proofs.Common.{◌≡◌, ◌⊎◌, inl, inr, ℕ, ◌+◌, ◌<◌, ◌≤◌, nat_lt, Bool, true, false, cond, Option, List, length, sym, ap, subst, arith}
use Rattle.std.proofs.lemmas.Bool.{cases_lt, cond-true, cond-false, lt-ltb, le-ltb}
use Rattle.nl_field.specs.declared.shape.Shape.{Shape}
use Rattle.nl_iface.specs.Calls.{LeavesAt, stored}
use Rattle.nl_iface.specs.Device.{IsVolumeShape}
use Rattle.nl_iface.specs.Stored.{Stored}
use Rattle.nl_iface.specs.declared.counts.Counts.{Ghosts}
use Rattle.nl_meta.specs.Committed.{VirtualMap}
use Rattle.nl_meta.specs.Pages.{Frozen, Pages, dirty_pages, none_frozen}
use Rattle.nl_journal.specs.Committing.{ahead_on, aimed, committed_now, committed_on, finished}
use Rattle.nl_journal.specs.Left.{LeavesEither, LeavesOne, LeavesRest, UnitWrites}
use Rattle.nl_journal.specs.Outcomes.{Agrees, May, NoMore, Tried, Within, Written, bytes_of}
use Rattle.nl_journal.specs.Progress.{HasNumber, IsPhase, Progress, next, next_number_in, next_phase, number_in}
use Rattle.nl_journal.specs.Standing.{JournalInOrder, JournalMatchesMap, JournalInPhase}
use Rattle.nl_journal.specs.Transaction.{IsTransaction}
use Rattle.nl_journal.specs.Units.{IsDue, frozen_after}
use Rattle.nl_journal.specs.declared.answers.Phase.{Phase}
use Rattle.nl_journal.specs.declared.answers.Phase.TheVariants.{Header, Image, Commit, Home}
use Rattle.nl_journal.proofs.Addresses.{addresses_of}
use Rattle.nl_journal.proofs.Finishing.{begun_next, finished_next, finished_same, with_same}
use Rattle.nl_journal.proofs.Moving.{after, before, shown_after, shown_before}
use Rattle.nl_journal.proofs.Stops.{at_by}

-- which page is due next of as many
phase_with : (phase : Phase) (pages : ℕ) → 1 ≤ pages → IsPhase phase pages → IsPhase (next_phase phase pages) pages
phase_with Header pages some at = omega (arith, some)
phase_with (Image i) pages some at = by (cases_lt (i + 1) pages)
  where
    by : (i + 1 < pages) ⊎ (pages ≤ i + 1) → IsPhase (next_phase (Image i) pages) pages
    by (inl more) = subst (λ p. IsPhase p pages) (sym (cond-true (nat_lt (i + 1) pages) (Image (i + 1)) Commit (lt-ltb (i + 1) pages more))) more
    by (inr end) = subst (λ p. IsPhase p pages) (sym (cond-false (nat_lt (i + 1) pages) (Image (i + 1)) Commit (le-ltb (i + 1) pages end))) some
phase_with Commit pages some at = omega (arith, some)
phase_with (Home i) pages some at = by (cases_lt (i + 1) pages)
  where
    by : (i + 1 < pages) ⊎ (pages ≤ i + 1) → IsPhase (next_phase (Home i) pages) pages
    by (inl more) = subst (λ p. IsPhase p pages) (sym (cond-true (nat_lt (i + 1) pages) (Home (i + 1)) Header (lt-ltb (i + 1) pages more))) more
    by (inr end) = subst (λ p. IsPhase p pages) (sym (cond-false (nat_lt (i + 1) pages) (Home (i + 1)) Header (le-ltb (i + 1) pages end))) tt

home_pages : (b : Bool) (count : ℕ) (frozen : Frozen) → IsTransaction count frozen → 1 ≤ length (cond b frozen none_frozen).addresses → IsTransaction count (cond b frozen none_frozen)
home_pages true count frozen t some = t
home_pages false count frozen t some = absurd (let no : ⊥ = omega (arith, some) in no)

after_pages : (phase : Phase) (count : ℕ) (frozen : Frozen) → IsTransaction count frozen → 1 ≤ length (frozen_after phase frozen).addresses → IsTransaction count (frozen_after phase frozen)
after_pages Header count frozen t some = t
after_pages (Image i) count frozen t some = t
after_pages Commit count frozen t some = t
after_pages (Home i) count frozen t some = home_pages (nat_lt (i + 1) (length frozen.addresses)) count frozen t some

home_stands : (b : Bool) (i number : ℕ) (shape : Shape) (may : ℕ → Option (List ℕ) → Type 0) (now base : VirtualMap) (frozen : Frozen)
    → JournalInPhase (cond b (Home (i + 1)) Header) shape may now base number frozen → JournalInPhase (cond b (Home (i + 1)) Header) shape may now base number (cond b frozen none_frozen)
home_stands true i number shape may now base frozen s = s
home_stands false i number shape may now base frozen s = s

stands_after : (phase : Phase) (number : ℕ) (shape : Shape) (may : ℕ → Option (List ℕ) → Type 0) (now base : VirtualMap) (frozen : Frozen)
    → JournalInPhase (next_phase phase (length frozen.addresses)) shape may now base number frozen → JournalInPhase (next_phase phase (length frozen.addresses)) shape may now base number (frozen_after phase frozen)
stands_after Header number shape may now base frozen s = s
stands_after (Image i) number shape may now base frozen s = s
stands_after Commit number shape may now base frozen s = s
stands_after (Home i) number shape may now base frozen s = home_stands (nat_lt (i + 1) (length frozen.addresses)) i number shape may now base frozen s

module _ {D : Type 0} (g : Ghosts D) (old new : D) (p : Progress) (pages : Pages) (v : ℕ) (main : List ℕ) (volume : IsVolumeShape (g.shape old)) (some : 1 ≤ length pages.frozen.addresses)
    (order : JournalInOrder g old p pages.frozen) (due : IsDue p.phase p.number pages.frozen v main) (same : g.shape new ≡ g.shape old) where
  wide : 67 ≤ (g.shape old).vaddrs
  wide = addresses_of (g.shape old) volume

  -- the committed pages, by the shape of before
  as_before : committed_on g new ≡ committed_now (g.shape old) (g.map new)
  as_before = ap (λ h. committed_now h (g.map new)) same

  next_due : IsPhase (next_phase p.phase (length pages.frozen.addresses)) (length pages.frozen.addresses)
  next_due = phase_with p.phase (length pages.frozen.addresses) some order.phase

  done_at : g.tells → HasNumber p (length pages.frozen.addresses) → NoMore (Written (May (g.map old) (g.failed old)) v main) (May (g.map new) (g.failed new))
      → JournalMatchesMap (g.shape old) (g.map new) (g.failed new) (next p (length pages.frozen.addresses)) pages.frozen
      × Agrees (g.shape old).vaddrs (committed_now (g.shape old) (g.map new)) (aimed p.phase pages.frozen (committed_now (g.shape old) (g.map old)))
  done_at t numbers wrote = after p.phase (g.shape old) (g.map old) (g.map new) (g.failed old) (g.failed new) p.number pages.frozen v main (order.pages some) wide order.phase numbers due (order.keeps t numbers)
      next_due wrote

  undone_at : g.tells → HasNumber p (length pages.frozen.addresses) → NoMore (Tried (May (g.map old) (g.failed old)) v main) (May (g.map new) (g.failed new))
      → ((u : ℕ) → bytes_of (g.map new) u ≡ bytes_of (g.map old) u)
      → JournalMatchesMap (g.shape old) (g.map new) (g.failed new) p pages.frozen × Agrees (g.shape old).vaddrs (committed_now (g.shape old) (g.map new)) (committed_now (g.shape old) (g.map old))
  undone_at t numbers tried unchanged = before p.phase (g.shape old) (g.map old) (g.map new) (g.failed old) (g.failed new) p.number pages.frozen v main (order.pages some) wide order.phase numbers due (order.keeps t numbers)
      tried unchanged

  after_order : (g.tells → NoMore (Written (May (g.map old) (g.failed old)) v main) (May (g.map new) (g.failed new)))
      → IsPhase (next_phase p.phase (length pages.frozen.addresses)) (length (frozen_after p.phase pages.frozen).addresses) → JournalInOrder g new (next p (length pages.frozen.addresses)) (frozen_after p.phase pages.frozen)
  after_order wrote at = record {
    phase = at;
    pages = λ more. subst (λ (h : Shape). IsTransaction h.vaddrs (frozen_after p.phase pages.frozen)) (sym same) (after_pages p.phase (g.shape old).vaddrs pages.frozen (order.pages some) more);
    keeps = λ t numbers.
        let below : HasNumber p (length pages.frozen.addresses) = subst (λ n. n < 9223372036854775808) (begun_next p.phase p.number pages.frozen some) numbers in
        subst (λ (h : Shape). JournalMatchesMap h (g.map new) (g.failed new) (next p (length pages.frozen.addresses)) (frozen_after p.phase pages.frozen)) (sym same)
        (stands_after p.phase (number_in (next_phase p.phase (length pages.frozen.addresses)) (next_number_in p.phase p.number)) (g.shape old) (May (g.map new) (g.failed new)) (bytes_of (g.map new))
        (committed_now (g.shape old) (g.map new)) pages.frozen (done_at t below (wrote t)).0);
  }

  pub done_order : (q : Progress) (new_pages : Pages) → (g.tells → NoMore (Written (May (g.map old) (g.failed old)) v main) (May (g.map new) (g.failed new)))
      → IsPhase q.phase (length new_pages.frozen.addresses) → q ≡ next p (length pages.frozen.addresses) → new_pages ≡ record pages { frozen = frozen_after p.phase pages.frozen } → JournalInOrder g new q new_pages.frozen
  done_order q new_pages wrote at is_next is_after =
      let here : IsPhase (next_phase p.phase (length pages.frozen.addresses)) (length (frozen_after p.phase pages.frozen).addresses) =
      subst (λ (n : Pages). IsPhase (next_phase p.phase (length pages.frozen.addresses)) (length n.frozen.addresses)) is_after (subst (λ (r : Progress). IsPhase r.phase (length new_pages.frozen.addresses)) is_next at) in
      subst (λ (r : Progress). JournalInOrder g new r new_pages.frozen) (sym is_next) (subst (λ (n : Pages). JournalInOrder g new (next p (length pages.frozen.addresses)) n.frozen) (sym is_after) (after_order wrote here))

  pub undone_order : (g.tells → NoMore (Tried (May (g.map old) (g.failed old)) v main) (May (g.map new) (g.failed new))) → (g.tells → (u : ℕ) → bytes_of (g.map new) u ≡ bytes_of (g.map old) u)
      → JournalInOrder g new p pages.frozen
  undone_order tried unchanged = record {
    phase = order.phase;
    pages = λ more. subst (λ (h : Shape). IsTransaction h.vaddrs pages.frozen) (sym same) (order.pages more);
    keeps = λ t numbers. subst (λ (h : Shape). JournalMatchesMap h (g.map new) (g.failed new) p pages.frozen) (sym same) (undone_at t numbers (tried t) (unchanged t)).0;
  }

  -- what a stop leaves within the write, whether it is done or not
  left_by : (done over : Type 0) → (over → done) → g.tells → HasNumber p (length pages.frozen.addresses)
      → LeavesAt g done
      (λ (c : Stored). Within (g.shape old).vaddrs (May (g.map old) (g.failed old)) (bytes_of c.virtual) × LeavesRest (g.shape old).vaddrs (g.failed old) (stored g old) c)
      (λ (c : Stored). Within (g.shape old).vaddrs (Written (May (g.map old) (g.failed old)) v main) (bytes_of c.virtual) × LeavesRest (g.shape old).vaddrs (g.failed old) (stored g old) c) old new
      → LeavesAt g over (LeavesEither g old (committed_on g old) (aimed p.phase pages.frozen (committed_on g old))) (LeavesOne g old (aimed p.phase pages.frozen (committed_on g old))) old new
  left_by done over is_done t numbers l = at_by g done over _ _ _ _ old new is_done
      (λ c is. (
        shown_before p.phase (g.shape old) (g.map old) (g.map new) (g.failed old) (g.failed new) p.number pages.frozen v main (order.pages some) wide order.phase numbers due (order.keeps t numbers) (bytes_of c.virtual) is.0,
        is.1,
      ))
      (λ c is. (
        shown_after p.phase (g.shape old) (g.map old) (g.map new) (g.failed old) (g.failed new) p.number pages.frozen v main (order.pages some) wide order.phase numbers due (order.keeps t numbers) next_due (bytes_of c.virtual) is.0,
        is.1,
      )) l

  pub done_writes : (done over : Type 0) → (over → done) → over → (q : Progress) (new_pages : Pages) → g.tells → HasNumber p (length pages.frozen.addresses)
      → NoMore (Written (May (g.map old) (g.failed old)) v main) (May (g.map new) (g.failed new)) → q ≡ next p (length pages.frozen.addresses) → new_pages ≡ record pages { frozen = frozen_after p.phase pages.frozen }
      → LeavesAt g done
      (λ (c : Stored). Within (g.shape old).vaddrs (May (g.map old) (g.failed old)) (bytes_of c.virtual) × LeavesRest (g.shape old).vaddrs (g.failed old) (stored g old) c)
      (λ (c : Stored). Within (g.shape old).vaddrs (Written (May (g.map old) (g.failed old)) v main) (bytes_of c.virtual) × LeavesRest (g.shape old).vaddrs (g.failed old) (stored g old) c) old new
      → UnitWrites g over p q pages new_pages old new
  done_writes done over is_done is_over q new_pages t numbers wrote is_next is_after l = record {
    commits = λ o. agrees;
    remains = λ not. absurd (not is_over);
    same_ahead = subst (λ (r : Progress). Agrees (g.shape old).vaddrs (ahead_on g new r new_pages) (ahead_on g old p pages)) (sym is_next)
        (subst (λ (n : Pages). Agrees (g.shape old).vaddrs (ahead_on g new (next p (length pages.frozen.addresses)) n) (ahead_on g old p pages)) (sym is_after)
        (with_same (dirty_pages pages) (g.shape old).vaddrs (finished (next_phase p.phase (length pages.frozen.addresses)) (frozen_after p.phase pages.frozen) (committed_on g new)) (finished p.phase pages.frozen (committed_on g old))
        (finished_next p.phase pages.frozen (g.shape old).vaddrs (committed_on g old) (committed_on g new) agrees)));
    left = left_by done over is_done t numbers l;
  }
    where
      agrees : Agrees (g.shape old).vaddrs (committed_on g new) (aimed p.phase pages.frozen (committed_on g old))
      agrees = subst (λ (f : VirtualMap). Agrees (g.shape old).vaddrs f (aimed p.phase pages.frozen (committed_on g old))) (sym as_before) (done_at t numbers wrote).1

  pub undone_writes : (done : Type 0) → g.tells → HasNumber p (length pages.frozen.addresses)
      → NoMore (Tried (May (g.map old) (g.failed old)) v main) (May (g.map new) (g.failed new)) → ((u : ℕ) → bytes_of (g.map new) u ≡ bytes_of (g.map old) u)
      → LeavesAt g done
      (λ (c : Stored). Within (g.shape old).vaddrs (May (g.map old) (g.failed old)) (bytes_of c.virtual) × LeavesRest (g.shape old).vaddrs (g.failed old) (stored g old) c)
      (λ (c : Stored). Within (g.shape old).vaddrs (Written (May (g.map old) (g.failed old)) v main) (bytes_of c.virtual) × LeavesRest (g.shape old).vaddrs (g.failed old) (stored g old) c) old new
      → UnitWrites g ⊥ p p pages pages old new
  undone_writes done t numbers tried unchanged l = record {
    commits = λ o. absurd o;
    remains = λ not. agrees;
    same_ahead = with_same (dirty_pages pages) (g.shape old).vaddrs (finished p.phase pages.frozen (committed_on g new)) (finished p.phase pages.frozen (committed_on g old))
        (finished_same p.phase pages.frozen (g.shape old).vaddrs (committed_on g new) (committed_on g old) agrees);
    left = left_by done ⊥ (λ o. absurd o) t numbers l;
  }
    where
      agrees : Agrees (g.shape old).vaddrs (committed_on g new) (committed_on g old)
      agrees = subst (λ (f : VirtualMap). Agrees (g.shape old).vaddrs f (committed_on g old)) (sym as_before) (undone_at t numbers tried unchanged).1
