-- One unit writes a page of the frozen transaction.
use Rattle.std.proofs.Common.{◌≡◌, inl, inr, ⊎_elim, ℕ, ◌+◌, ◌≤◌, nat_lt, Bool, true, false, if◌then◌else◌, length, refl, sym, ◌∙◌, ap, subst}
use Rattle.nl_iface.specs.Calls.{CallCounted, Ticks}
use Rattle.nl_iface.specs.declared.counts.Counts.{Ghosts}
use Rattle.nl_journal.specs.Homes.{BringsHome, WritesHome}
use Rattle.nl_journal.specs.Left.{UnitWrites}
use Rattle.nl_journal.specs.Outcomes.{bytes_of}
use Rattle.nl_journal.specs.Progress.{IsPhase, Progress, next_after}
use Rattle.nl_journal.specs.Standing.{JournalInOrder}
use Rattle.nl_journal.specs.Units.{Advances, UnitIsDone, answer_in, frozen_after}
use Rattle.nl_journal.specs.declared.answers.Phase.{Phase}
use Rattle.nl_journal.specs.declared.answers.Phase.TheVariants.{Header, Image, Commit, Home}
use Rattle.nl_journal.specs.declared.answers.Unit.{Unit as Answer}
use Rattle.nl_journal.specs.declared.answers.Unit.TheVariants as unit
use Rattle.nl_journal.proofs.Finishing.{after_either, phase_of_none}
use Rattle.nl_journal.proofs.HomeWrites.{home_failed, home_start, home_step}
use Rattle.nl_journal.proofs.Stops.{at_by}
use Rattle.nl_meta.specs.Pages.{Frozen, Pages, none_frozen}
use Rattle.nl_journal_commit.specs.Standing.{WritesFrozen}
use Rattle.nl_journal_commit.specs.Stepping.{GoesOneUnit}

-- which answers are of a unit that was done
pub done_decided : (r : Answer) (n : ℕ) → r ≡ unit.Decided n → UnitIsDone r
done_decided r n is = subst (λ (a : Answer). UnitIsDone a) (sym is) tt

pub undone_lost : (r : Answer) (w f : ℕ) → r ≡ unit.Lost w f → UnitIsDone r → ⊥
undone_lost r w f is done = subst (λ (a : Answer). UnitIsDone a) is done

pub undone_fault : (r : Answer) → r ≡ unit.Fault → UnitIsDone r → ⊥
undone_fault r is done = subst (λ (a : Answer). UnitIsDone a) is done

-- a commit page is finished in its phase, and in no other
pub decided_in : (phase : Phase) (number pages n : ℕ) → unit.Decided n ≡ answer_in phase number pages → (phase ≡ Commit) × (n ≡ next_after number)
decided_in Header number pages n is = absurd (let no : ⊥ = cc in no)
decided_in (Image i) number pages n is = absurd (let no : ⊥ = cc in no)
decided_in Commit number pages n is = (refl, let same : n ≡ next_after number = cc in same)
decided_in (Home i) number pages n is = absurd (no_page (nat_lt (i + 1) pages) is)
  where
    no_page : (b : Bool) → unit.Decided n ≡ (if b then unit.Programmed else unit.AllHome) → ⊥
    no_page true of = cc
    no_page false of = cc

pub not_commit : (phase : Phase) (number pages : ℕ) (r : Answer) → r ≡ answer_in phase number pages → ((n : ℕ) → r ≡ unit.Decided n → ⊥) → phase ≡ Commit → ⊥
not_commit phase number pages r is off at = off (next_after number) (is ∙ ap (λ (f : Phase). answer_in f number pages) at)

-- by another answer
module _ {D : Type 0} (g : Ghosts D) (s t : D) (done over : Type 0) (to : over → done) (from : done → over) where
  pub writes_by : (p q : Progress) (pages now : Pages) → UnitWrites g done p q pages now s t → UnitWrites g over p q pages now s t
  writes_by p q pages now w = record {
    commits = λ o. w.commits (to o);
    remains = λ off. w.remains (λ d. off (from d));
    same_ahead = w.same_ahead;
    left = at_by g done over _ _ _ _ s t to (λ c is. is) (λ c is. is) w.left;
  }

  pub ticks_by : Ticks g done s t → Ticks g over s t
  ticks_by k = record { clock = k.clock; later = λ o. k.later (to o) }

  pub counted_by : CallCounted g done s t → CallCounted g over s t
  counted_by k = record {
    reads_never_fall = k.reads_never_fall;
    writes_never_fall = k.writes_never_fall;
    cause = λ o. k.cause (to o);
    stays = λ exact off. k.stays exact (λ d. off (from d));
  }

pub goes_by : (r : Answer) (over : Type 0) (p q : Progress) (pages now : Pages) → (over → UnitIsDone r) → (UnitIsDone r → over) → Advances r p q pages now → GoesOneUnit over p q pages now
goes_by r over p q pages now to from a = record { taken = λ o. let k = a.done (to o) in (k.1, k.2); waits = λ off. a.waits (λ d. off (from d)) }

module _ {D : Type 0} (g : Ghosts D) (s t : D) (p q : Progress) (pages now : Pages) (result : Answer) (same : g.shape t ≡ g.shape s) (old : JournalInOrder g s p pages.frozen) (some : 1 ≤ length pages.frozen.addresses)
    (order : JournalInOrder g t q now.frozen) (goes : Advances result p q pages now)
    (home : g.tells → WritesHome p.phase pages.frozen (UnitIsDone result) (g.shape s).vaddrs (bytes_of (g.map s)) (bytes_of (g.map t))) where
  -- one that was done
  pub unit_writes : UnitIsDone result → WritesFrozen g s p pages t q now
  unit_writes done =
      let k = goes.done done in
      let after : now.frozen ≡ frozen_after p.phase pages.frozen = ap (λ (n : Pages). n.frozen) k.2 in
      record {
        same_shape = same;
        order = order;
        kept = k.2 ∙ ap (λ (f : Frozen). record pages { frozen = f }) (sym after);
        frozen = ⊎_elim
            (λ stays. inl (after ∙ stays))
            (λ gone. let none : now.frozen ≡ none_frozen = after ∙ gone in inr (phase_of_none q.phase (subst (λ n. IsPhase q.phase n) (ap (λ (x : Frozen). length x.addresses) none) order.phase), none))
            (after_either p.phase pages.frozen);
        home = λ tells. home_step (g.shape s).vaddrs pages.frozen now.frozen q (bytes_of (g.map s)) (bytes_of (g.map t)) (bytes_of (g.map t)) (UnitIsDone result) done (old.pages some)
            p q now.frozen k.1 after (home tells) (home_start (g.shape s).vaddrs q now.frozen (bytes_of (g.map t)));
      }

  -- one that was not
  pub unit_waits : (UnitIsDone result → ⊥) → WritesFrozen g s p pages t q now
  unit_waits off =
      let k = goes.waits off in
      let stays : now.frozen ≡ pages.frozen = ap (λ (n : Pages). n.frozen) k.1 in
      record {
        same_shape = same;
        order = order;
        kept = k.1 ∙ ap (λ (f : Frozen). record pages { frozen = f }) (sym stays);
        frozen = inl stays;
        home = λ tells. home_failed (g.shape s).vaddrs p q pages.frozen now.frozen (bytes_of (g.map s)) (bytes_of (g.map t)) k.0 stays ((home tells).waits off);
      }
