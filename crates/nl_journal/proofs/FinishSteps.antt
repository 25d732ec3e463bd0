-- The units that are left, one after another.
use Rattle.std.proofs.Common.{◌≡◌, ◌⊎◌, inl, inr, ⊎_elim, ℕ, zero, suc, ◌+◌, ◌<◌, ◌≤◌, nat_lt, Bool, true, false, if◌then◌else◌, List, [], ◌∷◌, length, refl, sym, ◌∙◌, ap, subst, arith}
use Rattle.nl_field.specs.CrashStates.{Earlier}
use Rattle.nl_field.specs.declared.shape.Shape.{Shape}
use Rattle.nl_iface.specs.Calls.{StoresMap, stored}
use Rattle.nl_iface.specs.Device.{IsVolumeShape}
use Rattle.nl_iface.specs.Stored.{NothingStoredBeyond, NoneFailed, Stored, Value}
use Rattle.nl_iface.specs.declared.counts.Counts.{Ghosts}
use Rattle.nl_meta.specs.Committed.{VirtualMap}
use Rattle.nl_meta.specs.Pages.{Frozen, Pages, none_frozen}
use Rattle.nl_journal.specs.Committing.{aimed, committed_on, finished, finished_on, is_decided}
use Rattle.nl_journal.specs.Left.{StoresCommitted, FinishWrites, LeavesRest, UnitWrites}
use Rattle.nl_journal.specs.Outcomes.{Agrees}
use Rattle.nl_journal.specs.Progress.{HasNumber, IsPhase, Progress, begun, begun_in, next, next_number_in, next_phase, units_left}
use Rattle.nl_journal.specs.Standing.{JournalInOrder}
use Rattle.nl_journal.specs.Transaction.{IsTransaction, with_pages}
use Rattle.nl_journal.specs.Units.{UnitIsDone, frozen_after}
use Rattle.nl_journal.specs.declared.answers.Unit.{Unit as Answer}
use Rattle.nl_journal.specs.declared.answers.Unit.TheVariants as unit
use Rattle.nl_journal.specs.declared.answers.Phase.{Phase}
use Rattle.nl_journal.specs.declared.answers.Phase.TheVariants.{Header, Image, Commit, Home}
use Rattle.nl_journal.proofs.Finishing.{agrees_then, aimed_or, begun_next, commits_same, finished_next, finished_same, header_units, last_or, nothing_left, units_next, with_none}
use Rattle.nl_journal.proofs.InOrders.{stored_pages_are}
use Rattle.nl_journal.proofs.Stops.{at_failed, at_start, at_then}

-- what is finished with nothing frozen
pub none_left : (phase : Phase) (frozen : Frozen) (base : VirtualMap) (v : ℕ) → phase ≡ Header → frozen.addresses ≡ [] → finished phase frozen base v ≡ base v
none_left Header frozen base v is none = with_none frozen base v none
none_left (Image i) frozen base v is none = absurd (let no : ⊥ = cc in no)
none_left Commit frozen base v is none = absurd (let no : ⊥ = cc in no)
none_left (Home i) frozen base v is none = refl

finished_decided : (phase : Phase) (frozen : Frozen) (base : VirtualMap) (v : ℕ) → is_decided phase ≡ true → finished phase frozen base v ≡ base v
finished_decided phase frozen base v is = ap (λ b. (if b then base else with_pages frozen base) v) is

pub no_addresses : (xs : List ℕ) → length xs ≡ 0 → xs ≡ []
no_addresses [] is = refl
no_addresses (x ∷ xs) is = absurd (let no : ⊥ = omega (arith, is) in no)

-- the number and the committed pages after a write: it is the last, or the commit page
pub after_one : (phase : Phase) (number count pages : ℕ) (frozen : Frozen) (now base : VirtualMap) → 1 ≤ pages → Agrees count now (aimed phase frozen base)
    → ((next_number_in phase number ≡ number) × Agrees count now base) ⊎ ((next_number_in phase number ≡ begun_in phase number pages) × Agrees count now (finished phase frozen base))
after_one Header number count pages frozen now base some same = inl (refl, same)
after_one (Image i) number count pages frozen now base some same = inl (refl, same)
after_one Commit number count pages frozen now base some same = inr (refl, same)
after_one (Home i) number count pages frozen now base some same = inl (refl, same)

module _ {D : Type 0} (g : Ghosts D) where
  -- nothing is left, or the commit page is written
  pub writes_none : (done : Type 0) (s : D) (p : Progress) (pages : Pages) → IsVolumeShape (g.shape s) → JournalInOrder g s p pages.frozen
      → ((p.phase ≡ Header) × (pages.frozen.addresses ≡ [])) ⊎ (is_decided p.phase ≡ true) → StoresMap g s
      → g.tells → HasNumber p (length pages.frozen.addresses) → FinishWrites g done p p pages pages s s
  writes_none done s p pages volume order still stores t numbers = record {
    decided = inl (refl, λ v home. refl);
    same_finished = λ v home. refl;
    left = at_start g done _ _ s (
      commits_same (g.shape s) (committed_on g s) (finished_on g s p pages) (stored g s) (finishes_none p.phase still)
          (⊎_elim (λ now. now) (λ aims. commits_same (g.shape s) (aimed p.phase pages.frozen (committed_on g s)) (committed_on g s) (stored g s) (aims_none p.phase still) aims)
          (stored_pages_are g s p pages.frozen volume order t numbers (stored g s) stores.shows).0),
      record { beyond = stores.beyond; firm = λ firm unfailed. firm; named = λ q. refl },
    );
  }
    where
      aims_none : (phase : Phase) → ((phase ≡ Header) × (pages.frozen.addresses ≡ [])) ⊎ (is_decided phase ≡ true) → Agrees (g.shape s).vaddrs (aimed phase pages.frozen (committed_on g s)) (committed_on g s)
      aims_none Header is v home = refl
      aims_none (Image i) is v home = refl
      aims_none Commit (inl is) v home = absurd (let e = is.0 in let no : ⊥ = cc in no)
      aims_none Commit (inr is) v home = absurd (let no : ⊥ = cc in no)
      aims_none (Home i) is v home = refl

      finishes_none : (phase : Phase) → ((phase ≡ Header) × (pages.frozen.addresses ≡ [])) ⊎ (is_decided phase ≡ true) → Agrees (g.shape s).vaddrs (committed_on g s) (finished phase pages.frozen (committed_on g s))
      finishes_none phase (inl none) v home = sym (none_left phase pages.frozen (committed_on g s) v none.0 none.1)
      finishes_none phase (inr is) v home = sym (finished_decided phase pages.frozen (committed_on g s) v is)

  -- a unit that was not done
  pub writes_failed : (over : Type 0) (old new : D) (p q : Progress) (pages new_pages : Pages) → (over → ⊥) → q ≡ p → new_pages ≡ pages → (done : Type 0) → (done → ⊥) → UnitWrites g done p q pages new_pages old new → g.shape new ≡ g.shape old
      → FinishWrites g over p q pages new_pages old new
  writes_failed over old new p q pages new_pages off is_same are_same done undone w same =
      subst (λ (r : Progress). FinishWrites g over p r pages new_pages old new) (sym is_same)
      (subst (λ (n : Pages). FinishWrites g over p p pages n old new) (sym are_same) (record {
        decided = inl (refl, w.remains undone);
        same_finished = finished_same p.phase pages.frozen (g.shape old).vaddrs (committed_on g new) (committed_on g old) (w.remains undone);
        left = at_failed g done over _ _ _ _ old new off
            (λ c is. (⊎_elim (λ before. inl before) (λ after. aimed_or p.phase pages.frozen (g.shape old) (committed_on g old) c after) is.0, is.1))
            (λ c is. (aimed_or p.phase pages.frozen (g.shape old) (committed_on g old) c is.0, is.1)) w.left;
      }))

  module _ (old mid : D) (same : g.shape mid ≡ g.shape old) (fewer : (v : ℕ) (x : Value) → g.failed mid v x → g.failed old v x) where
    none_still : NoneFailed (g.shape old).vaddrs (g.failed old) → NoneFailed (g.shape mid).vaddrs (g.failed mid)
    none_still none v x below f = none v x (subst (λ (h : Shape). v < h.vaddrs) same below) (fewer v x f)

    pub rest_by : (c : Stored) → LeavesRest (g.shape old).vaddrs (g.failed old) (stored g old) (stored g mid) → LeavesRest (g.shape mid).vaddrs (g.failed mid) (stored g mid) c
        → LeavesRest (g.shape old).vaddrs (g.failed old) (stored g old) c
    rest_by c first second = record {
      beyond = subst (λ (h : Shape). NothingStoredBeyond h.vaddrs c) same second.beyond;
      firm = λ firm unfailed. second.firm (first.firm firm unfailed) (none_still unfailed);
      named = λ q. second.named q ∙ first.named q;
    }

  module _ (old mid : D) (same : g.shape mid ≡ g.shape old) where
    pub commits_by : (f h : VirtualMap) (c : Stored) → Agrees (g.shape old).vaddrs f h → StoresCommitted (g.shape mid) f c → StoresCommitted (g.shape old) h c
    commits_by f h c agrees is = commits_same (g.shape old) f h c agrees (subst (λ (s : Shape). StoresCommitted s f c) same is)

    pub agrees_by : (e f h : VirtualMap) → Agrees (g.shape mid).vaddrs e f → Agrees (g.shape old).vaddrs f h → Agrees (g.shape old).vaddrs e h
    agrees_by e f h first second = agrees_then (g.shape old).vaddrs e f h (subst (λ (s : Shape). Agrees s.vaddrs e f) same first) second

  module _ (old mid new : D) (p : Progress) (pages : Pages) (same : g.shape mid ≡ g.shape old) (fewer : (v : ℕ) (x : Value) → g.failed mid v x → g.failed old v x) where
    -- a unit that was done, and the rest
    pub writes_then : (done over : Type 0) (r : Progress) (new_pages : Pages) → done → IsPhase p.phase (length pages.frozen.addresses) → 1 ≤ length pages.frozen.addresses
        → UnitWrites g done p (next p (length pages.frozen.addresses)) pages (record pages { frozen = frozen_after p.phase pages.frozen }) old mid
        → FinishWrites g over (next p (length pages.frozen.addresses)) r (record pages { frozen = frozen_after p.phase pages.frozen }) new_pages mid new
        → (over → is_decided p.phase ≡ false → is_decided (next_phase p.phase (length pages.frozen.addresses)) ≡ false → Earlier (g.clock mid) (g.clock new))
        → FinishWrites g over p r pages new_pages old new
    writes_then done over r new_pages is_done at some w rest ticks = record {
      decided = ⊎_elim (λ x. by_first x) (λ x. inr (x.0 ∙ begun_next p.phase p.number pages.frozen some, agrees_by old mid same (committed_on g new) finished_mid (finished_on g old p pages) x.1 goal)) rest.decided;
      same_finished = agrees_by old mid same (finished_on g new r new_pages) finished_mid (finished_on g old p pages) rest.same_finished goal;
      left = at_then g done over _ _ _ _ _ _ old mid new is_done w.left rest.left
          (λ c is. (⊎_elim (λ before. inl before) (λ after. aimed_or p.phase pages.frozen (g.shape old) (committed_on g old) c after) is.0, is.1))
          (⊎_elim
          (λ more. inl ((λ o. ticks o more.0 more.1), λ c is. (aimed_or p.phase pages.frozen (g.shape old) (committed_on g old) c is.0, is.1)))
          (λ last. inr (λ c is. (last c is.0, is.1))) (last_or p.phase pages.frozen (g.shape old) (committed_on g old)))
          (λ c is. (
            ⊎_elim
                (λ before. aimed_or p.phase pages.frozen (g.shape old) (committed_on g old) c (commits_by old mid same (committed_on g mid) (aimed p.phase pages.frozen (committed_on g old)) c (w.commits is_done) before))
                (λ after. inr (commits_by old mid same finished_mid (finished_on g old p pages) c goal after)) is.0,
            rest_by old mid same fewer c first_rest is.1,
          ))
          (λ c is. (commits_by old mid same finished_mid (finished_on g old p pages) c goal is.0, rest_by old mid same fewer c first_rest is.1));
    }
      where
        finished_mid : VirtualMap
        finished_mid = finished (next_phase p.phase (length pages.frozen.addresses)) (frozen_after p.phase pages.frozen) (committed_on g mid)

        goal : Agrees (g.shape old).vaddrs finished_mid (finished_on g old p pages)
        goal = finished_next p.phase pages.frozen (g.shape old).vaddrs (committed_on g old) (committed_on g mid) (w.commits is_done)

        first_rest : LeavesRest (g.shape old).vaddrs (g.failed old) (stored g old) (stored g mid)
        first_rest = ⊎_elim (λ was. was.1.1) (λ now. now.1) w.left.now

        by_first : (r.number ≡ next_number_in p.phase p.number) × Agrees (g.shape mid).vaddrs (committed_on g new) (committed_on g mid)
            → ((r.number ≡ p.number) × Agrees (g.shape old).vaddrs (committed_on g new) (committed_on g old))
            ⊎ ((r.number ≡ begun p (length pages.frozen.addresses)) × Agrees (g.shape old).vaddrs (committed_on g new) (finished_on g old p pages))
        by_first x = ⊎_elim
            (λ one. inl (x.0 ∙ one.0, agrees_by old mid same (committed_on g new) (committed_on g mid) (committed_on g old) x.1 one.1))
            (λ one. inr (x.0 ∙ one.0, agrees_by old mid same (committed_on g new) (committed_on g mid) (finished_on g old p pages) x.1 one.1))
            (after_one p.phase p.number (g.shape old).vaddrs (length pages.frozen.addresses) pages.frozen (committed_on g mid) (committed_on g old) some (w.commits is_done))

    -- by the answers of the two
    pub writes_step : (done over : Type 0) (q r : Progress) (mid_pages new_pages : Pages) → done → IsPhase p.phase (length pages.frozen.addresses) → 1 ≤ length pages.frozen.addresses
        → q ≡ next p (length pages.frozen.addresses) → mid_pages ≡ record pages { frozen = frozen_after p.phase pages.frozen }
        → UnitWrites g done p q pages mid_pages old mid → FinishWrites g over q r mid_pages new_pages mid new
        → (over → is_decided p.phase ≡ false → is_decided q.phase ≡ false → Earlier (g.clock mid) (g.clock new)) → FinishWrites g over p r pages new_pages old new
    writes_step done over q r mid_pages new_pages is_done at some is_next is_after w rest ticks = writes_then done over r new_pages is_done at some
        (subst (λ (n : Pages). UnitWrites g done p (next p (length pages.frozen.addresses)) pages n old mid) is_after (subst (λ (s : Progress). UnitWrites g done p s pages mid_pages old mid) is_next w))
        (subst (λ (n : Pages). FinishWrites g over (next p (length pages.frozen.addresses)) r n new_pages mid new) is_after (subst (λ (s : Progress). FinishWrites g over s r mid_pages new_pages mid new) is_next rest))
        (λ o before undecided. ticks o before (ap (λ (s : Progress). is_decided s.phase) is_next ∙ undecided))

-- the number of the last transaction, and the units that are left, after a unit by its answer
pub begun_step : (p q : Progress) (pages mid_pages : Pages) → 1 ≤ length pages.frozen.addresses → q ≡ next p (length pages.frozen.addresses) → mid_pages ≡ record pages { frozen = frozen_after p.phase pages.frozen }
    → begun q (length mid_pages.frozen.addresses) ≡ begun p (length pages.frozen.addresses)
begun_step p q pages mid_pages some is_next is_after =
    ap (λ (s : Progress). begun s (length mid_pages.frozen.addresses)) is_next
    ∙ ap (λ (n : Pages). begun (next p (length pages.frozen.addresses)) (length n.frozen.addresses)) is_after ∙ begun_next p.phase p.number pages.frozen some

-- the number of the last transaction whose commit page was written, after a unit by its answer
number_next : (phase : Phase) (number pages : ℕ) → (next_number_in phase number ≡ number) ⊎ (next_number_in phase number ≡ begun_in phase number pages)
number_next Header number pages = inl refl
number_next (Image i) number pages = inl refl
number_next Commit number pages = inr refl
number_next (Home i) number pages = inl refl

pub number_step : (p q r : Progress) (pages mid_pages : Pages) → q ≡ next p (length pages.frozen.addresses) → begun q (length mid_pages.frozen.addresses) ≡ begun p (length pages.frozen.addresses)
    → (r.number ≡ q.number) ⊎ (r.number ≡ begun q (length mid_pages.frozen.addresses)) → (r.number ≡ p.number) ⊎ (r.number ≡ begun p (length pages.frozen.addresses))
number_step p q r pages mid_pages is_next stays (inr all) = inr (all ∙ stays)
number_step p q r pages mid_pages is_next stays (inl same) =
    let is : r.number ≡ next_number_in p.phase p.number = same ∙ ap (λ (x : Progress). x.number) is_next in
    ⊎_elim (λ e. inl (is ∙ e)) (λ e. inr (is ∙ e)) (number_next p.phase p.number (length pages.frozen.addresses))

pub units_step : (p q : Progress) (pages mid_pages : Pages) → IsPhase p.phase (length pages.frozen.addresses) → 1 ≤ length pages.frozen.addresses → q ≡ next p (length pages.frozen.addresses)
    → mid_pages ≡ record pages { frozen = frozen_after p.phase pages.frozen } → units_left q.phase (length mid_pages.frozen.addresses) + 1 ≡ units_left p.phase (length pages.frozen.addresses)
units_step p q pages mid_pages at some is_next is_after =
    ap (λ (s : Progress). units_left s.phase (length mid_pages.frozen.addresses) + 1) is_next
    ∙ ap (λ (n : Pages). units_left (next_phase p.phase (length pages.frozen.addresses)) (length n.frozen.addresses) + 1) is_after ∙ units_next p.phase pages.frozen at some

-- where units are left, pages are frozen
pub some_frozen : (phase : Phase) (pages : ℕ) → IsPhase phase pages → (units_left phase pages ≡ 0 → ⊥) → 1 ≤ pages
some_frozen Header zero at left = absurd (left refl)
some_frozen Header (suc n) at left = omega arith
some_frozen (Image i) pages at left = omega (arith, at)
some_frozen Commit pages at left = at
some_frozen (Home i) pages at left = omega (arith, at)

-- once all are done nothing is frozen
pub all_finished : (phase : Phase) (frozen : Frozen) → IsPhase phase (length frozen.addresses) → units_left phase (length frozen.addresses) ≤ 0 → (phase ≡ Header) × (frozen.addresses ≡ [])
all_finished phase frozen at none = let e = nothing_left phase frozen at (omega (arith, none)) in (e.0, no_addresses frozen.addresses e.1)

pub done_is : (r : Answer) → ((w f : ℕ) → r ≡ unit.Lost w f → ⊥) → (r ≡ unit.Fault → ⊥) → UnitIsDone r
done_is unit.Programmed a b = tt
done_is (unit.Decided n) a b = tt
done_is unit.AllHome a b = tt
done_is (unit.Lost w f) a b = a w f refl
done_is unit.Fault a b = b refl

-- a transaction takes at most 130 writes
pub few_units : (phase : Phase) (frozen : Frozen) (count : ℕ) → IsPhase phase (length frozen.addresses) → (1 ≤ length frozen.addresses → IsTransaction count frozen) → units_left phase (length frozen.addresses) ≤ 130
few_units phase frozen count at t = by (length frozen.addresses) refl
  where
    units_most : (p : Phase) (n : ℕ) → IsPhase p n → n ≤ 64 → units_left p n ≤ 130
    units_most Header zero at few = omega arith
    units_most Header (suc n) at few = let is = header_units (suc n) (omega arith) in omega (arith, few, is)
    units_most (Image i) n at few = omega (arith, few)
    units_most Commit n at few = omega (arith, few)
    units_most (Home i) n at few = omega (arith, few)

    by : (n : ℕ) → length frozen.addresses ≡ n → units_left phase (length frozen.addresses) ≤ 130
    by zero is = units_most phase (length frozen.addresses) at (omega (arith, is))
    by (suc n) is = units_most phase (length frozen.addresses) at (t (omega (arith, is))).pages.few

-- what is frozen stays until all of it is home
pub frozen_waits : (phase : Phase) (frozen : Frozen) → (frozen_after phase frozen ≡ none_frozen → ⊥) → frozen_after phase frozen ≡ frozen
frozen_waits Header frozen off = refl
frozen_waits (Image i) frozen off = refl
frozen_waits Commit frozen off = refl
frozen_waits (Home i) frozen off = by (nat_lt (i + 1) (length frozen.addresses)) off
  where
    by : (b : Bool) → ((if b then frozen else none_frozen) ≡ none_frozen → ⊥) → (if b then frozen else none_frozen) ≡ frozen
    by true off = refl
    by false off = absurd (off refl)
