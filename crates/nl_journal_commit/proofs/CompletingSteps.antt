-- The commit page is written, and then the pages are copied home.
use Rattle.std.proofs.Common.{◌≡◌, ◌⊎◌, true, inl, inr, ⊎_elim, ℕ, ◌≤◌, [], length, refl, sym, ◌∙◌, ap, arith}
use Rattle.std.specs.Prelude.{⊤}
use Rattle.nl_field.specs.CrashStates.{Turns}
use Rattle.nl_field.proofs.Crashes.{then, weaken}
use Rattle.nl_iface.specs.Calls.{CrashStatesHave, stored}
use Rattle.nl_iface.specs.Stored.{Stored, Value}
use Rattle.nl_iface.specs.declared.counts.Counts.{Ghosts}
use Rattle.nl_journal.specs.Committing.{committed_on, finished, finished_on, is_decided}
use Rattle.nl_journal.specs.Left.{FinishWrites, LeavesEither, LeavesOne, LeavesRest}
use Rattle.nl_journal.specs.Outcomes.{Agrees, bytes_of}
use Rattle.nl_journal.specs.Homes.{BringsHome}
use Rattle.nl_journal.specs.Progress.{IsPhase, Progress, begun, begun_in, units_left}
use Rattle.nl_journal.specs.Standing.{JournalInOrder}
use Rattle.nl_journal.specs.Units.{Finishes}
use Rattle.nl_journal.specs.declared.answers.Phase.{Phase}
use Rattle.nl_journal.specs.declared.answers.Phase.TheVariants.{Header, Image, Commit, Home}
use Rattle.nl_journal.proofs.Finishing.{few_left}
use Rattle.nl_journal.proofs.FinishSteps.{agrees_by, commits_by, no_addresses, none_left, rest_by}
use Rattle.nl_journal.proofs.Stops.{at_then}
use Rattle.nl_meta.specs.Committed.{VirtualMap}
use Rattle.nl_meta.specs.Pages.{Frozen, Pages, none_frozen}
use Rattle.nl_journal_commit.specs.Completing.{AwaitsCommitPage}
use Rattle.nl_journal_commit.specs.Standing.{WritesFrozen}

-- ---- what the calls say

pub writes_frozen : {D : Type 0} (g : Ghosts D) (s t : D) (p q : Progress) (pages now : Pages) (until : ℕ) (done : Type 0) → g.shape t ≡ g.shape s → JournalInOrder g t q now.frozen → Finishes until done p q pages now
    → (g.tells → BringsHome (g.shape s).vaddrs p q pages.frozen now.frozen (bytes_of (g.map s)) (bytes_of (g.map t))) → WritesFrozen g s p pages t q now
writes_frozen g s t p q pages now until done same order f home = record { same_shape = same; order = order; kept = f.kept; frozen = f.frozen; home = home }

-- ---- the commit page is written

-- nothing is frozen, or the commit page is written
abbrev pub IsClosed : Phase → Frozen → Type 0
IsClosed phase frozen = ((phase ≡ Header) × (frozen.addresses ≡ [])) ⊎ (is_decided phase ≡ true)

pub closed_by : (phase : Phase) (frozen : Frozen) → IsPhase phase (length frozen.addresses) → units_left phase (length frozen.addresses) ≤ length frozen.addresses → IsClosed phase frozen
closed_by phase frozen at few = ⊎_elim (λ none. inl (none.0, no_addresses frozen.addresses none.1)) (λ decided. inr decided) (few_left phase (length frozen.addresses) at few)

begun_header : (phase : Phase) (number pages : ℕ) → phase ≡ Header → pages ≡ 0 → begun_in phase number pages ≡ number
begun_header Header number pages is none = ap (λ n. begun_in Header number n) none
begun_header (Image i) number pages is none = absurd (let no : ⊥ = cc in no)
begun_header Commit number pages is none = absurd (let no : ⊥ = cc in no)
begun_header (Home i) number pages is none = absurd (let no : ⊥ = cc in no)

begun_decided : (phase : Phase) (number pages : ℕ) → is_decided phase ≡ true → begun_in phase number pages ≡ number
begun_decided Header number pages is = absurd (let no : ⊥ = cc in no)
begun_decided (Image i) number pages is = absurd (let no : ⊥ = cc in no)
begun_decided Commit number pages is = absurd (let no : ⊥ = cc in no)
begun_decided (Home i) number pages is = refl

finished_decided : (phase : Phase) (frozen : Frozen) (base : VirtualMap) (v : ℕ) → is_decided phase ≡ true → finished phase frozen base v ≡ base v
finished_decided Header frozen base v is = absurd (let no : ⊥ = cc in no)
finished_decided (Image i) frozen base v is = absurd (let no : ⊥ = cc in no)
finished_decided Commit frozen base v is = absurd (let no : ⊥ = cc in no)
finished_decided (Home i) frozen base v is = refl

-- where nothing is frozen, or the commit page is written, the number is that of the last transaction that was begun
pub closed_number : (q : Progress) (frozen : Frozen) → IsClosed q.phase frozen → begun q (length frozen.addresses) ≡ q.number
closed_number q frozen (inl none) = begun_header q.phase q.number (length frozen.addresses) none.0 (ap length none.1)
closed_number q frozen (inr decided) = begun_decided q.phase q.number (length frozen.addresses) decided

-- where nothing is frozen, or the commit page is written, the pages are the committed ones
pub closed_pages : (phase : Phase) (frozen : Frozen) (base : VirtualMap) (count : ℕ) → IsClosed phase frozen → Agrees count base (finished phase frozen base)
closed_pages phase frozen base count (inl none) v home = sym (none_left phase frozen base v none.0 none.1)
closed_pages phase frozen base count (inr decided) v home = sym (finished_decided phase frozen base v decided)

-- a unit that was not done leaves it to be written
pub open_still : (p q : Progress) (pages now : Pages) (until : ℕ) (done : Type 0) → (done → ⊥) → until ≡ length pages.frozen.addresses → Finishes until done p q pages now → AwaitsCommitPage q now.frozen
open_still p q pages now until done off is f =
    let more = f.more off in
    let same : length now.frozen.addresses ≡ length pages.frozen.addresses = ap (λ (x : Frozen). length x.addresses) (f.waits off) in
    omega (arith, more, same, is)

-- no more units are left than pages are frozen
pub few_of : (q : Progress) (now old : Frozen) (until : ℕ) → until ≡ length old.addresses → units_left q.phase (length now.addresses) ≤ until → (now ≡ old) ⊎ ((q.phase ≡ Header) × (now ≡ none_frozen))
    → units_left q.phase (length now.addresses) ≤ length now.addresses
few_of q now old until is left (inl same) = let e : length now.addresses ≡ length old.addresses = ap (λ (x : Frozen). length x.addresses) same in omega (arith, e, is, left)
few_of q now old until is left (inr gone) =
    let e : length now.addresses ≡ 0 = ap (λ (x : Frozen). length x.addresses) gone.1 in
    let none : units_left q.phase (length now.addresses) ≡ 0 = ap (λ (x : Phase). units_left x (length now.addresses)) gone.0 ∙ ap (λ n. units_left Header n) e in
    omega (arith, none)

-- the committed pages are those of the transaction
module _ {D : Type 0} (g : Ghosts D) (old mid new : D) (p q r : Progress) (pages mid_pages new_pages : Pages) (same : g.shape mid ≡ g.shape old)
    (fewer : (v : ℕ) (x : Value) → g.failed mid v x → g.failed old v x) (done over : Type 0) (is_done : done)
    (closed : Agrees (g.shape old).vaddrs (committed_on g mid) (finished_on g mid q mid_pages))
    (w : FinishWrites g done p q pages mid_pages old mid) (rest : FinishWrites g over q r mid_pages new_pages mid new) where
  abbrev pub all : VirtualMap
  all = finished_on g old p pages

  as_all : Agrees (g.shape old).vaddrs (committed_on g mid) all
  as_all v home = closed v home ∙ w.same_finished v home

  first_rest : LeavesRest (g.shape old).vaddrs (g.failed old) (stored g old) (stored g mid)
  first_rest = ⊎_elim (λ was. was.1.1) (λ now. now.1) w.left.now

  only_all : (c : Stored) → LeavesEither g mid (committed_on g mid) (finished_on g mid q mid_pages) c → LeavesOne g old all c
  only_all c is = (
    ⊎_elim (λ before. commits_by g old mid same (committed_on g mid) all c as_all before) (λ after. commits_by g old mid same (finished_on g mid q mid_pages) all c w.same_finished after) is.0,
    rest_by g old mid same fewer c first_rest is.1,
  )

  all_then : (c : Stored) → LeavesOne g mid (finished_on g mid q mid_pages) c → LeavesOne g old all c
  all_then c is = (commits_by g old mid same (finished_on g mid q mid_pages) all c w.same_finished is.0, rest_by g old mid same fewer c first_rest is.1)

  pub complete_then : (number : q.number ≡ begun p (length pages.frozen.addresses)) → begun q (length mid_pages.frozen.addresses) ≡ begun p (length pages.frozen.addresses) → FinishWrites g over p r pages new_pages old new
  complete_then number stays = record {
    decided = inr (⊎_elim
        (λ x. (x.0 ∙ number, agrees_by g old mid same (committed_on g new) (committed_on g mid) all x.1 as_all))
        (λ x. (x.0 ∙ stays, agrees_by g old mid same (committed_on g new) (finished_on g mid q mid_pages) all x.1 w.same_finished)) rest.decided);
    same_finished = agrees_by g old mid same (finished_on g new r new_pages) (finished_on g mid q mid_pages) all rest.same_finished w.same_finished;
    left = at_then g done over _ _ _ _ _ _ old mid new is_done w.left rest.left (λ c is. is) (inr (λ c is. is))
        (λ c is. let one = only_all c is in (inr one.0, one.1)) all_then;
  }

  pub complete_stops : CrashStatesHave g (Turns ⊤ (g.clock mid) (LeavesEither g old (committed_on g old) all) (LeavesOne g old all)) old new
  complete_stops = then (λ m c. Turns ⊤ (g.clock mid) (LeavesEither g old (committed_on g old) all) (LeavesOne g old all) m (g.stored_of c))
      (weaken (λ m c. Turns done (g.clock mid) (LeavesEither g old (committed_on g old) all) (LeavesOne g old all) m (g.stored_of c)) (λ m c. Turns ⊤ (g.clock mid) (LeavesEither g old (committed_on g old) all) (LeavesOne g old all) m (g.stored_of c)) w.left.stops
      (λ m c from to. ⊎_elim (λ was. inl ((λ o. was.0 is_done), was.1)) (λ a. inr a)))
      (weaken (λ m c. Turns over (g.clock new) (LeavesEither g mid (committed_on g mid) (finished_on g mid q mid_pages)) (LeavesOne g mid (finished_on g mid q mid_pages)) m (g.stored_of c)) (λ m c. Turns ⊤ (g.clock mid) (LeavesEither g old (committed_on g old) all) (LeavesOne g old all) m (g.stored_of c)) rest.left.stops
      (λ m c from to. ⊎_elim (λ was. inr (only_all (g.stored_of c) was.1)) (λ a. inr (all_then (g.stored_of c) a))))
