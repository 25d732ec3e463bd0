-- The trees of a volume go on through a whole commit, and what a stop within it opens as.
use Rattle.std.proofs.Common.{◌≡◌, inl, inr, ⊎_elim, ℕ, ◌<◌, ◌≤◌, ◌^◌, Bool, true, false, List, length, Option, Some, None, refl, sym, ap, subst, ◌∙◌, arith}
use Rattle.std.specs.Prelude.{IfSome, ⊤}
use Rattle.std.proofs.lemmas.Bool.{cases_lt}
use Rattle.std.proofs.lemmas.List.{get_or-set_same}
use Rattle.nl_field.specs.CrashStates.{Earlier, Turns}
use Rattle.nl_field.specs.Members.{Has}
use Rattle.nl_field.specs.SuperPage.{super_bytes}
use Rattle.nl_field.specs.Virtual.{or_zeros}
use Rattle.nl_field.specs.declared.answers.VirtualWrite.TheVariants as write
use Rattle.nl_field.specs.declared.pointer.Pointer.{Pointer}
use Rattle.nl_field.specs.declared.pointer.Tag.{Tag}
use Rattle.nl_field.specs.declared.shape.Shape.{Shape}
use Rattle.nl_iface.specs.Calls.{CrashStatesHave}
use Rattle.nl_iface.specs.Device.{IsVolumeShape}
use Rattle.nl_iface.specs.Stored.{Stored}
use Rattle.nl_iface.specs.declared.counts.Counts.{Ghosts}
use Rattle.nl_spec_holders.specs.Holding.{Holding, KeepsCommitted}
use Rattle.nl_journal.specs.Committing.{ahead_on, committed_on, finished_on}
use Rattle.nl_journal.specs.Left.{CommitWrites, LeavesEither, LeavesOne, LeavesOneOf}
use Rattle.nl_journal.specs.Outcomes.{Agrees}
use Rattle.nl_journal.specs.Progress.{HasNumber, Progress, units_left}
use Rattle.nl_meta.specs.Committed.{VirtualMap}
use Rattle.nl_meta.specs.Consistent.{PageOfStamp}
use Rattle.nl_meta.specs.Nodes.{Held}
use Rattle.nl_meta.specs.Pages.{IsPages, Pages, dirty_pages, page_of}
use Rattle.nl_meta.specs.Steps.{with_dirty}
use Rattle.nl_meta_running.specs.Running.{running_on}
use Rattle.nl_spec_image.specs.CrashConsistency.{LeavesTree}
use Rattle.nl_journal_commit.specs.Committing.{ChangesAt, EarlierAt}
use Rattle.nl_journal_commit.specs.Completing.{Completes, IsDecided, AwaitsCommitPage}
use Rattle.nl_journal_commit.specs.Counting.{record_of, with_count, with_frozen}
use Rattle.nl_journal_commit.specs.Standing.{CanFreeze, IsJournaled, PreservesGraph}
use Rattle.nl_journal_commit.proofs.CommittingSteps.{first_is_dirty}
use Rattle.nl_journal_commit.proofs.CompletingSteps.{closed_by, closed_pages}
use Rattle.nl_journal_commit.proofs.Places.{resident_below}
use Rattle.nl_journal_commit.proofs.Standing.{dirty_is_a_transaction, freezing_stands, super_page_stands}
use Rattle.nl_spec_commits.specs.Committed.{IsHoldingOn, read_as}
use Rattle.nl_spec_commits.specs.Held.{IsHeldVolume}
use Rattle.nl_spec_commits.specs.Standing.{IsFirm, LeadsCommitted, LeavesRepresented, ShowsPages, RepresentsAndLeads}
use Rattle.nl_spec_commits.specs.TreeLaws.{CommitPreservesTrees, CommitLeaves, CommitsTrees, OpensFrom, committed_by, completed, decided_tree, frozen_by, frozen_now, last_commit_moment}
use Rattle.nl_spec_commits.specs.Trees.{StoredOpensAs, Prefix, RepresentsTrees, Trees, prefixes}
use Rattle.nl_spec_commits.proofs.Ahead.{runs_some}
use Rattle.nl_spec_commits.proofs.Completing.{completes_moves}
use Rattle.nl_spec_commits.proofs.Counted.{super_page_held}
use Rattle.nl_spec_commits.proofs.Freezing.{number_before, super_pages_hold}
use Rattle.nl_spec_commits.proofs.Stopping.{held_alike, held_lead, running_lead, stops_stand}
use Rattle.nl_spec_commits.proofs.Trees.{freezing_goes, goes_on, is_open, stands_as, super_page_goes, with_super}

-- the super page once it has other bytes
pub dirty_there : {D : Type 0} (g : Ghosts D) (s : D) (p : Progress) (pages : Pages) (bytes : List ℕ) → IsJournaled g s p pages → page_of (with_dirty pages 0 bytes) 0 ≡ Some bytes
dirty_there g s p pages bytes j = get_or-set_same pages.running 0 (Some bytes) None (resident_below pages 0 j.super_page)

-- what a part leaves committed is one of the trees
decided_has : (count : ℕ) (decided : Option ℕ) (x : Trees) → Has (prefixes count x) (decided_tree decided x)
decided_has count None x = inl refl
decided_has count (Some moment) x = inr (inl refl)

committed_whole : (count : ℕ) (earlier decided : Option ℕ) (x : Trees) → decided_tree decided (frozen_now count (completed earlier x)) ≡ committed_by count earlier decided x
committed_whole count earlier None x = refl
committed_whole count earlier (Some moment) x = refl

module _ {D : Type 0} (g : Ghosts D) (done : Type 0) (s t : D) (p r : Progress) (pages now : Pages) (count : ℕ) (page_of_stamp : ℕ → Option PageOfStamp) (x : Trees) (froze : Bool) (earlier decided : Option ℕ) (volume : IsVolumeShape (g.shape s)) (tells : g.tells)
    (numbers : HasNumber r (length now.frozen.addresses)) (small : count < 2 ^ 63) (j : IsJournaled g s p pages) (at : RepresentsTrees g s p pages count page_of_stamp x) where
  abbrev pub counted : Pages
  counted = with_count (g.shape s) count pages

  stored : PreservesGraph g s pages s p counted
  stored = super_page_stands g s p pages (super_bytes (record_of (g.shape s) count)) volume j

  -- the first part alone
  halves : (m : D) (q : Progress) (mid : Pages) (half : Type 0) → HasNumber p (length pages.frozen.addresses) → Completes g half s p counted m q mid → IsDecided earlier p q counted.frozen mid.frozen
      → RepresentsTrees g m q mid count page_of_stamp (completed earlier x)
  halves m q mid half small_p c is = goes_on g s m p q counted mid count page_of_stamp x volume tells small_p stored.journaled (completes_moves g half s m p q counted mid c)
      (super_page_goes g s p pages (g.shape s) count count page_of_stamp x volume j at) earlier is

  stopped : (m : D) (q : Progress) (mid : Pages) (half : Type 0) → HasNumber q (length mid.frozen.addresses) → Completes g half s p counted m q mid → IsDecided earlier p q counted.frozen mid.frozen → froze ≡ false → decided ≡ None
      → CommitsTrees g m q mid count page_of_stamp froze earlier decided x
  stopped m q mid half small_q c is off none = record {
    trees = completed earlier x;
    stands = halves m q mid half (subst (λ n. n < 9223372036854775808) c.finishes.begun_stays small_q) c is;
    running = refl;
    committed = sym (ap (λ (o : Option ℕ). committed_by count earlier o x) none);
    frozen = sym (ap (λ (b : Bool). frozen_by count b x) off);
  }

  whole : (m : D) (q : Progress) (mid : Pages) (half : Type 0) → Completes g half s p counted m q mid → IsDecided earlier p q counted.frozen mid.frozen → IsPages mid → CanFreeze (g.shape m).vaddrs q mid
      → Completes g done m q (with_frozen mid) t r now → IsDecided decided q r (dirty_pages mid) now.frozen → froze ≡ true → CommitsTrees g t r now count page_of_stamp froze earlier decided x
  whole m q mid half c is held can later also on =
      let small_d : HasNumber q (length mid.dirty) = subst (λ n. n < 9223372036854775808) later.finishes.begun_stays numbers in
      let small_q : HasNumber q (length mid.frozen.addresses) = number_before (g.shape m).vaddrs q mid can small_d in
      let small_p : HasNumber p (length pages.frozen.addresses) = subst (λ n. n < 9223372036854775808) c.finishes.begun_stays small_q in
      let volume_m = subst IsVolumeShape (sym c.same_shape) volume in
      let one = halves m q mid half small_p c is in
      let there : page_of mid 0 ≡ Some (super_bytes (record_of (g.shape m) count)) =
      ap (λ (n : Pages). page_of n 0) c.finishes.kept ∙ super_there ∙ ap (λ (h : Shape). Some (super_bytes (record_of h count))) (sym c.same_shape) in
      let two = freezing_goes g m q mid count page_of_stamp (completed earlier x) volume_m tells small_q c.stands.journaled held can there small one in
      let frozen = freezing_stands g m q mid volume_m c.stands.journaled held can in
      record {
        trees = completed decided (frozen_now count (completed earlier x));
        stands = goes_on g m t q r (with_frozen mid) now count page_of_stamp (frozen_now count (completed earlier x)) volume_m tells small_d frozen.journaled
            (completes_moves g done m t q r (with_frozen mid) now later) two decided also;
        running = refl;
        committed = committed_whole count earlier decided x;
        frozen = sym (ap (λ (b : Bool). frozen_by count b x) on);
      }
    where
      super_there : page_of counted 0 ≡ Some (super_bytes (record_of (g.shape s) count))
      super_there = dirty_there g s p pages (super_bytes (record_of (g.shape s) count)) j

pub commit_goes : {D : Type 0} (g : Ghosts D) → CommitPreservesTrees g
commit_goes {D = D} g answer s t p r pages now count page_of_stamp x froze earlier decided volume tells numbers small j c at = ⊎_elim
    (λ y.
    subst (λ (d : D). CommitsTrees g d r now count page_of_stamp froze earlier decided x) (sym y.2)
    (subst (λ (q : Progress). CommitsTrees g c.between q now count page_of_stamp froze earlier decided x) (sym y.3)
    (subst (λ (m : Pages). CommitsTrees g c.between c.halfway m count page_of_stamp froze earlier decided x) (sym y.4)
    (stopped g (answer ≡ write.Done) s t p r pages now count page_of_stamp x froze earlier decided volume tells numbers small j at c.between c.halfway c.rest (c.answer ≡ write.Done)
    (subst (λ (m : Pages). HasNumber c.halfway (length m.frozen.addresses)) y.4 (subst (λ (q : Progress). HasNumber q (length now.frozen.addresses)) y.3 numbers)) c.first c.first_decided y.0 y.5))))
    (λ y. whole g (answer ≡ write.Done) s t p r pages now count page_of_stamp x froze earlier decided volume tells numbers small j at c.between c.halfway c.rest (c.answer ≡ write.Done) c.first c.first_decided y.1 y.2 y.3 y.4 y.0) c.second

-- ---- what a stop leaves

-- pages that agree with those that stand for a tree, and whose pointers lead
stand_alike : {D : Type 0} (g : Ghosts D) (s : D) (old new : VirtualMap) (page_of_stamp : ℕ → Option PageOfStamp) (z : Prefix) → Agrees (g.shape s).vaddrs new old → RepresentsAndLeads g s old page_of_stamp z.0 z.1
    → RepresentsAndLeads g s new page_of_stamp z.0 z.1
stand_alike g s old new page_of_stamp z alike m = record {
  map = stands_as (g.shape s) old new page_of_stamp z alike m.map;
  lead = λ h has. m.lead h (subst (λ (hs : List Held). Has hs h)
      (held_alike (g.shape s) (read_as (g.shape s) old) (read_as (g.shape s) new) page_of_stamp z.0 z.1 (λ v home. ap (λ (o : Option (List ℕ)). or_zeros (g.shape s) v o) (alike v home)) m.map) has);
}

module _ {D : Type 0} (g : Ghosts D) (s t : D) (p r : Progress) (pages now : Pages) (count : ℕ) (page_of_stamp : ℕ → Option PageOfStamp) (x : Trees) (flight : List (Tag × Pointer)) (freeing : List Pointer) (volume : IsVolumeShape (g.shape s))
    (tells : g.tells) (numbers : HasNumber p (length pages.frozen.addresses)) (small : count < 2 ^ 63) (j : IsJournaled g s p pages) (held : IsPages pages) {leaving : ℕ} (h : IsHeldVolume g s p pages flight freeing leaving)
    (firm : IsFirm g s) (shows : ShowsPages (g.names s) (g.bytes s) page_of_stamp) (at : RepresentsTrees g s p pages count page_of_stamp x) where
  abbrev pub counted_pages : Pages
  counted_pages = with_count (g.shape s) count pages

  abbrev pub v : Holding
  v = h.holding

  journaled : IsJournaled g s p counted_pages
  journaled = (super_page_stands g s p pages (super_bytes (record_of (g.shape s) count)) volume j).journaled

  on : IsHoldingOn g s p counted_pages v
  on = super_pages_hold g s p pages (super_bytes (record_of (g.shape s) count)) v volume j h.is_of

  keeps : KeepsCommitted v
  keeps = h.committed (tells, numbers)

  stands : RepresentsTrees g s p counted_pages count page_of_stamp x
  stands = super_page_goes g s p pages (g.shape s) count count page_of_stamp x volume j at

  leads : LeadsCommitted g s p counted_pages page_of_stamp
  leads = held_lead g s p counted_pages v page_of_stamp tells numbers on keeps shows

  shut_alike : (AwaitsCommitPage p counted_pages.frozen → ⊥) → Agrees (g.shape s).vaddrs (finished_on g s p counted_pages) (committed_on g s)
  shut_alike shut u home = sym (closed_pages p.phase counted_pages.frozen (committed_on g s) (g.shape s).vaddrs
      (closed_by p.phase counted_pages.frozen journaled.order.phase
      (⊎_elim (λ more. absurd (shut more)) (λ few. few) (cases_lt (length counted_pages.frozen.addresses) (units_left p.phase (length counted_pages.frozen.addresses))))) u home)

  are : IsPages counted_pages
  are = super_page_held pages (super_bytes (record_of (g.shape s) count)) held j.super_page

  first : RepresentsAndLeads g s (committed_on g s) page_of_stamp x.committed.0 x.committed.1
  first = leads.committed x.committed.0 x.committed.1 stands.committed

  second : RepresentsAndLeads g s (finished_on g s p counted_pages) page_of_stamp x.frozen.0 x.frozen.1
  second = ⊎_elim (λ more. leads.frozen more x.frozen.0 x.frozen.1 (stands.frozen more))
      (λ shut. subst (λ (z : Prefix). RepresentsAndLeads g s (finished_on g s p counted_pages) page_of_stamp z.0 z.1) (sym (stands.thawed shut))
      (stand_alike g s (committed_on g s) (finished_on g s p counted_pages) page_of_stamp x.committed (shut_alike shut) first))
      (is_open p counted_pages.frozen)

  third : RepresentsAndLeads g s (ahead_on g s p counted_pages) page_of_stamp count x.running
  third = running_lead g s p counted_pages v page_of_stamp count x.running tells numbers volume journaled are (dirty_is_a_transaction g s p counted_pages journaled are (first_is_dirty pages.dirty)) on.runs h.holds shows
      (with_super (g.shape s) (running_on g s counted_pages) page_of_stamp count x.running small
      (runs_some g s counted_pages 0 (super_bytes (record_of (g.shape s) count)) (dirty_there g s p pages (super_bytes (record_of (g.shape s) count)) j)) stands.running)

  leaves : LeavesRepresented g s
  leaves = stops_stand g s volume firm

  -- as one of the trees
  abbrev pub Opens : ℕ → Stored → Type 0
  Opens least c = (z : Prefix) × Has (prefixes count x) z × StoredOpensAs (g.shape s) c z × (least ≤ z.0)

  opens : (c : Stored) (z : Prefix) → LeavesTree (g.shape s) (g.names s) (g.bytes s) page_of_stamp c z.0 z.1 → StoredOpensAs (g.shape s) c z
  opens c z l = (g.names s, g.bytes s, page_of_stamp, l)

  pub last_opens : (c : Stored) → LeavesOne g s (ahead_on g s p counted_pages) c → Opens count c
  last_opens c l = ((count, x.running), inr (inr (inl refl)), opens c (count, x.running) (leaves.one (ahead_on g s p counted_pages) page_of_stamp c count x.running l third), omega arith)

  pub either_opens : (c : Stored) → LeavesEither g s (finished_on g s p counted_pages) (ahead_on g s p counted_pages) c → Opens x.frozen.0 c
  either_opens c l = ⊎_elim
      (λ one. (x.frozen, inr (inl refl), opens c x.frozen one, omega arith))
      (λ two. ((count, x.running), inr (inr (inl refl)), opens c (count, x.running) two, at.latest))
      (leaves.either (finished_on g s p counted_pages) (ahead_on g s p counted_pages) page_of_stamp c x.frozen.0 count x.frozen.1 x.running l second third)

  pub any_opens : (c : Stored) → LeavesOneOf g s (committed_on g s) (finished_on g s p counted_pages) (ahead_on g s p counted_pages) c → Opens x.committed.0 c
  any_opens c l = ⊎_elim
      (λ one. (x.committed, inl refl, opens c x.committed one, omega arith))
      (λ more. ⊎_elim
      (λ two. (x.frozen, inr (inl refl), opens c x.frozen two, at.later))
      (λ three. ((count, x.running), inr (inr (inl refl)), opens c (count, x.running) three, let a = at.later in let b = at.latest in omega (arith, a, b))) more)
      (leaves.one_of (committed_on g s) (finished_on g s p counted_pages) (ahead_on g s p counted_pages) page_of_stamp c x.committed.0 x.frozen.0 count x.committed.1 x.frozen.1 x.running l first second third)

  abbrev pub From : ℕ → Prefix → ℕ → Stored → Type 0
  From moment committed m c = OpensFrom (g.shape s) count moment x committed m c

  from : (moment m : ℕ) (committed : Prefix) (c : Stored) → Opens committed.0 c → From moment committed m c
  from moment m committed c o = (o.0, o.1, o.2, λ after. o.3)

  early : (moment m : ℕ) (committed : Prefix) (c : Stored) (least : ℕ) → (moment ≤ m → ⊥) → Opens least c → From moment committed m c
  early moment m committed c least before o = (o.0, o.1, o.2, λ after. absurd (before after))

  earlier_no : (moment m : ℕ) → m ≤ g.clock t → g.clock t < 2 ^ 63 → Earlier m moment → moment ≤ m → ⊥
  earlier_no moment m to few e after = let lt = e (omega (arith, to, few)) in omega (arith, lt, after)

  turned : (moment : ℕ) (committed : Prefix) (A : Stored → Type 0) → ((c : Stored) → A c → Opens committed.0 c) → g.clock t < 2 ^ 63
      → CrashStatesHave g (Turns ⊤ moment (LeavesOneOf g s (committed_on g s) (finished_on g s p counted_pages) (ahead_on g s p counted_pages)) A) s t → CrashStatesHave g (From moment committed) s t
  turned moment committed A opens_a few l = record {
    later = l.later;
    each = λ m c left. ⊎_elim inl
        (λ k. inr (
          k.0,
          k.1,
          ⊎_elim
              (λ b. early moment m committed (g.stored_of c) x.committed.0 (earlier_no moment m k.1 few (b.0 tt)) (any_opens (g.stored_of c) b.1))
              (λ a. from moment m committed (g.stored_of c) (opens_a (g.stored_of c) a)) k.2,
        ))
        (l.each m c left);
  }

  pub leaves_from : (before : ℕ) (done : Type 0) (earlier decided : Option ℕ) → HasNumber r (length now.frozen.addresses) → g.clock t < 2 ^ 63 → CommitWrites g done p r counted_pages now s t
      → IfSome earlier (EarlierAt g s t p r counted_pages now) → IfSome decided (ChangesAt g s t p r counted_pages now)
      → CrashStatesHave g (From (last_commit_moment before earlier decided) (committed_by count earlier decided x)) s t
  leaves_from before done earlier (Some moment) numbers_r few w e d = turned moment (count, x.running) (LeavesOne g s (ahead_on g s p counted_pages)) last_opens few (d.stops tells numbers_r)
  leaves_from before done (Some moment) None numbers_r few w e d =
      turned moment x.frozen (LeavesEither g s (finished_on g s p counted_pages) (ahead_on g s p counted_pages)) either_opens few (e.stops tells numbers_r)
  leaves_from before done None None numbers_r few w e d = record {
    later = w.left.stops.later;
    each = λ m c left. ⊎_elim inl
        (λ k. inr (
          k.0,
          k.1,
          ⊎_elim
              (λ b. from before m x.committed (g.stored_of c) (any_opens (g.stored_of c) b.1))
              (λ a. let o = last_opens (g.stored_of c) a in (o.0, o.1, o.2, λ after. let one = o.3 in let two = at.later in let three = at.latest in omega (arith, one, two, three))) k.2,
        ))
        (w.left.stops.each m c left);
  }

pub commit_leaves : {D : Type 0} (g : Ghosts D) → CommitLeaves g
commit_leaves g answer s t p r pages now count before page_of_stamp x earlier decided flight freeing leaving volume tells numbers numbers_r small few j are h firm shows w e d at =
    leaves_from g s t p r pages now count page_of_stamp x flight freeing volume tells numbers small j are h firm shows at before (answer ≡ write.Done) earlier decided numbers_r few w e d
