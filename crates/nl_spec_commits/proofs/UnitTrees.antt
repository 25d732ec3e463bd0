-- The trees of a volume go on through a unit, and what a stop within it opens as.
use Rattle.std.proofs.Common.{◌≡◌, ◌⊎◌, inl, inr, ⊎_elim, ℕ, ◌<◌, ◌≤◌, ◌^◌, List, length, Option, Some, None, refl, sym, ◌∙◌, ap, subst, arith}
use Rattle.nl_field.specs.Members.{Has}
use Rattle.nl_field.specs.declared.answers.VirtualWrite.TheVariants as write
use Rattle.nl_field.specs.declared.pointer.Pointer.{Pointer}
use Rattle.nl_field.specs.declared.pointer.Tag.{Tag}
use Rattle.nl_iface.specs.Calls.{CrashStatesHave}
use Rattle.nl_iface.specs.Device.{IsVolumeShape}
use Rattle.nl_iface.specs.Stored.{Stored}
use Rattle.nl_iface.specs.declared.counts.Counts.{Ghosts}
use Rattle.nl_journal.specs.Committing.{aimed, committed_on, finished}
use Rattle.nl_journal.specs.Left.{LeavesEither, LeavesOne, UnitWrites}
use Rattle.nl_journal.specs.Progress.{HasNumber, Progress, begun_in, next_number_in, units_left}
use Rattle.nl_journal.specs.declared.answers.Phase.{Phase}
use Rattle.nl_journal.specs.declared.answers.Phase.TheVariants.{Header, Image, Commit, Home}
use Rattle.nl_meta.specs.Consistent.{PageOfStamp}
use Rattle.nl_meta.specs.Pages.{Pages}
use Rattle.nl_spec_image.specs.CrashConsistency.{LeavesTree}
use Rattle.nl_journal_commit.specs.Completing.{AwaitsCommitPage}
use Rattle.nl_journal_commit.specs.Standing.{IsJournaled}
use Rattle.nl_spec_commits.specs.Held.{IsHeldVolume}
use Rattle.nl_spec_commits.specs.Standing.{IsFirm, LeadsCommitted, LeavesRepresented, RepresentsAndLeads, ShowsPages}
use Rattle.nl_spec_commits.specs.TreeLaws.{OpensFrom, UnitLeaves, UnitPreservesTrees}
use Rattle.nl_spec_commits.specs.Trees.{Prefix, RepresentsTrees, StoredOpensAs, Trees, prefixes}
use Rattle.nl_spec_commits.proofs.Completing.{shut_by, unit_moves, unit_opens}
use Rattle.nl_spec_commits.proofs.Stopping.{held_lead, stops_stand}
use Rattle.nl_spec_commits.proofs.Trees.{goes_on}

pub unit_goes : {D : Type 0} (g : Ghosts D) → UnitPreservesTrees g
unit_goes g answer s t p q pages now count page_of_stamp x volume tells numbers j some c at = record {
  decided = λ d.
      let shut = shut_by g answer s t p q pages now j some c d.0 d.1 in
      let number = ap (λ (y : Progress). y.number) (c.goes.taken d.0).0 ∙ ap (λ (y : Phase). next_number_in y p.number) d.1 ∙ sym (ap (λ (y : Phase). begun_in y p.number (length pages.frozen.addresses)) d.1) in
      goes_on g s t p q pages now count page_of_stamp x volume tells numbers j (unit_moves g answer s t p q pages now j some c) at (Some 0) (shut.0, shut.1, number);
  same = λ off. goes_on g s t p q pages now count page_of_stamp x volume tells numbers j (unit_moves g answer s t p q pages now j some c) at None (unit_opens g answer s t p q pages now j some c off);
}

-- where the commit page is due, it is awaited
due_opens : (phase : Phase) (n : ℕ) → phase ≡ Commit → n < units_left phase n
due_opens Header n is = absurd (let no : ⊥ = cc in no)
due_opens (Image i) n is = absurd (let no : ⊥ = cc in no)
due_opens Commit n is = omega arith
due_opens (Home i) n is = absurd (let no : ⊥ = cc in no)

module _ {D : Type 0} (g : Ghosts D) (done : Type 0) (s t : D) (p q : Progress) (pages now : Pages) (count : ℕ) (page_of_stamp : ℕ → Option PageOfStamp) (x : Trees) (flight : List (Tag × Pointer)) (freeing : List Pointer) {leaving : ℕ}
    (volume : IsVolumeShape (g.shape s)) (tells : g.tells) (numbers : HasNumber p (length pages.frozen.addresses)) (few : g.clock t < 2 ^ 63) (j : IsJournaled g s p pages) (h : IsHeldVolume g s p pages flight freeing leaving) (firm : IsFirm g s)
    (shows : ShowsPages (g.names s) (g.bytes s) page_of_stamp) (w : UnitWrites g done p q pages now s t) (at : RepresentsTrees g s p pages count page_of_stamp x) where
  leads : LeadsCommitted g s p pages page_of_stamp
  leads = held_lead g s p pages h.holding page_of_stamp tells numbers h.is_of (h.committed (tells, numbers)) shows

  first : RepresentsAndLeads g s (committed_on g s) page_of_stamp x.committed.0 x.committed.1
  first = leads.committed x.committed.0 x.committed.1 at.committed

  leaves : LeavesRepresented g s
  leaves = stops_stand g s volume firm

  abbrev Opens : ℕ → Stored → Type 0
  Opens least c = (z : Prefix) × Has (prefixes count x) z × StoredOpensAs (g.shape s) c z × (least ≤ z.0)

  as_committed : (c : Stored) → LeavesTree (g.shape s) (g.names s) (g.bytes s) page_of_stamp c x.committed.0 x.committed.1 → Opens x.committed.0 c
  as_committed c l = (x.committed, inl refl, (g.names s, g.bytes s, page_of_stamp, l), omega arith)

  as_frozen : (c : Stored) → LeavesTree (g.shape s) (g.names s) (g.bytes s) page_of_stamp c x.frozen.0 x.frozen.1 → Opens x.frozen.0 c
  as_frozen c l = (x.frozen, inr (inl refl), (g.names s, g.bytes s, page_of_stamp, l), omega arith)

  no_less : (c : Stored) → Opens x.frozen.0 c → Opens x.committed.0 c
  no_less c o = (o.0, o.1, o.2, let one = o.3 in let two = at.later in omega (arith, one, two))

  -- what the commit page puts in place
  aim_commit : (phase : Phase) → phase ≡ Commit → p.phase ≡ phase → RepresentsAndLeads g s (aimed phase pages.frozen (committed_on g s)) page_of_stamp x.frozen.0 x.frozen.1
  aim_commit Header is here = absurd (let no : ⊥ = cc in no)
  aim_commit (Image i) is here = absurd (let no : ⊥ = cc in no)
  aim_commit Commit is here =
      let more : AwaitsCommitPage p pages.frozen = due_opens p.phase (length pages.frozen.addresses) here in
      let fin = leads.frozen more x.frozen.0 x.frozen.1 (at.frozen more) in
      subst (λ (y : Phase). RepresentsAndLeads g s (finished y pages.frozen (committed_on g s)) page_of_stamp x.frozen.0 x.frozen.1) here fin
  aim_commit (Home i) is here = absurd (let no : ⊥ = cc in no)

  -- and any other unit nothing
  aim_other : (phase : Phase) → (phase ≡ Commit → ⊥) → aimed phase pages.frozen (committed_on g s) ≡ committed_on g s
  aim_other Header off = refl
  aim_other (Image i) off = refl
  aim_other Commit off = absurd (off refl)
  aim_other (Home i) off = refl

  commit_or : (phase : Phase) → (phase ≡ Commit) ⊎ (phase ≡ Commit → ⊥)
  commit_or Header = inr (λ e. cc e)
  commit_or (Image i) = inr (λ e. cc e)
  commit_or Commit = inl refl
  commit_or (Home i) = inr (λ e. cc e)

  either : (c : Stored) → LeavesEither g s (committed_on g s) (aimed p.phase pages.frozen (committed_on g s)) c → Opens x.committed.0 c
  either c l = ⊎_elim
      (λ is. ⊎_elim (λ one. as_committed c one) (λ two. no_less c (as_frozen c two))
      (leaves.either (committed_on g s) (aimed p.phase pages.frozen (committed_on g s)) page_of_stamp c x.committed.0 x.frozen.0 x.committed.1 x.frozen.1 l first (aim_commit p.phase is refl)))
      (λ off. ⊎_elim (λ one. as_committed c one) (λ two. as_committed c two)
      (leaves.either (committed_on g s) (aimed p.phase pages.frozen (committed_on g s)) page_of_stamp c x.committed.0 x.committed.0 x.committed.1 x.committed.1 l first
      (subst (λ m. RepresentsAndLeads g s m page_of_stamp x.committed.0 x.committed.1) (sym (aim_other p.phase off)) first)))
      (commit_or p.phase)

  one_frozen : p.phase ≡ Commit → (c : Stored) → LeavesOne g s (aimed p.phase pages.frozen (committed_on g s)) c → Opens x.frozen.0 c
  one_frozen is c l = as_frozen c (leaves.one (aimed p.phase pages.frozen (committed_on g s)) page_of_stamp c x.frozen.0 x.frozen.1 l (aim_commit p.phase is refl))

  one_any : (c : Stored) → LeavesOne g s (aimed p.phase pages.frozen (committed_on g s)) c → Opens x.committed.0 c
  one_any c l = ⊎_elim (λ is. no_less c (one_frozen is c l))
      (λ off. as_committed c (leaves.one (aimed p.phase pages.frozen (committed_on g s)) page_of_stamp c x.committed.0 x.committed.1 l
      (subst (λ m. RepresentsAndLeads g s m page_of_stamp x.committed.0 x.committed.1) (sym (aim_other p.phase off)) first)))
      (commit_or p.phase)

  pub decided_leaves : done → p.phase ≡ Commit → CrashStatesHave g (OpensFrom (g.shape s) count (g.clock t) x x.frozen) s t
  decided_leaves is_done is = record {
    later = w.left.stops.later;
    each = λ m c left. ⊎_elim inl
        (λ k. inr (
          k.0,
          k.1,
          ⊎_elim
              (λ b.
              let o = either (g.stored_of c) b.1 in
              let to = k.1 in
              (o.0, o.1, o.2, λ after. absurd (let lt = b.0 is_done (omega (arith, to, few)) in let no : ⊥ = omega (arith, lt, after) in no)))
              (λ a. let o = one_frozen is (g.stored_of c) a in (o.0, o.1, o.2, λ after. o.3)) k.2,
        ))
        (w.left.stops.each m c left);
  }

  pub undecided_leaves : (before : ℕ) → CrashStatesHave g (OpensFrom (g.shape s) count before x x.committed) s t
  undecided_leaves before = record {
    later = w.left.stops.later;
    each = λ m c left. ⊎_elim inl
        (λ k. inr (
          k.0,
          k.1,
          ⊎_elim (λ b. let o = either (g.stored_of c) b.1 in (o.0, o.1, o.2, λ after. o.3)) (λ a. let o = one_any (g.stored_of c) a in (o.0, o.1, o.2, λ after. o.3)) k.2,
        ))
        (w.left.stops.each m c left);
  }

pub unit_leaves : {D : Type 0} (g : Ghosts D) → UnitLeaves g
unit_leaves g answer s t p q pages now count before page_of_stamp x flight freeing leaving volume tells numbers few j h firm shows w at = (
  λ d. decided_leaves g (answer ≡ write.Done) s t p q pages now count page_of_stamp x flight freeing volume tells numbers few j h firm shows w at d.0 d.1,
  λ off. undecided_leaves g (answer ≡ write.Done) s t p q pages now count page_of_stamp x flight freeing volume tells numbers few j h firm shows w at before,
)
