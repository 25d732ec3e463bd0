-- A commit: the frozen pages, and then the dirty ones.
use Rattle.std.proofs.Common.{◌≡◌, inl, inr, ⊎_elim, ℕ, ◌+◌, ◌<◌, ◌≤◌, ◌^◌, ◌==◌, [], length, refl, sym, ◌∙◌, ap, arith}
use Rattle.std.proofs.lemmas.Bool.{cond-false, ne_eqb}
use Rattle.nl_field.specs.CrashStates.{Earlier}
use Rattle.nl_iface.specs.Calls.{stored}
use Rattle.nl_iface.specs.Stored.{Value}
use Rattle.nl_iface.specs.declared.counts.Counts.{Ghosts}
use Rattle.nl_meta.specs.Committed.{VirtualMap}
use Rattle.nl_meta.specs.Pages.{Frozen, Pages, dirty_pages}
use Rattle.nl_journal.specs.Committing.{Decides, ahead_on, committed_on, finished, finished_on}
use Rattle.nl_journal.specs.Left.{CommitWrites, DirtyWrites, FinishWrites, LeavesRest}
use Rattle.nl_journal.specs.Outcomes.{Agrees}
use Rattle.nl_journal.specs.Progress.{Progress, begun, raised}
use Rattle.nl_journal.specs.Transaction.{with_pages}
use Rattle.nl_journal.specs.declared.answers.Phase.{Phase}
use Rattle.nl_journal.specs.declared.answers.Phase.TheVariants.{Header, Image, Commit, Home}
use Rattle.nl_journal.proofs.Finishing.{agrees_then, commits_same, with_same}
use Rattle.nl_journal.proofs.FinishSteps.{agrees_by, commits_by, none_left, rest_by}
use Rattle.nl_journal.proofs.Freezing.{nothing_dirty}
use Rattle.nl_journal.proofs.Stops.{at_by, at_failed, at_then}

pub begun_header : (phase : Phase) (number n : ℕ) → phase ≡ Header → 1 ≤ n → begun (record { number = number; phase = phase }) n ≡ raised number
begun_header Header number n is some = cond-false (n == 0) number (raised number) (ne_eqb n 0 (λ e. omega (arith, e, some)))
begun_header (Image i) number n is some = absurd (let no : ⊥ = cc in no)
begun_header Commit number n is some = absurd (let no : ⊥ = cc in no)
begun_header (Home i) number n is some = absurd (let no : ⊥ = cc in no)

pub begun_none : (phase : Phase) (number n : ℕ) → phase ≡ Header → n ≡ 0 → begun (record { number = number; phase = phase }) n ≡ number
begun_none Header number n is none = ap (λ k. begun (record { number = number; phase = Header }) k) none
begun_none (Image i) number n is none = absurd (let no : ⊥ = cc in no)
begun_none Commit number n is none = absurd (let no : ⊥ = cc in no)
begun_none (Home i) number n is none = absurd (let no : ⊥ = cc in no)

raised_below : (number : ℕ) → raised number < 2 ^ 63 → raised number ≡ number + 1
raised_below number below = omega (arith, below)

pub unraised : (number : ℕ) → raised number < 2 ^ 63 → number < 2 ^ 63
unraised number below = omega (arith, below)

finished_header : (phase : Phase) (frozen : Frozen) (base : VirtualMap) (v : ℕ) → phase ≡ Header → finished phase frozen base v ≡ with_pages frozen base v
finished_header Header frozen base v is = refl
finished_header (Image i) frozen base v is = refl
finished_header Commit frozen base v is = refl
finished_header (Home i) frozen base v is = absurd (let no : ⊥ = cc in no)

module _ {D : Type 0} (g : Ghosts D) where
  -- the dirty pages, frozen and finished
  pub dirty_writes : (done : Type 0) (old new : D) (p r : Progress) (pages new_pages : Pages) → p.phase ≡ Header → 1 ≤ length pages.dirty → new_pages.dirty ≡ [] → raised p.number < 2 ^ 63
      → FinishWrites g done p r (record pages { dirty = []; frozen = dirty_pages pages }) new_pages old new → DirtyWrites g done p r pages new_pages old new
  dirty_writes done old new p r pages new_pages header some clean below w = record {
    decided = ⊎_elim
        (λ same. inl same)
        (λ more. inr (more.0 ∙ begun_header p.phase p.number (length pages.dirty) header some ∙ raised_below p.number below, agrees_then (g.shape old).vaddrs (committed_on g new) _ _ more.1 as_header)) w.decided;
    same_ahead = λ v home. nothing_dirty new_pages (finished_on g new r new_pages) v clean ∙ w.same_finished v home ∙ as_header v home;
    left = at_by g done done _ _ _ _ old new (λ d. d)
        (λ c is. (⊎_elim (λ before. inl before) (λ after. inr (commits_same (g.shape old) _ _ c as_header after)) is.0, is.1))
        (λ c is. (commits_same (g.shape old) _ _ c as_header is.0, is.1)) w.left;
  }
    where
      as_header : Agrees (g.shape old).vaddrs (finished p.phase (dirty_pages pages) (committed_on g old)) (with_pages (dirty_pages pages) (committed_on g old))
      as_header v home = finished_header p.phase (dirty_pages pages) (committed_on g old) v header

  same_dirty : (pages mid_pages : Pages) → mid_pages.running ≡ pages.running → mid_pages.dirty ≡ pages.dirty → dirty_pages mid_pages ≡ dirty_pages pages
  same_dirty pages mid_pages running dirty =
      ap (λ d. dirty_pages (record mid_pages { dirty = d })) dirty
      ∙ ap (λ r. dirty_pages (record mid_pages { dirty = pages.dirty; running = r })) running

  -- the frozen pages were not finished
  pub commit_failed : (done over : Type 0) (old new : D) (p q : Progress) (pages new_pages : Pages) → (over → ⊥) → new_pages.running ≡ pages.running → new_pages.dirty ≡ pages.dirty
      → FinishWrites g done p q pages new_pages old new → CommitWrites g over p q pages new_pages old new
  commit_failed done over old new p q pages new_pages off running dirty w = record {
    decided = ⊎_elim (λ same. inl same) (λ more. inr (inl more)) w.decided;
    same_ahead = λ v home. ap (λ (x : Frozen). with_pages x (finished_on g new q new_pages) v) (same_dirty pages new_pages running dirty)
        ∙ with_same (dirty_pages pages) (g.shape old).vaddrs (finished_on g new q new_pages) (finished_on g old p pages) w.same_finished v home;
    left = at_failed g done over _ _ _ _ old new off
        (λ c is. (⊎_elim (λ before. inl before) (λ after. inr (inl after)) is.0, is.1))
        (λ c is. (inr (inl is.0), is.1)) w.left;
  }

  -- they were finished, and then the dirty ones
  pub commit_then : (done over : Type 0) (old mid new : D) (p q r : Progress) (pages mid_pages new_pages : Pages) → done → g.shape mid ≡ g.shape old → ((v : ℕ) (x : Value) → g.failed mid v x → g.failed old v x)
      → q.phase ≡ Header → mid_pages.frozen.addresses ≡ [] → q.number ≡ begun p (length pages.frozen.addresses) → mid_pages.running ≡ pages.running → mid_pages.dirty ≡ pages.dirty
      → FinishWrites g done p q pages mid_pages old mid → DirtyWrites g over q r mid_pages new_pages mid new → (over → Earlier (g.clock mid) (g.clock new))
      → CommitWrites g over p r pages new_pages old new
  commit_then done over old mid new p q r pages mid_pages new_pages is_done same fewer header none number running dirty w rest ticks = record {
    decided = ⊎_elim (λ x. by_first x) (λ x. inr (inr (x.0 ∙ ap (λ n. n + 1) number, agrees_by g old mid same (committed_on g new) all_mid (ahead_on g old p pages) x.1 all))) rest.decided;
    same_ahead = agrees_by g old mid same (ahead_on g new r new_pages) all_mid (ahead_on g old p pages) rest.same_ahead all;
    left = at_then g done over _ _ _ _ _ _ old mid new is_done w.left rest.left
        (λ c is. (⊎_elim (λ before. inl before) (λ after. inr (inl after)) is.0, is.1))
        (inl (ticks, λ c is. (inr (inl is.0), is.1)))
        (λ c is. (
          ⊎_elim
              (λ before. inr (inl (commits_by g old mid same (committed_on g mid) (finished_on g old p pages) c home_now before)))
              (λ after. inr (inr (commits_by g old mid same all_mid (ahead_on g old p pages) c all after))) is.0,
          rest_by g old mid same fewer c first_rest is.1,
        ))
        (λ c is. (commits_by g old mid same all_mid (ahead_on g old p pages) c all is.0, rest_by g old mid same fewer c first_rest is.1));
  }
    where
      all_mid : VirtualMap
      all_mid = with_pages (dirty_pages mid_pages) (committed_on g mid)

      -- once they are finished the committed pages have them
      home_now : Agrees (g.shape old).vaddrs (committed_on g mid) (finished_on g old p pages)
      home_now v home = sym (none_left q.phase mid_pages.frozen (committed_on g mid) v header none) ∙ w.same_finished v home

      all : Agrees (g.shape old).vaddrs all_mid (ahead_on g old p pages)
      all v home = ap (λ (x : Frozen). with_pages x (committed_on g mid) v) (same_dirty pages mid_pages running dirty)
          ∙ with_same (dirty_pages pages) (g.shape old).vaddrs (committed_on g mid) (finished_on g old p pages) home_now v home

      first_rest : LeavesRest (g.shape old).vaddrs (g.failed old) (stored g old) (stored g mid)
      first_rest = ⊎_elim (λ was. was.1.1) (λ now. now.1) w.left.now

      by_first : (r.number ≡ q.number) × Agrees (g.shape mid).vaddrs (committed_on g new) (committed_on g mid)
          → Decides (g.shape old).vaddrs p pages (committed_on g old) (committed_on g new) r.number
      by_first x = ⊎_elim
          (λ one. inl (x.0 ∙ one.0, agrees_by g old mid same (committed_on g new) (committed_on g mid) (committed_on g old) x.1 one.1))
          (λ one. inr (inl (x.0 ∙ one.0, agrees_by g old mid same (committed_on g new) (committed_on g mid) (finished_on g old p pages) x.1 one.1))) w.decided

  -- by another answer
  pub dirty_by : (done over : Type 0) (old new : D) (p r : Progress) (pages new_pages : Pages) → (over → done) → DirtyWrites g done p r pages new_pages old new → DirtyWrites g over p r pages new_pages old new
  dirty_by done over old new p r pages new_pages is_done w = record {
    decided = w.decided;
    same_ahead = w.same_ahead;
    left = at_by g done over _ _ _ _ old new is_done (λ c is. is) (λ c is. is) w.left;
  }
