-- The pages that a commit puts in place are those that run.
use Rattle.std.proofs.Common.{◌≡◌, inl, ℕ, ◌<◌, Bool, true, false, List, [], length, get_or, Option, Some, None, is_some, unwrap_or, refl, sym, ap, ◌∙◌, arith}
use Rattle.std.proofs.lemmas.Bool.{both_ways}
use Rattle.std.proofs.lemmas.List.{get_or-map}
use Rattle.nl_field.specs.Virtual.{or_zeros}
use Rattle.nl_iface.specs.declared.counts.Counts.{Ghosts}
use Rattle.nl_journal.specs.Committing.{ahead_on, committed_on, finished}
use Rattle.nl_journal.specs.Outcomes.{IsHome, May, bytes_of}
use Rattle.nl_journal.specs.Progress.{HasNumber, Progress, transaction}
use Rattle.nl_journal.specs.Standing.{JournalInPhase}
use Rattle.nl_journal.specs.Transaction.{IsTransaction, main_at, place}
use Rattle.nl_journal.specs.declared.answers.Phase.{Phase}
use Rattle.nl_journal.specs.declared.answers.Phase.TheVariants.{Header, Image, Commit, Home}
use Rattle.nl_journal.proofs.Counted.{page_beside, page_there}
use Rattle.nl_journal.proofs.Steps.{place_own}
use Rattle.nl_meta.specs.Committed.{VirtualMap}
use Rattle.nl_meta.specs.Pages.{Frozen, IsPages, Pages, dirty_pages, is_dirty, is_frozen, page_of}
use Rattle.nl_meta.specs.Running.{or_stored, running_over}
use Rattle.nl_meta_running.specs.Running.{running_on, stored_on}
use Rattle.nl_journal_commit.specs.Standing.{IsJournaled}
use Rattle.nl_journal_commit.proofs.Places.{has_at, index_of, no_place}
use Rattle.nl_spec_commits.specs.Committed.{read_as}
use Rattle.nl_spec_commits.specs.Standing.{AheadIsRunning}
use Rattle.nl_spec_commits.proofs.Reading.{reads_some, reads_stored}

module _ {D : Type 0} (g : Ghosts D) (s : D) (pages : Pages) (v : ℕ) where
  pub runs_some : (bytes : List ℕ) → page_of pages v ≡ Some bytes → running_on g s pages v ≡ Some bytes
  unfolding running_over
  runs_some bytes is = ap (λ o. or_stored o (stored_on g s v)) is

  runs_none : page_of pages v ≡ None → running_on g s pages v ≡ stored_on g s v
  unfolding running_over
  runs_none is = ap (λ o. or_stored o (stored_on g s v)) is

-- ---- what is finished, at an address that is frozen and at another

finished_beside : (phase : Phase) (frozen : Frozen) (base : VirtualMap) (v : ℕ) → place frozen v ≡ None → finished phase frozen base v ≡ base v
finished_beside Header frozen base v none = page_beside frozen base v none
finished_beside (Image i) frozen base v none = page_beside frozen base v none
finished_beside Commit frozen base v none = page_beside frozen base v none
finished_beside (Home i) frozen base v none = refl

module _ {D : Type 0} (g : Ghosts D) (s : D) (p : Progress) (pages : Pages) (j : IsJournaled g s p pages) (held : IsPages pages) (dirty : IsTransaction (g.shape s).vaddrs (dirty_pages pages)) (tells : g.tells)
    (numbers : HasNumber p (length pages.frozen.addresses)) where
  abbrev pub StandsAt : Phase → Type 0
  StandsAt x = JournalInPhase x (g.shape s) (May (g.map s) (g.failed s)) (bytes_of (g.map s)) (committed_on g s) (transaction p) pages.frozen

  -- the committed page of an address that is not frozen is the device's
  base_bytes : (u : ℕ) → IsHome (g.shape s).vaddrs u → place pages.frozen u ≡ None → (x : Phase) → StandsAt x → bytes_of (g.map s) u ≡ committed_on g s u
  base_bytes u home none Header r = r.home u (bytes_of (g.map s) u) home (inl refl)
  base_bytes u home none (Image i) r = r.0.home u (bytes_of (g.map s) u) home (inl refl)
  base_bytes u home none Commit r = r.0.home u (bytes_of (g.map s) u) home (inl refl)
  base_bytes u home none (Home i) r = r.others u (bytes_of (g.map s) u) home none (inl refl)

  -- the committed page of an address that is frozen is its image, once it is committed
  finished_there : (u i : ℕ) → IsHome (g.shape s).vaddrs u → place pages.frozen u ≡ Some i → (x : Phase) → StandsAt x → finished x pages.frozen (committed_on g s) u ≡ Some (main_at pages.frozen.images i)
  finished_there u i home at Header r = page_there pages.frozen (committed_on g s) u i at
  finished_there u i home at (Image k) r = page_there pages.frozen (committed_on g s) u i at
  finished_there u i home at Commit r = page_there pages.frozen (committed_on g s) u i at
  finished_there u i home at (Home k) r = r.listed u i home at

  stored_runs : (u : ℕ) → is_dirty pages u ≡ false → is_frozen pages u ≡ false → (o : Option (List ℕ)) → page_of pages u ≡ o → running_on g s pages u ≡ stored_on g s u
  stored_runs u clean thawed None at = runs_none g s pages u at
  stored_runs u clean thawed (Some bytes) at = runs_some g s pages u bytes at ∙ sym ((j.runs.clean tells).each u bytes at clean thawed)

  finished_reads : (u : ℕ) → IsHome (g.shape s).vaddrs u → is_dirty pages u ≡ false → (b : Bool) → is_frozen pages u ≡ b → or_zeros (g.shape s) u (finished p.phase pages.frozen (committed_on g s) u) ≡ running_on g s pages u
  finished_reads u home clean false thawed =
      let none = no_place pages.frozen u thawed in
      ap (or_zeros (g.shape s) u) (finished_beside p.phase pages.frozen (committed_on g s) u none ∙ sym (base_bytes u home none p.phase (j.order.keeps tells numbers)))
      ∙ sym (reads_stored (g.shape s) (g.map s) u home.below)
      ∙ sym (stored_runs u clean thawed (page_of pages u) refl)
  finished_reads u home clean true frozen =
      let i = index_of pages.frozen.addresses u frozen in
      let lt = i.1 in
      let image = main_at pages.frozen.images i.0 in
      let at : place pages.frozen u ≡ Some i.0 = place_own (j.order.pages (omega (arith, lt))).pages u i.0 i.1 (sym i.2) in
      ap (or_zeros (g.shape s) u) (finished_there u i.0 home at p.phase (j.order.keeps tells numbers))
      ∙ reads_some (g.shape s) u image
      ∙ sym (runs_some g s pages u image (ap (page_of pages) (sym i.2) ∙ j.frozen.unchanged i.0 i.1 (ap (is_dirty pages) i.2 ∙ clean)))

  dirty_image : (i : ℕ) → i < length pages.dirty → (o : Option (List ℕ)) → page_of pages (get_or pages.dirty i 0) ≡ o → page_of pages (get_or pages.dirty i 0) ≡ Some (main_at (dirty_pages pages).images i)
  dirty_image i lt None is = absurd (both_ways _ (ap is_some is) (held.dirty_there (get_or pages.dirty i 0) (has_at pages.dirty i lt)))
  dirty_image i lt (Some bytes) is = is ∙ ap (λ (m : List ℕ). Some m) (sym (get_or-map (λ v. unwrap_or (page_of pages v) []) pages.dirty i 0 [] lt ∙ ap (λ o. unwrap_or o []) is))

  reads_by : (u : ℕ) → IsHome (g.shape s).vaddrs u → (b : Bool) → is_dirty pages u ≡ b → read_as (g.shape s) (ahead_on g s p pages) u ≡ running_on g s pages u
  reads_by u home false clean =
      ap (or_zeros (g.shape s) u) (page_beside (dirty_pages pages) (finished p.phase pages.frozen (committed_on g s)) u (no_place (dirty_pages pages) u clean))
      ∙ finished_reads u home clean (is_frozen pages u) refl
  reads_by u home true is =
      let i = index_of pages.dirty u is in
      let image = main_at (dirty_pages pages).images i.0 in
      ap (or_zeros (g.shape s) u) (page_there (dirty_pages pages) (finished p.phase pages.frozen (committed_on g s)) u i.0 (place_own dirty.pages u i.0 i.1 (sym i.2)))
      ∙ reads_some (g.shape s) u image
      ∙ sym (runs_some g s pages u image (ap (page_of pages) (sym i.2) ∙ dirty_image i.0 i.1 (page_of pages (get_or pages.dirty i.0 0)) refl))

pub ahead_is_running : {D : Type 0} (g : Ghosts D) → AheadIsRunning g
ahead_is_running g s p pages j held dirty tells numbers u home = reads_by g s p pages j held dirty tells numbers u home (is_dirty pages u) refl
