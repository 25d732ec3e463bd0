-- The metadata changes between two commits.
use Rattle.std.proofs.Common.{◌≡◌, ⊎_elim, ℕ, ◌<◌, ◌≤◌, List, get_or, Option, Some, None, is_some, refl, sym, ap, subst, ◌∙◌, arith}
use Rattle.std.proofs.lemmas.Bool.{both_ways}
use Rattle.nl_iface.specs.declared.counts.Counts.{Ghosts}
use Rattle.nl_journal.specs.Homes.{AreHome, copied}
use Rattle.nl_journal.specs.Outcomes.{bytes_of}
use Rattle.nl_journal.specs.Progress.{Progress}
use Rattle.nl_journal.specs.Standing.{JournalInOrder}
use Rattle.nl_meta.specs.Pages.{Frozen, Pages, page_of}
use Rattle.nl_meta.specs.Steps.{ChangesRunningPages}
use Rattle.nl_meta_running.specs.Running.{RunningIsRight}
use Rattle.nl_journal_commit.specs.Standing.{HasFrozen, IsJournaled}
use Rattle.nl_journal_commit.proofs.Standing.{addresses_stand}
use Rattle.nl_spec_commits.specs.SettlingLaws.{ChangesJournaled, StepsJournaled}

module _ {D : Type 0} (g : Ghosts D) (s : D) (p : Progress) (pages now : Pages) (j : IsJournaled g s p pages) (c : ChangesRunningPages pages now) where
  -- a page of the transaction
  abbrev pub at : ℕ → ℕ
  at i = get_or pages.frozen.addresses i 0

  has_frozen : HasFrozen (record now { frozen = pages.frozen })
  has_frozen = record {
    resident = λ i lt. c.stays (at i) (j.frozen.resident i lt);
    unchanged = λ i lt clean. c.same_clean (at i) clean (j.frozen.resident i lt) ∙ j.frozen.unchanged i lt (c.was_clean (at i) clean);
  }

  none_low : (v : ℕ) → 1 ≤ v → v < 67 → (o : Option (List ℕ)) → page_of now v ≡ o → page_of now v ≡ None
  none_low v low high None is = is
  none_low v low high (Some bytes) is = ⊎_elim
      (λ there. absurd (both_ways _ (ap is_some (j.apart v low high)) there))
      (λ home. ⊎_elim (λ zero. absurd (let e = zero in let off : ⊥ = omega (arith, e, low) in off)) (λ far. absurd (let f = far in let off : ⊥ = omega (arith, f, high) in off)) home)
      (c.apart v (ap is_some is))

  pub journaled_on : RunningIsRight g s now → IsJournaled g s p now
  journaled_on runs = record {
    runs = runs;
    order = subst (λ (x : Frozen). JournalInOrder g s p x) (sym c.same_frozen) j.order;
    home = λ tells. subst (λ (x : Frozen). AreHome x (copied p.phase) (bytes_of (g.map s))) (sym c.same_frozen) (j.home tells);
    frozen = subst (λ (x : Frozen). HasFrozen (record now { frozen = x })) (sym c.same_frozen) has_frozen;
    super_page = c.stays 0 j.super_page;
    apart = λ v low high. none_low v low high (page_of now v) refl;
  }

pub changes_journaled : {D : Type 0} (g : Ghosts D) → ChangesJournaled g
changes_journaled g s p pages now j c runs = journaled_on g s p pages now j c runs

pub steps_journaled : {D : Type 0} (g : Ghosts D) → StepsJournaled g
steps_journaled g s t p pages now volume j k c runs = journaled_on g t p pages now (addresses_stand g s t p pages volume j k).journaled c runs
