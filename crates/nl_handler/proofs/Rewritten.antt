-- A resident page that has other bytes, and is dirty.
use Rattle.std.proofs.Common.{◌≡◌, ◌≢◌, ◌⊎◌, inl, inr, ℕ, zero, suc, ◌<◌, false, List, [], ◌∷◌, length, get_or, Option, Some, None, IsSome, is_some, refl, sym, ap, subst, ◌∙◌, arith}
use Rattle.std.proofs.lemmas.Bool.{both_ways, cases_eq}
use Rattle.std.proofs.lemmas.List.{get_or-set_same, get_or-set_other, length-set}
use Rattle.nl_meta.specs.Committed.{VirtualMap}
use Rattle.nl_meta.specs.Pages.{Pages, page_of, with_address}
use Rattle.nl_meta.specs.Running.{CleanIsStored, or_stored, running_over}
use Rattle.nl_meta.specs.Steps.{with_dirty}
use Rattle.nl_meta.proofs.RunningProofs.{running_map}

pub record Rewritten (v : ℕ) (q r : Pages) : Type 0 where
  pub bytes : List ℕ
  pub page : r ≡ with_dirty q v bytes
  pub there : IsSome (page_of q v)

in-list : (xs : List (Option (List ℕ))) (v : ℕ) → IsSome (get_or xs v None) → v < length xs
in-list [] v h = absurd (both_ways false refl h)
in-list (x ∷ xs) zero h = omega arith
in-list (x ∷ xs) (suc v) h = let l = in-list xs v h in omega (arith, l)

or-there : (o stored : Option (List ℕ)) → IsSome o → or_stored o stored ≡ o
or-there (Some bytes) stored h = refl
or-there None stored h = absurd (both_ways false refl h)

-- a resident page runs
pub over-there : (d : VirtualMap) (p : Pages) (v : ℕ) → IsSome (page_of p v) → running_over d p v ≡ page_of p v
unfolding running_over
over-there d p v there = or-there (page_of p v) (d v) there

-- a page that is the same runs the same
pub over-same : (d : VirtualMap) (p q : Pages) (v : ℕ) → page_of q v ≡ page_of p v → running_over d q v ≡ running_over d p v
unfolding running_over
over-same d p q v same = ap (λ o. or_stored o (d v)) same

module _ (v : ℕ) (q r : Pages) (w : Rewritten v q r) where
  inside : v < length q.running
  inside = in-list q.running v w.there

  pub count : length r.running ≡ length q.running
  count = ap (λ (p : Pages). length p.running) w.page ∙ length-set q.running v (Some w.bytes)

  pub frozen : r.frozen ≡ q.frozen
  frozen = ap (λ (p : Pages). p.frozen) w.page

  pub dirty : r.dirty ≡ with_address v q.dirty
  dirty = ap (λ (p : Pages). p.dirty) w.page

  pub others : (u : ℕ) → u ≢ v → page_of r u ≡ page_of q u
  others u far = ap (λ (p : Pages). page_of p u) w.page ∙ get_or-set_other q.running v u (Some w.bytes) None far

  here : page_of r v ≡ Some w.bytes
  here = ap (λ (p : Pages). page_of p v) w.page ∙ get_or-set_same q.running v (Some w.bytes) None inside

  pub resident : (u : ℕ) → IsSome (page_of q u) → IsSome (page_of r u)
  resident u there = by (cases_eq u v)
    where
      by : (u ≡ v) ⊎ (u ≢ v) → IsSome (page_of r u)
      by (inl e) = subst (λ (k : ℕ). IsSome (page_of r k)) (sym e) (ap is_some here)
      by (inr far) = ap is_some (others u far) ∙ there

  pub clean : (d : VirtualMap) → CleanIsStored d q → CleanIsStored d r
  clean d h = subst (CleanIsStored d) (sym w.page) ((running_map d q h).changed v w.bytes inside).clean

  -- over what runs, the pages run as over the device
  pub over-running : (d : VirtualMap) (u : ℕ) → running_over (running_over d q) r u ≡ running_over d r u
  unfolding running_over
  over-running d u = by (page_of r u) refl
    where
      gone : (o : Option (List ℕ)) → page_of q u ≡ o → page_of r u ≡ None → or_stored o (d u) ≡ d u
      gone None e none = refl
      gone (Some bytes) e none = absurd (both_ways (is_some (page_of r u)) (ap is_some none) (resident u (ap is_some e)))

      by : (o : Option (List ℕ)) → page_of r u ≡ o → or_stored o (or_stored (page_of q u) (d u)) ≡ or_stored o (d u)
      by (Some bytes) e = refl
      by None e = gone (page_of q u) refl e

or-twice : (o stored : Option (List ℕ)) → or_stored o (or_stored o stored) ≡ or_stored o stored
or-twice None stored = refl
or-twice (Some bytes) stored = refl

pub over-twice : (d : VirtualMap) (q : Pages) (u : ℕ) → running_over (running_over d q) q u ≡ running_over d q u
unfolding running_over
over-twice d q u = or-twice (page_of q u) (d u)
