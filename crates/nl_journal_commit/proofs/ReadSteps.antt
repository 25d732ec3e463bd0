-- The metadata stands on as pages are read.
use Rattle.std.proofs.Common.{◌≡◌, ⊎_elim, ℕ, ◌<◌, ◌≤◌, ◌==◌, List, get_or, Option, Some, None, is_some, option_map, refl, sym, ap, subst, ◌∙◌, arith}
use Rattle.std.specs.List.{list_any}
use Rattle.std.proofs.lemmas.Bool.{both_ways}
use Rattle.nl_field.specs.Numbers.{ShapeBounds}
use Rattle.nl_field.specs.declared.shape.Shape.{Shape}
use Rattle.nl_iface.specs.Device.{IsVolumeShape}
use Rattle.nl_iface.specs.Stored.{Value}
use Rattle.nl_iface.specs.declared.counts.Counts.{Ghosts}
use Rattle.nl_journal.specs.Homes.{AreHome, copied}
use Rattle.nl_journal.specs.Outcomes.{bytes_of}
use Rattle.nl_journal.specs.Progress.{Progress}
use Rattle.nl_journal.specs.Standing.{JournalInOrder}
use Rattle.nl_journal.proofs.InOrders.{stays}
use Rattle.nl_meta.specs.Pages.{Frozen, Pages, is_dirty, page_of}
use Rattle.nl_meta_running.specs.Running.{PreservesRunning, running_on}
use Rattle.nl_meta_running.proofs.Holds.{bounds-of}
use Rattle.nl_meta_running.proofs.Kept.{runs-then}
use Rattle.nl_meta_running.proofs.GraphStays.{graph-same}
use Rattle.nl_meta.specs.Nodes.{graph_of}
use Rattle.nl_journal_commit.specs.Standing.{HasFrozen, IsJournaled, ReadsPreserveGraph, PreservesGraph}
use Rattle.nl_journal_commit.proofs.Places.{low_of}

module _ {D : Type 0} (g : Ghosts D) (s t : D) (p : Progress) (pages now : Pages) (volume : IsVolumeShape (g.shape s)) (j : IsJournaled g s p pages) (on : PreservesRunning g s pages t now) where
  bounds : ShapeBounds (g.shape s)
  bounds = bounds-of (g.shape s) volume

  -- a page of the transaction
  abbrev pub at : ℕ → ℕ
  at i = get_or pages.frozen.addresses i 0

  dirty_same : (v : ℕ) → is_dirty now v ≡ is_dirty pages v
  dirty_same v = ap (λ (xs : List ℕ). list_any (λ a. a == v) xs) on.dirty

  has_frozen : HasFrozen (record now { frozen = pages.frozen })
  has_frozen = record {
    resident = λ i lt. ap is_some (on.stays (at i) (j.frozen.resident i lt)) ∙ j.frozen.resident i lt;
    unchanged = λ i lt clean. on.stays (at i) (j.frozen.resident i lt) ∙ j.frozen.unchanged i lt (sym (dirty_same (at i)) ∙ clean);
  }

  none_low : (v : ℕ) → 1 ≤ v → v < 67 → (o : Option (List ℕ)) → page_of now v ≡ o → page_of now v ≡ None
  none_low v low high None is = is
  none_low v low high (Some bytes) is = ⊎_elim
      (λ there. absurd (both_ways _ (ap is_some (j.apart v low high)) there))
      (λ need. absurd (let far = low_of (g.shape s) (running_on g s pages) v j.runs.addresses need in let off : ⊥ = omega (arith, far, high) in off))
      (on.only v (ap is_some is))

  map_same : g.tells → (v : ℕ) → bytes_of (g.map t) v ≡ bytes_of (g.map s) v
  map_same tells v = ap (λ o. option_map (λ (x : Value). x.1) o) (on.reads.medium.virtual.same_map tells v)

  pub reads_on : PreservesGraph g s pages t p now
  reads_on = record {
    journaled = record {
      runs = runs-then g s pages t now bounds on j.runs;
      order = subst (λ (x : Frozen). JournalInOrder g t p x) (sym on.frozen) (stays g s t p pages.frozen volume j.order on.reads.medium.virtual).0;
      home = λ tells. subst (λ (x : Frozen). AreHome x (copied p.phase) (bytes_of (g.map t))) (sym on.frozen) (λ i lt. map_same tells (at i) ∙ j.home tells i lt);
      frozen = subst (λ (x : Frozen). HasFrozen (record now { frozen = x })) (sym on.frozen) has_frozen;
      super_page = ap is_some (on.stays 0 j.super_page) ∙ j.super_page;
      apart = λ v low high. none_low v low high (page_of now v) refl;
    };
    needed = on.needed;
    graph = ap (λ (h : Shape). graph_of h (running_on g t now)) on.reads.medium.virtual.same_shape ∙ graph-same (g.shape s) bounds (running_on g s pages) (running_on g t now) on.needed;
  }

pub reads_stand : {D : Type 0} (g : Ghosts D) → ReadsPreserveGraph g
reads_stand g s t p pages now volume j on = reads_on g s t p pages now volume j on
