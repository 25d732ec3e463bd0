-- What is kept for pages is kept for others that agree with them, and holders go on.
use Rattle.std.proofs.Common.{◌≡◌, inl, inr, ℕ, List, [], ◌∷◌, map, Option, refl, ap, subst, sym}
use Rattle.nl_field.specs.Graph.{Graph}
use Rattle.nl_field.specs.Numbers.{ShapeBounds}
use Rattle.nl_field.specs.Virtual.{or_zeros}
use Rattle.nl_field.specs.declared.pointer.Pointer.{Pointer}
use Rattle.nl_field.specs.declared.pointer.Tag.{Tag}
use Rattle.nl_field.specs.declared.shape.Shape.{Shape}
use Rattle.nl_iface.specs.Device.{IsVolumeShape}
use Rattle.nl_iface.specs.Names.{Has}
use Rattle.nl_iface.specs.declared.counts.Counts.{Ghosts}
use Rattle.nl_spec_holders.specs.Holding.{Holding}
use Rattle.nl_spec_holders.specs.Laws.{PreservesHolding}
use Rattle.nl_journal.specs.Outcomes.{Agrees, IsHome}
use Rattle.nl_meta.specs.Committed.{VirtualMap}
use Rattle.nl_meta.specs.Nodes.{pointers_of}
use Rattle.nl_meta.specs.Pages.{Pages}
use Rattle.nl_meta.specs.PointerLists.{tagged_in, with_tag}
use Rattle.nl_meta_running.specs.FileLaws.{IsRight}
use Rattle.nl_meta_running.specs.Running.{IsNeeded, RunningIsRight, running_on}
use Rattle.nl_meta_running.proofs.GraphStays.{graph-same}
use Rattle.nl_meta_running.proofs.Holds.{bounds-of}
use Rattle.nl_meta_running.proofs.SameNeeded.{addresses-right, entries-right, nodes-right}
use Rattle.nl_journal_commit.specs.Holding.{IsHoldingOf}
use Rattle.nl_journal_commit.proofs.Places.{needed_home}
use Rattle.nl_spec_commits.specs.Committed.{AreKept, read_as}

pub keeps_then : {u v w : Holding} → PreservesHolding u v → PreservesHolding v w → PreservesHolding u w
keeps_then a b = record { holds = λ h. b.holds (a.holds h); committed = λ h k. b.committed (a.holds h) (a.committed h k) }

module _ (shape : Shape) (bounds : ShapeBounds shape) (old new : VirtualMap) (same : (v : ℕ) → IsNeeded shape old v → new v ≡ old v) where
  pub right_same : IsRight shape old → IsRight shape new
  right_same right = record {
    nodes = nodes-right shape bounds old new same right.nodes;
    addresses = addresses-right shape bounds old new same right.addresses;
    entries = entries-right shape bounds old new same right.addresses right.entries;
  }

  pub tagged_same : tagged_in shape new ≡ tagged_in shape old
  tagged_same = ap (λ (x : Graph). map with_tag (pointers_of shape x)) (graph-same shape bounds old new same)

-- pages that read as what is kept
pub kept_by : (shape : Shape) (bounds : ShapeBounds shape) (old pages : VirtualMap) (kept : List Pointer) → IsRight shape old → ((h : Tag × Pointer) → Has (tagged_in shape old) h → Has kept h.1)
    → ((v : ℕ) → IsNeeded shape old v → read_as shape pages v ≡ old v) → AreKept shape pages kept
kept_by shape bounds old pages kept right listed same = record {
  right = right_same shape bounds old (read_as shape pages) same right;
  listed = λ h has. listed h (subst (λ (xs : List (Tag × Pointer)). Has xs h) (tagged_same shape bounds old (read_as shape pages) same) has);
}

-- pages that agree with those that are kept
pub kept_alike : (shape : Shape) (bounds : ShapeBounds shape) (old new : VirtualMap) (kept : List Pointer) → Agrees shape.vaddrs new old → AreKept shape old kept → AreKept shape new kept
kept_alike shape bounds old new kept alike k = kept_by shape bounds (read_as shape old) new kept k.right k.listed
    (λ v need. ap (λ (o : Option (List ℕ)). or_zeros shape v o) (alike v (needed_home shape bounds (read_as shape old) v k.right.addresses need)))

-- ---- the pointers of the running metadata, without their tags

abbrev pub plain_of : List (Tag × Pointer) → List Pointer
plain_of xs = map (λ (h : Tag × Pointer). h.1) xs

pub from_plain : (xs : List (Tag × Pointer)) (r : Pointer) → Has (plain_of xs) r → (h : Tag × Pointer) × Has xs h × (h.1 ≡ r)
from_plain [] r has = absurd has
from_plain (x ∷ xs) r (inl e) = (x, inl refl, e)
from_plain (x ∷ xs) r (inr has) = let k = from_plain xs r has in (k.0, inr k.1, k.2)

pub to_plain : (xs : List (Tag × Pointer)) (h : Tag × Pointer) → Has xs h → Has (plain_of xs) h.1
to_plain [] h has = absurd has
to_plain (x ∷ xs) h (inl e) = inl (ap (λ (y : Tag × Pointer). y.1) e)
to_plain (x ∷ xs) h (inr has) = inr (to_plain xs h has)

-- pages that read as those that run are kept by the running metadata
pub running_kept : {D : Type 0} (g : Ghosts D) (s : D) (pages : Pages) (v : Holding) (volume : IsVolumeShape (g.shape s)) → RunningIsRight g s pages → IsHoldingOf g s pages v → (ahead : VirtualMap)
    → ((u : ℕ) → IsHome (g.shape s).vaddrs u → read_as (g.shape s) ahead u ≡ running_on g s pages u) → AreKept (g.shape s) ahead (plain_of v.running)
running_kept g s pages v volume runs is ahead same = kept_by (g.shape s) (bounds-of (g.shape s) volume) (running_on g s pages) ahead (plain_of v.running)
    (record { nodes = runs.nodes; addresses = runs.addresses; entries = runs.entries })
    (λ h has. to_plain v.running h (subst (λ (xs : List (Tag × Pointer)). Has xs h) (sym is.running) has))
    (λ u need. same u (needed_home (g.shape s) (bounds-of (g.shape s) volume) (running_on g s pages) u runs.addresses need))
