-- An opening over a medium that tells what it stores: what the walk says of its image.
use Rattle.std.proofs.Common.{◌≡◌, ℕ, ◌<◌, ◌∙◌, length, true, Some, None, option_map, sym, ap, subst, IsTrue}
use Rattle.std.specs.List.{list_all}
use Rattle.std.specs.Prelude.{map as map_of}
use Rattle.nl_field.specs.Medium.{shape_of_image}
use Rattle.nl_field.specs.Page.{Image, is_image}
use Rattle.nl_field.specs.ScanList.{seen_in}
use Rattle.nl_field.specs.Virtual.{map_bytes, newest}
use Rattle.nl_field.specs.declared.shape.Shape.{Shape}
use Rattle.nl_field.specs.declared.super_page.SuperRec.{SuperRec}
use Rattle.nl_tree.specs.Tree.{Tree}
use Rattle.nl_device.specs.Kept.{kept_of_scan}
use Rattle.nl_device.specs.Retain.{kept_of, moved_among}
use Rattle.nl_device.specs.declared.device.Device.{Device}
use Rattle.nl_iface.specs.Calls.{OnlyReads, stored}
use Rattle.nl_iface.specs.Stored.{NoneFailed, Value, stored_in, value_on}
use Rattle.nl_iface.specs.declared.counts.Counts.{Ghosts}
use Rattle.nl_meta.specs.Committed.{committed, committed_of}
use Rattle.nl_meta.specs.Consistent.{Consistent}
use Rattle.nl_meta.specs.Nodes.{Held, committed_pointers, held_in, super_of_pages}
use Rattle.nl_meta.specs.Walk.{walk, walk_over}
use Rattle.nl_meta.proofs.Lists.{some_in}
use Rattle.nl_meta.proofs.WalkProofs.{walk_is_consistency}
use Rattle.nl_meta_running.specs.Running.{running_on, stored_on}
use Rattle.nl_scan.specs.Tables.{ScanTable}
use Rattle.nl_spec_image.specs.Stands.{ConsistentAs}
use Rattle.nl_spec_image.proofs.SoundProofs.{walk_finds_consistency}
use Rattle.nl_recover.specs.Recovering.{IsWalked}
use Rattle.nl_recover.specs.declared.opening.Walked.{Walked}
use Rattle.nl_recover.proofs.Imaged.{walks_the_image}
use Rattle.nl_core_open.specs.Beginning.{IsStartedOver}
use Rattle.nl_core_open.specs.Figures.{pairs_of}
use Rattle.nl_core_open.proofs.Agreeing.{all_agree}
use Rattle.nl_core_open.proofs.Pairs.{pairs_are}

module _ {M : Type 0} (g : Ghosts (Device M)) (s d : Device M) (image : Image) (t : ScanTable) (tells : g.tells) (is : g.shape s ≡ shape_of_image image)
    (map : (v : ℕ) → v < (g.shape s).vaddrs → g.map s v ≡ option_map value_on (newest image v)) (listed : t.seen ≡ seen_in image) where
  committed_is : committed (g.shape s) (stored_on g s) ≡ committed_of image
  committed_is = (walks_the_image image (g.shape s) (g.map s) is map).0

  -- the walk over the device is the walk over the image
  pub walk_is : walk_over (g.shape s) (committed (g.shape s) (stored_on g s)) t.seen ≡ walk image
  walk_is = ap (walk_over (g.shape s) (committed (g.shape s) (stored_on g s))) listed ∙ (walks_the_image image (g.shape s) (g.map s) is map).1

  pub consistent : walk image ≡ None → Consistent image
  consistent none = (walk_is_consistency image).0 none

  -- no write of an address counts as failed
  pub none_failed : (list_all (λ s. s.agrees) t.seen ≡ true → (v : ℕ) (x : Value) → v < (g.shape s).vaddrs → g.failed s v x → ⊥) → Consistent image → NoneFailed (g.shape s).vaddrs (g.failed s)
  none_failed agreed c v x below failed = agreed (ap (list_all (λ s. s.agrees)) listed ∙ all_agree image c.metadata.virtual_stamps c.metadata.physical_stamps) v x below failed

  module _ (w : Walked) (reads : OnlyReads g s d) (walked : IsWalked g d t.seen w) where
    same_shape : g.shape d ≡ g.shape s
    same_shape = reads.medium.virtual.same_shape

    same_map : g.map d ≡ g.map s
    same_map = λ i v. reads.medium.virtual.same_map tells v i

    runs : running_on g d w.meta ≡ committed_of image
    runs = (λ i v. walked.same tells v i) ∙ (λ i. committed (same_shape i) (map_bytes (same_shape i) (same_map i))) ∙ committed_is

    -- the count of calls that the super page of the image tells
    pub counted : (rec : SuperRec) × (super_of_pages (committed_of image) ≡ Some rec) × (rec.count ≡ w.count)
    counted = let c = walked.count in (c.0, ap super_of_pages (sym runs) ∙ c.1, c.2)

    -- the pointers of files are those of the image
    pub kept_are : w.kept.items ≡ map_of (λ (h : Held). h.pointer) (committed_pointers image)
    kept_are = walked.kept ∙ (λ i. map_of (λ (h : Held). h.pointer) (held_in ((same_shape ∙ is) i) (runs i)))

    -- as many pointers as in the image have places that are not their names
    pub pairs : kept_of d ≡ kept_of_scan (g.shape d) t.seen → length (moved_among (kept_of d) w.kept.items) ≡ pairs_of image
    pairs kept =
        (λ i. length (moved_among ((kept ∙ (λ k. kept_of_scan ((same_shape ∙ is) k) (listed k))) i) (kept_are i)))
        ∙ pairs_are image

    -- the tree as which the image is sound
    pub sound : IsTrue (is_image image) → walk image ≡ None → (tree : Tree) × ConsistentAs image w.count tree
    sound whole none =
        let k = (walk_finds_consistency image whole).0 none in
        let c = counted in
        let same : k.2.stands.metadata.super_rec ≡ c.0 = some_in k.2.stands.metadata.super_rec c.0 (sym k.2.stands.metadata.numbers.spelled ∙ c.1) in
        let count : k.0 ≡ w.count = sym k.2.stands.count_of_calls ∙ ap (λ (r : SuperRec). r.count) same ∙ c.2 in
        (k.1, subst (λ n. ConsistentAs image n k.1) count k.2)

    pub over : stored g s ≡ stored_in image → (tree : Tree) → ConsistentAs image w.count tree → IsStartedOver g d w image tree
    over holds tree good = record {
      shape = same_shape ∙ is;
      stored = ap g.stored_of (reads.medium.contents tells) ∙ holds;
      map = λ v below. reads.medium.virtual.same_map tells v ∙ map v (subst (λ (h : Shape). v < h.vaddrs) same_shape below);
      sound = good;
    }
