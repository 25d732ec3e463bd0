-- A device that was started and walked can be begun with.
use Rattle.std.proofs.Common.{◌≡◌, ℕ, ◌<◌, ◌∙◌, List, Some, refl, sym, ap, subst}
use Rattle.nl_field.specs.Members.{Has}
use Rattle.nl_field.specs.Numbers.{shape_for}
use Rattle.nl_field.specs.Page.{Image}
use Rattle.nl_field.specs.Scan.{without_wear}
use Rattle.nl_field.specs.ScanList.{physical_seen, virtual_spare_seen}
use Rattle.nl_field.specs.declared.seen.Seen.{Seen}
use Rattle.nl_field.specs.declared.shape.Shape.{Shape}
use Rattle.nl_field.specs.declared.spare.SpareRec.{SpareRec}
use Rattle.nl_field.specs.declared.spare.SpareRec.TheVariants.{Virtual, Physical}
use Rattle.nl_device.specs.Kept.{kept_of_scan}
use Rattle.nl_device.specs.Retain.{kept_of}
use Rattle.nl_device.specs.Started.{IsStarted}
use Rattle.nl_device.specs.declared.device.Device.{Device}
use Rattle.nl_iface.specs.Calls.{OnlyReads, stored}
use Rattle.nl_iface.specs.Names.{Names}
use Rattle.nl_iface.specs.Stored.{NoneFailed, stored_in}
use Rattle.nl_iface.specs.declared.counts.Counts.{Ghosts}
use Rattle.nl_meta.specs.Consistent.{Consistent, tag_on}
use Rattle.nl_nand.specs.declared.geometry.Geometry.{Geometry}
use Rattle.nl_scan.specs.Tables.{FitsMedium, ScanTable}
use Rattle.nl_core_open.specs.Beginning.{IsAsStarted, HaveOneOwner}

tag_stays : (rec : SpareRec) → tag_on (without_wear rec) ≡ tag_on rec
tag_stays (Virtual vaddr stamp wear) = refl
tag_stays (Physical tag stamp wear) = refl

pub one_owner : (geometry : Geometry) (shape : Shape) (t : ScanTable) → shape ≡ shape_for geometry.blocks geometry.pages → FitsMedium geometry t → HaveOneOwner shape t.seen
one_owner geometry shape t is fits s q has_s has_q s_agrees q_agrees same =
    let listed = ap (λ (h : Shape). physical_seen h t.seen) is in
    sym (tag_stays s.rec)
    ∙ ap tag_on (fits.physicals s q (subst (λ (ss : List Seen). Has ss s) listed has_s) (subst (λ (ss : List Seen). Has ss q) listed has_q) s_agrees q_agrees same)
    ∙ tag_stays q.rec

module _ {M : Type 0} (g : Ghosts (Device M)) (s d : Device M) (geometry : Geometry) (t : ScanTable) (reads : OnlyReads g s d) (started : IsStarted geometry t (g.shape s) (g.names s) (g.next_stamp s)) (fits : FitsMedium geometry t) where
  same_shape : g.shape d ≡ g.shape s
  same_shape = reads.medium.virtual.same_shape

  pub can_begin : kept_of s ≡ kept_of_scan (g.shape s) t.seen → kept_of d ≡ kept_of s → ((block : ℕ) → virtual_spare_seen (g.shape s) t.seen ≡ Some block → g.keeps_spare s)
      → (g.tells → NoneFailed (g.shape s).vaddrs (g.failed s)) → (g.tells → (image : Image) × (stored g d ≡ stored_in image) × Consistent image) → IsAsStarted g d t.seen
  can_begin scanned same_kept spare none_failed image = record {
    idle = ap (λ (n : Names). n.space.victim) reads.names ∙ started.victim;
    no_live = λ p. ap (λ (n : Names). n.live p) reads.names ∙ started.live p;
    kept = same_kept ∙ scanned ∙ ap (λ (h : Shape). kept_of_scan h t.seen) (sym same_shape);
    owners = one_owner geometry (g.shape d) t (same_shape ∙ started.numbers) fits;
    spare = λ block is. reads.medium.virtual.spare (spare block (ap (λ (h : Shape). virtual_spare_seen h t.seen) (sym same_shape) ∙ is));
    none_failed = λ tells v x below failed. none_failed tells v x (subst (λ (h : Shape). v < h.vaddrs) same_shape below) (reads.medium.virtual.no_failed tells v x failed);
    image = image;
  }
