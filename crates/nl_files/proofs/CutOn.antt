-- A volume that runs over a device runs on, where a file is cut and the record written back.
use Rattle.std.proofs.Common.{◌≡◌, ◌⊎◌, inl, inr, ℕ, ◌/◌, ◌%◌, List, [], length, Option, Some, None, is_some, unwrap_or, refl, sym, ap, subst, ◌∙◌}
use Rattle.std.proofs.lemmas.Bool.{both_ways}
use Rattle.std.proofs.lemmas.List.{length-set}
use Rattle.nl_field.specs.Inode.{inode_bytes}
use Rattle.nl_field.specs.declared.inode.InodeRec.{InodeRec}
use Rattle.nl_field.specs.declared.pointer.Pointer.{Pointer}
use Rattle.nl_field.specs.declared.shape.Shape.{Shape}
use Rattle.nl_iface.specs.Device.{IsVolumeShape}
use Rattle.nl_iface.specs.declared.counts.Counts.{Ghosts}
use Rattle.nl_inode.specs.Nodes.{Spaces, page_of_node}
use Rattle.nl_inode.proofs.PageProofs.{put_changes}
use Rattle.nl_indirect.specs.Ranges.{address_of}
use Rattle.nl_meta.specs.Committed.{VirtualMap}
use Rattle.nl_meta.specs.Consistent.{AddressAt, IsNode}
use Rattle.nl_meta.specs.Pages.{Pages, page_of}
use Rattle.nl_meta.specs.Running.{CleanIsStored, running_over}
use Rattle.nl_meta.specs.SlotLaws.{with_slot}
use Rattle.nl_meta.specs.Steps.{ChangesRunningPages}
use Rattle.nl_meta.proofs.PageProofs.{both}
use Rattle.nl_meta.proofs.RunningProofs.{running_map}
use Rattle.nl_meta_running.specs.FileLaws.{IsRight}
use Rattle.nl_meta_running.specs.Running.{IsNeeded, RunningIsRight, running_on, stored_on}
use Rattle.nl_meta_running.proofs.Holds.{bounds-of}
use Rattle.nl_files.specs.CutRuns.{CutIsWritten, CutRuns, CutsOn, RunsCut, WritesCut}
use Rattle.nl_files.specs.Cutting.{Rewrites}
use Rattle.nl_files.proofs.CutWritten.{changed, cut-written, had-before, there-half}
use Rattle.nl_files.proofs.InstalledOn.{over-changed, over-some, over-twice, some-below}

module _ {D : Type 0} (g : Ghosts D) (s : D) (n size : ℕ) (partial : Option Pointer) (was is : InodeRec) (old new written : Pages) (f t : Spaces) (volume : IsVolumeShape (g.shape s)) (runs : RunningIsRight g s old)
    (on : CutsOn g s n size partial was is old new written f t) where
  abbrev shape : Shape
  shape = g.shape s

  abbrev map : VirtualMap
  map = running_on g s old

  twice : running_over map old ≡ map
  twice = λ i u. over-twice (stored_on g s) old u i

  at : WritesCut shape map n size partial was is old new written f t
  at = record {
    bounds = bounds-of shape volume;
    right = subst (IsRight shape) (sym twice) (record { nodes = runs.nodes; addresses = runs.addresses; entries = runs.entries });
    is_node = subst (λ (m : VirtualMap). IsNode shape m n was) (sym twice) on.is_node;
    is_file = on.is_file;
    clean = record { each = λ u bytes there off thawed. over-some (stored_on g s) old u bytes there };
    physical = on.physical;
    there = on.there;
    range = on.range;
    cuts = on.cuts;
    puts = on.puts;
  }

  pages : ChangesRunningPages old written
  pages = both old new written (changed shape map n size partial was is old new written f t at) (put_changes new written n is on.puts)

  after : running_over map written ≡ running_on g s written
  after = λ i u. over-changed (stored_on g s) old written pages.stays u i

  file : CutIsWritten shape n size partial was is map (running_on g s written) f t
  file =
      subst (λ (m : VirtualMap). CutIsWritten shape n size partial was is map m f t) after
      (subst (λ (m : VirtualMap). CutIsWritten shape n size partial was is m (running_over map written) f t) twice (cut-written shape map n size partial was is old new written f t at))

  count-new : length new.running ≡ length old.running
  count-new = by on.cuts.written
    where
      by : (new ≡ old) ⊎ Rewrites (address_of is (size / 4096)) old new → length new.running ≡ length old.running
      by (inl e) = ap (λ (p : Pages). length p.running) e
      by (inr w) = ap (λ (p : Pages). length p.running) w.page ∙ length-set old.running (address_of is (size / 4096)) (Some w.bytes)

  count-written : length written.running ≡ length new.running
  count-written = ap (λ (p : Pages). length p.running) on.puts.page ∙ length-set new.running (page_of_node n) (Some (with_slot 256 (n % 16) (inode_bytes is) (unwrap_or (page_of new (page_of_node n)) [])))

  gone-before : (v : ℕ) → page_of written v ≡ None → page_of old v ≡ None
  gone-before v gone = by (page_of old v) refl
    where
      by : (o : Option (List ℕ)) → page_of old v ≡ o → o ≡ None
      by None e = refl
      by (Some bytes) e = absurd (both_ways (is_some (page_of written v)) (ap is_some gone) (pages.stays v (ap is_some e)))

  absent : (v : ℕ) → IsNeeded shape (running_on g s written) v → page_of written v ≡ None → g.tells
  absent v (inl e) gone = runs.absent v (inl e) (gone-before v gone)
  absent v (inr (k, slot, x)) gone = runs.absent v (inr (k, slot, needed)) (gone-before v gone)
    where
      needed : AddressAt shape map k slot v
      needed =
          subst (λ (m : VirtualMap). AddressAt shape m k slot v) twice
          (had-before shape map n size partial was is old new written f t at k slot v (subst (λ (m : VirtualMap). AddressAt shape m k slot v) (sym after) x))

  clean : g.tells → CleanIsStored (stored_on g s) written
  clean told = subst (CleanIsStored (stored_on g s)) (sym on.puts.page)
      ((running_map (stored_on g s) new (on.cuts.clean (stored_on g s) (runs.clean told))).changed (page_of_node n) (with_slot 256 (n % 16) (inode_bytes is) (unwrap_or (page_of new (page_of_node n)) []))
      (some-below new.running (page_of_node n) (there-half shape map n size partial was is old new written f t at))).clean

  runs-cut : RunsCut g s n size partial was is old written f t
  runs-cut = record {
    runs = record {
      count = count-written ∙ count-new ∙ runs.count;
      nodes = file.right.nodes;
      addresses = file.right.addresses;
      entries = file.right.entries;
      absent = absent;
      clean = clean;
    };
    cut = file;
    pages = pages;
  }

pub cut_runs : {D : Type 0} (g : Ghosts D) → CutRuns g
cut_runs g s n size partial was is old new written f t volume runs on = runs-cut g s n size partial was is old new written f t volume runs on
