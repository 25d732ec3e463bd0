-- A volume that runs over a device runs on, where a pointer is installed and the record written back.
use Rattle.std.proofs.Common.{◌≡◌, ◌≢◌, ◌⊎◌, inl, inr, ℕ, zero, suc, ◌%◌, ◌<◌, false, true, List, [], ◌∷◌, length, get_or, Option, Some, None, IsSome, is_some, unwrap_or, refl, sym, ap, subst, ◌∙◌, arith}
use Rattle.std.proofs.lemmas.Bool.{both_ways, cases_eq}
use Rattle.std.proofs.lemmas.List.{length-set}
use Rattle.nl_field.specs.Inode.{inode_bytes}
use Rattle.nl_field.specs.Pointers.{pointer_bytes}
use Rattle.nl_field.specs.declared.inode.InodeRec.{InodeRec}
use Rattle.nl_field.specs.declared.pointer.Pointer.{Pointer}
use Rattle.nl_field.specs.declared.shape.Shape.{Shape}
use Rattle.nl_iface.specs.Device.{IsVolumeShape}
use Rattle.nl_iface.specs.declared.counts.Counts.{Ghosts}
use Rattle.nl_inode.specs.FreeLaws.{PoolIsFree, UsesAddress}
use Rattle.nl_inode.specs.Nodes.{Spaces, page_of_node}
use Rattle.nl_inode.proofs.PageProofs.{put_changes}
use Rattle.nl_indirect.specs.Ranges.{address_of, slot_of}
use Rattle.nl_meta.specs.Consistent.{IsNode}
use Rattle.nl_meta.specs.Committed.{VirtualMap}
use Rattle.nl_meta.specs.Pages.{Pages, page_of}
use Rattle.nl_meta.specs.Running.{CleanIsStored, or_stored, running_over}
use Rattle.nl_meta.specs.SlotLaws.{with_slot}
use Rattle.nl_meta.specs.Steps.{ChangesRunningPages}
use Rattle.nl_meta.proofs.PageProofs.{both}
use Rattle.nl_meta.proofs.RunningProofs.{running_map}
use Rattle.nl_meta_running.specs.FileLaws.{IsRight}
use Rattle.nl_meta_running.specs.Running.{IsNeeded, RunningIsRight, running_on, stored_on}
use Rattle.nl_meta_running.proofs.Holds.{bounds-of}
use Rattle.nl_files.specs.InstallLaws.{FileIsInstalled, InstallsAt}
use Rattle.nl_files.specs.InstalledRuns.{InstalledRuns, InstallsOn, RunsInstalled}
use Rattle.nl_files.proofs.InstallLaw.{changed, installed, there-half, used-from}

or-twice : (o stored : Option (List ℕ)) → or_stored o (or_stored o stored) ≡ or_stored o stored
or-twice None stored = refl
or-twice (Some bytes) stored = refl

-- over what runs, the pages run as over the device
pub over-twice : (d : VirtualMap) (q : Pages) (u : ℕ) → running_over (running_over d q) q u ≡ running_over d q u
unfolding running_over
over-twice d q u = or-twice (page_of q u) (d u)

-- over what runs, the pages run as over the device once they changed
pub over-changed : (d : VirtualMap) (q r : Pages) → ((u : ℕ) → IsSome (page_of q u) → IsSome (page_of r u)) → (u : ℕ) → running_over (running_over d q) r u ≡ running_over d r u
unfolding running_over
over-changed d q r stays u = by (page_of r u) refl
  where
    gone : (o : Option (List ℕ)) → page_of q u ≡ o → page_of r u ≡ None → or_stored o (d u) ≡ d u
    gone None e none = refl
    gone (Some bytes) e none = absurd (both_ways (is_some (page_of r u)) (ap is_some none) (stays u (ap is_some e)))

    by : (o : Option (List ℕ)) → page_of r u ≡ o → or_stored o (or_stored (page_of q u) (d u)) ≡ or_stored o (d u)
    by (Some bytes) e = refl
    by None e = gone (page_of q u) refl e

-- a page that is there runs
pub over-some : (d : VirtualMap) (p : Pages) (v : ℕ) (bytes : List ℕ) → page_of p v ≡ Some bytes → running_over d p v ≡ Some bytes
unfolding running_over
over-some d p v bytes e = ap (λ o. or_stored o (d v)) e

pub some-below : (xs : List (Option (List ℕ))) (v : ℕ) → is_some (get_or xs v None) ≡ true → v < length xs
some-below [] v h = absurd (both_ways false refl h)
some-below (x ∷ xs) zero h = omega arith
some-below (x ∷ xs) (suc v) h = let l = some-below xs v h in omega (arith, l)

module _ {D : Type 0} (g : Ghosts D) (s : D) (n index : ℕ) (to : Pointer) (size : ℕ) (was is : InodeRec) (old new written : Pages) (f t : Spaces) (volume : IsVolumeShape (g.shape s)) (runs : RunningIsRight g s old)
    (on : InstallsOn g s n index to size was is old new written f t) where
  abbrev shape : Shape
  shape = g.shape s

  abbrev put : InodeRec
  put = record is { size = size }

  abbrev map : VirtualMap
  map = running_on g s old

  twice : running_over map old ≡ map
  twice = λ i u. over-twice (stored_on g s) old u i

  map-clean : CleanIsStored map old
  map-clean = record { each = λ u bytes there off thawed. over-some (stored_on g s) old u bytes there }

  at : InstallsAt shape map n index to size was is old new written f t
  at = record {
    bounds = bounds-of shape volume;
    right = subst (IsRight shape) (sym twice) (record { nodes = runs.nodes; addresses = runs.addresses; entries = runs.entries });
    is_node = subst (λ (m : VirtualMap). IsNode shape m n was) (sym twice) on.is_node;
    is_file = on.is_file;
    within = on.within;
    clean = map-clean;
    spelled = on.spelled;
    physical = on.physical;
    there = on.there;
    range = on.range;
    count = on.count;
    free = subst (λ (m : VirtualMap). PoolIsFree shape m f) (sym twice) on.free;
    installs = on.installs;
    puts = on.puts;
  }

  pages : ChangesRunningPages old written
  pages = both old new written (changed shape map n index to size was is old new written f t at) (put_changes new written n put on.puts)

  after : running_over map written ≡ running_on g s written
  after = λ i u. over-changed (stored_on g s) old written pages.stays u i

  file : FileIsInstalled shape n index to was put map (running_on g s written) f t
  file =
      subst (λ (m : VirtualMap). FileIsInstalled shape n index to was put map m f t) after
      (subst (λ (m : VirtualMap). FileIsInstalled shape n index to was put m (running_over map written) f t) twice (installed shape map n index to size was is old new written f t at))

  -- ---- how many pages there are

  count-new : length new.running ≡ length old.running
  count-new = by (cases_eq (address_of is index) 0) on.installs.fresh refl
    where
      by : (address_of is index ≡ 0) ⊎ (address_of is index ≢ 0) → (o : Option ℕ) → on.installs.fresh ≡ o → length new.running ≡ length old.running
      by (inl none) o e = ap (λ (p : Pages). length p.running) (on.installs.stores.pages.same none)
      by (inr far) None e = ap (λ (p : Pages). length p.running) (on.installs.stores.pages.written far e)
          ∙ length-set old.running (address_of is index) (Some (with_slot 16 (slot_of index) (pointer_bytes to) (unwrap_or (page_of old (address_of is index)) [])))
      by (inr far) (Some a) e = (on.installs.stores.pages.begun (ap is_some e)).keeps.count

  count-written : length written.running ≡ length new.running
  count-written = ap (λ (p : Pages). length p.running) on.puts.page ∙ length-set new.running (page_of_node n) (Some (with_slot 256 (n % 16) (inode_bytes put) (unwrap_or (page_of new (page_of_node n)) [])))

  -- ---- pages that are needed

  gone-before : (v : ℕ) → page_of written v ≡ None → page_of old v ≡ None
  gone-before v gone = by (page_of old v) refl
    where
      by : (o : Option (List ℕ)) → page_of old v ≡ o → o ≡ None
      by None e = refl
      by (Some bytes) e = absurd (both_ways (is_some (page_of written v)) (ap is_some gone) (pages.stays v (ap is_some e)))

  -- the new page is resident
  fresh-there : (a : ℕ) → on.installs.fresh ≡ Some a → IsSome (page_of written a)
  fresh-there a e = (put_changes new written n put on.puts).stays a (subst (λ (v : ℕ). IsSome (page_of new v)) here (ap is_some (on.installs.stores.pages.begun (ap is_some e)).page))
    where
      here : address_of is index ≡ a
      here = on.installs.stores.answered ∙ ap (λ (o : Option ℕ). unwrap_or o (address_of was index)) e

  absent : (v : ℕ) → IsNeeded shape (running_on g s written) v → page_of written v ≡ None → g.tells
  unfolding at
  absent v (inl e) gone = runs.absent v (inl e) (gone-before v gone)
  absent v (inr u) gone = by (used-from shape map n index to size was is old new written f t at v (subst (λ (m : VirtualMap). UsesAddress shape m v) (sym after) u))
    where
      by : UsesAddress shape (running_over map old) v ⊎ (on.installs.fresh ≡ Some v) → g.tells
      by (inl w) = runs.absent v (inr (subst (λ (m : VirtualMap). UsesAddress shape m v) twice w)) (gone-before v gone)
      by (inr e) = absurd (both_ways (is_some (page_of written v)) (ap is_some gone) (fresh-there v e))

  clean : g.tells → CleanIsStored (stored_on g s) written
  clean told = subst (CleanIsStored (stored_on g s)) (sym on.puts.page)
      ((running_map (stored_on g s) new (on.installs.stores.clean (stored_on g s) (runs.clean told))).changed (page_of_node n) (with_slot 256 (n % 16) (inode_bytes put) (unwrap_or (page_of new (page_of_node n)) []))
      (some-below new.running (page_of_node n) (there-half shape map n index to size was is old new written f t at))).clean

  runs-installed : RunsInstalled g s n index to was put old written f t
  runs-installed = record {
    runs = record {
      count = count-written ∙ count-new ∙ runs.count;
      nodes = file.right.nodes;
      addresses = file.right.addresses;
      entries = file.right.entries;
      absent = absent;
      clean = clean;
    };
    installed = file;
    pages = pages;
  }

pub installed_runs : {D : Type 0} (g : Ghosts D) → InstalledRuns g
installed_runs g s n index to size was is old new written f t volume runs on = runs-installed g s n index to size was is old new written f t volume runs on
