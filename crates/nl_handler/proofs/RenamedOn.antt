-- A volume that runs over a device goes on where a pointer in memory was renamed.
use Rattle.std.proofs.Common.{◌≡◌, ◌≢◌, ◌⊎◌, inl, inr, ℕ, ◌+◌, ◌*◌, ◌/◌, ◌%◌, ◌<◌, ◌==◌, ◌||◌, nat_lt, true, length, List, [], unwrap_or, Option, Some, None, is_some, refl, sym, ap, subst, ◌∙◌, arith}
use Rattle.std.proofs.lemmas.Bool.{both_ways, cases_eq}
use Rattle.std.specs.List.{list_any}
use Rattle.std.specs.Prelude.{IsTrue}
use Rattle.nl_field.specs.Graph.{Graph}
use Rattle.nl_field.specs.Inode.{inode_of}
use Rattle.nl_field.specs.Numbers.{ShapeBounds}
use Rattle.nl_field.specs.Spelling.{is_stamp}
use Rattle.nl_field.specs.declared.inode.InodeRec.{InodeRec}
use Rattle.nl_field.specs.declared.pointer.Pointer.{Pointer}
use Rattle.nl_field.specs.declared.pointer.Tag.{Tag}
use Rattle.nl_field.specs.declared.shape.Shape.{Shape}
use Rattle.nl_iface.specs.declared.counts.Counts.{Ghosts}
use Rattle.nl_indirect.proofs.Pointing.{runs as runs-there}
use Rattle.nl_meta.specs.Committed.{VirtualMap}
use Rattle.nl_meta.specs.Consistent.{AddressAt, AddressesRight, EntriesRight, NodesRight}
use Rattle.nl_meta.specs.Nodes.{bytes_of_node, inode_at, is_physical_name, pointer_at, slot_in}
use Rattle.nl_meta.specs.Pages.{Pages, besides_0, has_room, most, page_of, with_address}
use Rattle.nl_meta.specs.PointerLists.{ChangesPointer, tagged_by}
use Rattle.nl_meta.specs.Running.{CleanIsStored, running_over}
use Rattle.nl_meta.specs.Steps.{ChangesRunningPages}
use Rattle.nl_meta.proofs.PageProofs.{both, changed, loaded}
use Rattle.nl_meta_running.specs.FileLaws.{ChangesFileRecord, IsRight}
use Rattle.nl_meta_running.specs.Running.{IsNeeded, RunningIsRight, PreservesRunning, running_on, stored_on}
use Rattle.nl_meta_running.proofs.FileChanges.{one_file_changes}
use Rattle.nl_meta_running.proofs.GraphStays.{graph-same}
use Rattle.nl_meta_running.proofs.Kept.{loads-on, runs-then}
use Rattle.nl_meta_running.proofs.SameNeeded.{addresses-right, entries-right, inode-address, node-to, nodes-right}
use Rattle.nl_handler.specs.Changing.{TaggedPointerIsResident, RenamesIn}
use Rattle.nl_handler.specs.Handling.{HasTagged, RenamesOn, RenamesPointer, TagsFile, page_holding}
use Rattle.nl_handler.proofs.Finding.{pointers-same}
use Rattle.nl_handler.proofs.Renamed.{file-changes, own-had, pointer-changes, pointer-now, rewritten, same-slots}
use Rattle.nl_handler.proofs.Rewritten.{Rewritten, clean, count, dirty, frozen, others, over-running, over-twice, resident}

module _ {D : Type 0} (g : Ghosts D) (s : D) (p : Pages) (bounds : ShapeBounds (g.shape s)) (runs : RunningIsRight g s p) (t : D) (q : Pages) (on : PreservesRunning g s p t q)
    (tag : Tag) (to : Pointer) (was : InodeRec) (has : HasTagged (g.shape s) (running_on g s p) tag to.stamp was) (hand : TaggedPointerIsResident q tag was)
    (spelled : IsTrue (is_stamp to.stamp)) (physical : IsTrue (is_physical_name (g.shape s) to)) (r : Pages) (renames : RenamesIn tag to was q r) where
  abbrev shape : Shape
  shape = g.shape s

  abbrev old : VirtualMap
  old = running_on g s p

  -- once the pages were read
  abbrev mid : VirtualMap
  mid = running_on g t q

  abbrev new : VirtualMap
  new = running_on g t r

  abbrev n : ℕ
  n = tag.ino

  -- ---- before: what was read is what ran

  mid-clean : CleanIsStored mid q
  mid-clean = record { each = λ u bytes there off thawed. runs-there (stored_on g t) q u bytes there }

  mid-twice : running_over mid q ≡ mid
  mid-twice = λ i u. over-twice (stored_on g t) q u i

  mid-right : IsRight shape mid
  mid-right = record {
    nodes = nodes-right shape bounds old mid on.needed runs.nodes;
    addresses = addresses-right shape bounds old mid on.needed runs.addresses;
    entries = entries-right shape bounds old mid on.needed runs.addresses runs.entries;
  }

  mid-file : TagsFile shape mid tag was
  mid-file = record { is_node = node-to shape bounds old mid on.needed n was has.file.is_node; tagged = has.file.tagged }

  twice-right : IsRight shape (running_over mid q)
  twice-right = subst (IsRight shape) (sym mid-twice) mid-right

  twice-file : TagsFile shape (running_over mid q) tag was
  twice-file = subst (λ (m : VirtualMap). TagsFile shape m tag was) (sym mid-twice) mid-file

  pub page-rewritten : Rewritten (page_holding tag was) q r
  page-rewritten = rewritten shape bounds mid tag to was q r mid-clean twice-right twice-file spelled physical hand renames

  new-twice : running_over mid r ≡ new
  new-twice = λ i u. over-running (page_holding tag was) q r page-rewritten (stored_on g t) u i

  -- ---- the step over what was read

  mid-changes : ChangesFileRecord shape mid new n was renames.is
  mid-changes =
      subst (λ (m : VirtualMap). ChangesFileRecord shape mid m n was renames.is) new-twice
      (subst (λ (m : VirtualMap). ChangesFileRecord shape m (running_over mid r) n was renames.is) mid-twice
      (file-changes shape bounds mid tag to was q r mid-clean twice-right twice-file spelled physical hand renames))

  mid-pointer : ChangesPointer shape mid new n tag.index was renames.is
  mid-pointer =
      subst (λ (m : VirtualMap). ChangesPointer shape mid m n tag.index was renames.is) new-twice
      (subst (λ (m : VirtualMap). ChangesPointer shape m (running_over mid r) n tag.index was renames.is) mid-twice
      (pointer-changes shape bounds mid tag to was q r mid-clean twice-right twice-file spelled physical hand renames))

  now : pointer_at new renames.is tag.index ≡ to
  now = subst (λ (m : VirtualMap). pointer_at m renames.is tag.index ≡ to) new-twice (pointer-now shape bounds mid tag to was q r mid-clean twice-right twice-file spelled physical hand renames)

  right : IsRight shape new
  right = (one_file_changes shape mid new n was renames.is bounds mid-right mid-changes).right

  -- ---- the step from what ran

  address-mid : (m slot a : ℕ) → AddressAt shape old m slot a → AddressAt shape mid m slot a
  address-mid m slot a x = record { rec = x.rec; is_node = node-to shape bounds old mid on.needed m x.rec x.is_node; in_slot = x.in_slot; not_zero = x.not_zero }

  bytes-mid : (m : ℕ) → m < 16 * shape.inode_pages → bytes_of_node mid m ≡ bytes_of_node old m
  unfolding bytes_of_node
  bytes-mid m h = ap (λ (o : Option (List ℕ)). slot_in 256 (m % 16) (unwrap_or o [])) (on.needed (67 + m / 16) (inl (inode-address shape m h)))

  old-changes : ChangesFileRecord shape old new n was renames.is
  old-changes = record {
    node_before = has.file.is_node;
    file_before = mid-changes.file_before;
    node_after = mid-changes.node_after;
    file_after = mid-changes.file_after;
    generation = mid-changes.generation;
    direct = mid-changes.direct;
    others = λ m off h. mid-changes.others m off h ∙ bytes-mid m h;
    pages = λ m slot a off x. mid-changes.pages m slot a off (address-mid m slot a x) ∙ on.needed a (inr (m, slot, x));
    good = mid-changes.good;
    one_use = mid-changes.one_use;
    apart = λ slot a m slot' x y. mid-changes.apart slot a m slot' x (address-mid m slot' a y);
  }

  old-pointer : ChangesPointer shape old new n tag.index was renames.is
  old-pointer = record {
    file_before = record {
      below = mid-pointer.file_before.below;
      spelled = has.file.is_node.spelled;
      kind = mid-pointer.file_before.kind;
      direct = mid-pointer.file_before.direct;
      slots = mid-pointer.file_before.slots;
    };
    file_after = mid-pointer.file_after;
    generation = mid-pointer.generation;
    within = mid-pointer.within;
    others = λ i off. mid-pointer.others i off ∙ pointers-same shape old mid on.needed n was has.file.is_node i;
    other_nodes = λ k off. mid-pointer.other_nodes k off ∙ ap (λ (graph : Graph). tagged_by k (graph k)) (graph-same shape bounds old mid on.needed);
  }

  renamed : RenamesPointer shape old new tag to.stamp to.name
  renamed = record {
    was = was;
    is = renames.is;
    had = has;
    changes = old-changes;
    pointer = old-pointer;
    size = renames.stores.record_kept.size;
    addresses = same-slots shape bounds mid tag to was q r mid-clean twice-right twice-file spelled physical hand renames;
    spelled = spelled;
    now = now;
  }

  -- whether a page may become dirty
  room-before : (v : ℕ) → has_room q v ≡ has_room p v
  room-before v = ap (λ (addresses : List ℕ). v == 0 || list_any (λ a. a == v) addresses || nat_lt (length (besides_0 addresses)) most) on.dirty

  pub renames-on : has_room q (page_holding tag was) ≡ true → RenamesOn g s p t r tag to.stamp to.name
  unfolding renamed
  renames-on room = record {
    reads = on.reads;
    renames = renamed;
    room = sym (room-before (page_holding tag was)) ∙ room;
    count = count (page_holding tag was) q r page-rewritten ∙ on.count;
    frozen = frozen (page_holding tag was) q r page-rewritten ∙ on.frozen;
    dirty = dirty (page_holding tag was) q r page-rewritten ∙ ap (with_address (page_holding tag was)) on.dirty;
    stays = λ v off there. others (page_holding tag was) q r page-rewritten v off ∙ on.stays v there;
    pages = both p q r (loaded p q (loads-on g s p t q on)) changes-pages;
  }
    where
      changes-pages : ChangesRunningPages q r
      changes-pages = subst (ChangesRunningPages q) (sym page-rewritten.page) (changed q (page_holding tag was) page-rewritten.bytes (inl page-rewritten.there))

  -- ---- the volume runs on

  mid-runs : RunningIsRight g t q
  mid-runs = runs-then g s p t q bounds on runs

  shapes : g.shape s ≡ g.shape t
  shapes = sym on.reads.medium.virtual.same_shape

  inode-other : (m : ℕ) → m ≢ n → m < 16 * shape.inode_pages → inode_at new m ≡ inode_at mid m
  unfolding inode_at
  inode-other m off h = ap inode_of (mid-changes.others m off h)

  -- an address that is needed was needed
  needed-mid : (v : ℕ) → IsNeeded shape new v → IsNeeded shape mid v
  needed-mid v (inl e) = inl e
  needed-mid v (inr (m, slot, x)) = inr (m, slot, by (cases_eq m n))
    where
      by : (m ≡ n) ⊎ (m ≢ n) → AddressAt shape mid m slot v
      by (inl e) =
          subst (λ (k : ℕ). AddressAt shape mid k slot v) (sym e)
          (subst (λ (o : VirtualMap). AddressAt shape o n slot v) mid-twice
          (own-had shape bounds mid tag to was q r mid-clean twice-right twice-file spelled physical hand renames slot v
          (subst (λ (o : VirtualMap). AddressAt shape o n slot v) (sym new-twice) (subst (λ (k : ℕ). AddressAt shape new k slot v) e x))))
      by (inr off) = record {
        rec = x.rec;
        is_node = record { below = x.is_node.below; spelled = sym same ∙ x.is_node.spelled; used = x.is_node.used };
        in_slot = x.in_slot;
        not_zero = x.not_zero;
      }
        where
          within : m < 16 * shape.inode_pages
          within = let h = x.is_node.below in let f = bounds.places in omega (arith, h, f)

          same : inode_at new m ≡ inode_at mid m
          same = inode-other m off within

  pub runs-on : RunningIsRight g t r
  runs-on = record {
    count = count (page_holding tag was) q r page-rewritten ∙ mid-runs.count;
    nodes = subst (λ (m : Shape). NodesRight m new) shapes right.nodes;
    addresses = subst (λ (m : Shape). AddressesRight m new) shapes right.addresses;
    entries = subst (λ (m : Shape). EntriesRight m new) shapes right.entries;
    absent = λ v need gone.
        let before = needed-mid v (subst (λ (m : Shape). IsNeeded m new v) (sym shapes) need) in
        mid-runs.absent v (subst (λ (m : Shape). IsNeeded m mid v) shapes before) (gone-before v gone (page_of q v) refl);
    clean = λ told. clean (page_holding tag was) q r page-rewritten (stored_on g t) (mid-runs.clean told);
  }
    where
      gone-before : (v : ℕ) → page_of r v ≡ None → (o : Option (List ℕ)) → page_of q v ≡ o → page_of q v ≡ None
      gone-before v gone None e = e
      gone-before v gone (Some bytes) e = absurd (both_ways (is_some (page_of r v)) (ap is_some gone) (resident (page_holding tag was) q r page-rewritten v (ap is_some e)))
