-- What a volume that runs gives for the calls on one of its files.
use Rattle.std.proofs.Common.{◌≡◌, ◌≢◌, ◌⊎◌, inl, inr, ⊎_elim, ℕ, zero, suc, ◌+◌, ◌-◌, ◌*◌, ◌<◌, Bool, true, false, not, cond, List, [], ◌∷◌, ◌++◌, flat_map, length, get_or, nat_le, nat_lt, Option, Some, None, IsSome, is_some, option_map, refl, sym, ap, subst, ◌∙◌, arith}
use Rattle.std.proofs.lemmas.Bool.{and_parts, both_ways, cond-true, leb-true, lt-ltb}
use Rattle.std.proofs.lemmas.List.{length-append}
use Rattle.std.specs.List.{enumerate_from, range_with_len}
use Rattle.std.specs.Prelude.{slice_index}
use Rattle.nl_field.specs.Graph.{GraphNode, file_node}
use Rattle.nl_field.specs.Members as members
use Rattle.nl_field.specs.Pointers.{is_none_pointer, no_pointer}
use Rattle.nl_field.specs.Virtual.{map_bytes, or_zeros}
use Rattle.nl_field.specs.declared.inode.InodeRec.{InodeRec}
use Rattle.nl_field.specs.declared.inode.Kind.{Kind}
use Rattle.nl_field.specs.declared.inode.Kind.TheVariants.{File}
use Rattle.nl_field.specs.declared.pointer.Pointer.{Pointer}
use Rattle.nl_field.specs.declared.pointer.Tag.{Tag}
use Rattle.nl_field.specs.declared.shape.Shape.{Shape}
use Rattle.nl_iface.specs.Calls.{OnlyReads}
use Rattle.nl_iface.specs.Holders.{IsRef, always, wants_tagged}
use Rattle.nl_iface.specs.Names.{Has, Names}
use Rattle.nl_iface.specs.Stored.{Value}
use Rattle.nl_iface.specs.declared.counts.Counts.{Ghosts}
use Rattle.nl_indirect.specs.FileLaws.{NodeLaws}
use Rattle.nl_indirect.proofs.LawProofs.{at-slot, file_of_node}
use Rattle.nl_indirect.proofs.Records.{file-parts}
use Rattle.nl_meta.specs.Committed.{VirtualMap}
use Rattle.nl_meta.specs.Consistent.{AddressAt, AddressesRight, IsNode}
use Rattle.nl_meta.specs.Nodes.{Held, body_of, graph_of, held_by, inode_at, node_from, pointer_at, pointers_at, pointers_of, pointers_of_inode, slots_of}
use Rattle.nl_meta.specs.PageLaws.{IsApart}
use Rattle.nl_meta.specs.Pages.{Pages, page_of}
use Rattle.nl_meta.specs.PointerLists.{IsFile, tagged_in}
use Rattle.nl_meta.specs.Running.{or_stored, running_over}
use Rattle.nl_meta.proofs.Lists.{filter-member, flat-member, map-member, range-member}
use Rattle.nl_meta.proofs.SlotProofs.{at_index, pointers_length}
use Rattle.nl_meta_running.specs.Running.{IsNeeded, RunningIsRight, PreservesRunning, running_on, stored_on}
use Rattle.nl_meta_running.proofs.Holds.{bounds-of}
use Rattle.nl_files.specs.Standing.{FileIsAtHand, IsOwn, KeepsRunning, LoadsOwn, tag_of}
use Rattle.nl_files.proofs.Keeping.{stands-then}
use Rattle.nl_files.proofs.LawProofs.{good_addresses_have_pages}
use Rattle.nl_calls_files.specs.Fits.{FilesLead, FilesOfPool, FilesReadRun, FilesAreAtHand, FreeFilePages, IsFileOf}
use Rattle.nl_calls_files.proofs.DirtyRoom.{few_has_room}
use Rattle.nl_calls_files.proofs.FilesRight.{tagged_has}

-- ---- a file of metadata that is right

module _ (shape : Shape) (pages : VirtualMap) (n : ℕ) (rec : InodeRec) (right : AddressesRight shape pages) (node : IsNode shape pages n rec) (file : rec.kind ≡ File) where
  pub laws : NodeLaws shape pages n rec
  laws = file_of_node shape pages n rec right node file

  pub is_file_at : IsFile shape pages n rec
  is_file_at = let parts = file-parts rec laws.file in record { below = node.below; spelled = node.spelled; kind = file; direct = parts.direct; slots = parts.addresses }

  -- each address of it is used
  pub used : (r : ℕ) → slice_index (slots_of rec) r ≢ 0 → AddressAt shape pages n r (slice_index (slots_of rec) r)
  used r far = record { rec = rec; is_node = node; in_slot = at-slot (slots_of rec) r far; not_zero = far }

-- ---- its pointers are held

numbered_has : (a : ℕ) (xs : List Pointer) (i : ℕ) → i < length xs → members.Has (enumerate_from a xs) (a + i, get_or xs i no_pointer)
numbered_has a [] i low = absurd (omega (arith, low))
numbered_has a (x ∷ xs) zero low = inl (ap (λ (m : ℕ). (m, x)) (omega arith))
numbered_has a (x ∷ xs) (suc i) low =
    inr (subst (λ (m : ℕ). members.Has (enumerate_from (a + 1) xs) (m, get_or xs i no_pointer)) (omega arith) (numbered_has (a + 1) xs i (omega (arith, low))))

is_not : (b : Bool) → b ≡ false → not b ≡ true
is_not true e = absurd (both_ways true e refl)
is_not false e = refl

module _ (shape : Shape) (pages : VirtualMap) (n : ℕ) (rec : InodeRec) (file : IsFile shape pages n rec) where
  node_is : graph_of shape pages n ≡ record { generation = rec.generation; body = file_node rec.size (pointers_of_inode pages rec) }
  unfolding graph_of
  node_is =
      ap (node_from pages) (cond-true (nat_lt n shape.nodes) (inode_at pages n) None (lt-ltb n shape.nodes file.below) ∙ file.spelled)
      ∙ ap (λ (k : Kind). record { generation = rec.generation; body = body_of pages rec k }) file.kind

  pub all_length : length (rec.direct ++ flat_map (pointers_at pages) rec.addresses) ≡ 4104
  all_length = let d = file.direct in let r = rows rec.addresses in let s = file.slots in length-append rec.direct (flat_map (pointers_at pages) rec.addresses) ∙ omega (arith, d, r, s)
    where
      rows : (vs : List ℕ) → length (flat_map (pointers_at pages) vs) ≡ 256 * length vs
      rows [] = omega arith
      rows (v ∷ vs) = let r = rows vs in length-append (pointers_at pages v) (flat_map (pointers_at pages) vs) ∙ (let h = pointers_length pages v in omega (arith, h, r))

  module _ (i : ℕ) (low : i < 4104) (some : is_none_pointer (pointer_at pages rec i) ≡ false) where
    in_file : members.Has (pointers_of_inode pages rec) (i, pointer_at pages rec i)
    unfolding pointers_of_inode
    in_file = filter-member (λ (q : ℕ × Pointer). not (is_none_pointer q.1)) (enumerate_from 0 (rec.direct ++ flat_map (pointers_at pages) rec.addresses)) (i, pointer_at pages rec i)
        (subst (λ (q : Pointer). members.Has (enumerate_from 0 (rec.direct ++ flat_map (pointers_at pages) rec.addresses)) (i, q)) (at_index pages rec i file.direct)
        (subst (λ (m : ℕ). members.Has (enumerate_from 0 (rec.direct ++ flat_map (pointers_at pages) rec.addresses)) (m, get_or (rec.direct ++ flat_map (pointers_at pages) rec.addresses) i no_pointer)) (omega arith)
        (numbered_has 0 (rec.direct ++ flat_map (pointers_at pages) rec.addresses) i (let all = all_length in omega (arith, all, low)))))
        (is_not (is_none_pointer (pointer_at pages rec i)) some)

    abbrev one : Held
    one = record { size = rec.size; tag = tag_of n rec i; pointer = pointer_at pages rec i }

    pub in_all : members.Has (pointers_of shape (graph_of shape pages)) one
    unfolding pointers_of
    in_all = flat-member (λ m. held_by m (graph_of shape pages m)) (range_with_len 0 shape.nodes) n one (range-member n 0 shape.nodes (omega arith) (let b = file.below in omega (arith, b)))
        (subst (λ (x : GraphNode). members.Has (held_by n x) one) (sym node_is)
        (map-member (λ (p : ℕ × Pointer). record { size = rec.size; tag = record { ino = n; generation = rec.generation; index = p.0 }; pointer = p.1 }) (pointers_of_inode pages rec) (i, pointer_at pages rec i) in_file))

    pub is_held : Has (tagged_in shape pages) (tag_of n rec i, pointer_at pages rec i)
    is_held = tagged_has (pointers_of shape (graph_of shape pages)) one in_all

-- ---- the calls of files

module _ {D : Type 0} (g : Ghosts D) (s : D) (pages : Pages) (n : ℕ) (rec : InodeRec) (runs : RunningIsRight g s pages) (is : IsFileOf g s pages n rec) where
  own_laws : NodeLaws (g.shape s) (running_on g s pages) n rec
  own_laws = laws (g.shape s) (running_on g s pages) n rec runs.addresses is.is_node is.is_file

  own_used : (r : ℕ) → slice_index (slots_of rec) r ≢ 0 → AddressAt (g.shape s) (running_on g s pages) n r (slice_index (slots_of rec) r)
  own_used = used (g.shape s) (running_on g s pages) n rec runs.addresses is.is_node is.is_file

  at_hand : (v : ℕ) → IsNeeded (g.shape s) (running_on g s pages) v → g.tells ⊎ IsSome (page_of pages v)
  at_hand v need = by (page_of pages v) refl
    where
      by : (o : Option (List ℕ)) → page_of pages v ≡ o → g.tells ⊎ IsSome o
      by None gone = inl (runs.absent v need gone)
      by (Some bytes) e = inr refl

  pub stands : FileIsAtHand g s rec pages
  stands = record {
    count = runs.count;
    clean = runs.clean;
    file = own_laws.file;
    pages = good_addresses_have_pages (g.shape s) (running_on g s pages) rec own_laws.good;
    at_hand = λ r far. at_hand (slice_index (slots_of rec) r) (inr (n, r, own_used r far));
  }

pub files_stand : {D : Type 0} (g : Ghosts D) → FilesAreAtHand g
files_stand g s pages n rec runs is = stands g s pages n rec runs is

pub files_lead : {D : Type 0} (g : Ghosts D) → FilesLead g
files_lead g s p pages flight freeing n rec leaving runs h is i low some =
    subst (λ (m : Names). IsRef m always (wants_tagged (tag_of n rec i, pointer_at (running_on g s pages) rec i)) (pointer_at (running_on g s pages) rec i).name) h.is_of.runs.names
    (h.holds.held.running (tag_of n rec i, pointer_at (running_on g s pages) rec i)
    (subst (λ (xs : List (Tag × Pointer)). Has xs (tag_of n rec i, pointer_at (running_on g s pages) rec i)) (sym h.is_of.runs.running)
    (is_held (g.shape s) (running_on g s pages) n rec (is_file_at (g.shape s) (running_on g s pages) n rec runs.addresses is.is_node is.is_file) i low some)))

module _ {D : Type 0} (g : Ghosts D) (s t : D) (old new : Pages) (n : ℕ) (rec : InodeRec) (runs : RunningIsRight g s old) (is : IsFileOf g s old n rec) (reads : OnlyReads g s t) (keeps : KeepsRunning g s old new) (own : LoadsOwn rec old new) where
  stored_same : g.tells → (v : ℕ) → stored_on g t v ≡ stored_on g s v
  unfolding map_bytes
  stored_same told v =
      ap (λ (shape : Shape). map_bytes shape (g.map t) v) reads.medium.virtual.same_shape
      ∙ ap (λ (o : Option Value). cond (nat_lt v (g.shape s).vaddrs) (or_zeros (g.shape s) v (option_map (λ x. x.1) o)) None) (reads.medium.virtual.same_map told v)

  over_stored : g.tells → (v : ℕ) → running_on g t new v ≡ running_over (stored_on g s) new v
  unfolding running_over
  over_stored told v = ap (λ o. or_stored (page_of new v) o) (stored_same told v)

  told_same : g.tells → (v : ℕ) → running_on g t new v ≡ running_on g s old v
  told_same told v = over_stored told v ∙ (keeps.alike told).same v

  resident : (v : ℕ) (bytes : List ℕ) → page_of old v ≡ Some bytes → page_of new v ≡ Some bytes → running_on g t new v ≡ running_on g s old v
  unfolding running_over
  resident v bytes was now = ap (λ o. or_stored o (stored_on g t v)) now ∙ sym (ap (λ o. or_stored o (stored_on g s v)) was)

  needed_same : (v : ℕ) → IsNeeded (g.shape s) (running_on g s old) v → running_on g t new v ≡ running_on g s old v
  needed_same v need = ⊎_elim (λ told. told_same told v) (λ same. by (page_of old v) refl same) (keeps.there v)
    where
      by : (o : Option (List ℕ)) → page_of old v ≡ o → page_of new v ≡ page_of old v → running_on g t new v ≡ running_on g s old v
      by None gone same = told_same (runs.absent v need gone) v
      by (Some bytes) was same = resident v bytes was (same ∙ was)

  own_need : (u : ℕ) → IsOwn rec u → IsNeeded (g.shape s) (running_on g s old) u
  own_need u o = inr (n, o.1.0, subst (λ v. AddressAt (g.shape s) (running_on g s old) n o.1.0 v) o.1.1 (own_used g s old n rec runs is o.1.0 (λ z. o.0 (sym o.1.1 ∙ z))))

  own_apart : (u : ℕ) → IsOwn rec u → IsApart u
  own_apart u o =
      let low = ((own_laws g s old n rec runs is).good o.1.0 (λ z. o.0 (sym o.1.1 ∙ z))).from_pool in
      let at = o.1.1 in
      inr (omega (arith, low, at))

  gone_before : (v : ℕ) → page_of new v ≡ None → page_of old v ≡ None
  gone_before v gone = by (page_of old v) refl
    where
      by : (o : Option (List ℕ)) → page_of old v ≡ o → o ≡ None
      by None e = refl
      by (Some bytes) e = absurd (both_ways (is_some (page_of new v)) (ap is_some gone) (ap is_some (keeps.stays v (ap is_some e) ∙ e)))

  pub reads_run : PreservesRunning g s old t new
  reads_run = record {
    reads = reads;
    count = keeps.count;
    dirty = keeps.dirty;
    frozen = keeps.frozen;
    needed = needed_same;
    told = told_same;
    stays = keeps.stays;
    only = λ v there. ⊎_elim (λ before. inl before) (λ o. inr (own_need v o)) (own.each v there);
    apart = λ v there. ⊎_elim (λ before. inl before) (λ o. inr (own_apart v o)) (own.each v there);
    absent = λ v need gone. runs.absent v need (gone_before v gone);
    clean = (stands-then g s t rec old new reads keeps (stands g s old n rec runs is)).clean;
  }

pub files_read_run : {D : Type 0} (g : Ghosts D) → FilesReadRun g
files_read_run g s t old new n rec runs is reads keeps own = reads_run g s t old new n rec runs is reads keeps own

pub files_of_pool : {D : Type 0} (g : Ghosts D) → FilesOfPool g
files_of_pool g s pages spaces n rec volume runs is free count r far =
    let good = (own_laws g s pages n rec runs is).good r far in
    let first = free.first in
    let low = good.from_pool in
    let high = good.in_pool in
    let all = (bounds-of (g.shape s) volume).addresses in
    (omega (arith, first, low), omega (arith, first, high, all, count))

free_below : (xs : List Bool) (k : ℕ) → get_or xs k false ≡ true → k < length xs
free_below [] k e = absurd (both_ways false refl e)
free_below (x ∷ xs) zero e = omega arith
free_below (x ∷ xs) (suc k) e = let low = free_below xs k e in omega (arith, low)

pub free_file_pages : {D : Type 0} (g : Ghosts D) → FreeFilePages g
free_file_pages g s pages spaces n rec volume runs is free count few a is_free =
    let parts = and_parts (nat_le spaces.first a) _ is_free in
    let low = leb-true spaces.first a parts.0 in
    let below = free_below spaces.pool (a - spaces.first) parts.1 in
    let first = free.first in
    let all = (bounds-of (g.shape s) volume).addresses in
    let inside : a < (g.shape s).vaddrs = omega (arith, low, below, first, all, count) in
    let not_used = (free.each a low inside).0 is_free in
    let running = runs.count in
    record {
      not_zero = λ z. absurd (let off : ⊥ = omega (arith, z, low, first) in off);
      inside = omega (arith, inside, running);
      unused = (own_laws g s pages n rec runs is).unused a (λ z. absurd (let off : ⊥ = omega (arith, z, low, first) in off)) (λ slot at. not_used (n, slot, at));
      room = few_has_room pages a few;
    }
