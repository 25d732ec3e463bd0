-- A pointer is installed in a file, and the record is written back.
use Rattle.std.proofs.Common.{◌≡◌, ◌≢◌, ◌⊎◌, inl, inr, ℕ, zero, suc, ◌+◌, ◌-◌, ◌/◌, ◌%◌, ◌≤◌, ◌<◌, nat_le, true, false, Bool, List, [], ◌∷◌, length, get_or, Option, Some, None, IfSome, IsSome, is_some, unwrap_or, refl, sym, ap, subst, ◌∙◌, arith}
use Rattle.std.proofs.lemmas.Bool.{and_parts, both_ways, cases_eq, cases_lt, leb-true}
use Rattle.std.specs.Prelude.{◌↔◌, IsTrue, slice_index}
use Rattle.nl_field.specs.Inode.{inode_of}
use Rattle.nl_field.specs.Members.{Has}
use Rattle.nl_field.specs.Pointers.{no_pointer}
use Rattle.nl_field.specs.declared.inode.InodeRec.{InodeRec}
use Rattle.nl_field.specs.declared.pointer.Pointer.{Pointer}
use Rattle.nl_field.specs.declared.shape.Shape.{Shape}
use Rattle.nl_inode.specs.FreeLaws.{NodesAreFree, PoolIsFree, UsesAddress}
use Rattle.nl_inode.specs.Nodes.{AddressBecomes, IsLeastAddress, PutsNode, Spaces, is_free_node, page_of_node}
use Rattle.nl_inode.proofs.FreeProofs.{free_is_unused}
use Rattle.nl_inode.proofs.MarkTree.{set-below}
use Rattle.nl_inode.proofs.PageProofs.{put_changes}
use Rattle.nl_indirect.specs.FileLaws.{AddressesGood, NodeLaws, StoresOver}
use Rattle.nl_indirect.specs.Ranges.{address_of, range_of}
use Rattle.nl_indirect.specs.Storing.{BeginsRange, StoresPointer}
use Rattle.nl_indirect.specs.declared.answer.Stored.TheVariants.{Done}
use Rattle.nl_indirect.proofs.LawProofs.{at-slot, file_of_node, stored_file}
use Rattle.nl_indirect.proofs.OtherNodes.{pointer-same}
use Rattle.nl_indirect.proofs.Pointing.{address-range, at-node, in-range}
use Rattle.nl_indirect.proofs.Records.{FileParts, file-parts}
use Rattle.nl_meta.specs.Committed.{VirtualMap}
use Rattle.nl_meta.specs.Consistent.{AddressAt, IsNode, NamesPhysical}
use Rattle.nl_meta.specs.Nodes.{bytes_of_node, inode_at, is_physical_name, pointer_at, slot_in, slots_of}
use Rattle.nl_meta.specs.Pages.{Pages, page_of}
use Rattle.nl_meta.specs.PointerLists.{ChangesPointer, tagged_by}
use Rattle.nl_meta.specs.Running.{or_stored, running_over}
use Rattle.nl_meta.specs.SlotLaws.{ChangesSlot}
use Rattle.nl_meta.specs.Steps.{ChangesRunningPages}
use Rattle.nl_meta.proofs.Lists.{some_in}
use Rattle.nl_meta_running.specs.FileLaws.{StaysRight}
use Rattle.nl_meta_running.proofs.FileChanges.{one_file_changes}
use Rattle.nl_files.specs.InstallLaws.{FileIsInstalled, InstallsAt, OneFileIsInstalled}
use Rattle.nl_files.specs.Installing.{TakesLeastAddress}
use Rattle.nl_files.proofs.OneFile.{OneFile, file-changes, in-pool, is-used, its, its-on, its-was, other-is, other-was, same-at, same-node, same-of}
use Rattle.nl_files.proofs.PageProofs.{installing_changes_pages}

-- ---- resident pages

or-there : (o stored : Option (List ℕ)) → IsSome o → or_stored o stored ≡ o
or-there (Some bytes) stored h = refl
or-there None stored h = absurd (both_ways false refl h)

over-there : (d : VirtualMap) (p : Pages) (v : ℕ) → IsSome (page_of p v) → running_over d p v ≡ page_of p v
unfolding running_over
over-there d p v there = or-there (page_of p v) (d v) there

over-same : (d : VirtualMap) (p q : Pages) (v : ℕ) → page_of q v ≡ page_of p v → running_over d q v ≡ running_over d p v
unfolding running_over
over-same d p q v same = ap (λ o. or_stored o (d v)) same

-- a record that is put back runs, where its page was resident
module _ (d : VirtualMap) (n : ℕ) (put : InodeRec) (q r : Pages) (there : IsSome (page_of q (page_of_node n))) (puts : PutsNode n put q r) where
  still : IsSome (page_of r (67 + n / 16))
  still = (put_changes q r n put puts).stays (67 + n / 16) there

  pub put-node : inode_at (running_over d r) n ≡ Some put
  unfolding inode_at bytes_of_node
  put-node = ap (λ (o : Option (List ℕ)). inode_of (slot_in 256 (n % 16) (unwrap_or o []))) (over-there d r (67 + n / 16) still) ∙ puts.node

  pub put-slot : ChangesSlot 256 (67 + n / 16) (n % 16) (running_over d q) (running_over d r)
  put-slot = record {
    others = λ u off. over-same d q r u (puts.others.others u off);
    slots = λ j off.
        ap (λ (o : Option (List ℕ)). slot_in 256 j (unwrap_or o [])) (over-there d r (67 + n / 16) still) ∙ puts.others.slots j off
        ∙ ap (λ (o : Option (List ℕ)). slot_in 256 j (unwrap_or o [])) (sym (over-there d q (67 + n / 16) there));
  }

-- ---- lists

get-has : (d : Pointer) (xs : List Pointer) (j : ℕ) → j < length xs → Has xs (get_or xs j d)
get-has d [] j h = absurd (omega (arith, h))
get-has d (x ∷ xs) zero h = inl refl
get-has d (x ∷ xs) (suc j) h = inr (get-has d xs j (omega (arith, h)))

has-get : (d : Pointer) (xs : List Pointer) (x : Pointer) → Has xs x → (j : ℕ) × (j < length xs) × (get_or xs j d ≡ x)
has-get d [] x h = absurd h
has-get d (y ∷ xs) x (inl e) = (0, omega arith, e)
has-get d (y ∷ xs) x (inr h) = let r = has-get d xs x h in (suc r.0, omega (arith, r.1), r.2)

module _ (shape : Shape) (device : VirtualMap) (n index : ℕ) (to : Pointer) (size : ℕ) (was is : InodeRec) (old new written : Pages) (s t : Spaces)
    (at : InstallsAt shape device n index to size was is old new written s t) where
  abbrev put : InodeRec
  put = record is { size = size }

  abbrev one : VirtualMap
  one = running_over device old

  abbrev half : VirtualMap
  half = running_over device new

  abbrev two : VirtualMap
  two = running_over device written

  abbrev fresh : Option ℕ
  fresh = at.installs.fresh

  laws : NodeLaws shape one n was
  laws = file_of_node shape one n was at.right.addresses at.is_node at.is_file

  stored : StoresPointer index to was is one half
  stored = at.installs.stores.pointers device at.clean

  pub changed : ChangesRunningPages old new
  changed = installing_changes_pages index to was is old new s t at.range (let e = at.free.first in omega (arith, e)) at.installs

  pub there-half : IsSome (page_of new (page_of_node n))
  there-half = changed.stays (page_of_node n) at.there

  -- a new page is one that no node has
  fresh-free : (a : ℕ) → fresh ≡ Some a → IsLeastAddress a s × AddressBecomes a false s t
  fresh-free a e = subst (λ (o : Option ℕ). TakesLeastAddress o s t) e at.installs.taken

  fresh-low : (a : ℕ) → fresh ≡ Some a → s.first ≤ a
  fresh-low a e = leb-true s.first a (and_parts (nat_le s.first a) _ (fresh-free a e).0.free_itself).0

  fresh-high : (a : ℕ) → fresh ≡ Some a → a < shape.vaddrs
  fresh-high a e =
      let low = fresh-low a e in
      let high = set-below s.pool (a - s.first) (and_parts (nat_le s.first a) _ (fresh-free a e).0.free_itself).1 in
      let f = at.free.first in
      let c = at.count in
      let v = at.bounds.addresses in
      omega (arith, low, high, f, c, v)

  fresh-unused : (a : ℕ) → fresh ≡ Some a → UsesAddress shape one a → ⊥
  fresh-unused a e = (at.free.each a (fresh-low a e) (fresh-high a e)).0 (fresh-free a e).0.free_itself

  begins : (a : ℕ) → fresh ≡ Some a → BeginsRange was index (Some to)
  begins a e = at.installs.begins.0 (ap is_some e)

  over : StoresOver shape device index (Some to) fresh was is old new Done
  over = record { clean = at.clean; spelled = at.spelled; physical = at.physical; pool = pool fresh refl; stores = at.installs.stores }
    where
      pool : (o : Option ℕ) → fresh ≡ o → IfSome o (λ a. (67 + shape.inode_pages ≤ a) × (a < shape.vaddrs))
      pool None e = tt
      pool (Some a) e = (subst (λ (v : ℕ). v ≤ a) at.free.first (fresh-low a e), fresh-high a e)

  good : AddressesGood shape half is
  good = (stored_file shape device index (Some to) fresh was is old new Done over).good laws.good

  -- ---- addresses

  had : (r a : ℕ) → a ≢ 0 → slice_index (slots_of was) r ≡ a → AddressAt shape one n r a
  had r a far e = record { rec = was; is_node = at.is_node; in_slot = at-slot (slots_of was) r (λ z. far (sym e ∙ z)) ∙ ap (λ (v : ℕ). Some v) e; not_zero = far }

  -- an address of the record is the new one, or stood in its place before
  came : (r : ℕ) → (slice_index (slots_of is) r ≡ slice_index (slots_of was) r) ⊎ ((a : ℕ) × (fresh ≡ Some a) × (slice_index (slots_of is) r ≡ a) × (r ≡ range_of index))
  came r = by (cases_lt index 8) (cases_eq r (range_of index))
    where
      low-high : index < 8 → 8 ≤ index → ⊥
      low-high l h = omega (arith, l, h)

      by : (index < 8) ⊎ (8 ≤ index) → (r ≡ range_of index) ⊎ (r ≢ range_of index)
          → (slice_index (slots_of is) r ≡ slice_index (slots_of was) r) ⊎ ((a : ℕ) × (fresh ≡ Some a) × (slice_index (slots_of is) r ≡ a) × (r ≡ range_of index))
      by (inl low) _ = inl (at.installs.stores.record_kept.addresses r (λ high. absurd (low-high low high)))
      by (inr high) (inr off) = inl (at.installs.stores.record_kept.addresses r (λ h. off))
      by (inr high) (inl e) = of fresh refl
        where
          now : slice_index (slots_of is) r ≡ unwrap_or fresh (address_of was index)
          now = ap (λ (k : ℕ). slice_index (slots_of is) k) e ∙ sym (address-range is index high) ∙ at.installs.stores.answered

          of : (o : Option ℕ) → fresh ≡ o → (slice_index (slots_of is) r ≡ slice_index (slots_of was) r) ⊎ ((a : ℕ) × (fresh ≡ Some a) × (slice_index (slots_of is) r ≡ a) × (r ≡ range_of index))
          of None f = inl (now ∙ ap (λ (o : Option ℕ). unwrap_or o (address_of was index)) f ∙ address-range was index high ∙ ap (λ (k : ℕ). slice_index (slots_of was) k) (sym e))
          of (Some a) f = inr (a, f, now ∙ ap (λ (o : Option ℕ). unwrap_or o (address_of was index)) f, e)

  apart : (r m slot : ℕ) → slice_index (slots_of is) r ≢ 0 → AddressAt shape one m slot (slice_index (slots_of is) r) → m ≡ n
  apart r m slot far x = by (came r)
    where
      by : (slice_index (slots_of is) r ≡ slice_index (slots_of was) r) ⊎ ((a : ℕ) × (fresh ≡ Some a) × (slice_index (slots_of is) r ≡ a) × (r ≡ range_of index)) → m ≡ n
      by (inl e) = (at.right.addresses.one_use m slot n r (slice_index (slots_of is) r) x (had r (slice_index (slots_of is) r) far (sym e))).0
      by (inr (a, f, e, _)) = absurd (fresh-unused a f (m, slot, subst (AddressAt shape one m slot) e x))

  -- ---- pointers of the node

  parts-before : FileParts was
  parts-before = file-parts was laws.file

  parts-after : FileParts is
  parts-after = file-parts is at.installs.stores.file

  direct-physical : NamesPhysical shape is.direct
  direct-physical p m = subst (λ (k : Pointer). IsTrue (is_physical_name shape k)) place.2 (by (cases_eq place.0 index))
    where
      place : (j : ℕ) × (j < length is.direct) × (get_or is.direct j no_pointer ≡ p)
      place = has-get no_pointer is.direct p m

      low : place.0 < 8
      low = let l = parts-after.direct in let h = place.1 in omega (arith, h, l)

      node : (rec : InodeRec) × (inode_at one n ≡ Some rec) × NamesPhysical shape rec.direct
      node = at.right.nodes.spelled n at.is_node.below

      were : NamesPhysical shape was.direct
      were = subst (λ (rec : InodeRec). NamesPhysical shape rec.direct) (some_in node.0 was (sym node.1 ∙ at.is_node.spelled)) node.2

      by : (place.0 ≡ index) ⊎ (place.0 ≢ index) → IsTrue (is_physical_name shape (get_or is.direct place.0 no_pointer))
      by (inl e) = subst (λ (k : Pointer). IsTrue (is_physical_name shape k)) (sym (sym (at-node half is place.0 low) ∙ ap (λ (j : ℕ). pointer_at half is j) e ∙ stored.at)) at.physical
      by (inr off) =
          subst (λ (k : Pointer). IsTrue (is_physical_name shape k)) (sym (sym (at-node half is place.0 low) ∙ stored.others place.0 off ∙ at-node one was place.0 low))
          (were (get_or was.direct place.0 no_pointer) (get-has no_pointer was.direct place.0 (let l = parts-before.direct in omega (arith, low, l))))

  -- ---- the file

  file : OneFile shape n index was put one half two
  file = record {
    bounds = at.bounds;
    right = at.right;
    is_node = at.is_node;
    is_file = at.is_file;
    differs = stored.pages;
    changes = put-slot device n put new written there-half at.puts;
    node = put-node device n put new written there-half at.puts;
    kind = at.installs.stores.file.kind;
    generation = at.installs.stores.record_kept.generation;
    direct = direct-physical;
    good = good;
    differ = at.installs.stores.file.differ;
    apart = apart;
  }

  -- the size says nothing of pointers
  resized : (pages : VirtualMap) (i : ℕ) → pointer_at pages put i ≡ pointer_at pages is i
  resized pages i = by (cases_lt i 8)
    where
      by : (i < 8) ⊎ (8 ≤ i) → pointer_at pages put i ≡ pointer_at pages is i
      by (inl low) = at-node pages put i low ∙ sym (at-node pages is i low)
      by (inr high) = in-range pages put i high ∙ sym (in-range pages is i high)

  pointers-half : (i : ℕ) → pointer_at two put i ≡ pointer_at half is i
  pointers-half i = pointer-same half two put i (λ r. same-at shape n index was put one half two file (slice_index (slots_of put) r) (in-pool shape n index was put one half two file r)) ∙ resized half i

  pointer : ChangesPointer shape one two n index was put
  pointer = record {
    file_before = record { below = at.is_node.below; spelled = at.is_node.spelled; kind = at.is_file; direct = parts-before.direct; slots = parts-before.addresses };
    file_after = record { below = at.is_node.below; spelled = file.node; kind = file.kind; direct = parts-after.direct; slots = parts-after.addresses };
    generation = file.generation;
    within = at.within;
    others = λ i off. pointers-half i ∙ stored.others i off;
    other_nodes = λ k off. ap (tagged_by k) (same-node shape n index was put one half two file k off);
  }

  -- ---- what is free

  used-now : IsNode shape two n put
  used-now = record { below = at.is_node.below; spelled = file.node; used = is-used put.kind file.kind }

  -- a node is used as before
  nodes : NodesAreFree shape one s → NodesAreFree shape two t
  nodes are = record { each = λ k below. each k below (cases_eq k n) }
    where
      same : (k : ℕ) → is_free_node t k ≡ is_free_node s k
      same k = by fresh at.installs.taken
        where
          by : (o : Option ℕ) → TakesLeastAddress o s t → is_free_node t k ≡ is_free_node s k
          by None e = ap (λ (x : Spaces). is_free_node x k) e
          by (Some a) e = ap (λ (xs : List Bool). get_or xs k false) e.1.nodes

      each : (k : ℕ) → k < shape.nodes → (k ≡ n) ⊎ (k ≢ n) → (is_free_node t k ≡ true) ↔ ((rec : InodeRec) → IsNode shape two k rec → ⊥)
      each k below (inl e) = (
        (λ f. absurd ((are.each k below).0 (sym (same k) ∙ f) was (subst (λ (m : ℕ). IsNode shape one m was) (sym e) at.is_node))),
        (λ none. absurd (none put (subst (λ (m : ℕ). IsNode shape two m put) (sym e) used-now))),
      )
      each k below (inr off) = (
        (λ f rec x. (are.each k below).0 (sym (same k) ∙ f) rec (record { below = x.below; spelled = sym (same-of shape n index was put one half two file k below off) ∙ x.spelled; used = x.used })),
        (λ none. same k ∙ (are.each k below).1 (λ rec x. none rec (record { below = x.below; spelled = same-of shape n index was put one half two file k below off ∙ x.spelled; used = x.used }))),
      )

  -- an address but the new one is used as before
  used-on : (b : ℕ) → UsesAddress shape one b → UsesAddress shape two b
  used-on b (k, slot, x) = by (cases_eq k n)
    where
      own : AddressAt shape one n slot b → (slice_index (slots_of is) slot ≡ slice_index (slots_of was) slot) ⊎ ((a : ℕ) × (fresh ≡ Some a) × (slice_index (slots_of is) slot ≡ a) × (slot ≡ range_of index)) → UsesAddress shape two b
      own y (inl same) = (n, slot, its-on shape n index was put one half two file slot b y.not_zero (same ∙ its-was shape n index was put one half two file slot b y))
      own y (inr (a, f, e, r)) =
          let g = begins a f in
          absurd (y.not_zero (sym (its-was shape n index was put one half two file slot b y) ∙ ap (λ (j : ℕ). slice_index (slots_of was) j) r ∙ sym (address-range was index g.in_range) ∙ g.no_page))

      by : (k ≡ n) ⊎ (k ≢ n) → UsesAddress shape two b
      by (inr off) = (k, slot, other-is shape n index was put one half two file k slot b off x)
      by (inl e) = own (subst (λ (m : ℕ). AddressAt shape one m slot b) e x) (came slot)

  pub used-from : (b : ℕ) → UsesAddress shape two b → UsesAddress shape one b ⊎ (fresh ≡ Some b)
  used-from b (k, slot, x) = by (cases_eq k n)
    where
      own : AddressAt shape two n slot b → (slice_index (slots_of is) slot ≡ slice_index (slots_of was) slot) ⊎ ((a : ℕ) × (fresh ≡ Some a) × (slice_index (slots_of is) slot ≡ a) × (slot ≡ range_of index))
          → UsesAddress shape one b ⊎ (fresh ≡ Some b)
      own y (inl same) = inl (n, slot, had slot b y.not_zero (sym same ∙ its shape n index was put one half two file slot b y))
      own y (inr (a, f, e, r)) = inr (f ∙ ap (λ (v : ℕ). Some v) (sym e ∙ its shape n index was put one half two file slot b y))

      by : (k ≡ n) ⊎ (k ≢ n) → UsesAddress shape one b ⊎ (fresh ≡ Some b)
      by (inr off) = inl (k, slot, other-was shape n index was put one half two file k slot b off x)
      by (inl e) = own (subst (λ (m : ℕ). AddressAt shape two m slot b) e x) (came slot)

  pool : PoolIsFree shape two t
  pool = by fresh refl
    where
      none-some : (b : ℕ) → None ≡ Some b → ⊥
      none-some b e = cc

      from-none : fresh ≡ None → (b : ℕ) → UsesAddress shape one b ⊎ (fresh ≡ Some b) → UsesAddress shape one b
      from-none e b (inl u) = u
      from-none e b (inr f) = absurd (none-some b (sym e ∙ f))

      from-some : (a : ℕ) → fresh ≡ Some a → (b : ℕ) → b ≢ a → UsesAddress shape one b ⊎ (fresh ≡ Some b) → UsesAddress shape one b
      from-some a e b off (inl u) = u
      from-some a e b off (inr f) = absurd (off (some_in b a (sym f ∙ e)))

      same : t ≡ s → fresh ≡ None → PoolIsFree shape two t
      same h e = subst (PoolIsFree shape two) (sym h) (record {
        first = at.free.first;
        each = λ a above below.
            ((λ f u. (at.free.each a above below).0 f (from-none e a (used-from a u))), (λ none. (at.free.each a above below).1 (λ u. none (used-on a u))));
      })

      far : (a : ℕ) → fresh ≡ Some a → a ≢ 0
      far a e z = let low = fresh-low a e in let f = at.free.first in omega (arith, low, f, z)

      at-range : (a : ℕ) → fresh ≡ Some a → slice_index (slots_of put) (range_of index) ≡ a
      at-range a e = sym (address-range is index (begins a e).in_range) ∙ at.installs.stores.answered ∙ ap (λ (o : Option ℕ). unwrap_or o (address_of was index)) e

      by : (o : Option ℕ) → fresh ≡ o → PoolIsFree shape two t
      by None e = same (subst (λ (o : Option ℕ). TakesLeastAddress o s t) e at.installs.taken) e
      by (Some a) e = (free_is_unused shape one two s t).address_taken a at.free (fresh-low a e) (fresh-free a e).1
          (λ b off. ((λ u. from-some a e b off (used-from b u)), used-on b))
          (n, range_of index, its-on shape n index was put one half two file (range_of index) a (far a e) (at-range a e))

  pub installed : FileIsInstalled shape n index to was put one two s t
  installed = record {
    changes = file-changes shape n index was put one half two file;
    right = stays.right;
    others = stays.others;
    pointer = pointer;
    now = pointers-half index ∙ stored.at;
    nodes = nodes;
    pool = pool;
  }
    where
      stays : StaysRight shape one two n
      stays = one_file_changes shape one two n was put at.bounds at.right (file-changes shape n index was put one half two file)

pub one_file_is_installed : OneFileIsInstalled
one_file_is_installed shape device n index to size was is old new written s t at = installed shape device n index to size was is old new written s t at
