-- What it means for a volume that a pointer in memory has another name: over any device, one pointer of one file changed, and all is right.
use Rattle.std.proofs.Common.{◌≡◌, ◌≢◌, ◌⊎◌, inl, inr, ℕ, zero, suc, ◌+◌, ◌*◌, ◌/◌, ◌%◌, ◌≤◌, ◌<◌, ◌==◌, List, [], ◌∷◌, length, get_or, Option, Some, None, IsSome, is_some, unwrap_or, refl, sym, ap, subst, ◌∙◌, arith}
use Rattle.std.proofs.lemmas.Bool.{cases_eq, cases_lt, cond-false, cond-true, eq-eqb, ne_eqb}
use Rattle.std.proofs.lemmas.List.{ext_get_or}
use Rattle.std.specs.Prelude.{IsTrue, slice_get, slice_index}
use Rattle.nl_field.specs.Inode.{inode_bytes, inode_of}
use Rattle.nl_field.specs.Members.{Has}
use Rattle.nl_field.specs.Numbers.{ShapeBounds}
use Rattle.nl_field.specs.Pointers.{no_pointer, pointer_bytes}
use Rattle.nl_field.specs.Spelling.{is_stamp}
use Rattle.nl_field.specs.declared.inode.InodeRec.{InodeRec}
use Rattle.nl_field.specs.declared.inode.Kind.TheVariants.{File, Unused}
use Rattle.nl_field.specs.declared.pointer.Pointer.{Pointer}
use Rattle.nl_field.specs.declared.pointer.Tag.{Tag}
use Rattle.nl_field.specs.declared.shape.Shape.{Shape}
use Rattle.nl_inode.specs.Nodes.{PutsNode, page_of_node}
use Rattle.nl_indirect.specs.FileLaws.{AddressesGood, NodeLaws, StoresOver}
use Rattle.nl_indirect.specs.Ranges.{address_of, range_of, slot_of}
use Rattle.nl_indirect.specs.Storing.{StoresPointer}
use Rattle.nl_indirect.specs.declared.answer.Stored.TheVariants.{Done}
use Rattle.nl_indirect.proofs.LawProofs.{at-slot, file_of_node, other_nodes, stored_file}
use Rattle.nl_indirect.proofs.OtherNodes.{pointer-same}
use Rattle.nl_indirect.proofs.PointerLaw.{one_pointer_stored}
use Rattle.nl_indirect.proofs.Pointing.{address-node, address-range, at-node}
use Rattle.nl_indirect.proofs.Records.{FileParts, file-parts}
use Rattle.nl_meta.specs.Committed.{VirtualMap}
use Rattle.nl_meta.specs.Consistent.{AddressAt, GoodAddress, IsNode, NamesPhysical}
use Rattle.nl_meta.specs.Nodes.{bytes_of_node, inode_at, is_physical_name, pointer_at, slot_at, slot_in, slots_of}
use Rattle.nl_meta.specs.Pages.{Pages, page_of}
use Rattle.nl_meta.specs.PointerLists.{ChangesPointer}
use Rattle.nl_meta.specs.Running.{CleanIsStored, running_over}
use Rattle.nl_meta.specs.SlotLaws.{ChangesSlot, with_slot}
use Rattle.nl_meta.specs.Steps.{with_dirty}
use Rattle.nl_meta.proofs.Lists.{none_some, some_in}
use Rattle.nl_meta.proofs.SlotProofs.{one_slot}
use Rattle.nl_meta_running.specs.FileLaws.{ChangesFileRecord, IsRight}
use Rattle.nl_handler.specs.Changing.{TaggedPointerIsResident, RenamesIn}
use Rattle.nl_handler.specs.Handling.{TagsFile, page_holding}
use Rattle.nl_handler.proofs.Rewritten.{Rewritten, over-same, over-there, resident}

-- ---- lists

in-slot : (xs : List ℕ) (r a : ℕ) → slice_get xs r ≡ Some a → slice_index xs r ≡ a
in-slot [] r a e = absurd (none_some a e)
in-slot (x ∷ xs) zero a e = some_in _ _ e
in-slot (x ∷ xs) (suc r) a e = in-slot xs r a e

get-has : (d : Pointer) (xs : List Pointer) (j : ℕ) → j < length xs → Has xs (get_or xs j d)
get-has d [] j h = absurd (omega (arith, h))
get-has d (x ∷ xs) zero h = inl refl
get-has d (x ∷ xs) (suc j) h = inr (get-has d xs j (omega (arith, h)))

has-get : (d : Pointer) (xs : List Pointer) (x : Pointer) → Has xs x → (j : ℕ) × (j < length xs) × (get_or xs j d ≡ x)
has-get d [] x h = absurd h
has-get d (y ∷ xs) x (inl e) = (0, omega arith, e)
has-get d (y ∷ xs) x (inr h) = let r = has-get d xs x h in (suc r.0, omega (arith, r.1), r.2)

file-used : File ≡ Unused → ⊥
file-used e = cc

module _ (shape : Shape) (bounds : ShapeBounds shape) (d : VirtualMap) (tag : Tag) (to : Pointer) (was : InodeRec) (q r : Pages)
    (clean : CleanIsStored d q) (right : IsRight shape (running_over d q)) (file : TagsFile shape (running_over d q) tag was)
    (spelled : IsTrue (is_stamp to.stamp)) (physical : IsTrue (is_physical_name shape to)) (hand : TaggedPointerIsResident q tag was) (renames : RenamesIn tag to was q r) where
  abbrev n : ℕ
  n = tag.ino

  abbrev index : ℕ
  index = tag.index

  abbrev is : InodeRec
  is = renames.is

  -- the map before, with the pointer stored, and with the record written back
  abbrev one : VirtualMap
  one = running_over d q

  abbrev half : VirtualMap
  half = running_over d renames.stored

  abbrev two : VirtualMap
  two = running_over d r

  same-address : address_of is index ≡ address_of was index
  same-address = renames.stores.answered

  -- ---- the page that is written

  in-node : address_of was index ≡ 0 → renames.stored ≡ q
  in-node none = renames.stores.pages.same (same-address ∙ none)

  pub rewritten : Rewritten (page_holding tag was) q r
  rewritten = by (cases_eq (address_of was index) 0)
    where
      by : (address_of was index ≡ 0) ⊎ (address_of was index ≢ 0) → Rewritten (page_holding tag was) q r
      by (inl none) = record {
        bytes = with_slot 256 (n % 16) (inode_bytes is) (unwrap_or (page_of renames.stored (page_of_node n)) []);
        page = (renames.direct none).page
            ∙ ap (λ (k : Pages). with_dirty k (page_of_node n) (with_slot 256 (n % 16) (inode_bytes is) (unwrap_or (page_of renames.stored (page_of_node n)) []))) (in-node none)
            ∙ ap (λ (v : ℕ). with_dirty q v (with_slot 256 (n % 16) (inode_bytes is) (unwrap_or (page_of renames.stored (page_of_node n)) []))) (sym holding);
        there = subst (λ (v : ℕ). IsSome (page_of q v)) (sym holding) hand.node;
      }
        where
          holding : page_holding tag was ≡ page_of_node n
          holding = cond-true (address_of was index == 0) (page_of_node n) (address_of was index) (eq-eqb (address_of was index) 0 none)
      by (inr far) = record {
        bytes = bytes;
        page = renames.indirect far ∙ renames.stores.pages.written (λ z. far (sym same-address ∙ z)) refl ∙ ap (λ (v : ℕ). with_dirty q v bytes) (same-address ∙ sym holding);
        there = subst (λ (v : ℕ). IsSome (page_of q v)) (sym holding) (ap is_some (hand.range far).there);
      }
        where
          holding : page_holding tag was ≡ address_of was index
          holding = cond-false (address_of was index == 0) (page_of_node n) (address_of was index) (ne_eqb (address_of was index) 0 far)

          bytes : List ℕ
          bytes = with_slot 16 (slot_of index) (pointer_bytes to) (unwrap_or (page_of q (address_of is index)) [])

  -- ---- the record

  parts-before : FileParts was
  parts-before = file-parts was hand.file

  parts-after : FileParts is
  parts-after = file-parts is renames.stores.file

  pub stored : StoresPointer index to was is one half
  stored = renames.stores.pointers d clean

  -- each address stays
  pub same-slots : (k : ℕ) → slice_index (slots_of is) k ≡ slice_index (slots_of was) k
  same-slots k = by (cases_eq k (range_of index)) (cases_lt index 8)
    where
      less : index < 8 → 8 ≤ index → ⊥
      less low high = omega (arith, low, high)

      by : (k ≡ range_of index) ⊎ (k ≢ range_of index) → (index < 8) ⊎ (8 ≤ index) → slice_index (slots_of is) k ≡ slice_index (slots_of was) k
      by (inr off) any = renames.stores.record_kept.addresses k (λ h. off)
      by (inl e) (inl low) = renames.stores.record_kept.addresses k (λ high. absurd (less low high))
      by (inl e) (inr high) =
          ap (λ (j : ℕ). slice_index (slots_of is) j) e ∙ sym (address-range is index high) ∙ same-address ∙ address-range was index high ∙ ap (λ (j : ℕ). slice_index (slots_of was) j) (sym e)

  high-index : address_of was index ≢ 0 → 8 ≤ index
  high-index far = by (cases_lt index 8)
    where
      by : (index < 8) ⊎ (8 ≤ index) → 8 ≤ index
      by (inl low) = absurd (far (address-node was index low))
      by (inr high) = high

  -- the record is the same where a page has the pointer
  same-record : address_of was index ≢ 0 → was ≡ is
  same-record far = λ i. record { kind = kind i; generation = generation i; size = size i; direct = direct i; addresses = addresses i }
    where
      kind : was.kind ≡ is.kind
      kind = file.tagged.is_file ∙ sym renames.stores.file.kind

      generation : was.generation ≡ is.generation
      generation = sym renames.stores.record_kept.generation

      size : was.size ≡ is.size
      size = sym renames.stores.record_kept.size

      off : (i : ℕ) → i < 8 → 8 ≤ index → i ≢ index
      off i low high e = omega (arith, low, high, e)

      at : (i : ℕ) → i < 8 → get_or was.direct i no_pointer ≡ get_or is.direct i no_pointer
      at i low = sym (at-node one was i low) ∙ sym (stored.others i (off i low (high-index far))) ∙ at-node half is i low

      direct : was.direct ≡ is.direct
      direct = ext_get_or no_pointer was.direct is.direct (parts-before.direct ∙ sym parts-after.direct) (λ i h. at i (let l = parts-before.direct in omega (arith, h, l)))

      addresses : was.addresses ≡ is.addresses
      addresses = ext_get_or 0 was.addresses is.addresses (parts-before.addresses ∙ sym parts-after.addresses) (λ i h. sym (same-slots i))

  -- ---- the record is written back

  node-below : 67 + n / 16 < 67 + shape.inode_pages
  node-below = let p = bounds.places in let h = file.is_node.below in omega (arith, h, p)

  had : (k a : ℕ) → a ≢ 0 → slice_index (slots_of was) k ≡ a → AddressAt shape one n k a
  had k a far e = record { rec = was; is_node = file.is_node; in_slot = at-slot (slots_of was) k (λ z. far (sym e ∙ z)) ∙ ap (λ (v : ℕ). Some v) e; not_zero = far }

  from-pool : (far : address_of was index ≢ 0) → 67 + shape.inode_pages ≤ address_of was index
  from-pool far = (right.addresses.good n (range_of index) (address_of was index) (had (range_of index) (address_of was index) far (sym (address-range was index (high-index far))))).from_pool

  changed : ChangesSlot 256 (67 + n / 16) (n % 16) half two
  changed = by (cases_eq (address_of was index) 0)
    where
      by : (address_of was index ≡ 0) ⊎ (address_of was index ≢ 0) → ChangesSlot 256 (67 + n / 16) (n % 16) half two
      by (inr far) = record {
        others = λ u off. ap (λ (k : Pages). running_over d k u) (renames.indirect far);
        slots = λ j off. ap (λ (k : Pages). slot_at (running_over d k) 256 (67 + n / 16) j) (renames.indirect far);
      }
      by (inl none) = record {
        others = λ u off. over-same d renames.stored r u (put.others.others u off);
        slots = λ j off.
            ap (λ (o : Option (List ℕ)). slot_in 256 j (unwrap_or o [])) (over-there d r (67 + n / 16) (resident (page_holding tag was) q r rewritten (67 + n / 16) hand.node))
            ∙ put.others.slots j off
            ∙ ap (λ (o : Option (List ℕ)). slot_in 256 j (unwrap_or o [])) (sym (over-there d renames.stored (67 + n / 16) (subst (λ (k : Pages). IsSome (page_of k (67 + n / 16))) (sym (in-node none)) hand.node)));
      }
        where
          put : PutsNode n is renames.stored r
          put = renames.direct none

  node-after : inode_at two n ≡ Some is
  unfolding inode_at bytes_of_node
  node-after = by (cases_eq (address_of was index) 0)
    where
      by : (address_of was index ≡ 0) ⊎ (address_of was index ≢ 0) → inode_at two n ≡ Some is
      by (inl none) =
          ap (λ (o : Option (List ℕ)). inode_of (slot_in 256 (n % 16) (unwrap_or o []))) (over-there d r (67 + n / 16) (resident (page_holding tag was) q r rewritten (67 + n / 16) hand.node))
          ∙ (renames.direct none).node
      by (inr far) =
          ap (λ (k : Pages). inode_at (running_over d k) n) (renames.indirect far)
          ∙ (other_nodes (address_of is index) one half stored.pages).node n apart
          ∙ file.is_node.spelled ∙ ap (λ (k : InodeRec). Some k) (same-record far)
        where
          apart : 67 + n / 16 ≢ address_of is index
          apart e = let p = from-pool far in let b = node-below in let f = e ∙ same-address in omega (arith, p, b, f)

  over : StoresOver shape d index (Some to) None was is q renames.stored Done
  over = record { clean = clean; spelled = spelled; physical = physical; pool = tt; stores = renames.stores }

  pub pointer-changes : ChangesPointer shape one two n index was is
  pointer-changes = one_pointer_stored shape d n index (Some to) None was is q renames.stored Done two (record {
    bounds = bounds;
    right = right.addresses;
    is_node = file.is_node;
    is_file = file.tagged.is_file;
    within = file.tagged.within;
    over = over;
    unused = tt;
    node = node-after;
    others = changed;
  })

  -- ---- the file

  laws : NodeLaws shape one n was
  laws = file_of_node shape one n was right.addresses file.is_node file.tagged.is_file

  good-half : AddressesGood shape half is
  good-half = (stored_file shape d index (Some to) None was is q renames.stored Done over).good laws.good

  two-half : (v : ℕ) → (v ≡ 0) ⊎ (67 + shape.inode_pages ≤ v) → two v ≡ half v
  two-half v (inl z) = changed.others v (λ e. absurd (nought e))
    where
      nought : v ≡ 67 + n / 16 → ⊥
      nought e = omega (arith, z, e)
  two-half v (inr h) = changed.others v (λ e. absurd (far e))
    where
      far : v ≡ 67 + n / 16 → ⊥
      far e = let b = node-below in omega (arith, h, e, b)

  in-pool : (k : ℕ) → (slice_index (slots_of is) k ≡ 0) ⊎ (67 + shape.inode_pages ≤ slice_index (slots_of is) k)
  in-pool k = by (cases_eq (slice_index (slots_of is) k) 0)
    where
      by : (slice_index (slots_of is) k ≡ 0) ⊎ (slice_index (slots_of is) k ≢ 0) → (slice_index (slots_of is) k ≡ 0) ⊎ (67 + shape.inode_pages ≤ slice_index (slots_of is) k)
      by (inl e) = inl e
      by (inr far) = inr (good-half k far).from_pool

  -- the pointer is there
  pub pointer-now : pointer_at two is index ≡ to
  pointer-now = pointer-same half two is index (λ k. two-half (slice_index (slots_of is) k) (in-pool k)) ∙ stored.at

  own-rec : (rec : InodeRec) → IsNode shape two n rec → is ≡ rec
  own-rec rec f = some_in is rec (sym node-after ∙ f.spelled)

  own-slot : (slot a : ℕ) → AddressAt shape two n slot a → slice_index (slots_of is) slot ≡ a
  own-slot slot a x = ap (λ (rec : InodeRec). slice_index (slots_of rec) slot) (own-rec x.rec x.is_node) ∙ in-slot (slots_of x.rec) slot a x.in_slot

  pub own-had : (slot a : ℕ) → AddressAt shape two n slot a → AddressAt shape one n slot a
  own-had slot a x = had slot a x.not_zero (sym (same-slots slot) ∙ own-slot slot a x)

  good-own : (slot a : ℕ) → AddressAt shape two n slot a → GoodAddress shape two File a
  good-own slot a x = record { from_pool = g.from_pool; in_pool = g.in_pool; bytes = g.bytes; committed = two-half a (inr g.from_pool) ∙ g.committed; spelled = g.spelled }
    where
      e : slice_index (slots_of is) slot ≡ a
      e = own-slot slot a x

      g : GoodAddress shape half File a
      g = subst (λ (v : ℕ). GoodAddress shape half File v) e (good-half slot (λ z. x.not_zero (sym e ∙ z)))

  other-page : (m slot a : ℕ) → m ≢ n → AddressAt shape one m slot a → two a ≡ one a
  other-page m slot a off x = two-half a (inr (right.addresses.good m slot a x).from_pool) ∙ stored.pages a (λ e. absurd (clash e (cases_lt index 8)))
    where
      clash : a ≡ address_of is index → (index < 8) ⊎ (8 ≤ index) → ⊥
      clash e (inl low) = x.not_zero (e ∙ address-node is index low)
      clash e (inr high) = off (right.addresses.one_use m slot n (range_of index) a x (had (range_of index) a x.not_zero (sym (e ∙ same-address ∙ address-range was index high)))).0

  page-in-pool : (address_of is index ≡ 0) ⊎ (67 + shape.inode_pages ≤ address_of is index)
  page-in-pool = by (cases_eq (address_of was index) 0)
    where
      by : (address_of was index ≡ 0) ⊎ (address_of was index ≢ 0) → (address_of is index ≡ 0) ⊎ (67 + shape.inode_pages ≤ address_of is index)
      by (inl e) = inl (same-address ∙ e)
      by (inr far) = inr (subst (λ (v : ℕ). 67 + shape.inode_pages ≤ v) (sym same-address) (from-pool far))

  other-bytes : (m : ℕ) → m ≢ n → m < 16 * shape.inode_pages → bytes_of_node two m ≡ bytes_of_node one m
  unfolding bytes_of_node
  other-bytes m off h = one_slot.node (67 + n / 16) (n % 16) half two changed m apart ∙ ap (λ (o : Option (List ℕ)). slot_in 256 (m % 16) (unwrap_or o [])) (stored.pages (67 + m / 16) (λ e. absurd (clash e page-in-pool)))
    where
      apart : 67 + m / 16 ≡ 67 + n / 16 → m % 16 ≡ n % 16 → ⊥
      apart e f = off (omega (arith, e, f))

      clash : 67 + m / 16 ≡ address_of is index → (address_of is index ≡ 0) ⊎ (67 + shape.inode_pages ≤ address_of is index) → ⊥
      clash e (inl z) = omega (arith, e, z)
      clash e (inr p) = omega (arith, e, p, h)

  -- each pointer of the node names a page of the physical segment
  direct-physical : NamesPhysical shape is.direct
  direct-physical p m = subst (λ (k : Pointer). IsTrue (is_physical_name shape k)) at.2 (by (cases_eq at.0 index))
    where
      at : (j : ℕ) × (j < length is.direct) × (get_or is.direct j no_pointer ≡ p)
      at = has-get no_pointer is.direct p m

      low : at.0 < 8
      low = let l = parts-after.direct in let h = at.1 in omega (arith, h, l)

      node : (rec : InodeRec) × (inode_at one n ≡ Some rec) × NamesPhysical shape rec.direct
      node = right.nodes.spelled n file.is_node.below

      were : NamesPhysical shape was.direct
      were = subst (λ (rec : InodeRec). NamesPhysical shape rec.direct) (some_in node.0 was (sym node.1 ∙ file.is_node.spelled)) node.2

      by : (at.0 ≡ index) ⊎ (at.0 ≢ index) → IsTrue (is_physical_name shape (get_or is.direct at.0 no_pointer))
      by (inl e) = subst (λ (k : Pointer). IsTrue (is_physical_name shape k)) (sym (sym (at-node half is at.0 low) ∙ ap (λ (j : ℕ). pointer_at half is j) e ∙ stored.at)) physical
      by (inr off) =
          subst (λ (k : Pointer). IsTrue (is_physical_name shape k)) (sym (sym (at-node half is at.0 low) ∙ stored.others at.0 off ∙ at-node one was at.0 low))
          (were (get_or was.direct at.0 no_pointer) (get-has no_pointer was.direct at.0 (let l = parts-before.direct in omega (arith, low, l))))

  pub file-changes : ChangesFileRecord shape one two n was is
  file-changes = record {
    node_before = file.is_node;
    file_before = file.tagged.is_file;
    node_after = node-after;
    file_after = renames.stores.file.kind;
    generation = renames.stores.record_kept.generation;
    direct = direct-physical;
    others = other-bytes;
    pages = other-page;
    good = good-own;
    one_use = λ slot slot' a x y. (right.addresses.one_use n slot n slot' a (own-had slot a x) (own-had slot' a y)).1;
    apart = λ slot a m slot' x y. (right.addresses.one_use m slot' n slot a y (own-had slot a x)).0;
  }
