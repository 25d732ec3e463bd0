-- Two maps with the same pages of nodes and of used nodes' addresses: both are right, and have the same nodes and entries.
use Rattle.std.proofs.Common.{◌≡◌, ◌≢◌, ℕ, zero, suc, ◌+◌, ◌*◌, ◌/◌, ◌%◌, ◌<◌, true, not, ◌&&◌, ◌==◌, List, [], ◌∷◌, get_or, refl, sym, ap, subst, ◌∙◌, Option, Some, inl, inr, arith, nat_lt}
use Rattle.std.proofs.lemmas.Bool.{and_parts, eqb-false, le-leb, lt-ltb, not-true}
use Rattle.std.specs.Int.{div_ceil}
use Rattle.std.specs.Prelude.{slice_get, find, bytes_eq}
use Rattle.nl_field.specs.Bytes.{all_zero}
use Rattle.nl_field.specs.Inode.{are_filled, inode_of}
use Rattle.nl_field.specs.Members.{Has}
use Rattle.nl_field.specs.Numbers.{ShapeBounds}
use Rattle.nl_field.specs.Virtual.{is_inode_address}
use Rattle.nl_field.specs.declared.entry.EntryRec.{EntryRec}
use Rattle.nl_field.specs.declared.inode.InodeRec.{InodeRec}
use Rattle.nl_field.specs.declared.inode.Kind.TheVariants.{Dir}
use Rattle.nl_field.specs.declared.shape.Shape.{Shape}
use Rattle.nl_meta.specs.Committed.{VirtualMap}
use Rattle.nl_meta.specs.Consistent.{AddressAt, AddressesRight, EntriesRight, GoodAddress, IsNode, NodesRight}
use Rattle.nl_meta.specs.Nodes.{address_of_place, bytes_of_node, entries_of_inode, entry_named, inode_at, slot_at}
use Rattle.nl_meta.proofs.AddressProofs.{filled_of, inode_spelled}
use Rattle.nl_inode.specs.FreeLaws.{UsesAddress}
use Rattle.nl_dir.specs.DirectoryLaws.{OwnPages}
use Rattle.nl_dir.specs.ListLaws.{Lists, ListsRight, ReachedByLists}
use Rattle.nl_dir.proofs.LawProofs.{only_own_pages}
use Rattle.nl_dir.proofs.ListProofs.{entries_by_lists}
use Rattle.nl_dir.proofs.Records.{true_false}
use Rattle.nl_meta_running.specs.Running.{IsNeeded}

-- the first addresses of a directory are not 0
pub slot-filled : (n : ℕ) (xs : List ℕ) (k : ℕ) → are_filled n xs ≡ true → k < n → (slice_get xs k ≡ Some (get_or xs k 0)) × (get_or xs k 0 ≢ 0)
unfolding are_filled
slot-filled zero xs k e h = absurd (none h)
  where
    none : k < 0 → ⊥
    none h = omega arith
slot-filled (suc n) [] k e h = absurd (true_false (sym e))
slot-filled (suc n) (x ∷ xs) zero e h = (refl, eqb-false x 0 (not-true _ (and_parts (not (x == 0)) _ e).0))
slot-filled (suc n) (x ∷ xs) (suc k) e h = slot-filled n xs k (and_parts (not (x == 0)) _ e).1 (omega (arith, h))

module _ (shape : Shape) (pages : VirtualMap) (n : ℕ) (rec : InodeRec) (is : IsNode shape pages n rec) (dir : rec.kind ≡ Dir) where
  pub row-used : (k : ℕ) → k < div_ceil rec.size 64 → UsesAddress shape pages (get_or rec.addresses k 0)
  row-used k h =
      let s = slot-filled (div_ceil rec.size 64) rec.addresses k (filled_of rec (inode_spelled shape pages n rec is) dir) h in
      (n, k, record { rec = rec; is_node = is; in_slot = s.0; not_zero = s.1 })

  pub place-used : (i : ℕ) → i < rec.size → UsesAddress shape pages (address_of_place rec i)
  place-used i h = row-used (i / 64) (omega (arith, h))

-- the page of a node
pub inode-address : (shape : Shape) (n : ℕ) → n < 16 * shape.inode_pages → is_inode_address shape (67 + n / 16) ≡ true
inode-address shape n h =
    let low = le-leb 67 (67 + n / 16) (omega arith) in
    let high = lt-ltb (67 + n / 16) (67 + shape.inode_pages) (omega (arith, h)) in
    ap (λ b. b && nat_lt (67 + n / 16) (67 + shape.inode_pages)) low ∙ high

module _ (shape : Shape) (bounds : ShapeBounds shape) (old new : VirtualMap) (same : (v : ℕ) → IsNeeded shape old v → new v ≡ old v) where
  node-bytes : (n : ℕ) → n < 16 * shape.inode_pages → bytes_of_node new n ≡ bytes_of_node old n
  unfolding bytes_of_node
  node-bytes n h = ap (λ (o : Option (List ℕ)). slot_at (λ v. o) 256 0 (n % 16)) (same (67 + n / 16) (inl (inode-address shape n h)))

  pub inode-same : (n : ℕ) → n < 16 * shape.inode_pages → inode_at new n ≡ inode_at old n
  unfolding inode_at
  inode-same n h = ap inode_of (node-bytes n h)

  pub node-to : (n : ℕ) (rec : InodeRec) → IsNode shape old n rec → IsNode shape new n rec
  node-to n rec is = let h = is.below in let f = bounds.places in record { below = is.below; spelled = inode-same n (omega (arith, h, f)) ∙ is.spelled; used = is.used }

  pub node-from : (n : ℕ) (rec : InodeRec) → IsNode shape new n rec → IsNode shape old n rec
  node-from n rec is = let h = is.below in let f = bounds.places in record { below = is.below; spelled = sym (inode-same n (omega (arith, h, f))) ∙ is.spelled; used = is.used }

  address-to : (n slot a : ℕ) → AddressAt shape old n slot a → AddressAt shape new n slot a
  address-to n slot a at = record { rec = at.rec; is_node = node-to n at.rec at.is_node; in_slot = at.in_slot; not_zero = at.not_zero }

  address-from : (n slot a : ℕ) → AddressAt shape new n slot a → AddressAt shape old n slot a
  address-from n slot a at = record { rec = at.rec; is_node = node-from n at.rec at.is_node; in_slot = at.in_slot; not_zero = at.not_zero }

  pub needed-from : (v : ℕ) → IsNeeded shape new v → IsNeeded shape old v
  needed-from v (inl e) = inl e
  needed-from v (inr u) = inr (u.0, u.1, address-from u.0 u.1 v u.2)

  pub needed-to : (v : ℕ) → IsNeeded shape old v → IsNeeded shape new v
  needed-to v (inl e) = inl e
  needed-to v (inr u) = inr (u.0, u.1, address-to u.0 u.1 v u.2)

  pub own : (n : ℕ) (rec : InodeRec) → IsNode shape old n rec → rec.kind ≡ Dir → OwnPages rec old new
  own n rec is dir = only_own_pages rec old new (λ i h. same (address_of_place rec i) (inr (place-used shape old n rec is dir i h)))

  pub nodes-right : NodesRight shape old → NodesRight shape new
  nodes-right right = record {
    spelled = λ n h. let f = bounds.places in let r = right.spelled n h in (r.0, inode-same n (omega (arith, h, f)) ∙ r.1, r.2);
    rest = λ n h l. ap all_zero (node-bytes n l) ∙ right.rest n h l;
    root = λ rec e. let m = bounds.some_nodes in let f = bounds.places in right.root rec (sym (inode-same 0 (omega (arith, m, f))) ∙ e);
  }

  pub addresses-right : AddressesRight shape old → AddressesRight shape new
  unfolding address-from
  addresses-right right = record {
    good = λ n slot a at. moved n slot a at (right.good n slot a (address-from n slot a at));
    one_use = λ n slot m slot' a at at'. right.one_use n slot m slot' a (address-from n slot a at) (address-from m slot' a at');
  }
    where
      moved : (n slot a : ℕ) (at : AddressAt shape new n slot a) → GoodAddress shape old at.rec.kind a → GoodAddress shape new at.rec.kind a
      moved n slot a at good = record {
        from_pool = good.from_pool;
        in_pool = good.in_pool;
        bytes = good.bytes;
        committed = same a (inr (n, slot, address-from n slot a at)) ∙ good.committed;
        spelled = good.spelled;
      }

  pub entries-same : (n : ℕ) (rec : InodeRec) → IsNode shape old n rec → rec.kind ≡ Dir → entries_of_inode new rec ≡ entries_of_inode old rec
  entries-same n rec is dir = (own n rec is dir).entries

  pub named-same : (n : ℕ) (rec : InodeRec) → IsNode shape old n rec → rec.kind ≡ Dir → (name : List ℕ) → entry_named new rec name ≡ entry_named old rec name
  unfolding entry_named
  named-same n rec is dir name = ap (λ (es : List EntryRec). find (λ e. bytes_eq e.name name) es) (entries-same n rec is dir)

  lists-to : (d : ℕ) (e : EntryRec) → Lists shape old d e → Lists shape new d e
  lists-to d e l = record { rec = l.rec; is_node = node-to d l.rec l.is_node; is_dir = l.is_dir; has = subst (λ (es : List EntryRec). Has es e) (sym (entries-same d l.rec l.is_node l.is_dir)) l.has }

  lists-from : (d : ℕ) (e : EntryRec) → Lists shape new d e → Lists shape old d e
  lists-from d e l =
      let is = node-from d l.rec l.is_node in
      record { rec = l.rec; is_node = is; is_dir = l.is_dir; has = subst (λ (es : List EntryRec). Has es e) (entries-same d l.rec is l.is_dir) l.has }

  reached-to : (n : ℕ) → ReachedByLists shape old n → ReachedByLists shape new n
  reached-to n ReachedByLists.at_root = ReachedByLists.at_root
  reached-to n (ReachedByLists.by_entry d e l r) = ReachedByLists.by_entry d e (lists-to d e l) (reached-to d r)

  lists-right : ListsRight shape old → ListsRight shape new
  lists-right right = record {
    directories = λ d rec is dir. let from = node-from d rec is in (own d rec from dir).directory (right.directories d rec from dir);
    good = λ d e l. let r = right.good d e (lists-from d e l) in record { no_root = r.no_root; target = r.target; is_node = node-to e.ino r.target r.is_node; generation = r.generation };
    named = λ n rec is far. let r = right.named n rec (node-from n rec is) far in (r.0, r.1, lists-to r.0 r.1 r.2, r.3, r.4);
    one_name = λ d d' e e' l l' e-same. right.one_name d d' e e' (lists-from d e l) (lists-from d' e' l') e-same;
    reached = λ n rec is. reached-to n (right.reached n rec (node-from n rec is));
  }

  pub entries-right : AddressesRight shape old → EntriesRight shape old → EntriesRight shape new
  entries-right addresses right = (entries_by_lists shape new (addresses-right addresses)).1 (lists-right ((entries_by_lists shape old addresses).0 right))
