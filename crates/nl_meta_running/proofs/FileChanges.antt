-- A volume of which one file changes: all is right again, and every other node has what it had.
use Rattle.std.proofs.Common.{◌≡◌, ◌≢◌, ℕ, ◌*◌, ◌/◌, ◌<◌, ◌≤◌, ◌++◌, Bool, true, false, not, cond, List, map, filter, refl, sym, ap, subst, ◌∙◌, Option, Some, None, ◌⊎◌, inl, inr, arith, nat_lt}
use Rattle.std.proofs.lemmas.Bool.{cases_eq, ltb-true}
use Rattle.std.specs.Int.{div_ceil}
use Rattle.std.specs.List.{enumerate_from}
use Rattle.nl_field.specs.Bytes.{all_zero}
use Rattle.nl_field.specs.Graph.{GraphNode, NodeBody, directory_node, file_node}
use Rattle.nl_field.specs.Inode.{inode_of}
use Rattle.nl_field.specs.Members.{Has}
use Rattle.nl_field.specs.Numbers.{ShapeBounds}
use Rattle.nl_field.specs.Pointers.{is_none_pointer}
use Rattle.nl_field.specs.declared.entry.EntryRec.{EntryRec}
use Rattle.nl_field.specs.declared.inode.InodeRec.{InodeRec}
use Rattle.nl_field.specs.declared.inode.Kind.{Kind}
use Rattle.nl_field.specs.declared.inode.Kind.TheVariants.{Dir, File, Unused}
use Rattle.nl_field.specs.declared.pointer.Pointer.{Pointer}
use Rattle.nl_field.specs.declared.shape.Shape.{Shape}
use Rattle.nl_meta.specs.Committed.{VirtualMap}
use Rattle.nl_meta.specs.Consistent.{AddressAt, AddressesRight, GoodAddress, IsNode, NamesPhysical, NodesRight}
use Rattle.nl_meta.specs.Nodes.{address_of_place, body_of, entries_of_inode, graph_of, inode_at, node_from, pointers_of_inode, slots_of}
use Rattle.nl_meta.proofs.AddressProofs.{filled_of, inode_spelled}
use Rattle.nl_meta.proofs.Lists.{some_in}
use Rattle.nl_dir.specs.DirectoryLaws.{OwnPages}
use Rattle.nl_dir.specs.ListLaws.{Lists, ListsRight, ReachedByLists}
use Rattle.nl_dir.proofs.LawProofs.{only_own_pages}
use Rattle.nl_dir.proofs.ListProofs.{entries_by_lists}
use Rattle.nl_meta_running.specs.FileLaws.{ChangesFileRecord, IsRight, OneFileChanges}
use Rattle.nl_meta_running.proofs.GraphStays.{all-pointers}
use Rattle.nl_meta_running.proofs.SameNeeded.{slot-filled}

dir-unused : Dir ≡ Unused → ⊥
dir-unused e = cc

file-unused : File ≡ Unused → ⊥
file-unused e = cc

dir-file : Dir ≡ File → ⊥
dir-file e = cc

module _ (shape : Shape) (old new : VirtualMap) (n : ℕ) (was is : InodeRec) (bounds : ShapeBounds shape) (right : IsRight shape old) (c : ChangesFileRecord shape old new n was is) where
  places : (m : ℕ) → m < shape.nodes → m < 16 * shape.inode_pages
  places m h = let f = bounds.places in omega (arith, h, f)

  inode-other : (m : ℕ) → m ≢ n → m < shape.nodes → inode_at new m ≡ inode_at old m
  unfolding inode_at
  inode-other m far h = ap inode_of (c.others m far (places m h))

  -- what a node of each map is in the other
  node-to : (m : ℕ) (rec : InodeRec) → m ≢ n → IsNode shape old m rec → IsNode shape new m rec
  node-to m rec far f = record { below = f.below; spelled = inode-other m far f.below ∙ f.spelled; used = f.used }

  node-from : (m : ℕ) (rec : InodeRec) → m ≢ n → IsNode shape new m rec → IsNode shape old m rec
  node-from m rec far f = record { below = f.below; spelled = sym (inode-other m far f.below) ∙ f.spelled; used = f.used }

  node-own : IsNode shape new n is
  node-own = record { below = c.node_before.below; spelled = c.node_after; used = λ u. file-unused (sym c.file_after ∙ u) }

  own-new : (rec : InodeRec) → IsNode shape new n rec → is ≡ rec
  own-new rec f = some_in is rec (sym c.node_after ∙ f.spelled)

  own-old : (rec : InodeRec) → IsNode shape old n rec → was ≡ rec
  own-old rec f = some_in was rec (sym c.node_before.spelled ∙ f.spelled)

  address-from : (m slot a : ℕ) → m ≢ n → AddressAt shape new m slot a → AddressAt shape old m slot a
  address-from m slot a far at = record { rec = at.rec; is_node = node-from m at.rec far at.is_node; in_slot = at.in_slot; not_zero = at.not_zero }

  -- directories stay
  dir-from : (m : ℕ) (rec : InodeRec) → rec.kind ≡ Dir → IsNode shape new m rec → (m ≢ n) × IsNode shape old m rec
  dir-from m rec dir f = (far, node-from m rec far f)
    where
      far : m ≢ n
      far e = dir-file (sym dir ∙ (sym (ap (λ (r : InodeRec). r.kind) (own-new rec (subst (λ (k : ℕ). IsNode shape new k rec) e f))) ∙ c.file_after))

  dir-to : (m : ℕ) (rec : InodeRec) → rec.kind ≡ Dir → IsNode shape old m rec → (m ≢ n) × IsNode shape new m rec
  dir-to m rec dir f = (far, node-to m rec far f)
    where
      far : m ≢ n
      far e = dir-file (sym dir ∙ (sym (ap (λ (r : InodeRec). r.kind) (own-old rec (subst (λ (k : ℕ). IsNode shape old k rec) e f))) ∙ c.file_before))

  row-at : (m : ℕ) (rec : InodeRec) → IsNode shape old m rec → rec.kind ≡ Dir → (i : ℕ) → i < rec.size → AddressAt shape old m (i / 64) (address_of_place rec i)
  row-at m rec f dir i h =
      let s = slot-filled (div_ceil rec.size 64) rec.addresses (i / 64) (filled_of rec (inode_spelled shape old m rec f) dir) (omega (arith, h)) in
      record { rec = rec; is_node = f; in_slot = s.0; not_zero = s.1 }

  dir-pages : (m : ℕ) (rec : InodeRec) → m ≢ n → IsNode shape old m rec → rec.kind ≡ Dir → OwnPages rec old new
  dir-pages m rec far f dir = only_own_pages rec old new (λ i h. c.pages m (i / 64) (address_of_place rec i) far (row-at m rec f dir i h))

  entries-stay : (m : ℕ) (rec : InodeRec) → m ≢ n → IsNode shape old m rec → rec.kind ≡ Dir → entries_of_inode new rec ≡ entries_of_inode old rec
  entries-stay m rec far f dir = (dir-pages m rec far f dir).entries

  lists-to : (d : ℕ) (e : EntryRec) → Lists shape old d e → Lists shape new d e
  lists-to d e l =
      let to = dir-to d l.rec l.is_dir l.is_node in
      record { rec = l.rec; is_node = to.1; is_dir = l.is_dir; has = subst (λ (es : List EntryRec). Has es e) (sym (entries-stay d l.rec to.0 l.is_node l.is_dir)) l.has }

  lists-from : (d : ℕ) (e : EntryRec) → Lists shape new d e → Lists shape old d e
  lists-from d e l =
      let from = dir-from d l.rec l.is_dir l.is_node in
      record { rec = l.rec; is_node = from.1; is_dir = l.is_dir; has = subst (λ (es : List EntryRec). Has es e) (entries-stay d l.rec from.0 from.1 l.is_dir) l.has }

  reached-to : (m : ℕ) → ReachedByLists shape old m → ReachedByLists shape new m
  reached-to m ReachedByLists.at_root = ReachedByLists.at_root
  reached-to m (ReachedByLists.by_entry d e l r) = ReachedByLists.by_entry d e (lists-to d e l) (reached-to d r)

  -- a used node of the new map is one of the old, of the same generation
  used-from : (m : ℕ) (rec : InodeRec) → IsNode shape new m rec → (r : InodeRec) × IsNode shape old m r × (r.generation ≡ rec.generation)
  used-from m rec f = by (cases_eq m n)
    where
      by : (m ≡ n) ⊎ (m ≢ n) → (r : InodeRec) × IsNode shape old m r × (r.generation ≡ rec.generation)
      by (inl e) = (was, subst (λ (k : ℕ). IsNode shape old k was) (sym e) c.node_before, sym c.generation ∙ ap (λ (r : InodeRec). r.generation) (own-new rec (subst (λ (k : ℕ). IsNode shape new k rec) e f)))
      by (inr far) = (rec, node-from m rec far f, refl)

  -- a used node of the old map is one of the new, of the same generation
  used-to : (m : ℕ) (rec : InodeRec) → IsNode shape old m rec → (r : InodeRec) × IsNode shape new m r × (r.generation ≡ rec.generation)
  used-to m rec f = by (cases_eq m n)
    where
      by : (m ≡ n) ⊎ (m ≢ n) → (r : InodeRec) × IsNode shape new m r × (r.generation ≡ rec.generation)
      by (inl e) = (is, subst (λ (k : ℕ). IsNode shape new k is) (sym e) node-own, c.generation ∙ ap (λ (r : InodeRec). r.generation) (own-old rec (subst (λ (k : ℕ). IsNode shape old k rec) e f)))
      by (inr far) = (rec, node-to m rec far f, refl)

  nodes-right : NodesRight shape new
  nodes-right = record {
    spelled = λ m h. spelled m h (cases_eq m n);
    rest = λ m low high. ap all_zero (c.others m (behind m low) high) ∙ right.nodes.rest m low high;
    root = λ rec e. root rec e (cases_eq 0 n);
  }
    where
      behind : (m : ℕ) → shape.nodes ≤ m → m ≢ n
      behind m low e = let h = c.node_before.below in omega (arith, low, h, e)

      spelled : (m : ℕ) → m < shape.nodes → (m ≡ n) ⊎ (m ≢ n) → (rec : InodeRec) × (inode_at new m ≡ Some rec) × NamesPhysical shape rec.direct
      spelled m h (inl e) = (is, subst (λ (k : ℕ). inode_at new k ≡ Some is) (sym e) c.node_after, c.direct)
      spelled m h (inr far) = let r = right.nodes.spelled m h in (r.0, inode-other m far h ∙ r.1, r.2)

      root : (rec : InodeRec) → inode_at new 0 ≡ Some rec → (0 ≡ n) ⊎ (0 ≢ n) → rec.kind ≡ Dir
      root rec e (inl same) = absurd (dir-file (sym (right.nodes.root was (subst (λ (k : ℕ). inode_at old k ≡ Some was) (sym same) c.node_before.spelled)) ∙ c.file_before))
      root rec e (inr far) = let m = bounds.some_nodes in right.nodes.root rec (sym (inode-other 0 far (omega (arith, m))) ∙ e)

  addresses-right : AddressesRight shape new
  unfolding address-from
  addresses-right = record {
    good = λ m slot a at. good m slot a at (cases_eq m n);
    one_use = λ m slot k slot' a x y. one_use m slot k slot' a x y (cases_eq m n) (cases_eq k n);
  }
    where
      moved : (m slot a : ℕ) (kind : Kind) → m ≢ n → AddressAt shape old m slot a → GoodAddress shape old kind a → GoodAddress shape new kind a
      moved m slot a kind far at g = record { from_pool = g.from_pool; in_pool = g.in_pool; bytes = g.bytes; committed = c.pages m slot a far at ∙ g.committed; spelled = g.spelled }

      good : (m slot a : ℕ) (at : AddressAt shape new m slot a) → (m ≡ n) ⊎ (m ≢ n) → GoodAddress shape new at.rec.kind a
      good m slot a at (inl e) = subst (λ (k : Kind). GoodAddress shape new k a) (sym c.file_after ∙ ap (λ (r : InodeRec). r.kind) (own-new at.rec (subst (λ (k : ℕ). IsNode shape new k at.rec) e at.is_node)))
          (c.good slot a (subst (λ (k : ℕ). AddressAt shape new k slot a) e at))
      good m slot a at (inr far) = let from = address-from m slot a far at in moved m slot a at.rec.kind far from (right.addresses.good m slot a from)

      one_use : (m slot k slot' a : ℕ) → AddressAt shape new m slot a → AddressAt shape new k slot' a → (m ≡ n) ⊎ (m ≢ n) → (k ≡ n) ⊎ (k ≢ n) → (m ≡ k) × (slot ≡ slot')
      one_use m slot k slot' a x y (inl e) (inl f) = (e ∙ sym f, c.one_use slot slot' a (subst (λ (j : ℕ). AddressAt shape new j slot a) e x) (subst (λ (j : ℕ). AddressAt shape new j slot' a) f y))
      one_use m slot k slot' a x y (inl e) (inr far) = absurd (far (c.apart slot a k slot' (subst (λ (j : ℕ). AddressAt shape new j slot a) e x) (address-from k slot' a far y)))
      one_use m slot k slot' a x y (inr far) (inl f) = absurd (far (c.apart slot' a m slot (subst (λ (j : ℕ). AddressAt shape new j slot' a) f y) (address-from m slot a far x)))
      one_use m slot k slot' a x y (inr far) (inr away) = right.addresses.one_use m slot k slot' a (address-from m slot a far x) (address-from k slot' a away y)

  lists-right : ListsRight shape old → ListsRight shape new
  lists-right l = record {
    directories = λ d rec f dir. let from = dir-from d rec dir f in (dir-pages d rec from.0 from.1 dir).directory (l.directories d rec from.1 dir);
    good = λ d e has.
        let r = l.good d e (lists-from d e has) in
        let to = used-to e.ino r.target r.is_node in
        record { no_root = r.no_root; target = to.0; is_node = to.1; generation = to.2 ∙ r.generation };
    named = λ m rec f far.
        let from = used-from m rec f in
        let r = l.named m from.0 from.1 far in
        (r.0, r.1, lists-to r.0 r.1 r.2, r.3, r.4 ∙ from.2);
    one_name = λ d d' e e' x y same. l.one_name d d' e e' (lists-from d e x) (lists-from d' e' y) same;
    reached = λ m rec f. let from = used-from m rec f in reached-to m (l.reached m from.0 from.1);
  }

  pub stays-right : IsRight shape new
  stays-right = record {
    nodes = nodes-right;
    addresses = addresses-right;
    entries = (entries_by_lists shape new addresses-right).1 (lists-right ((entries_by_lists shape old right.addresses).0 right.entries));
  }

  -- ---- the other nodes of the graph

  body-stays : (m : ℕ) (rec : InodeRec) → m ≢ n → m < shape.nodes → inode_at old m ≡ Some rec → (k : Kind) → rec.kind ≡ k → body_of new rec k ≡ body_of old rec k
  unfolding pointers_of_inode
  body-stays m rec far h at Unused e = refl
  body-stays m rec far h at Dir e = ap (λ (es : List EntryRec). directory_node (map (λ e. (e.name, e.ino)) es))
      (entries-stay m rec far (record { below = h; spelled = at; used = λ u. dir-unused (sym e ∙ u) }) e)
  body-stays m rec far h at File e =
      ap (λ (ps : List Pointer). file_node rec.size (filter (λ p. not (is_none_pointer p.1)) (enumerate_from 0 (rec.direct ++ ps))))
      (all-pointers old new (slots_of rec) (λ k a in_slot some. c.pages m k a far (record { rec = rec; is_node = record { below = h; spelled = at; used = λ u. file-unused (sym e ∙ u) }; in_slot = in_slot; not_zero = some })))

  from-stays : (m : ℕ) → m ≢ n → m < shape.nodes → (o : Option InodeRec) → inode_at old m ≡ o → node_from new o ≡ node_from old o
  from-stays m far h None at = refl
  from-stays m far h (Some rec) at = ap (λ (b : NodeBody). the-node rec.generation b) (body-stays m rec far h at rec.kind refl)
    where
      the-node : ℕ → NodeBody → GraphNode
      the-node g b = record { generation = g; body = b }

  pub others-stay : (m : ℕ) → m ≢ n → graph_of shape new m ≡ graph_of shape old m
  unfolding graph_of
  others-stay m far = by (nat_lt m shape.nodes) refl
    where
      by : (b : Bool) → nat_lt m shape.nodes ≡ b → node_from new (cond b (inode_at new m) None) ≡ node_from old (cond b (inode_at old m) None)
      by false e = refl
      by true e = let h = ltb-true m shape.nodes e in ap (node_from new) (inode-other m far h) ∙ from-stays m far h (inode_at old m) refl

pub one_file_changes : OneFileChanges
one_file_changes shape old new n was is bounds right c = record { right = stays-right shape old new n was is bounds right c; others = others-stay shape old new n was is bounds right c }
