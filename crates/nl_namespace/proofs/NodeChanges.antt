-- One node has another record and other pages: what that does to the nodes, addresses and directories of a volume.
use Rattle.std.proofs.Common.{◌≡◌, ◌≢◌, ℕ, suc, ◌*◌, ◌/◌, ◌≤◌, ◌<◌, Bool, true, false, not, ◌==◌, cond, List, [], ◌∷◌, ◌++◌, map, filter, replicate, unwrap_or, get_or, refl, sym, ap, subst, ◌∙◌, Option, Some, None, ◌⊎◌, inl, inr, arith, nat_lt}
use Rattle.std.proofs.lemmas.Bool.{cases_eq, cond-true, eq-eqb, lt-ltb, ltb-true}
use Rattle.std.specs.Int.{div_ceil}
use Rattle.std.specs.List.{enumerate_from, flat_map}
use Rattle.std.specs.Prelude.{slice_get}
use Rattle.nl_field.specs.Bytes.{all_zero}
use Rattle.nl_field.specs.Graph.{GraphNode, NodeBody, directory_node, file_node}
use Rattle.nl_field.specs.Inode.{inode_of}
use Rattle.nl_field.specs.Numbers.{ShapeBounds}
use Rattle.nl_field.specs.Pointers.{is_none_pointer, no_pointer, pointers}
use Rattle.nl_field.specs.declared.entry.EntryRec.{EntryRec}
use Rattle.nl_field.specs.declared.inode.InodeRec.{InodeRec}
use Rattle.nl_field.specs.declared.inode.Kind.{Kind}
use Rattle.nl_field.specs.declared.inode.Kind.TheVariants.{Dir, File, Unused}
use Rattle.nl_field.specs.declared.pointer.Pointer.{Pointer}
use Rattle.nl_field.specs.declared.shape.Shape.{Shape}
use Rattle.nl_meta.specs.Committed.{VirtualMap}
use Rattle.nl_meta.specs.Consistent.{AddressAt, AddressesRight, GoodAddress, IsNode, NamesPhysical, NodesRight}
use Rattle.nl_meta.specs.Nodes.{address_of_place, body_of, bytes_of_node, graph_of, inode_at, node_from, pointers_at, pointers_of_inode, slots_of}
use Rattle.nl_meta.proofs.AddressProofs.{filled_of, inode_spelled}
use Rattle.nl_meta.proofs.Lists.{some_in}
use Rattle.nl_inode.specs.FreeLaws.{UsesAddress}
use Rattle.nl_dir.specs.AfterLaws.{HasAddress}
use Rattle.nl_dir.specs.Directory.{IsDirectory}
use Rattle.nl_dir.specs.DirectoryLaws.{OwnPages}
use Rattle.nl_dir.proofs.LawProofs.{only_own_pages}
use Rattle.nl_meta_running.proofs.SameNeeded.{slot-filled}

-- Nodes and addresses are right, and each directory is one.
pub record Formed (shape : Shape) (pages : VirtualMap) : Type 0 where
  pub nodes : NodesRight shape pages
  pub addresses : AddressesRight shape pages
  pub directories : (d : ℕ) (rec : InodeRec) → IsNode shape pages d rec → rec.kind ≡ Dir → IsDirectory pages rec

-- The bytes of each other node, and each page that another used node has, stay.
pub record SameBut (shape : Shape) (d : ℕ) (old new : VirtualMap) : Type 0 where
  pub nodes : (k : ℕ) → k < 16 * shape.inode_pages → k ≢ d → bytes_of_node new k ≡ bytes_of_node old k
  pub pages : (k slot a : ℕ) → k ≢ d → AddressAt shape old k slot a → new a ≡ old a

-- Node d has this record, and its addresses are good, differ, and are no other node's.
pub record ChangesNode (shape : Shape) (d : ℕ) (is : InodeRec) (old new : VirtualMap) : Type 0 where
  pub same : SameBut shape d old new
  pub below : d < shape.nodes
  pub node : inode_at new d ≡ Some is
  pub physical : NamesPhysical shape is.direct
  pub root : d ≡ 0 → is.kind ≡ Dir
  pub good : (slot a : ℕ) → HasAddress is slot a → GoodAddress shape new is.kind a
  pub one_use : (i j a : ℕ) → HasAddress is i a → HasAddress is j a → i ≡ j
  pub apart : (i a k slot : ℕ) → HasAddress is i a → k ≢ d → AddressAt shape old k slot a → ⊥
  pub directory : is.kind ≡ Dir → IsDirectory new is

module _ (shape : Shape) (pages : VirtualMap) (n : ℕ) (rec : InodeRec) (is : IsNode shape pages n rec) (dir : rec.kind ≡ Dir) where
  pub row-at : (k : ℕ) → k < div_ceil rec.size 64 → AddressAt shape pages n k (get_or rec.addresses k 0)
  row-at k h =
      let s = slot-filled (div_ceil rec.size 64) rec.addresses k (filled_of rec (inode_spelled shape pages n rec is) dir) h in
      record { rec = rec; is_node = is; in_slot = s.0; not_zero = s.1 }

  pub place-at : (i : ℕ) → i < rec.size → AddressAt shape pages n (i / 64) (address_of_place rec i)
  place-at i h = row-at (i / 64) (omega (arith, h))

page-pointers : (old new : VirtualMap) (a : ℕ) → (a ≢ 0 → new a ≡ old a) → pointers_at new a ≡ pointers_at old a
page-pointers old new a same = by (cases_eq a 0)
  where
    by : (a ≡ 0) ⊎ (a ≡ 0 → ⊥) → pointers_at new a ≡ pointers_at old a
    by (inl e) = cond-true (a == 0) _ _ (eq-eqb a 0 e) ∙ sym (cond-true (a == 0) _ _ (eq-eqb a 0 e))
    by (inr far) = ap (λ (o : Option (List ℕ)). cond (a == 0) (replicate 256 no_pointer) (pointers 256 (unwrap_or o []))) (same far)

all-pointers : (old new : VirtualMap) (xs : List ℕ) → ((k a : ℕ) → slice_get xs k ≡ Some a → a ≢ 0 → new a ≡ old a) → flat_map (pointers_at new) xs ≡ flat_map (pointers_at old) xs
all-pointers old new [] same = refl
all-pointers old new (x ∷ xs) same =
    ap (λ (ps : List Pointer). ps ++ flat_map (pointers_at new) xs) (page-pointers old new x (same 0 x refl))
    ∙ ap (λ (ps : List Pointer). pointers_at old x ++ ps) (all-pointers old new xs (λ k a e far. same (suc k) a e far))

the-node : ℕ → NodeBody → GraphNode
the-node g b = record { generation = g; body = b }

module _ (shape : Shape) (bounds : ShapeBounds shape) (old new : VirtualMap) (d : ℕ) (same : SameBut shape d old new) where
  pub inode-other : (k : ℕ) → k < shape.nodes → k ≢ d → inode_at new k ≡ inode_at old k
  unfolding inode_at
  inode-other k h far = let f = bounds.places in ap inode_of (same.nodes k (omega (arith, h, f)) far)

  pub node-other : (k : ℕ) (rec : InodeRec) → k ≢ d → IsNode shape old k rec → IsNode shape new k rec
  node-other k rec far is = record { below = is.below; spelled = inode-other k is.below far ∙ is.spelled; used = is.used }

  pub node-back : (k : ℕ) (rec : InodeRec) → k ≢ d → IsNode shape new k rec → IsNode shape old k rec
  node-back k rec far is = record { below = is.below; spelled = sym (inode-other k is.below far) ∙ is.spelled; used = is.used }

  pub address-back : (k slot a : ℕ) → k ≢ d → AddressAt shape new k slot a → AddressAt shape old k slot a
  address-back k slot a far at = record { rec = at.rec; is_node = node-back k at.rec far at.is_node; in_slot = at.in_slot; not_zero = at.not_zero }

  pub address-other : (k slot a : ℕ) → k ≢ d → AddressAt shape old k slot a → AddressAt shape new k slot a
  address-other k slot a far at = record { rec = at.rec; is_node = node-other k at.rec far at.is_node; in_slot = at.in_slot; not_zero = at.not_zero }

  pub own-other : (k : ℕ) (rec : InodeRec) → k ≢ d → IsNode shape old k rec → rec.kind ≡ Dir → OwnPages rec old new
  own-other k rec far is dir = only_own_pages rec old new (λ i h. same.pages k (i / 64) (address_of_place rec i) far (place-at shape old k rec is dir i h))

  body-other : (k : ℕ) (rec : InodeRec) → k ≢ d → k < shape.nodes → inode_at old k ≡ Some rec → (kind : Kind) → rec.kind ≡ kind → body_of new rec kind ≡ body_of old rec kind
  unfolding pointers_of_inode
  body-other k rec far h at Unused e = refl
  body-other k rec far h at Dir e = ap (λ (es : List EntryRec). directory_node (map (λ e. (e.name, e.ino)) es)) (own-other k rec far (record { below = h; spelled = at; used = λ u. dir-used (sym e ∙ u) }) e).entries
    where
      dir-used : Dir ≡ Unused → ⊥
      dir-used e = cc
  body-other k rec far h at File e =
      ap (λ (ps : List Pointer). file_node rec.size (filter (λ p. not (is_none_pointer p.1)) (enumerate_from 0 (rec.direct ++ ps))))
      (all-pointers old new (slots_of rec) (λ slot a is off. same.pages k slot a far (record { rec = rec; is_node = record { below = h; spelled = at; used = λ u. file-used (sym e ∙ u) }; in_slot = is; not_zero = off })))
    where
      file-used : File ≡ Unused → ⊥
      file-used e = cc

  from-other : (k : ℕ) → k ≢ d → k < shape.nodes → (o : Option InodeRec) → inode_at old k ≡ o → node_from new o ≡ node_from old o
  unfolding the-node
  from-other k far h None at = refl
  from-other k far h (Some rec) at = ap (λ (b : NodeBody). the-node rec.generation b) (body-other k rec far h at rec.kind refl)

  pub graph-other : (k : ℕ) → k ≢ d → graph_of shape new k ≡ graph_of shape old k
  unfolding graph_of
  graph-other k far = by (nat_lt k shape.nodes) refl
    where
      by : (b : Bool) → nat_lt k shape.nodes ≡ b → node_from new (cond b (inode_at new k) None) ≡ node_from old (cond b (inode_at old k) None)
      by false e = refl
      by true e =
          let h = ltb-true k shape.nodes e in
          ap (node_from new) (inode-other k h far) ∙ from-other k far h (inode_at old k) refl

pub graph-at : (shape : Shape) (pages : VirtualMap) (n : ℕ) (rec : InodeRec) → n < shape.nodes → inode_at pages n ≡ Some rec → graph_of shape pages n ≡ node_from pages (Some rec)
unfolding graph_of
graph-at shape pages n rec h at = ap (node_from pages) (cond-true (nat_lt n shape.nodes) (inode_at pages n) None (lt-ltb n shape.nodes h) ∙ at)

module _ (shape : Shape) (bounds : ShapeBounds shape) (old new : VirtualMap) (d : ℕ) (is : InodeRec) (change : ChangesNode shape d is old new) (formed : Formed shape old) where
  rec-is : (rec : InodeRec) → IsNode shape new d rec → rec ≡ is
  rec-is rec node = some_in rec is (sym node.spelled ∙ change.node)

  -- an address of node d is one of the record
  its : (slot a : ℕ) → (at : AddressAt shape new d slot a) → HasAddress is slot a
  its slot a at = (subst (λ (r : InodeRec). slice_get (slots_of r) slot ≡ Some a) (rec-is at.rec at.is_node) at.in_slot, at.not_zero)

  nodes : NodesRight shape new
  nodes = record { spelled = λ n h. spelled n h (cases_eq n d); rest = rest; root = λ rec e. root rec e (cases_eq 0 d) }
    where
      spelled : (n : ℕ) → n < shape.nodes → (n ≡ d) ⊎ (n ≡ d → ⊥) → (rec : InodeRec) × (inode_at new n ≡ Some rec) × NamesPhysical shape rec.direct
      spelled n h (inl e) = (is, ap (inode_at new) e ∙ change.node, change.physical)
      spelled n h (inr far) = let r = formed.nodes.spelled n h in (r.0, inode-other shape bounds old new d change.same n h far ∙ r.1, r.2)

      rest : (n : ℕ) → shape.nodes ≤ n → n < 16 * shape.inode_pages → all_zero (bytes_of_node new n) ≡ true
      rest n h l = let b = change.below in ap all_zero (change.same.nodes n l (λ e. past n h e)) ∙ formed.nodes.rest n h l
        where
          past : (n : ℕ) → shape.nodes ≤ n → n ≡ d → ⊥
          past n h e = let b = change.below in omega (arith, h, e, b)

      root : (rec : InodeRec) → inode_at new 0 ≡ Some rec → (0 ≡ d) ⊎ (0 ≡ d → ⊥) → rec.kind ≡ Dir
      root rec e (inl here) = ap (λ (r : InodeRec). r.kind) (some_in rec is (sym e ∙ ap (inode_at new) here ∙ change.node)) ∙ change.root (sym here)
      root rec e (inr far) = let m = bounds.some_nodes in formed.nodes.root rec (sym (inode-other shape bounds old new d change.same 0 (omega (arith, m)) far) ∙ e)

  addresses : AddressesRight shape new
  addresses = record { good = λ n slot a at. good n slot a at (cases_eq n d); one_use = λ n i m j a x y. one n i m j a x y (cases_eq n d) (cases_eq m d) }
    where
      moved : (n slot a : ℕ) (at : AddressAt shape new n slot a) → (far : n ≢ d) → (was : AddressAt shape old n slot a) → was.rec ≡ at.rec → GoodAddress shape old was.rec.kind a → GoodAddress shape new at.rec.kind a
      moved n slot a at far was same g = record {
        from_pool = g.from_pool;
        in_pool = g.in_pool;
        bytes = g.bytes;
        committed = change.same.pages n slot a far was ∙ g.committed;
        spelled = λ k. g.spelled (ap (λ (r : InodeRec). r.kind) same ∙ k);
      }

      good : (n slot a : ℕ) (at : AddressAt shape new n slot a) → (n ≡ d) ⊎ (n ≡ d → ⊥) → GoodAddress shape new at.rec.kind a
      good n slot a at (inl e) =
          let here = subst (λ (m : ℕ). IsNode shape new m at.rec) e at.is_node in
          let r = rec-is at.rec here in
          subst (λ (k : Kind). GoodAddress shape new k a) (ap (λ (z : InodeRec). z.kind) (sym r)) (change.good slot a (subst (λ (z : InodeRec). slice_get (slots_of z) slot ≡ Some a) r at.in_slot, at.not_zero))
      good n slot a at (inr far) =
          let was : AddressAt shape old n slot a = record { rec = at.rec; is_node = node-back shape bounds old new d change.same n at.rec far at.is_node; in_slot = at.in_slot; not_zero = at.not_zero } in
          moved n slot a at far was refl (formed.addresses.good n slot a was)

      one : (n i m j a : ℕ) → AddressAt shape new n i a → AddressAt shape new m j a → (n ≡ d) ⊎ (n ≡ d → ⊥) → (m ≡ d) ⊎ (m ≡ d → ⊥) → (n ≡ m) × (i ≡ j)
      one n i m j a x y (inl e) (inl f) = (e ∙ sym f, change.one_use i j a (its i a (subst (λ (k : ℕ). AddressAt shape new k i a) e x)) (its j a (subst (λ (k : ℕ). AddressAt shape new k j a) f y)))
      one n i m j a x y (inl e) (inr far) = absurd (change.apart i a m j (its i a (subst (λ (k : ℕ). AddressAt shape new k i a) e x)) far (address-back shape bounds old new d change.same m j a far y))
      one n i m j a x y (inr far) (inl f) = absurd (change.apart j a n i (its j a (subst (λ (k : ℕ). AddressAt shape new k j a) f y)) far (address-back shape bounds old new d change.same n i a far x))
      one n i m j a x y (inr far) (inr off) = formed.addresses.one_use n i m j a (address-back shape bounds old new d change.same n i a far x) (address-back shape bounds old new d change.same m j a off y)

  pub formed-then : Formed shape new
  formed-then = record { nodes = nodes; addresses = addresses; directories = λ n rec node dir. directory n rec node dir (cases_eq n d) }
    where
      directory : (n : ℕ) (rec : InodeRec) → IsNode shape new n rec → rec.kind ≡ Dir → (n ≡ d) ⊎ (n ≡ d → ⊥) → IsDirectory new rec
      directory n rec node dir (inl e) =
          let r = rec-is rec (subst (λ (m : ℕ). IsNode shape new m rec) e node) in
          subst (IsDirectory new) (sym r) (change.directory (ap (λ (z : InodeRec). z.kind) (sym r) ∙ dir))
      directory n rec node dir (inr far) =
          let was = node-back shape bounds old new d change.same n rec far node in
          (own-other shape bounds old new d change.same n rec far was dir).directory (formed.directories n rec was dir)

  pub uses-then : (a : ℕ) → UsesAddress shape new a → ((slot : ℕ) × HasAddress is slot a) ⊎ ((k : ℕ) × (slot : ℕ) × (k ≢ d) × AddressAt shape old k slot a)
  uses-then a u = by (cases_eq u.0 d)
    where
      by : (u.0 ≡ d) ⊎ (u.0 ≡ d → ⊥) → ((slot : ℕ) × HasAddress is slot a) ⊎ ((k : ℕ) × (slot : ℕ) × (k ≢ d) × AddressAt shape old k slot a)
      by (inl e) = inl (u.1, its u.1 a (subst (λ (k : ℕ). AddressAt shape new k u.1 a) e u.2))
      by (inr far) = inr (u.0, u.1, far, address-back shape bounds old new d change.same u.0 u.1 a far u.2)
