-- What is free where the same nodes and the same addresses are in use.
use Rattle.std.proofs.Common.{◌≡◌, ◌≢◌, ◌⊎◌, inl, inr, ℕ, zero, suc, ◌<◌, List, [], ◌∷◌, Some, sym, ap, subst, ◌∙◌, arith}
use Rattle.std.proofs.lemmas.Bool.{cases_eq}
use Rattle.std.specs.Prelude.{slice_get, slice_index}
use Rattle.nl_field.specs.Inode.{inode_of}
use Rattle.nl_field.specs.Numbers.{ShapeBounds}
use Rattle.nl_field.specs.declared.inode.InodeRec.{InodeRec}
use Rattle.nl_field.specs.declared.inode.Kind.TheVariants.{File, Unused}
use Rattle.nl_field.specs.declared.pointer.Tag.{Tag}
use Rattle.nl_field.specs.declared.shape.Shape.{Shape}
use Rattle.nl_iface.specs.declared.counts.Counts.{Ghosts}
use Rattle.nl_indirect.proofs.LawProofs.{at-slot}
use Rattle.nl_inode.specs.FreeLaws.{NodesAreFree, PoolIsFree, UsesAddress}
use Rattle.nl_inode.specs.Nodes.{Spaces}
use Rattle.nl_meta.specs.Committed.{VirtualMap}
use Rattle.nl_meta.specs.Consistent.{AddressAt, IsNode}
use Rattle.nl_meta.specs.Nodes.{inode_at, slots_of}
use Rattle.nl_meta.proofs.Lists.{none_some, some_in}
use Rattle.nl_meta_running.specs.Running.{IsNeeded}
use Rattle.nl_meta_running.proofs.SameNeeded.{node-from, node-to}
use Rattle.nl_handler.specs.Handling.{RenamesPointer}
use Rattle.nl_core_callbacks.specs.Handled.{FreeStays, Volume, running_of}

-- the node is in use
abbrev InUse : Shape → VirtualMap → ℕ → Type 0
InUse shape pages n = (rec : InodeRec) × IsNode shape pages n rec

-- The same nodes and the same addresses are in use.
pub record UsesSame (shape : Shape) (old new : VirtualMap) : Type 0 where
  pub node_to : (n : ℕ) → InUse shape old n → InUse shape new n
  pub node_from : (n : ℕ) → InUse shape new n → InUse shape old n
  pub to : (a : ℕ) → UsesAddress shape old a → UsesAddress shape new a
  pub from : (a : ℕ) → UsesAddress shape new a → UsesAddress shape old a

module _ (shape : Shape) (old new : VirtualMap) (u : UsesSame shape old new) (s : Spaces) where
  nodes-stay : NodesAreFree shape old s → NodesAreFree shape new s
  nodes-stay f = record {
    each = λ n h. (
      (λ free rec is. let was = u.node_from n (rec, is) in (f.each n h).0 free was.0 was.1),
      λ none. (f.each n h).1 (λ rec is. let now = u.node_to n (rec, is) in none now.0 now.1),
    );
  }

  pool-stays : PoolIsFree shape old s → PoolIsFree shape new s
  pool-stays f = record {
    first = f.first;
    each = λ a low high. ((λ free is. (f.each a low high).0 free (u.from a is)), λ none. (f.each a low high).1 (λ is. none (u.to a is)));
  }

pub free-stays : {D : Type 0} (g : Ghosts D) (v w : Volume D) → g.shape w.device ≡ g.shape v.device → UsesSame (g.shape v.device) (running_of g v) (running_of g w) → FreeStays g v w
free-stays g v w shapes u = record {
  nodes = λ s f. subst (λ (n : Shape). NodesAreFree n (running_of g w) s) (sym shapes) (nodes-stay (g.shape v.device) (running_of g v) (running_of g w) u s f);
  pool = λ s f. subst (λ (n : Shape). PoolIsFree n (running_of g w) s) (sym shapes) (pool-stays (g.shape v.device) (running_of g v) (running_of g w) u s f);
}

-- ---- pages that are needed are the same

pub uses-needed : (shape : Shape) (bounds : ShapeBounds shape) (old new : VirtualMap) → ((v : ℕ) → IsNeeded shape old v → new v ≡ old v) → UsesSame shape old new
uses-needed shape bounds old new same = record {
  node_to = λ n is. (is.0, node-to shape bounds old new same n is.0 is.1);
  node_from = λ n is. (is.0, node-from shape bounds old new same n is.0 is.1);
  to = λ a x. (x.0, x.1, to x.0 x.1 a x.2);
  from = λ a x. (x.0, x.1, from x.0 x.1 a x.2);
}
  where
    to : (n slot a : ℕ) → AddressAt shape old n slot a → AddressAt shape new n slot a
    to n slot a at = record { rec = at.rec; is_node = node-to shape bounds old new same n at.rec at.is_node; in_slot = at.in_slot; not_zero = at.not_zero }

    from : (n slot a : ℕ) → AddressAt shape new n slot a → AddressAt shape old n slot a
    from n slot a at = record { rec = at.rec; is_node = node-from shape bounds old new same n at.rec at.is_node; in_slot = at.in_slot; not_zero = at.not_zero }

-- ---- a pointer has another name

in-slot : (xs : List ℕ) (r a : ℕ) → slice_get xs r ≡ Some a → slice_index xs r ≡ a
in-slot [] r a e = absurd (none_some a e)
in-slot (x ∷ xs) zero a e = some_in _ _ e
in-slot (x ∷ xs) (suc r) a e = in-slot xs r a e

file-unused : File ≡ Unused → ⊥
file-unused e = cc

module _ (shape : Shape) (bounds : ShapeBounds shape) (old new : VirtualMap) (tag : Tag) (stamp name : ℕ) (r : RenamesPointer shape old new tag stamp name) where
  abbrev n : ℕ
  n = tag.ino

  node-now : IsNode shape new n r.is
  node-now = record { below = r.changes.node_before.below; spelled = r.changes.node_after; used = λ u. file-unused (sym r.changes.file_after ∙ u) }

  other : (m : ℕ) → m ≢ n → m < shape.nodes → inode_at new m ≡ inode_at old m
  unfolding inode_at
  other m off h = ap inode_of (r.changes.others m off (let f = bounds.places in omega (arith, h, f)))

  other-to : (m : ℕ) (rec : InodeRec) → m ≢ n → IsNode shape old m rec → IsNode shape new m rec
  other-to m rec off is = record { below = is.below; spelled = other m off is.below ∙ is.spelled; used = is.used }

  other-from : (m : ℕ) (rec : InodeRec) → m ≢ n → IsNode shape new m rec → IsNode shape old m rec
  other-from m rec off is = record { below = is.below; spelled = sym (other m off is.below) ∙ is.spelled; used = is.used }

  -- an address in a slot of one record of the file is in that of the other
  moved : (one two : InodeRec) → ((k : ℕ) → slice_index (slots_of two) k ≡ slice_index (slots_of one) k) → (slot a : ℕ) → slice_get (slots_of one) slot ≡ Some a → a ≢ 0 → slice_get (slots_of two) slot ≡ Some a
  moved one two same slot a e far =
      let i : slice_index (slots_of two) slot ≡ a = same slot ∙ in-slot (slots_of one) slot a e in
      at-slot (slots_of two) slot (λ z. far (sym i ∙ z)) ∙ ap (λ (v : ℕ). Some v) i

  address-to : (m slot a : ℕ) → (m ≡ n) ⊎ (m ≢ n) → AddressAt shape old m slot a → AddressAt shape new m slot a
  address-to m slot a (inl e) at =
      let is : r.was ≡ at.rec = some_in _ _ (sym r.changes.node_before.spelled ∙ ap (λ (k : ℕ). inode_at old k) (sym e) ∙ at.is_node.spelled) in
      subst (λ (k : ℕ). AddressAt shape new k slot a) (sym e) (record {
        rec = r.is;
        is_node = node-now;
        in_slot = moved r.was r.is r.addresses slot a (ap (λ (rec : InodeRec). slice_get (slots_of rec) slot) is ∙ at.in_slot) at.not_zero;
        not_zero = at.not_zero;
      })
  address-to m slot a (inr off) at = record { rec = at.rec; is_node = other-to m at.rec off at.is_node; in_slot = at.in_slot; not_zero = at.not_zero }

  address-from : (m slot a : ℕ) → (m ≡ n) ⊎ (m ≢ n) → AddressAt shape new m slot a → AddressAt shape old m slot a
  address-from m slot a (inl e) at =
      let is : r.is ≡ at.rec = some_in _ _ (sym r.changes.node_after ∙ ap (λ (k : ℕ). inode_at new k) (sym e) ∙ at.is_node.spelled) in
      subst (λ (k : ℕ). AddressAt shape old k slot a) (sym e) (record {
        rec = r.was;
        is_node = r.changes.node_before;
        in_slot = moved r.is r.was (λ k. sym (r.addresses k)) slot a (ap (λ (rec : InodeRec). slice_get (slots_of rec) slot) is ∙ at.in_slot) at.not_zero;
        not_zero = at.not_zero;
      })
  address-from m slot a (inr off) at = record { rec = at.rec; is_node = other-from m at.rec off at.is_node; in_slot = at.in_slot; not_zero = at.not_zero }

  used-to : (m : ℕ) → (m ≡ n) ⊎ (m ≢ n) → InUse shape old m → InUse shape new m
  used-to m (inl e) is = (r.is, subst (λ (k : ℕ). IsNode shape new k r.is) (sym e) node-now)
  used-to m (inr off) is = (is.0, other-to m is.0 off is.1)

  used-from : (m : ℕ) → (m ≡ n) ⊎ (m ≢ n) → InUse shape new m → InUse shape old m
  used-from m (inl e) is = (r.was, subst (λ (k : ℕ). IsNode shape old k r.was) (sym e) r.changes.node_before)
  used-from m (inr off) is = (is.0, other-from m is.0 off is.1)

  pub uses-renamed : UsesSame shape old new
  uses-renamed = record {
    node_to = λ m is. used-to m (cases_eq m n) is;
    node_from = λ m is. used-from m (cases_eq m n) is;
    to = λ a x. (x.0, x.1, address-to x.0 x.1 a (cases_eq x.0 n) x.2);
    from = λ a x. (x.0, x.1, address-from x.0 x.1 a (cases_eq x.0 n) x.2);
  }
