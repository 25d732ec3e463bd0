-- A node that is used no longer, in the map of pages.
use Rattle.std.proofs.Common.{◌≡◌, ◌≢◌, ℕ, zero, suc, ◌+◌, ◌-◌, ◌*◌, ◌/◌, ◌%◌, ◌≤◌, ◌<◌, true, false, ◌&&◌, ◌==◌, bytes_eq, nat_le, nat_lt, cond, List, [], ◌∷◌, length, Some, None, refl, sym, ap, subst, ◌∙◌, ◌⊎◌, inl, inr, arith}
use Rattle.std.proofs.lemmas.Bool.{and_parts, cases_eq, cond-true, eqb-true, lt-ltb}
use Rattle.std.specs.Prelude.{◌↔◌, slice_get, slice_index}
use Rattle.nl_field.specs.Bytes.{all_zero}
use Rattle.nl_field.specs.Graph.{unused}
use Rattle.nl_field.specs.Inode.{inode_bytes, inode_fields, inode_of, is_inode, is_inode_of_kind}
use Rattle.nl_field.specs.Numbers.{ShapeBounds}
use Rattle.nl_field.specs.declared.inode.InodeRec.{InodeRec}
use Rattle.nl_field.specs.declared.inode.Kind.{Kind}
use Rattle.nl_field.specs.declared.inode.Kind.TheVariants.{Dir, File, Unused}
use Rattle.nl_field.specs.declared.shape.Shape.{Shape}
use Rattle.nl_meta.specs.Committed.{VirtualMap}
use Rattle.nl_meta.specs.Consistent.{AddressAt, AddressesRight, GoodAddress, IsNode, NamesPhysical, NodesRight}
use Rattle.nl_meta.specs.Nodes.{body_of, bytes_of_node, graph_of, inode_at, node_from, slots_of}
use Rattle.nl_meta.proofs.Lists.{none_some, some_in}
use Rattle.nl_meta.proofs.SlotProofs.{one_slot}
use Rattle.nl_inode.specs.Free.{is_free}
use Rattle.nl_inode.specs.FreeLaws.{NodeIs, PoolIsFree, UsesAddress}
use Rattle.nl_inode.specs.Nodes.{NodeBecomes, Spaces, is_free_address}
use Rattle.nl_indirect.specs.Storing.{DiffersInPage}
use Rattle.nl_indirect.proofs.LawProofs.{at-slot}
use Rattle.nl_indirect.proofs.OtherNodes.{after-same, same-graph, same-record}
use Rattle.nl_files.specs.Cutting.{AreOfPool, GivesBackAddresses, LosesAddress}

-- ---- lists of addresses

in_slot : (xs : List ℕ) (r a : ℕ) → slice_get xs r ≡ Some a → slice_index xs r ≡ a
in_slot [] r a e = absurd (none_some a e)
in_slot (x ∷ xs) zero a e = some_in x a e
in_slot (x ∷ xs) (suc r) a e = in_slot xs r a e

zero_at : (xs : List ℕ) (r : ℕ) → all_zero xs ≡ true → slice_index xs r ≡ 0
zero_at [] r e = refl
zero_at (x ∷ xs) zero e = eqb-true x 0 (and_parts (x == 0) (all_zero xs) e).0
zero_at (x ∷ xs) (suc r) e = zero_at xs r (and_parts (x == 0) (all_zero xs) e).1

none_at : (r : ℕ) → slice_index [] r ≡ 0
none_at r = refl

-- where an address stands in a list, if it does
stands_in : (xs : List ℕ) (a : ℕ) → ((r : ℕ) × (slice_index xs r ≡ a)) ⊎ ((r : ℕ) → slice_index xs r ≡ a → a ≡ 0)
stands_in [] a = inr (λ r e. sym e)
stands_in (x ∷ xs) a = by (cases_eq x a) (stands_in xs a)
  where
    by : (x ≡ a) ⊎ (x ≡ a → ⊥) → ((r : ℕ) × (slice_index xs r ≡ a)) ⊎ ((r : ℕ) → slice_index xs r ≡ a → a ≡ 0)
        → ((r : ℕ) × (slice_index (x ∷ xs) r ≡ a)) ⊎ ((r : ℕ) → slice_index (x ∷ xs) r ≡ a → a ≡ 0)
    by (inl e) rest = inl (0, e)
    by (inr far) (inl found) = inl (suc found.0, found.1)
    by (inr far) (inr none) = inr (λ r. at r)
      where
        at : (r : ℕ) → slice_index (x ∷ xs) r ≡ a → a ≡ 0
        at zero e = absurd (far e)
        at (suc r) e = none r e

-- the addresses of an unused node
spelled : (bytes : List ℕ) (rec : InodeRec) → inode_of bytes ≡ Some rec → is_inode rec ≡ true
unfolding inode_of
spelled bytes rec e =
    elim (is_inode (inode_fields bytes) && bytes_eq (inode_bytes (inode_fields bytes)) bytes)
    as (λ b. (is_inode (inode_fields bytes) && bytes_eq (inode_bytes (inode_fields bytes)) bytes) ≡ b → cond b (Some (inode_fields bytes)) None ≡ Some rec → is_inode rec ≡ true) [
      | true ↦ λ b e. ap is_inode (sym (some_in (inode_fields bytes) rec e)) ∙ (and_parts _ _ b).0
      | false ↦ λ b e. absurd (none_some rec e)
    ] refl e

no_addresses : (rec : InodeRec) → is_inode rec ≡ true → rec.kind ≡ Unused → all_zero (slots_of rec) ≡ true
unfolding is_inode_of_kind
no_addresses rec e none = (and_parts _ _ (sym (ap (λ (k : Kind). is_inode_of_kind k rec) none) ∙ (and_parts _ _ e).1)).1

pub unused_slots : (pages : VirtualMap) (n : ℕ) (rec : InodeRec) → inode_at pages n ≡ Some rec → rec.kind ≡ Unused → (r : ℕ) → slice_index (slots_of rec) r ≡ 0
unfolding inode_at
unused_slots pages n rec at none r = zero_at (slots_of rec) r (no_addresses rec (spelled (bytes_of_node pages n) rec at) none)

is_used : (k : Kind) → (k ≡ Unused) ⊎ (k ≢ Unused)
is_used Unused = inl refl
is_used File = inr (λ e. cc)
is_used Dir = inr (λ e. cc)

-- ---- a node that has addresses

module _ (shape : Shape) (bounds : ShapeBounds shape) (pages : VirtualMap) (n : ℕ) (rec : InodeRec) (right : AddressesRight shape pages) (below : n < shape.nodes) (at : inode_at pages n ≡ Some rec) where
  had : (r : ℕ) → slice_index (slots_of rec) r ≢ 0 → AddressAt shape pages n r (slice_index (slots_of rec) r)
  had r far = by (is_used rec.kind)
    where
      by : (rec.kind ≡ Unused) ⊎ (rec.kind ≢ Unused) → AddressAt shape pages n r (slice_index (slots_of rec) r)
      by (inl none) = absurd (far (unused_slots pages n rec at none r))
      by (inr used) = record { rec = rec; is_node = record { below = below; spelled = at; used = used }; in_slot = at-slot (slots_of rec) r far; not_zero = far }

  pub of_pool : (s : Spaces) → PoolIsFree shape pages s → length s.pool ≡ shape.meta → AreOfPool s (slots_of rec)
  of_pool s free count r far =
      let x = had r far in
      let good = right.good n r (slice_index (slots_of rec) r) x in
      let first = free.first in
      let low = good.from_pool in
      let high = good.in_pool in
      let all = bounds.addresses in
      (omega (arith, first, low), omega (arith, first, high, all, count))

-- ---- a node that is used no longer

module _ (shape : Shape) (bounds : ShapeBounds shape) (old new : VirtualMap) (n : ℕ) (rec : InodeRec) (right : AddressesRight shape old) (below : n < shape.nodes) (none : rec.kind ≡ Unused) (is : NodeIs n rec old new) where
  differs : DiffersInPage 0 old old
  differs v h = refl

  not_its : (k : ℕ) → k ≢ n → (r : InodeRec) → IsNode shape old k r → (i : ℕ) → slice_index (slots_of r) i ≡ 0 → slice_index (slots_of r) i ≡ 0
  not_its k far r node i e = e

  same_at : (v : ℕ) → (v ≡ 0) ⊎ (67 + shape.inode_pages ≤ v) → new v ≡ old v
  same_at = after-same shape n 0 old old new bounds right below differs is.others (inl refl) not_its

  same_of : (k : ℕ) → k < shape.nodes → k ≢ n → inode_at new k ≡ inode_at old k
  same_of = same-record shape n 0 old old new bounds right below differs is.others (inl refl) not_its

  pub other_nodes : (k : ℕ) → k ≢ n → graph_of shape new k ≡ graph_of shape old k
  other_nodes = same-graph shape n 0 old old new bounds right below differs is.others (inl refl) not_its

  pub node_is : graph_of shape new n ≡ record { generation = rec.generation; body = unused }
  unfolding graph_of
  node_is =
      ap (node_from new) (cond-true (nat_lt n shape.nodes) (inode_at new n) None (lt-ltb n shape.nodes below) ∙ is.at)
      ∙ ap (λ (k : Kind). record { generation = rec.generation; body = body_of new rec k }) none

  not_node : (k : ℕ) (r : InodeRec) → IsNode shape new k r → k ≢ n
  not_node k r at e = at.used (ap (λ (z : InodeRec). z.kind) (some_in r rec (sym at.spelled ∙ ap (inode_at new) e ∙ is.at)) ∙ none)

  pub back : (k : ℕ) (r : InodeRec) → IsNode shape new k r → IsNode shape old k r
  back k r at = record { below = at.below; spelled = sym (same_of k at.below (not_node k r at)) ∙ at.spelled; used = at.used }

  abbrev pub address : (k slot a : ℕ) → AddressAt shape new k slot a → AddressAt shape old k slot a
  address k slot a x = record { rec = x.rec; is_node = back k x.rec x.is_node; in_slot = x.in_slot; not_zero = x.not_zero }

  forth : (k slot a : ℕ) → k ≢ n → AddressAt shape old k slot a → AddressAt shape new k slot a
  forth k slot a far x = record { rec = x.rec; is_node = record { below = x.is_node.below; spelled = same_of k x.is_node.below far ∙ x.is_node.spelled; used = x.is_node.used }; in_slot = x.in_slot; not_zero = x.not_zero }

  pub addresses_right : AddressesRight shape new
  addresses_right = record {
    good = λ k slot a x. moved k slot a x (right.good k slot a (address k slot a x));
    one_use = λ k i l j a x y. right.one_use k i l j a (address k i a x) (address l j a y);
  }
    where
      moved : (k slot a : ℕ) (x : AddressAt shape new k slot a) → GoodAddress shape old x.rec.kind a → GoodAddress shape new x.rec.kind a
      moved k slot a x g = record { from_pool = g.from_pool; in_pool = g.in_pool; bytes = g.bytes; committed = same_at a (inr g.from_pool) ∙ g.committed; spelled = g.spelled }

  pub nodes_right : NodesRight shape old → n ≢ 0 → NamesPhysical shape rec.direct → NodesRight shape new
  nodes_right nodes not_root physical = record { spelled = λ k low. spell k low (cases_eq k n); rest = rest; root = root }
    where
      spell : (k : ℕ) → k < shape.nodes → (k ≡ n) ⊎ (k ≡ n → ⊥) → (r : InodeRec) × (inode_at new k ≡ Some r) × NamesPhysical shape r.direct
      spell k low (inl e) = (rec, ap (inode_at new) e ∙ is.at, physical)
      spell k low (inr far) = let r = nodes.spelled k low in (r.0, same_of k low far ∙ r.1, r.2)

      apart : (k : ℕ) → shape.nodes ≤ k → 67 + k / 16 ≡ 67 + n / 16 → k % 16 ≡ n % 16 → ⊥
      apart k high e f = omega (arith, high, e, f, below)

      rest : (k : ℕ) → shape.nodes ≤ k → k < 16 * shape.inode_pages → all_zero (bytes_of_node new k) ≡ true
      rest k high low = ap all_zero (one_slot.node (67 + n / 16) (n % 16) old new is.others k (apart k high)) ∙ nodes.rest k high low

      root : (r : InodeRec) → inode_at new 0 ≡ Some r → r.kind ≡ Dir
      root r e = let some = bounds.some_nodes in nodes.root r (sym (same_of 0 (omega (arith, some)) (λ z. not_root (sym z))) ∙ e)

  -- what it had is free
  module _ (was : InodeRec) (at : inode_at old n ≡ Some was) (s t u : Spaces) (gives : GivesBackAddresses (slots_of was) [] s t) (number : NodeBecomes n true t u) where
    equal : (a : ℕ) → is_free_address u a ≡ is_free_address t a
    equal a = λ i. nat_le (number.first i) a && is_free (number.pool i) (a - number.first i)

    its : (slot a : ℕ) → AddressAt shape old n slot a → LosesAddress (slots_of was) [] a
    its slot a x = record {
      not_zero = x.not_zero;
      at = slot;
      had = ap (λ (r : InodeRec). slice_index (slots_of r) slot) (some_in was x.rec (sym at ∙ x.is_node.spelled)) ∙ in_slot (slots_of x.rec) slot a x.in_slot;
      gone = none_at slot;
    }

    owned : (a : ℕ) (l : LosesAddress (slots_of was) [] a) → AddressAt shape old n l.at a
    owned a l = subst (λ (v : ℕ). AddressAt shape old n l.at v) l.had (had shape bounds old n was right below at l.at (λ z. l.not_zero (sym l.had ∙ z)))

    lost_or_not : (a : ℕ) → a ≢ 0 → LosesAddress (slots_of was) [] a ⊎ (LosesAddress (slots_of was) [] a → ⊥)
    lost_or_not a some = by (stands_in (slots_of was) a)
      where
        by : ((r : ℕ) × (slice_index (slots_of was) r ≡ a)) ⊎ ((r : ℕ) → slice_index (slots_of was) r ≡ a → a ≡ 0) → LosesAddress (slots_of was) [] a ⊎ (LosesAddress (slots_of was) [] a → ⊥)
        by (inl r) = inl (record { not_zero = some; at = r.0; had = r.1; gone = none_at r.0 })
        by (inr far) = inr (λ l. some (far l.at l.had))

    pub pool_is_free : PoolIsFree shape old s → PoolIsFree shape new u
    pool_is_free free = record { first = number.first ∙ gives.first ∙ free.first; each = each }
      where
        each : (a : ℕ) → u.first ≤ a → a < shape.vaddrs → (is_free_address u a ≡ true) ↔ (UsesAddress shape new a → ⊥)
        each a low high = by (lost_or_not a some)
          where
            some : a ≢ 0
            some z = let f = number.first in let g = gives.first in let h = free.first in omega (arith, z, low, f, g, h)

            low_before : s.first ≤ a
            low_before = let f = number.first in let g = gives.first in omega (arith, low, f, g)

            by : LosesAddress (slots_of was) [] a ⊎ (LosesAddress (slots_of was) [] a → ⊥) → (is_free_address u a ≡ true) ↔ (UsesAddress shape new a → ⊥)
            by (inl l) = (
              (λ f x. not_node x.0 x.2.rec x.2.is_node (right.one_use x.0 x.1 n l.at a (address x.0 x.1 a x.2) (owned a l)).0),
              (λ free_now. equal a ∙ gives.given a l),
            )
            by (inr kept) =
                let same : is_free_address u a ≡ is_free_address s a = equal a ∙ gives.others a kept in (
                  (λ f x. (free.each a low_before high).0 (sym same ∙ f) (x.0, x.1, address x.0 x.1 a x.2)),
                  (λ free_now. same ∙ (free.each a low_before high).1 (λ x. free_now (x.0, x.1, forth x.0 x.1 a (far x.0 x.1 x.2) x.2))),
                )
              where
                far : (k slot : ℕ) → AddressAt shape old k slot a → k ≢ n
                far k slot x e = kept (its slot a (subst (λ (m : ℕ). AddressAt shape old m slot a) e x))
