-- One file's pages of pointers changed, and its record was written back: all that a volume asks of the change.
use Rattle.std.proofs.Common.{◌≡◌, ◌≢◌, ◌⊎◌, inl, inr, ℕ, zero, suc, ◌+◌, ◌*◌, ◌/◌, ◌%◌, ◌≤◌, ◌<◌, List, [], ◌∷◌, Option, Some, unwrap_or, sym, ap, subst, ◌∙◌, arith}
use Rattle.std.proofs.lemmas.Bool.{cases_eq, cases_lt}
use Rattle.std.specs.Prelude.{slice_get, slice_index}
use Rattle.nl_field.specs.Numbers.{ShapeBounds}
use Rattle.nl_field.specs.declared.inode.InodeRec.{InodeRec}
use Rattle.nl_field.specs.declared.inode.Kind.{Kind}
use Rattle.nl_field.specs.declared.inode.Kind.TheVariants.{Dir, File, Unused}
use Rattle.nl_field.specs.declared.shape.Shape.{Shape}
use Rattle.nl_meta.specs.Committed.{VirtualMap}
use Rattle.nl_meta.specs.Consistent.{AddressAt, GoodAddress, IsNode, NamesPhysical}
use Rattle.nl_meta.specs.Nodes.{bytes_of_node, graph_of, inode_at, slot_in, slots_of}
use Rattle.nl_meta.specs.SlotLaws.{ChangesSlot}
use Rattle.nl_meta.proofs.Lists.{none_some, some_in}
use Rattle.nl_meta.proofs.SlotProofs.{one_slot}
use Rattle.nl_indirect.specs.FileLaws.{AddressesGood}
use Rattle.nl_indirect.specs.Ranges.{address_of, range_of}
use Rattle.nl_indirect.specs.Storing.{DiffersInPage}
use Rattle.nl_indirect.proofs.LawProofs.{at-slot}
use Rattle.nl_indirect.proofs.OtherNodes.{after-same, same-graph, same-record}
use Rattle.nl_indirect.proofs.Pointing.{address-node, address-range}
use Rattle.nl_meta_running.specs.FileLaws.{ChangesFileRecord, IsRight}

in-slot : (xs : List ℕ) (r a : ℕ) → slice_get xs r ≡ Some a → slice_index xs r ≡ a
in-slot [] r a e = absurd (none_some a e)
in-slot (x ∷ xs) zero a e = some_in _ _ e
in-slot (x ∷ xs) (suc r) a e = in-slot xs r a e

pub is-used : (kind : Kind) → kind ≡ File → kind ≢ Unused
is-used Unused e = cc
is-used File e = λ z. cc
is-used Dir e = cc

-- The page of an index differs at most, and then the record of node n is another one, whose addresses are good and no other node's.
pub record OneFile (shape : Shape) (n index : ℕ) (was put : InodeRec) (old new after : VirtualMap) : Type 0 where
  pub bounds : ShapeBounds shape
  pub right : IsRight shape old
  pub is_node : IsNode shape old n was
  pub is_file : was.kind ≡ File
  pub differs : DiffersInPage (address_of put index) old new
  pub changes : ChangesSlot 256 (67 + n / 16) (n % 16) new after
  pub node : inode_at after n ≡ Some put
  pub kind : put.kind ≡ File
  pub generation : put.generation ≡ was.generation
  pub direct : NamesPhysical shape put.direct
  pub good : AddressesGood shape new put
  pub differ : (r s : ℕ) → slice_index (slots_of put) r ≢ 0 → slice_index (slots_of put) s ≡ slice_index (slots_of put) r → s ≡ r
  pub apart : (r m slot : ℕ) → slice_index (slots_of put) r ≢ 0 → AddressAt shape old m slot (slice_index (slots_of put) r) → m ≡ n

module _ (shape : Shape) (n index : ℕ) (was put : InodeRec) (old new after : VirtualMap) (f : OneFile shape n index was put old new after) where
  pub in-pool : (r : ℕ) → (slice_index (slots_of put) r ≡ 0) ⊎ (67 + shape.inode_pages ≤ slice_index (slots_of put) r)
  in-pool r = by (cases_eq (slice_index (slots_of put) r) 0)
    where
      by : (slice_index (slots_of put) r ≡ 0) ⊎ (slice_index (slots_of put) r ≢ 0) → (slice_index (slots_of put) r ≡ 0) ⊎ (67 + shape.inode_pages ≤ slice_index (slots_of put) r)
      by (inl e) = inl e
      by (inr far) = inr (f.good r far).from_pool

  page-in-pool : (address_of put index ≡ 0) ⊎ (67 + shape.inode_pages ≤ address_of put index)
  page-in-pool = by (cases_lt index 8)
    where
      by : (index < 8) ⊎ (8 ≤ index) → (address_of put index ≡ 0) ⊎ (67 + shape.inode_pages ≤ address_of put index)
      by (inl low) = inl (address-node put index low)
      by (inr high) = subst (λ (v : ℕ). (v ≡ 0) ⊎ (67 + shape.inode_pages ≤ v)) (sym (address-range put index high)) (in-pool (range_of index))

  -- another node's address is none of the file's
  not-same : (k : ℕ) → k ≢ n → (slot a : ℕ) → AddressAt shape old k slot a → (r : ℕ) → slice_index (slots_of put) r ≡ a → ⊥
  not-same k off slot a x r e = off (f.apart r k slot (λ z. x.not_zero (sym e ∙ z)) (subst (AddressAt shape old k slot) (sym e) x))

  clash : (k : ℕ) → k ≢ n → (slot a : ℕ) → AddressAt shape old k slot a → a ≡ address_of put index → (index < 8) ⊎ (8 ≤ index) → ⊥
  clash k off slot a x e (inl low) = x.not_zero (e ∙ address-node put index low)
  clash k off slot a x e (inr high) = not-same k off slot a x (range_of index) (sym (address-range put index high) ∙ sym e)

  not-its : (k : ℕ) → k ≢ n → (rec : InodeRec) → IsNode shape old k rec → (r : ℕ) → slice_index (slots_of rec) r ≡ address_of put index → slice_index (slots_of rec) r ≡ 0
  not-its k off rec is-node r e = by (cases_eq (slice_index (slots_of rec) r) 0)
    where
      by : (slice_index (slots_of rec) r ≡ 0) ⊎ (slice_index (slots_of rec) r ≢ 0) → slice_index (slots_of rec) r ≡ 0
      by (inl z) = z
      by (inr far) = absurd (clash k off r (slice_index (slots_of rec) r) (record { rec = rec; is_node = is-node; in_slot = at-slot (slots_of rec) r far; not_zero = far }) e (cases_lt index 8))

  pub same-at : (v : ℕ) → (v ≡ 0) ⊎ (67 + shape.inode_pages ≤ v) → after v ≡ new v
  same-at = after-same shape n (address_of put index) old new after f.bounds f.right.addresses f.is_node.below f.differs f.changes page-in-pool not-its

  pub same-of : (k : ℕ) → k < shape.nodes → k ≢ n → inode_at after k ≡ inode_at old k
  same-of = same-record shape n (address_of put index) old new after f.bounds f.right.addresses f.is_node.below f.differs f.changes page-in-pool not-its

  pub same-node : (k : ℕ) → k ≢ n → graph_of shape after k ≡ graph_of shape old k
  same-node = same-graph shape n (address_of put index) old new after f.bounds f.right.addresses f.is_node.below f.differs f.changes page-in-pool not-its

  pub its : (slot a : ℕ) → AddressAt shape after n slot a → slice_index (slots_of put) slot ≡ a
  its slot a x = ap (λ (rec : InodeRec). slice_index (slots_of rec) slot) (some_in put x.rec (sym f.node ∙ x.is_node.spelled)) ∙ in-slot (slots_of x.rec) slot a x.in_slot

  pub its-was : (slot a : ℕ) → AddressAt shape old n slot a → slice_index (slots_of was) slot ≡ a
  its-was slot a x = ap (λ (rec : InodeRec). slice_index (slots_of rec) slot) (some_in was x.rec (sym f.is_node.spelled ∙ x.is_node.spelled)) ∙ in-slot (slots_of x.rec) slot a x.in_slot

  pub its-on : (slot a : ℕ) → a ≢ 0 → slice_index (slots_of put) slot ≡ a → AddressAt shape after n slot a
  its-on slot a far e = record {
    rec = put;
    is_node = record { below = f.is_node.below; spelled = f.node; used = is-used put.kind f.kind };
    in_slot = at-slot (slots_of put) slot (λ z. far (sym e ∙ z)) ∙ ap (λ (v : ℕ). Some v) e;
    not_zero = far;
  }

  pub other-was : (k slot a : ℕ) → k ≢ n → AddressAt shape after k slot a → AddressAt shape old k slot a
  other-was k slot a off x = record { rec = x.rec; is_node = record { below = x.is_node.below; spelled = sym (same-of k x.is_node.below off) ∙ x.is_node.spelled; used = x.is_node.used }; in_slot = x.in_slot; not_zero = x.not_zero }

  pub other-is : (k slot a : ℕ) → k ≢ n → AddressAt shape old k slot a → AddressAt shape after k slot a
  other-is k slot a off x = record { rec = x.rec; is_node = record { below = x.is_node.below; spelled = same-of k x.is_node.below off ∙ x.is_node.spelled; used = x.is_node.used }; in_slot = x.in_slot; not_zero = x.not_zero }

  good-own : (slot a : ℕ) → AddressAt shape after n slot a → GoodAddress shape after File a
  good-own slot a x = record { from_pool = g.from_pool; in_pool = g.in_pool; bytes = g.bytes; committed = same-at a (inr g.from_pool) ∙ g.committed; spelled = g.spelled }
    where
      e : slice_index (slots_of put) slot ≡ a
      e = its slot a x

      g : GoodAddress shape new File a
      g = subst (λ (v : ℕ). GoodAddress shape new File v) e (f.good slot (λ z. x.not_zero (sym e ∙ z)))

  other-page : (m slot a : ℕ) → m ≢ n → AddressAt shape old m slot a → after a ≡ old a
  other-page m slot a off x = same-at a (inr (f.right.addresses.good m slot a x).from_pool) ∙ f.differs a (λ e. absurd (clash m off slot a x e (cases_lt index 8)))

  other-bytes : (m : ℕ) → m ≢ n → m < 16 * shape.inode_pages → bytes_of_node after m ≡ bytes_of_node old m
  unfolding bytes_of_node
  other-bytes m off h = one_slot.node (67 + n / 16) (n % 16) new after f.changes m far ∙ ap (λ (o : Option (List ℕ)). slot_in 256 (m % 16) (unwrap_or o [])) (f.differs (67 + m / 16) (λ e. absurd (low e page-in-pool)))
    where
      far : 67 + m / 16 ≡ 67 + n / 16 → m % 16 ≡ n % 16 → ⊥
      far e g = off (omega (arith, e, g))

      low : 67 + m / 16 ≡ address_of put index → (address_of put index ≡ 0) ⊎ (67 + shape.inode_pages ≤ address_of put index) → ⊥
      low e (inl z) = omega (arith, e, z)
      low e (inr p) = omega (arith, e, p, h)

  pub file-changes : ChangesFileRecord shape old after n was put
  file-changes = record {
    node_before = f.is_node;
    file_before = f.is_file;
    node_after = f.node;
    file_after = f.kind;
    generation = f.generation;
    direct = f.direct;
    others = other-bytes;
    pages = other-page;
    good = good-own;
    one_use = λ slot slot' a x y.
        let e = its slot a x in
        let d = its slot' a y in
        f.differ slot' slot (λ z. x.not_zero (sym d ∙ z)) (e ∙ sym d);
    apart = λ slot a m slot' x y. let e = its slot a x in f.apart slot m slot' (λ z. x.not_zero (sym e ∙ z)) (subst (AddressAt shape old m slot') (sym e) y);
  }
