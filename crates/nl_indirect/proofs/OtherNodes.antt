-- Another node has what it had, where one page of a file's pointers differs, and then the file's record is written back.
use Rattle.std.proofs.Common.{◌≡◌, ◌≢◌, ℕ, ◌+◌, ◌/◌, ◌%◌, ◌≤◌, ◌<◌, cond, nat_lt, refl, sym, ap, ◌∙◌, Option, Some, None, ◌⊎◌, inl, inr, arith}
use Rattle.std.proofs.lemmas.Bool.{cases_eq, cases_lt, cond-true, cond-false, le-ltb, lt-ltb}
use Rattle.std.specs.Prelude.{slice_index}
use Rattle.nl_field.specs.Inode.{inode_of}
use Rattle.nl_field.specs.Numbers.{ShapeBounds}
use Rattle.nl_field.specs.declared.inode.InodeRec.{InodeRec}
use Rattle.nl_field.specs.declared.inode.Kind.{Kind}
use Rattle.nl_field.specs.declared.inode.Kind.TheVariants.{Unused, File, Dir}
use Rattle.nl_field.specs.declared.shape.Shape.{Shape}
use Rattle.nl_meta.specs.Committed.{VirtualMap}
use Rattle.nl_meta.specs.Consistent.{AddressesRight, IsNode}
use Rattle.nl_meta.specs.Nodes.{body_of, graph_of, inode_at, node_from, pointer_at, slots_of}
use Rattle.nl_meta.specs.SlotLaws.{ChangesSlot}
use Rattle.nl_meta.proofs.SlotProofs.{one_slot}
use Rattle.nl_indirect.specs.FileLaws.{PageLaws}
use Rattle.nl_indirect.specs.Ranges.{range_of, slot_of}
use Rattle.nl_indirect.specs.Storing.{DiffersInPage}
use Rattle.nl_indirect.proofs.LawProofs.{at-slot, other_nodes}
use Rattle.nl_indirect.proofs.Pointing.{at-node, in-range, same-page}

-- a pointer is as before where its page is
pub pointer-same : (old new : VirtualMap) (rec : InodeRec) (i : ℕ) → ((r : ℕ) → new (slice_index (slots_of rec) r) ≡ old (slice_index (slots_of rec) r)) → pointer_at new rec i ≡ pointer_at old rec i
pointer-same old new rec i same = by (cases_lt i 8)
  where
    by : (i < 8) ⊎ (8 ≤ i) → pointer_at new rec i ≡ pointer_at old rec i
    by (inl low) = at-node new rec i low ∙ sym (at-node old rec i low)
    by (inr high) = in-range new rec i high ∙ same-page old new (slice_index (slots_of rec) (range_of i)) (slot_of i) (same (range_of i)) ∙ sym (in-range old rec i high)

-- the page of address a differs, which is 0 or one of the pool that no other node has
module _ (shape : Shape) (n a : ℕ) (old new after : VirtualMap) (bounds : ShapeBounds shape) (right : AddressesRight shape old) (within : n < shape.nodes) (differs : DiffersInPage a old new)
    (changes : ChangesSlot 256 (67 + n / 16) (n % 16) new after) (page-in-pool : (a ≡ 0) ⊎ (67 + shape.inode_pages ≤ a))
    (not-its : (k : ℕ) → k ≢ n → (rec : InodeRec) → IsNode shape old k rec → (r : ℕ) → slice_index (slots_of rec) r ≡ a → slice_index (slots_of rec) r ≡ 0) where
  -- a page of nodes is none of the pool
  node-page : (k : ℕ) → k < shape.nodes → 67 + k / 16 < 67 + shape.inode_pages
  node-page k h = let p = bounds.places in omega (arith, h, p)

  below : 67 + n / 16 < 67 + shape.inode_pages
  below = node-page n within

  pub after-same : (v : ℕ) → (v ≡ 0) ⊎ (67 + shape.inode_pages ≤ v) → after v ≡ new v
  after-same v (inl z) = changes.others v (λ e. absurd (nought e))
    where
      nought : v ≡ 67 + n / 16 → ⊥
      nought e = omega (arith, z, e)
  after-same v (inr h) = changes.others v (λ e. absurd (far e))
    where
      far : v ≡ 67 + n / 16 → ⊥
      far e = omega (arith, h, e, below)

  first : PageLaws a old new
  first = other_nodes a old new differs

  second : PageLaws (67 + n / 16) new after
  second = other_nodes (67 + n / 16) new after (λ v h. changes.others v (λ e. nought v e (h e)))
    where
      nought : (v : ℕ) → v ≡ 67 + n / 16 → v ≡ 0 → ⊥
      nought v e z = omega (arith, e, z)

  pub same-record : (k : ℕ) → k < shape.nodes → k ≢ n → inode_at after k ≡ inode_at old k
  unfolding inode_at
  same-record k h off = ap inode_of (one_slot.node (67 + n / 16) (n % 16) new after changes k apart) ∙ first.node k (λ e. far e page-in-pool)
    where
      apart : 67 + k / 16 ≡ 67 + n / 16 → k % 16 ≡ n % 16 → ⊥
      apart d m = off (omega (arith, d, m))

      far : 67 + k / 16 ≡ a → (a ≡ 0) ⊎ (67 + shape.inode_pages ≤ a) → ⊥
      far e (inl z) = omega (arith, e, z)
      far e (inr p) = let b = node-page k h in omega (arith, e, p, b)

  same-body : (k : ℕ) → k ≢ n → (rec : InodeRec) → IsNode shape old k rec → (kind : Kind) → body_of after rec kind ≡ body_of old rec kind
  same-body k off rec is-node kind = second.body rec pooled kind ∙ first.body rec (not-its k off rec is-node) kind
    where
      pooled : (r : ℕ) → slice_index (slots_of rec) r ≡ 67 + n / 16 → slice_index (slots_of rec) r ≡ 0
      pooled r e = by (cases_eq (slice_index (slots_of rec) r) 0)
        where
          far : slice_index (slots_of rec) r ≢ 0 → ⊥
          far h =
              let g = right.good k r (slice_index (slots_of rec) r) (record { rec = rec; is_node = is-node; in_slot = at-slot (slots_of rec) r h; not_zero = h }) in
              let p = g.from_pool in omega (arith, p, e, below)

          by : (slice_index (slots_of rec) r ≡ 0) ⊎ (slice_index (slots_of rec) r ≡ 0 → ⊥) → slice_index (slots_of rec) r ≡ 0
          by (inl z) = z
          by (inr h) = absurd (far h)

  same-node : (k : ℕ) → k < shape.nodes → k ≢ n → (o : Option InodeRec) → inode_at old k ≡ o → node_from after o ≡ node_from old o
  same-node k h off None e = refl
  same-node k h off (Some rec) e = by rec.kind refl
    where
      of : (kind : Kind) → rec.kind ≡ kind → kind ≢ Unused → body_of after rec rec.kind ≡ body_of old rec rec.kind
      of kind s used = same-body k off rec (record { below = h; spelled = e; used = λ z. used (sym s ∙ z) }) rec.kind

      body : body_of after rec rec.kind ≡ body_of old rec rec.kind → node_from after (Some rec) ≡ node_from old (Some rec)
      body b = λ i. record { generation = rec.generation; body = b i }

      by : (kind : Kind) → rec.kind ≡ kind → node_from after (Some rec) ≡ node_from old (Some rec)
      by Unused s = body (ap (body_of after rec) s ∙ sym (ap (body_of old rec) s))
      by File s = body (of File s (λ z. cc))
      by Dir s = body (of Dir s (λ z. cc))

  -- in the graph of nodes too
  pub same-graph : (k : ℕ) → k ≢ n → graph_of shape after k ≡ graph_of shape old k
  unfolding graph_of
  same-graph k off = by (cases_lt k shape.nodes)
    where
      by : (k < shape.nodes) ⊎ (shape.nodes ≤ k) → node_from after (cond (nat_lt k shape.nodes) (inode_at after k) None) ≡ node_from old (cond (nat_lt k shape.nodes) (inode_at old k) None)
      by (inl h) =
          ap (node_from after) (cond-true (nat_lt k shape.nodes) (inode_at after k) None (lt-ltb k shape.nodes h) ∙ same-record k h off) ∙ same-node k h off (inode_at old k) refl
          ∙ sym (ap (node_from old) (cond-true (nat_lt k shape.nodes) (inode_at old k) None (lt-ltb k shape.nodes h)))
      by (inr h) =
          ap (node_from after) (cond-false (nat_lt k shape.nodes) (inode_at after k) None (le-ltb k shape.nodes h))
          ∙ sym (ap (node_from old) (cond-false (nat_lt k shape.nodes) (inode_at old k) None (le-ltb k shape.nodes h)))
