-- Where nothing is free, all is used.
use Rattle.std.proofs.Common.{◌≡◌, ℕ, zero, suc, ◌-◌, ◌≤◌, ◌<◌, Bool, true, false, ◌==◌, not, nat_le, ◌+◌, List, [], ◌∷◌, map, filter, refl, sym, ap, subst, ◌∙◌, Some, ◌⊎◌, inl, inr, arith}
use Rattle.std.proofs.lemmas.Bool.{and_right, ne_eqb, not_from_false}
use Rattle.std.specs.List.{flat_map}
use Rattle.std.specs.Prelude.{slice_get}
use Rattle.nl_field.specs.Members.{Has}
use Rattle.nl_field.specs.declared.inode.InodeRec.{InodeRec}
use Rattle.nl_field.specs.declared.inode.Kind.{Kind}
use Rattle.nl_field.specs.declared.inode.Kind.TheVariants.{Dir, File, Unused}
use Rattle.nl_field.specs.declared.shape.Shape.{Shape}
use Rattle.nl_inode.specs.Free.{NoneFree, is_free}
use Rattle.nl_inode.specs.FreeLaws.{NodesAreFree, PoolIsFree, UsesAddress}
use Rattle.nl_inode.specs.Nodes.{Spaces}
use Rattle.nl_meta.specs.Committed.{VirtualMap}
use Rattle.nl_meta.specs.Consistent.{IsNode, NodesRight}
use Rattle.nl_meta.specs.Nodes.{inode_at}
use Rattle.nl_meta.specs.Walk.{addresses_of, is_file_kind, used_nodes}
use Rattle.nl_meta.proofs.AddressProofs.{member_address}
use Rattle.nl_meta.proofs.Lists.{filter-member, flat-member, map-member, member-map, some_in}
use Rattle.nl_meta.proofs.NodeProofs.{is_used}
use Rattle.nl_namespace.specs.RoomLaws.{NoneFreeIsCrowded}
use Rattle.nl_namespace.proofs.DirectoryChanges.{has-or-not}
use Rattle.nl_namespace.proofs.Placing.{place-has}

false-true : false ≡ true → ⊥
false-true e = cc

slot-of : (xs : List ℕ) (a : ℕ) → Has xs a → (i : ℕ) × (slice_get xs i ≡ Some a)
slot-of [] a h = absurd h
slot-of (x ∷ xs) a (inl e) = (zero, ap (λ (y : ℕ). Some y) e)
slot-of (x ∷ xs) a (inr h) = let r = slot-of xs a h in (suc r.0, r.1)

module _ (shape : Shape) (pages : VirtualMap) (free : Spaces) where
  node-used : NodesRight shape pages → NodesAreFree shape pages free → NoneFree free.nodes → (n : ℕ) → n < shape.nodes → (rec : InodeRec) × IsNode shape pages n rec
  node-used right are none n below = by (right.spelled n below).0 (right.spelled n below).1 (right.spelled n below).0.kind refl
    where
      unused : (rec : InodeRec) → inode_at pages n ≡ Some rec → rec.kind ≡ Unused → ⊥
      unused rec is e =
          false-true (sym (none n) ∙ (are.each n below).1 (λ other at. at.used (ap (λ (r : InodeRec). r.kind) (some_in other rec (sym at.spelled ∙ is)) ∙ e)))

      by : (rec : InodeRec) → inode_at pages n ≡ Some rec → (k : Kind) → rec.kind ≡ k → (rec : InodeRec) × IsNode shape pages n rec
      by rec is Unused e = absurd (unused rec is e)
      by rec is Dir e = (rec, record { below = below; spelled = is; used = λ u. dir-unused (sym e ∙ u) })
        where
          dir-unused : Dir ≡ Unused → ⊥
          dir-unused e = cc
      by rec is File e = (rec, record { below = below; spelled = is; used = λ u. file-unused (sym e ∙ u) })
        where
          file-unused : File ≡ Unused → ⊥
          file-unused e = cc

  -- the addresses that nodes have
  unfoldable pub all : List ℕ
  all = map (λ (y : Bool × ℕ). y.1) (flat_map addresses_of (used_nodes shape pages))

  pub listed : (a : ℕ) → UsesAddress shape pages a → Has all a
  unfolding all
  listed a u =
      let at = u.2 in
      map-member (λ (y : Bool × ℕ). y.1) (flat_map addresses_of (used_nodes shape pages)) (is_file_kind at.rec.kind, a)
      (flat-member addresses_of (used_nodes shape pages) (u.0, at.rec) (is_file_kind at.rec.kind, a) (is_used shape pages u.0 at.rec at.is_node)
      (map-member (λ a. (is_file_kind at.rec.kind, a)) (filter (λ a. not (a == 0)) at.rec.addresses) a (filter-member (λ a. not (a == 0)) at.rec.addresses a (place-has at.rec.addresses u.1 a at.in_slot) (not_from_false _ (ne_eqb a 0 at.not_zero)))))

  pub used : (a : ℕ) → Has all a → UsesAddress shape pages a
  unfolding all
  used a h =
      let y = member-map (λ (y : Bool × ℕ). y.1) (flat_map addresses_of (used_nodes shape pages)) a h in
      let m = member_address shape pages y.0 y.1 in
      let slot = slot-of m.1.addresses m.2 m.4 in
      let same = ap (λ (z : Bool × ℕ). z.1) m.6 ∙ y.2 in
      subst (UsesAddress shape pages) same (m.0, slot.0, record { rec = m.1; is_node = m.3; in_slot = slot.1; not_zero = m.5 })

  pool-used : PoolIsFree shape pages free → NoneFree free.pool → (a : ℕ) → 67 + shape.inode_pages ≤ a → a < shape.vaddrs → UsesAddress shape pages a
  pool-used are none a low high = by (has-or-not all a)
    where
      first : free.first ≤ a
      first = let f = are.first in omega (arith, f, low)

      by : Has all a ⊎ (Has all a → ⊥) → UsesAddress shape pages a
      by (inl h) = used a h
      by (inr far) = absurd (false-true (sym (and_right (nat_le free.first a) (is_free free.pool (a - free.first)) (none (a - free.first))) ∙ (are.each a first high).1 (λ u. far (listed a u))))

pub crowded : NoneFreeIsCrowded
crowded shape pages free right are pool = record { nodes = node-used shape pages free right are; pool = pool-used shape pages free pool }
