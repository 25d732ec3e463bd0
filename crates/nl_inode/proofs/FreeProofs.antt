-- What is free stays what the pages do not use.
use Rattle.std.proofs.Common.{◌≡◌, ◌≢◌, ℕ, ◌+◌, ◌-◌, ◌%◌, ◌/◌, ◌≤◌, ◌<◌, Bool, true, false, ◌&&◌, nat_le, refl, subst, sym, ap, ◌∙◌, ◌⊎◌, inl, inr, arith}
use Rattle.std.proofs.lemmas.Bool.{cases_eq, le-leb}
use Rattle.std.specs.Prelude.{◌↔◌}
use Rattle.nl_field.specs.Inode.{inode_of}
use Rattle.nl_field.specs.declared.inode.InodeRec.{InodeRec}
use Rattle.nl_field.specs.declared.inode.Kind.TheVariants.{Unused}
use Rattle.nl_field.specs.declared.shape.Shape.{Shape}
use Rattle.nl_meta.specs.Committed.{VirtualMap}
use Rattle.nl_meta.specs.Consistent.{IsNode}
use Rattle.nl_meta.specs.Nodes.{inode_at}
use Rattle.nl_meta.proofs.Lists.{some_in}
use Rattle.nl_meta.proofs.SlotProofs.{one_slot}
use Rattle.nl_inode.specs.Free.{is_free}
use Rattle.nl_inode.specs.FreeLaws.{FreeIsUnused, NodeIs, NodesAreFree, PoolIsFree, UsesAddress, UsesOthers}
use Rattle.nl_inode.specs.Nodes.{AddressBecomes, Spaces, is_free_address, is_free_node, page_of_node}

same-node : (n : ℕ) (rec : InodeRec) (old new : VirtualMap) → NodeIs n rec old new → (m : ℕ) → m ≢ n → inode_at new m ≡ inode_at old m
unfolding inode_at
same-node n rec old new is m far = ap inode_of (one_slot.node (page_of_node n) (n % 16) old new is.others m (λ e f. far (one m n e f)))
  where
    one : (m n : ℕ) → 67 + m / 16 ≡ 67 + n / 16 → m % 16 ≡ n % 16 → m ≡ n
    one m n e f = omega arith

module _ (shape : Shape) (old new : VirtualMap) where
  other-used : (n : ℕ) (rec : InodeRec) → NodeIs n rec old new → (m : ℕ) → m ≢ n → ((r : InodeRec) → IsNode shape old m r → ⊥) ↔ ((r : InodeRec) → IsNode shape new m r → ⊥)
  other-used n rec is m far =
      let e = same-node n rec old new is m far in (
        (λ none r node. none r (record { below = node.below; spelled = sym e ∙ node.spelled; used = node.used })),
        (λ none r node. none r (record { below = node.below; spelled = e ∙ node.spelled; used = node.used })),
      )

  used-now : (n : ℕ) (rec : InodeRec) → NodeIs n rec old new → n < shape.nodes → rec.kind ≢ Unused → IsNode shape new n rec
  used-now n rec is below used = record { below = below; spelled = is.at; used = used }

  unused-now : (n : ℕ) (rec : InodeRec) → NodeIs n rec old new → rec.kind ≡ Unused → (r : InodeRec) → IsNode shape new n r → ⊥
  unused-now n rec is none r node = node.used (ap (λ (z : InodeRec). z.kind) (some_in r rec (sym node.spelled ∙ is.at)) ∙ none)

  -- the answer at one number, and the others as before
  nodes : (n : ℕ) (rec : InodeRec) (s t : Spaces) → NodesAreFree shape old s → NodeIs n rec old new → ((m : ℕ) → m ≢ n → is_free_node t m ≡ is_free_node s m)
      → (n < shape.nodes → (is_free_node t n ≡ true) ↔ ((r : InodeRec) → IsNode shape new n r → ⊥)) → NodesAreFree shape new t
  nodes n rec s t are is same at = record { each = λ m below. by m below (cases_eq m n) }
    where
      by : (m : ℕ) → m < shape.nodes → (m ≡ n) ⊎ (m ≡ n → ⊥) → (is_free_node t m ≡ true) ↔ ((r : InodeRec) → IsNode shape new m r → ⊥)
      by m below (inl e) = subst (λ (k : ℕ). (is_free_node t k ≡ true) ↔ ((r : InodeRec) → IsNode shape new k r → ⊥)) (sym e) (at (subst (λ (k : ℕ). k < shape.nodes) e below))
      by m below (inr far) =
          let was = are.each m below in
          let other = other-used n rec is m far in
          ((λ f. other.0 (was.0 (sym (same m far) ∙ f))), (λ none. same m far ∙ was.1 (other.1 none)))

  pool : (a : ℕ) (s t : Spaces) → PoolIsFree shape old s → s.first ≤ a → (b : Bool) → AddressBecomes a b s t → UsesOthers shape a old new
      → ((b ≡ true) ↔ (UsesAddress shape new a → ⊥)) → PoolIsFree shape new t
  pool a s t are from b becomes others at = record {
    first = becomes.first ∙ are.first;
    each = λ c above below. by c (subst (λ (f : ℕ). f ≤ c) becomes.first above) below (cases_eq c a);
  }
    where
      index : (c : ℕ) → s.first ≤ c → is_free_address t c ≡ is_free t.pool (c - s.first)
      index c h = ap (λ (f : ℕ). nat_le f c && is_free t.pool (c - f)) becomes.first ∙ ap (λ x. x && is_free t.pool (c - s.first)) (le-leb s.first c h)

      was_index : (c : ℕ) → s.first ≤ c → is_free_address s c ≡ is_free s.pool (c - s.first)
      was_index c h = ap (λ x. x && is_free s.pool (c - s.first)) (le-leb s.first c h)

      apart : (c : ℕ) → s.first ≤ c → c ≢ a → c - s.first ≢ a - s.first
      apart c h far e = far (omega (arith, h, from, e))

      by : (c : ℕ) → s.first ≤ c → c < shape.vaddrs → (c ≡ a) ⊎ (c ≡ a → ⊥) → (is_free_address t c ≡ true) ↔ (UsesAddress shape new c → ⊥)
      by c h below (inl e) = subst (λ (k : ℕ). (is_free_address t k ≡ true) ↔ (UsesAddress shape new k → ⊥)) (sym e) (
        (λ f. at.0 (sym becomes.pool.at ∙ sym (index a from) ∙ f)),
        (λ none. index a from ∙ becomes.pool.at ∙ at.1 none),
      )
      by c h below (inr far) =
          let same : is_free_address t c ≡ is_free_address s c = index c h ∙ becomes.pool.others (c - s.first) (apart c h far) ∙ sym (was_index c h) in
          let was = are.each c h below in
          let uses = others c far in
          ((λ f u. was.0 (sym same ∙ f) (uses.0 u)), (λ none. same ∙ was.1 (λ u. none (uses.1 u))))

no-true : false ≡ true → ⊥
no-true e = cc

pub free_is_unused : FreeIsUnused
free_is_unused shape old new s t = record {
  node_taken = λ n rec are becomes is used. nodes shape old new n rec s t are is becomes.nodes.others
      (λ below. ((λ f. absurd (no-true (sym becomes.nodes.at ∙ f))), (λ none. absurd (none rec (used-now shape old new n rec is below used)))));
  node_given = λ n rec are becomes is unused. nodes shape old new n rec s t are is becomes.nodes.others
      (λ below. ((λ f. unused-now shape old new n rec is unused), (λ none. becomes.nodes.at)));
  node_changed = λ n rec are taken is used. nodes shape old new n rec s s are is (λ m far. refl)
      (λ below. ((λ f. absurd (no-true (sym taken ∙ f))), (λ none. absurd (none rec (used-now shape old new n rec is below used)))));
  address_taken = λ a are from becomes others uses. pool shape old new a s t are from false becomes others ((λ f. absurd (no-true f)), (λ none. absurd (none uses)));
  address_given = λ a are from becomes others unused. pool shape old new a s t are from true becomes others ((λ f. unused), (λ none. refl));
}
