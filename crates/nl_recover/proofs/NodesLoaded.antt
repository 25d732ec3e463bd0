-- The addresses of nodes, as pages become resident.
use Rattle.std.proofs.Common.{◌≡◌, ℕ, zero, suc, ◌+◌, ◌/◌, ◌%◌, ◌<◌, ◌≤◌, List, [], ◌∷◌, length, get_or, refl, sym, ap, subst, ◌∙◌, Option, Some, None, IsSome, is_some, unwrap_or, inr, arith}
use Rattle.std.specs.Prelude.{slice_get}
use Rattle.nl_field.specs.Inode.{inode_of}
use Rattle.nl_field.specs.Numbers.{ShapeBounds}
use Rattle.nl_field.specs.declared.inode.InodeRec.{InodeRec}
use Rattle.nl_field.specs.declared.shape.Shape.{Shape}
use Rattle.nl_meta.specs.Committed.{VirtualMap}
use Rattle.nl_meta.specs.Consistent.{AddressAt}
use Rattle.nl_meta.specs.Nodes.{bytes_of_node, inode_at, slot_in}
use Rattle.nl_meta.specs.Pages.{Pages, page_of}
use Rattle.nl_meta.proofs.Lists.{none_some, some_in}
use Rattle.nl_recover.specs.Loading.{IsPoolAddress, IsTableAddress, LoadsMetadata}
use Rattle.nl_recover.proofs.LookFacts.{inode-none}

at-place : (xs : List ℕ) (k a : ℕ) → slice_get xs k ≡ Some a → (k < length xs) × (get_or xs k 0 ≡ a)
at-place [] k a e = absurd (none_some a e)
at-place (x ∷ xs) zero a e = (omega arith, some_in x a e)
at-place (x ∷ xs) (suc k) a e = let r = at-place xs k a e in let h = r.0 in (omega (arith, h), r.1)

pub no-slot : (shape : Shape) (pages : VirtualMap) (n slot a : ℕ) → None ≡ inode_at pages n → AddressAt shape pages n slot a → ⊥
no-slot shape pages n slot a none at = none_some at.rec (none ∙ at.is_node.spelled)

-- what holds of each address of the record in the pool
pub slot-settled : (shape : Shape) (pages : VirtualMap) (n : ℕ) (rec : InodeRec) (slot a : ℕ) (P : ℕ → Type 0) → Some rec ≡ inode_at pages n → AddressAt shape pages n slot a → IsPoolAddress shape a
    → ((k : ℕ) → 0 ≤ k → k < length rec.addresses → IsPoolAddress shape (get_or rec.addresses k 0) → P (get_or rec.addresses k 0)) → P a
slot-settled shape pages n rec slot a P is at pool each =
    subst P r.1 (each slot (omega arith) r.0 (subst (IsPoolAddress shape) (sym r.1) pool))
  where
    same : at.rec ≡ rec
    same = some_in at.rec rec (sym at.is_node.spelled ∙ sym is)

    r : (slot < length rec.addresses) × (get_or rec.addresses slot 0 ≡ a)
    r = at-place rec.addresses slot a (sym (ap (λ (z : InodeRec). slice_get z.addresses slot) same) ∙ at.in_slot)

-- the page of a node that has a record is resident
pub there : (pages : VirtualMap) (n : ℕ) (rec : InodeRec) → inode_at pages n ≡ Some rec → IsSome (pages (67 + n / 16))
there pages n rec e = by (pages (67 + n / 16)) refl
  where
    by : (o : Option (List ℕ)) → pages (67 + n / 16) ≡ o → IsSome (pages (67 + n / 16))
    by None is = absurd (none_some rec (sym (inode-none pages n is) ∙ e))
    by (Some b) is = ap is_some is

pub same-node : (old new : VirtualMap) (n : ℕ) → new (67 + n / 16) ≡ old (67 + n / 16) → inode_at new n ≡ inode_at old n
unfolding inode_at bytes_of_node
same-node old new n e = ap (λ (o : Option (List ℕ)). inode_of (slot_in 256 (n % 16) (unwrap_or o []))) e

-- the page of a node that has a record stays resident
pub still-at : (tells : Type 0) (stored : VirtualMap) (shape : Shape) (p q : Pages) → LoadsMetadata tells stored p q → (n slot a : ℕ) → AddressAt shape (page_of p) n slot a → AddressAt shape (page_of q) n slot a
still-at tells stored shape p q loads n slot a at = record {
  rec = at.rec;
  is_node = record {
    below = at.is_node.below;
    spelled = same-node (page_of p) (page_of q) n (loads.kept (67 + n / 16) (there (page_of p) n at.rec at.is_node.spelled)) ∙ at.is_node.spelled;
    used = at.is_node.used;
  };
  in_slot = at.in_slot;
  not_zero = at.not_zero;
}

-- The page of a node is one of those of nodes.
pub table-of : (shape : Shape) → ShapeBounds shape → (n : ℕ) → n < shape.nodes → IsTableAddress shape (67 + n / 16)
table-of shape bounds n h = inr (omega arith, let places = bounds.places in omega (arith, h, places))

-- An address of a node stands in memory, where the node's page does.
pub in-memory : (shape : Shape) (pages : VirtualMap) (q : Pages) (n slot a : ℕ) → page_of q (67 + n / 16) ≡ pages (67 + n / 16) → AddressAt shape pages n slot a → AddressAt shape (page_of q) n slot a
in-memory shape pages q n slot a same at = record {
  rec = at.rec;
  is_node = record { below = at.is_node.below; spelled = same-node pages (page_of q) n same ∙ at.is_node.spelled; used = at.is_node.used };
  in_slot = at.in_slot;
  not_zero = at.not_zero;
}
