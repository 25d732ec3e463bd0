-- A node's record in the slots of its page.
use Rattle.std.proofs.Common.{◌≡◌, ◌≢◌, ℕ, zero, suc, ◌+◌, ◌*◌, ◌%◌, ◌≤◌, ◌<◌, false, List, [], ◌∷◌, length, get_or, refl, sym, ap, ◌∙◌, Option, Some, None, unwrap_or, is_some, IsSome, ◌⊎◌, inl, inr, arith}
use Rattle.std.proofs.lemmas.Bool.{both_ways, cases_lt}
use Rattle.std.proofs.lemmas.List.{get_or-set_same, get_or-set_other}
use Rattle.nl_field.specs.Inode.{inode_bytes, inode_of}
use Rattle.nl_field.specs.declared.inode.InodeRec.{InodeRec}
use Rattle.nl_meta.specs.Nodes.{bytes_of_node, inode_at, slot_in}
use Rattle.nl_meta.specs.Pages.{Pages, page_of}
use Rattle.nl_meta.specs.SlotLaws.{with_slot}
use Rattle.nl_meta.specs.Steps.{with_dirty}
use Rattle.nl_meta.proofs.SlotProofs.{one_slot}
use Rattle.nl_inode.specs.Nodes.{PutsNode, page_of_node}

past : (xs : List (Option (List ℕ))) (v : ℕ) → length xs ≤ v → get_or xs v None ≡ None
past [] v h = refl
past (x ∷ xs) zero h = absurd (none h)
  where
    none : suc (length xs) ≤ 0 → ⊥
    none h = omega arith
past (x ∷ xs) (suc v) h = past xs v (omega (arith, h))

pub there-below : (xs : List (Option (List ℕ))) (v : ℕ) → IsSome (get_or xs v None) → v < length xs
there-below xs v h = by (cases_lt v (length xs))
  where
    beyond : (xs : List (Option (List ℕ))) (v : ℕ) → length xs ≤ v → is_some (get_or xs v None) ≡ false
    beyond xs v h = ap is_some (past xs v h)

    by : (v < length xs) ⊎ (length xs ≤ v) → v < length xs
    by (inl k) = k
    by (inr k) = absurd (both_ways _ (beyond xs v k) h)

-- what a node's slot spells
pub spelled-at : (p : Pages) (n : ℕ) (main : List ℕ) → page_of p (page_of_node n) ≡ Some main → inode_at (page_of p) n ≡ inode_of (slot_in 256 (n % 16) main)
unfolding inode_at bytes_of_node
spelled-at p n main is = ap (λ (o : Option (List ℕ)). inode_of (slot_in 256 (n % 16) (unwrap_or o []))) is

slots-fit : (n : ℕ) → 256 * (n % 16) + 256 ≤ 4096
slots-fit n = omega arith

pub puts-node : (p : Pages) (n : ℕ) (rec : InodeRec) (old new : List ℕ) → page_of p (page_of_node n) ≡ Some old → length old ≡ 4096 → length (inode_bytes rec) ≡ 256
    → new ≡ with_slot 256 (n % 16) (inode_bytes rec) old → inode_of (inode_bytes rec) ≡ Some rec → PutsNode n rec p (with_dirty p (page_of_node n) new)
puts-node p n rec old new is whole width e back = record {
  node = spelled-at (with_dirty p (page_of_node n) new) n new here ∙ ap inode_of (ap (slot_in 256 (n % 16)) e ∙ one_slot.put 256 (n % 16) (inode_bytes rec) old width fits) ∙ back;
  others = record { others = λ u far. get_or-set_other p.running (page_of_node n) u (Some new) None far; slots = slots };
  page = ap (with_dirty p (page_of_node n)) (e ∙ ap (λ (o : Option (List ℕ)). with_slot 256 (n % 16) (inode_bytes rec) (unwrap_or o [])) (sym is));
}
  where
    here : page_of (with_dirty p (page_of_node n) new) (page_of_node n) ≡ Some new
    here = get_or-set_same p.running (page_of_node n) (Some new) None (there-below p.running (page_of_node n) (ap is_some is))

    fits : 256 * (n % 16) + 256 ≤ length old
    fits = let f = slots-fit n in omega (arith, f, whole)

    slots : (j : ℕ) → j ≢ n % 16 → slot_in 256 j (unwrap_or (page_of (with_dirty p (page_of_node n) new) (page_of_node n)) []) ≡ slot_in 256 j (unwrap_or (page_of p (page_of_node n)) [])
    slots j far =
        ap (λ (o : Option (List ℕ)). slot_in 256 j (unwrap_or o [])) here ∙ ap (slot_in 256 j) e ∙ one_slot.kept 256 (n % 16) j (inode_bytes rec) old width fits far
        ∙ sym (ap (λ (o : Option (List ℕ)). slot_in 256 j (unwrap_or o [])) is)
