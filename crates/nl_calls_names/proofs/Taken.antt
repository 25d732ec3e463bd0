-- What a call took of what is free, once the node that lost its name is dropped.
use Rattle.std.proofs.Common.{◌≡◌, ◌≢◌, ℕ, ◌-◌, ◌<◌, Bool, true, false, ◌&&◌, nat_le, nat_lt, List, Option, Some, None, refl, sym, ap, ◌∙◌}
use Rattle.std.proofs.lemmas.Bool.{cond-true, lt-ltb}
use Rattle.nl_field.specs.Graph.{Graph}
use Rattle.nl_field.specs.declared.inode.InodeRec.{InodeRec}
use Rattle.nl_field.specs.declared.shape.Shape.{Shape}
use Rattle.nl_inode.specs.Free.{is_free}
use Rattle.nl_inode.specs.Nodes.{NodeBecomes, Spaces, is_free_address, is_free_node}
use Rattle.nl_meta.specs.Committed.{VirtualMap}
use Rattle.nl_meta.specs.Nodes.{graph_of, inode_at, node_from}
use Rattle.nl_files.specs.Cutting.{GivesBackAddresses, LosesAddress}
use Rattle.nl_namespace.specs.Taking.{IsTakenAddress, IsTakenNumber, TakesLeast}

true_false : true ≡ false → ⊥
true_false e = cc

-- the generation of a node is that of its record
pub generation_at : (shape : Shape) (pages : VirtualMap) (n : ℕ) (rec : InodeRec) → n < shape.nodes → inode_at pages n ≡ Some rec → (graph_of shape pages n).generation ≡ rec.generation
unfolding graph_of
generation_at shape pages n rec below at = ap (λ (o : Option InodeRec). (node_from pages o).generation) (cond-true (nat_lt n shape.nodes) (inode_at pages n) None (lt-ltb n shape.nodes below) ∙ at)

module _ (n : ℕ) (was is : List ℕ) (s mid between after : Spaces) (first second third : Graph) (takes : TakesLeast s mid first second) (in_use : is_free_node s n ≡ false) (addresses : GivesBackAddresses was is mid between) (number : NodeBecomes n true between after)
    (same : (k : ℕ) → (third k).generation ≡ (second k).generation) where
  same_number : (k : ℕ) → k ≢ n → is_free_node after k ≡ is_free_node mid k
  same_number k far = number.nodes.others k far ∙ ap (λ (bs : List Bool). is_free bs k) addresses.nodes

  other : (k : ℕ) → is_free_node s k ≡ true → k ≢ n
  other k free e = true_false (sym free ∙ ap (λ (i : ℕ). is_free_node s i) e ∙ in_use)

  back : (k : ℕ) → IsTakenNumber k s after → IsTakenNumber k s mid
  back k x = record { was_free = x.was_free; is_used = sym (same_number k (other k x.was_free)) ∙ x.is_used }

  forth : (k : ℕ) → IsTakenNumber k s mid → IsTakenNumber k s after
  forth k x = record { was_free = x.was_free; is_used = same_number k (other k x.was_free) ∙ x.is_used }

  same_address : (a : ℕ) → is_free_address after a ≡ is_free_address between a
  same_address a = λ i. nat_le (number.first i) a && is_free (number.pool i) (a - number.first i)

  back_address : (a : ℕ) → IsTakenAddress a s after → IsTakenAddress a s mid
  back_address a x = record { was_free = x.was_free; is_used = by (is_free_address mid a) refl }
    where
      lost : LosesAddress was is a → ⊥
      lost l = true_false (sym (addresses.given a l) ∙ sym (same_address a) ∙ x.is_used)

      by : (b : Bool) → is_free_address mid a ≡ b → is_free_address mid a ≡ false
      by false e = e
      by true e = absurd (true_false (sym e ∙ sym (addresses.others a lost) ∙ sym (same_address a) ∙ x.is_used))

  pub takes_dropped : TakesLeast s after first third
  takes_dropped = record {
    number = λ k x. takes.number k (back k x);
    next = λ k x. same k ∙ takes.next k (back k x);
    others = λ k off. same k ∙ takes.others k (λ x. off (forth k x));
    address = λ a x. takes.address a (back_address a x);
  }
