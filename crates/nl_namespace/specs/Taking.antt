-- What a call that changes names takes of what is free, and of which generation the nodes are then.
use Rattle.std.specs.Prelude.{◌≡◌, ℕ, ◌+◌, ◌%◌, ◌^◌, true, false}
use Rattle.nl_field.specs.Graph.{Graph}
use Rattle.nl_inode.specs.Free.{IsLeastFreeNumber}
use Rattle.nl_inode.specs.Nodes.{IsLeastAddress, Spaces, is_free_address, is_free_node}

-- The number was free, and a node has it now.
pub record IsTakenNumber (n : ℕ) (old new : Spaces) : Type 0 where
  pub was_free : is_free_node old n ≡ true
  pub is_used : is_free_node new n ≡ false

-- The address was free, and a page has it now.
pub record IsTakenAddress (a : ℕ) (old new : Spaces) : Type 0 where
  pub was_free : is_free_address old a ≡ true
  pub is_used : is_free_address new a ≡ false

-- A new node has the least number that was free, and is of the generation after that of the node that had the number last, where 2 ^ 32 - 1
-- is followed by 0. Each other node is of the generation that it had. A new page has the least address that was free.
pub record TakesLeast (old new : Spaces) (before after : Graph) : Type 0 where
  pub number : (n : ℕ) → IsTakenNumber n old new → IsLeastFreeNumber n old.nodes
  pub next : (n : ℕ) → IsTakenNumber n old new → (after n).generation ≡ ((before n).generation + 1) % 2 ^ 32
  pub others : (n : ℕ) → (IsTakenNumber n old new → ⊥) → (after n).generation ≡ (before n).generation
  pub address : (a : ℕ) → IsTakenAddress a old new → IsLeastAddress a old
