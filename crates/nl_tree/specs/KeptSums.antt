-- The sums that are kept beside a tree, and how a change at one path changes them.
use Rattle.std.specs.Prelude.{◌≡◌, ℕ, ◌+◌, ◌-◌, ◌==◌, ◌&&◌, Bool, cond, List, length, take, nat_lt, Option, Some, None, option_map}
use Rattle.std.specs.Int.{div_ceil}
use Rattle.std.specs.Option.{option_map_or}
use Rattle.std.specs.List.{list_any}
use Rattle.nl_field.specs.Numbers.{max_entries}
use Rattle.nl_tree.specs.Tree.{Node, Tree, node_at, entries_of, without, is_at_or_under}
use Rattle.nl_tree.specs.declared.call.Call.{Call}
use Rattle.nl_tree.specs.declared.call.Call.TheVariants.{Mkdir, Rmdir, Create, Unlink, Write, Fill, Truncate}
use Rattle.nl_tree.specs.TreeLaws.{IsInOrder}
use Rattle.nl_tree.specs.Charges.{data_of_node, ranges_of_node}

-- the second path is that of an entry of the first
abbrev pub is_entry_of : List (List ℕ) → List (List ℕ) → Bool
is_entry_of path p = length p == length path + 1 && is_at_or_under path p

-- the metadata pages that one path takes
abbrev pub meta_of_entry : Tree → List (List ℕ) × Node → ℕ
meta_of_entry tree e = div_ceil (length (entries_of tree e.0)) 64 + ranges_of_node e.1

-- the data pages that one path takes
abbrev pub data_of_entry : List (List ℕ) × Node → ℕ
data_of_entry e = data_of_node e.1

-- both trees are in order, and are the same but at the path
pub record IsChangeAt (path : List (List ℕ)) (tree next : Tree) : Type 0 where
  pub in_order : IsInOrder tree
  pub next_in_order : IsInOrder next
  pub others : without tree path ≡ without next path

-- some directory has too many entries
abbrev pub has_overfull : Tree → Bool
has_overfull tree = list_any (λ e. nat_lt max_entries (length (entries_of tree e.0))) tree

-- all names but the last
abbrev pub parent_of : List (List ℕ) → List (List ℕ)
parent_of path = take (length path - 1) path

-- what a node adds to the data pages
abbrev pub data_part : Option Node → ℕ
data_part node = option_map_or data_of_node node 0

-- what a node itself adds to the metadata pages
abbrev pub ranges_part : Option Node → ℕ
ranges_part node = option_map_or ranges_of_node node 0

-- how many entries a path has, if it is there
abbrev pub count_at : Tree → List (List ℕ) → Option ℕ
count_at tree path = option_map (λ node. length (entries_of tree path)) (node_at tree path)

-- what a path adds to a sum over the counts of entries
abbrev pub count_part : (ℕ → ℕ) → Option ℕ → ℕ
count_part f count = option_map_or f count 0

-- the metadata pages of so many entries
abbrev pub pages_of_entries : ℕ → ℕ
pages_of_entries n = div_ceil n 64

-- 1 for more entries than a directory may have
abbrev pub overfull : ℕ → ℕ
overfull n = cond (nat_lt max_entries n) 1 0

-- the path at which a call may change the tree, where it is one
abbrev pub changed_path : Call → Option (List (List ℕ))
changed_path (Mkdir path) = Some path
changed_path (Create path) = Some path
changed_path (Rmdir path) = Some path
changed_path (Unlink path) = Some path
changed_path (Write path from bytes) = Some path
changed_path (Fill path from len byte) = Some path
changed_path (Truncate path size) = Some path
changed_path _ = None
