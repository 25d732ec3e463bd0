-- Which nodes a chain of entries reaches from node 0, as a walk comes to them: it marks each and puts it into a queue once.
use Rattle.std.specs.Prelude.{ℕ, nat_lt, Bool, true, false, not, ◌&&◌, if◌then◌else◌, List, [], ◌∷◌, ◌++◌, filter_map, slice_index_or, slice_set, Option, Some, None, option_map}
use Rattle.nl_field.specs.EntryRecord.{entry_of}
use Rattle.nl_meta.specs.Committed.{VirtualMap}
use Rattle.nl_meta.specs.Nodes.{inode_at}
use Rattle.nl_field.specs.declared.inode.InodeRec.{InodeRec}
use Rattle.nl_meta.specs.Walk.{EntryPlace, is_used_kind}
use Rattle.nl_recover.specs.Entries.{places_in}

-- of each node whether it was reached, and the nodes that were, in order
pub record ReachState : Type 0 where
  pub marks : List Bool
  pub queue : List ℕ

abbrev pub reached_by : List Bool → List ℕ → ReachState
reached_by marks queue = record { marks = marks; queue = queue }

-- the nodes that were reached, with one more that lies below the count
abbrev pub with_node : ℕ → ReachState → ℕ → ReachState
with_node nodes s n =
    if nat_lt n nodes && not (slice_index_or s.marks n false) then record { marks = slice_set s.marks n true; queue = s.queue ++ n ∷ [] }
    else s

-- the node that the entry at a place names
abbrev pub target_of : EntryPlace → Option ℕ
target_of p = if p.is_entry then option_map (λ e. e.ino) (entry_of p.bytes) else None

-- the nodes that the entries of a directory name
abbrev pub targets_of : VirtualMap → ℕ → List ℕ
targets_of pages n = filter_map target_of (places_in pages n (inode_at pages n))

abbrev pub is_used_record : Option InodeRec → Bool
is_used_record None = false
is_used_record (Some rec) = is_used_kind rec.kind
