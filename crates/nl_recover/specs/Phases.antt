-- The tests of the phases, one item at a time.
use Rattle.std.specs.Prelude.{ℕ, nat_le, nat_lt, Bool, not, ◌&&◌, if◌then◌else◌}
use Rattle.nl_field.specs.Bytes.{all_zero}
use Rattle.nl_field.specs.Medium.{first_physical, is_physical_rec, is_virtual_rec}
use Rattle.nl_field.specs.declared.seen.Seen.{Seen}
use Rattle.nl_field.specs.declared.shape.Shape.{Shape}
use Rattle.nl_meta.specs.Committed.{VirtualMap}
use Rattle.nl_meta.specs.Nodes.{bytes_of_node, inode_at}
use Rattle.nl_meta.specs.Walk.{is_good_inode}

-- ---- nodes

-- A place for nodes is at fault: the record of a node, or what follows the last node.
abbrev pub is_bad_node : Shape → VirtualMap → ℕ → Bool
is_bad_node shape pages n =
    not (if nat_lt n shape.nodes then is_good_inode shape n (inode_at pages n) else all_zero (bytes_of_node pages n))

-- ---- write sequence numbers

-- a page of the virtual segment with a record of an address of the volume
abbrev pub is_virtual_page : Shape → Seen → Bool
is_virtual_page shape s = nat_lt s.page (first_physical shape) && is_virtual_rec shape s.rec

-- a page of the physical segment with a record of a file's page
abbrev pub is_physical_page : Shape → Seen → Bool
is_physical_page shape s = nat_le (first_physical shape) s.page && is_physical_rec s.rec

-- a page of the virtual segment that does not agree with a lower one of its number
abbrev pub is_virtual_apart : Shape → Seen → Bool
is_virtual_apart shape s = is_virtual_page shape s && not s.agrees

abbrev pub is_physical_apart : Shape → Seen → Bool
is_physical_apart shape s = is_physical_page shape s && not s.agrees
