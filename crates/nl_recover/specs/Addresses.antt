-- The addresses of nodes, as a walk comes to them that marks the ones it has passed.
use Rattle.std.specs.Prelude.{◌≡◌, ℕ, ◌+◌, ◌==◌, nat_le, nat_lt, Bool, true, false, not, ◌&&◌, ◌||◌, if◌then◌else◌, List, [], map, filter, slice_index_or, slice_set, Option, Some, None, is_none}
use Rattle.nl_field.specs.Pointers.{indirect_of, pointer_of}
use Rattle.nl_field.specs.declared.inode.InodeRec.{InodeRec}
use Rattle.nl_field.specs.declared.shape.Shape.{Shape}
use Rattle.nl_meta.specs.Committed.{VirtualMap}
use Rattle.nl_meta.specs.Nodes.{bytes_at, is_physical_name, slot_in}
use Rattle.nl_indirect.specs.Ranges.{pointer_in}
use Rattle.nl_meta.specs.Walk.{addresses_of, is_good_indirect, is_used_kind}
use Rattle.nl_recover.specs.Scanning.{PassesOver}

-- a page that is missing, or one of a file that is no page of pointers
abbrev pub is_bad_page : Shape → VirtualMap → Bool → ℕ → Bool
is_bad_page shape pages of_file a = is_none (pages a) || (of_file && not (is_good_indirect shape (indirect_of (bytes_at pages a))))

-- An address is at fault, where these are marked.
abbrev pub is_bad_marked : Shape → VirtualMap → List Bool → Bool × ℕ → Bool
is_bad_marked shape pages marks (of_file, a) =
    not (nat_le (67 + shape.inode_pages) a && nat_lt a shape.vaddrs) || slice_index_or marks a false || is_bad_page shape pages of_file a

abbrev pub with_mark : List Bool → Bool × ℕ → List Bool
with_mark marks (of_file, a) = slice_set marks a true

-- the addresses among these that are not 0
abbrev pub listed : Bool → List ℕ → List (Bool × ℕ)
listed of_file addresses = map (λ a. (of_file, a)) (filter (λ a. not (a == 0)) addresses)

-- the addresses of a node that are not 0, none where it is not used
abbrev pub addresses_in : ℕ → Option InodeRec → List (Bool × ℕ)
addresses_in n None = []
addresses_in n (Some rec) = if is_used_kind rec.kind then addresses_of (n, rec) else []

abbrev pub address_at : Bool × ℕ → ℕ
address_at (of_file, a) = a

-- A pass over these addresses marks each, and answers the first at fault.
abbrev pub PassesAddresses : Shape → VirtualMap → List Bool → List Bool → List (Bool × ℕ) → Option ℕ → Type 0
PassesAddresses shape pages old new addresses answer = PassesOver (is_bad_marked shape pages) with_mark address_at old new addresses answer

-- A slot of a page spells a pointer, which is none or names a page of the physical segment.
pub record SpelledAt (shape : Shape) (bytes : List ℕ) (j : ℕ) : Type 0 where
  pub spelled : pointer_of (slot_in 16 j bytes) ≡ Some (pointer_in bytes j)
  pub physical : is_physical_name shape (pointer_in bytes j) ≡ true
