-- The pages of both segments, by what decides which blocks can be erased.
use Rattle.std.specs.Prelude.{◌≡◌, ℕ, ◌/◌, ◌==◌, Bool, if◌then◌else◌, max, List, map, fold, unwrap_or}
use Rattle.std.specs.List.{list_any}
use Rattle.std.specs.BTreeMap.{BTreeMap, get}
use Rattle.std.specs.Ordering.{nat_cmp}
use Rattle.nl_field.specs.Medium.{address_of}
use Rattle.nl_field.specs.ScanList.{on_list}
use Rattle.nl_field.specs.Space.{has_greatest_among}
use Rattle.nl_field.specs.SpareRecord.{stamp_of}
use Rattle.nl_field.specs.declared.seen.Seen.{Seen}
use Rattle.nl_meta.specs.Nodes.{Held}
use Rattle.nl_recover_pointers.specs.Numbers.{has_number}
use Rattle.nl_recover_pointers.specs.declared.numbers.Numbers.{Numbers}
use Rattle.nl_recover_pointers.specs.declared.spare.PageCopy.{PageCopy}

-- ---- the virtual segment

abbrev pub virtual_copy : ℕ → Bool → Seen → PageCopy
virtual_copy size needed s = record { block = s.page / size; address = address_of s.rec; stamp = stamp_of s.rec; is_needed = needed }

-- copies of pages, of which those with the greatest write sequence number of their address are needed
unfoldable pub virtual_copies : ℕ → List Seen → List PageCopy
virtual_copies size pages = map (λ s. virtual_copy size (has_greatest_among on_list pages s) s) pages

abbrev pub with_stamp : ℕ → ℕ → Seen → ℕ
with_stamp address best s = if address_of s.rec == address then max best (stamp_of s.rec) else best

-- the greatest write sequence number of an address, or 0
unfoldable pub greatest_stamp : List Seen → ℕ → ℕ
greatest_stamp pages address = fold (with_stamp address) 0 pages

abbrev pub AreGreatest : List Seen → BTreeMap ℕ ℕ → Type 0
AreGreatest pages greatest = (address : ℕ) → unwrap_or (get nat_cmp greatest address) 0 ≡ greatest_stamp pages address

-- ---- the physical segment

abbrev pub physical_copy : ℕ → Bool → Seen → PageCopy
physical_copy size needed s = record { block = s.page / size; address = 0; stamp = stamp_of s.rec; is_needed = needed }

-- whether a pointer has this write sequence number
abbrev pub is_stamp_of : List Held → ℕ → Bool
is_stamp_of held stamp = list_any (λ h. h.pointer.stamp == stamp) held

-- copies of pages, of which those with the write sequence number of a pointer are needed
unfoldable pub physical_copies : ℕ → List Held → List Seen → List PageCopy
physical_copies size held pages = map (λ s. physical_copy size (is_stamp_of held (stamp_of s.rec)) s) pages

abbrev pub HasStamps : List Held → Numbers → Type 0
HasStamps held stamps = (stamp : ℕ) → has_number stamps stamp ≡ is_stamp_of held stamp
