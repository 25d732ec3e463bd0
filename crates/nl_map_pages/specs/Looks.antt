-- The pages of the virtual segment as a scan lists them: which is read under an address.
use Rattle.std.specs.Prelude.{ℕ, ◌==◌, nat_lt, Bool, not, ◌&&◌, List, find, option_map, Option, Some, None}
use Rattle.std.specs.List.{list_any}
use Rattle.nl_field.specs.Medium.{address_of}
use Rattle.nl_field.specs.Space.{is_outside}
use Rattle.nl_field.specs.SpareRecord.{stamp_of}
use Rattle.nl_field.specs.declared.seen.Seen.{Seen}

-- one of these pages has the address and a greater sequence number
abbrev pub is_outdated_seen : List Seen → ℕ → ℕ → Bool
is_outdated_seen pages address stamp = list_any (λ q. address_of q.rec == address && nat_lt stamp (stamp_of q.rec)) pages

-- the page has the address, and none of these pages has a greater sequence number for it
abbrev pub is_current : List Seen → ℕ → Seen → Bool
is_current pages address s = address_of s.rec == address && not (is_outdated_seen pages (address_of s.rec) (stamp_of s.rec))

-- the least current page of an address outside this block
abbrev pub first_outside : List Seen → ℕ → Option ℕ → ℕ → Option ℕ
first_outside pages size spare address = option_map (λ s. s.page) (find (λ s. is_current pages address s && is_outside size spare s.page) pages)

abbrev pub or_page : Option ℕ → Option ℕ → Option ℕ
or_page None later = later
or_page (Some page) later = Some page

-- the page that is read under an address: the least current one outside the spare block, else the least current one
abbrev pub read_under : List Seen → ℕ → Option ℕ → ℕ → Option ℕ
read_under pages size spare address = or_page (first_outside pages size spare address) (first_outside pages size None address)
