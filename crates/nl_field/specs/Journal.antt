-- The two pages round a transaction's images in the journal: the header with their home addresses, and the commit page.
use Rattle.std.specs.Prelude.{ℕ, ◌-◌, ◌*◌, min, ◌==◌, nat_le, nat_lt, Bool, true, ◌&&◌, ◌||◌, List, [], ◌∷◌, ◌++◌, length, drop, codes, flat_map, Option}
use Rattle.std.specs.List.{list_all}
use Rattle.nl_field.specs.Bytes.{zeros}
use Rattle.nl_field.specs.Spelling.{u32_bytes, u64_bytes, u32_at, u64_at, u32s, gap, fits_u32, is_transaction_number, spelled_by}
use Rattle.nl_field.specs.declared.header.HeaderRec.{HeaderRec}
use Rattle.nl_field.specs.declared.commit.CommitRec.{CommitRec}

-- ---- the header

-- home addresses rise, and each is 0 or from 67 on
unfoldable pub are_home_addresses : List ℕ → Bool
are_home_addresses [] = true
are_home_addresses (a ∷ rest) = (a == 0 || nat_le 67 a) && list_all (λ b. nat_lt a b) rest && are_home_addresses rest

-- eight letters; from 8 the transaction's number, from 16 how many addresses, from 24 the addresses
unfoldable pub header_head : HeaderRec → List ℕ
header_head rec = codes "NLHEADER" ++ u64_bytes rec.number ++ u32_bytes (length rec.addresses) ++ gap 4 ++ flat_map u32_bytes rec.addresses

unfoldable pub header_bytes : HeaderRec → List ℕ
header_bytes rec = header_head rec ++ zeros (4072 - 4 * length rec.addresses)

-- which have a spelling: 1 to 64 addresses
abbrev pub is_header : HeaderRec → Bool
is_header rec =
    is_transaction_number rec.number && nat_le 1 (length rec.addresses) && nat_le (length rec.addresses) 64
    && are_home_addresses rec.addresses

-- the numbers fit their fields
unfoldable pub fits_header : HeaderRec → Bool
fits_header rec = list_all fits_u32 rec.addresses

unfoldable pub header_fields : List ℕ → HeaderRec
header_fields bytes = record { number = u64_at bytes 8; addresses = u32s (min 64 (u32_at bytes 16)) (drop 24 bytes) }

-- the record that the main bytes of a page spell
unfoldable pub header_of : List ℕ → Option HeaderRec
header_of bytes = spelled_by is_header header_bytes (header_fields bytes) bytes

-- ---- the commit page

-- eight letters; from 8 the transaction's number
unfoldable pub commit_head : CommitRec → List ℕ
commit_head rec = codes "NLCOMMIT" ++ u64_bytes rec.number

unfoldable pub commit_bytes : CommitRec → List ℕ
commit_bytes rec = commit_head rec ++ zeros 4080

-- which have a spelling
abbrev pub is_commit : CommitRec → Bool
is_commit rec = is_transaction_number rec.number

-- the number of a commit page fits where it is spelled
abbrev pub fits_commit : CommitRec → Bool
fits_commit rec = true

unfoldable pub commit_fields : List ℕ → CommitRec
commit_fields bytes = record { number = u64_at bytes 8 }

-- the record that the main bytes of a page spell
unfoldable pub commit_of : List ℕ → Option CommitRec
commit_of bytes = spelled_by is_commit commit_bytes (commit_fields bytes) bytes
