-- What pages show: an address, its write sequence number and its bytes.
use Rattle.std.specs.Prelude.{◌≡◌, ◌⊎◌, ℕ, ◌+◌, ◌*◌, ◌<◌, ◌≤◌, List, [], Option, Some, None}
use Rattle.nl_field.specs.Page.{PageBytes, Page, erased, uncorrectable, written, Image, page_at}
use Rattle.nl_field.specs.SpareRecord.{spare_bytes, spare_rec_of, stamp_of}
use Rattle.nl_field.specs.declared.spare.SpareRec.{SpareRec}
use Rattle.nl_field.specs.declared.spare.SpareRec.TheVariants.{Virtual, Physical}

-- an address, its write sequence number, and its main bytes
abbrev pub Fact : Type 0
Fact = ℕ × ℕ × List ℕ

abbrev pub fact_in : SpareRec → List ℕ → Option Fact
fact_in (Virtual vaddr stamp wear) main = Some (vaddr, stamp, main)
fact_in (Physical tag stamp wear) main = None

abbrev pub fact_with : Option SpareRec → List ℕ → Option Fact
fact_with None main = None
fact_with (Some rec) main = fact_in rec main

-- what a page shows: it is written, and its spare bytes spell the record of a virtual address
abbrev pub fact_of : Page → Option Fact
fact_of erased = None
fact_of uncorrectable = None
fact_of (written bytes) = fact_with (spare_rec_of bytes.spare) bytes.main

-- a page below this one shows it
abbrev pub PageShows : ℕ → Image → ℕ → ℕ → List ℕ → Type 0
PageShows bound image v s main = (p : ℕ) × (p < bound) × (fact_of (page_at image p) ≡ Some (v, s, main))

-- the page is not in the block of that number
abbrev pub IsBeside : ℕ → ℕ → ℕ → Type 0
IsBeside pages block p = (p < block * pages) ⊎ (block * pages + pages ≤ p)

-- a page below this one, and not in this block, shows it
abbrev pub ShowsBeside : ℕ → ℕ → ℕ → Image → ℕ → ℕ → List ℕ → Type 0
ShowsBeside pages block bound image v s main =
    (p : ℕ) × (p < bound) × IsBeside pages block p × (fact_of (page_at image p) ≡ Some (v, s, main))

abbrev pub main_of : Page → List ℕ
main_of erased = []
main_of uncorrectable = []
main_of (written bytes) = bytes.main

abbrev pub stamp_in : Option SpareRec → ℕ
stamp_in None = 0
stamp_in (Some rec) = stamp_of rec

-- the write sequence number that spare bytes spell, 0 where they spell none
abbrev pub stamp_found : PageBytes → ℕ
stamp_found bytes = stamp_in (spare_rec_of bytes.spare)

-- the write sequence number of a page, 0 where it is not readable
abbrev pub stamp_at : Page → ℕ
stamp_at erased = 0
stamp_at uncorrectable = 0
stamp_at (written bytes) = stamp_found bytes

-- the page of an address: its main bytes, and the record of the address, of a number and of the wear of its block
abbrev pub page_with : List ℕ → ℕ → ℕ → ℕ → PageBytes
page_with main v s wear = record { main = main; spare = spare_bytes (Virtual v s wear) }
