-- Pages as they are found, pages of the virtual segment, and images of a volume.
use Rattle.std.specs.Prelude.{ℕ, ◌-◌, List, [], ◌∷◌, ◌++◌, codes, decimal, flat_map, length, replicate, true}
use Rattle.std.specs.List.{range_with_len}
use Rattle.nl_field.specs.Bytes.{zeros}
use Rattle.nl_field.specs.EntryRecord.{entry_bytes}
use Rattle.nl_field.specs.Inode.{inode_bytes}
use Rattle.nl_field.specs.Page.{Image, Page, erased as erased_page, written}
use Rattle.nl_field.specs.Pointers.{no_pointer}
use Rattle.nl_field.specs.SpareRecord.{spare_bytes}
use Rattle.nl_field.specs.SuperPage.{super_bytes}
use Rattle.nl_field.specs.declared.inode.InodeRec.{InodeRec}
use Rattle.nl_field.specs.declared.inode.Kind.TheVariants.{Dir, File}
use Rattle.nl_field.specs.declared.seen.Seen.{Seen}
use Rattle.nl_field.specs.declared.spare.SpareRec.TheVariants.{Physical, Virtual}
use Rattle.nl_map_pages.specs.declared.look.Look.{Look}
use Rattle.nl_map_pages.specs.declared.look.Mark.TheVariants.{Erased, Dead, Live, OldCopy, Uncorrectable, Unjudged}

abbrev pub erased : Look
erased = record { mark = Erased; wear = 0 }

abbrev pub bad : Look
bad = record { mark = Uncorrectable; wear = 0 }

abbrev pub dead : ℕ → Look
dead wear = record { mark = Dead; wear = wear }

abbrev pub live : ℕ → Look
live wear = record { mark = Live; wear = wear }

abbrev pub old : ℕ → Look
old wear = record { mark = OldCopy; wear = wear }

abbrev pub unjudged : ℕ → Look
unjudged wear = record { mark = Unjudged; wear = wear }

-- a page of address 67
abbrev pub node_page : ℕ → ℕ → Seen
node_page page stamp = record { page = page; rec = Virtual 67 stamp 0; zeros = 0; agrees = true }

-- two pages of one sequence number, in the blocks 0 and 1
abbrev pub copied : List Seen
copied = node_page 5 9 ∷ node_page 40 9 ∷ []

-- and a later one
abbrev pub moved : List Seen
moved = node_page 5 9 ∷ node_page 40 9 ∷ node_page 41 10 ∷ []

-- ---- images

abbrev pub page_with : List ℕ → List ℕ → Page
page_with main spare = written (record { main = main ++ zeros (4096 - length main); spare = spare })

-- the root with one entry, on the page with address 71
abbrev pub root_of_one : InodeRec
root_of_one = record { kind = Dir; generation = 0; size = 1; direct = replicate 8 no_pointer; addresses = 71 ∷ replicate 15 0 }

-- a file of 5 bytes, whose page is 256 with the sequence number 3
abbrev pub short_file : InodeRec
short_file = record { kind = File; generation = 1; size = 5; direct = record { name = 256; stamp = 3 } ∷ replicate 7 no_pointer; addresses = replicate 16 0 }

-- a volume of 32 by 32 with the file /a, with this super page and this page of the file; the page of the directory was written after five
-- erases
abbrev pub volume : Page → Page → Image
volume super_page data_page =
    record {
      blocks = 32;
      pages = 32;
      contents =
          page_with (inode_bytes root_of_one ++ inode_bytes short_file) (spare_bytes (Virtual 67 5 0)) ∷ super_page
          ∷ page_with (entry_bytes (record { ino = 1; generation = 1; name = codes "a" })) (spare_bytes (Virtual 71 7 5))
          ∷ replicate 253 erased_page ++ data_page ∷ replicate 767 erased_page;
    }

abbrev pub whole_super : Page
whole_super = page_with (super_bytes (record { version = 1; blocks = 32; pages = 32; count = 2 })) (spare_bytes (Virtual 0 6 0))

abbrev pub whole_data : Page
whole_data = page_with (codes "hello") (spare_bytes (Physical (record { ino = 1; generation = 1; index = 0 }) 3 0))

-- the lines of so many erased blocks, from this one on
abbrev pub erased_lines : List ℕ → ℕ → ℕ → List ℕ
erased_lines segment from count =
    flat_map (λ block. codes "block " ++ decimal block ++ segment ++ codes " erased wear 0\n................................\n")
    (range_with_len from count)
