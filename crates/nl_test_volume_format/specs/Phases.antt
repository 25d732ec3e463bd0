-- Images of 32 by 32, one for each phase of the walk.
use Rattle.std.specs.Prelude.{ℕ, ◌-◌, ◌==◌, if◌then◌else◌, Option, Some, None, List, [], ◌∷◌, ◌++◌, replicate, length, codes}
use Rattle.nl_field.specs.Page.{Page, erased, Image}
use Rattle.nl_field.specs.SpareRecord.{spare_bytes}
use Rattle.nl_field.specs.SuperPage.{super_bytes}
use Rattle.nl_field.specs.Journal.{header_bytes, commit_bytes}
use Rattle.nl_field.specs.Inode.{inode_bytes}
use Rattle.nl_field.specs.EntryRecord.{entry_bytes}
use Rattle.nl_field.specs.Pointers.{no_pointer}
use Rattle.nl_field.specs.Bytes.{zeros}
use Rattle.nl_field.specs.declared.pointer.Pointer.{Pointer}
use Rattle.nl_field.specs.declared.inode.InodeRec.{InodeRec}
use Rattle.nl_field.specs.declared.inode.Kind.TheVariants.{Dir, File}
use Rattle.nl_field.specs.declared.spare.SpareRec.TheVariants.{Virtual, Physical}
use Rattle.nl_test_volume_format.specs.Examples.{page_with}

-- a virtual page by its address and stamp
abbrev pub at_address : ℕ → ℕ → List ℕ → Page
at_address v stamp main = page_with main (spare_bytes (Virtual v stamp 0))

-- the data page of node 1, generation 1, by its index and stamp
abbrev pub data_page : ℕ → ℕ → List ℕ → Page
data_page index stamp main = page_with main (spare_bytes (Physical (record { ino = 1; generation = 1; index = index }) stamp 0))

-- the pages of the first block, and of the first physical block
abbrev pub image_with : List Page → List Page → Image
image_with front data_pages =
    record { blocks = 32; pages = 32; contents = front ++ replicate (256 - length front) erased ++ data_pages ++ replicate (768 - length data_pages) erased }

abbrev pub super_with : ℕ → List ℕ
super_with count = super_bytes (record { version = 1; blocks = 32; pages = 32; count = count })

abbrev pub dir_of : ℕ → List ℕ → List ℕ
dir_of size addresses = inode_bytes (record { kind = Dir; generation = 0; size = size; direct = replicate 8 no_pointer; addresses = addresses ++ zeros (16 - length addresses) })

abbrev pub file_of : ℕ → List Pointer → List ℕ
file_of size direct = inode_bytes (record { kind = File; generation = 1; size = size; direct = direct ++ replicate (8 - length direct) no_pointer; addresses = zeros 16 })

abbrev pub entry_for : ℕ → ℕ → List ℕ → List ℕ
entry_for ino generation name = entry_bytes (record { ino = ino; generation = generation; name = name })

abbrev pub ptr : ℕ → ℕ → Pointer
ptr name stamp = record { name = name; stamp = stamp }

-- the root and the file /a of two pages
abbrev pub usual_nodes : List ℕ
usual_nodes = dir_of 1 (71 ∷ []) ++ file_of 8192 (ptr 256 3 ∷ ptr 257 4 ∷ [])

abbrev pub usual : List ℕ → List ℕ → List Page → Image
usual nodes entries data_pages =
    image_with (at_address 67 5 nodes ∷ at_address 0 6 (super_with 2) ∷ at_address 71 7 entries ∷ []) data_pages

abbrev pub usual_data : List Page
usual_data = data_page 0 3 (codes "one") ∷ data_page 1 4 (codes "two") ∷ []

abbrev pub consistent_image : Image
consistent_image = usual usual_nodes (entry_for 1 1 (codes "a")) usual_data

-- the super page is for another geometry
abbrev pub bad_super : Image
bad_super = image_with (at_address 67 5 usual_nodes ∷ at_address 0 6 (super_bytes (record { version = 1; blocks = 64; pages = 32; count = 2 })) ∷ []) []

-- page 257 has the stamp of page 256 and other bytes
abbrev pub bad_stamp : Image
bad_stamp = usual usual_nodes (entry_for 1 1 (codes "a")) (data_page 0 3 (codes "one") ∷ data_page 0 3 (codes "two") ∷ [])

-- node 2 has kind 3
abbrev pub bad_inode : Image
bad_inode = usual (usual_nodes ++ 3 ∷ zeros 255) (entry_for 1 1 (codes "a")) usual_data

-- the root's page of entries was never written
abbrev pub bad_pages : Image
bad_pages = image_with (at_address 67 5 usual_nodes ∷ at_address 0 6 (super_with 2) ∷ []) usual_data

-- the entry has another generation
abbrev pub bad_entry : Image
bad_entry = usual usual_nodes (entry_for 1 2 (codes "a")) usual_data

-- something stands behind the last entry
abbrev pub behind_entries : Image
behind_entries = usual usual_nodes (entry_for 1 1 (codes "a") ++ 1 ∷ []) usual_data

-- two entries name one node
abbrev pub two_names : Image
two_names =
    usual (dir_of 2 (71 ∷ []) ++ file_of 8192 (ptr 256 3 ∷ ptr 257 4 ∷ []))
    (entry_for 1 1 (codes "a") ++ entry_for 1 1 (codes "b")) usual_data

-- node 1 is used and has no entry
abbrev pub unreached : Image
unreached = usual (dir_of 0 [] ++ file_of 0 []) [] []

-- two pointers of one stamp
abbrev pub bad_pointer : Image
bad_pointer = usual (dir_of 1 (71 ∷ []) ++ file_of 8192 (ptr 256 3 ∷ ptr 257 3 ∷ [])) (entry_for 1 1 (codes "a")) usual_data

-- the page of stamp 4 was moved to 258, and 257 is readable under another stamp
abbrev pub bad_names : Image
bad_names =
    usual usual_nodes (entry_for 1 1 (codes "a")) (data_page 0 3 (codes "one") ∷ data_page 5 9 [] ∷ data_page 1 4 (codes "two") ∷ [])

-- the page of stamp 4 was moved to 258, and 257 is erased
abbrev pub moved_page : Image
moved_page = usual usual_nodes (entry_for 1 1 (codes "a")) (data_page 0 3 (codes "one") ∷ erased ∷ data_page 1 4 (codes "two") ∷ [])

-- each data page is in physical blocks 8 and 9
abbrev pub copied : Image
copied = usual usual_nodes (entry_for 1 1 (codes "a")) (usual_data ++ replicate 30 erased ++ usual_data)

-- a directory of two entries, in address 71
abbrev pub two_entries : InodeRec
two_entries = record { kind = Dir; generation = 0; size = 2; direct = replicate 8 no_pointer; addresses = 71 ∷ zeros 15 }

abbrev pub page_of_two : ℕ → Option (List ℕ)
page_of_two v = if v == 71 then Some (entry_for 1 1 (codes "a") ++ entry_for 2 1 (codes "ab") ++ zeros 3968) else None

-- A new root and count stand in a transaction that lists these addresses, has these pages besides and a commit page of this
-- number, beside the pages at home.
abbrev pub transaction : List ℕ → List Page → ℕ → Image
transaction addresses images commit_number =
    image_with (at_address 67 1 (dir_of 0 []) ∷ at_address 0 2 (super_with 0)
    ∷ at_address 1 10 (header_bytes (record { number = 1; addresses = addresses }))
    ∷ at_address 2 11 (super_with 2) ∷ images ++ at_address 66 14 (commit_bytes (record { number = commit_number })) ∷ []) usual_data

abbrev pub two_images : List Page
two_images = at_address 3 12 usual_nodes ∷ at_address 4 13 (entry_for 1 1 (codes "a")) ∷ []

-- header and commit page have the same number or not
abbrev pub with_journal : ℕ → Image
with_journal commit_number = transaction (0 ∷ 67 ∷ 71 ∷ []) two_images commit_number

-- The transaction has a new root and its entries, and not the super page.
abbrev pub without_super : Image
without_super =
    image_with (at_address 67 1 (dir_of 0 []) ∷ at_address 0 2 (super_with 0)
    ∷ at_address 1 10 (header_bytes (record { number = 1; addresses = 67 ∷ 71 ∷ [] }))
    ∷ at_address 2 11 usual_nodes ∷ at_address 3 12 (entry_for 1 1 (codes "a")) ∷ at_address 66 13 (commit_bytes (record { number = 1 })) ∷ []) usual_data

-- the last image was never written
abbrev pub without_image : Image
without_image = transaction (0 ∷ 67 ∷ 71 ∷ []) (at_address 3 12 usual_nodes ∷ []) 1

-- the header lists an address behind the last
abbrev pub far_address : Image
far_address = transaction (0 ∷ 67 ∷ 103 ∷ []) two_images 1

-- The root has one entry in address 71, which was never written, and no other node is used.
abbrev pub only_missing : Image
only_missing = image_with (at_address 67 1 (dir_of 1 (71 ∷ [])) ∷ at_address 0 2 (super_with 0) ∷ []) []

-- no page was ever written
abbrev pub blank_image : Image
blank_image = image_with [] []
