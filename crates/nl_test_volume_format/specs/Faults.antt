-- Images that are at fault in one way each. They are of 32 by 32, where no other numbers are said.
use Rattle.std.specs.Prelude.{ℕ, ◌+◌, ◌-◌, ◌*◌, ◌==◌, if◌then◌else◌, List, [], ◌∷◌, ◌++◌, replicate, codes}
use Rattle.nl_field.specs.Bytes.{zeros}
use Rattle.nl_field.specs.Inode.{inode_bytes}
use Rattle.nl_field.specs.Page.{erased, Image}
use Rattle.nl_field.specs.SuperPage.{super_bytes}
use Rattle.nl_field.specs.declared.pointer.Pointer.{Pointer}
use Rattle.nl_test_volume_format.specs.LargeFiles.{file_of_pages, indirect_page}
use Rattle.nl_test_volume_format.specs.Phases.{at_address, data_page, dir_of, entry_for, file_of, image_with, ptr, super_with, usual, usual_data, usual_nodes}

-- ---- the super page

-- an empty root and the super page of these numbers, in an image of these
abbrev pub geometry_told : ℕ → ℕ → ℕ → ℕ → Image
geometry_told blocks pages told_blocks told_pages =
    record {
      blocks = blocks;
      pages = pages;
      contents = at_address 67 1 (dir_of 0 []) ∷ at_address 0 2 (super_bytes (record { version = 1; blocks = told_blocks; pages = told_pages; count = 0 })) ∷ replicate (blocks * pages - 2) erased;
    }

-- the super page is for blocks of other pages
abbrev pub other_pages : Image
other_pages = geometry_told 32 32 32 64

-- the super page was never written
abbrev pub no_super : Image
no_super = image_with (at_address 67 1 (dir_of 0 []) ∷ []) []

-- the super page is for the numbers of the image, of which there is no volume
abbrev pub illegal_numbers : Image
illegal_numbers = geometry_told 31 32 31 32

-- ---- nodes

-- the root and node 1, with the one entry /a
abbrev pub nodes_with : List ℕ → List ℕ → Image
nodes_with root node = usual (root ++ node) (entry_for 1 1 (codes "a")) usual_data

-- node 0 is a file
abbrev pub file_as_root : Image
file_as_root = usual (file_of 0 []) [] []

-- a direct pointer names the last page before the physical segment
abbrev pub pointer_before : Image
pointer_before = nodes_with (dir_of 1 (71 ∷ [])) (file_of 8192 (ptr 256 3 ∷ ptr 255 4 ∷ []))

-- a direct pointer names a page behind the last
abbrev pub pointer_behind : Image
pointer_behind = nodes_with (dir_of 1 (71 ∷ [])) (file_of 8192 (ptr 256 3 ∷ ptr 1024 4 ∷ []))

-- An image of 32 blocks of 36 pages has 72 nodes in 5 pages: something stands behind the last node.
abbrev pub behind_nodes : Image
behind_nodes =
    record {
      blocks = 32;
      pages = 36;
      contents =
          at_address 67 1 (dir_of 0 []) ∷ at_address 0 2 (super_bytes (record { version = 1; blocks = 32; pages = 36; count = 0 }))
          ∷ at_address 71 3 (zeros 2048 ++ 1 ∷ []) ∷ replicate 1149 erased;
    }

-- ---- addresses

-- the root's entries stand in the last page of nodes
abbrev pub address_before : Image
address_before = nodes_with (dir_of 1 (70 ∷ [])) (file_of 0 [])

-- the root's entries stand in the address behind the last
abbrev pub address_behind : Image
address_behind = image_with (at_address 67 5 (dir_of 1 (103 ∷ []) ++ file_of 0 []) ∷ at_address 0 6 (super_with 2) ∷ at_address 103 7 (entry_for 1 1 (codes "a")) ∷ []) []

-- a directory has one address twice
abbrev pub address_twice : Image
address_twice = nodes_with (dir_of 65 (71 ∷ 71 ∷ [])) (file_of 0 [])

-- two directories have one address
abbrev pub address_shared : Image
address_shared = nodes_with (dir_of 1 (71 ∷ [])) (dir_of 1 (71 ∷ []))

-- /a has nine pages, and the address of its last pointer holds this
abbrev pub with_ninth : (ℕ → Pointer) → List ℕ → Image
with_ninth p page =
    image_with (at_address 67 5 (dir_of 1 (71 ∷ []) ++ inode_bytes (file_of_pages 9 p)) ∷ at_address 0 6 (super_with 2) ∷ at_address 71 7 (entry_for 1 1 (codes "a"))
    ∷ at_address 72 8 page ∷ []) []

-- no pointer is spelled in the address of the last pointer
abbrev pub indirect_unspelled : Image
indirect_unspelled = with_ninth (λ i. ptr (256 + i) (10 + i)) (1 ∷ [])

-- the address of the last pointer holds no pointer
abbrev pub indirect_empty : Image
indirect_empty = with_ninth (λ i. ptr (256 + i) (10 + i)) []

-- the pointer names the last page before the physical segment
abbrev pub last_outside : ℕ → Pointer
last_outside i = if i == 8 then ptr 255 18 else ptr (256 + i) (10 + i)

abbrev pub indirect_outside : Image
indirect_outside = with_ninth last_outside (indirect_page 9 last_outside 0)

-- ---- entries

-- the root has one entry, which is this
abbrev pub with_entry : List ℕ → Image
with_entry entry = usual usual_nodes entry usual_data

-- the entry has no name that a node can have
abbrev pub entry_unspelled : Image
entry_unspelled = with_entry (entry_for 1 1 (codes ".."))

-- the entry names the root
abbrev pub names_root : Image
names_root = usual (dir_of 1 (71 ∷ [])) (entry_for 0 0 (codes "a")) []

-- the entry names a node that is unused, of its generation
abbrev pub names_unused : Image
names_unused = usual (dir_of 1 (71 ∷ [])) (entry_for 1 0 (codes "a")) []

-- An entry names the number behind the last node. The page behind those of nodes spells a file there.
abbrev pub names_behind : Image
names_behind = image_with (at_address 67 5 (dir_of 1 (72 ∷ [])) ∷ at_address 0 6 (super_with 2) ∷ at_address 71 7 (file_of 0 []) ∷ at_address 72 8 (entry_for 64 1 (codes "a")) ∷ []) []

-- two entries of the root have one name
abbrev pub one_name : Image
one_name = usual (dir_of 2 (71 ∷ []) ++ file_of 0 [] ++ file_of 0 []) (entry_for 1 1 (codes "a") ++ entry_for 2 1 (codes "a")) []

-- The entries of two directories have one name, which is no fault: /a is a directory, with the file /a/a.
abbrev pub one_name_in_two : Image
one_name_in_two =
    image_with (at_address 67 5 (dir_of 1 (71 ∷ []) ++ dir_of 1 (72 ∷ []) ++ file_of 0 []) ∷ at_address 0 6 (super_with 2)
    ∷ at_address 71 7 (entry_for 1 0 (codes "a")) ∷ at_address 72 8 (entry_for 2 1 (codes "a")) ∷ []) []

-- nodes 1 and 2 are directories, and each has the one entry of the other
abbrev pub in_a_ring : Image
in_a_ring =
    image_with (at_address 67 5 (dir_of 0 [] ++ dir_of 1 (71 ∷ []) ++ dir_of 1 (72 ∷ [])) ∷ at_address 0 6 (super_with 2)
    ∷ at_address 71 7 (entry_for 2 0 (codes "a")) ∷ at_address 72 8 (entry_for 1 0 (codes "a")) ∷ []) []

-- ---- pointers

-- the file has one page, and two pointers
abbrev pub behind_size : Image
behind_size = nodes_with (dir_of 1 (71 ∷ [])) (file_of 4096 (ptr 256 3 ∷ ptr 257 4 ∷ []))

-- two pointers have one name
abbrev pub one_page_name : Image
one_page_name = nodes_with (dir_of 1 (71 ∷ [])) (file_of 8192 (ptr 256 3 ∷ ptr 256 4 ∷ []))

-- the page of the second pointer is told as another of the file
abbrev pub other_tag : Image
other_tag = usual usual_nodes (entry_for 1 1 (codes "a")) (data_page 0 3 (codes "one") ∷ data_page 2 4 (codes "two") ∷ [])
