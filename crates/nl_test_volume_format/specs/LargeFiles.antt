-- Images of 32 by 32 with a file of many pages, for the last phases of the walk.
use Rattle.std.specs.Prelude.{ℕ, ◌+◌, ◌-◌, ◌*◌, ◌==◌, nat_lt, true, Option, Some, None, if◌then◌else◌, List, [], ◌∷◌, ◌++◌, replicate, map, flat_map, codes}
use Rattle.std.specs.List.{range_with_len}
use Rattle.nl_field.specs.Page.{Page, erased, Image}
use Rattle.nl_field.specs.Pointers.{no_pointer, indirect_bytes}
use Rattle.nl_field.specs.Inode.{inode_bytes}
use Rattle.nl_field.specs.declared.pointer.Pointer.{Pointer}
use Rattle.nl_field.specs.declared.inode.InodeRec.{InodeRec}
use Rattle.nl_field.specs.declared.inode.Kind.TheVariants.{File}
use Rattle.nl_field.specs.declared.seen.Seen.{Seen}
use Rattle.nl_field.specs.declared.spare.SpareRec.TheVariants.{Virtual, Physical}
use Rattle.nl_test_volume_format.specs.Phases.{at_address, data_page, image_with, super_with, dir_of, entry_for, ptr}

-- the first n pointers, and none behind them
abbrev pub pointer_below : ℕ → (ℕ → Pointer) → ℕ → Pointer
pointer_below n p i = if nat_lt i n then p i else no_pointer

-- a file of n pages with these pointers, whose indirect pages stand from address 72 on
abbrev pub file_of_pages : ℕ → (ℕ → Pointer) → InodeRec
file_of_pages n p =
    record {
      kind = File;
      generation = 1;
      size = 4096 * n;
      direct = map (pointer_below n p) (range_with_len 0 8);
      addresses = map (λ r. if nat_lt (8 + 256 * r) n then 72 + r else 0) (range_with_len 0 16);
    }

abbrev pub indirect_page : ℕ → (ℕ → Pointer) → ℕ → List ℕ
indirect_page n p r = indirect_bytes (map (pointer_below n p) (range_with_len (8 + 256 * r) 256))

-- the pages of such a file, of at most 520 pages
abbrev pub pages_of_pages : ℕ → (ℕ → Pointer) → ℕ → Option (List ℕ)
pages_of_pages n p v = if v == 72 then Some (indirect_page n p 0) else (if v == 73 then Some (indirect_page n p 1) else None)

-- the root and the file /a of n pages, of at most 520, with these pointers
abbrev pub with_pages : ℕ → (ℕ → Pointer) → List Page → Image
with_pages n p data_pages =
    image_with (at_address 67 5 (dir_of 1 (71 ∷ []) ++ inode_bytes (file_of_pages n p)) ∷ at_address 0 6 (super_with 2) ∷ at_address 71 7 (entry_for 1 1 (codes "a"))
    ∷ at_address 72 8 (indirect_page n p 0) ∷ at_address 73 9 (indirect_page n p 1) ∷ []) data_pages

-- n pages in a row, each where its pointer says
abbrev pub filled : ℕ → Image
filled n = with_pages n (λ i. ptr (256 + i) (10 + i)) (map (λ i. data_page i (10 + i) []) (range_with_len 0 n))

-- a page of a list by its number, address and stamp, and where its zeros begin
abbrev pub listed_at : ℕ → ℕ → ℕ → ℕ → Seen
listed_at page v stamp zeros = record { page = page; rec = Virtual v stamp 0; zeros = zeros; agrees = true }

-- the data page of node 1, generation 1, by its index
abbrev pub listed_data : ℕ → Seen
listed_data i =
    record { page = 256 + i; rec = Physical (record { ino = 1; generation = 1; index = i }) (10 + i) 0; zeros = 0; agrees = true }

-- what a scan lists of that image, where the file has more than 264 pages
abbrev pub list_of_filled : ℕ → List Seen
list_of_filled n =
    listed_at 0 67 5 453 ∷ listed_at 1 0 6 25 ∷ listed_at 2 71 7 10 ∷ listed_at 3 72 8 4090 ∷ listed_at 4 73 9 (16 * (n - 264) - 6) ∷ []
    ++ map listed_data (range_with_len 0 n)

-- a page in the first n physical blocks, each where its pointer says
abbrev pub spread : ℕ → Image
spread n =
    with_pages n (λ i. ptr (256 + 32 * i) (10 + i)) (flat_map (λ i. data_page i (10 + i) [] ∷ replicate 31 erased) (range_with_len 0 n))

-- n pages in a row, and each pointer names an erased page
abbrev pub lost : ℕ → Image
lost n = with_pages n (λ i. ptr (512 + i) (10 + i)) (map (λ i. data_page i (10 + i) []) (range_with_len 0 n))

-- an empty root, and a page of another address in each of the first n virtual blocks, of at least two
abbrev pub virtual_blocks : ℕ → Image
virtual_blocks n =
    record {
      blocks = 32;
      pages = 32;
      contents =
          at_address 67 1 (dir_of 0 []) ∷ replicate 31 erased ++ at_address 0 2 (super_with 0) ∷ replicate 31 erased
          ++ flat_map (λ i. at_address (71 + i) (3 + i) [] ∷ replicate 31 erased) (range_with_len 0 (n - 2)) ++ replicate (1024 - 32 * n) erased;
    }
