-- Images on which the walk is evaluated.
use Rattle.std.specs.Prelude.{ℕ, ◌-◌, List, ◌∷◌, ◌++◌, replicate, length, codes}
use Rattle.nl_field.specs.Page.{Page, erased, written, Image}
use Rattle.nl_field.specs.SpareRecord.{spare_bytes}
use Rattle.nl_field.specs.SuperPage.{super_bytes}
use Rattle.nl_field.specs.Inode.{inode_bytes}
use Rattle.nl_field.specs.EntryRecord.{entry_bytes}
use Rattle.nl_field.specs.Pointers.{no_pointer}
use Rattle.nl_field.specs.Bytes.{zeros}
use Rattle.nl_field.specs.declared.inode.InodeRec.{InodeRec}
use Rattle.nl_field.specs.declared.inode.Kind.TheVariants.{Dir, File}
use Rattle.nl_field.specs.declared.spare.SpareRec.TheVariants.{Virtual, Physical}

abbrev pub page_with : List ℕ → List ℕ → Page
page_with main spare = written (record { main = main ++ zeros (4096 - length main); spare = spare })

-- the root with the one entry /a, a file of 5 bytes whose page is 256 under stamp 3
abbrev pub root_with_a : InodeRec
root_with_a = record { kind = Dir; generation = 0; size = 1; direct = replicate 8 no_pointer; addresses = 71 ∷ replicate 15 0 }

abbrev pub inode_of_a : InodeRec
inode_of_a = record { kind = File; generation = 1; size = 5; direct = record { name = 256; stamp = 3 } ∷ replicate 7 no_pointer; addresses = replicate 16 0 }

-- a volume of 32 by 32 with the file /a, whose data page is as given
abbrev pub image_of_a : Page → Image
image_of_a data_page =
    record {
      blocks = 32;
      pages = 32;
      contents =
          page_with (inode_bytes root_with_a ++ inode_bytes inode_of_a) (spare_bytes (Virtual 67 5 0))
          ∷ page_with (super_bytes (record { version = 1; blocks = 32; pages = 32; count = 2 })) (spare_bytes (Virtual 0 6 0))
          ∷ page_with (entry_bytes (record { ino = 1; generation = 1; name = codes "a" })) (spare_bytes (Virtual 71 7 0))
          ∷ replicate 253 erased ++ data_page ∷ replicate 767 erased;
    }

abbrev pub hello_page : Page
hello_page = page_with (codes "hello") (spare_bytes (Physical (record { ino = 1; generation = 1; index = 0 }) 3 0))

-- behind the size the page is not zero
abbrev pub long_page : Page
long_page = page_with (codes "hello!") (spare_bytes (Physical (record { ino = 1; generation = 1; index = 0 }) 3 0))
