-- Examples on which the definitions are evaluated.
use Rattle.std.specs.Prelude.{◌∷◌, ◌++◌, replicate, codes}
use Rattle.nl_field.specs.Page.{Page, erased, written, Image}
use Rattle.nl_field.specs.Bytes.{zeros}
use Rattle.nl_field.specs.SpareRecord.{spare_bytes}
use Rattle.nl_field.specs.SuperPage.{super_bytes}
use Rattle.nl_field.specs.Inode.{inode_bytes}
use Rattle.nl_field.specs.Pointers.{no_pointer}
use Rattle.nl_field.specs.declared.inode.InodeRec.{InodeRec}
use Rattle.nl_field.specs.declared.inode.Kind.TheVariants.{Dir}
use Rattle.nl_field.specs.declared.spare.SpareRec.TheVariants.{Virtual, Physical}

-- an empty root
abbrev pub root_inode : InodeRec
root_inode = record { kind = Dir; generation = 0; size = 0; direct = replicate 8 no_pointer; addresses = replicate 16 0 }

-- what `format 32 32` leaves
abbrev pub fresh_image : Image
fresh_image =
    record {
      blocks = 32;
      pages = 32;
      contents =
          written (record { main = inode_bytes root_inode ++ zeros 3840; spare = spare_bytes (Virtual 67 1 0) })
          ∷ written (record {
            main = super_bytes (record { version = 1; blocks = 32; pages = 32; count = 0 });
            spare = spare_bytes (Virtual 0 2 0);
          })
          ∷ replicate 1022 erased;
    }

-- Block 0 has junk under the address and the stamp of the super page. Block 1 has the root and the right super page.
abbrev pub two_supers : Image
two_supers =
    record {
      blocks = 32;
      pages = 32;
      contents =
          written (record { main = codes "junk" ++ zeros 4092; spare = spare_bytes (Virtual 0 2 0) })
          ∷ replicate 31 erased
          ++ written (record { main = inode_bytes root_inode ++ zeros 3840; spare = spare_bytes (Virtual 67 1 0) })
          ∷ written (record {
            main = super_bytes (record { version = 1; blocks = 32; pages = 32; count = 0 });
            spare = spare_bytes (Virtual 0 2 0);
          })
          ∷ replicate 990 erased;
    }

-- Pages 0 and 32 have one stamp and two addresses: neither is a copy of the other.
abbrev pub one_stamp_two_addresses : Image
one_stamp_two_addresses =
    record {
      blocks = 32;
      pages = 32;
      contents =
          written (record { main = inode_bytes root_inode ++ zeros 3840; spare = spare_bytes (Virtual 67 2 0) })
          ∷ replicate 31 erased
          ++ written (record {
            main = super_bytes (record { version = 1; blocks = 32; pages = 32; count = 0 });
            spare = spare_bytes (Virtual 0 2 0);
          })
          ∷ replicate 991 erased;
    }

-- one page of the physical segment, of five main bytes
abbrev pub short_page : Image
short_page =
    record {
      blocks = 32;
      pages = 32;
      contents = replicate 256 erased
          ++ written (record {
            main = codes "hello";
            spare = spare_bytes (Physical (record { ino = 1; generation = 1; index = 0 }) 3 7);
          }) ∷ replicate 767 erased;
    }

abbrev pub copy_of_3 : Page
copy_of_3 =
    written (record {
      main = codes "hello" ++ zeros 4091;
      spare = spare_bytes (Physical (record { ino = 1; generation = 1; index = 0 }) 3 0);
    })

-- the page of stamp 3 in physical blocks 8 and 9
abbrev pub two_copies : Image
two_copies =
    record {
      blocks = 32;
      pages = 32;
      contents = replicate 256 erased ++ copy_of_3 ∷ replicate 31 erased ++ copy_of_3 ∷ replicate 735 erased;
    }
