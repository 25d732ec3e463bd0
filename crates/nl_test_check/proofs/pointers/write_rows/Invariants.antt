use Rattle.std.proofs.Common.{◌≡◌}
use Rattle.nl_nand.specs.Memory.{geometry_of, contents_of}
use Rattle.nl_nand.specs.Nand.{ErasedWithin}
use Rattle.nl_test_check.proofs.pointers.write_rows.Given as goal

-- the pages behind those that were written are erased
abbrev pub invariant-rows : goal.invariant-rows
invariant-rows l =
    record {
      geometry : geometry_of l.media ≡ record { blocks = 32; pages = 32 };
      erased : ErasedWithin (contents_of l.media) l.next 1024;
    }
