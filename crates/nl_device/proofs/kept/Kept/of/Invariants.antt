use Rattle.std.proofs.Common.{◌≡◌, ◌*◌, take}
use Rattle.nl_device.specs.Kept.{CopiesAreNoted, kept_pages}
use Rattle.nl_device.proofs.kept.Kept.of.Given as goal

abbrev pub invariant-seen : goal.invariant-seen
invariant-seen l =
    record {
      low_is : l.low ≡ l.shape.vblocks * l.shape.pages;
      gathered : l.pages.items ≡ kept_pages l.low (take l.at l.tables.seen);
      are_noted : CopiesAreNoted l.shape.pages l.pages.items l.copies;
    }
