use Rattle.std.proofs.Common.{◌≡◌}
use Rattle.nl_nand.specs.Nand.{MediumOnlyRead}
use Rattle.nl_scan.specs.Passes.{KnowsPages, KnowsBlocks, IsPassBelow}
use Rattle.nl_scan.proofs.pages.Given as goal

-- what the pass knows of the pages so far, and that the medium was only read
abbrev pub invariant-pages : goal.invariant-pages
invariant-pages g l =
    record {
      knows : g.M.Nand.tells → KnowsPages (g.M.Nand.contents l.media) l.page l.pass;
      blocks : g.M.Nand.tells → KnowsBlocks (g.M.Nand.contents l.media) l.page l.pass.erased.items;
      stands : IsPassBelow (g.M.Nand.geometry l.media) l.shape l.page l.pass;
      reads : MediumOnlyRead g.M.Nand.geometry g.M.Nand.contents g.M.Nand.clock g.M.Nand.write_faults g.M.Nand.left l.initial.media l.media;
      faults : g.M.Nand.read_faults l.media ≡ g.M.Nand.read_faults l.initial.media;
    }
