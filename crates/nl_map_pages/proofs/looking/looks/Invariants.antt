use Rattle.std.proofs.Common.{◌≡◌, length, map}
use Rattle.std.specs.List.{range_with_len}
use Rattle.nl_nand.specs.Nand.{MediumOnlyRead}
use Rattle.nl_map_pages.specs.Judging.{IsJudge}
use Rattle.nl_map_pages.specs.Marks.{look_of}
use Rattle.nl_map_pages.proofs.looking.looks.Given as goal

-- what is seen of the pages so far, and that the medium was only read
abbrev pub invariant-pages : goal.invariant-pages
invariant-pages g l =
    record {
      told : g.M.Nand.tells → IsJudge (g.M.Nand.contents l.initial.media) l.live → l.looks.items ≡ map (look_of (g.M.Nand.contents l.initial.media)) (range_with_len 0 l.page);
      len : length l.looks.items ≡ l.page;
      reads : MediumOnlyRead g.M.Nand.geometry g.M.Nand.contents g.M.Nand.clock g.M.Nand.write_faults g.M.Nand.left l.initial.media l.media;
      faults : g.M.Nand.read_faults l.media ≡ g.M.Nand.read_faults l.initial.media;
    }
