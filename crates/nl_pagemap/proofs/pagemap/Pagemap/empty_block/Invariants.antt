use Rattle.std.proofs.Common.{◌≡◌, ℕ, ◌+◌, ◌<◌, ◌≤◌, false}
use Rattle.nl_field.specs.CrashStates.{saturated}
use Rattle.nl_pagemap.specs.Cleaning.{CopiesFrom, IsFull, KeepsNumbers}
use Rattle.nl_pagemap.specs.Mapped.{seen, untried_in}
use Rattle.nl_pagemap.specs.Stands.{IsMapped}
use Rattle.nl_pagemap_names.specs.Table.{live_at}
use Rattle.nl_pagemap_names.specs.Untried.{is_in}
use Rattle.nl_pagemap.proofs.pagemap.Pagemap.empty_block.Given as goal

abbrev pub invariant-loop-number : goal.invariant-loop-number
invariant-loop-number g l = record {
  formed : IsMapped g.M.Nand.tells (g.M.Nand.geometry l.self.media) (seen g.M.Nand.contents l.self);
  kept : KeepsNumbers g.M.Nand.tells (seen g.M.Nand.contents l.fn.self) (seen g.M.Nand.contents l.self);
  full : IsFull (seen g.M.Nand.contents l.self) l.block;
  empty : (n : ℕ) → l.first ≤ n → n < l.number → is_in l.self.shape.pages l.block (live_at l.self.table n) ≡ false;
  copied : CopiesFrom l.block (seen g.M.Nand.contents l.fn.self) (seen g.M.Nand.contents l.self);
  spent : untried_in (seen g.M.Nand.contents l.self) ≤ untried_in (seen g.M.Nand.contents l.fn.self);
  clock : g.M.Nand.clock l.fn.self.media ≤ g.M.Nand.clock l.self.media;
  reads : g.M.Nand.read_faults l.self.media ≡ g.M.Nand.read_faults l.fn.self.media;
  writes : saturated (g.M.Nand.write_faults l.self.media + l.self.refused) ≡ saturated (g.M.Nand.write_faults l.fn.self.media + l.fn.self.refused);
}
