use Rattle.std.proofs.Common.{◌≡◌, ◌+◌, ◌≤◌, List, length, refl, ap, ◌∙◌, arith}
use Rattle.nl_field.specs.declared.pointer.Pointer.{Pointer}
use Rattle.nl_pagemap.specs.Laws.{holds_live, leaves_pages, named_below}
use Rattle.nl_pagemap.specs.contracts.counts.PagemapCounts.TheImpl.{ghosts}
use Rattle.nl_pagemap_volume.proofs.Made.{pages_agree}
use Rattle.nl_pagemap_volume.proofs.Served.{serves_new}
use Rattle.nl_pagemap_volume.proofs.volume.make_with.Goals as goal

pub open_new-requires-clause-firm : goal.open_new-requires-clause-firm
open_new-requires-clause-firm g c s tells formed = record {
  firm = refl;
  none_failed = λ v x below no. no;
  pages = record { holds = holds_live formed tells; pages = leaves_pages formed tells; named_below = named_below formed tells };
  agree = pages_agree formed tells;
}

pub returns-in-Ok-open_new-clause-stands : goal.returns-in-Ok-open_new-clause-stands
returns-in-Ok-open_new-clause-stands g c =
    let e = c.in-Ok-open_new.ensures in
    serves_new (ghosts g.row.M g.M.Nand g.M.Nand-dict) c.in-Ok-open_new.core e.core e.new.runs e.new.flight e.new.no_files

pub returns-in-Ok-open_new-clause-new : goal.returns-in-Ok-open_new-clause-new
returns-in-Ok-open_new-clause-new g c =
    let e = c.in-Ok-open_new.ensures in
    let fresh = c.in-Ok.ensures.fresh in
    record {
      same_shape = e.written.shape ∙ fresh.same_shape;
      shows = λ tells. e.new.runs tells;
      calls = e.new.count;
      writes = e.new.stopped;
      none_awaits = ap (λ (xs : List Pointer). length xs) e.new.no_freeing;
      stamps = let most = e.written.stamps in let one = fresh.next in omega (arith, most, one);
    }
