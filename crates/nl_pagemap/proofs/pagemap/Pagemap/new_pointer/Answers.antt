use Rattle.std.proofs.Common.{◌≤◌, refl, subst}
use Rattle.nl_pagemap.proofs.Numbers.{some_free}
use Rattle.nl_pagemap.proofs.pagemap.Pagemap.new_pointer.Goals as goal

pub unreachable-requires : goal.unreachable-requires
unreachable-requires g c = some_free c.requires.formed c.requires.room c.in-None.ensures.none

pub returns : goal.returns
returns g c =
    let is = c.in-Some.ensures.some in
    record {
      from = subst (λ n. n ≤ c.in-Some.name) c.requires.formed.numbers.first is.from;
      below = is.below;
      unused = is.free;
      stamp = refl;
    }
