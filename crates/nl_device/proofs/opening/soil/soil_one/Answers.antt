use Rattle.nl_device.proofs.opening.soil.soil_one.Goals as goal

pub returns-then-not-is_erased-clause-same : goal.returns-then-not-is_erased-clause-same
returns-then-not-is_erased-clause-same c =
    let e = c.soiled.ensures.soils in
    record {
      same_held = e.held;
      same_pairs = e.pairs.0;
      same_first = e.range.range_first;
      same_blocks = e.range.range_blocks;
      same_size = e.range.range_size;
      same_free = e.free;
      left = e.left;
      same_uses = λ block. (e.same block).0;
    }

pub returns-then-not-is_erased-clause-erased : goal.returns-then-not-is_erased-clause-erased
returns-then-not-is_erased-clause-erased c p taken = let was = c.soiled.ensures.soils.erased p taken in (was.0, λ at. absurd (was.1 at))

pub returns-then-not-is_erased-clause-kept : goal.returns-then-not-is_erased-clause-kept
returns-then-not-is_erased-clause-kept c = c.soiled.ensures.kept

pub returns-then-not-is_erased-clause-whole : goal.returns-then-not-is_erased-clause-whole
returns-then-not-is_erased-clause-whole c was = c.soiled.ensures.whole

pub returns-then-not-is_erased-clause-none : goal.returns-then-not-is_erased-clause-none
returns-then-not-is_erased-clause-none c = c.soiled.ensures.victim

pub returns-then-not-is_erased-clause-copies : goal.returns-then-not-is_erased-clause-copies
returns-then-not-is_erased-clause-copies c p next = (c.soiled.ensures.soils.copies p next).0
