use Rattle.std.proofs.Common.{arith}
use Rattle.nl_pagemap_names.proofs.table.Numbers.first_free.Goals as goal

pub returns-then-is_free-clause-some : goal.returns-then-is_free-clause-some
returns-then-is_free-clause-some c =
    let first = c.first-first.ensures in
    let last = c.last-last.ensures in
    record {
      from = omega (arith, first);
      below = omega (arith, last);
      free = c.is_free.ensures.yes c.if-is_free.true;
      least = λ m from below none. c.loop-number.invariant m (omega (arith, from, first)) below none;
    }

pub returns-clause-none : goal.returns-clause-none
returns-clause-none c =
    let first = c.first-first.ensures in
    let last = c.last-last.ensures in
    λ n from below none. c.loop-number.invariant n (omega (arith, from, first)) (omega (arith, below, last)) none
