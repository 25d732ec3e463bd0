use Rattle.std.proofs.Common.{◌≡◌, ⊎_elim, ℕ, suc, ◌+◌, ◌-◌, ◌<◌, ◌^◌, Bool, length, cond, count_by, ◌∙◌, ap, subst, arith}
use Rattle.std.specs.List.{range_with_len}
use Rattle.std.proofs.lemmas.Bool.{cases_lt}
use Rattle.std.proofs.lemmas.List.{get_or_past}
use Rattle.nl_pagemap_names.specs.Table.{live_at}
use Rattle.nl_pagemap_names.specs.Untried.{count_at, is_in}
use Rattle.nl_pagemap_names.proofs.Counting.{count_more, count_most}
use Rattle.nl_pagemap_names.proofs.table.Numbers.count_used.Goals as goal

pub count_one-requires-clause-fits : goal.count_one-requires-clause-fits
count_one-requires-clause-fits c i =
    let l = c.loop-number in
    let below = c.loop-number-test.true in
    let to : c.last-to.result < 2 ^ 32 = c.last-to.type_inv in
    ⊎_elim
    (λ within.
    let is = l.invariant.counts i within in
    let most = count_most (λ n. is_in c.args.pages (c.args.first + i) (live_at c.args.self.now n)) c.first-from.result (l.number - c.first-from.result) in
    omega (arith, is, most, below, to))
    (λ past.
    let none = get_or_past l.counts.items i 0 (let same = l.invariant.same in omega (arith, past, same)) in
    omega (arith, none))
    (cases_lt i (length c.args.counts.now.items))

pub loop-number-preserved : goal.loop-number-preserved
loop-number-preserved c =
    let l = c.loop-number in
    record {
      near = let below = c.loop-number-test.true in omega (arith, below);
      same = c.count_one.ensures.length ∙ l.invariant.same;
      counts = λ i within.
          let a = c.first-from.result in
          let P : ℕ → Bool = λ n. is_in c.args.pages (c.args.first + i) (live_at c.args.self.now n) in
          let one = c.count_one.ensures.counts i (let same = l.invariant.same in omega (arith, same, within)) in
          let was = l.invariant.counts i within in
          let more = count_more P a (l.number - a) in
          let from = l.auto.number in
          let here : a + (l.number - a) ≡ l.number = omega (arith, from) in
          let next : suc (l.number - a) ≡ l.number + 1 - a = omega (arith, from) in
          let got = ap {B = ℕ} (λ o. cond (is_in c.args.pages (c.args.first + i) o) 1 0) c.get.ensures in
          let there = ap {B = ℕ} (λ n. cond (P n) 1 0) here in
          subst (λ k. count_at c.count_one.new.counts.items i ≡ count_by P (range_with_len a k)) next (omega (arith, one, was, more, got, there));
    }

pub returns-clause-counts : goal.returns-clause-counts
returns-clause-counts c i within =
    let l = c.loop-number in
    let a = c.first-from.result in
    let b = c.last-to.result in
    let P : ℕ → Bool = λ n. is_in c.args.pages (c.args.first + i) (live_at c.args.self.now n) in
    let far = c.loop-number-test.false in
    let near = l.invariant.near in
    let whole : l.number - a ≡ b - a = omega (arith, far, near) in
    l.invariant.counts i within
    ∙ (ap (λ k. count_by P (range_with_len a k)) whole
    ∙ (λ j. count_by P (range_with_len (c.first-from.ensures j) (c.last-to.ensures j - c.first-from.ensures j))))
