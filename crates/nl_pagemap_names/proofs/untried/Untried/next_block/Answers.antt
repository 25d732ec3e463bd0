use Rattle.std.proofs.Common.{◌≡◌, ⊎_elim, ℕ, ◌<◌, ◌≤◌, List, length, Option, Some, None, subst, sum, arith}
use Rattle.std.specs.Prelude.{IfNone}
use Rattle.std.proofs.lemmas.Bool.{cases_lt}
use Rattle.std.proofs.lemmas.List.{get_or_past}
use Rattle.nl_pagemap_names.specs.Untried.{count_at}
use Rattle.nl_pagemap_names.proofs.Counting.{sum_none}
use Rattle.nl_pagemap_names.proofs.untried.Untried.next_block.Goals as goal

-- no block of all has an untried page
all_none : (counts : List ℕ) (n : ℕ) (answer : Option ℕ) → n ≡ length counts → IfNone answer ((i : ℕ) → 0 ≤ i → i < n → count_at counts i ≡ 0) → IfNone answer (sum counts ≡ 0)
all_none counts n None is none = sum_none counts (λ i. ⊎_elim (λ below. none i (omega arith) (omega (arith, below, is))) (λ past. get_or_past counts i 0 past) (cases_lt i (length counts)))
all_none counts n (Some b) is none = tt

pub returns-in-None-clause-none : goal.returns-in-None-clause-none
returns-in-None-clause-none c =
    subst (λ (xs : List ℕ). IfNone c.first_untried-in-None.result (sum xs ≡ 0)) c.self.view_is
    (all_none c.self.inside.counts.items c.len-count.result c.first_untried-in-None.result (let count = c.len-count.ensures in omega (arith, count, c.self.inside.counts.ok.0)) c.first_untried-in-None.ensures.none)
