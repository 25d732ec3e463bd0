use Rattle.std.proofs.Common.{rules, arith, ap, sym, ◌∙◌}
use Rattle.nl_callbacks.specs.Pending.{no_entry, number_of}
use Rattle.nl_callbacks.proofs.ListsProofs.{at_is}
use Rattle.nl_callbacks.proofs.PendingProofs.{first_gap}
use Rattle.nl_callbacks.proofs.pending.least_free.Goals as goal

pub returns-then-index-at : goal.returns-then-index-at
returns-then-index-at c = first_gap c.args.entries.now.items c.loop-at.at c.requires.rising c.requires.some c.loop-at.invariant (search rules)
    (λ within is. c.if-index-at.true (sym (ap number_of (at_is no_entry c.args.entries.now.items c.loop-at.at c.index.result.now within c.index.ensures)) ∙ is))

pub returns : goal.returns
returns c = first_gap c.args.entries.now.items c.len.result c.requires.rising c.requires.some (λ k less. c.loop-at.invariant k (omega arith)) (omega (arith, c.args.entries.now.ok))
    (λ within is. absurd (omega (arith, c.args.entries.now.ok)))
