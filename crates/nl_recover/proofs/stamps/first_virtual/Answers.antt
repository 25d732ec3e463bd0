use Rattle.std.proofs.Common.{◌∙◌, sym, ap, option_map, find, arith}
use Rattle.std.proofs.lemmas.List.{take_all}
use Rattle.nl_recover.specs.Phases.{is_virtual_apart}
use Rattle.nl_recover.proofs.Firsts.{first_at, none_more}
use Rattle.nl_recover.proofs.StampFacts.{virtual_first}
use Rattle.nl_recover.proofs.stamps.first_virtual.Goals as goal

pub returns-then-is_virtual_apart : goal.returns-then-is_virtual_apart
returns-then-is_virtual_apart c =
    sym (virtual_first c.args.shape.now c.args.scan.now.seen ∙ ap (option_map (λ s. s.page)) (first_at (is_virtual_apart c.args.shape.now) c.args.scan.now.seen c.loop-at.at c.get-seen.result.now c.get-seen.ensures c.loop-at.invariant (sym c.is_virtual_apart.ensures ∙ c.if-is_virtual_apart.true)))

pub loop-at-preserved : goal.loop-at-preserved
loop-at-preserved c = none_more (is_virtual_apart c.args.shape.now) c.args.scan.now.seen c.loop-at.at c.get-seen.result.now c.get-seen.ensures c.loop-at.invariant (sym c.is_virtual_apart.ensures ∙ c.if-is_virtual_apart.false)

pub returns : goal.returns
returns c =
    let size = c.len-at-end.ensures in
    let past = c.loop-at-test.false in
    sym (virtual_first c.args.shape.now c.args.scan.now.seen
    ∙ ap (option_map (λ s. s.page)) (ap (find (is_virtual_apart c.args.shape.now)) (sym (take_all c.loop-at.at c.args.scan.now.seen (omega (arith, size, past)))) ∙ c.loop-at.invariant))
