use Rattle.std.proofs.Common.{ap, sym, ◌∙◌, ◌&&◌, Bool, eq-eqb}
use Rattle.std.specs.List.{list_any, range_with_len}
use Rattle.nl_calls_bytes.proofs.counting.begins.Goals as goal
use Rattle.nl_calls_bytes.proofs.Spans.{in_range, some-in-range}

pub returns-then-rec-range-eq0 : goal.returns-then-rec-range-eq0
returns-then-rec-range-eq0 c =
    c.meets.ensures ∙ sym (some-in-range c.args.count c.args.first c.args.range)
    ∙ sym (ap (λ (b : Bool). b && list_any (in_range c.args.range) (range_with_len c.args.first c.args.count)) (eq-eqb _ _ c.if-rec-range-eq0.true))
