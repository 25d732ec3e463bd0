use Rattle.std.proofs.Common.{◌≡◌, ℕ, Bool, ◌+◌, ◌-◌, cond, ap, sym, ◌∙◌, count_by, arith}
use Rattle.std.specs.List.{range_with_len}
use Rattle.nl_field.specs.Pointers.{is_none_pointer}
use Rattle.nl_meta.specs.Nodes.{pointer_at}
use Rattle.nl_meta.specs.Running.{running_over}
use Rattle.nl_calls_bytes.proofs.counting.count_pointers.Goals as goal
use Rattle.nl_calls_bytes.proofs.Spans.{count-step, none-test}
use Rattle.nl_calls_bytes.proofs.counting.count_pointers.Goals.{else-is_none, then-is_none}

pub indexes-preserved : goal.indexes-preserved
indexes-preserved c =
    let from = c.indexes.invariant.from in
    let few = c.indexes.invariant.few in
    let n = c.indexes.none in
    let m = c.if-is_none.none in
    let more : m ≡ n + cond c.is_none.result 1 0 = elim c.if-is_none.branch [
      | then-is_none w ↦ w.none-is ∙ ap (λ (b : Bool). n + cond b 1 0) (sym w.if-is_none.true)
      | else-is_none w ↦ w.none-is ∙ (let e : n ≡ n + 0 = omega arith in e) ∙ ap (λ (b : Bool). n + cond b 1 0) (sym w.if-is_none.false)
    ] in
    record {
      from = omega (arith, from);
      few = elim c.if-is_none.branch [ then-is_none w ↦ omega (arith, from, few) | else-is_none w ↦ omega (arith, from, few) ];
      counted = λ device.
          count-step (λ i. is_none_pointer (pointer_at (running_over device c.args.meta.now) c.args.rec.now i)) c.args.first c.indexes.index n m c.is_none.result from (c.indexes.invariant.counted device)
          (none-test (pointer_at (running_over device c.args.meta.now) c.args.rec.now c.indexes.index) c.is_none.result c.lookup.result (c.lookup.ensures.running device) c.is_none.ensures) more;
    }

pub returns : goal.returns
returns c = λ device.
    c.indexes.invariant.counted device
    ∙ ap (λ (n : ℕ). count_by (λ i. is_none_pointer (pointer_at (running_over device c.args.meta.now) c.args.rec.now i)) (range_with_len c.args.first n)) (let e : c.indexes.index - c.args.first ≡ c.args.count = omega arith in e)
