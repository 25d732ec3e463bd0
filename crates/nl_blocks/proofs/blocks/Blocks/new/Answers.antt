use Rattle.std.proofs.Common.{◌∙◌, ◌∷◌, ◌++◌, [], ap, length, Some, arith}
use Rattle.std.proofs.lemmas.List.{length-set, replicate_more}
use Rattle.nl_blocks.specs.Table.{new_row}
use Rattle.nl_blocks.proofs.TableProofs.{keyed_more, tied_new}
use Rattle.nl_blocks.proofs.blocks.Blocks.new.Goals as goal

pub made-preserved : goal.made-preserved
made-preserved c =
    let n = c.made.invariant.places in
    let below = c.made-test.true in
    record {
      blocks = c.in_ok-push.ensures.items ∙ (λ j. c.made.invariant.blocks j ++ c.in_ok-new.ensures j ∷ []) ∙ replicate_more c.made.at (new_row c.args.pages);
      places = ap length c.set.ensures ∙ length-set c.made.waiting c.made.at (Some 0) ∙ n;
      waiting = keyed_more c.made.waiting c.set.new.self c.made.at c.set.ensures (omega (arith, n, below)) c.made.invariant.waiting;
    }

pub invariant_of-result : goal.invariant_of-result
invariant_of-result c =
    let far = c.made-test.false in
    let near = c.made.auto.at-end in
    tied_new c.args.first c.args.count c.args.pages c.made.at c.made.waiting c.made.blocks.items c.made.invariant.blocks (omega (arith, far, near)) c.requires.some c.requires.numbers c.made.invariant.places c.made.invariant.waiting
