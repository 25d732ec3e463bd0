use Rattle.std.proofs.Common.{◌≡◌, sym, ◌∙◌, inr, ap}
use Rattle.std.specs.Prelude.{Ok}
use Rattle.nl_script.specs.declared.said.Said.TheVariants.{CallOf}
use Rattle.nl_script.specs.Grammar.{line_says}
use Rattle.nl_script.proofs.Bounded.{said_bounded}
use Rattle.nl_script.proofs.Steps.{on-fault, on-nothing, on-barrier, goes-on, ends}
use Rattle.nl_script.proofs.reading.read_line.Goals as goal

pub returns-in-Err-clause-refusal : goal.returns-in-Err-clause-refusal
returns-in-Err-clause-refusal c = inr (on-fault c.args.at c.args.lines.now c.args.raw.now c.in-Err.fault (sym c.in-Ok.ensures.said ∙ c.in-Err.is))

pub returns-in-Ok-Nothing-clause-goes_on : goal.returns-in-Ok-Nothing-clause-goes_on
returns-in-Ok-Nothing-clause-goes_on c = on-nothing c.args.at c.args.lines.now c.args.raw.now (sym c.in-Ok.ensures.said ∙ c.in-Ok-Nothing.is ∙ ap Ok c.in-Ok-Nothing.field-0-is)

pub returns-in-Ok-Barrier-clause-goes_on : goal.returns-in-Ok-Barrier-clause-goes_on
returns-in-Ok-Barrier-clause-goes_on c = on-barrier c.args.at c.args.lines.now c.args.raw.now (sym c.in-Ok.ensures.said ∙ c.in-Ok-Barrier.is ∙ ap Ok c.in-Ok-Barrier.field-0-is)

pub returns-in-Ok-CallOf-clause-goes_on : goal.returns-in-Ok-CallOf-clause-goes_on
returns-in-Ok-CallOf-clause-goes_on c =
    let said : line_says c.args.raw.now ≡ Ok (CallOf c.in-Ok-CallOf.worker c.in-Ok-CallOf.call) = sym c.in-Ok.ensures.said ∙ c.in-Ok-CallOf.is ∙ ap Ok c.in-Ok-CallOf.field-0-is in
    goes-on c.args.at c.args.lines.now c.args.raw.now c.in-Ok-CallOf.worker c.in-Ok-CallOf.call c.add_call.result c.add_call.new.lines said c.add_call.ensures.counted c.add_call.ensures.place c.add_call.ensures.added

pub returns-in-Ok-CallOf-clause-refusal : goal.returns-in-Ok-CallOf-clause-refusal
returns-in-Ok-CallOf-clause-refusal c =
    let said : line_says c.args.raw.now ≡ Ok (CallOf c.in-Ok-CallOf.worker c.in-Ok-CallOf.call) = sym c.in-Ok.ensures.said ∙ c.in-Ok-CallOf.is ∙ ap Ok c.in-Ok-CallOf.field-0-is in
    ends c.args.at c.args.lines.now c.args.raw.now c.in-Ok-CallOf.worker c.in-Ok-CallOf.call c.add_call.result said c.add_call.ensures.refusal

pub add_call-requires-clause-bounded : goal.add_call-requires-clause-bounded
add_call-requires-clause-bounded c =
    let said : line_says c.args.raw.now ≡ Ok (CallOf c.in-Ok-CallOf.worker c.in-Ok-CallOf.call) = sym c.in-Ok.ensures.said ∙ c.in-Ok-CallOf.is ∙ ap Ok c.in-Ok-CallOf.field-0-is in
    said_bounded c.args.raw.now c.in-Ok-CallOf.worker c.in-Ok-CallOf.call said
