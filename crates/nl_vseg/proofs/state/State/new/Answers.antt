use Rattle.std.proofs.lemmas.List.{length-replicate}
use Rattle.nl_blocks.specs.Table.{Table}
use Rattle.std.proofs.Common.{◌≡◌, None, length, sym, ◌∙◌, ap, subst, arith}
use Rattle.nl_field.specs.Numbers.{ShapeBounds}
use Rattle.nl_field.proofs.Bounds.{bounds}
use Rattle.nl_vseg.specs.Layout.{IsLayout}
use Rattle.nl_vseg.specs.Used.{OpenBlocksAreRisen, used_of}
use Rattle.nl_vseg.proofs.Shapes.{few_pages, new_rising, new_segment, new_used}
use Rattle.nl_vseg.proofs.state.State.new.Goals as goal

pub new-requires-clause-numbers : goal.new-requires-clause-numbers
new-requires-clause-numbers c =
    let few = few_pages c.args.shape.now (subst ShapeBounds (sym c.requires.numbers) (bounds c.args.shape.now.blocks c.args.shape.now.pages c.requires.legal)) in
    omega (arith, few)

pub returns-clause-formed : goal.returns-clause-formed
returns-clause-formed c =
    let room = subst ShapeBounds (sym c.requires.numbers) (bounds c.args.shape.now.blocks c.args.shape.now.pages c.requires.legal) in
    let places = c.in_ok-no_places.ensures in
    let table = c.in_ok-new.ensures in
    let soiled = c.in_ok-no_marks.ensures in
    let used_is : used_of c.in_ok-new.field-0 0 ≡ c.args.shape.now.pages = ap (λ (t : Table). used_of t 0) table ∙ new_used c.args.shape.now in
    record {
      segment = subst IsLayout (λ i. record { places = sym places i; table = sym table i; soiled = sym soiled i; active = 0; used = sym used_is i }) (new_segment c.args.shape.now room);
      rising = subst OpenBlocksAreRisen (sym table) (new_rising c.args.shape.now);
      copies = ap length c.in_ok-no_places-2.ensures ∙ ap length (sym places);
      targets = ap length c.in_ok-no_targets.ensures ∙ (length-replicate c.args.shape.now.pages None ∙ sym (ap (λ (t : Table). t.size) table));
    }

pub returns-clause-seen : goal.returns-clause-seen
returns-clause-seen c =
    let places = c.in_ok-no_places.ensures in
    let table = c.in_ok-new.ensures in
    let soiled = c.in_ok-no_marks.ensures in
    let used_is : used_of c.in_ok-new.field-0 0 ≡ c.args.shape.now.pages = ap (λ (t : Table). used_of t 0) table ∙ new_used c.args.shape.now in
    λ i. record { places = places i; table = table i; soiled = soiled i; active = 0; used = used_is i }
