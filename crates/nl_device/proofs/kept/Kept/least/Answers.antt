use Rattle.std.proofs.Common.{ap, sym, ◌∙◌}
use Rattle.nl_field.specs.Space.{is_outside}
use Rattle.nl_device.specs.Kept.{KeptPages}
use Rattle.nl_device.proofs.Places.{least_apart, least_first, least_none}
use Rattle.nl_device.proofs.kept.Kept.least.Goals as goal

pub returns-in_err-copies : goal.returns-in_err-copies
returns-in_err-copies c =
    rw (← c.self.view_is)
    (c.from_residual.ensures ∙ sym (least_none c.self.inside.size c.args.spare c.self.inside.pages.items c.args.stamp
    (sym (c.self.invariant.noted c.args.stamp) ∙ sym c.in_err-copies.ensures.value)))

pub returns-then-is_outside : goal.returns-then-is_outside
returns-then-is_outside c =
    let outside = ap (λ (k : KeptPages). is_outside k.size c.args.spare c.in_ok-copies.copies.now.first) c.self.view_is ∙ sym c.if-is_outside.ensures in
    rw (← c.self.view_is)
    (sym (least_first c.self.inside.size c.args.spare c.self.inside.pages.items c.args.stamp c.in_ok-copies.copies.now
    (sym (c.self.invariant.noted c.args.stamp) ∙ sym c.in_ok-copies.ensures.value) outside))

pub returns-else-is_outside : goal.returns-else-is_outside
returns-else-is_outside c =
    let inside = ap (λ (k : KeptPages). is_outside k.size c.args.spare c.in_ok-copies.copies.now.first) c.self.view_is ∙ sym c.if-is_outside.ensures in
    rw (← c.self.view_is)
    (sym (least_apart c.self.inside.size c.args.spare c.self.inside.pages.items c.args.stamp c.in_ok-copies.copies.now
    (sym (c.self.invariant.noted c.args.stamp) ∙ sym c.in_ok-copies.ensures.value) inside))
