use Rattle.std.proofs.Common.{ap, sym, ◌∙◌, length, is_some}
use Rattle.std.specs.List.{filter}
use Rattle.nl_meta.specs.Pages.{Pages}
use Rattle.nl_meta.proofs.Kept.{slots-count}
use Rattle.nl_meta.proofs.meta.Meta.slots.Goals as goal

pub returns : goal.returns
returns c =
    c.self.invariant.counted ∙ sym (slots-count c.self.inside.resident.items c.self.inside.pages.items c.self.invariant.each)
    ∙ ap (λ (p : Pages). length (filter is_some p.running)) c.self.view_is
