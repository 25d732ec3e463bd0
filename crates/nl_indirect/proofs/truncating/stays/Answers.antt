use Rattle.std.proofs.Common.{ℕ, ◌∙◌, get_or, ap, arith}
use Rattle.nl_field.specs.Pointers.{is_none_pointer}
use Rattle.nl_meta.specs.Nodes.{pointer_in_page}
use Rattle.nl_meta.specs.Running.{running_over}
use Rattle.nl_indirect.specs.Ranges.{slot_of}
use Rattle.nl_indirect.proofs.Pointing.{in-range, no-page, on-page, runs}
use Rattle.nl_indirect.proofs.truncating.stays.Goals as goal

pub returns-then-address-ne0-clause-none : goal.returns-then-address-ne0-clause-none
returns-then-address-ne0-clause-none c = λ none device i high before same.
    ap is_none_pointer
    (in-range (running_over device c.args.meta.now) c.args.rec.now i high
    ∙ ap (λ (r : ℕ). pointer_in_page (running_over device c.args.meta.now) (get_or c.args.rec.now.addresses r 0) (slot_of i)) same
    ∙ on-page (running_over device c.args.meta.now) _ (slot_of i) _ c.if-address-ne0.true (runs device c.args.meta.now _ _ c.page.ensures))
    ∙ c.has_before.ensures.none none (slot_of i) (omega (arith, high, before, same))

pub returns-else-address-ne0-clause-none : goal.returns-else-address-ne0-clause-none
returns-else-address-ne0-clause-none c = λ none device i high before same.
    ap is_none_pointer
    (in-range (running_over device c.args.meta.now) c.args.rec.now i high
    ∙ no-page (running_over device c.args.meta.now) _ (slot_of i) (ap (λ (r : ℕ). get_or c.args.rec.now.addresses r 0) same ∙ c.if-address-ne0.false))
