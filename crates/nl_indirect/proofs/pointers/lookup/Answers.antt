use Rattle.std.proofs.Common.{◌∙◌, sym, ap}
use Rattle.nl_meta.specs.Pages.{page_of}
use Rattle.nl_meta.specs.Running.{running_over}
use Rattle.nl_indirect.specs.Ranges.{slot_of, some_pointer}
use Rattle.nl_indirect.proofs.Pointing.{at-node, in-range, no-page, on-page, runs}
use Rattle.nl_indirect.proofs.pointers.lookup.Goals as goal

pub returns-then-index-lt-DIRECT-clause-value : goal.returns-then-index-lt-DIRECT-clause-value
returns-then-index-lt-DIRECT-clause-value c = c.some.ensures ∙ ap some_pointer (sym (at-node (page_of c.args.meta.now) c.args.rec.now c.args.index c.if-index-lt-DIRECT.true))

pub returns-then-index-lt-DIRECT-clause-running : goal.returns-then-index-lt-DIRECT-clause-running
returns-then-index-lt-DIRECT-clause-running c = λ device. c.some.ensures ∙ ap some_pointer (sym (at-node (running_over device c.args.meta.now) c.args.rec.now c.args.index c.if-index-lt-DIRECT.true))

pub returns-then-address-eq0-clause-value : goal.returns-then-address-eq0-clause-value
returns-then-address-eq0-clause-value c =
    sym (ap some_pointer (in-range (page_of c.args.meta.now) c.args.rec.now c.args.index c.if-index-lt-DIRECT.false ∙ no-page (page_of c.args.meta.now) _ (slot_of c.args.index) c.if-address-eq0.true))

pub returns-then-address-eq0-clause-running : goal.returns-then-address-eq0-clause-running
returns-then-address-eq0-clause-running c = λ device.
    sym (ap some_pointer (in-range (running_over device c.args.meta.now) c.args.rec.now c.args.index c.if-index-lt-DIRECT.false ∙ no-page (running_over device c.args.meta.now) _ (slot_of c.args.index) c.if-address-eq0.true))

pub returns-clause-value : goal.returns-clause-value
returns-clause-value c =
    c.read.ensures
    ∙ ap some_pointer (sym (in-range (page_of c.args.meta.now) c.args.rec.now c.args.index c.if-index-lt-DIRECT.false ∙ on-page (page_of c.args.meta.now) _ (slot_of c.args.index) _ c.if-address-eq0.false c.page.ensures))

pub returns-clause-running : goal.returns-clause-running
returns-clause-running c = λ device.
    c.read.ensures
    ∙ ap some_pointer
    (sym (in-range (running_over device c.args.meta.now) c.args.rec.now c.args.index c.if-index-lt-DIRECT.false ∙ on-page (running_over device c.args.meta.now) _ (slot_of c.args.index) _ c.if-address-eq0.false (runs device c.args.meta.now _ _ c.page.ensures)))
