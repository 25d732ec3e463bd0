use Rattle.std.proofs.Common.{◌∙◌, Bool, List, ap, refl, sym}
use Rattle.nl_meta.specs.Pages.{page_of}
use Rattle.nl_recover.specs.Addresses.{is_bad_marked}
use Rattle.nl_recover.proofs.AddressFacts.{slot-bad, slot-good, slot-none}
use Rattle.nl_recover.proofs.addresses.slot_fault.Goals as goal

pub returns-then-address-eq0-clause-passes : goal.returns-then-address-eq0-clause-passes
returns-then-address-eq0-clause-passes c = slot-none c.args.shape.now (page_of c.args.meta.now) c.args.used.now.items c.args.of_file c.args.address c.if-address-eq0.true

pub returns-then-is_bad-clause-passes : goal.returns-then-is_bad-clause-passes
returns-then-is_bad-clause-passes c =
    slot-bad c.args.shape.now (page_of c.args.meta.now) c.args.used.now.items c.args.used.now.items c.args.of_file c.args.address c.if-address-eq0.false
    (ap (λ (marks : List Bool). is_bad_marked c.args.shape.now (page_of c.args.meta.now) marks (c.args.of_file, c.args.address)) (sym c.deref.ensures.value) ∙ sym c.is_bad.ensures.value ∙ c.if-is_bad.true)

pub returns-clause-passes : goal.returns-clause-passes
returns-clause-passes c = slot-good c.args.shape.now (page_of c.args.meta.now) c.args.used.now.items _ c.args.of_file c.args.address c.if-address-eq0.false
    (ap (λ (marks : List Bool). is_bad_marked c.args.shape.now (page_of c.args.meta.now) marks (c.args.of_file, c.args.address)) (sym c.deref.ensures.value) ∙ sym c.is_bad.ensures.value ∙ c.if-is_bad.false) refl
