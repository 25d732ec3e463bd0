use Rattle.std.proofs.Common.{ℕ, ◌∙◌, sym, subst, IsSome}
use Rattle.nl_indirect.specs.Ranges.{HasRange}
use Rattle.nl_meta.specs.Pages.{page_of}
use Rattle.nl_meta_running.specs.Holding.{HoldsPage}
use Rattle.nl_meta_running.specs.Running.{IsNeeded, running_on}
use Rattle.nl_meta_running.proofs.Holds.{bounds-of}
use Rattle.nl_handler.proofs.Found.{if-ok, range-needed, range-there}
use Rattle.nl_handler.proofs.metadata.hold_range.Goals as goal

pub hold-requires-clause-needed : goal.hold-requires-clause-needed
hold-requires-clause-needed g c =
    let s = c.args.device.now in
    let b = bounds-of (g.D.Counts.shape s) (g.met.D.VirtualPages.numbers s c.requires.formed) in
    subst (IsNeeded (g.D.Counts.shape s) (running_on g.D.Counts s c.args.meta.now)) (sym c.page_address-address.ensures)
    (range-needed g.D.Counts s c.args.meta.now b c.requires.runs c.args.tag.now c.args.rec.now c.requires.file (λ z. c.if-address-eq0.false (c.page_address-address.ensures ∙ z)))

pub returns-clause-there : goal.returns-clause-there
returns-clause-there g c = if-ok c.hold.result (λ u. there) c.hold.ensures.there
  where
    there : HoldsPage c.page_address-address.result c.args.meta.now c.hold.new.meta → HasRange (page_of c.hold.new.meta) c.args.rec.now c.args.tag.now.index
    there h =
        let s = c.args.device.now in
        let b = bounds-of (g.D.Counts.shape s) (g.met.D.VirtualPages.numbers s c.requires.formed) in
        range-there g.D.Counts s c.args.meta.now b c.requires.runs c.args.tag.now c.args.rec.now c.requires.file c.hold.new.device c.hold.new.meta c.hold.ensures.kept
        (λ far. subst (λ (v : ℕ). IsSome (page_of c.hold.new.meta v)) c.page_address-address.ensures h.there)
