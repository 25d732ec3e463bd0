use Rattle.std.specs.Prelude.{IfSome}
use Rattle.nl_field.specs.declared.header.HeaderRec.{HeaderRec}
use Rattle.std.proofs.Common.{◌≡◌, ◌+◌, ℕ, Option, Some, ◌∙◌, ap, sym, subst, length}
use Rattle.nl_field.specs.declared.shape.Shape.{Shape}
use Rattle.nl_meta.specs.Committed.{counting, next_number}
use Rattle.nl_meta.specs.Pages.{Pages, no_pages}
use Rattle.nl_journal.specs.Opening.{counted_in}
use Rattle.nl_journal.specs.Outcomes.{bytes_of}
use Rattle.nl_journal.specs.Restoring.{IsVolumeHeader}
use Rattle.nl_journal.specs.Transaction.{head}
use Rattle.nl_journal.specs.declared.answers.ReadBack.TheVariants as back
use Rattle.nl_journal.proofs.BackReads.{brought}
use Rattle.nl_journal.proofs.BackStands.{bytes-same}
use Rattle.nl_journal.proofs.Restores.{none-count}
use Rattle.nl_journal.proofs.journal.Journal.bring_back.Goals as goal

pub bring_images-found-requires-clause-none : goal.bring_images-found-requires-clause-none
bring_images-found-requires-clause-none g c =
    c.requires.none ∙ ap (λ (h : Shape). no_pages h.vaddrs) (c.requires.shape ∙ sym c.read_ends.ensures.kept.medium.virtual.same_shape)

pub bring_images-found-requires-clause-listing : goal.bring_images-found-requires-clause-listing
bring_images-found-requires-clause-listing g c =
    subst (λ (h : Shape). IsVolumeHeader h c.in-Some-Some.header) (c.requires.shape ∙ sym c.read_ends.ensures.kept.medium.virtual.same_shape)
    (subst (λ (o : Option HeaderRec). IfSome o (IsVolumeHeader c.args.shape.now)) c.in-Some-Some.field-0-is c.in-Some-Some.ensures.listing)

pub bring_images-found-requires-clause-header : goal.bring_images-found-requires-clause-header
bring_images-found-requires-clause-header g c t =
    let kept = c.read_ends.ensures.kept.medium.virtual in
    (λ i. head (kept.same_shape i) (bytes-same g.D.Counts c.args.device.now c.read_ends.new.device kept t i 1)) ∙ subst (λ (o : Option HeaderRec). IfSome o (λ h. head (g.D.Counts.shape c.args.device.now) (bytes_of (g.D.Counts.map c.args.device.now) 1) ≡ Some h)) c.in-Some-Some.field-0-is (c.in-Some-Some.ensures.header t)

pub bring_images-found-requires-clause-decides : goal.bring_images-found-requires-clause-decides
bring_images-found-requires-clause-decides g c t =
    let kept = c.read_ends.ensures.kept.medium.virtual in
    let same = bytes-same g.D.Counts c.args.device.now c.read_ends.new.device kept t in
    (λ i. counting (kept.same_shape i) (same i)) ∙ c.in-Some-Some.ensures.decides t ∙ ap (counted_in (bytes_of (g.D.Counts.map c.args.device.now))) c.in-Some-Some.field-0-is ∙ sym (λ i. counted_in (same i) (Some c.in-Some-Some.header))

pub returns-in-Some-None-clause-back : goal.returns-in-Some-None-clause-back
returns-in-Some-None-clause-back g c =
    let G = g.D.Counts in
    let old = c.args.device.now in
    brought G old c.read_ends.new.device (g.met.D.VirtualPages.numbers old c.requires.formed) c.read_ends.new.self c.args.meta.now back.Nothing c.read_ends.ensures.kept.medium.virtual
    c.in-Some-None.ensures.number c.stands.ensures (ap (λ (p : Pages). length p.running) c.requires.none ∙ none-count c.args.shape.now.vaddrs ∙ ap (λ (h : Shape). h.vaddrs) c.requires.shape)
    c.read_ends.ensures.phase (λ t. c.in-Some-None.ensures.decides t ∙ ap (counted_in (bytes_of (G.map old))) c.in-Some-None.field-0-is) (c.requires.none ∙ ap (λ (h : Shape). no_pages h.vaddrs) c.requires.shape)

pub returns-in-Some-Some-clause-back : goal.returns-in-Some-Some-clause-back
returns-in-Some-Some-clause-back g c =
    let G = g.D.Counts in
    let old = c.args.device.now in
    let mid = c.read_ends.new.device in
    let kept = c.read_ends.ensures.kept.medium.virtual in
    let number : G.tells → c.bring_images-found.new.self.number + 1 ≡ next_number (G.shape mid) (bytes_of (G.map mid)) = λ t.
    ap (λ (n : ℕ). n + 1) c.bring_images-found.ensures.number ∙ c.in-Some-Some.ensures.number t ∙ sym (λ i. next_number (kept.same_shape i) (bytes-same G old mid kept t i)) in
    let count : length c.bring_images-found.new.meta.running ≡ (G.shape mid).vaddrs =
    c.bring_images-found.ensures.count ∙ ap (λ (p : Pages). length p.running) c.requires.none ∙ none-count c.args.shape.now.vaddrs ∙ ap (λ (h : Shape). h.vaddrs) (c.requires.shape ∙ sym kept.same_shape) in
    brought G mid c.bring_images-found.new.device (g.met.D.VirtualPages.numbers mid c.read_ends.ensures.formed) c.bring_images-found.new.self c.bring_images-found.new.meta c.bring_images-found.result c.bring_images-found.ensures.kept.medium.virtual
    number c.stands-in-Some-Some.ensures count c.bring_images-found.ensures.phase c.bring_images-found.ensures.found c.bring_images-found.ensures.restored
