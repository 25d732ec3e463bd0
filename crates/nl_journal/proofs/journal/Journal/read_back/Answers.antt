use Rattle.std.proofs.Common.{Option, refl, sym, subst, ◌∙◌, ap, arith}
use Rattle.std.specs.Prelude.{IfSome}
use Rattle.nl_field.specs.declared.header.HeaderRec.{HeaderRec}
use Rattle.nl_journal.specs.Opening.{are_there, counted_in}
use Rattle.nl_journal.specs.Outcomes.{bytes_of}
use Rattle.nl_journal.specs.Restoring.{IsVolumeHeader}
use Rattle.nl_journal.proofs.BackFacts.{header-parts}
use Rattle.nl_journal.proofs.BackStands.{bytes-same}
use Rattle.nl_journal.proofs.Openings.{counted_all, counted_none}
use Rattle.nl_journal.proofs.journal.Journal.read_back.Goals as goal

pub are_there-requires-clause-few : goal.are_there-requires-clause-few
are_there-requires-clause-few g c =
    let listing : IsVolumeHeader c.args.shape.now c.in-Some-Some.header = subst (λ (o : Option HeaderRec). IfSome o (IsVolumeHeader c.args.shape.now)) c.in-Some-Some.field-0-is c.in-Some-Some.ensures.listing in
    let few = (header-parts c.in-Some-Some.header listing.spelled).1 in
    let e = c.len.ensures.count in
    omega (arith, few, e)

pub returns-in-Some-false-clause-found : goal.returns-in-Some-false-clause-found
returns-in-Some-false-clause-found g c t =
    let G = g.D.Counts in
    let same = bytes-same G c.args.device.now c.read_ends.new.device c.read_ends.ensures.kept.medium.virtual t in
    let h = c.in-Some-Some.header in
    c.in-Some-Some.ensures.decides t ∙ ap (counted_in (bytes_of (G.map c.args.device.now))) c.in-Some-Some.field-0-is ∙ counted_none (bytes_of (G.map c.args.device.now)) h
    (ap (are_there (bytes_of (G.map c.args.device.now)) 0) (sym c.len.ensures.count) ∙ sym (λ i. are_there (same i) 0 c.len.result) ∙ sym (c.in-Some-false.ensures.images t) ∙ c.in-Some-false.field-0-test)

pub returns-in-Some-true-clause-found : goal.returns-in-Some-true-clause-found
returns-in-Some-true-clause-found g c t =
    let G = g.D.Counts in
    let same = bytes-same G c.args.device.now c.read_ends.new.device c.read_ends.ensures.kept.medium.virtual t in
    let h = c.in-Some-Some.header in (
      h,
      c.in-Some-Some.ensures.decides t ∙ ap (counted_in (bytes_of (G.map c.args.device.now))) c.in-Some-Some.field-0-is ∙ counted_all (bytes_of (G.map c.args.device.now)) h
          (ap (are_there (bytes_of (G.map c.args.device.now)) 0) (sym c.len.ensures.count) ∙ sym (λ i. are_there (same i) 0 c.len.result) ∙ sym (c.in-Some-true.ensures.images t) ∙ c.in-Some-true.field-0-test),
      refl,
    )

pub returns-in-Some-None-clause-found : goal.returns-in-Some-None-clause-found
returns-in-Some-None-clause-found g c t = c.in-Some-None.ensures.decides t ∙ ap (counted_in (bytes_of (g.D.Counts.map c.args.device.now))) c.in-Some-None.field-0-is
