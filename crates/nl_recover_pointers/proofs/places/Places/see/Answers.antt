use Rattle.std.proofs.Common.{ap, sym, ◌&&◌, ◌||◌, ◌∙◌}
use Rattle.std.specs.Prelude.{◌==◌}
use Rattle.nl_field.specs.SpareRecord.{stamp_of}
use Rattle.nl_recover_pointers.specs.Places.{has_place, is_at}
use Rattle.nl_recover_pointers.proofs.Keys.{or_false}
use Rattle.nl_recover_pointers.proofs.places.Places.see.Goals as goal

pub returns-then-not-is_physical-clause-pages : goal.returns-then-not-is_physical-clause-pages
returns-then-not-is_physical-clause-pages c page =
    let old = has_place c.args.self.now page in
    sym (ap (λ x. old || (x && c.args.seen.now.page == page)) (sym c.is_physical.ensures ∙ c.if-not-is_physical.true) ∙ or_false old)

pub returns-then-not-is_physical-clause-stamped : goal.returns-then-not-is_physical-clause-stamped
returns-then-not-is_physical-clause-stamped c page stamp =
    let old = is_at c.args.self.now page stamp in
    sym (ap (λ x. old || (x && (c.args.seen.now.page == page && stamp_of c.args.seen.now.rec == stamp))) (sym c.is_physical.ensures ∙ c.if-not-is_physical.true) ∙ or_false old)

pub returns-clause-pages : goal.returns-clause-pages
returns-clause-pages c page =
    let old = has_place c.args.self.now page in
    c.in_ok-add.ensures.pages page ∙ sym (ap (λ x. old || (x && c.args.seen.now.page == page)) (sym c.is_physical.ensures ∙ c.if-not-is_physical.false))

pub returns-clause-stamped : goal.returns-clause-stamped
returns-clause-stamped c page stamp =
    let old = is_at c.args.self.now page stamp in
    c.in_ok-add.ensures.stamped page stamp
    ∙ (ap (λ n. old || (c.args.seen.now.page == page && n == stamp)) c.stamp_on.ensures
    ∙ sym (ap (λ x. old || (x && (c.args.seen.now.page == page && stamp_of c.args.seen.now.rec == stamp))) (sym c.is_physical.ensures ∙ c.if-not-is_physical.false)))
