use Rattle.std.proofs.Common.{rules, ◌≡◌, ◌<◌, length, refl, sym, ◌∙◌, ap, subst, arith}
use Rattle.nl_remap.specs.declared.links.Link.{Link}
use Rattle.nl_remap.specs.Links.{HasLink}
use Rattle.nl_remap.specs.Table.{RemapTable, IsRemap, led, pair}
use Rattle.nl_remap.proofs.LinksProofs.{at_is, same_link}
use Rattle.nl_remap.proofs.Ways.{led_has, led_not}
use Rattle.nl_remap.proofs.TableProofs.{leads_away, old_place}
use Rattle.nl_remap.proofs.remap.Remap.resolve.Goals as goal

pub returns-then-pair-name-clause-away : goal.returns-then-pair-name-clause-away
returns-then-pair-name-clause-away c = λ old to.
    leads_away c.self.inside.by_old.items c.place-at.result c.index-pair.result.now c.args.name c.self.invariant.0.table (search rules) c.index-pair.ensures c.if-pair-name.true to

pub returns-then-at-len-clause-value : goal.returns-then-at-len-clause-value
returns-then-at-len-clause-value c =
    let xs = c.self.inside.by_old.items in
    let is : IsRemap xs = c.self.invariant.0.table in
    subst (λ (t : RemapTable). c.args.name ≡ led t.pairs c.args.name) c.self.view_is
    (sym (led_not xs c.args.name (λ old. let place = old_place xs c.args.name c.place-at.result is c.place-at.ensures old in omega (arith, place.0, c.if-at-len.true, c.len.ensures))))

pub returns-then-pair-name-clause-value : goal.returns-then-pair-name-clause-value
returns-then-pair-name-clause-value c =
    let xs = c.self.inside.by_old.items in
    let is : IsRemap xs = c.self.invariant.0.table in
    let found = c.index-pair.result.now in
    let within : c.place-at.result < length xs = search rules in
    let has : HasLink xs (pair c.args.name found.to) = (c.place-at.result, within, at_is xs c.place-at.result found within c.index-pair.ensures ∙ same_link found (pair c.args.name found.to) c.if-pair-name.true refl) in
    subst (λ (t : RemapTable). found.to ≡ led t.pairs c.args.name) c.self.view_is (sym (led_has xs c.args.name found.to is has))

pub returns-else-pair-name-clause-value : goal.returns-else-pair-name-clause-value
returns-else-pair-name-clause-value c =
    let xs = c.self.inside.by_old.items in
    let is : IsRemap xs = c.self.invariant.0.table in
    let found = c.index-pair.result.now in
    let within : c.place-at.result < length xs = search rules in
    subst (λ (t : RemapTable). c.args.name ≡ led t.pairs c.args.name) c.self.view_is
    (sym (led_not xs c.args.name (λ old.
    let place = old_place xs c.args.name c.place-at.result is c.place-at.ensures old in
    c.if-pair-name.false (sym (ap (λ (l : Link). l.from) (at_is xs c.place-at.result found within c.index-pair.ensures)) ∙ place.1))))
