use Rattle.std.proofs.Common.{rules, arith, sym, subst, ◌≡◌, ◌≤◌}
use Rattle.nl_remap.specs.declared.links.Link.{Link}
use Rattle.nl_remap.specs.Links.{HasLink}
use Rattle.nl_remap.specs.Table.{RemapTable, pair}
use Rattle.nl_remap.proofs.LinksProofs.{at_is}
use Rattle.nl_remap.proofs.TableProofs.{target_has, target_place}
use Rattle.nl_remap.proofs.Ways.{beside_all}
use Rattle.nl_remap.proofs.remap.Remap.name_of.Goals as goal

pub returns-then-at-len-clause-none : goal.returns-then-at-len-clause-none
returns-then-at-len-clause-none c = λ name has.
    let here = subst (λ (t : RemapTable). HasLink t.pairs (pair name c.args.target)) (sym c.self.view_is) has in
    let found = target_place c.self.inside.by_old.items c.self.inside.by_target.items c.place-at.result c.args.target name c.self.invariant.0 c.place-at.ensures here in
    absurd (omega (arith, found.0, c.self.inside.by_target.ok))

pub returns-then-link-target-clause-some : goal.returns-then-link-target-clause-some
returns-then-link-target-clause-some c =
    rw (← c.self.view_is) (target_has c.self.inside.by_old.items c.self.inside.by_target.items c.place-at.result c.args.target c.index-link.result.now c.self.invariant.0 (search rules) c.index-link.ensures c.if-link-target.true)

pub returns-then-link-target-clause-least : goal.returns-then-link-target-clause-least
returns-then-link-target-clause-least c = λ name has.
    let here = subst (λ (t : RemapTable). HasLink t.pairs (pair name c.args.target)) (sym c.self.view_is) has in
    let found = target_place c.self.inside.by_old.items c.self.inside.by_target.items c.place-at.result c.args.target name c.self.invariant.0 c.place-at.ensures here in
    subst (λ (l : Link). l.to ≤ name) (at_is c.self.inside.by_target.items c.place-at.result c.index-link.result.now found.0 c.index-link.ensures) found.2

pub returns-else-link-target-clause-none : goal.returns-else-link-target-clause-none
returns-else-link-target-clause-none c = λ name has.
    let here = subst (λ (t : RemapTable). HasLink t.pairs (pair name c.args.target)) (sym c.self.view_is) has in
    let found = target_place c.self.inside.by_old.items c.self.inside.by_target.items c.place-at.result c.args.target name c.self.invariant.0 c.place-at.ensures here in
    c.if-link-target.false (subst (λ (l : Link). l.from ≡ c.args.target) (at_is c.self.inside.by_target.items c.place-at.result c.index-link.result.now found.0 c.index-link.ensures) found.1)

pub returns-then-at-len-clause-beside : goal.returns-then-at-len-clause-beside
returns-then-at-len-clause-beside c = beside_all c.args.self.now.pairs c.args.target (returns-then-at-len-clause-none c)

pub returns-else-link-target-clause-beside : goal.returns-else-link-target-clause-beside
returns-else-link-target-clause-beside c = beside_all c.args.self.now.pairs c.args.target (returns-else-link-target-clause-none c)
