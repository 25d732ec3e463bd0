use Rattle.std.proofs.Common.{rules, ◌≡◌, ◌<◌, ◌==◌, if◌then◌else◌, List, length, remove, sym, ◌∙◌, ap, subst}
use Rattle.nl_remap.specs.declared.links.Link.{Link}
use Rattle.nl_remap.specs.Table.{RemapTable, IsOld, IsRemap, beside, led, place_of}
use Rattle.nl_remap.proofs.LinksProofs.{at_is}
use Rattle.nl_remap.proofs.Ways.{beside_drop, ways_drop}
use Rattle.nl_remap.proofs.TableProofs.{dropped_view, place_counts}
use Rattle.nl_remap.proofs.remap.Remap.drop_name.Goals as goal

pub returns-clause-dropped : goal.returns-clause-dropped
returns-clause-dropped c =
    rw (← c.self.view_is) (dropped_view c.self.inside.by_old.items c.take_pair.new.by_old.items c.self.inside.room c.place-at.result c.args.name c.take_pair.ensures.items
    (place_counts c.self.inside.by_old.items c.args.name c.place-at.result c.self.invariant.0.table c.place-at.ensures) (search rules) c.self.invariant.1)

pub returns-clause-ways : goal.returns-clause-ways
returns-clause-ways c other =
    let xs = c.self.inside.by_old.items in
    let ys = c.take_pair.new.by_old.items in
    let name = c.args.name in
    let is : IsRemap xs = c.self.invariant.0.table in
    let within : c.place-at.result < length xs = search rules in
    let old : IsOld xs name = (c.place-at.result, within, ap (λ (l : Link). l.from) (at_is xs c.place-at.result c.index.result.now within c.index.ensures) ∙ c.if-index-name.false) in
    let removed : ys ≡ remove xs (place_of xs name) = c.take_pair.ensures.items ∙ ap (remove xs) (sym (place_counts xs name c.place-at.result is c.place-at.ensures)) in
    subst (λ (t : RemapTable). led ys other ≡ (if other == name then name else led t.pairs other)) c.self.view_is
    (subst (λ (l : List Link). led l other ≡ (if other == name then name else led xs other)) (sym removed) (ways_drop xs name is old (subst IsRemap removed c.take_pair.ensures.paired.table) other))

pub returns-clause-beside : goal.returns-clause-beside
returns-clause-beside c =
    let xs = c.self.inside.by_old.items in
    let ys = c.take_pair.new.by_old.items in
    let name = c.args.name in
    let is : IsRemap xs = c.self.invariant.0.table in
    let within : c.place-at.result < length xs = search rules in
    let old : IsOld xs name = (c.place-at.result, within, ap (λ (l : Link). l.from) (at_is xs c.place-at.result c.index.result.now within c.index.ensures) ∙ c.if-index-name.false) in
    let removed : ys ≡ remove xs (place_of xs name) = c.take_pair.ensures.items ∙ ap (remove xs) (sym (place_counts xs name c.place-at.result is c.place-at.ensures)) in
    subst (λ (t : RemapTable). beside ys (led t.pairs name) ≡ beside t.pairs (led t.pairs name)) c.self.view_is
    (subst (λ (l : List Link). beside l (led xs name) ≡ beside xs (led xs name)) (sym removed) (beside_drop xs name is old))
