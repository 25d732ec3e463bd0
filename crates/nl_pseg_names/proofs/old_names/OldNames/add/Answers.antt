use Rattle.std.proofs.Common.{◌/◌, ◌<◌, nat_lt, length, map, sym, ap, subst, arith, ⊎_elim}
use Rattle.std.proofs.lemmas.Bool.{cases_lt}
use Rattle.std.proofs.lemmas.List.{get_or_past}
use Rattle.std.proofs.lemmas.List.Sums.{count_by-le-length}
use Rattle.nl_remap.specs.declared.links.Link.{Link}
use Rattle.nl_remap.specs.Table.{RemapTable, led_on, place_of}
use Rattle.nl_pseg_names.specs.OldNames.{NameTable}
use Rattle.nl_pseg_names.proofs.Named.{few_names, kept_add}
use Rattle.nl_pseg_names.proofs.old_names.OldNames.add.Goals as goal

pub add_one-requires : goal.add_one-requires
add_one-requires c =
    let room : 0 < c.self.inside.remap.room = subst (λ (t : NameTable). 0 < t.room) (sym c.self.view_is) c.requires.room in
    let few = few_names c.self.inside.size (c.args.old / c.self.inside.size) c.self.inside.remap.pairs in
    let whole = c.self.invariant.whole in
    let fits = c.self.invariant.fits in
    ⊎_elim
    (λ within. let e = c.self.invariant.counted.each (c.args.old / c.self.inside.size) within in omega (arith, e, few, whole, fits, room))
    (λ past. let e = get_or_past c.self.inside.counts.items (c.args.old / c.self.inside.size) 0 past in omega (arith, e))
    (cases_lt (c.args.old / c.self.inside.size) (length c.self.inside.counts.items))

pub invariant_of-self : goal.invariant_of-self
invariant_of-self c =
    let room : 0 < c.self.inside.remap.room = subst (λ (t : NameTable). 0 < t.room) (sym c.self.view_is) c.requires.room in
    kept_add c.add.new.self.room c.args.old c.args.new (place_of (map (led_on c.args.old c.args.new) c.self.inside.remap.pairs) c.args.old) c.self.invariant room (count_by-le-length (λ (p : Link). nat_lt p.from c.args.old) (map (led_on c.args.old c.args.new) c.self.inside.remap.pairs))
    (ap (λ (t : RemapTable). t.pairs) c.add.ensures.added) (ap (λ (t : RemapTable). t.room) c.add.ensures.added) c.add.ensures.table c.add_one.ensures.size c.add_one.ensures.each
