use Rattle.std.proofs.Common.{rules, ◌≡◌, ◌+◌, ap, remove}
use Rattle.nl_remap.specs.Table.{IsOld, RemapTable, place_of}
use Rattle.nl_pseg_names.proofs.Named.{kept_take}
use Rattle.nl_pseg_names.proofs.old_names.OldNames.drop_name.Goals as goal

pub invariant_of-self-2 : goal.invariant_of-self-2
invariant_of-self-2 c =
    let old : IsOld c.self.inside.remap.pairs c.args.name = search rules in
    let dropped : c.drop_name.new.self ≡ record { pairs = remove c.self.inside.remap.pairs (place_of c.self.inside.remap.pairs c.args.name); room = c.self.inside.remap.room + 1 } = search rules in
    kept_take c.drop_name.new.self.room c.args.name c.self.invariant old (ap (λ (t : RemapTable). t.pairs) dropped) (ap (λ (t : RemapTable). t.room) dropped) c.drop_name.ensures.table c.take_one.ensures.size c.take_one.ensures.each
