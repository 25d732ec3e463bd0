use Rattle.std.proofs.Common.{◌∙◌, ap, sym}
use Rattle.nl_tree.specs.declared.call.Call.TheVariants.{Write}
use Rattle.nl_tree_model.proofs.CallProofs.{write_end, fill_end, truncate_end}
use Rattle.nl_tree_model.proofs.plain.after.after.Goals as goal

pub after_write-requires-clause-end : goal.after_write-requires-clause-end
after_write-requires-clause-end c = λ some.
    write_end c.args.tree.now c.args.call.now c.in-Write.path c.in-Write.from c.bytes.result.now c.requires.passes (c.in-Write.is ∙ ap (Write c.in-Write.path c.in-Write.from) (sym c.bytes.ensures)) some

pub after_fill-requires-clause-end : goal.after_fill-requires-clause-end
after_fill-requires-clause-end c = fill_end c.args.tree.now c.args.call.now c.in-Fill.path c.in-Fill.from c.in-Fill.len c.in-Fill.byte c.requires.passes c.in-Fill.is

pub after_cut-requires : goal.after_cut-requires
after_cut-requires c = truncate_end c.args.tree.now c.args.call.now c.in-Truncate.path c.in-Truncate.size c.requires.passes c.in-Truncate.is
