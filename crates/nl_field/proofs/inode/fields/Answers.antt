use Rattle.std.proofs.lemmas.List.{take_rest}
use Rattle.nl_field.specs.Inode.{inode_fields}
use Rattle.nl_field.proofs.inode.fields.Goals as goal

pub returns : goal.returns
unfolding inode_fields
returns c =
    let direct = rw (take_rest c.args.bytes.now 64) at c.pointers_from.ensures in
    let addresses = rw (take_rest c.args.bytes.now 192) at c.u32s_from.ensures in
    λ i. record { kind = c.kind_from.ensures i; generation = c.u32_from.ensures i; size = c.u64_from.ensures i; direct = direct i; addresses = addresses i }
