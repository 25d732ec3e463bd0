use Rattle.std.proofs.Common.{◌∙◌, ap, length, sym, arith}
use Rattle.nl_field.specs.Spelling.{each_of, u32_at}
use Rattle.nl_field.proofs.EachRow.{each_of-more, length-each_of}
use Rattle.nl_field.proofs.header.addresses_from.Goals as goal

pub loop-i-init : goal.loop-i-init
unfolding each_of
loop-i-init c = c.new-addresses.ensures

pub push-requires : goal.push-requires
push-requires c =
    let len = ap length c.loop-i.invariant ∙ length-each_of (λ row. u32_at row 0) 4 c.loop-i.i c.args.bytes.now in
    omega (arith, len)

pub loop-i-preserved : goal.loop-i-preserved
unfolding u32_at
loop-i-preserved c =
    c.push.ensures ∙ rw (c.loop-i.invariant, c.u32_from.ensures) (sym (each_of-more (λ row. u32_at row 0) 4 c.loop-i.i c.args.bytes.now))
