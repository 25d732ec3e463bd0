use Rattle.std.proofs.Common.{◌∷◌, ◌++◌, [], sym, ◌∙◌, arith, length-append}
use Rattle.nl_meta.proofs.Rising.{first_whole, first_full}
use Rattle.nl_meta.proofs.addresses.push_within.Goals as goal

pub returns-then-len-lt-MOST : goal.returns-then-len-lt-MOST
returns-then-len-lt-MOST c =
    let n = length-append c.args.out.now (c.args.vaddr ∷ []) in
    let h = c.if-len-lt-MOST.true in
    let k = c.len.ensures.count in
    c.push.ensures ∙ sym (first_whole (c.args.out.now ++ c.args.vaddr ∷ []) (omega (arith, n, h, k)))

pub returns-else-len-lt-MOST : goal.returns-else-len-lt-MOST
returns-else-len-lt-MOST c =
    let h = c.if-len-lt-MOST.false in
    let k = c.len.ensures.count in
    let r = c.requires in
    sym (first_full c.args.out.now (c.args.vaddr ∷ []) (omega (arith, h, k, r)))
