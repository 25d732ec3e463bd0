use Rattle.std.proofs.Common.{◌∷◌, ◌++◌, [], ap, ◌∙◌, length, arith, length-append, append_assoc}
use Rattle.nl_meta.specs.Pages.{above, below, with_address}
use Rattle.nl_meta.proofs.Rising.{whole_length}
use Rattle.nl_meta.proofs.addresses.inserted.Goals as goal

pub push-requires : goal.push-requires
push-requires c =
    let n = whole_length c.args.vaddr c.args.addresses.now in
    let e = ap length c.lower-out.ensures in
    let r = c.requires in
    omega (arith, n, e, r)

pub push_higher-requires : goal.push_higher-requires
push_higher-requires c =
    let n = whole_length c.args.vaddr c.args.addresses.now in
    let e = ap length c.lower-out.ensures in
    let p = ap length c.push.ensures in
    let q = length-append c.lower-out.result (c.args.vaddr ∷ []) in
    let r = c.requires in
    omega (arith, n, e, p, q, r)

pub returns : goal.returns
unfolding with_address
returns c =
    c.push_higher.ensures ∙ ap (λ xs. xs ++ above c.args.vaddr c.args.addresses.now) (c.push.ensures ∙ ap (λ xs. xs ++ c.args.vaddr ∷ []) c.lower-out.ensures)
    ∙ append_assoc (below c.args.vaddr c.args.addresses.now) (c.args.vaddr ∷ []) (above c.args.vaddr c.args.addresses.now)
