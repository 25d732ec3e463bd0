use Rattle.std.proofs.Common.{◌<◌, subst, sym, arith, ℕ}
use Rattle.nl_meta.proofs.Kept.{count-less, resident-below}
use Rattle.nl_meta.proofs.meta.drop_place.Goals as goal

pub index_mut-requires : goal.index_mut-requires
index_mut-requires c = subst (λ (n : ℕ). c.args.at < n) (sym c.args.resident.now.ok.0) (resident-below c.args.resident.now.items c.args.at c.requires.there)

pub overflow_sub-count : goal.overflow_sub-count
overflow_sub-count c =
    let l = count-less c.args.resident.now.items c.args.at c.requires.there in
    let e = c.requires.counted in
    omega (arith, l, e)

pub returns-clause-counted : goal.returns-clause-counted
returns-clause-counted c =
    let l = count-less c.args.resident.now.items c.args.at c.requires.there in
    let e = c.requires.counted in
    omega (arith, l, e)
