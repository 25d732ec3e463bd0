use Rattle.std.proofs.Common.{ℕ, List, ◌<◌, sym, subst, arith}
use Rattle.nl_meta.specs.Nodes.{entries_of_inode}
use Rattle.nl_meta.specs.Pages.{page_of}
use Rattle.nl_namespace.specs.Sorting.{IsOrder, Parts, entries_at}
use Rattle.nl_namespace.proofs.Placing.{names-apart, order-more, order-none}
use Rattle.nl_namespace.proofs.ordering.in_order.Goals as goal

pub loop-place-init : goal.loop-place-init
loop-place-init c = subst (IsOrder (entries_of_inode (page_of c.args.meta.now) c.args.rec.now) 0) (sym c.new-order.ensures) (order-none (entries_of_inode (page_of c.args.meta.now) c.args.rec.now))

pub loop-place-preserved : goal.loop-place-preserved
loop-place-preserved c =
    let es = entries_of_inode (page_of c.args.meta.now) c.args.rec.now in
    let n = c.name_at-name.ensures in
    let e = c.size_of-place-end.ensures in
    let t = c.loop-place-test.true in
    let below : c.loop-place.place < c.args.rec.now.size = omega (arith, e, t) in
    subst (IsOrder es _) (sym c.insert.ensures.items)
    (order-more es c.loop-place.place c.loop-place.order.items c.loop-place.invariant n.0 n.1
    (names-apart (page_of c.args.meta.now) c.args.rec.now c.requires.directory c.loop-place.place n.0 below n.1)
    c.place_behind-at.result (subst (λ (name : List ℕ). Parts (entries_at es c.loop-place.order.items) name c.place_behind-at.result c.place_behind-at.result) n.2 (subst (λ (ps : List ℕ). Parts (entries_at es ps) c.name_at-name.result.now c.place_behind-at.result c.place_behind-at.result) c.as_slice.ensures.value c.place_behind-at.ensures.parts)))
