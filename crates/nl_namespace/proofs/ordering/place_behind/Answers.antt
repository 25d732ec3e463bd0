use Rattle.std.proofs.Common.{◌<◌, ◌-◌, ℕ, List, length, slice_index_or, sym, ap, ◌∙◌, arith}
use Rattle.std.specs.Cmp.Lexicographic.{slice_cmp}
use Rattle.std.specs.Ordering.{is_lt, nat_cmp}
use Rattle.nl_meta.specs.Nodes.{entries_of_inode}
use Rattle.nl_meta.specs.Pages.{page_of}
use Rattle.nl_namespace.proofs.Placing.{count-listed, listed-at, lower-half, named, parts-all, place-at-position, place-has, upper-half}
use Rattle.nl_namespace.specs.Sorting.{entries_at}
use Rattle.nl_namespace.proofs.ordering.place_behind.Goals as goal

pub name_at-requires-clause-below : goal.name_at-requires-clause-below
name_at-requires-clause-below c =
    let n = c.if-count-eq0.false in
    let f = c.requires.few in
    let order = c.args.order.now in
    let m : length order - 1 < length order = omega (arith, n) in
    let l = c.requires.order.below (slice_index_or order (length order - 1) 0)
    (place-has order (length order - 1) (slice_index_or order (length order - 1) 0) (place-at-position order (length order - 1) m)) in
    omega (arith, l, f)

pub place_among-requires-clause-parts : goal.place_among-requires-clause-parts
place_among-requires-clause-parts c =
    let n = c.if-count-eq0.false in
    let order = c.args.order.now in
    let m : length order - 1 < length order = omega (arith, n) in
    let es = entries_of_inode (page_of c.args.meta.now) c.args.rec.now in
    let at = listed-at es order (length order - 1) (slice_index_or order (length order - 1) 0) c.name_at.ensures.0 (place-at-position order (length order - 1) m) c.name_at.ensures.1 in
    let k = count-listed es order in
    upper-half (entries_at es order) c.requires.order.rising (named c.args.name.now) c.name_at.ensures.0 0 (length order) (length order - 1)
    (parts-all (entries_at es order) c.args.name.now (length order) (omega (arith, k))) at
    (ap (λ (name : List ℕ). is_lt (slice_cmp nat_cmp name c.args.name.now)) (sym c.name_at.ensures.2) ∙ sym c.comes_before.ensures ∙ c.if-comes_before.true)

pub place_among-requires-else-comes_before-clause-parts : goal.place_among-requires-else-comes_before-clause-parts
place_among-requires-else-comes_before-clause-parts c =
    let n = c.if-count-eq0.false in
    let order = c.args.order.now in
    let m : length order - 1 < length order = omega (arith, n) in
    let es = entries_of_inode (page_of c.args.meta.now) c.args.rec.now in
    let at = listed-at es order (length order - 1) (slice_index_or order (length order - 1) 0) c.name_at.ensures.0 (place-at-position order (length order - 1) m) c.name_at.ensures.1 in
    let k = count-listed es order in
    lower-half (entries_at es order) c.requires.order.rising (named c.args.name.now) c.name_at.ensures.0 0 (length order) (length order - 1)
    (parts-all (entries_at es order) c.args.name.now (length order) (omega (arith, k))) at
    (ap (λ (name : List ℕ). is_lt (slice_cmp nat_cmp name c.args.name.now)) (sym c.name_at.ensures.2) ∙ sym c.comes_before.ensures ∙ c.if-comes_before.false)
