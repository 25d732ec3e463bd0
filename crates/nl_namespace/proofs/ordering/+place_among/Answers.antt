use Rattle.std.proofs.Common.{◌<◌, ◌+◌, ◌-◌, ◌/◌, ℕ, List, length, sym, ap, ◌∙◌, arith}
use Rattle.std.specs.Cmp.Lexicographic.{slice_cmp}
use Rattle.std.specs.Ordering.{is_lt, nat_cmp}
use Rattle.nl_meta.specs.Nodes.{entries_of_inode}
use Rattle.nl_meta.specs.Pages.{page_of}
use Rattle.nl_namespace.proofs.Placing.{listed-at, lower-half, named, place-at-position, place-has, upper-half}
use Rattle.nl_namespace.specs.Sorting.{entries_at}
use Rattle.std.specs.Prelude.{slice_index_or}
use Rattle.nl_namespace.proofs.ordering.+place_among.Goals as goal

pub name_at-requires-clause-below : goal.name_at-requires-clause-below
name_at-requires-clause-below t c =
    let n = c.if-low-high.false in
    let r = c.requires.range in
    let i = c.requires.inside in
    let f = c.requires.few in
    let m : c.args.low + (c.args.high - c.args.low) / 2 < length c.args.order.now = omega (arith, n, r, i) in
    let l = c.requires.order.below (slice_index_or c.args.order.now (c.args.low + (c.args.high - c.args.low) / 2) 0)
    (place-has c.args.order.now (c.args.low + (c.args.high - c.args.low) / 2) (slice_index_or c.args.order.now (c.args.low + (c.args.high - c.args.low) / 2) 0) (place-at-position c.args.order.now (c.args.low + (c.args.high - c.args.low) / 2) m)) in
    omega (arith, l, f)

pub place_among-requires : goal.place_among-requires
place_among-requires t c =
    let n = c.if-low-high.false in
    let r = c.requires.range in
    let i = c.requires.inside in
    let m : c.args.low + (c.args.high - c.args.low) / 2 < length c.args.order.now = omega (arith, n, r, i) in
    let es = entries_of_inode (page_of c.args.meta.now) c.args.rec.now in
    let at = listed-at es c.args.order.now (c.args.low + (c.args.high - c.args.low) / 2) (slice_index_or c.args.order.now (c.args.low + (c.args.high - c.args.low) / 2) 0) c.name_at.ensures.0
    (place-at-position c.args.order.now (c.args.low + (c.args.high - c.args.low) / 2) m) c.name_at.ensures.1 in (
      omega (arith, n, r),
      (
        c.requires.directory,
        (
          c.requires.few,
          (
            c.requires.order,
            (
              omega (arith, n, r),
              (
                c.requires.inside,
                upper-half (entries_at es c.args.order.now) c.requires.order.rising (named c.args.name.now) c.name_at.ensures.0 c.args.low c.args.high (c.args.low + (c.args.high - c.args.low) / 2) c.requires.parts at (ap (λ (name : List ℕ). is_lt (slice_cmp nat_cmp name c.args.name.now)) (sym c.name_at.ensures.2) ∙ sym c.comes_before.ensures ∙ c.if-comes_before.true),
              ),
            ),
          ),
        ),
      ),
    )

pub place_among-requires-else-comes_before : goal.place_among-requires-else-comes_before
place_among-requires-else-comes_before t c =
    let n = c.if-low-high.false in
    let r = c.requires.range in
    let i = c.requires.inside in
    let m : c.args.low + (c.args.high - c.args.low) / 2 < length c.args.order.now = omega (arith, n, r, i) in
    let es = entries_of_inode (page_of c.args.meta.now) c.args.rec.now in
    let at = listed-at es c.args.order.now (c.args.low + (c.args.high - c.args.low) / 2) (slice_index_or c.args.order.now (c.args.low + (c.args.high - c.args.low) / 2) 0) c.name_at.ensures.0
    (place-at-position c.args.order.now (c.args.low + (c.args.high - c.args.low) / 2) m) c.name_at.ensures.1 in (
      omega (arith, n, r),
      (
        c.requires.directory,
        (
          c.requires.few,
          (
            c.requires.order,
            (
              omega (arith, n, r),
              (
                omega (arith, n, r, i),
                lower-half (entries_at es c.args.order.now) c.requires.order.rising (named c.args.name.now) c.name_at.ensures.0 c.args.low c.args.high (c.args.low + (c.args.high - c.args.low) / 2) c.requires.parts at (ap (λ (name : List ℕ). is_lt (slice_cmp nat_cmp name c.args.name.now)) (sym c.name_at.ensures.2) ∙ sym c.comes_before.ensures ∙ c.if-comes_before.false),
              ),
            ),
          ),
        ),
      ),
    )
