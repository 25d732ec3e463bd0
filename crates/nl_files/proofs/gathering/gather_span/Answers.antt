use Rattle.std.proofs.Common.{◌≡◌, ◌-◌, ◌+◌, ◌++◌, ◌∙◌, List, sym, ap, length, arith, refl}
use Rattle.std.proofs.lemmas.List.{append_assoc, append-nil, length-append}
use Rattle.nl_field.specs.declared.pointer.Pointer.{Pointer}
use Rattle.nl_meta.specs.Nodes.{pointer_at}
use Rattle.nl_meta.specs.Pages.{page_of}
use Rattle.nl_files.specs.Spans.{as_list, pointers_of_span}
use Rattle.nl_files.proofs.Progress.{found-one, range-none, range-ready, span-more, span-none, span-inside}
use Rattle.nl_files.proofs.gathering.gather_span.Goals as goal

pub returns-then-has_no_page-clause-items : goal.returns-then-has_no_page-clause-items
returns-then-has_no_page-clause-items c =
    let none = c.has_no_page.ensures.none c.if-has_no_page.true in
    sym (append-nil c.args.freeing.now.items)
    ∙ ap (λ (l : List Pointer). c.args.freeing.now.items ++ l) (sym (range-none (page_of c.args.meta.now) c.args.rec.now c.args.first c.args.end c.requires.range none.0 none.1))

pub lookup-requires-clause-range : goal.lookup-requires-clause-range
lookup-requires-clause-range c = range-ready (page_of c.args.meta.now) c.args.rec.now c.args.first c.args.end c.loop-index.index c.requires.range c.loop-index.auto.index c.loop-index-test.true c.requires.ready

pub add_where-requires-clause-room : goal.add_where-requires-clause-room
add_where-requires-clause-room c = λ some.
    let pages = page_of c.args.meta.now in
    let is = c.loop-index.invariant in
    let within = span-inside pages c.args.rec.now c.args.first c.args.end c.loop-index.index c.loop-index.auto.index c.loop-index-test.true in
    let items = ap length is.0 ∙ length-append c.args.freeing.now.items (pointers_of_span pages c.args.rec.now c.args.first (c.loop-index.index - c.args.first)) in
    let one = found-one (pointer_at pages c.args.rec.now c.loop-index.index) c.lookup.result c.lookup.ensures.value some in
    let left = is.1 in
    let room = c.requires.room in
    omega (arith, within, items, one, left, room)

pub add_where-requires-clause-few : goal.add_where-requires-clause-few
add_where-requires-clause-few c = λ some.
    let pages = page_of c.args.meta.now in
    let is = c.loop-index.invariant in
    let within = span-inside pages c.args.rec.now c.args.first c.args.end c.loop-index.index c.loop-index.auto.index c.loop-index-test.true in
    let items = ap length is.0 ∙ length-append c.args.freeing.now.items (pointers_of_span pages c.args.rec.now c.args.first (c.loop-index.index - c.args.first)) in
    let one = found-one (pointer_at pages c.args.rec.now c.loop-index.index) c.lookup.result c.lookup.ensures.value some in
    let few = c.requires.few in
    omega (arith, within, items, one, few)

pub loop-index-init : goal.loop-index-init
loop-index-init c =
    let none : c.args.first - c.args.first ≡ 0 = omega arith in (
      sym (append-nil c.args.freeing.now.items)
          ∙ ap (λ (l : List Pointer). c.args.freeing.now.items ++ l) (sym (span-none (page_of c.args.meta.now) c.args.rec.now c.args.first (c.args.first - c.args.first) none)),
      omega arith,
    )

pub loop-index-preserved : goal.loop-index-preserved
loop-index-preserved c =
    let pages = page_of c.args.meta.now in
    let low = c.loop-index.auto.index in
    let is = c.loop-index.invariant in
    let at : c.args.first + (c.loop-index.index - c.args.first) ≡ c.loop-index.index = omega (arith, low) in
    let next : c.loop-index.index - c.args.first + 1 ≡ c.loop-index.index + 1 - c.args.first = omega (arith, low) in (
      c.add_where.ensures.items (pointer_at pages c.args.rec.now c.loop-index.index) c.lookup.ensures.value
          ∙ ap (λ (l : List Pointer). l ++ as_list (pointer_at pages c.args.rec.now c.loop-index.index)) is.0
          ∙ append_assoc c.args.freeing.now.items (pointers_of_span pages c.args.rec.now c.args.first (c.loop-index.index - c.args.first)) (as_list (pointer_at pages c.args.rec.now c.loop-index.index))
          ∙ ap (λ (l : List Pointer). c.args.freeing.now.items ++ l) (sym (span-more pages c.args.rec.now c.args.first (c.loop-index.index - c.args.first) c.loop-index.index at) ∙ ap (pointers_of_span pages c.args.rec.now c.args.first) next),
      (let before = is.1 in let after = c.add_where.ensures.room in omega (arith, before, after)),
    )

pub returns-clause-items : goal.returns-clause-items
returns-clause-items c =
    let low = c.loop-index-test.false in
    let some = c.requires.some in
    let high = c.loop-index.auto.index-end (omega (arith, some)) in
    let e : c.loop-index.index ≡ c.args.end = omega (arith, low, high) in
    c.loop-index.invariant.0 ∙ ap (λ n. c.args.freeing.now.items ++ pointers_of_span (page_of c.args.meta.now) c.args.rec.now c.args.first (n - c.args.first)) e
