use Rattle.std.proofs.Common.{◌≡◌, ◌-◌, ◌+◌, ◌∙◌, sym, ap, length, arith, refl}
use Rattle.nl_meta.specs.Pages.{page_of}
use Rattle.nl_files.specs.Spans.{pointers_of_span}
use Rattle.nl_files.proofs.Progress.{at-most-one, counted-more, range-none, range-ready, span-none}
use Rattle.nl_files.proofs.gathering.count_span.Goals as goal

pub returns-then-has_no_page : goal.returns-then-has_no_page
returns-then-has_no_page c =
    let none = c.has_no_page.ensures.none c.if-has_no_page.true in
    sym (ap length (range-none (page_of c.args.meta.now) c.args.rec.now c.args.first c.args.end c.requires.range none.0 none.1))

pub lookup-requires-clause-range : goal.lookup-requires-clause-range
lookup-requires-clause-range c = range-ready (page_of c.args.meta.now) c.args.rec.now c.args.first c.args.end c.loop-index.index c.requires.range c.loop-index.auto.index c.loop-index-test.true c.requires.ready

pub loop-index-init : goal.loop-index-init
loop-index-init c =
    let none : c.args.first - c.args.first ≡ 0 = omega arith in (sym (ap length (span-none (page_of c.args.meta.now) c.args.rec.now c.args.first (c.args.first - c.args.first) none)), omega arith)

pub loop-index-preserved : goal.loop-index-preserved
loop-index-preserved c =
    let pages = page_of c.args.meta.now in
    let low = c.loop-index.auto.index in
    let is = c.loop-index.invariant in
    let one = c.one_where-count.ensures in
    let at : c.args.first + (c.loop-index.index - c.args.first) ≡ c.loop-index.index = omega (arith, low) in
    let next : c.loop-index.index - c.args.first + 1 ≡ c.loop-index.index + 1 - c.args.first = omega (arith, low) in (
      ap (λ n. c.loop-index.count + n) one
          ∙ counted-more pages c.args.rec.now c.args.first (c.loop-index.index - c.args.first) c.loop-index.index c.loop-index.count c.lookup.result at is.0 c.lookup.ensures.value
          ∙ ap (λ n. length (pointers_of_span pages c.args.rec.now c.args.first n)) next,
      (let most = at-most-one c.lookup.result in let count = is.1 in omega (arith, most, one, count, low)),
    )
