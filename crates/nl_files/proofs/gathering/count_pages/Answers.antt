use Rattle.std.proofs.Common.{◌≡◌, ◌+◌, ◌-◌, ◌*◌, ◌∙◌, sym, ap, length, arith, refl}
use Rattle.std.proofs.lemmas.List.{length-append}
use Rattle.nl_files.specs.Spans.{pointers_of_span}
use Rattle.nl_files.specs.Standing.{running_map}
use Rattle.nl_files.proofs.Keeping.{keeps-then, stands-then}
use Rattle.nl_files.proofs.Owning.{own-none, own-then}
use Rattle.nl_files.proofs.Progress.{pages-not-fault, read-none, read-then, span-joins, span-most, span-none, span-on}
use Rattle.nl_files.proofs.gathering.count_pages.Goals as goal

pub count_range-requires-clause-stands : goal.count_range-requires-clause-stands
count_range-requires-clause-stands g c =
    let is = c.loop-range.invariant.0 in
    stands-then g.D.Counts c.args.device.now c.loop-range.device c.args.rec.now c.args.meta.now c.loop-range.meta is.reads is.keeps c.requires.stands

pub loop-range-init : goal.loop-range-init
loop-range-init g c =
    (read-none g.D.Counts c.args.device.now c.args.meta.now c.requires.formed c.requires.stands.clean, sym (ap length (span-none (running_map g.D.Counts c.args.device.now c.args.meta.now) c.args.rec.now 0 (256 * 0 - 248) refl)), omega arith, own-none c.args.rec.now c.args.meta.now)

pub loop-range-preserved : goal.loop-range-preserved
loop-range-preserved g c =
    let d = g.D.Counts in
    let is = c.loop-range.invariant in
    let one = c.in-Pages.ensures in
    let old = running_map d c.args.device.now c.args.meta.now in
    let now = running_map d c.loop-range.device c.loop-range.meta in
    let first = c.start.ensures in
    let behind = c.end.ensures in
    let at : 0 + (256 * c.loop-range.range - 248) ≡ c.start.result = omega (arith, first) in
    let next : 256 * c.loop-range.range - 248 + (c.end.result - c.start.result) ≡ 256 * (c.loop-range.range + 1) - 248 = omega (arith, first, behind) in
    let same = span-on d c.args.device.now c.loop-range.device c.args.rec.now c.args.meta.now c.loop-range.meta is.0.reads is.0.keeps c.requires.stands c.start.result (c.end.result - c.start.result) in
    let joined = ap length (span-joins old c.args.rec.now 0 (256 * c.loop-range.range - 248) c.start.result (c.end.result - c.start.result) at) ∙ length-append (pointers_of_span old c.args.rec.now 0 (256 * c.loop-range.range - 248)) (pointers_of_span old c.args.rec.now c.start.result (c.end.result - c.start.result)) in
    let whole = ap (λ n. length (pointers_of_span old c.args.rec.now 0 n)) next in
    let more = one.count ∙ ap length same in
    let before = is.1 in (
      read-then d c.args.device.now c.loop-range.device c.count_range.new.device c.args.meta.now c.loop-range.meta c.count_range.new.meta is.0 one.formed one.kept (one.faults.stays tt (λ e. pages-not-fault c.in-Pages.more e)) one.pages,
      omega (arith, before, more, joined, whole),
      (let most = span-most now c.args.rec.now c.start.result (c.end.result - c.start.result) in let count = is.2 in let found = one.count in omega (arith, most, count, found, first, behind)),
      own-then c.args.rec.now c.args.meta.now c.loop-range.meta c.count_range.new.meta is.3 one.only,
    )

pub returns-in_default-clause-pages : goal.returns-in_default-clause-pages
returns-in_default-clause-pages g c =
    let is = c.loop-range.invariant.0 in
    keeps-then g.D.Counts c.args.device.now c.loop-range.device c.args.meta.now c.loop-range.meta c.count_range.new.meta is.reads is.keeps c.count_range.ensures.pages

pub returns-in_default-clause-only : goal.returns-in_default-clause-only
returns-in_default-clause-only g c = own-then c.args.rec.now c.args.meta.now c.loop-range.meta c.count_range.new.meta c.loop-range.invariant.3 c.count_range.ensures.only

pub overflow_add-count : goal.overflow_add-count
overflow_add-count g c =
    let count = c.loop-range.invariant.2 in
    let found = c.in-Pages.ensures.count in
    let first = c.start.ensures in
    let behind = c.end.ensures in
    let below = c.loop-range-test.true in
    let most = span-most (running_map g.D.Counts c.loop-range.device c.loop-range.meta) c.args.rec.now c.start.result (c.end.result - c.start.result) in
    omega (arith, count, found, first, behind, below, most)
