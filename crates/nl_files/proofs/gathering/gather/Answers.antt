use Rattle.std.proofs.Common.{◌≡◌, ◌≤◌, ◌+◌, ◌-◌, ◌*◌, ◌/◌, ◌++◌, ◌∙◌, List, sym, ap, length, arith, refl}
use Rattle.std.proofs.lemmas.List.{append_assoc, append-nil, length-append}
use Rattle.nl_field.specs.declared.pointer.Pointer.{Pointer}
use Rattle.nl_files.specs.Spans.{pointers_of_span}
use Rattle.nl_files.specs.Standing.{running_map}
use Rattle.nl_files.proofs.Keeping.{keeps-then, stands-then}
use Rattle.nl_files.proofs.Filling.{done-not-fault}
use Rattle.nl_files.proofs.Owning.{own-none, own-then}
use Rattle.nl_files.proofs.Progress.{read-none, read-then, span-joins, span-none, span-on, span-part}
use Rattle.nl_files.proofs.gathering.gather.Goals as goal

pub gather_range-requires-clause-stands : goal.gather_range-requires-clause-stands
gather_range-requires-clause-stands g c =
    let is = c.loop-range.invariant.0 in
    stands-then g.D.Counts c.args.device.now c.loop-range.device c.args.rec.now c.args.meta.now c.loop-range.meta is.reads is.keeps c.requires.stands

pub gather_range-requires-clause-room : goal.gather_range-requires-clause-room
gather_range-requires-clause-room g c =
    let d = g.D.Counts in
    let is = c.loop-range.invariant in
    let old = running_map d c.args.device.now c.args.meta.now in
    let low = c.loop-range.auto.range in
    let below = c.loop-range-test.true in
    let first = c.start.ensures in
    let behind = c.end.ensures in
    let count = c.end.result - c.start.result in
    let done = 256 * c.loop-range.range - (248 + c.args.from) in
    let at : c.args.from + done ≡ c.start.result = omega (arith, first) in
    let within : done + count ≤ 4104 - c.args.from = omega (arith, first, behind, low, below) in
    let same = ap length (span-on d c.args.device.now c.loop-range.device c.args.rec.now c.args.meta.now c.loop-range.meta is.0.reads is.0.keeps c.requires.stands c.start.result count) in
    let part = span-part old c.args.rec.now c.args.from done c.start.result count (4104 - c.args.from) at within in
    let items = ap length is.1 ∙ length-append c.args.freeing.now.items (pointers_of_span old c.args.rec.now c.args.from done) in
    let left = is.2 in
    let room = c.requires.room in
    omega (arith, same, part, items, left, room)

pub gather_range-requires-clause-few : goal.gather_range-requires-clause-few
gather_range-requires-clause-few g c =
    let d = g.D.Counts in
    let is = c.loop-range.invariant in
    let old = running_map d c.args.device.now c.args.meta.now in
    let low = c.loop-range.auto.range in
    let below = c.loop-range-test.true in
    let first = c.start.ensures in
    let behind = c.end.ensures in
    let count = c.end.result - c.start.result in
    let done = 256 * c.loop-range.range - (248 + c.args.from) in
    let at : c.args.from + done ≡ c.start.result = omega (arith, first) in
    let within : done + count ≤ 4104 - c.args.from = omega (arith, first, behind, low, below) in
    let same = ap length (span-on d c.args.device.now c.loop-range.device c.args.rec.now c.args.meta.now c.loop-range.meta is.0.reads is.0.keeps c.requires.stands c.start.result count) in
    let part = span-part old c.args.rec.now c.args.from done c.start.result count (4104 - c.args.from) at within in
    let items = ap length is.1 ∙ length-append c.args.freeing.now.items (pointers_of_span old c.args.rec.now c.args.from done) in
    let few = c.requires.few in
    omega (arith, same, part, items, few)

pub loop-range-init : goal.loop-range-init
loop-range-init g c =
    let none = span-none (running_map g.D.Counts c.args.device.now c.args.meta.now) c.args.rec.now c.args.from (256 * ((c.args.from + 256 - 8) / 256) - (248 + c.args.from)) (let e : 256 * ((c.args.from + 256 - 8) / 256) - (248 + c.args.from) ≡ 0 = omega arith in e) in (
      read-none g.D.Counts c.args.device.now c.args.meta.now c.requires.formed c.requires.stands.clean,
      sym (append-nil c.args.freeing.now.items) ∙ ap (λ (l : List Pointer). c.args.freeing.now.items ++ l) (sym none),
      omega arith,
      own-none c.args.rec.now c.args.meta.now,
    )

pub loop-range-preserved : goal.loop-range-preserved
loop-range-preserved g c =
    let d = g.D.Counts in
    let is = c.loop-range.invariant in
    let one = c.in-Done.ensures in
    let old = running_map d c.args.device.now c.args.meta.now in
    let low = c.loop-range.auto.range in
    let first = c.start.ensures in
    let behind = c.end.ensures in
    let count = c.end.result - c.start.result in
    let done = 256 * c.loop-range.range - (248 + c.args.from) in
    let at : c.args.from + done ≡ c.start.result = omega (arith, first) in
    let next : done + count ≡ 256 * (c.loop-range.range + 1) - (248 + c.args.from) = omega (arith, first, behind, low) in
    let same = span-on d c.args.device.now c.loop-range.device c.args.rec.now c.args.meta.now c.loop-range.meta is.0.reads is.0.keeps c.requires.stands c.start.result count in (
      read-then d c.args.device.now c.loop-range.device c.gather_range.new.device c.args.meta.now c.loop-range.meta c.gather_range.new.meta is.0 one.formed one.kept (one.faults.stays tt done-not-fault) one.pages,
      one.done refl ∙ (λ i. is.1 i ++ same i)
          ∙ append_assoc c.args.freeing.now.items (pointers_of_span old c.args.rec.now c.args.from done) (pointers_of_span old c.args.rec.now c.start.result count)
          ∙ ap (λ (l : List Pointer). c.args.freeing.now.items ++ l) (sym (span-joins old c.args.rec.now c.args.from done c.start.result count at) ∙ ap (pointers_of_span old c.args.rec.now c.args.from) next),
      (let before = is.2 in let after = one.room in omega (arith, before, after)),
      own-then c.args.rec.now c.args.meta.now c.loop-range.meta c.gather_range.new.meta is.3 one.only,
    )

pub returns-in_default-clause-pages : goal.returns-in_default-clause-pages
returns-in_default-clause-pages g c =
    let is = c.loop-range.invariant.0 in
    keeps-then g.D.Counts c.args.device.now c.loop-range.device c.args.meta.now c.loop-range.meta c.gather_range.new.meta is.reads is.keeps c.gather_range.ensures.pages

pub returns-in_default-clause-only : goal.returns-in_default-clause-only
returns-in_default-clause-only g c = own-then c.args.rec.now c.args.meta.now c.loop-range.meta c.gather_range.new.meta c.loop-range.invariant.3 c.gather_range.ensures.only
