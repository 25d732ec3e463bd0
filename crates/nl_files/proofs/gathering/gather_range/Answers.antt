use Rattle.std.proofs.Common.{◌≡◌, ◌≤◌, ◌<◌, ◌+◌, ◌-◌, ◌^◌, ◌++◌, ◌∙◌, ℕ, List, ap, sym, subst, length, refl}
use Rattle.nl_field.specs.declared.pointer.Pointer.{Pointer}
use Rattle.nl_meta.specs.Pages.{page_of}
use Rattle.nl_files.specs.Spans.{pointers_of_span}
use Rattle.nl_files.proofs.Owning.{own-at}
use Rattle.nl_files.proofs.Progress.{range-then}
use Rattle.nl_files.proofs.gathering.gather_range.Goals as goal

pub gather_span-requires-clause-room : goal.gather_span-requires-clause-room
gather_span-requires-clause-room g c =
    let made = c.load_range.ensures in
    subst (λ (l : List Pointer). length l ≤ c.args.freeing.now.room)
    (sym (range-then g.D.Counts c.args.device.now c.load_range.new.device c.args.rec.now c.args.meta.now c.load_range.new.meta made.kept made.pages c.requires.stands c.args.first c.args.end c.requires.range (c.in-Done.ensures.ready refl)))
    c.requires.room

pub gather_span-requires-clause-few : goal.gather_span-requires-clause-few
gather_span-requires-clause-few g c =
    let made = c.load_range.ensures in
    subst (λ (l : List Pointer). length c.args.freeing.now.items + length l < 2 ^ 32)
    (sym (range-then g.D.Counts c.args.device.now c.load_range.new.device c.args.rec.now c.args.meta.now c.load_range.new.meta made.kept made.pages c.requires.stands c.args.first c.args.end c.requires.range (c.in-Done.ensures.ready refl)))
    c.requires.few

pub returns-in-Done-clause-done : goal.returns-in-Done-clause-done
returns-in-Done-clause-done g c = λ done.
    let made = c.load_range.ensures in
    c.gather_span.ensures.items
    ∙ ap (λ (l : List Pointer). c.args.freeing.now.items ++ l)
    (range-then g.D.Counts c.args.device.now c.load_range.new.device c.args.rec.now c.args.meta.now c.load_range.new.meta made.kept made.pages c.requires.stands c.args.first c.args.end c.requires.range (c.in-Done.ensures.ready refl))

pub returns-in-Done-clause-only : goal.returns-in-Done-clause-only
returns-in-Done-clause-only g c = own-at c.args.rec.now c.args.first c.args.meta.now c.load_range.new.meta c.load_range.ensures.touched

pub returns-in_default-clause-only : goal.returns-in_default-clause-only
returns-in_default-clause-only g c = own-at c.args.rec.now c.args.first c.args.meta.now c.load_range.new.meta c.load_range.ensures.touched
