use Rattle.std.proofs.Common.{◌≡◌, ◌≢◌, ℕ, sym, subst, true}
use Rattle.nl_meta.specs.Pages.{has_room, page_of}
use Rattle.nl_indirect.specs.Ranges.{HasRange, address_of, slot_of}
use Rattle.nl_indirect.specs.Truncating.{TruncatesPointers}
use Rattle.nl_files.proofs.CutToSize.{Places, cuts-file, not-placed, placed, range-then, room-then}
use Rattle.nl_files.proofs.cutting.cut.Goals as goal
use Rattle.nl_files.proofs.cutting.cut.Goals.{in-Some, in_default}

-- the page in which the file ends was replaced, or not
places : (c : goal.After-div_ceil) → Places c.args.size c.args.partial c.args.rec.now c.match-partial.rec c.args.meta.now c.match-partial.meta
places c =
    let r = c.requires in
    let at = placed c.args.size c.args.partial c.args.rec.now c.match-partial.rec c.args.meta.now c.match-partial.meta in
    let not = not-placed c.args.size c.args.partial c.args.rec.now c.match-partial.rec c.args.meta.now c.match-partial.meta in
    elim c.match-partial.branch [
      | in-Some w ↦ at w.in-Some.to w.replace.new.rec w.replace.new.meta w.in-Some.is w.rec-is w.meta-is r.partial w.replace.ensures.stored
      | in_default w ↦ not w.in_default.is w.rec-is w.meta-is r.file r.range r.room
    ]

pub truncate-requires-clause-range : goal.truncate-requires-clause-range
truncate-requires-clause-range c =
    subst (λ (from : ℕ). slot_of from ≢ 0 → HasRange (page_of c.match-partial.meta) c.match-partial.rec from) (sym c.div_ceil.ensures)
    (range-then c.args.size c.args.partial c.args.rec.now c.match-partial.rec c.args.meta.now c.match-partial.meta (places c))

pub truncate-requires-clause-room : goal.truncate-requires-clause-room
truncate-requires-clause-room c =
    subst (λ (from : ℕ). slot_of from ≢ 0 → address_of c.match-partial.rec from ≢ 0 → has_room c.match-partial.meta (address_of c.match-partial.rec from) ≡ true) (sym c.div_ceil.ensures)
    (room-then c.args.size c.args.partial c.args.rec.now c.match-partial.rec c.args.meta.now c.match-partial.meta (places c))

pub returns-clause-cut : goal.returns-clause-cut
returns-clause-cut c =
    let r = c.requires in
    let at = placed c.args.size c.args.partial c.args.rec.now c.match-partial.rec c.args.meta.now c.match-partial.meta in
    let not = not-placed c.args.size c.args.partial c.args.rec.now c.match-partial.rec c.args.meta.now c.match-partial.meta in
    let is : Places c.args.size c.args.partial c.args.rec.now c.match-partial.rec c.args.meta.now c.match-partial.meta =
    elim c.match-partial.branch [
      | in-Some w ↦ at w.in-Some.to w.replace.new.rec w.replace.new.meta w.in-Some.is w.rec-is w.meta-is r.partial w.replace.ensures.stored
      | in_default w ↦ not w.in_default.is w.rec-is w.meta-is r.file r.range r.room
    ]
    in
    let cuts = subst (λ (from : ℕ). TruncatesPointers from c.match-partial.rec c.truncate.new.rec c.match-partial.meta c.truncate.new.meta) c.div_ceil.ensures c.truncate.ensures in
    cuts-file c.args.size c.args.partial c.args.rec.now c.match-partial.rec c.truncate.new.rec c.args.meta.now c.match-partial.meta c.truncate.new.meta is cuts
    c.args.nodes.now c.give_back.new.nodes c.requires.size c.give_back.ensures
