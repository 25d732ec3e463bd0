use Rattle.std.proofs.Common.{◌≤◌, ◌∙◌, List, ap, arith, length, refl, is_some, subst, sym}
use Rattle.std.specs.Prelude.{filter}
use Rattle.std.proofs.lemmas.List.{take_all}
use Rattle.nl_field.specs.declared.pointer.Pointer.{Pointer}
use Rattle.nl_callbacks.specs.declared.entry.Entry.{Entry}
use Rattle.nl_pseg.specs.Segment.{IsClean}
use Rattle.nl_device.specs.Device.{HasSpareBlock, IsDevice}
use Rattle.nl_device.specs.Retain.{IsSegmentFor, is_moved, moved_among, needed_blocks, spare_for}
use Rattle.nl_device.specs.Shown.{found_by_number}
use Rattle.nl_device.proofs.CallsMade.{called_listed}
use Rattle.nl_device.proofs.KeptLive.{are_called, names_hold, reopened, retains_are}
use Rattle.nl_device.proofs.Retained.{all_free, free_some, is_fresh, none_held, retained_device, segment_for}
use Rattle.nl_device.proofs.Retaining.{counted, found_in, live_differ, some_kept}
use Rattle.nl_device.proofs.Spacing.{victim_none}
use Rattle.nl_device.proofs.Calling.{none_called, none_paired}
use Rattle.nl_device.proofs.Leaving.{none_in_hand}
use Rattle.nl_device.specs.Callbacks.{names_with}
use Rattle.nl_device.proofs.device.Device.retain.Goals as goal

pub give_back-requires : goal.give_back-requires
give_back-requires g c = record { none = none_held c.args.self.now.pseg c.requires.no_live; no_victim = victim_none c.args.self.now.pseg c.requires.idle }

pub retain-requires-clause-segment : goal.retain-requires-clause-segment
retain-requires-clause-segment g c =
    let was : IsSegmentFor c.args.self.now.kept c.args.self.now.pseg = segment_for c.requires.formed.segments c.requires.formed.found in
    let b = c.give_back.ensures in
    record { first = b.given.range.range_first ∙ was.first; blocks = b.given.range.range_blocks ∙ was.blocks; size = b.given.range.range_size ∙ was.size }

pub retain-requires-clause-fresh : goal.retain-requires-clause-fresh
retain-requires-clause-fresh g c =
    let b = c.give_back.ensures in
    is_fresh c.requires.formed.segments (none_paired c.args.self.now.pseg c.requires.formed.spare.whole (none_held c.args.self.now.pseg c.requires.no_live)) c.requires.no_live b.given.held b.given.pairs.0 b.given.range.range_blocks b.given.range.range_size
    (λ block from below. (b.given.each block (let e = b.given.range.range_first in omega (arith, e, from)) (let e = b.given.range.range_blocks in omega (arith, e, below))).1) b.whole b.victim

pub retain-requires-clause-idle : goal.retain-requires-clause-idle
retain-requires-clause-idle g c =
    let d = c.args.self.now in
    let empty = none_called d.pseg d.pending c.requires.formed.called (none_held d.pseg c.requires.no_live) in
    let few = ap (λ (l : List Entry). length l) empty in
    let room = c.requires.formed.called.room in
    let size = (segment_for c.requires.formed.segments c.requires.formed.found).size in
    record { empty = empty; room = omega (arith, few, room, size) }

pub returns-clause-formed : goal.returns-clause-formed
returns-clause-formed g c =
    let d = c.args.self.now in
    let b = c.give_back.ensures in
    let e = c.retain.ensures in
    let k = e.kept in
    let seg = c.retain.new.pseg in
    let start = c.give_back.new.self in
    let some_free : 1 ≤ start.free = free_some start c.requires.formed.segments b.given.range.range_first b.given.range.range_blocks b.given.free in
    let spare : HasSpareBlock seg = record { whole = e.loaded.whole; block = e.loaded.kept_block (b.kept some_free) (some_kept d.kept k.0 c.args.kept.now.items k.1 c.requires.can start seg e.loaded); in_hand = none_in_hand seg e.loaded.none_in_hand } in
    subst (λ k. IsDevice (g.M.Nand.geometry d.media) g.M.Nand.tells (g.M.Nand.contents d.media) d.shape d.vseg seg c.retain.new.pending k d.next) (sym e.same)
    (retained_device c.requires.formed e.loaded.segment (e.loaded.pages ∙ ap length b.given.held) spare e.loaded.none_in_hand (let l = e.loaded.left in let z = b.given.left in omega (arith, l, z))
    (are_called d.kept k.0 c.args.kept.now.items k.1 c.requires.can start seg e.loaded d.pending c.retain.new.pending e.called)
    (found_in d.kept k.0 c.args.kept.now.items k.1 c.requires.can start seg e.loaded) (live_differ d.kept k.0 c.args.kept.now.items k.1 c.requires.can start seg e.loaded)
    (λ p taken. b.given.erased p (e.loaded.erased p taken)) (λ p taken. let here = e.loaded.copies p taken in let zero = b.given.copies in absurd (omega (arith, here.0, here.1, zero)))
    (λ t. g.met.M.Nand.contents_fit d.media t)
    (λ t holds. names_hold d.kept k.0 c.args.kept.now.items k.1 c.requires.can start seg e.loaded d.shape _ _ c.requires.formed.found.size (c.requires.formed.found_stored t) holds))

pub returns-clause-retained : goal.returns-clause-retained
returns-clause-retained g c =
    let d = c.args.self.now in
    let e = c.retain.ensures in
    retains_are d.kept e.kept.0 c.args.kept.now.items e.kept.1 c.requires.can c.give_back.new.self c.retain.new.pseg e.loaded d.pending c.retain.new.pending e.called

pub returns-clause-posted : goal.returns-clause-posted
returns-clause-posted g c few =
    let d = c.args.self.now in
    called_listed d.kept c.args.kept.now.items c.retain.new.pseg d.pending c.retain.new.pending c.retain.ensures.called few

pub returns-clause-space : goal.returns-clause-space
returns-clause-space g c =
    let d = c.args.self.now in
    let items = c.args.kept.now.items in
    let b = c.give_back.ensures in
    let e = c.retain.ensures in
    let seg = c.retain.new.pseg in
    let start = c.give_back.new.self in
    let some_free : 1 ≤ start.free = free_some start c.requires.formed.segments b.given.range.range_first b.given.range.range_blocks b.given.free in
    let spare : HasSpareBlock seg = record { whole = e.loaded.whole; block = e.loaded.kept_block (b.kept some_free) (some_kept d.kept e.kept.0 items e.kept.1 c.requires.can start seg e.loaded); in_hand = none_in_hand seg e.loaded.none_in_hand } in
    reopened seg d.shape.pblocks (needed_blocks d.kept items) (length (moved_among d.kept items)) spare e.loaded.none_in_hand (let l = e.loaded.left in let z = b.given.left in omega (arith, l, z))
    (counted d.kept e.kept.0 items e.kept.1 c.requires.can start seg e.loaded ∙ c.requires.formed.found.count)
    (e.loaded.pairs ∙ ap (λ (l : List Pointer). length (filter (is_moved d.kept (spare_for d.kept items)) l)) (take_all (length items) items (omega arith)))

pub returns-clause-medium : goal.returns-clause-medium
returns-clause-medium g c = record {
  virtual = record { same_shape = refl; same_stamps = λ v. refl; same_map = λ t v. refl; no_failed = λ t v x stray. stray; spare = λ s. s };
  contents = λ t. refl;
  left = λ t m i l. l;
  bytes = λ t p. refl;
  found = ap found_by_number c.retain.ensures.same;
  next_stamp = refl;
  clock = refl;
  read_faults = refl;
  write_faults = refl;
}

pub returns-clause-none : goal.returns-clause-none
returns-clause-none g c all empty =
    let e = c.retain.ensures in
    let count = ap (λ (l : List Pointer). length l) empty in
    (λ i. names_with ((e.loaded.unchanged count ∙ c.give_back.ensures.given.same (all_free c.requires.formed.segments all)) i) (e.called.unchanged count i))

pub returns-clause-clean : goal.returns-clause-clean
returns-clause-clean g c all clean block kept =
    let e = c.retain.ensures in
    let was = subst IsClean (sym (c.give_back.ensures.given.same (all_free c.requires.formed.segments all))) clean in
    ap is_some (e.loaded.same_soiled block) ∙ was block (e.loaded.kept_before block kept)
