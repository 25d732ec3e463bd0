use Rattle.std.proofs.Common.{◌≡◌, ◌+◌, ◌<◌, length, inl, inr, refl, sym, ◌∙◌, ap, subst, arith}
use Rattle.nl_nand.specs.Nand.{ticked}
use Rattle.nl_nand.specs.declared.answers.WriteAnswer.{WriteAnswer}
use Rattle.nl_nand.specs.declared.geometry.Geometry.{Geometry}
use Rattle.nl_pagemap.specs.Mapped.{Mapped, bytes_at, live_among, named_at, page_live, seen, stored_in}
use Rattle.nl_pagemap.specs.Placing.{IsProgrammed, next_entry, placed}
use Rattle.nl_pagemap.specs.Stands.{IsMapped}
use Rattle.nl_pagemap.proofs.Failures.{done_faults, done_stamp, earlier, failed_faults, failed_stamp}
use Rattle.nl_pagemap.proofs.Programmed.{not_both}
use Rattle.nl_pagemap.proofs.Numbers.{few_used, within}
use Rattle.nl_pagemap.proofs.Placed.{bytes_here, bytes_kept, count_now, is_new, left_with, live_now, map_now, named_other, placed_mapped, stays, wrote}
use Rattle.nl_pagemap.proofs.Wasted.{fails, left_without, wasted_bytes, wasted_map, wasted_mapped}
use Rattle.nl_pagemap_names.specs.Table.{given}
use Rattle.nl_vseg.specs.Places.{map_of, stamp_for}
use Rattle.nl_vseg.specs.Segment.{SegmentHasUnmapped}
use Rattle.nl_pagemap.proofs.named_pages.PagemapNamedPages.nameless_write.Goals as goal

pub give-requires : goal.give-requires
give-requires g c =
    subst (λ (x : Mapped). c.new_pointer-at.result.name < length x.table.entries) (sym c.program.ensures.spends)
    (within c.requires.formed c.new_pointer-at.result.name c.new_pointer-at.ensures.below)

pub overflow_add-self : goal.overflow_add-self
overflow_add-self g c =
    let same = ap (λ (x : Mapped). x.count) c.program.ensures.spends in
    let few = few_used c.requires.formed in
    omega (arith, same, few)

pub returns-then-self-eq0-clause-left : goal.returns-then-self-eq0-clause-left
returns-then-self-eq0-clause-left g c told = record {
  stops = record { later = omega arith; each = λ m x left. inl left };
  now = inl ((λ no. no), stays c.requires.formed told _);
}

-- ---- the program failed

pub returns-in-Failed-clause-formed : goal.returns-in-Failed-clause-formed
returns-in-Failed-clause-formed g c =
    let d = c.args.self.now in
    let s = seen g.M.Nand.contents d in
    let e = c.program.ensures in
    let image = g.M.Nand.contents c.program.new.self.media in
    subst (λ (x : Geometry). IsMapped g.M.Nand.tells x (seen g.M.Nand.contents c.program.new.self)) (sym e.counted.same_geometry)
    (subst (λ (x : Mapped). IsMapped g.M.Nand.tells (g.M.Nand.geometry d.media) x) (sym e.spends)
    (wasted_mapped c.next_block-block.result s image c.requires.formed c.next_block-block.ensures c.requires.stamp e.others))

pub returns-in-Failed-clause-none : goal.returns-in-Failed-clause-none
returns-in-Failed-clause-none g c unplaced =
    let s = seen g.M.Nand.contents c.args.self.now in
    let e = c.program.ensures in
    record {
      tables = record { live = λ q. ap (λ (x : Mapped). page_live x.table q) e.spends; pairs = refl; pending = refl; handled = λ n. refl; posted = refl };
      fault = fails s (seen g.M.Nand.contents c.program.new.self) (omega (arith, c.if-self-eq0.false)) (ap (λ (x : Mapped). x.shape) e.spends) (ap (λ (x : Mapped). x.room) e.spends) (ap (λ (x : Mapped). x.table) e.spends);
    }

pub returns-in-Failed-clause-left : goal.returns-in-Failed-clause-left
returns-in-Failed-clause-left g c told =
    let s = seen g.M.Nand.contents c.args.self.now in
    let e = c.program.ensures in
    let image = g.M.Nand.contents c.program.new.self.media in
    let later = e.later in
    record {
      stops = record {
        later = later;
        each = λ m x left. let now = left.0 in inr (omega (arith, later, now), omega (arith, now), inl ((λ no. absurd no), left_without c.next_block-block.result s image c.requires.formed c.next_block-block.ensures c.requires.stamp e.others told _ x (left.1 ∙ ap stored_in e.spends)));
      };
      now = inl ((λ no. no), left_without c.next_block-block.result s image c.requires.formed c.next_block-block.ensures c.requires.stamp e.others told _ (stored_in (seen g.M.Nand.contents c.program.new.self)) (ap stored_in e.spends));
    }

pub returns-in-Failed-clause-kept : goal.returns-in-Failed-clause-kept
returns-in-Failed-clause-kept g c =
    let s = seen g.M.Nand.contents c.args.self.now in
    let e = c.program.ensures in
    let image = g.M.Nand.contents c.program.new.self.media in
    record {
      virtual = record {
        same_shape = ap (λ (x : Mapped). x.shape) e.spends;
        same_stamps = λ v. ap (λ (x : Mapped). stamp_for x.vseg.places v) e.spends;
        same_map = λ told v. ap (λ (x : Mapped). map_of x.vseg.places x.image v) e.spends ∙ wasted_map c.next_block-block.result s image c.requires.formed c.next_block-block.ensures c.requires.stamp e.others told v;
        no_failed = λ told v x no. no;
        spare = λ k. subst (λ (x : Mapped). SegmentHasUnmapped x.vseg) (sym e.spends) k;
      };
      bytes = λ told q page live. ap (λ (x : Mapped). bytes_at x q) e.spends ∙ wasted_bytes c.next_block-block.result s image c.requires.formed c.next_block-block.ensures c.requires.stamp e.others told q;
      clean = λ k. k;
      read_faults = e.counted.same_read_faults;
    }

pub returns-in-Failed-clause-next_stamp : goal.returns-in-Failed-clause-next_stamp
returns-in-Failed-clause-next_stamp g c =
    let e = c.program.ensures in
    failed_stamp _ _ _ _ _ _ _ _ _ tt (ap (λ (x : Mapped). x.next) e.spends) e.later e.refused (e.counted.failures.cause c.in-Failed.is)

pub returns-in-Failed-clause-counts : goal.returns-in-Failed-clause-counts
returns-in-Failed-clause-counts g c =
    let d = c.args.self.now in
    let e = c.program.ensures in
    let spent_room = ap (λ (x : Mapped). x.room) e.spends in
    record {
      faults = failed_faults _ _ _ _ _ _ e.refused (e.counted.failures.cause c.in-Failed.is) refl;
      ticks = record { clock = e.later; later = λ done. absurd done };
      clean_ticks = λ clean done. absurd done;
      clean_stays = λ clean no. e.counted.ticks ∙ ap (λ (a : WriteAnswer). ticked (g.M.Nand.clock d.media) a) c.in-Failed.is;
      clean_fault = λ clean. omega (arith, spent_room, c.if-self-eq0.false);
      clean_kept = λ clean. refl;
    }

-- ---- the page is placed

pub returns-in-Done-clause-formed : goal.returns-in-Done-clause-formed
returns-in-Done-clause-formed g c =
    let d = c.args.self.now in
    let s = seen g.M.Nand.contents d in
    let e = c.program.ensures in
    let image = g.M.Nand.contents c.program.new.self.media in
    let at = c.new_pointer-at.result in
    let n = c.new_pointer-at.ensures in
    let k : IsProgrammed g.M.Nand.tells c.next_block-block.result c.args.tag d.next c.args.from.now.main s image = record { others = e.others; holds = λ t. e.programmed t c.in-Done.is; shows = e.shows } in
    let table : c.give.new.self ≡ given at.name (next_entry c.next_block-block.result c.args.tag d.next s) s.table = c.give.ensures ∙ (λ i. given at.name (record { page = c.next_page-page.ensures i; tag = c.args.tag; stamp = n.stamp i }) (e.spends i).table) in
    let path : record (seen g.M.Nand.contents c.program.new.self) { table = c.give.new.self; count = c.program.new.self.count + 1 } ≡ placed c.next_block-block.result at.name c.args.tag image s = λ i. record (e.spends i) { table = table i; count = (e.spends i).count + 1 } in
    subst (λ (x : Geometry). IsMapped g.M.Nand.tells x (record (seen g.M.Nand.contents c.program.new.self) { table = c.give.new.self; count = c.program.new.self.count + 1 })) (sym e.counted.same_geometry)
    (subst (λ (x : Mapped). IsMapped g.M.Nand.tells (g.M.Nand.geometry d.media) x) (sym path)
    (placed_mapped c.next_block-block.result at c.args.tag c.args.from.now.main s image c.requires.formed c.next_block-block.ensures c.requires.stamp n k))

pub returns-in-Done-clause-placed : goal.returns-in-Done-clause-placed
returns-in-Done-clause-placed g c =
    let d = c.args.self.now in
    let s = seen g.M.Nand.contents d in
    let e = c.program.ensures in
    let f = c.requires.formed in
    let tag = c.args.tag in
    let main = c.args.from.now.main in
    let image = g.M.Nand.contents c.program.new.self.media in
    let at = c.new_pointer-at.result in
    let n = c.new_pointer-at.ensures in
    let room : 0 < s.room = omega (arith, c.if-self-eq0.false) in
    let k : IsProgrammed g.M.Nand.tells c.next_block-block.result tag d.next main s image = record { others = e.others; holds = λ t. e.programmed t c.in-Done.is; shows = e.shows } in
    let table : c.give.new.self ≡ given at.name (next_entry c.next_block-block.result c.args.tag d.next s) s.table = c.give.ensures ∙ (λ i. given at.name (record { page = c.next_page-page.ensures i; tag = tag; stamp = n.stamp i }) (e.spends i).table) in
    let t : Mapped = record (seen g.M.Nand.contents c.program.new.self) { table = c.give.new.self; count = c.program.new.self.count + 1 } in
    let path : t ≡ placed c.next_block-block.result at.name tag image s = λ i. record (e.spends i) { table = table i; count = (e.spends i).count + 1 } in
    let left = ap (λ (x : Mapped). x.room) path in
    let live = ap (λ (x : Mapped). live_among x.shape x.table) path in
    let more = count_now c.next_block-block.result at tag main s image f c.next_block-block.ensures c.requires.stamp n k in
    record {
      stamp = n.stamp;
      is_new = is_new c.next_block-block.result at tag main s image f c.next_block-block.ensures c.requires.stamp n k;
      names = record {
        live = λ q. ap (λ (x : Mapped). page_live x.table q) path ∙ live_now c.next_block-block.result at tag main s image f c.next_block-block.ensures c.requires.stamp n k q;
        pairs = refl;
        pending = refl;
        handled = λ x has. refl;
        posted = refl;
      };
      space = wrote 0 s t (ap (λ (x : Mapped). x.shape) path) (omega (arith, left, room)) (omega (arith, live, more));
      bytes = λ told. ap (λ (x : Mapped). bytes_at x at.name) path ∙ bytes_here c.next_block-block.result at tag main s image f c.next_block-block.ensures c.requires.stamp n k told;
      block = λ told none q off. inl (ap (λ (x : Mapped). named_at x q) path ∙ named_other c.next_block-block.result at tag main s image f c.next_block-block.ensures c.requires.stamp n k told q off);
    }

pub returns-in-Done-clause-left : goal.returns-in-Done-clause-left
returns-in-Done-clause-left g c told =
    let d = c.args.self.now in
    let s = seen g.M.Nand.contents d in
    let e = c.program.ensures in
    let f = c.requires.formed in
    let tag = c.args.tag in
    let main = c.args.from.now.main in
    let image = g.M.Nand.contents c.program.new.self.media in
    let at = c.new_pointer-at.result in
    let n = c.new_pointer-at.ensures in
    let room : 0 < s.room = omega (arith, c.if-self-eq0.false) in
    let k : IsProgrammed g.M.Nand.tells c.next_block-block.result tag d.next main s image = record { others = e.others; holds = λ t. e.programmed t c.in-Done.is; shows = e.shows } in
    let table : c.give.new.self ≡ given at.name (next_entry c.next_block-block.result c.args.tag d.next s) s.table = c.give.ensures ∙ (λ i. given at.name (record { page = c.next_page-page.ensures i; tag = tag; stamp = n.stamp i }) (e.spends i).table) in
    let t : Mapped = record (seen g.M.Nand.contents c.program.new.self) { table = c.give.new.self; count = c.program.new.self.count + 1 } in
    let path : t ≡ placed c.next_block-block.result at.name tag image s = λ i. record (e.spends i) { table = table i; count = (e.spends i).count + 1 } in
    let later = e.later in
    record {
      stops = record {
        later = later;
        each = λ m x left. let now = left.0 in inr (omega (arith, later, now), omega (arith, now), inr (left_with c.next_block-block.result at tag main s image f c.next_block-block.ensures c.requires.stamp n k told x (left.1 ∙ ap stored_in path)));
      };
      now = inr (left_with c.next_block-block.result at tag main s image f c.next_block-block.ensures c.requires.stamp n k told (stored_in t) (ap stored_in path));
    }

pub returns-in-Done-clause-kept : goal.returns-in-Done-clause-kept
returns-in-Done-clause-kept g c =
    let d = c.args.self.now in
    let s = seen g.M.Nand.contents d in
    let e = c.program.ensures in
    let f = c.requires.formed in
    let tag = c.args.tag in
    let main = c.args.from.now.main in
    let image = g.M.Nand.contents c.program.new.self.media in
    let at = c.new_pointer-at.result in
    let n = c.new_pointer-at.ensures in
    let room : 0 < s.room = omega (arith, c.if-self-eq0.false) in
    let k : IsProgrammed g.M.Nand.tells c.next_block-block.result tag d.next main s image = record { others = e.others; holds = λ t. e.programmed t c.in-Done.is; shows = e.shows } in
    let table : c.give.new.self ≡ given at.name (next_entry c.next_block-block.result c.args.tag d.next s) s.table = c.give.ensures ∙ (λ i. given at.name (record { page = c.next_page-page.ensures i; tag = tag; stamp = n.stamp i }) (e.spends i).table) in
    let t : Mapped = record (seen g.M.Nand.contents c.program.new.self) { table = c.give.new.self; count = c.program.new.self.count + 1 } in
    let path : t ≡ placed c.next_block-block.result at.name tag image s = λ i. record (e.spends i) { table = table i; count = (e.spends i).count + 1 } in
    record {
      virtual = record {
        same_shape = ap (λ (x : Mapped). x.shape) path;
        same_stamps = λ v. ap (λ (x : Mapped). stamp_for x.vseg.places v) path;
        same_map = λ told v. ap (λ (x : Mapped). map_of x.vseg.places x.image v) path ∙ map_now c.next_block-block.result at tag main s image f c.next_block-block.ensures c.requires.stamp n k told v;
        no_failed = λ told v x no. no;
        spare = λ q. subst (λ (x : Mapped). SegmentHasUnmapped x.vseg) (sym path) q;
      };
      bytes = λ told q page live. ap (λ (x : Mapped). bytes_at x q) path ∙ bytes_kept c.next_block-block.result at tag main s image f c.next_block-block.ensures c.requires.stamp n k told q page live;
      clean = λ q. q;
      read_faults = e.counted.same_read_faults;
    }

pub returns-in-Done-clause-next_stamp : goal.returns-in-Done-clause-next_stamp
returns-in-Done-clause-next_stamp g c =
    let d = c.args.self.now in
    let e = c.program.ensures in
    let tick = e.counted.ticks ∙ ap (λ (a : WriteAnswer). ticked (g.M.Nand.clock d.media) a) c.in-Done.is in
    done_stamp _ _ _ _ _ _ _ _ _ tt (ap (λ (x : Mapped). x.next) e.spends) tick e.refused (e.counted.failures.stays (not_both c.in-Done.is))

pub returns-in-Done-clause-counts : goal.returns-in-Done-clause-counts
returns-in-Done-clause-counts g c =
    let d = c.args.self.now in
    let e = c.program.ensures in
    let tick = e.counted.ticks ∙ ap (λ (a : WriteAnswer). ticked (g.M.Nand.clock d.media) a) c.in-Done.is in
    record {
      faults = done_faults _ _ _ _ _ _ e.refused (e.counted.failures.stays (not_both c.in-Done.is)) (λ is. cc);
      ticks = record { clock = e.later; later = λ done. earlier (g.M.Nand.clock d.media) tick };
      clean_ticks = λ clean done. tick;
      clean_stays = λ clean no. absurd (no tt);
      clean_fault = λ clean. tt;
      clean_kept = λ clean. refl;
    }
