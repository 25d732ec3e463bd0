use Rattle.std.proofs.Common.{inr, ℕ, sym, ap, subst, arith}
use Rattle.nl_iface.specs.Left.{LeavesPages}
use Rattle.nl_iface.specs.Moves.{LeavesErased}
use Rattle.nl_iface.specs.Stored.{Stored}
use Rattle.nl_pagemap.specs.Mapped.{bytes_at, names_of, seen, stored_in}
use Rattle.nl_pagemap.proofs.Kept.{bytes_kept, changes_room, leaves_erased, leaves_pages_kept, same_tables}
use Rattle.nl_vseg.specs.Places.{stamp_for}
use Rattle.nl_vseg.specs.Segment.{Segment, SegmentHasUnmapped}
use Rattle.nl_pagemap.proofs.pagemap.Pagemap.clean.Goals as goal

pub returns-clause-gains : goal.returns-clause-gains
returns-clause-gains g c done =
    let e = c.clean_next.ensures in
    let f = c.requires in
    let h = e.formed in
    let w = e.gained done in
    let before = f.room in
    let after = h.room in
    let same = ap {B = ℕ} (λ x. x.pages) e.kept.shape in
    let gained = w.2 in
    record {
      block = w.0;
      chosen = w.1;
      untried = w.2;
      room = λ whole. omega (arith, before, after, same, gained, whole, w.1.can.dead);
    }

pub returns-clause-spent : goal.returns-clause-spent
returns-clause-spent g c fault =
    let e = c.clean_next.ensures in
    let before = c.requires.room in
    let after = e.formed.room in
    let same = ap {B = ℕ} (λ x. x.pages) e.kept.shape in
    let less = e.spent fault in
    omega (arith, before, after, same, less)

pub returns-clause-tables : goal.returns-clause-tables
returns-clause-tables g c = same_tables c.requires c.clean_next.ensures.formed c.clean_next.ensures.kept

pub returns-clause-space : goal.returns-clause-space
returns-clause-space g c = changes_room c.requires c.clean_next.ensures.formed c.clean_next.ensures.kept

pub returns-clause-now : goal.returns-clause-now
returns-clause-now g c told = leaves_erased c.requires c.clean_next.ensures.formed c.clean_next.ensures.kept told

pub returns-clause-left : goal.returns-clause-left
returns-clause-left g c told =
    let s = seen g.M.Nand.contents c.args.self.now in
    let e = c.clean_next.ensures in
    let later = e.clock in
    record {
      later = later;
      each = λ m x left.
          let now = left.0 in
          inr (
            omega (arith, later, now),
            omega (arith, now),
            subst (λ (y : Stored). LeavesErased (names_of s) (λ n. bytes_at s n) (stored_in s) y × LeavesPages s.shape (names_of s) (λ n. bytes_at s n) y) (sym left.1)
                (leaves_erased c.requires e.formed e.kept told, leaves_pages_kept c.requires e.formed e.kept told),
          );
    }

pub returns-clause-kept : goal.returns-clause-kept
returns-clause-kept g c =
    let e = c.clean_next.ensures in
    let k = e.kept in
    record {
      virtual = record {
        same_shape = k.shape;
        same_stamps = λ v. ap (λ (seg : Segment). stamp_for seg.places v) k.vseg;
        same_map = k.map;
        no_failed = λ told v x no. no;
        spare = λ has. subst (λ (seg : Segment). SegmentHasUnmapped seg) (sym k.vseg) has;
      };
      bytes = bytes_kept c.requires e.formed k;
      clean = λ q. q;
      next_stamp = k.next;
      clock = e.clock;
    }
