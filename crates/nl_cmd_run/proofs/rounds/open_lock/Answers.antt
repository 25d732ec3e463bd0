use Rattle.std.proofs.Common.{◌∙◌, [], ap, sym, subst, arith}
use Rattle.nl_device.specs.Medium.{medium_of}
use Rattle.nl_device.specs.contracts.counts.DeviceCounts.TheImpl.{ghosts}
use Rattle.nl_tree.specs.Tree.{Tree}
use Rattle.nl_turns.specs.Seat.{SeatState}
use Rattle.nl_volume.specs.Opening.{opening_of}
use Rattle.nl_volume.specs.Standing.{VolumeRepresents}
use Rattle.nl_volume.specs.declared.volume.Volume.{Volume}
use Rattle.nl_volume.proofs.Trees.{sound_as_it, tree_of}
use Rattle.nl_cmd_run.proofs.rounds.open_lock.Goals as goal

-- the boxed volume is the one that was given
pub new-requires-2-clause-stands : goal.new-requires-2-clause-stands
new-requires-2-clause-stands g c =
    let G = ghosts g.row.M g.M.Nand g.M.Nand-dict in
    let image = g.M.Nand.contents (medium_of c.args.volume.core.device) in
    subst (λ (v : Volume _). VolumeRepresents G v (opening_of G v.core (tree_of (g.M.Nand.contents (medium_of v.core.device))) c.args.lines.now) [] v) (sym c.in-Ok.ensures.ok)
    (c.requires.stands (tree_of image) (λ t. sound_as_it image c.args.volume.core.count c.requires.opened.tree (c.requires.opened.opens t).sound))

pub returns-in-Ok-new-clause-opening : goal.returns-in-Ok-new-clause-opening
returns-in-Ok-new-clause-opening g c =
    let G = ghosts g.row.M g.M.Nand g.M.Nand-dict in
    let image = g.M.Nand.contents (medium_of c.args.volume.core.device) in (
      tree_of image,
      λ t. sound_as_it image c.args.volume.core.count c.requires.opened.tree (c.requires.opened.opens t).sound,
      ap (λ (z : SeatState). z.opening) c.in-Ok-new.ensures.seat
          ∙ ap (λ (v : Volume _). opening_of G v.core (tree_of (g.M.Nand.contents (medium_of v.core.device))) c.args.lines.now) c.in-Ok.ensures.ok,
    )

pub returns-in-Ok-new-clause-first : goal.returns-in-Ok-new-clause-first
returns-in-Ok-new-clause-first g c =
    let s = c.in-Ok-new.ensures.seat in
    record {
      at_rest = ap (λ (z : SeatState). z.has_turn) s;
      number = ap (λ (z : SeatState). z.number) s;
      none_seen = ap (λ (z : SeatState). z.seen) s;
      none_given = ap (λ (z : SeatState). z.next) s;
      places = (let p = ap (λ (z : SeatState). z.places) s in omega arith);
      lines_are = ap (λ (z : SeatState). z.opening.lines) s;
    }

pub returns-in-Ok-new-clause-lock : goal.returns-in-Ok-new-clause-lock
returns-in-Ok-new-clause-lock g c =
    let s = c.in-Ok-new.ensures.seat in
    let l = c.in-Ok-new.ensures.lock in
    let p = ap (λ (z : SeatState). z.places) s in
    let q = l.0 in
    (ap (λ (z : SeatState). z.lock) s, omega arith, ap (λ b. b.value) l.1 ∙ c.in-Ok.ensures.ok)
