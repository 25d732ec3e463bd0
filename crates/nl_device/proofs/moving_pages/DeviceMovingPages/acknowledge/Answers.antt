use Rattle.std.proofs.Common.{◌≡◌, inl, ◌*◌, List, Option, ap, arith, length, refl}
use Rattle.nl_device.specs.Device.{HasSpareBlock}
use Rattle.nl_device.specs.Shown.{bytes_at}
use Rattle.nl_pseg.specs.declared.held.Held.{Held}
use Rattle.nl_device.proofs.Calls.{device_with, medium_with, named_segments}
use Rattle.nl_device.proofs.Dropping.{acknowledged}
use Rattle.nl_device.proofs.Leaving.{hand_kept, names_in}
use Rattle.nl_device.proofs.Living.{live_kept, same_before}
use Rattle.nl_device.proofs.Made.{live_held}
use Rattle.nl_device.proofs.Naming.{names_after}
use Rattle.nl_device.proofs.moving_pages.DeviceMovingPages.acknowledge.Goals as goal

pub drop_over-requires : goal.drop_over-requires
drop_over-requires g c = record { whole = c.requires.formed.spare.whole; called = c.requires.formed.called }

pub returns-clause-formed : goal.returns-clause-formed
returns-clause-formed g c =
    let d = c.args.self.now in
    let f = c.requires.formed in
    let e = c.drop_over.ensures.dropped in
    let new = c.drop_over.new.pseg in
    let spare : HasSpareBlock new = record { whole = e.whole; block = e.block f.spare.block; in_hand = hand_kept d.pseg new e.same.same_first e.same.same_blocks e.victim f.spare } in
    let live = live_kept d.pseg new f.live e.same e.whole.pages.erased_within e.held in
    let count : length new.held ≡ length d.pseg.held = ap (λ (l : List (Option Held)). length l) e.held in
    device_with f f.found f.found_stored refl e.same count live spare e.called (omega arith)
    (λ p h has. f.stamp.live p h (same_before d.pseg new e.held p h has))
    (λ t.
    let image = g.M.Nand.contents d.media in
    let fit = g.met.M.Nand.contents_fit d.media t in
    let physical = e.segment image (f.medium t).physical_is in
    medium_with f t refl e.same count fit live (λ p lt. refl) physical (omega arith) spare (e.spare image (f.medium t).spare)
    (names_after (g.M.Nand.geometry d.media) d.shape d.vseg d.pseg image image f.segments fit fit f.live (f.medium t).physical_is new f.spare.whole (λ p. inl refl)
    e.fewer (λ p. ⊥) (λ p off. absurd off) (λ p x has. inl (same_before d.pseg new e.held p x has))
    (λ p. bytes_at (d.shape.vblocks * d.shape.pages) image p) (live_held (named_segments f.segments refl e.same count) fit live physical) (names_in (f.medium t).pages))
    (f.medium t).named_below)

pub returns-clause-acknowledged : goal.returns-clause-acknowledged
returns-clause-acknowledged g c =
    let d = c.args.self.now in
    let f = c.requires.formed in
    let e = c.drop_over.ensures in
    acknowledged c.args.upto d.pseg c.drop_over.new.pseg d.pending c.drop_over.new.pending f.spare.whole f.called e.dropped e.callbacks e.posted

pub returns-clause-kept : goal.returns-clause-kept
returns-clause-kept g c = record {
  virtual = record { same_shape = refl; same_stamps = λ v. refl; same_map = λ t v. refl; no_failed = λ t v x stray. stray; spare = λ s. s };
  contents = λ t. refl;
  left = λ t m i l. l;
  bytes = λ t p. refl;
  found = refl;
  next_stamp = refl;
  clean = c.drop_over.ensures.dropped.clean;
  clock = refl;
  write_faults = refl;
}
