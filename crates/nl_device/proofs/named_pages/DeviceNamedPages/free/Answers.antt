use Rattle.std.proofs.Common.{◌≡◌, inl, ◌+◌, ◌*◌, ◌≤◌, ⊎_elim, ℕ, true, false, refl, sym, ap, ◌∙◌, subst, arith, length, get_or, set, List, Option, None}
use Rattle.std.proofs.lemmas.Bool.{OnFalse_at, OnTrue_at, cases_Bool}
use Rattle.std.proofs.lemmas.List.{length-set}
use Rattle.nl_field.specs.Live.{resolve}
use Rattle.nl_pseg.specs.Segment.{held_at}
use Rattle.nl_pseg.specs.declared.held.Held.{Held}
use Rattle.nl_device.specs.Callbacks.{AreCalled, callbacks_of, names_with}
use Rattle.nl_device.specs.Device.{HasSpareBlock, IsDevice}
use Rattle.nl_device.specs.Shown.{bytes_at, live_page}
use Rattle.nl_device.specs.Space.{live_in}
use Rattle.nl_device.proofs.Calling.{beside_length, called_less, called_same, gone_led, handled_less, none_cancelled, pair_before, pending_less}
use Rattle.nl_device.proofs.Calls.{device_called, device_with, held_from, in_within, medium_with, named_segments}
use Rattle.nl_device.proofs.Leaving.{hand_kept, names_in}
use Rattle.nl_device.proofs.Living.{clear_held, clear_live, less_before, less_keeps, live_less}
use Rattle.nl_device.proofs.Made.{live_held}
use Rattle.nl_device.proofs.Naming.{names_after}
use Rattle.nl_device.proofs.Spacing.{freed, one_less}
use Rattle.nl_device.proofs.named_pages.DeviceNamedPages.free.Goals as goal

pub cancel_gone-requires-clause-names : goal.cancel_gone-requires-clause-names
cancel_gone-requires-clause-names g c = c.requires.formed.called.once

pub returns-clause-freed : goal.returns-clause-freed
returns-clause-freed g c is =
    let d = c.args.self.now in
    let f = c.requires.formed in
    let e = c.free-freed.ensures in
    let k = c.cancel_gone.ensures in
    let new = c.free-freed.new.self in
    let place = resolve d.pseg.pairs c.args.at.name in
    let h = held_from (held_at d.pseg place) c.args.at.stamp (e.found.0 is) in
    let below = in_within f.segments place (f.live.in_segment place h.0 h.1) in
    let pairs = OnTrue_at is e.pairs in
    let led = gone_led d.pseg new place d.pending f.called f.spare.whole e.whole pairs f.live h.0 h.1 c.args.at.stamp h.2 c.free-freed.result is c.cancel_gone.new.pending.callbacks k.callbacks in
    record {
      names = record {
        live = λ q. ap (λ (l : List (Option Held)). live_page (get_or l q None)) (OnTrue_at is e.freed) ∙ clear_live d.pseg.held place below q;
        pairs = pairs;
        pending = pending_less d.pseg new place d.pending f.called f.spare.whole e.whole pairs c.cancel_gone.new.pending led;
        handled = handled_less d.pseg new place d.pending f.called f.spare.whole e.whole pairs c.cancel_gone.new.pending led;
        posted = k.posted;
      };
      space = freed d.pseg new e.pages e.space e.back (ap (λ (l : List (Option Held)). live_in l + 1) (OnTrue_at is e.freed) ∙ one_less d.pseg.held place h.0 below h.1)
          (subst (λ (l : List (ℕ × ℕ)). length l ≤ length d.pseg.pairs) (sym pairs) (beside_length d.pseg.pairs place));
    }

pub returns-clause-refused : goal.returns-clause-refused
returns-clause-refused g c is =
    let d = c.args.self.now in
    let f = c.requires.formed in
    let k = c.cancel_gone.ensures in
    let same = OnFalse_at is c.free-freed.ensures.kept in
    let callbacks = none_cancelled c.args.at.stamp d.pending c.free-freed.result is c.cancel_gone.new.pending.callbacks k.callbacks in
    λ i. names_with (same i) (record { callbacks = callbacks i; posted = k.posted i; room = 0 })

pub returns-clause-kept : goal.returns-clause-kept
returns-clause-kept g c = record {
  virtual = record { same_shape = refl; same_stamps = λ v. refl; same_map = λ t v. refl; no_failed = λ t v x stray. stray; spare = λ s. s };
  contents = λ t. refl;
  left = λ t m i l. l;
  bytes = λ t p. refl;
  found = refl;
  next_stamp = refl;
  clean = c.free-freed.ensures.clean;
  clock = refl;
  write_faults = refl;
}

pub returns-clause-formed : goal.returns-clause-formed
returns-clause-formed g c =
    let d = c.args.self.now in
    let f = c.requires.formed in
    let e = c.free-freed.ensures in
    let k = c.cancel_gone.ensures in
    let new = c.free-freed.new.self in
    let pend = c.cancel_gone.new.pending in
    let place = resolve d.pseg.pairs c.args.at.name in
    ⊎_elim
    (λ (is : c.free-freed.result ≡ true).
    let h = held_from (held_at d.pseg place) c.args.at.stamp (e.found.0 is) in
    let below = in_within f.segments place (f.live.in_segment place h.0 h.1) in
    let held : new.held ≡ set d.pseg.held place None = OnTrue_at is e.freed in
    let live = live_less d.pseg new place f.live e.pages e.whole.pages.erased_within below held in
    let count : length new.held ≡ length d.pseg.held = ap (λ (l : List (Option Held)). length l) held ∙ length-set d.pseg.held place None in
    let pairs = OnTrue_at is e.pairs in
    let spare : HasSpareBlock new = record { whole = e.whole; block = e.kept_block f.spare.block; in_hand = hand_kept d.pseg new e.pages.same_first e.pages.same_blocks e.space.victim f.spare } in
    let called : AreCalled new pend = called_less d.pseg new place d.pending f.called f.spare.whole e.whole pairs pend (gone_led d.pseg new place d.pending f.called f.spare.whole e.whole pairs f.live h.0 h.1 c.args.at.stamp h.2 c.free-freed.result is pend.callbacks k.callbacks) k.numbers k.room e.pages.same_size (less_keeps d.pseg new place held) in
    device_with f f.found f.found_stored refl e.pages count live spare called (omega arith)
    (λ p x has. f.stamp.live p x (clear_held d.pseg.held place p x below (ap (λ (l : List (Option Held)). get_or l p None) (sym held) ∙ has)).1)
    (λ t.
    let image = g.M.Nand.contents d.media in
    let fit = g.met.M.Nand.contents_fit d.media t in
    let physical = e.segment image (f.medium t).physical_is in
    medium_with f t refl e.pages count fit live (λ p lt. refl) physical (omega arith) spare (e.spare image (f.medium t).spare)
    (names_after (g.M.Nand.geometry d.media) d.shape d.vseg d.pseg image image f.segments fit fit f.live (f.medium t).physical_is new f.spare.whole (λ p. inl refl)
    (pair_before d.pseg new place d.pending f.called f.spare.whole e.whole pairs) (λ p. ⊥) (λ p off. absurd off) (λ p x has. inl (less_before d.pseg new place below held p x has))
    (λ p. bytes_at (d.shape.vblocks * d.shape.pages) image p) (live_held (named_segments f.segments refl e.pages count) fit live physical) (names_in (f.medium t).pages))
    (f.medium t).named_below))
    (λ (is : c.free-freed.result ≡ false).
    let same = OnFalse_at is e.kept in
    let callbacks = none_cancelled c.args.at.stamp d.pending c.free-freed.result is pend.callbacks k.callbacks in
    subst (λ s. IsDevice (g.M.Nand.geometry d.media) g.M.Nand.tells (g.M.Nand.contents d.media) d.shape d.vseg s pend d.kept d.next) (sym same)
    (device_called f (called_same d.pseg d.pseg d.pending pend f.called (ap callbacks_of callbacks) k.numbers k.room refl refl (λ p h x. x))))
    (cases_Bool c.free-freed.result)
