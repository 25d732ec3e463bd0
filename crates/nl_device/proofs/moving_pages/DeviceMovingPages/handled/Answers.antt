use Rattle.std.proofs.Common.{◌≡◌, ◌∙◌, ◌+◌, ⊎_elim, true, false, length, refl, sym, ap, subst}
use Rattle.std.proofs.lemmas.Bool.{OnFalse_at, OnTrue_at, cases_Bool, true≢false}
use Rattle.std.proofs.lemmas.List.{length-set}
use Rattle.nl_callbacks.specs.Pending.{PendingTable, entry_at, with_transaction, place_of}
use Rattle.nl_iface.specs.declared.Callback.{Callback}
use Rattle.nl_device.specs.Callbacks.{callbacks_of, names_with}
use Rattle.nl_device.specs.Device.{IsDevice}
use Rattle.nl_device.specs.State.{at_has}
use Rattle.nl_device.proofs.Calling.{called_same}
use Rattle.nl_device.proofs.Calls.{device_called}
use Rattle.nl_device.proofs.Handling.{marked_list, marks}
use Rattle.nl_device.proofs.moving_pages.DeviceMovingPages.handled.Goals as goal

pub returns-clause-formed : goal.returns-clause-formed
returns-clause-formed g c =
    let d = c.args.self.now in
    let f = c.requires.formed in
    let e = c.handled.ensures in
    let u = c.handled.new.self in
    ⊎_elim
    (λ (is : c.handled.result ≡ true).
    let at = place_of d.pending.callbacks c.args.number in
    let m = OnTrue_at is e.handled in
    device_called f (called_same d.pseg d.pseg d.pending u f.called (ap (λ (x : PendingTable). callbacks_of x.callbacks) m ∙ marked_list d.pending.callbacks at c.args.transaction) e.table
    (ap (λ (x : PendingTable). length x.callbacks + x.room) m ∙ ap (λ n. n + d.pending.room) (length-set d.pending.callbacks at (with_transaction (entry_at d.pending.callbacks at) c.args.transaction))) refl refl (λ p h x. x)))
    (λ (is : c.handled.result ≡ false). subst (λ p. IsDevice (g.M.Nand.geometry d.media) g.M.Nand.tells (g.M.Nand.contents d.media) d.shape d.vseg d.pseg p d.kept d.next) (sym (OnFalse_at is e.kept)) f)
    (cases_Bool c.handled.result)

pub returns-clause-marked : goal.returns-clause-marked
returns-clause-marked g c is =
    let d = c.args.self.now in
    let e = c.handled.ensures in
    marks d.pseg d.pending c.handled.new.self c.args.number c.args.transaction c.requires.formed.called.numbers e.table (e.found.0 is) (OnTrue_at is e.handled)

pub returns-clause-none : goal.returns-clause-none
returns-clause-none g c un x has same =
    let r = at_has c.args.self.now.pending.callbacks x has in
    true≢false (sym (c.handled.ensures.found.1 (r.0, r.1, ap (λ (y : Callback). y.number) r.2 ∙ same)) ∙ un)

pub returns-clause-same : goal.returns-clause-same
returns-clause-same g c is = ap (names_with c.args.self.now.pseg) (OnFalse_at is c.handled.ensures.kept)

pub returns-clause-kept : goal.returns-clause-kept
returns-clause-kept g c = record {
  virtual = record { same_shape = refl; same_stamps = λ v. refl; same_map = λ t v. refl; no_failed = λ t v x stray. stray; spare = λ s. s };
  contents = λ t. refl;
  left = λ t m i l. l;
  bytes = λ t p. refl;
  found = refl;
  next_stamp = refl;
  clean = λ clean. clean;
  clock = refl;
  write_faults = refl;
}
