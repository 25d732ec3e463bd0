use Rattle.std.proofs.Common.{◌≡◌, ◌==◌, ◌∙◌, not, List, ap, arith, eq-eqb, length, refl, subst, sym}
use Rattle.std.proofs.lemmas.Bool.{OnTrue_at, cond-true}
use Rattle.std.proofs.lemmas.List.Edits.{length-remove}
use Rattle.nl_callbacks.proofs.Filters.{filter_remove}
use Rattle.nl_callbacks.specs.Pending.{PendingTable, beside_stamp, entry_at}
use Rattle.nl_callbacks.specs.declared.entry.Entry.{Entry}
use Rattle.nl_iface.specs.Names.{Has}
use Rattle.nl_iface.specs.declared.Callback.{Callback}
use Rattle.nl_device.specs.Callbacks.{CallbackNamesDiffer, callbacks_of}
use Rattle.nl_device.specs.State.{has_at}
use Rattle.nl_device.proofs.Lists.{remove_has}
use Rattle.nl_device.proofs.callbacks.cancel_gone.Goals as goal

pub each-init : goal.each-init
each-init c = record { numbers = c.requires.numbers; names = c.requires.names; posted = refl; beside = refl; room = refl }

pub each-preserved : goal.each-preserved
each-preserved c =
    let k = c.each.invariant in
    let t = c.each.pending in
    let here = c.in-Some.ensures.some in
    let named = ap (λ (x : Callback). x.before) here.2 in
    let e = OnTrue_at (c.cancel.ensures.found.1 (here.0, here.1, named)) c.cancel.ensures.cancelled in
    let first = subst (Has (callbacks_of t.callbacks)) here.2 (has_at t.callbacks here.0 here.1) in
    let same : (entry_at t.callbacks e.at).callback ≡ c.in-Some.callback = k.names (entry_at t.callbacks e.at).callback c.in-Some.callback (has_at t.callbacks e.at e.within) first e.named in
    let gone = ap (λ (x : PendingTable). x.callbacks) e.gone in
    let less = length-remove t.callbacks e.at e.within in
    record {
      numbers = c.cancel.ensures.table;
      names = subst CallbackNamesDiffer (sym gone) (λ x y has other. k.names x y (remove_has t.callbacks e.at x e.within has) (remove_has t.callbacks e.at y e.within other));
      posted = ap (λ (x : PendingTable). x.posted) e.gone ∙ k.posted;
      beside = ap (λ (l : List Entry). beside_stamp l c.args.stamp) gone
          ∙ (filter_remove (λ x. not (x.callback.stamp == c.args.stamp)) t.callbacks e.at e.within (ap (λ (x : Callback). not (x.stamp == c.args.stamp)) same ∙ ap not (eq-eqb c.in-Some.callback.stamp c.args.stamp c.in-Some.ensures.stamp)) ∙ k.beside);
      room = (let size = ap (λ (l : List Entry). length l) gone in let rest = ap (λ (x : PendingTable). x.room) e.gone in let was = k.room in omega (arith, size, rest, was, less));
    }

pub returns-in_default-clause-callbacks : goal.returns-in_default-clause-callbacks
returns-in_default-clause-callbacks c = sym c.in_default.ensures.none ∙ (c.each.invariant.beside ∙ sym (cond-true c.args.gone (beside_stamp c.args.pending.now.callbacks c.args.stamp) c.args.pending.now.callbacks c.if-gone.true))
