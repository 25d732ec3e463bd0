use Rattle.std.proofs.Common.{◌≡◌, ◌+◌, ◌∙◌, ◌++◌, ◌∷◌, [], List, sym, ap, subst, arith, take}
use Rattle.std.proofs.lemmas.List.{take_more}
use Rattle.std.proofs.lemmas.Option.{get_or_from_slice_get}
use Rattle.nl_field.specs.declared.pointer.Pointer.{Pointer}
use Rattle.nl_iface.proofs.Stops.{keeps_medium_then}
use Rattle.nl_journal_commit.specs.Freeing.{FreesEach, FreesOne}
use Rattle.nl_journal_commit.proofs.Frees.{frees_last, frees_one}
use Rattle.nl_journal_commit.proofs.freeing.free_each.Goals as goal

pub loop-i-preserved : goal.loop-i-preserved
loop-i-preserved g c =
    let G = g.D.Counts in
    let old = c.args.device.now in
    let mid = c.loop-i.device in
    let new = c.free.new.self in
    let items = c.args.freeing.now.items in
    let p = c.get.result.now in
    let within = c.requires.within in
    let below = c.loop-i-test.true in
    let one : FreesOne p (G.names mid) (G.names new) = frees_one G p mid new c.free.result c.free.ensures.answer c.free.ensures.freed c.free.ensures.refused in
    let last : take (c.loop-i.i + 1) items ≡ take c.loop-i.i items ++ p ∷ [] =
    take_more items c.loop-i.i p (omega (arith, below, within)) ∙ ap (λ (x : Pointer). take c.loop-i.i items ++ x ∷ []) (get_or_from_slice_get items c.loop-i.i p p c.get.ensures) in
    record {
      formed = c.free.ensures.formed;
      freed = subst (λ (xs : List Pointer). FreesEach xs (G.names old) (G.names new)) (sym last) (frees_last (take c.loop-i.i items) p (G.names old) (G.names mid) (G.names new) c.loop-i.invariant.freed one);
      kept = keeps_medium_then G old mid new c.loop-i.invariant.kept c.free.ensures.kept;
      read_faults = c.free.ensures.read_faults ∙ c.loop-i.invariant.read_faults;
    }
