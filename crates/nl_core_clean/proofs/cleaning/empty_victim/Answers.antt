use Rattle.std.proofs.Common.{◌≡◌, ◌∙◌, sym, arith}
use Rattle.nl_iface.specs.declared.moving.Copying.TheVariants.{Did, Nothing, Fault}
use Rattle.nl_iface.specs.Calls.{StoresPages}
use Rattle.nl_core_clean.proofs.Chosen.{begin_choosing, choosing_on, chosen_then, some_in_hand}
use Rattle.nl_core_clean.proofs.Counting.{counted_then}
use Rattle.nl_core_clean.proofs.Legal.{some_pages}
use Rattle.nl_core_clean.proofs.Emptying.{begin, copied_in_hand, copied_less, ended, ended_empty, ended_held, ended_lands, ended_reads, ended_stored, ended_tables, one_more}
use Rattle.nl_core_clean.proofs.cleaning.empty_victim.Goals as goal

pub loop-answer-init : goal.loop-answer-init
loop-answer-init g c = (begin g.D.Counts c.args.device.now c.requires.formed c.requires.lands, begin_choosing g.D.MovingPages c.args.device.now)

pub copy-requires-clause-formed : goal.copy-requires-clause-formed
copy-requires-clause-formed g c = c.loop-answer.invariant.0.formed

pub copy-requires-clause-lands : goal.copy-requires-clause-lands
copy-requires-clause-lands g c = c.loop-answer.invariant.0.lands

pub loop-answer-smaller : goal.loop-answer-smaller
loop-answer-smaller g c = copied_less g.D.Counts c.loop-answer.device c.copy.new.self (c.copy.ensures.did c.in-Did.is)

pub loop-answer-preserved : goal.loop-answer-preserved
loop-answer-preserved g c =
    let s = c.loop-answer.device in
    let e = c.copy.ensures in
    let f = c.loop-answer.invariant.0.formed in (
      one_more g.D.Counts c.args.device.now s c.copy.new.self _ _ _ c.loop-answer.invariant.0 (e.did c.in-Did.is)
          (λ t. g.met.D.NamedPages.stores_pages s t f)
          e.left e.kept e.formed (g.met.D.MovingPages.none_bad c.copy.new.self ∙ sym (g.met.D.MovingPages.none_bad s)) (let some = some_pages (g.met.D.VirtualPages.numbers s f) in let block = (g.met.D.NamedPages.tables s f).block in omega (arith, some, block)) e.faults (λ fault. fails (sym c.in-Did.is ∙ fault)) (λ nothing. rests (sym c.in-Did.is ∙ e.nothing.1 nothing)),
      choosing_on g.D.MovingPages c.args.device.now s c.copy.new.self c.loop-answer.invariant.1 e.chosen
          (some_in_hand g.D.MovingPages (g.D.MovingPages.victim c.copy.new.self) _ (g.met.D.MovingPages.in_hand c.copy.new.self) (copied_in_hand g.D.Counts s c.copy.new.self (e.did c.in-Did.is))),
    )
  where
    fails : Did ≡ Fault → ⊥
    fails e = cc

    rests : Did ≡ Nothing → ⊥
    rests e = cc

pub returns-in_default : goal.returns-in_default
returns-in_default g c =
    let G = g.D.Counts in
    let start = c.args.device.now in
    let s = c.loop-answer.device in
    let t = c.copy.new.self in
    let answer = c.copy.result in
    let e = c.copy.ensures in
    let i = c.loop-answer.invariant.0 in
    let un = c.in_default.not-Did in
    let tables = ended_tables G s t (ended G answer s t un e.none e.failed) in
    let stores : g.D.Counts.tells → StoresPages G s = λ tells. g.met.D.NamedPages.stores_pages s tells i.formed in
    record {
      formed = e.formed;
      emptied = ended_empty G answer start s t un i (λ nothing. e.nothing.0 nothing) e.none e.failed (g.met.D.MovingPages.none_bad t ∙ sym (g.met.D.MovingPages.none_bad start));
      none = ended_reads G answer start s t i (λ nothing. e.nothing.1 nothing) e.none;
      chosen = chosen_then g.D.MovingPages start s t c.loop-answer.invariant.1 e.chosen;
      held = ended_held G start s t _ _ i tables stores e.left e.kept;
      stored = λ tells. ended_stored G start s t _ _ i tells (stores tells) (e.left tells);
      lands = ended_lands G start s t i e.lands;
      lost = λ w found is. let x = e.lost w found is in let y = i.held.pages.was_live x.1.0 x.1.1 x.1.2 in (x.0, (y.0, x.1.1, y.1, x.1.3));
      told = e.told;
      faults = counted_then G ⊥ _ start s t (λ f. f) i.held.clean i.counted e.faults;
    }
