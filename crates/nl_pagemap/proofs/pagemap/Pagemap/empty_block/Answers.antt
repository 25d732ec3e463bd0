use Rattle.std.proofs.Common.{◌≡◌, ⊎_elim, inl, false, sym, ◌∙◌, subst, arith}
use Rattle.std.proofs.lemmas.Bool.{cases_eq, false≢true}
use Rattle.nl_pagemap_names.specs.Table.{live_at}
use Rattle.nl_pagemap_names.specs.Untried.{is_in}
use Rattle.nl_pagemap.proofs.Kept.{keeps_then}
use Rattle.nl_pagemap.proofs.pagemap.Pagemap.empty_block.Goals as goal

pub returns-then-not-move_off-clause-kept : goal.returns-then-not-move_off-clause-kept
returns-then-not-move_off-clause-kept g c = keeps_then c.loop-number.invariant.kept c.move_off.ensures.kept

pub loop-number-preserved : goal.loop-number-preserved
loop-number-preserved g c =
    let i = c.loop-number.invariant in
    let e = c.move_off.ensures in
    let did = c.if-not-move_off.false in
    let b = c.args.block in
    let more = e.copied did in
    let all = i.copied in
    let less = e.spent in
    let fewer = i.spent in
    let later = e.clock in
    let late = i.clock in
    let same = e.counted.stays (inl tt) (λ is. false≢true (sym is ∙ did)) in
    record {
      formed = e.formed;
      kept = keeps_then i.kept e.kept;
      full = e.full;
      empty = λ n from below. ⊎_elim
          (λ here. subst (λ m. is_in c.move_off.new.self.shape.pages b (live_at c.move_off.new.self.table m) ≡ false) (sym here) (e.off did))
          (λ off. (λ j. is_in (e.kept.shape j).pages b (e.others n off j)) ∙ i.empty n from (omega (arith, below, off)))
          (cases_eq n c.loop-number.number);
      copied = omega (arith, more, all);
      spent = omega (arith, less, fewer);
      clock = omega (arith, later, late);
      reads = same.0 ∙ i.reads;
      writes = same.1 ∙ i.writes;
    }
