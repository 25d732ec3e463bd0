use Rattle.nl_pseg.proofs.Closed.{same_counted}
use Rattle.nl_pseg.specs.Seen.{IsPhysicalFormed, IsTied, seen}
use Rattle.nl_pseg.specs.Space.{HasFewPairs}
use Rattle.nl_pseg.specs.Cleaning.{BeginsBlock}
use Rattle.std.proofs.Common.{sym, ◌∙◌, ap, Some, subst}
use Rattle.nl_blocks.specs.Table.{block_at}
use Rattle.nl_pseg.proofs.Begun.{begins, few_begun}
use Rattle.nl_pseg.proofs.Chosen.{chosen_tied}
use Rattle.nl_pseg.proofs.Forms.{formed_same}
use Rattle.nl_pseg.proofs.Looked.{tied_looked}
use Rattle.nl_pseg.specs.Kept.{kept, Kept}
use Rattle.nl_pseg.proofs.state.State.choose.Goals as goal

pub returns-clause-formed : goal.returns-clause-formed
returns-clause-formed c =
    let s = kept c.args.self.now in
    let is = c.requires.formed in
    let x = formed_same s c.choose.new.blocks is c.choose.ensures.same c.choose.ensures.marks
    (λ room. c.choose.ensures.others s.active is.active_in (λ e. cc (sym (is.taken room) ∙ (ap (λ b. (block_at s.blocks b).state) e ∙ c.requires.sealed))) ∙ is.taken room) in
    subst (λ (k : Kept). IsPhysicalFormed (record k { blocks = c.choose.new.blocks; victim = Some c.args.block; looked = 0 })) (same_counted c.args.self.now c.requires.formed c.requires.tied c.choose.new.blocks c.choose.ensures.fill)
    (record { some = x.some; numbers = x.numbers; pages = x.pages; marks = x.marks; active_in = x.active_in; used_fits = x.used_fits; taken = x.taken; places = record { each = λ p h held. let w = x.places.each p h held in record { within = w.within; in_use = w.in_use; behind = w.behind; spelled = w.spelled } }; marked = x.marked })

pub returns-clause-tied : goal.returns-clause-tied
returns-clause-tied c =
    subst (λ (k : Kept). IsTied (record k { blocks = c.choose.new.blocks; victim = Some c.args.block; looked = 0 })) (same_counted c.args.self.now c.requires.formed c.requires.tied c.choose.new.blocks c.choose.ensures.fill)
    (tied_looked _ 0 (chosen_tied (kept c.args.self.now) c.requires.tied c.requires.none c.choose.new.blocks c.choose.ensures.same c.args.block c.requires.has c.requires.sealed c.choose.ensures.here c.choose.ensures.others))

pub returns-clause-few : goal.returns-clause-few
returns-clause-few c =
    subst (λ (k : Kept). HasFewPairs (seen (record k { blocks = c.choose.new.blocks; victim = Some c.args.block; looked = 0 }))) (same_counted c.args.self.now c.requires.formed c.requires.tied c.choose.new.blocks c.choose.ensures.fill)
    (few_begun (kept c.args.self.now) c.count.ensures.table c.requires.none c.requires.few c.requires.some c.args.block c.requires.has c.requires.sealed c.choose.new.blocks c.choose.ensures.table c.choose.ensures.same)

pub returns-clause-begins : goal.returns-clause-begins
returns-clause-begins c =
    subst (λ (k : Kept). BeginsBlock c.args.block (seen (kept c.args.self.now)) (seen (record k { blocks = c.choose.new.blocks; victim = Some c.args.block; looked = 0 }))) (same_counted c.args.self.now c.requires.formed c.requires.tied c.choose.new.blocks c.choose.ensures.fill)
    (begins (kept c.args.self.now) c.count.ensures.table c.requires.none c.requires.few c.requires.some c.args.block c.requires.has c.requires.sealed c.choose.new.blocks c.choose.ensures.table c.choose.ensures.same)
