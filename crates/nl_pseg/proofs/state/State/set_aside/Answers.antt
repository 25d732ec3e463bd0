use Rattle.std.proofs.Common.{rules, inr, ◌/◌, refl, sym, ◌∙◌, subst}
use Rattle.nl_blocks.specs.Table.{HasBlock, block_at}
use Rattle.nl_pseg.proofs.Closed.{closed_by, closing}
use Rattle.nl_pseg.proofs.Forms.{formed_table}
use Rattle.nl_pseg_blocks.proofs.Tables.{IsShut, shut_aside}
use Rattle.nl_pseg.proofs.state.State.set_aside.Goals as goal

pub returns-clause-formed : goal.returns-clause-formed
returns-clause-formed c =
    let t = c.set_aside.new.blocks in
    let m = closed_by c.args.self.now t in
    let p = c.set_aside.ensures in
    let e = closing c.args.self.now c.requires.formed c.requires.tied t p.numbers c.args.block p.fill (subst IsShut (sym p.here) (shut_aside (block_at c.args.self.now.blocks c.args.block).state)) in
    let is = e.formed in
    formed_table m is t p.numbers
    (λ room. p.states m.active is.active_in (λ same. e.idle room (sym same)) ∙ is.taken room)
    (λ q h named. p.kept (q / m.blocks.size) ∙ (is.places.each q h named).in_use)
    p.marks

pub returns-clause-aside : goal.returns-clause-aside
returns-clause-aside c =
    let t = c.set_aside.new.blocks in
    let p = c.set_aside.ensures in
    let e = closing c.args.self.now c.requires.formed c.requires.tied t p.numbers c.args.block p.fill (subst IsShut (sym p.here) (shut_aside (block_at c.args.self.now.blocks c.args.block).state)) in
    let has : HasBlock c.args.self.now.blocks c.args.block = search rules in
    inr (has, record { same = refl; idle = record { active = refl; target = refl; used = e.shut.used; filled = e.shut.filled }; put = p })
