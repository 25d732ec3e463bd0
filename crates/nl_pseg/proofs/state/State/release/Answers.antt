use Rattle.nl_pseg.proofs.Closed.{same_counted}
use Rattle.std.proofs.Common.{None, sym, ◌∙◌, ap, subst, arith}
use Rattle.std.specs.Vec.{with_item}
use Rattle.nl_blocks.specs.Table.{Table, block_at, erased_row, with_block}
use Rattle.nl_pseg.specs.Cleaning.{ErasesBlock}
use Rattle.nl_pseg_names.specs.OldNames.{names_among}
use Rattle.nl_pseg.specs.Seen.{IsPhysicalFormed, IsTied, seen}
use Rattle.nl_pseg.proofs.Released.{released, released_formed, released_tied, released_fill}
use Rattle.nl_pseg.specs.Kept.{kept, Kept}
use Rattle.nl_pseg.proofs.state.State.release.Goals as goal

pub returns-clause-formed : goal.returns-clause-formed
returns-clause-formed c =
    let s = c.args.self.now in
    let counted = c.count-names.ensures ∙ ap (λ k. names_among k c.args.victim s.names.pairs) c.requires.tied.named.size in
    let made = with_block s.blocks c.args.victim (erased_row (block_at s.blocks c.args.victim) c.count-names.result) in
    let fill = released_fill (kept s) c.requires.formed c.requires.tied c.count.ensures.table c.args.victim c.requires.victim c.requires.dead c.count-names.result counted in
    subst (λ (t : Table). IsPhysicalFormed (kept (record s { blocks = t; soiled = with_item s.soiled c.args.victim None; victim = None }))) (sym c.erased.ensures)
    (subst (λ (k : Kept). IsPhysicalFormed (record k { blocks = made; soiled = with_item s.soiled c.args.victim None; victim = None })) (same_counted s c.requires.formed c.requires.tied made fill)
    (released_formed (kept s) c.requires.formed c.requires.tied c.count.ensures.table c.args.victim c.requires.victim c.requires.dead c.count-names.result counted))

pub returns-clause-tied : goal.returns-clause-tied
returns-clause-tied c =
    let s = c.args.self.now in
    let counted = c.count-names.ensures ∙ ap (λ k. names_among k c.args.victim s.names.pairs) c.requires.tied.named.size in
    let made = with_block s.blocks c.args.victim (erased_row (block_at s.blocks c.args.victim) c.count-names.result) in
    let fill = released_fill (kept s) c.requires.formed c.requires.tied c.count.ensures.table c.args.victim c.requires.victim c.requires.dead c.count-names.result counted in
    subst (λ (t : Table). IsTied (kept (record s { blocks = t; soiled = with_item s.soiled c.args.victim None; victim = None }))) (sym c.erased.ensures)
    (subst (λ (k : Kept). IsTied (record k { blocks = made; soiled = with_item s.soiled c.args.victim None; victim = None })) (same_counted s c.requires.formed c.requires.tied made fill)
    (released_tied (kept s) c.requires.formed c.requires.tied c.count.ensures.table c.args.victim c.requires.victim c.requires.dead c.count-names.result counted))

pub returns-clause-erases : goal.returns-clause-erases
returns-clause-erases c =
    let s = c.args.self.now in
    let counted = c.count-names.ensures ∙ ap (λ k. names_among k c.args.victim s.names.pairs) c.requires.tied.named.size in
    let made = with_block s.blocks c.args.victim (erased_row (block_at s.blocks c.args.victim) c.count-names.result) in
    let fill = released_fill (kept s) c.requires.formed c.requires.tied c.count.ensures.table c.args.victim c.requires.victim c.requires.dead c.count-names.result counted in
    subst (λ (t : Table). ErasesBlock c.args.victim (seen (kept s)) (seen (kept (record s { blocks = t; soiled = with_item s.soiled c.args.victim None; victim = None })))) (sym c.erased.ensures)
    (subst (λ (k : Kept). ErasesBlock c.args.victim (seen (kept s)) (seen (record k { blocks = made; soiled = with_item s.soiled c.args.victim None; victim = None }))) (same_counted s c.requires.formed c.requires.tied made fill)
    (released (kept s) c.requires.formed c.requires.tied c.count.ensures.table c.args.victim c.requires.victim c.requires.dead c.count-names.result counted))

pub count-names-requires : goal.count-names-requires
count-names-requires c =
    let has = (c.requires.tied.phases.victim_in c.args.victim c.requires.victim).0 in
    let n = c.requires.tied.named.blocks in
    let b = has.below in
    omega (arith, n, b)

pub erased-requires : goal.erased-requires
erased-requires c = (c.requires.tied.phases.victim_in c.args.victim c.requires.victim).0
