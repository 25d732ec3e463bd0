use Rattle.std.specs.Vec.{with_item}
use Rattle.nl_pseg.proofs.Lives.{live_counted, live_filled, live_used}
use Rattle.nl_pseg.specs.Segment.{IsUnspent}
use Rattle.std.proofs.Common.{None, ◌∙◌, arith, refl, subst}
use Rattle.nl_pseg.specs.Seen.{seen, IsPhysicalFormed, IsTied}
use Rattle.nl_pseg.specs.Kept.{Kept, kept}
use Rattle.nl_pseg.proofs.Forms.{formed_page, use_places, same_pages, same_unspent}
use Rattle.nl_pseg.proofs.Segments.{ended_places}
use Rattle.nl_pseg.proofs.States.{segment_block, within_length}
use Rattle.nl_pseg.proofs.Tied.{ended_tied}
use Rattle.nl_pseg.proofs.state.State.end.Goals as goal

pub mark-requires-clause-has : goal.mark-requires-clause-has
mark-requires-clause-has c = segment_block (kept c.args.self.now) c.args.page c.requires.formed.some c.requires.within

pub mark-requires-clause-rising : goal.mark-requires-clause-rising
mark-requires-clause-rising c = c.requires.formed.marked.rising

pub mark-requires-clause-used : goal.mark-requires-clause-used
mark-requires-clause-used c = let less = live_used c.args.self.now c.requires.formed c.requires.tied c.args.page c.requires.live in omega (arith, less)

pub mark-requires-clause-filled : goal.mark-requires-clause-filled
mark-requires-clause-filled c = let less = live_filled c.args.self.now c.requires.formed c.requires.tied c.args.page c.requires.live in omega (arith, less)

pub returns-clause-formed : goal.returns-clause-formed
returns-clause-formed c =
    let s = kept c.args.self.now in
    let is = c.requires.formed in
    let x : Kept = record s { blocks = c.mark.new.blocks } in
    let same = c.mark.ensures.same in
    let within = within_length s is c.args.page c.requires.within in
    subst (λ (k : Kept). IsPhysicalFormed (record k { held = with_item s.held c.args.page None; blocks = c.mark.new.blocks })) (live_counted c.args.self.now is c.requires.tied c.args.page c.requires.live c.mark.new.blocks c.mark.ensures.uses c.mark.ensures.fills)
    (formed_page s is c.mark.new.blocks same c.args.page None c.mark.ensures.marked within (λ room. c.mark.ensures.states s.active ∙ is.taken room)
    (ended_places (seen x) c.args.page within (use_places s c.mark.new.blocks is same)))

pub returns-clause-tied : goal.returns-clause-tied
returns-clause-tied c =
    let s = kept c.args.self.now in
    subst (λ (k : Kept). IsTied (record k { held = with_item s.held c.args.page None; blocks = c.mark.new.blocks }))
    (live_counted c.args.self.now c.requires.formed c.requires.tied c.args.page c.requires.live c.mark.new.blocks c.mark.ensures.uses c.mark.ensures.fills)
    (ended_tied s c.requires.tied c.mark.new.blocks c.mark.ensures.same c.mark.ensures.states c.args.page (within_length s c.requires.formed c.args.page c.requires.within) c.requires.alone)

pub returns-clause-pages : goal.returns-clause-pages
returns-clause-pages c = let same = same_pages (kept c.args.self.now) c.mark.new.blocks c.mark.ensures.same in record { same_first = same.same_first; same_blocks = same.same_blocks; same_size = same.same_size; same_wear = same.same_wear }

pub returns-clause-space : goal.returns-clause-space
returns-clause-space c =
    let s = kept c.args.self.now in
    let space = subst (λ (k : Kept). IsUnspent (seen s) (seen (record k { blocks = c.mark.new.blocks })))
    (live_counted c.args.self.now c.requires.formed c.requires.tied c.args.page c.requires.live c.mark.new.blocks c.mark.ensures.uses c.mark.ensures.fills)
    (same_unspent s c.mark.new.blocks c.mark.ensures.same) in
    record { next = space.next; left = space.left; free = space.free; same_free = space.same_free; same_kept = space.same_kept; same_erasures = space.same_erasures; same_soiled = space.same_soiled; copies = space.copies }

pub returns-clause-same : goal.returns-clause-same
returns-clause-same c =
    let s = kept c.args.self.now in
    let space = subst (λ (k : Kept). IsUnspent (seen s) (seen (record k { blocks = c.mark.new.blocks })))
    (live_counted c.args.self.now c.requires.formed c.requires.tied c.args.page c.requires.live c.mark.new.blocks c.mark.ensures.uses c.mark.ensures.fills)
    (same_unspent s c.mark.new.blocks c.mark.ensures.same) in
    record { same_pairs = refl; same_pair_room = refl; same_victim = refl; copies = space.copies }
