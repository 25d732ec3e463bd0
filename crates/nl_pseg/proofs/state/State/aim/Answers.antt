use Rattle.std.specs.Vec.{with_item}
use Rattle.nl_blocks.specs.Used.{is_target_state, used_in}
use Rattle.nl_pseg.proofs.Closed.{as_counted}
use Rattle.nl_pseg.specs.Kept.{Kept, all_filled, kept}
use Rattle.nl_pseg.specs.Steps.{aimed_at}
use Rattle.nl_pseg.specs.Seen.{IsPhysicalFormed, IsTied, seen}
use Rattle.std.proofs.Common.{None, subst, arith, refl, ◌*◌, ◌+◌, ◌-◌, ◌≡◌}
use Rattle.nl_pseg.proofs.Aimed.{aimed_tied}
use Rattle.nl_pseg.proofs.Forms.{formed_marks}
use Rattle.nl_pseg.proofs.state.State.aim.Goals as goal

pub returns-clause-formed : goal.returns-clause-formed
returns-clause-formed c =
    let s = all_filled (kept c.args.self.now) in
    let x = formed_marks s c.args.block None c.requires.formed in
    let new : Kept = record s { soiled = with_item s.soiled c.args.block None; target = c.args.block; filled = 0 } in
    let formed : IsPhysicalFormed new = record { some = x.some; numbers = x.numbers; pages = x.pages; marks = x.marks; active_in = x.active_in; used_fits = x.used_fits; taken = x.taken; places = record { each = λ p h held. let w = x.places.each p h held in record { within = w.within; in_use = w.in_use; behind = w.behind; spelled = w.spelled } }; marked = x.marked } in
    subst IsPhysicalFormed (as_counted new _ _ refl c.requires.unused) formed

pub returns-clause-tied : goal.returns-clause-tied
returns-clause-tied c =
    let s = all_filled (kept c.args.self.now) in
    let new : Kept = record s { soiled = with_item s.soiled c.args.block None; target = c.args.block; filled = 0 } in
    subst IsTied (as_counted new _ _ refl c.requires.unused) (aimed_tied s c.args.block c.requires.targeted c.requires.formed.some c.requires.target c.requires.in_use)

pub returns-clause-aimed : goal.returns-clause-aimed
returns-clause-aimed c =
    let s = kept c.args.self.now in
    let block = c.args.block in
    let unused = c.requires.unused in
    let next : block * s.blocks.size + used_in is_target_state s.blocks block ≡ block * s.blocks.size = omega (arith, unused) in
    let left : s.blocks.size - used_in is_target_state s.blocks block ≡ s.blocks.size = omega (arith, unused) in
    (λ i. record (aimed_at (seen s) block) { copy_next = next i; copy_left = left i })
