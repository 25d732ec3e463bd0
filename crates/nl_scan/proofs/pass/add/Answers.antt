use Rattle.std.proofs.Common.{refl, ◌∙◌, ap, arith, max, ℕ}
use Rattle.std.proofs.lemmas.Grind.{common_steps}
use Rattle.nl_scan.proofs.Standing.{stands_more}
use Rattle.nl_scan.proofs.pass.add.Goals as goal

pub returns-clause-stands : goal.returns-clause-stands
returns-clause-stands g c =
    stands_more (g.M.Nand.geometry c.args.media.now) c.args.shape.now c.args.page c.args.pass.now
    (record { seen = c.push.new.self; erased = c.args.pass.now.erased; virtuals = c.agrees_so_far.new.virtuals; physicals = c.agrees_so_far.new.physicals; newest = c.after-pass.result; greatest = c.max-pass.result })
    (record { page = c.args.page; rec = c.args.rec; zeros = c.zeros_of-zeros.result; agrees = c.in_ok-agrees.agrees })
    c.args.buf.now.main
    c.requires.stands refl c.requires.spelled (omega (arith, c.zeros_of-zeros.ensures.within, c.main.ensures.len))
    (grind (arith, common_steps)) (c.max-pass.ensures ∙ ap (λ (n : ℕ). max c.args.pass.now.greatest n) c.stamp_on.ensures)
    c.in_ok-agrees.ensures.virtuals c.in_ok-agrees.ensures.physicals c.in_ok-agrees.ensures.noted refl
