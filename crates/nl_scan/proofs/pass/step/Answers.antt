use Rattle.std.proofs.Common.{◌<◌, ◌*◌, ℕ, List, Bool, set, false, ◌/◌, ap, sym, subst, ◌∙◌, ◌+◌}
use Rattle.std.proofs.lemmas.Bool.{both_ways}
use Rattle.nl_field.specs.Page.{Image}
use Rattle.nl_scan.specs.Passes.{KnowsBlocks}
use Rattle.nl_scan.proofs.Standing.{blocks_marked}
use Rattle.nl_scan.proofs.pass.step.Goals as goal

pub returns-then-not-is_erased-clause-blocks : goal.returns-then-not-is_erased-clause-blocks
returns-then-not-is_erased-clause-blocks g c = λ tells.
    let fits = g.met.M.Nand.contents_fit c.args.media.now tells in
    let image = g.M.Nand.contents c.args.media.now in
    let marks = c.args.pass.now.erased.items in
    let of_read = c.in_ok-is_erased.ensures in
    subst (λ (x : Image). KnowsBlocks x (c.args.page + 1) c.mark.new.erased.items) (sym of_read.reads.same_contents)
    (subst (KnowsBlocks image (c.args.page + 1)) (sym (c.mark.ensures ∙ ap (λ (l : List Bool). set l (c.args.page / c.args.shape.now.pages) false) of_read.erased))
    (blocks_marked image c.args.page c.args.shape.now.pages marks
    (c.requires.pages ∙ sym fits.pages)
    (subst (λ (n : ℕ). c.args.page < n) (sym (λ i. fits.blocks i * fits.pages i)) c.requires.page)
    (c.requires.stands.blocks ∙ sym fits.blocks)
    (λ is. both_ways c.in_ok-is_erased.is_erased c.if-not-is_erased.true ((of_read.is_erased tells).1 is))
    (c.requires.blocks tells)))
