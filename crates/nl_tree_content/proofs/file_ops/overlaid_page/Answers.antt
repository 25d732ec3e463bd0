use Rattle.std.proofs.Common.{◌∙◌, subst, List, ℕ, IfOk, ◌≡◌}
use Rattle.nl_field.specs.FileContent.{overlaid}
use Rattle.nl_tree_content.proofs.FileProofs.{blank_is}
use Rattle.nl_tree_content.proofs.file_ops.overlaid_page.Goals as goal

pub returns-in_ok-blank-in-None-clause-page : goal.returns-in_ok-blank-in-None-clause-page
returns-in_ok-blank-in-None-clause-page c =
    subst (λ (x : List ℕ). IfOk c.overlay-in-None.result (λ p. p ≡ overlaid x c.args.index c.args.from c.args.bytes.now)) (blank_is c.args.file.now c.args.index _ (c.deref.ensures.value ∙ c.in_ok-blank-in-None.ensures.zeros) c.in-None.ensures.page) c.overlay-in-None.ensures.page
