use Rattle.std.proofs.Common.{arith, ◌∙◌}
use Rattle.std.proofs.lemmas.Bool.Decides.{nat_tests}
use Rattle.nl_tree_content.proofs.FileProofs.{written_none}
use Rattle.nl_tree_content.proofs.file_ops.written.Goals as goal

pub returns-then-is_empty : goal.returns-then-is_empty
returns-then-is_empty c =
    c.of.ensures ∙ written_none c.args.file.now c.args.from c.args.bytes.now _ _ (grind (arith, nat_tests)) c.size.ensures.size c.in_ok-pages.ensures.pages
