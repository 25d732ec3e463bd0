use Rattle.std.proofs.Common.{◌∙◌, ◌+◌, ap, max, ℕ, length}
use Rattle.nl_tree_content.proofs.FileProofs.{written_is}
use Rattle.nl_tree_content.proofs.file_ops.written_some.Goals as goal

pub returns : goal.returns
returns c =
    c.of.ensures ∙ written_is c.args.file.now c.args.from c.args.bytes.now _ _ _ c.requires.some
    (c.max_of-size.ensures.value ∙ ap (λ (k : ℕ). max k (c.args.from + length c.args.bytes.now)) c.size.ensures.size) c.requires.same c.in_ok-put_touched.ensures.pages
