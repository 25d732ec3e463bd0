use Rattle.std.proofs.Common.{List, ℕ, subst, IfOk, ◌≡◌, ◌∙◌, ◌++◌, take, ap, arith, vec_len}
use Rattle.nl_tree_content.proofs.FileProofs.{cut_bytes}
use Rattle.nl_tree_content.proofs.pages.cut_page.Goals as goal

pub returns : goal.returns
returns c =
    subst (λ (x : List ℕ). IfOk c.new.result (λ p. p ≡ x)) (cut_bytes c.args.len c.min_of-left.result c.args.page.now c.extend_from_slice.new.self.items c.resize.new.self.items (vec_len c.extend_from_slice.new.self) c.requires c.min_of-left.ensures.value
    (c.in_ok-extend_from_slice.ensures.items ∙ ap (λ (x : List ℕ). x ++ take c.min_of-left.result c.args.page.now) c.in_ok-bytes.ensures.items) (omega arith) c.in_ok-resize.ensures.items) c.new.ensures
