use Rattle.std.proofs.Common.{◌≡◌, ℕ, ◌+◌, ◌-◌, ◌*◌, ◌++◌, ◌∙◌, drop, take, ap, arith}
use Rattle.std.specs.Prelude.{nat_lt}
use Rattle.nl_map.specs.Svg.{row_text}
use Rattle.nl_map.specs.Text.{block_wear, own_looks}
use Rattle.nl_map.proofs.Texts.{text_more}
use Rattle.nl_map.proofs.svg.push_rows.Goals as goal

rest_is : (a b : ℕ) → a + b - a ≡ b
rest_is a b = omega arith

pub blocks-2-preserved : goal.blocks-2-preserved
blocks-2-preserved c =
    let shape = c.args.shape.now in
    let looks = c.args.looks.now in
    let block = c.blocks-2.block in
    let row = λ (most n : ℕ). row_text block (nat_lt block shape.vblocks) (take n (drop (block * shape.pages) looks)) most in
    text_more (λ block. row_text block (nat_lt block shape.vblocks) (own_looks shape looks block) (block_wear looks)) block c.args.text.now.items c.blocks-2.text.items c.push_row.new.text.items c.blocks-2.invariant
    (c.in_ok-push_row.ensures
    ∙ ap (λ (n : ℕ). c.blocks-2.text.items ++ row c.wear_of-most.result n) (rest_is (block * shape.pages) shape.pages)
    ∙ ap (λ (most : ℕ). c.blocks-2.text.items ++ row most shape.pages) c.wear_of-most.ensures)
