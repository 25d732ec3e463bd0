use Rattle.std.proofs.Common.{◌≡◌, ◌++◌}
use Rattle.std.specs.Prelude.{flat_map, nat_lt}
use Rattle.std.specs.List.{range_with_len}
use Rattle.nl_map.specs.Svg.{row_text}
use Rattle.nl_map.specs.Text.{block_wear, own_looks}
use Rattle.nl_map.proofs.svg.push_rows.Given as goal

abbrev pub invariant-blocks-2 : goal.invariant-blocks-2
invariant-blocks-2 l =
    l.text.items ≡ l.initial.text.items ++ flat_map (λ block. row_text block (nat_lt block l.shape.vblocks) (own_looks l.shape l.looks block) (block_wear l.looks)) (range_with_len 0 l.block)
