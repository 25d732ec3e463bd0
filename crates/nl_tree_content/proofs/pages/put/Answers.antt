use Rattle.std.proofs.Common.{arith, sym, ◌∙◌}
use Rattle.std.specs.Ordering.{nat_cmp}
use Rattle.nl_tree_content.proofs.PlaceProofs.{place_in-le, put-there, put-new}
use Rattle.nl_tree_content.proofs.pages.put.Goals as goal

pub insert-requires : goal.insert-requires
insert-requires c = omega (arith, place_in-le nat_cmp c.args.index c.args.pages.now.items)

pub returns-then-is_at : goal.returns-then-is_at
returns-then-is_at c = put-there nat_cmp c.args.index c.args.bytes c.args.pages.now.items _ _ c.place_of-at.ensures (sym c.if-is_at.true ∙ c.is_at.ensures) c.index_mut.ensures.value

pub returns-in_ok-insert : goal.returns-in_ok-insert
returns-in_ok-insert c = c.in_ok-insert.ensures.items ∙ put-new nat_cmp c.args.index c.args.bytes c.args.pages.now.items _ c.place_of-at.ensures (sym c.if-is_at.false ∙ c.is_at.ensures)
