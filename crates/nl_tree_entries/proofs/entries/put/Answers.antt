use Rattle.std.proofs.Common.{◌≡◌, ℕ, List, drop, arith, ap, sym, ◌∙◌}
use Rattle.nl_tree.specs.Tree.{Tree, path_cmp}
use Rattle.nl_tree_content.specs.Places.{place_in, is_first}
use Rattle.nl_tree_content.proofs.PlaceProofs.{place_in-le, put-there, put-new}
use Rattle.nl_tree_entries.proofs.entries.put.Goals as goal

-- what is said of the entries as a slice is said of those of the tree
place_of_items : (path : List (List ℕ)) (slice items : Tree) (at : ℕ) → at ≡ place_in path_cmp path slice → slice ≡ items → at ≡ place_in path_cmp path items
place_of_items path slice items at is same = is ∙ ap (λ (t : Tree). place_in path_cmp path t) same

pub insert-requires : goal.insert-requires
insert-requires c =
    let place = place_of_items c.args.path _ _ _ c.place_of-at.ensures.place c.deref.ensures.value in
    omega (arith, place_in-le path_cmp c.args.path c.args.tree.now.items, place)

pub returns-then-is_at-clause-ok : goal.returns-then-is_at-clause-ok
returns-then-is_at-clause-ok c =
    let place = place_of_items c.args.path _ _ _ c.place_of-at.ensures.place c.deref.ensures.value in
    let there = sym c.if-is_at.true ∙ c.is_at.ensures ∙ ap (λ (t : Tree). is_first path_cmp c.args.path (drop c.place_of-at.result t)) c.deref-2.ensures.value in
    put-there path_cmp c.args.path c.args.node c.args.tree.now.items _ _ place there c.index_mut.ensures.value

pub returns-in_ok-insert-clause-ok : goal.returns-in_ok-insert-clause-ok
returns-in_ok-insert-clause-ok c =
    let place = place_of_items c.args.path _ _ _ c.place_of-at.ensures.place c.deref.ensures.value in
    let there = sym c.if-is_at.false ∙ c.is_at.ensures ∙ ap (λ (t : Tree). is_first path_cmp c.args.path (drop c.place_of-at.result t)) c.deref-2.ensures.value in
    c.in_ok-insert.ensures.items ∙ put-new path_cmp c.args.path c.args.node c.args.tree.now.items _ place there
