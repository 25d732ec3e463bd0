use Rattle.std.proofs.Common.{◌≡◌, ◌∙◌, ◌-◌, ◌<◌, ◌==◌, length, ap, sym, subst, refl, arith, true, false}
use Rattle.nl_blocks.specs.declared.states.BlockState.{BlockState}
use Rattle.nl_blocks.specs.Table.{BlockRow, HasBlock, IsRow, Table, after_erase, is_free_state, is_retired_state, names_of}
use Rattle.nl_blocks.proofs.TableProofs.{erased_names, last_name, renewed}
use Rattle.nl_blocks.proofs.blocks.Blocks.name_gone.Goals as goal

pub invariant_of-self : goal.invariant_of-self
invariant_of-self c =
    let t : Table = record { first = c.self.inside.first; size = c.self.inside.size; blocks = c.self.inside.blocks.items } in
    let has : HasBlock t c.args.block = subst (λ (s : Table). HasBlock s c.args.block) (sym c.self.view_is) c.requires.has in
    let from = has.from in
    let below = has.below in
    let inside : c.args.block - t.first < length t.blocks = omega (arith, from, below) in
    let names = c.in-Retired.names in
    let state : c.set_state.new.self.state ≡ after_erase (names - 1) = ap (λ (r : BlockRow). r.state) c.set_state.ensures ∙ (c.state_with.ensures ∙ ap after_erase c.saturating_sub.ensures) in
    let row : IsRow t.size c.index.result.now = subst (IsRow t.size) (sym c.index.ensures) (c.self.invariant.table.each (c.args.block - t.first) c.index.result.now inside) in
    let some : 0 < names = subst (λ (s : BlockState). is_retired_state s ≡ true → 0 < names_of s) (sym c.in-Retired.ensures) row.names refl in
    renewed t c.self.inside.free c.self.inside.waiting c.self.invariant (c.args.block - t.first) inside c.index.result.now c.index_mut.result.now c.set_state.new.self c.index-in-Retired.result.now
    c.index.ensures c.index_mut.ensures.value c.index-in-Retired.ensures
    (λ row. record { pages = ap (λ (r : BlockRow). length r.pages) c.set_state.ensures ∙ row.pages; names = subst (λ (s : BlockState). is_retired_state s ≡ true → 0 < names_of s) (sym state) (erased_names (names - 1)) })
    c.recounted-self-inside.result false (names == 1) c.recounted-self-inside.ensures (ap is_free_state c.in-Retired.ensures) (last_name names some ∙ sym (ap is_free_state state))
    c.set.new.self c.wear_if_free.result c.set.ensures c.wear_if_free.ensures
