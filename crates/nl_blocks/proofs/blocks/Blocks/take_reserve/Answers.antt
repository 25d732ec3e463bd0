use Rattle.std.proofs.Common.{◌≤◌, length, refl, subst, sym}
use Rattle.nl_blocks.specs.declared.states.BlockState.TheVariants.{Target}
use Rattle.nl_blocks.specs.Table.{IsFirstLeast, Table, free_count, is_free, wear_of}
use Rattle.nl_blocks.proofs.TableProofs.{given}
use Rattle.nl_blocks.proofs.blocks.Blocks.take_reserve.Goals as goal

pub invariant_of-self : goal.invariant_of-self
invariant_of-self c =
    let t : Table = record { first = c.self.inside.first; size = c.self.inside.size; blocks = c.self.inside.blocks.items } in
    let first = subst (λ (s : Table). IsFirstLeast is_free wear_of s.blocks (length s.blocks) c.in_ok-at.at) (sym c.self.view_is) c.in_ok-at.ensures.best in
    let some = subst (λ (s : Table). 1 ≤ free_count s) (sym c.self.view_is) c.in_ok-at.ensures.some in
    given t c.self.inside.free c.self.inside.waiting c.self.invariant c.in_ok-at.at first some c.index_mut.result.now c.take.new.self c.index_mut.ensures.value Target refl refl c.take.ensures c.set.new.self c.set.ensures
