use Rattle.std.proofs.Common.{◌≡◌, ◌∙◌, ◌-◌, ◌<◌, length, ap, sym, subst, arith, false}
use Rattle.std.proofs.lemmas.Bool.{both_ways}
use Rattle.nl_blocks.specs.Table.{BlockRow, HasBlock, Table, is_free, is_retired_state}
use Rattle.nl_blocks.proofs.TableProofs.{sealed}
use Rattle.nl_blocks.proofs.blocks.Blocks.seal.Goals as goal

pub invariant_of-self : goal.invariant_of-self
invariant_of-self c =
    let t : Table = record { first = c.self.inside.first; size = c.self.inside.size; blocks = c.self.inside.blocks.items } in
    let has : HasBlock t c.args.block = subst (λ (s : Table). HasBlock s c.args.block) (sym c.self.view_is) c.requires in
    let from = has.from in
    let below = has.below in
    let inside : c.args.block - t.first < length t.blocks = omega (arith, from, below) in
    let was : is_retired_state c.set_state.new.self.state ≡ false = ap (λ (r : BlockRow). is_retired_state r.state) c.set_state.ensures in
    sealed t c.self.inside.free c.self.inside.waiting c.self.invariant (c.args.block - t.first) inside c.index.result.now c.index_mut.result.now c.set_state.new.self c.index.ensures c.index_mut.ensures.value
    (λ row. record { pages = ap (λ (r : BlockRow). length r.pages) c.set_state.ensures ∙ row.pages; names = λ r. absurd (both_ways (is_retired_state c.set_state.new.self.state) was r) })
    c.recounted-self-inside.result c.is_free-was.result c.recounted-self-inside.ensures c.is_free-was.ensures (ap is_free c.set_state.ensures) c.set.new.self c.set.ensures
