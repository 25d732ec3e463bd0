use Rattle.std.proofs.Common.{◌≡◌, ◌∙◌, ◌-◌, ◌<◌, length, ap, sym, subst, arith, Bool, true, false, cond, Some, None}
use Rattle.std.proofs.lemmas.Bool.{both_ways}
use Rattle.nl_blocks.specs.Table.{BlockRow, HasBlock, Table, is_free, block_at, is_retired_state, is_sealed_state}
use Rattle.nl_blocks.proofs.TableProofs.{kept_same, row_read, sealed_not_free}
use Rattle.nl_blocks.proofs.blocks.Blocks.choose.Goals as goal

pub invariant_of-self : goal.invariant_of-self
invariant_of-self c =
    let t : Table = record { first = c.self.inside.first; size = c.self.inside.size; blocks = c.self.inside.blocks.items } in
    let has : HasBlock t c.args.block = subst (λ (s : Table). HasBlock s c.args.block) (sym c.self.view_is) c.requires.has in
    let from = has.from in
    let below = has.below in
    let inside : c.args.block - t.first < length t.blocks = omega (arith, from, below) in
    let was : is_retired_state c.set_state.new.self.state ≡ false = ap (λ (r : BlockRow). is_retired_state r.state) c.set_state.ensures in
    let sealed : is_sealed_state (block_at t c.args.block).state ≡ true = subst (λ (s : Table). is_sealed_state (block_at s c.args.block).state ≡ true) (sym c.self.view_is) c.requires.sealed in
    let not_free : is_free c.index_mut.result.now ≡ false = ap is_free (sym (row_read t c.args.block c.index_mut.result.now inside c.index_mut.ensures.value)) ∙ sealed_not_free (block_at t c.args.block).state sealed in
    let not_now : is_free c.set_state.new.self ≡ false = ap is_free c.set_state.ensures in
    kept_same t c.self.inside.free c.self.inside.waiting c.self.invariant (c.args.block - t.first) c.index_mut.result.now c.set_state.new.self inside c.index_mut.ensures.value
    (λ row. record { pages = ap (λ (r : BlockRow). length r.pages) c.set_state.ensures ∙ row.pages; names = λ r. absurd (both_ways (is_retired_state c.set_state.new.self.state) was r) })
    (not_now ∙ sym not_free)
    (ap (λ (b : Bool). cond b (Some c.set_state.new.self.wear) None) not_now ∙ sym (ap (λ (b : Bool). cond b (Some c.index_mut.result.now.wear) None) not_free))
