use Rattle.std.proofs.Common.{◌≡◌, ◌∙◌, ◌-◌, ◌/◌, ◌<◌, length, ap, sym, subst, arith, true}
use Rattle.std.proofs.lemmas.List.{length-set}
use Rattle.nl_blocks.specs.Table.{BlockRow, HasBlock, Table, is_free, is_retired_state, names_of, wear_if_free}
use Rattle.nl_blocks.proofs.TableProofs.{kept_same}
use Rattle.nl_blocks.proofs.blocks.Blocks.mark_live.Goals as goal

pub invariant_of-self : goal.invariant_of-self
invariant_of-self c =
    let t : Table = record { first = c.self.inside.first; size = c.self.inside.size; blocks = c.self.inside.blocks.items } in
    let has : HasBlock t (c.args.page / t.size) = subst (λ (s : Table). HasBlock s (c.args.page / s.size)) (sym c.self.view_is) c.requires in
    let from = has.from in
    let below = has.below in
    let inside : (c.args.page / t.size) - t.first < length t.blocks = omega (arith, from, below) in
    kept_same t c.self.inside.free c.self.inside.waiting c.self.invariant (c.args.page / t.size - t.first) c.index_mut.result.now c.mark.new.self inside c.index_mut.ensures.value
    (λ row. record { pages = ap (λ (r : BlockRow). length r.pages) c.mark.ensures ∙ (length-set _ _ _ ∙ row.pages); names = subst (λ (r : BlockRow). is_retired_state r.state ≡ true → 0 < names_of r.state) (sym c.mark.ensures) row.names })
    (ap is_free c.mark.ensures) (ap wear_if_free c.mark.ensures)
