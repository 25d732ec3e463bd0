use Rattle.std.proofs.Common.{◌≡◌, ◌+◌, [], ℕ, refl, sym, ap, subst, ◌∙◌, get_or, arith}
use Rattle.nl_inode.specs.Nodes.{Spaces}
use Rattle.nl_files.proofs.GivingBack.{GivesUpTo, gives-all, gives-nothing, gives-one}
use Rattle.nl_calls_names.proofs.dropping.give_all.Goals as goal
use Rattle.nl_calls_names.proofs.dropping.give_all.Goals.{then-addresses-slot-ne0, else-addresses-slot-ne0}

pub loop-slot-preserved : goal.loop-slot-preserved
loop-slot-preserved c =
    let was = c.args.addresses.now in
    let n = c.loop-slot.slot in
    let gives = c.loop-slot.invariant in
    elim c.if-addresses-slot-ne0.branch [
      | then-addresses-slot-ne0 w ↦
          subst (λ (s : Spaces). GivesUpTo (n + 1) was [] c.args.nodes.now s) (sym w.nodes-is)
          (gives-one n was [] c.args.nodes.now c.loop-slot.nodes gives w.give_pool.new.self w.if-addresses-slot-ne0.true refl
          (let first = gives.first in let from = (c.requires.pool n w.if-addresses-slot-ne0.true).0 in omega (arith, first, from)) w.give_pool.ensures)
      | else-addresses-slot-ne0 w ↦
          subst (λ (s : Spaces). GivesUpTo (n + 1) was [] c.args.nodes.now s) (sym w.nodes-is)
          (gives-nothing n was [] c.args.nodes.now c.loop-slot.nodes gives
          (λ a l e. absurd (l.not_zero (sym l.had ∙ ap (λ (r : ℕ). get_or was r 0) e ∙ w.if-addresses-slot-ne0.false))))
    ]

pub returns : goal.returns
returns c =
    let low = c.loop-slot-test.false in
    let high = c.loop-slot.auto.slot-end in
    let e : c.loop-slot.slot ≡ 16 = omega (arith, low, high) in
    gives-all c.args.addresses.now [] c.args.nodes.now c.loop-slot.nodes c.told-addresses
    (subst (λ (n : ℕ). GivesUpTo n c.args.addresses.now [] c.args.nodes.now c.loop-slot.nodes) e c.loop-slot.invariant)
