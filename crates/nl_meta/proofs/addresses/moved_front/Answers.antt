use Rattle.std.proofs.Common.{◌∷◌, ◌++◌, ◌≤◌, [], List, ℕ, ap, sym, subst, ◌∙◌, length, take, get_or}
use Rattle.std.proofs.lemmas.Bool.{ne_eqb, eq-eqb, not_from_true, not_from_false}
use Rattle.std.proofs.lemmas.List.{take_all}
use Rattle.nl_meta.specs.Pages.{most, first_most, touched}
use Rattle.nl_meta.proofs.Rising.{touched_none, touched_more, touched_same, touched_few}
use Rattle.nl_meta.proofs.addresses.moved_front.Goals as goal
use Rattle.nl_meta.proofs.addresses.moved_front.Goals.{then-address-vaddr, else-address-vaddr}

pub loop-address-init : goal.loop-address-init
loop-address-init c = c.push.ensures ∙ ap (λ xs. xs ++ c.args.vaddr ∷ []) c.new-out.ensures ∙ touched_none c.args.vaddr c.args.recent.now

pub push_within-requires : goal.push_within-requires
push_within-requires c = subst (λ (xs : List ℕ). length xs ≤ most) (sym c.loop-address.invariant) (touched_few c.args.vaddr (take c.loop-address.address-index c.as_slice-address-items.result.now))

pub loop-address-preserved : goal.loop-address-preserved
loop-address-preserved c = elim c.if-address-vaddr.branch [
  | then-address-vaddr w ↦
      w.out-is ∙ w.push_within.ensures
      ∙ ap (λ xs. first_most (xs ++ get_or c.as_slice-address-items.result.now c.loop-address.address-index 0 ∷ [])) c.loop-address.invariant
      ∙ touched_more c.args.vaddr c.as_slice-address-items.result.now c.loop-address.address-index c.loop-address-test.true (not_from_false _ (ne_eqb _ _ w.if-address-vaddr.true))
  | else-address-vaddr w ↦
      w.out-is ∙ c.loop-address.invariant
      ∙ touched_same c.args.vaddr c.as_slice-address-items.result.now c.loop-address.address-index c.loop-address-test.true (not_from_true _ (eq-eqb _ _ w.if-address-vaddr.false))
]

pub returns : goal.returns
returns c =
    let t = c.loop-address-test.false in
    c.loop-address.invariant ∙ ap (touched c.args.vaddr) (take_all c.loop-address.address-index c.as_slice-address-items.result.now t ∙ c.as_slice-address-items.ensures.value)
