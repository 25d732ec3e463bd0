use Rattle.std.proofs.Common.{◌∷◌, [], List, ℕ, get_or, sym, subst, take, arith}
use Rattle.std.proofs.lemmas.List.{take_all, take_more}
use Rattle.nl_recover.specs.Freeing.{TakesAddresses}
use Rattle.nl_recover.proofs.FreeFacts.{takes-none, takes-then}
use Rattle.nl_recover.proofs.free.use_addresses.Goals as goal

pub loop-address-init : goal.loop-address-init
loop-address-init c = takes-none c.args.shape.now c.args.nodes.now c.requires.spaces

pub use_address-requires-clause-spaces : goal.use_address-requires-clause-spaces
use_address-requires-clause-spaces c = c.loop-address.invariant.spaces

pub loop-address-preserved : goal.loop-address-preserved
loop-address-preserved c =
    subst (λ (l : List ℕ). TakesAddresses c.args.shape.now l c.args.nodes.now c.use_address.new.nodes)
    (sym (take_more c.args.addresses.now c.loop-address.address-index 0 (let h = c.loop-address-test.true in omega (arith, h))))
    (takes-then c.args.shape.now (take c.loop-address.address-index c.args.addresses.now) (get_or c.args.addresses.now c.loop-address.address-index 0 ∷ []) c.args.nodes.now c.loop-address.nodes c.use_address.new.nodes
    c.loop-address.invariant c.use_address.ensures)

pub returns : goal.returns
returns c =
    let past = c.loop-address-test.false in
    subst (λ (l : List ℕ). TakesAddresses c.args.shape.now l c.args.nodes.now c.loop-address.nodes) (take_all c.loop-address.address-index c.args.addresses.now (omega (arith, past))) c.loop-address.invariant
