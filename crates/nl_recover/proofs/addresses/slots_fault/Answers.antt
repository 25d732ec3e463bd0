use Rattle.std.proofs.Common.{◌∙◌, List, ℕ, None, [], refl, subst, arith}
use Rattle.std.proofs.lemmas.List.{take_all}
use Rattle.nl_meta.specs.Pages.{page_of}
use Rattle.nl_recover.specs.Addresses.{PassesAddresses, listed}
use Rattle.nl_recover.proofs.AddressFacts.{node-none, slots-next, slots-stop}
use Rattle.nl_recover.proofs.addresses.slots_fault.Goals as goal

pub loop-address-init : goal.loop-address-init
loop-address-init c = record { size = refl; passes = node-none c.args.shape.now (page_of c.args.meta.now) c.args.used.now.items [] refl }

pub loop-address-preserved : goal.loop-address-preserved
loop-address-preserved c = record {
  size = c.in-None.ensures.size ∙ c.loop-address.invariant.size;
  passes = slots-next c.args.shape.now (page_of c.args.meta.now) c.args.used.now.items c.loop-address.used.items c.slot_fault.new.used.items c.args.of_file c.args.addresses.now c.loop-address.address-index
      (let h = c.loop-address-test.true in omega (arith, h)) c.loop-address.invariant.passes c.in-None.ensures.passes;
}

pub returns-in-Some-clause-passes : goal.returns-in-Some-clause-passes
returns-in-Some-clause-passes c =
    slots-stop c.args.shape.now (page_of c.args.meta.now) c.args.used.now.items c.loop-address.used.items c.slot_fault.new.used.items c.args.of_file c.args.addresses.now c.loop-address.address-index c.in-Some.bad
    (let h = c.loop-address-test.true in omega (arith, h)) c.loop-address.invariant.passes c.in-Some.ensures.passes

pub returns-clause-passes : goal.returns-clause-passes
returns-clause-passes c =
    let past = c.loop-address-test.false in
    subst (λ (xs : List ℕ). PassesAddresses c.args.shape.now (page_of c.args.meta.now) c.args.used.now.items c.loop-address.used.items (listed c.args.of_file xs) None)
    (take_all c.loop-address.address-index c.args.addresses.now (omega (arith, past))) c.loop-address.invariant.passes
