use Rattle.std.proofs.Common.{◌≡◌, ◌∙◌, ℕ, None, [], refl, subst, sym, arith}
use Rattle.nl_meta.specs.Pages.{page_of}
use Rattle.nl_recover.specs.Addresses.{PassesAddresses, address_at, is_bad_marked, with_mark}
use Rattle.nl_recover.proofs.AddressFacts.{first_address, no-marks, node-none, of_number}
use Rattle.nl_recover.proofs.Scans.{upto, upto-next, upto-stops}
use Rattle.nl_recover.proofs.addresses.first_fault.Goals as goal

pub loop-ino-init : goal.loop-ino-init
loop-ino-init c = record { size = refl; passes = node-none c.args.shape.now (page_of c.args.meta.now) c.args.used.now.items [] refl }

pub loop-ino-preserved : goal.loop-ino-preserved
loop-ino-preserved c = record {
  size = c.in-None.ensures.size ∙ c.loop-ino.invariant.size;
  passes = upto-next (is_bad_marked c.args.shape.now (page_of c.args.meta.now)) with_mark address_at (of_number c.args.shape.now (page_of c.args.meta.now)) c.args.used.now.items c.loop-ino.used.items c.node_fault.new.used.items
      c.loop-ino.ino c.loop-ino.invariant.passes c.in-None.ensures.passes;
}

pub returns-in-Some : goal.returns-in-Some
returns-in-Some c =
    (upto-stops (is_bad_marked c.args.shape.now (page_of c.args.meta.now)) with_mark address_at (of_number c.args.shape.now (page_of c.args.meta.now)) c.args.used.now.items c.loop-ino.used.items c.node_fault.new.used.items
    c.loop-ino.ino c.args.shape.now.nodes c.in-Some.address c.loop-ino-test.true c.loop-ino.invariant.passes c.in-Some.ensures.passes).first
    ∙ sym (first_address c.args.shape.now (page_of c.args.meta.now) c.args.used.now.items (no-marks c.args.shape.now (page_of c.args.meta.now) c.args.used.now.items c.requires.size c.requires.none))

pub returns : goal.returns
returns c =
    let past = c.loop-ino-test.false in
    let most = c.loop-ino.auto.ino-end in
    let end : c.loop-ino.ino ≡ c.args.shape.now.nodes = omega (arith, past, most) in
    (subst (λ (n : ℕ). PassesAddresses c.args.shape.now (page_of c.args.meta.now) c.args.used.now.items c.loop-ino.used.items (upto (of_number c.args.shape.now (page_of c.args.meta.now)) n) None) end c.loop-ino.invariant.passes).first
    ∙ sym (first_address c.args.shape.now (page_of c.args.meta.now) c.args.used.now.items (no-marks c.args.shape.now (page_of c.args.meta.now) c.args.used.now.items c.requires.size c.requires.none))
