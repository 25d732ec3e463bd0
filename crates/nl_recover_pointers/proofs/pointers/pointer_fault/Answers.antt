use Rattle.std.proofs.Common.{List, drop, subst, sym, ◌+◌, ◌∷◌, ◌∙◌}
use Rattle.nl_field.specs.ScanList.{physical_seen}
use Rattle.nl_meta.specs.Nodes.{Held}
use Rattle.nl_recover_pointers.specs.Held.{held_of}
use Rattle.nl_recover_pointers.proofs.Faults.{HasPassed, found_bad, passed_fault, passed_more, passed_none}
use Rattle.nl_recover_pointers.proofs.Rests.{drop_got}
use Rattle.nl_recover_pointers.proofs.pointers.pointer_fault.Goals as goal

pub held-init : goal.held-init
held-init c = record { passed = passed_none (physical_seen c.args.shape.now c.args.scan.now.seen) c.args.held.now c.in_ok-earlier.earlier c.in_ok-earlier.ensures.stamps c.in_ok-earlier.ensures.names }

pub returns-then-branch : goal.returns-then-branch
returns-then-branch c =
    let pages = physical_seen c.args.shape.now c.args.scan.now.seen in
    let held = c.args.held.now in
    let one = held_of c.get-one.result.now in
    let rest = drop (c.held.at + 1) held in
    let passed = subst (λ (l : List Held). HasPassed pages held l c.held.earlier) (drop_got held c.held.at one c.get-one.ensures) c.held.invariant.passed in
    passed_fault pages held rest c.held.earlier one passed
    (sym (c.in_ok-is_at_fault.ensures.fault ∙ found_bad pages held (one ∷ rest) c.in_ok-zeros.zeros c.held.earlier one c.in_ok-zeros.ensures passed) ∙ c.if-branch.true)

pub held-preserved : goal.held-preserved
held-preserved c =
    let pages = physical_seen c.args.shape.now c.args.scan.now.seen in
    let held = c.args.held.now in
    let one = held_of c.get-one.result.now in
    let rest = drop (c.held.at + 1) held in
    let passed = subst (λ (l : List Held). HasPassed pages held l c.held.earlier) (drop_got held c.held.at one c.get-one.ensures) c.held.invariant.passed in
    record {
      passed = passed_more pages held rest c.held.earlier c.is_at_fault.new.earlier one passed
          (sym (c.in_ok-is_at_fault.ensures.fault ∙ found_bad pages held (one ∷ rest) c.in_ok-zeros.zeros c.held.earlier one c.in_ok-zeros.ensures passed) ∙ c.if-branch.false)
          c.in_ok-is_at_fault.ensures.stamps c.in_ok-is_at_fault.ensures.names;
    }
