use Rattle.std.proofs.Common.{Some, None, cond, is_some, sym, ◌*◌, ◌∙◌}
use Rattle.std.proofs.lemmas.Bool.{le-ltb, lt-ltb}
use Rattle.nl_meta.specs.Walk.{spare_beside}
use Rattle.nl_recover_pointers.proofs.Crowding.{count_lost, crowded_by, crowded_is}
use Rattle.nl_recover_pointers.proofs.crowded.crowded_fault.Goals as goal

pub returns-then-not-branch : goal.returns-then-not-branch
returns-then-not-branch c =
    let shape = c.args.shape.now in
    let seen = c.args.scan.now.seen in
    let held = c.args.held.now in
    let virtual = sym c.in_ok-has_virtual_spare.ensures ∙ c.if-not-branch.true in
    sym (λ i. crowded_by shape.pages (virtual i) (is_some (spare_beside shape seen held)) (count_lost shape seen held)) ∙ crowded_is shape seen held

pub returns-then-not-branch-2 : goal.returns-then-not-branch-2
returns-then-not-branch-2 c =
    let shape = c.args.shape.now in
    let seen = c.args.scan.now.seen in
    let held = c.args.held.now in
    let virtual = sym c.in_ok-has_virtual_spare.ensures ∙ c.if-not-branch.false in
    let physical = sym c.in_ok-has_physical_spare.ensures ∙ c.if-not-branch-2.true in
    sym (λ i. crowded_by shape.pages (virtual i) (physical i) (count_lost shape seen held)) ∙ crowded_is shape seen held

pub returns-then-shape-lost : goal.returns-then-shape-lost
returns-then-shape-lost c =
    let shape = c.args.shape.now in
    let seen = c.args.scan.now.seen in
    let held = c.args.held.now in
    let virtual = sym c.in_ok-has_virtual_spare.ensures ∙ c.if-not-branch.false in
    let physical = sym c.in_ok-has_physical_spare.ensures ∙ c.if-not-branch-2.false in
    let more = lt-ltb (3 * shape.pages) c.in_ok-lost.lost c.if-shape-lost.true in
    sym (λ i. cond (more i) (Some 2) None) ∙ sym (λ i. crowded_by shape.pages (virtual i) (physical i) (sym c.in_ok-lost.ensures i)) ∙ crowded_is shape seen held

pub returns : goal.returns
returns c =
    let shape = c.args.shape.now in
    let seen = c.args.scan.now.seen in
    let held = c.args.held.now in
    let virtual = sym c.in_ok-has_virtual_spare.ensures ∙ c.if-not-branch.false in
    let physical = sym c.in_ok-has_physical_spare.ensures ∙ c.if-not-branch-2.false in
    let few = le-ltb (3 * shape.pages) c.in_ok-lost.lost c.if-shape-lost.false in
    sym (λ i. cond (few i) (Some 2) None) ∙ sym (λ i. crowded_by shape.pages (virtual i) (physical i) (sym c.in_ok-lost.ensures i)) ∙ crowded_is shape seen held
