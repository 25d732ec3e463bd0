use Rattle.std.proofs.Common.{◌≡◌, ◌+◌, ◌-◌, ◌∙◌, false, not, length, sym, ap, arith}
use Rattle.std.specs.Prelude.{slice_index_or}
use Rattle.nl_device.proofs.Ranges.{find_at_range, find_none_range}
use Rattle.nl_device.proofs.marks.first_unmarked.Goals as goal

pub returns-then-not-index : goal.returns-then-not-index
returns-then-not-index c =
    let items = c.args.marks.now.items in
    let first = c.args.first in
    let at = c.loop-at.at in
    sym (find_at_range (λ block. not (slice_index_or items (block - first) false)) first (length items) at (omega arith)
    (λ i less. let e : first + i - first ≡ i = omega arith in ap (λ k. not (slice_index_or items k false)) e ∙ ap not (c.loop-at.invariant i less))
    (let e : first + at - first ≡ at = omega arith in ap (λ k. not (slice_index_or items k false)) e ∙ grind arith))

pub returns : goal.returns
returns c =
    let items = c.args.marks.now.items in
    let first = c.args.first in
    sym (find_none_range (λ block. not (slice_index_or items (block - first) false)) first (length items)
    (λ i less. let e : first + i - first ≡ i = omega arith in ap (λ k. not (slice_index_or items k false)) e ∙ ap not (c.loop-at.invariant i (omega (arith, less)))))
