use Rattle.std.proofs.Common.{◌≡◌, ◌+◌, ◌-◌, ◌∙◌, false, not, ap, arith, take}
use Rattle.std.specs.Prelude.{find, slice_index_or}
use Rattle.std.specs.List.{list_any, range_with_len}
use Rattle.std.proofs.lemmas.List.{take_all}
use Rattle.nl_device.specs.Spread.{is_alone_in, spare_of}
use Rattle.nl_device.proofs.Ranges.{find_same_range}
use Rattle.nl_device.proofs.opening.spare.least_spare.Goals as goal

pub returns : goal.returns
unfolding spare_of
returns c =
    let held = c.loop-at.held.items in
    let first = c.args.first in
    let spreads = c.args.spreads.now.items in
    let all : take c.loop-at.at spreads ≡ spreads = take_all c.loop-at.at spreads (omega arith) in
    c.first_unmarked.ensures ∙ (ap (λ n. find (λ block. not (slice_index_or held (block - first) false)) (range_with_len first n)) c.loop-at.invariant.count
    ∙ find_same_range (λ block. not (slice_index_or held (block - first) false)) (λ block. not (list_any (is_alone_in block) spreads)) first c.args.count
    (λ i less. let e : first + i - first ≡ i = omega arith in ap (λ k. not (slice_index_or held k false)) e ∙ (ap not (c.loop-at.invariant.each i less) ∙ ap (λ l. not (list_any (is_alone_in (first + i)) l)) all)))
