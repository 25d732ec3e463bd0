use Rattle.std.proofs.Common.{ap, arith, drop, false, get_or, sym, ◌+◌, ◌/◌, ◌||◌, ◌∙◌}
use Rattle.std.specs.Prelude.{◌==◌}
use Rattle.std.specs.List.{list_any}
use Rattle.std.proofs.lemmas.List.{drop_all}
use Rattle.nl_recover_pointers.specs.Blank.{is_within}
use Rattle.nl_recover_pointers.proofs.Blanks.{blank_by_marks}
use Rattle.nl_recover_pointers.proofs.Keys.{grouped, or_false}
use Rattle.nl_recover_pointers.proofs.Rests.{drop_got}
use Rattle.nl_recover_pointers.proofs.blank.has_blank.Goals as goal

pub seen-preserved : goal.seen-preserved
seen-preserved c =
    let seen = c.args.scan.now.seen in
    let one = c.get.result.now in
    let size = c.args.size in
    let first = c.args.first in
    let marks = c.seen.marks.items in
    let rest = drop (c.seen.at + 1) seen in
    record {
      count_is = c.mark.ensures.count ∙ c.seen.invariant.count_is;
      each = λ i within.
          ap (λ x. x || list_any (is_within size (first + i)) rest) (c.mark.ensures.each i (let e = c.seen.invariant.count_is in omega (arith, within, e)))
          ∙ (grouped (get_or marks i false) (one.page / size == first + i) (list_any (is_within size (first + i)) rest)
          ∙ (ap (λ l. get_or marks i false || list_any (is_within size (first + i)) l) (sym (drop_got seen c.seen.at one c.get.ensures))
          ∙ c.seen.invariant.each i within));
    }

pub returns : goal.returns
returns c =
    let seen = c.args.scan.now.seen in
    let marks = c.seen.marks.items in
    c.has_unmarked.ensures
    ∙ blank_by_marks seen c.args.size c.args.first c.args.count marks c.seen.invariant.count_is
    (λ i within. sym (or_false (get_or marks i false))
    ∙ ap (λ l. get_or marks i false || list_any (is_within c.args.size (c.args.first + i)) l) (sym (drop_all c.seen.at seen (omega (arith, c.seen-test.false, c.len-at-end.ensures))))
    ∙ c.seen.invariant.each i within)
