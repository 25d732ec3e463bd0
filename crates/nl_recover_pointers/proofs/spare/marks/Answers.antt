use Rattle.std.proofs.Common.{ap, arith, drop, false, get_or, sym, ◌+◌, ◌||◌, ◌∙◌, ℕ}
use Rattle.std.specs.List.{list_any}
use Rattle.std.specs.BTreeMap.{get}
use Rattle.std.proofs.lemmas.List.{drop_all}
use Rattle.nl_recover_pointers.specs.Places.{pair_cmp, place_key}
use Rattle.nl_recover_pointers.specs.Spare.{is_alone_in, spread_at}
use Rattle.nl_recover_pointers.specs.declared.spare.PageCopy.{PageCopy}
use Rattle.nl_recover_pointers.proofs.Keys.{grouped, or_false}
use Rattle.nl_recover_pointers.proofs.Rests.{drop_read}
use Rattle.nl_recover_pointers.proofs.spare.marks.Goals as goal

pub pages-preserved : goal.pages-preserved
pages-preserved c =
    let pages = c.args.pages.now.items in
    let marks = c.pages.marks.items in
    let one = c.index.result.now in
    let rest = drop (c.pages.at + 1) pages in
    let alone = λ (block : ℕ) (r : PageCopy). is_alone_in block (spread_at (get pair_cmp c.args.spreads.now (place_key r.address r.stamp))) r in
    record {
      count_is = c.mark_alone.ensures.count ∙ c.pages.invariant.count_is;
      each = λ i within.
          ap (λ x. x || list_any (alone (c.args.first + i)) rest) (c.mark_alone.ensures.each i (let e = c.pages.invariant.count_is in omega (arith, within, e)))
          ∙ (grouped (get_or marks i false) (alone (c.args.first + i) one) (list_any (alone (c.args.first + i)) rest)
          ∙ (ap (λ l. get_or marks i false || list_any (alone (c.args.first + i)) l) (sym (drop_read pages c.pages.at one (omega arith) c.index.ensures))
          ∙ c.pages.invariant.each i within));
    }

pub returns : goal.returns
returns c =
    let pages = c.args.pages.now.items in
    let marks = c.pages.marks.items in
    record {
      count_is = c.pages.invariant.count_is;
      each = λ i within. sym (or_false (get_or marks i false))
          ∙ (ap (λ l. get_or marks i false || list_any (λ (r : PageCopy). is_alone_in (c.args.first + i) (spread_at (get pair_cmp c.args.spreads.now (place_key r.address r.stamp))) r) l)
          (sym (drop_all c.pages.at pages (omega arith)))
          ∙ c.pages.invariant.each i within);
    }
