use Rattle.std.proofs.Common.{◌≡◌, ◌<◌, ◌∙◌, Option, None, List, get_or, length, replicate, sym, ap, subst}
use Rattle.std.proofs.lemmas.List.{get_or-replicate, length-replicate}
use Rattle.nl_device.specs.Opening.{with_offers}
use Rattle.nl_device.specs.declared.opening.own.Own.{Own}
use Rattle.nl_device.proofs.Picks.{picked}
use Rattle.nl_device.proofs.opening.fill.picks.Goals as goal

pub returns : goal.returns
returns c =
    let size = c.args.pages in
    let spare = c.args.spare in
    let needed = c.args.needed.now.items in
    let none : List (Option Own) = replicate c.args.count None in
    let before : length c.in_ok-picks.picks.items ≡ c.args.count = ap (λ (l : List (Option Own)). length l) c.in_ok-picks.ensures ∙ length-replicate c.args.count None in
    let once : length c.fill.new.picks.items ≡ c.args.count = c.fill.ensures.count_is ∙ before in
    record {
      count_is = c.fill-2.ensures.count_is ∙ once;
      each = λ v below.
          let start = ap (λ (l : List (Option Own)). get_or l v None) c.in_ok-picks.ensures ∙ get_or-replicate c.args.count v None None below in
          c.fill-2.ensures.each v (subst (λ n. v < n) (sym once) below)
          ∙ (ap (λ o. with_offers size None needed o v) (c.fill.ensures.each v (subst (λ n. v < n) (sym before) below) ∙ ap (λ o. with_offers size spare needed o v) start)
          ∙ picked size spare needed v);
    }
