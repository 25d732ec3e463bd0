use Rattle.std.proofs.Common.{◌+◌, ◌∙◌, drop, max, ap, refl}
use Rattle.std.specs.Prelude.{fold}
use Rattle.nl_core_open.specs.Figures.{greatest_seen}
use Rattle.nl_core_open.proofs.SeenWear.{greater, higher, more}
use Rattle.nl_core_open.proofs.wear.greatest.Goals as goal

pub pages-init : goal.pages-init
unfolding greatest_seen
pages-init c = refl

pub pages-preserved : goal.pages-preserved
pages-preserved c =
    let seen = c.args.scan.now.seen in
    let best = c.pages.greatest in
    ap (λ n. fold higher n (drop (c.pages.at + 1) seen)) (c.max-greatest.ensures ∙ greater best c.wear_on.result ∙ ap (λ n. max best n) c.wear_on.ensures)
    ∙ more higher seen c.pages.at best _ c.get.result.now c.get.ensures c.pages.invariant
