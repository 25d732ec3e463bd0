use Rattle.std.proofs.Common.{◌+◌, ◌∙◌, drop, min, ap, sym}
use Rattle.std.specs.Prelude.{fold}
use Rattle.nl_core_open.proofs.SeenWear.{first, lower, more, none}
use Rattle.nl_core_open.proofs.wear.least.Goals as goal

pub returns-then-len-eq0 : goal.returns-then-len-eq0
returns-then-len-eq0 c = none c.args.scan.now.seen (sym c.len.ensures ∙ c.if-len-eq0.true)

pub pages-init : goal.pages-init
pages-init c =
    let seen = c.args.scan.now.seen in
    ap (λ n. fold lower n (drop 1 seen)) c.wear_on-least.ensures ∙ first seen c.get.result.now c.get.ensures

pub pages-preserved : goal.pages-preserved
pages-preserved c =
    let seen = c.args.scan.now.seen in
    let best = c.pages.least in
    ap (λ n. fold lower n (drop (c.pages.at + 1) seen)) (c.min-least.ensures ∙ ap (λ n. min best n) c.wear_on.ensures)
    ∙ more lower seen c.pages.at best _ c.get-in-pages.result.now c.get-in-pages.ensures c.pages.invariant
