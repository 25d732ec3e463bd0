use Rattle.std.proofs.Common.{◌<◌, ◌≤◌, Ok, Err, Some, ap, length, rules, subst, sym, ◌∙◌}
use Rattle.std.specs.List.Sorted.{IsBinarySearchResult}
use Rattle.std.specs.Ordering.{nat_cmp}
use Rattle.std.proofs.lemmas.List.Sorted.{answers_always}
use Rattle.nl_device.specs.declared.kept.page.KeptPage.{KeptPage}
use Rattle.nl_device.proofs.Lookups.{searched_none, searched_some}
use Rattle.nl_device.proofs.kept.Kept.page.Goals as goal

pub returns-in-Ok : goal.returns-in-Ok
returns-in-Ok c =
    let by_key = c.in-Ok.ensures.position (λ (k : KeptPage). k.page) (answers_always _ _ _ (λ f a r g called. search rules)) in
    rw (← c.self.view_is)
    (ap (λ (k : KeptPage). Some k) c.index.ensures
    ∙ sym (searched_some c.self.inside.pages.items c.args.page c.in-Ok.at c.index.result.now c.self.invariant.rising
    (subst (λ l. c.in-Ok.at < length l) c.deref.ensures.value c.in-Ok.ensures.bound)
    (subst (λ l. IsBinarySearchResult (λ (k : KeptPage). nat_cmp k.page c.args.page) l (Ok c.in-Ok.at)) c.deref.ensures.value by_key)))

pub returns-in-Err : goal.returns-in-Err
returns-in-Err c =
    let by_key = c.in-Err.ensures.position (λ (k : KeptPage). k.page) (answers_always _ _ _ (λ f a r g called. search rules)) in
    rw (← c.self.view_is)
    (sym (searched_none c.self.inside.pages.items c.args.page c.in-Err.field-0 c.self.invariant.rising
    (subst (λ l. c.in-Err.field-0 ≤ length l) c.deref.ensures.value c.in-Err.ensures.bound)
    (subst (λ l. IsBinarySearchResult (λ (k : KeptPage). nat_cmp k.page c.args.page) l (Err c.in-Err.field-0)) c.deref.ensures.value by_key)))
