use Rattle.std.proofs.Common.{sym, ap, ◌∙◌, is_some, get_or, false, List, Bool}
use Rattle.std.proofs.lemmas.Bool.{ltb-false}
use Rattle.nl_meta.specs.Pages.{Pages, page_of}
use Rattle.nl_meta.proofs.Kept.{slots-resident, none-at}
use Rattle.nl_meta.proofs.meta.Meta.resident.Goals as goal

pub returns-in-Some : goal.returns-in-Some
returns-in-Some c =
    c.in-Some.ensures.lookup.3.1 false ∙ ap (λ (bs : List Bool). get_or bs c.args.vaddr false) c.deref.ensures.value
    ∙ sym (ap (λ (p : Pages). is_some (page_of p c.args.vaddr)) (sym c.self.view_is) ∙ slots-resident c.self.inside.resident.items c.self.inside.pages.items c.args.vaddr c.self.invariant.each)

pub returns-in-None : goal.returns-in-None
returns-in-None c =
    sym (none-at c.deref.result.now c.args.vaddr (ltb-false _ _ (sym c.in-None.ensures.lookup.0))) ∙ ap (λ (bs : List Bool). get_or bs c.args.vaddr false) c.deref.ensures.value
    ∙ sym (ap (λ (p : Pages). is_some (page_of p c.args.vaddr)) (sym c.self.view_is) ∙ slots-resident c.self.inside.resident.items c.self.inside.pages.items c.args.vaddr c.self.invariant.each)
