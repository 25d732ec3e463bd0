use Rattle.std.proofs.Common.{◌∙◌, ap, refl, sym, subst, List, ℕ}
use Rattle.nl_imgfile.specs.DiskImage.{AllErased, StoreIsFormed, geometry_in_store, page_here}
use Rattle.nl_imgfile.proofs.DiskOperations.{blank_left, blank_medium, headed_begun}
use Rattle.nl_imgfile.proofs.DiskPages.{weaker}
use Rattle.nl_imgfile.proofs.disk_nand.DiskNandNand.form.Goals as goal

pub returns-in-Done-clause-erased : goal.returns-in-Done-clause-erased
returns-in-Done-clause-erased g c t done =
    blank_medium g.S.Store.tells g.S.Store.bytes g.S.Store.moment g.S.Store.left _ t
    (λ q. ap (λ (b : List ℕ). page_here b q) c.begin.ensures.bytes ∙ (c.in-Done.ensures.formed t refl).blank q)

pub returns-in-Done-clause-headed : goal.returns-in-Done-clause-headed
returns-in-Done-clause-headed g c t done =
    headed_begun g.S.Store.tells g.S.Store.bytes g.S.Store.moment g.S.Store.left _ _ _ (λ m b l. c.begin.ensures.begins t m b l)
    (sym (ap geometry_in_store c.begin.ensures.bytes ∙ (c.in-Done.ensures.formed t refl).header))

pub returns-in-Done-clause-formed : goal.returns-in-Done-clause-formed
returns-in-Done-clause-formed g c t done = subst (λ (b : List ℕ). StoreIsFormed (record { blocks = c.args.blocks; pages = c.args.pages }) b) (sym c.begin.ensures.bytes) (c.in-Done.ensures.formed t refl)

pub returns-in-Failed-clause-failed_left : goal.returns-in-Failed-clause-failed_left
returns-in-Failed-clause-failed_left g c t failed m i l =
    blank_left g.S.Store.tells g.S.Store.bytes g.S.Store.moment g.S.Store.left c.args.self.now _ refl t (weaker AllErased (λ b cut. cut.0) (c.form_store.ensures.crash t)) m i l

pub returns-in-Failed-clause-cut : goal.returns-in-Failed-clause-cut
returns-in-Failed-clause-cut g c t failed = weaker AllErased (λ b cut. cut.0) (c.form_store.ensures.crash t)
