use Rattle.std.proofs.Common.{ap, Some, ◌∙◌, sym}
use Rattle.nl_inode.proofs.FetchFacts.{read-bytes, unread-bytes}
use Rattle.nl_inode.proofs.loading.load.Goals as goal

pub returns-in-Done-clause-page : goal.returns-in-Done-clause-page
returns-in-Done-clause-page g c = λ t e. let r = c.in-Done.ensures.value t in read-bytes _ _ c.args.vaddr r.0 _ c.requires.within r.1

pub returns-in-Unmapped-clause-page : goal.returns-in-Unmapped-clause-page
returns-in-Unmapped-clause-page g c = λ t e.
    unread-bytes _ _ c.args.vaddr c.requires.within (c.in-Unmapped.ensures.value t) (c.requires.stored c.in-Unmapped.ensures.answer) ∙ ap (λ main. Some main) (sym c.clear.ensures.main)
