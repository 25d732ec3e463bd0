use Rattle.std.proofs.Common.{ap, Some, ◌∙◌, sym}
use Rattle.nl_inode.proofs.FetchFacts.{read-bytes, unread-bytes}
use Rattle.nl_recover.proofs.LoadFacts.{absent-bytes}
use Rattle.nl_check.proofs.reading.read_into.Goals as goal

pub returns-in-Done-clause-page : goal.returns-in-Done-clause-page
returns-in-Done-clause-page g c = λ t. let r = c.in-Done.ensures.value t in read-bytes _ _ c.args.vaddr r.0 _ c.requires.within r.1

pub returns-then-is_inode-clause-page : goal.returns-then-is_inode-clause-page
returns-then-is_inode-clause-page g c = λ t.
    unread-bytes _ _ c.args.vaddr c.requires.within (c.in-Unmapped.ensures.value t) (sym c.requires.inode ∙ c.if-is_inode.true) ∙ ap (λ main. Some main) (sym c.clear.ensures.main)

pub returns-else-is_inode-clause-page : goal.returns-else-is_inode-clause-page
returns-else-is_inode-clause-page g c = λ t. absent-bytes _ _ c.args.vaddr c.requires.within (c.in-Unmapped.ensures.value t) (sym c.requires.inode ∙ c.if-is_inode.false)
