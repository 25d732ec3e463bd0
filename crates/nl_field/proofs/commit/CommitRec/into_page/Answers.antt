use Rattle.std.proofs.Common.{refl}
use Rattle.nl_field.specs.Journal.{commit_bytes}
use Rattle.nl_field.proofs.CommitPage.{length-commit_head, commit-spelled}
use Rattle.nl_field.proofs.commit.CommitRec.into_page.Goals as goal

pub returns-clause-main : goal.returns-clause-main
unfolding commit_bytes
returns-clause-main c = rw (c.head.ensures, length-commit_head c.args.self.now) at c.set_head.ensures.main

pub returns-clause-back : goal.returns-clause-back
returns-clause-back c = commit-spelled c.args.self.now refl c.requires.spelled
