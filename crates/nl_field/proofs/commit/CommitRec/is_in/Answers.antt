use Rattle.nl_field.specs.Journal.{commit_bytes}
use Rattle.nl_field.proofs.CommitPage.{length-commit_head}
use Rattle.nl_field.proofs.commit.CommitRec.is_in.Goals as goal

pub returns : goal.returns
unfolding commit_bytes
returns c = rw (c.requires, c.head.ensures, length-commit_head c.args.self.now) at c.is_padded.ensures
