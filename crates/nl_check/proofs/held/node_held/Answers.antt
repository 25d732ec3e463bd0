use Rattle.std.proofs.Common.{◌∙◌, ◌++◌, List, ap}
use Rattle.nl_meta.specs.Nodes.{Held}
use Rattle.nl_meta.specs.Pages.{page_of}
use Rattle.nl_check.proofs.Gathered.{file-held}
use Rattle.nl_check.proofs.held.node_held.Goals as goal

pub returns-in_ok-file_held-in-File-clause-held : goal.returns-in_ok-file_held-in-File-clause-held
returns-in_ok-file_held-in-File-clause-held c =
    c.in_ok-file_held-in-File.ensures.held
    ∙ ap (λ (l : List Held). c.args.held.now ++ l) (file-held (page_of c.args.meta.now) c.args.ino c.in-Some.rec c.in-Some.ensures c.in-File.is)
