use Rattle.std.proofs.Common.{◌∙◌, ◌++◌, List, ap}
use Rattle.nl_meta.specs.Nodes.{Held}
use Rattle.nl_meta.specs.Pages.{page_of}
use Rattle.nl_recover.proofs.HeldFacts.{file-held, file-ranges, file-record}
use Rattle.nl_recover.proofs.held.node_held.Goals as goal

pub file_held-requires-clause-file : goal.file_held-requires-clause-file
file_held-requires-clause-file c = file-record c.args.shape.now (page_of c.args.meta.now) c.requires.addresses c.args.ino c.in-Some.rec c.requires.below c.in-Some.ensures c.in-File.is

pub file_held-requires-clause-ranges : goal.file_held-requires-clause-ranges
file_held-requires-clause-ranges c = file-ranges c.args.shape.now (page_of c.args.meta.now) c.requires.addresses c.args.ino c.in-Some.rec c.requires.below c.in-Some.ensures c.in-File.is

pub returns-in_ok-file_held-in-File-clause-held : goal.returns-in_ok-file_held-in-File-clause-held
returns-in_ok-file_held-in-File-clause-held c =
    c.in_ok-file_held-in-File.ensures.held
    ∙ ap (λ (l : List Held). c.args.held.now ++ l) (file-held (page_of c.args.meta.now) c.args.ino c.in-Some.rec c.in-Some.ensures
    (file-record c.args.shape.now (page_of c.args.meta.now) c.requires.addresses c.args.ino c.in-Some.rec c.requires.below c.in-Some.ensures c.in-File.is))
