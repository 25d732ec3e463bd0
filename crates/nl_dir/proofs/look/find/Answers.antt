use Rattle.std.proofs.Common.{◌∙◌, sym}
use Rattle.nl_meta.specs.Nodes.{entries_of_inode}
use Rattle.nl_meta.specs.Pages.{page_of}
use Rattle.nl_dir.specs.Directory.{entry_at}
use Rattle.nl_dir.proofs.EntryLists.{listed-at}
use Rattle.nl_dir.proofs.LookProofs.{finds-at, finds-none}
use Rattle.nl_dir.proofs.look.find.Goals as goal

pub returns-in-Some : goal.returns-in-Some
unfolding entries_of_inode
returns-in-Some c =
    let at = c.in-Some.ensures in
    let pages = page_of c.args.meta.now in
    let rec = c.args.rec.now in
    sym c.entry_at.ensures ∙ listed-at (entry_at pages rec) rec.size c.requires.entries c.in-Some.place at.below ∙ at.at ∙ sym (finds-at pages rec c.args.name.now c.in-Some.place at c.requires)

pub returns-in-None : goal.returns-in-None
returns-in-None c = sym (finds-none (page_of c.args.meta.now) c.args.rec.now c.args.name.now c.in-None.ensures)
