use Rattle.std.proofs.Common.{◌∙◌, List, ℕ, sym, ap, is_some}
use Rattle.nl_field.specs.EntryRecord.{entry_of}
use Rattle.nl_meta.specs.Nodes.{entries_of_inode}
use Rattle.nl_meta.specs.Pages.{page_of}
use Rattle.nl_dir.specs.Directory.{entry_at}
use Rattle.nl_dir.proofs.EntryLists.{listed-at}
use Rattle.nl_dir.proofs.PlaceFacts.{shown}
use Rattle.nl_dir.proofs.look.entry_at.Goals as goal

pub entry_in-requires-clause-there : goal.entry_in-requires-clause-there
entry_in-requires-clause-there c =
    let at = shown (page_of c.args.meta.now) c.args.rec.now c.args.place c.page_at.result.now.main c.page_at.ensures in
    sym (ap (λ (l : List ℕ). is_some (entry_of l)) at) ∙ c.requires.directory.entries c.args.place c.requires.below

pub returns : goal.returns
unfolding entries_of_inode
returns c =
    let at = shown (page_of c.args.meta.now) c.args.rec.now c.args.place c.page_at.result.now.main c.page_at.ensures in
    listed-at (entry_at (page_of c.args.meta.now) c.args.rec.now) c.args.rec.now.size c.requires.directory.entries c.args.place c.requires.below ∙ ap entry_of at ∙ c.entry_in.ensures
