use Rattle.std.proofs.Common.{ℕ, List, sym, ap, ◌∙◌, Option, option_and_then}
use Rattle.std.specs.Prelude.{slice_get}
use Rattle.nl_field.specs.declared.entry.EntryRec.{EntryRec}
use Rattle.nl_meta.specs.Nodes.{entries_of_inode}
use Rattle.nl_meta.specs.Pages.{page_of}
use Rattle.nl_volume_list.specs.Entries.{is_behind, is_lesser}
use Rattle.nl_volume_list.proofs.entries.is_before.Goals as goal

pub returns-in-Some : goal.returns-in-Some
returns-in-Some c =
    let es = entries_of_inode (page_of c.args.meta.now) c.args.rec.now in
    let n = c.name_at.ensures in
    c.comes_behind.ensures ∙ ap (λ (name : List ℕ). is_behind c.args.name.now name) n.2
    ∙ sym (ap (λ (o : Option ℕ). is_lesser c.args.name.now (option_and_then (slice_get es) o)) c.in-Some.is ∙ ap (λ (o : Option EntryRec). is_lesser c.args.name.now o) n.1)
