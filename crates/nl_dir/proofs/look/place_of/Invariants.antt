use Rattle.std.proofs.Common.{◌≡◌, ◌≢◌, ℕ, ◌*◌, ◌<◌, Some}
use Rattle.nl_field.specs.declared.entry.EntryRec.{EntryRec}
use Rattle.nl_meta.specs.Pages.{page_of}
use Rattle.nl_dir.specs.Directory.{entry_at}
use Rattle.nl_dir.proofs.look.place_of.Given as goal

abbrev pub invariant-loop-row : goal.invariant-loop-row
invariant-loop-row l = (i : ℕ) (e : EntryRec) → i < 64 * l.row → i < l.rec.size → entry_at (page_of l.meta) l.rec i ≡ Some e → e.name ≢ l.name
