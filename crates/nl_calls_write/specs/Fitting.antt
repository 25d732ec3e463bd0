-- Whether a file and the volume are ready for the pages of a call that writes.
use Rattle.std.specs.Prelude.{◌≡◌, ℕ, ◌+◌, ◌<◌, ◌≤◌, IsSome, Option, Some, None}
use Rattle.nl_field.specs.declared.inode.InodeRec.{InodeRec}
use Rattle.nl_tree.specs.declared.reply.Refusal.{Refusal}
use Rattle.nl_iface.specs.declared.counts.Counts.{Ghosts}
use Rattle.nl_inode.specs.Nodes.{page_of_node}
use Rattle.nl_indirect.specs.Ranges.{HasRange}
use Rattle.nl_meta.specs.Pages.{page_of}
use Rattle.nl_core.specs.Core.{running_of}
use Rattle.nl_core.specs.declared.state.Core.{Core}
use Rattle.nl_calls_files.specs.Fits.{IsFileOf}
use Rattle.nl_calls_files.specs.LineNeeds.{free_addresses, new_pointers, new_ranges}
use Rattle.nl_calls_bytes.specs.Contents.{count_indexes, first_index, indexes_written}
use Rattle.nl_calls_bytes.specs.Room.{room_refusal}
use Rattle.nl_calls_write.specs.declared.answer.Fits.{Fits}
use Rattle.nl_calls_write.specs.declared.answer.Fits.TheVariants as fits

-- what refuses to give each of them a page, where the files have so many
abbrev pub refusal_for : {D : Type 0} → Ghosts D → Core D → InodeRec → ℕ → ℕ → ℕ → Option Refusal
refusal_for g v rec from len files =
    room_refusal (free_addresses v.nodes) (new_ranges rec (indexes_written from len)) (g.shape v.device).cap files
    (new_pointers (running_of g v) rec (indexes_written from len))

-- The file's record and the pages of its pointers are resident, and there is room.
pub record FileIsReady {D : Type 0} (g : Ghosts D) (v : Core D) (n from len files : ℕ) (rec : InodeRec) : Type 0 where
  pub file : IsFileOf g v.device v.meta n rec
  pub there : IsSome (page_of v.meta (page_of_node n))
  pub ranges : (i : ℕ) → first_index from ≤ i → i < first_index from + count_indexes from len → HasRange (page_of v.meta) rec i
  pub room : refusal_for g v rec from len files ≡ None

-- The file is ready for the pages, or there is no room for them.
abbrev pub IsFitting : {D : Type 0} → Ghosts D → Core D → ℕ → ℕ → ℕ → ℕ → Fits → Type 0
IsFitting g v n from len files (fits.Fits rec) = FileIsReady g v n from len files rec
IsFitting g v n from len files (fits.No refusal) =
    (rec : InodeRec) × IsFileOf g v.device v.meta n rec × (refusal_for g v rec from len files ≡ Some refusal)
