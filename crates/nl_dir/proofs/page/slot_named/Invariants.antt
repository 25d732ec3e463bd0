use Rattle.std.proofs.Common.{◌≡◌, ◌<◌, ℕ, false, bytes_eq}
use Rattle.nl_field.specs.EntryRecord.{entry_fields}
use Rattle.nl_meta.specs.Nodes.{slot_in}
use Rattle.nl_dir.proofs.page.slot_named.Given as goal

abbrev pub invariant-loop-slot : goal.invariant-loop-slot
invariant-loop-slot l = (slot : ℕ) → slot < l.slot → bytes_eq (entry_fields (slot_in 64 slot l.page.main)).name l.name ≡ false
