-- What is stored in place of a pointer.
use Rattle.std.proofs.Common.{◌≡◌, ◌⊎◌, inl, inr, ℕ, ◌≤◌, ◌<◌, Option, Some, None, refl, sym, ap, ◌∙◌}
use Rattle.std.proofs.lemmas.Bool.{both_ways, cases_lt}
use Rattle.std.specs.Prelude.{IsTrue}
use Rattle.nl_field.specs.Pointers.{is_none_pointer, no_pointer}
use Rattle.nl_field.specs.Spelling.{is_stamp}
use Rattle.nl_field.specs.declared.inode.InodeRec.{InodeRec}
use Rattle.nl_field.specs.declared.pointer.Pointer.{Pointer}
use Rattle.nl_field.specs.declared.pointer.Tag.{Tag}
use Rattle.nl_meta.specs.Nodes.{pointer_at}
use Rattle.nl_meta.specs.Pages.{Pages, page_of}
use Rattle.nl_meta.specs.Running.{CleanIsStored, running_over}
use Rattle.nl_indirect.specs.Ranges.{slot_of}
use Rattle.nl_indirect.specs.Storing.{BeginsRange, Stores}
use Rattle.nl_indirect.specs.declared.answer.Stored.{Stored}
use Rattle.nl_indirect.specs.declared.answer.Stored.TheVariants.{Done, Emptied}
use Rattle.nl_indirect.proofs.Cases.{to-some}
use Rattle.nl_indirect.proofs.Pointing.{address-node, address-range, in-range, no-page}
use Rattle.nl_handler.specs.Changing.{TaggedPointerIsResident}

-- the resident pages as a device
pub self : (p : Pages) → CleanIsStored (page_of p) p
self p = record { each = λ u bytes there clean frozen. there }

-- an index with a pointer has a page, or the node has it
pub begins-not : (p : Pages) (tag : Tag) (rec : InodeRec) (to : Option Pointer) → TaggedPointerIsResident p tag rec → BeginsRange rec tag.index to → ⊥
begins-not p tag rec to h b = both_ways (is_none_pointer (pointer_at (page_of p) rec tag.index)) h.some (ap is_none_pointer none)
  where
    none : pointer_at (page_of p) rec tag.index ≡ no_pointer
    none = in-range (page_of p) rec tag.index b.in_range ∙ no-page (page_of p) _ (slot_of tag.index) (sym (address-range rec tag.index b.in_range) ∙ b.no_page)

-- a range that gets a pointer is not emptied
pub stores-done : (index : ℕ) (to : Pointer) (was is : InodeRec) (old new : Pages) (answer : Stored) → IsTrue (is_stamp to.stamp) → Stores index to None was is old new answer → Stores index to None was is old new Done
stores-done index to was is old new Done spelled stores = stores
stores-done index to was is old new (Emptied a) spelled stores = absurd (by (cases_lt index 8))
  where
    by : (index < 8) ⊎ (8 ≤ index) → ⊥
    by (inl low) = stores.answered.0 (sym stores.answered.1 ∙ address-node was index low)
    by (inr high) = both_ways (is_none_pointer to) (to-some (Some to) spelled refl) (ap is_none_pointer none)
      where
        none : to ≡ no_pointer
        none =
            sym (stores.pointers (page_of old) (self old)).at
            ∙ in-range (running_over (page_of old) new) is index high
            ∙ no-page (running_over (page_of old) new) _ (slot_of index) (sym (address-range is index high) ∙ stores.answered.2)
