-- A pointer that is installed.
use Rattle.std.proofs.Common.{◌≡◌, ◌⊎◌, inl, inr, ℕ, ◌-◌, ◌≤◌, ◌<◌, nat_le, true, is_some, Option, Some, None, refl, sym, ap, ◌∙◌}
use Rattle.std.specs.Prelude.{IsTrue, MatchOption}
use Rattle.std.proofs.lemmas.Bool.{and_parts, both_ways, cases_lt}
use Rattle.nl_field.specs.Pointers.{is_none_pointer, no_pointer}
use Rattle.nl_field.specs.Spelling.{is_stamp}
use Rattle.nl_field.specs.declared.inode.InodeRec.{InodeRec}
use Rattle.nl_field.specs.declared.pointer.Pointer.{Pointer}
use Rattle.nl_meta.specs.Pages.{Pages, page_of}
use Rattle.nl_meta.specs.Running.{CleanIsStored, running_over}
use Rattle.nl_inode.specs.Free.{NoneFree, is_free}
use Rattle.nl_inode.specs.Nodes.{IsLeastAddress, Spaces}
use Rattle.nl_indirect.specs.Ranges.{slot_of}
use Rattle.nl_indirect.specs.Storing.{Stores}
use Rattle.nl_indirect.specs.declared.answer.Stored.{Stored}
use Rattle.nl_indirect.specs.declared.answer.Stored.TheVariants.{Done, Emptied}
use Rattle.nl_indirect.proofs.Cases.{to-some}
use Rattle.nl_indirect.proofs.Pointing.{address-node, address-range, in-range, no-page}
use Rattle.nl_files.specs.Installing.{HasFree}

-- where an address is free, one is taken
pub some-taken : (r : Option ℕ) (s : Spaces) → MatchOption r (NoneFree s.pool) (λ a. IsLeastAddress a s) → HasFree s → is_some r ≡ true
some-taken (Some a) s least has = refl
some-taken None s none has = absurd (both_ways _ (none (has.0 - s.first)) (and_parts (nat_le s.first has.0) (is_free s.pool (has.0 - s.first)) has.1).1)

-- a range that gets a pointer is not emptied
pub stores-done : (index : ℕ) (to : Pointer) (fresh : Option ℕ) (was is : InodeRec) (old new : Pages) (answer : Stored) → IsTrue (is_stamp to.stamp) → Stores index to fresh was is old new answer → Stores index to fresh was is old new Done
stores-done index to fresh was is old new Done spelled stores = stores
stores-done index to fresh was is old new (Emptied a) spelled stores = absurd (by (cases_lt index 8))
  where
    self : CleanIsStored (page_of old) old
    self = record { each = λ u bytes there clean frozen. there }

    by : (index < 8) ⊎ (8 ≤ index) → ⊥
    by (inl low) = stores.answered.0 (sym stores.answered.1 ∙ address-node was index low)
    by (inr high) = both_ways (is_none_pointer to) (to-some (Some to) spelled refl) (ap is_none_pointer none)
      where
        none : to ≡ no_pointer
        none =
            sym (stores.pointers (page_of old) self).at
            ∙ in-range (running_over (page_of old) new) is index high
            ∙ no-page (running_over (page_of old) new) _ (slot_of index) (sym (address-range is index high) ∙ stores.answered.2)
