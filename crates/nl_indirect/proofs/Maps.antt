-- What a change of a file's record and of one page means for the pointers by index, in any map of pages.
use Rattle.std.proofs.Common.{◌≡◌, ◌≢◌, ℕ, ◌≤◌, ◌<◌, true, List, length, get_or, refl, sym, ap, ◌∙◌, Some, ◌⊎◌, inl, inr, arith}
use Rattle.std.proofs.lemmas.Bool.{cases_eq, cases_lt}
use Rattle.std.proofs.lemmas.List.{get_or-set_same, get_or-set_other}
use Rattle.nl_field.specs.Bytes.{zeros}
use Rattle.nl_field.specs.Pointers.{is_none_pointer, no_pointer, pointer_bytes, pointer_fields, pointer_of}
use Rattle.nl_field.specs.declared.inode.InodeRec.{InodeRec}
use Rattle.nl_field.specs.declared.pointer.Pointer.{Pointer}
use Rattle.nl_meta.specs.Committed.{VirtualMap}
use Rattle.nl_meta.specs.Nodes.{pointer_at, pointer_in_page}
use Rattle.nl_meta.specs.SlotLaws.{with_slot}
use Rattle.nl_indirect.specs.Ranges.{IsFileRecord, address_of, pointer_in, range_of, slot_of}
use Rattle.nl_indirect.specs.Storing.{StoresPointer}
use Rattle.nl_indirect.proofs.Pointing.{address-range, at-node, in-range, no-page, none-is, on-page, same-page, slots-differ}
use Rattle.nl_indirect.proofs.Records.{FileParts, file-parts, with-address, with-pointer}
use Rattle.nl_indirect.proofs.Spelled.{kept-slot, put-pointer, spells-zeros, zero-slot}

module _ (was : InodeRec) (file : IsFileRecord was) (index : ℕ) where
  parts : FileParts was
  parts = file-parts was file

  abbrev here : ℕ
  here = get_or was.addresses (range_of index) 0

  -- a pointer of the node
  pub in-node : (pages : VirtualMap) (to : Pointer) → index < 8 → StoresPointer index to was (with-pointer was index to) pages pages
  in-node pages to low = record {
    at = at-node pages (with-pointer was index to) index low ∙ get_or-set_same was.direct index to no_pointer (let l = parts.direct in omega (arith, low, l));
    others = λ i far. others i far (cases_lt i 8);
    pages = λ v h. refl;
  }
    where
      others : (i : ℕ) → i ≢ index → (i < 8) ⊎ (8 ≤ i) → pointer_at pages (with-pointer was index to) i ≡ pointer_at pages was i
      others i far (inl low) = at-node pages (with-pointer was index to) i low ∙ get_or-set_other was.direct index i to no_pointer far ∙ sym (at-node pages was i low)
      others i far (inr high) = in-range pages (with-pointer was index to) i high ∙ sym (in-range pages was i high)

  module _ (high : 8 ≤ index) where
    -- none, where the range has none
    pub none-there : (pages : VirtualMap) → here ≡ 0 → StoresPointer index no_pointer was was pages pages
    none-there pages e = record {
      at = in-range pages was index high ∙ no-page pages here (slot_of index) e;
      others = λ i far. refl;
      pages = λ v h. refl;
    }

    module _ (within : index < 4104) where
      abbrev with : ℕ → InodeRec
      with a = with-address was (range_of index) a

      set-here : (a : ℕ) → get_or (with a).addresses (range_of index) 0 ≡ a
      set-here a = get_or-set_same was.addresses (range_of index) a 0 (let l = parts.addresses in omega (arith, within, l))

      pub address-with : (a : ℕ) → address_of (with a) index ≡ a
      address-with a = address-range (with a) index high ∙ set-here a

      set-off : (a i : ℕ) → range_of i ≢ range_of index → get_or (with a).addresses (range_of i) 0 ≡ get_or was.addresses (range_of i) 0
      set-off a i far = get_or-set_other was.addresses (range_of index) (range_of i) a 0 far

      -- the last pointer of a range goes, and its address
      pub last-gone : (pages : VirtualMap) (bytes : List ℕ) → here ≢ 0 → pages here ≡ Some bytes
          → ((j : ℕ) → j < 256 → j ≢ slot_of index → is_none_pointer (pointer_in bytes j) ≡ true) → StoresPointer index no_pointer was (with 0) pages pages
      last-gone pages bytes far is none = record {
        at = in-range pages (with 0) index high ∙ no-page pages _ (slot_of index) (set-here 0);
        others = λ i off. others i off (cases_lt i 8);
        pages = λ v h. refl;
      }
        where
          ranged : (i : ℕ) → i ≢ index → 8 ≤ i → (range_of i ≡ range_of index) ⊎ (range_of i ≡ range_of index → ⊥) → pointer_at pages (with 0) i ≡ pointer_at pages was i
          ranged i off hi (inl e) =
              in-range pages (with 0) i hi ∙ no-page pages _ (slot_of i) (ap (λ (r : ℕ). get_or (with 0).addresses r 0) e ∙ set-here 0)
              ∙ sym
              (in-range pages was i hi ∙ ap (λ (r : ℕ). pointer_in_page pages (get_or was.addresses r 0) (slot_of i)) e ∙ on-page pages here (slot_of i) bytes far is
              ∙ none-is (pointer_in bytes (slot_of i)) (none (slot_of i) (omega arith) (slots-differ i index hi high e off)))
          ranged i off hi (inr out) = in-range pages (with 0) i hi ∙ ap (λ (v : ℕ). pointer_in_page pages v (slot_of i)) (set-off 0 i out) ∙ sym (in-range pages was i hi)

          others : (i : ℕ) → i ≢ index → (i < 8) ⊎ (8 ≤ i) → pointer_at pages (with 0) i ≡ pointer_at pages was i
          others i off (inl low) = at-node pages (with 0) i low ∙ sym (at-node pages was i low)
          others i off (inr hi) = ranged i off hi (cases_eq (range_of i) (range_of index))

    module _ (old new : VirtualMap) (to : Pointer) (back : pointer_of (pointer_bytes to) ≡ Some to) where
      -- a slot of the range's page changes
      pub slot-changed : (bytes : List ℕ) → here ≢ 0 → length bytes ≡ 4096 → old here ≡ Some bytes → new here ≡ Some (with_slot 16 (slot_of index) (pointer_bytes to) bytes)
          → ((v : ℕ) → v ≢ here → new v ≡ old v) → StoresPointer index to was was old new
      slot-changed bytes far whole was-is new-is same = record {
        at = in-range new was index high ∙ on-page new here (slot_of index) _ far new-is ∙ put-pointer bytes whole (slot_of index) below to back;
        others = λ i off. others i off (cases_lt i 8);
        pages = λ v h. same v (λ e. far (sym e ∙ h (e ∙ sym (address-range was index high))));
      }
        where
          below : slot_of index < 256
          below = omega arith

          ranged : (i : ℕ) → i ≢ index → 8 ≤ i → (get_or was.addresses (range_of i) 0 ≡ here) ⊎ (get_or was.addresses (range_of i) 0 ≡ here → ⊥) → pointer_at new was i ≡ pointer_at old was i
          ranged i off hi (inl e) =
              in-range new was i hi ∙ ap (λ (v : ℕ). pointer_in_page new v (slot_of i)) e ∙ on-page new here (slot_of i) _ far new-is
              ∙ ap pointer_fields (kept-slot bytes whole (slot_of index) below to (slot_of i) (slots-differ i index hi high (file.differ (range_of index) (range_of i) far e) off))
              ∙ sym (in-range old was i hi ∙ ap (λ (v : ℕ). pointer_in_page old v (slot_of i)) e ∙ on-page old here (slot_of i) bytes far was-is)
          ranged i off hi (inr out) = in-range new was i hi ∙ same-page old new _ (slot_of i) (same _ out) ∙ sym (in-range old was i hi)

          others : (i : ℕ) → i ≢ index → (i < 8) ⊎ (8 ≤ i) → pointer_at new was i ≡ pointer_at old was i
          others i off (inl low) = at-node new was i low ∙ sym (at-node old was i low)
          others i off (inr hi) = ranged i off hi (cases_eq (get_or was.addresses (range_of i) 0) here)

      -- a new page has the first pointer of the range
      pub page-begun : (within : index < 4104) (a : ℕ) → here ≡ 0 → a ≢ 0 → ((r : ℕ) → get_or was.addresses r 0 ≢ a)
          → new a ≡ Some (with_slot 16 (slot_of index) (pointer_bytes to) (zeros 4096)) → ((v : ℕ) → v ≢ a → new v ≡ old v) → StoresPointer index to was (with within a) old new
      page-begun within a none far unused new-is same = record {
        at = in-range new (with within a) index high ∙ ap (λ (v : ℕ). pointer_in_page new v (slot_of index)) (set-here within a) ∙ on-page new a (slot_of index) _ far new-is
            ∙ put-pointer (zeros 4096) whole (slot_of index) below to back;
        others = λ i off. others i off (cases_lt i 8);
        pages = λ v h. same v (λ e. far (sym e ∙ h (e ∙ sym (address-with within a))));
      }
        where
          below : slot_of index < 256
          below = omega arith

          whole : length (zeros 4096) ≡ 4096
          whole = spells-zeros.whole

          ranged : (i : ℕ) → i ≢ index → 8 ≤ i → (range_of i ≡ range_of index) ⊎ (range_of i ≡ range_of index → ⊥) → pointer_at new (with within a) i ≡ pointer_at old was i
          ranged i off hi (inl e) =
              in-range new (with within a) i hi ∙ ap (λ (v : ℕ). pointer_in_page new v (slot_of i)) (ap (λ (r : ℕ). get_or (with within a).addresses r 0) e ∙ set-here within a) ∙ on-page new a (slot_of i) _ far new-is
              ∙ ap pointer_fields (kept-slot (zeros 4096) whole (slot_of index) below to (slot_of i) (slots-differ i index hi high e off)) ∙ zero-slot (slot_of i) (omega arith)
              ∙ sym (in-range old was i hi ∙ no-page old _ (slot_of i) (ap (λ (r : ℕ). get_or was.addresses r 0) e ∙ none))
          ranged i off hi (inr out) =
              in-range new (with within a) i hi ∙ ap (λ (v : ℕ). pointer_in_page new v (slot_of i)) (set-off within a i out)
              ∙ same-page old new _ (slot_of i) (same _ (unused (range_of i))) ∙ sym (in-range old was i hi)

          others : (i : ℕ) → i ≢ index → (i < 8) ⊎ (8 ≤ i) → pointer_at new (with within a) i ≡ pointer_at old was i
          others i off (inl low) = at-node new (with within a) i low ∙ sym (at-node old was i low)
          others i off (inr hi) = ranged i off hi (cases_eq (range_of i) (range_of index))
