-- What is found in the file of a tag, after calls that leave the volume as it was.
use Rattle.std.proofs.Common.{◌≡◌, ◌≢◌, ◌⊎◌, inl, inr, ℕ, ◌≤◌, ◌<◌, Bool, true, false, not, cond, ◌&&◌, ◌||◌, ◌==◌, List, Option, Some, None, IsSome, is_some, refl, sym, ap, subst, ◌∙◌, arith}
use Rattle.std.proofs.lemmas.Bool.{and_parts, both_ways, cases_eq, cases_lt, eqb-true, not-true}
use Rattle.std.specs.Prelude.{IsTrue, bytes_eq, slice_index}
use Rattle.nl_field.specs.Numbers.{ShapeBounds}
use Rattle.nl_field.specs.Pointers.{is_none_pointer, is_pointer, no_pointer, pointer_bytes, pointer_fields, pointer_of}
use Rattle.nl_field.specs.Spelling.{is_stamp}
use Rattle.nl_field.specs.declared.inode.InodeRec.{InodeRec}
use Rattle.nl_field.specs.declared.pointer.Pointer.{Pointer}
use Rattle.nl_field.specs.declared.pointer.Tag.{Tag}
use Rattle.nl_field.specs.declared.shape.Shape.{Shape}
use Rattle.nl_iface.specs.declared.counts.Counts.{Ghosts}
use Rattle.nl_inode.specs.Nodes.{page_of_node}
use Rattle.nl_indirect.specs.Ranges.{HasPointers, HasRange, IsFileRecord, address_of, pointer_in, range_of, slot_of}
use Rattle.nl_indirect.proofs.LawProofs.{at-slot, file_of_node}
use Rattle.nl_indirect.proofs.Pointing.{address-range, at-node, in-range, no-page, on-page, same-page}
use Rattle.nl_indirect.proofs.Records.{file-parts}
use Rattle.nl_indirect.proofs.Spelled.{row-all, spells}
use Rattle.nl_meta.specs.Committed.{VirtualMap}
use Rattle.nl_meta.specs.Consistent.{IsNode}
use Rattle.nl_meta.specs.Nodes.{pointer_at, slot_in, slots_of}
use Rattle.nl_meta.specs.Pages.{Pages, page_of}
use Rattle.nl_meta.specs.Running.{or_stored, running_over}
use Rattle.nl_meta.proofs.Lists.{some_in}
use Rattle.nl_meta_running.specs.Running.{IsNeeded, RunningIsRight, PreservesRunning, running_on, stored_on}
use Rattle.nl_meta_running.proofs.Kept.{used-on}
use Rattle.nl_handler.specs.Changing.{TaggedPointerIsResident}
use Rattle.nl_handler.specs.Handling.{HasTagged, HoldsTagged, TagsFile, is_of}

-- ---- pointers of a node in two maps

-- a page that a node has is needed
pub slot-needed : (shape : Shape) (pages : VirtualMap) (n : ℕ) (rec : InodeRec) → IsNode shape pages n rec → (r : ℕ) → slice_index (slots_of rec) r ≢ 0 → IsNeeded shape pages (slice_index (slots_of rec) r)
slot-needed shape pages n rec is r far = inr (n, r, record { rec = rec; is_node = is; in_slot = at-slot (slots_of rec) r far; not_zero = far })

-- without a page there is no pointer, whatever the map
pub none-in-range : (pages : VirtualMap) (rec : InodeRec) (i : ℕ) → 8 ≤ i → slice_index (slots_of rec) (range_of i) ≡ 0 → pointer_at pages rec i ≡ no_pointer
none-in-range pages rec i high none = in-range pages rec i high ∙ no-page pages (slice_index (slots_of rec) (range_of i)) (slot_of i) none

-- Where two maps have the same pages that are needed, a node has the same pointers.
pub pointers-same : (shape : Shape) (old new : VirtualMap) → ((v : ℕ) → IsNeeded shape old v → new v ≡ old v) → (n : ℕ) (rec : InodeRec) → IsNode shape old n rec → (i : ℕ) → pointer_at new rec i ≡ pointer_at old rec i
pointers-same shape old new same n rec is i = by (cases_lt i 8) (cases_eq (slice_index (slots_of rec) (range_of i)) 0)
  where
    by : (i < 8) ⊎ (8 ≤ i) → (slice_index (slots_of rec) (range_of i) ≡ 0) ⊎ (slice_index (slots_of rec) (range_of i) ≢ 0) → pointer_at new rec i ≡ pointer_at old rec i
    by (inl low) any = at-node new rec i low ∙ sym (at-node old rec i low)
    by (inr high) (inl none) = none-in-range new rec i high none ∙ sym (none-in-range old rec i high none)
    by (inr high) (inr far) =
        in-range new rec i high ∙ same-page old new (slice_index (slots_of rec) (range_of i)) (slot_of i) (same (slice_index (slots_of rec) (range_of i)) (slot-needed shape old n rec is (range_of i) far))
        ∙ sym (in-range old rec i high)

-- ---- over the pages themselves

or-self : (o : Option (List ℕ)) → or_stored o o ≡ o
or-self None = refl
or-self (Some bytes) = refl

-- the resident pages over themselves
pub self-over : (q : Pages) → running_over (page_of q) q ≡ page_of q
unfolding running_over
self-over q = λ i v. or-self (page_of q v) i

-- ---- what is spelled has a stamp

stamp-of : (p : Pointer) → is_pointer p ≡ true → is_none_pointer p ≡ false → is_stamp p.stamp ≡ true
stamp-of p is some = by (is_none_pointer p) some is
  where
    open-or : (b c : Bool) → b ≡ false → (b || c) ≡ true → c ≡ true
    open-or false c e h = h
    open-or true c e h = absurd (both_ways true e refl)

    by : (b : Bool) → b ≡ false → (b || is_stamp p.stamp) ≡ true → is_stamp p.stamp ≡ true
    by b e h = open-or b (is_stamp p.stamp) e h

slot-pointer : (bytes : List ℕ) (p : Pointer) → pointer_of bytes ≡ Some p → is_pointer (pointer_fields bytes) ≡ true
unfolding pointer_of
slot-pointer bytes p e = by (is_pointer (pointer_fields bytes) && bytes_eq (pointer_bytes (pointer_fields bytes)) bytes) refl (ap is_some e)
  where
    by : (b : Bool) → (is_pointer (pointer_fields bytes) && bytes_eq (pointer_bytes (pointer_fields bytes)) bytes) ≡ b → IsSome (cond b (Some (pointer_fields bytes)) None) → is_pointer (pointer_fields bytes) ≡ true
    by true t h = (and_parts (is_pointer (pointer_fields bytes)) (bytes_eq (pointer_bytes (pointer_fields bytes)) bytes) t).0
    by false t h = absurd (both_ways false refl h)

-- A pointer of a file whose range spells pointers has a stamp.
pub pointer-spelled : (pages : VirtualMap) (rec : InodeRec) (i : ℕ) → IsFileRecord rec → HasRange pages rec i → is_none_pointer (pointer_at pages rec i) ≡ false → is_stamp (pointer_at pages rec i).stamp ≡ true
pointer-spelled pages rec i file range some = stamp-of (pointer_at pages rec i) (by (cases_lt i 8)) some
  where
    none : pointer_at pages rec i ≡ no_pointer → ⊥
    none e = both_ways (is_none_pointer (pointer_at pages rec i)) some (ap is_none_pointer e)

    by : (i < 8) ⊎ (8 ≤ i) → is_pointer (pointer_at pages rec i) ≡ true
    by (inl low) = let p = file-parts rec file in let l = p.direct in ap is_pointer (at-node pages rec i low) ∙ row-all rec.direct p.pointers i (omega (arith, low, l))
    by (inr high) = ap is_pointer there ∙ slot-pointer (slot_in 16 (slot_of i) has.bytes) _ ((spells has.bytes has.spelled).each (slot_of i) below)
      where
        far : address_of rec i ≢ 0
        far z = none (none-in-range pages rec i high (sym (address-range rec i high) ∙ z))

        has : HasPointers pages (address_of rec i)
        has = range far

        below : slot_of i < 256
        below = omega arith

        there : pointer_at pages rec i ≡ pointer_in has.bytes (slot_of i)
        there = in-range pages rec i high
            ∙ on-page pages (slice_index (slots_of rec) (range_of i)) (slot_of i) has.bytes (λ z. far (address-range rec i high ∙ z))
            (ap pages (sym (address-range rec i high)) ∙ has.there)

-- ---- what is found

module _ {D : Type 0} (g : Ghosts D) (s : D) (p : Pages) (bounds : ShapeBounds (g.shape s)) (runs : RunningIsRight g s p) (tag : Tag) (rec : InodeRec) (file : TagsFile (g.shape s) (running_on g s p) tag rec)
    (t : D) (q : Pages) (on : PreservesRunning g s p t q) where
  -- the file is the same
  pub file-on : TagsFile (g.shape t) (running_on g t q) tag rec
  file-on = record { is_node = used-on g s p t q bounds on tag.ino rec file.is_node; tagged = file.tagged }

  pointer-back : pointer_at (running_on g t q) rec tag.index ≡ pointer_at (running_on g s p) rec tag.index
  pointer-back = pointers-same (g.shape s) (running_on g s p) (running_on g t q) on.needed tag.ino rec file.is_node tag.index

  module _ (stamp : ℕ) (answer : Bool) (is : (device : VirtualMap) → answer ≡ is_of stamp (pointer_at (running_over device q) rec tag.index)) where
    pub has-tagged : answer ≡ true → HasTagged (g.shape s) (running_on g s p) tag stamp rec
    has-tagged told = record { file = file; pointer = ap (is_of stamp) (sym pointer-back) ∙ sym (is (stored_on g t)) ∙ told }

    pub none-tagged : answer ≡ false → HoldsTagged (g.shape s) (running_on g s p) tag stamp → ⊥
    none-tagged untold (r, has) =
        let same : r ≡ rec = some_in _ _ (sym has.file.is_node.spelled ∙ file.is_node.spelled) in
        both_ways (is_of stamp (pointer_at (running_on g t q) rec tag.index)) (sym (is (stored_on g t)) ∙ untold)
        (ap (is_of stamp) pointer-back ∙ ap (λ (k : InodeRec). is_of stamp (pointer_at (running_on g s p) k tag.index)) (sym same) ∙ has.pointer)

    module _ (told : answer ≡ true) (node : IsSome (page_of q (page_of_node tag.ino))) (range : HasRange (page_of q) rec tag.index) where
      here : is_of stamp (pointer_at (page_of q) rec tag.index) ≡ true
      here = ap (λ (m : VirtualMap). is_of stamp (pointer_at m rec tag.index)) (sym (self-over q)) ∙ sym (is (page_of q)) ∙ told

      parts : (not (is_none_pointer (pointer_at (page_of q) rec tag.index)) ≡ true) × (((pointer_at (page_of q) rec tag.index).stamp == stamp) ≡ true)
      parts = and_parts (not (is_none_pointer (pointer_at (page_of q) rec tag.index))) ((pointer_at (page_of q) rec tag.index).stamp == stamp) here

      a-file : IsFileRecord rec
      a-file = (file_of_node (g.shape s) (running_on g s p) tag.ino rec runs.addresses file.is_node file.tagged.is_file).file

      pub at-hand : TaggedPointerIsResident q tag rec
      at-hand = record { node = node; file = a-file; range = range; some = not-true _ parts.0 }

      pub stamp-spelled : IsTrue (is_stamp stamp)
      stamp-spelled = subst (λ (n : ℕ). is_stamp n ≡ true) (eqb-true _ _ parts.1) (pointer-spelled (page_of q) rec tag.index a-file range (not-true _ parts.0))
