-- Each way that a pointer is stored.
use Rattle.std.proofs.Common.{◌≡◌, ◌≢◌, ℕ, zero, suc, ◌+◌, ◌≤◌, ◌<◌, Bool, true, false, ◌&&◌, ◌||◌, ◌==◌, ◌^◌, nat_le, nat_lt, List, [], ◌∷◌, length, get_or, refl, sym, ap, ◌∙◌, subst, Option, Some, None, IsSome, is_some, unwrap_or, ◌⊎◌, inl, inr, arith}
use Rattle.std.proofs.lemmas.Bool.{and_parts, both_ways, cases_lt, leb-true, ne_eqb}
use Rattle.std.proofs.lemmas.List.{get_or-set_same, get_or-set_other}
use Rattle.std.specs.Prelude.{IfSome, IsTrue}
use Rattle.nl_field.specs.Bytes.{zeros}
use Rattle.nl_field.specs.Pointers.{is_none_pointer, is_pointer, no_pointer, pointer_bytes, pointer_fields, pointer_of}
use Rattle.nl_field.specs.Spelling.{is_stamp}
use Rattle.nl_field.specs.declared.inode.InodeRec.{InodeRec}
use Rattle.nl_field.specs.declared.pointer.Pointer.{Pointer}
use Rattle.nl_meta.specs.Committed.{VirtualMap}
use Rattle.nl_meta.specs.Pages.{Pages, besides_0, page_of}
use Rattle.nl_meta.specs.Running.{CleanIsStored, SetsRunningPage, running_over}
use Rattle.nl_meta.specs.SlotLaws.{with_slot}
use Rattle.nl_meta.specs.Steps.{Freshens, with_dirty}
use Rattle.nl_meta.proofs.Lists.{none_some}
use Rattle.nl_meta.proofs.RunningProofs.{running_map}
use Rattle.nl_indirect.specs.Ranges.{HasOther, HasPointers, IsFileRecord, address_of, pointer_in, range_of, slot_of}
use Rattle.nl_indirect.specs.Storing.{AnswersStored, HasNewPage, IsForNew, KeepsRecord, Stores, StoresPointer, or_none}
use Rattle.nl_indirect.specs.declared.answer.Stored.{Stored}
use Rattle.nl_indirect.specs.declared.answer.Stored.TheVariants.{Done, Emptied}
use Rattle.nl_indirect.proofs.Fresh.{new-page, one-more}
use Rattle.nl_indirect.proofs.Maps.{address-with, in-node, last-gone, none-there, page-begun, slot-changed}
use Rattle.nl_indirect.proofs.Pointing.{address-node, address-range, runs}
use Rattle.nl_indirect.proofs.Records.{file-with-address, file-with-pointer, with-address, with-pointer}
use Rattle.nl_indirect.proofs.Spelled.{HoldsSome, Spells, is-indirect, kept-slot, put-pointer, spells-with, spells-zeros}

pub no-fresh : (fresh : Option ℕ) → (IsSome fresh → ⊥) → fresh ≡ None
no-fresh None h = refl
no-fresh (Some a) h = absurd (h refl)

is-no-fresh : (fresh : Option ℕ) → fresh ≡ None → IsSome fresh → ⊥
is-no-fresh fresh e some = both_ways _ (ap is_some e) some

past : (xs : List (Option (List ℕ))) (v : ℕ) → length xs ≤ v → get_or xs v None ≡ None
past [] v h = refl
past (x ∷ xs) zero h = absurd (omega (arith, h))
past (x ∷ xs) (suc v) h = past xs v (omega (arith, h))

-- a page that is there has an address
pub inside : (p : Pages) (v : ℕ) (bytes : List ℕ) → page_of p v ≡ Some bytes → v < length p.running
inside p v bytes is = by (cases_lt v (length p.running))
  where
    by : (v < length p.running) ⊎ (length p.running ≤ v) → v < length p.running
    by (inl h) = h
    by (inr h) = absurd (none_some bytes (sym (past p.running v h) ∙ is))

pub dirtied : (p : Pages) (v : ℕ) (bytes : List ℕ) → v < length p.running → page_of (with_dirty p v bytes) v ≡ Some bytes
dirtied p v bytes h = get_or-set_same p.running v (Some bytes) None h

-- ---- what is stored

pub to-spelled : (to : Option Pointer) → IfSome to (λ p. IsTrue (is_stamp p.stamp)) → is_pointer (or_none to) ≡ true
to-spelled None h = refl
to-spelled (Some p) h = ap (λ b. is_none_pointer p || b) h ∙ by (is_none_pointer p)
  where
    by : (b : Bool) → (b || true) ≡ true
    by true = refl
    by false = refl

pub to-some : (to : Option Pointer) → IfSome to (λ p. IsTrue (is_stamp p.stamp)) → IsSome to → is_none_pointer (or_none to) ≡ false
to-some None h some = absurd (both_ways false refl some)
to-some (Some p) h some = ap (λ b. p.name == 0 && b) (ne_eqb p.stamp 0 far) ∙ by (p.name == 0)
  where
    far : p.stamp ≢ 0
    far e = let l = leb-true 1 p.stamp (and_parts (nat_le 1 p.stamp) (nat_lt p.stamp (2 ^ 63)) h).0 in absurd (omega (arith, l, e))

    by : (b : Bool) → (b && false) ≡ false
    by true = refl
    by false = refl

pub to-none : (to : Option Pointer) → (IsSome to → ⊥) → or_none to ≡ no_pointer
to-none None h = refl
to-none (Some p) h = absurd (h refl)

-- a page has the pointer that was put into it, where that is one
pub holds-put : (bytes : List ℕ) (i : ℕ) (p : Pointer) → length bytes ≡ 4096 → i < 256 → pointer_of (pointer_bytes p) ≡ Some p → is_none_pointer p ≡ false → HoldsSome (with_slot 16 i (pointer_bytes p) bytes)
holds-put bytes i p whole below back some = record { at = i; below = below; some = ap is_none_pointer (put-pointer bytes whole i below p back) ∙ some }

-- where none was put into a page, it has one of another slot
pub holds-other : (bytes : List ℕ) (i : ℕ) (p : Pointer) → length bytes ≡ 4096 → i < 256 → HasOther bytes i → HoldsSome (with_slot 16 i (pointer_bytes p) bytes)
holds-other bytes i p whole below has = record { at = has.at; below = has.below; some = ap (λ (s : List ℕ). is_none_pointer (pointer_fields s)) (kept-slot bytes whole i below p has.at has.other) ∙ has.some }

-- ---- the ways

module _ (was : InodeRec) (file : IsFileRecord was) (index : ℕ) (within : index < 4104) (fresh : Option ℕ) (old : Pages) where
  below : range_of index < 16
  below = omega (arith, within)

  -- no page changes
  no-change : (is : InodeRec) (to : Pointer) (answer : Stored) → fresh ≡ None → address_of is index ≡ 0
      → ((device : VirtualMap) → StoresPointer index to was is (running_over device old) (running_over device old)) → IsFileRecord is → KeepsRecord index was is → AnswersStored index fresh was is answer
      → Stores index to fresh was is old old answer
  no-change is to answer none nought pointers file kept answered = record {
    pointers = λ device clean. pointers device;
    clean = λ device clean. clean;
    file = file;
    record_kept = kept;
    range = λ far. absurd (far nought);
    pages = record { same = λ e. refl; written = λ far e. absurd (far nought); begun = λ some. absurd (is-no-fresh fresh none some); one_more = omega arith };
    answered = answered;
  }

  without : fresh ≡ None → unwrap_or fresh (address_of was index) ≡ address_of was index
  without e = ap (λ (o : Option ℕ). unwrap_or o (address_of was index)) e

  pub stored-in-node : (to : Pointer) → index < 8 → is_pointer to ≡ true → fresh ≡ None → Stores index to fresh was (with-pointer was index to) old old Done
  stored-in-node to low spelled none =
      no-change (with-pointer was index to) to Done none (address-node (with-pointer was index to) index low) (λ device. in-node was file index (running_over device old) to low)
      (file-with-pointer was index to file spelled) (record { generation = refl; size = refl; addresses = λ r h. refl })
      (address-node (with-pointer was index to) index low ∙ sym (without none ∙ address-node was index low))

  module _ (high : 8 ≤ index) where
    pub stored-nothing : get_or was.addresses (range_of index) 0 ≡ 0 → fresh ≡ None → Stores index no_pointer fresh was was old old Done
    stored-nothing nought none =
        no-change was no_pointer Done none (address-range was index high ∙ nought) (λ device. none-there was file index high (running_over device old) nought) file
        (record { generation = refl; size = refl; addresses = λ r h. refl }) (sym (without none))

    kept-with : (a : ℕ) → KeepsRecord index was (with-address was (range_of index) a)
    kept-with a = record { generation = refl; size = refl; addresses = λ r h. get_or-set_other was.addresses (range_of index) r a 0 (h high) }

    pub stored-emptied : (bytes : List ℕ) → get_or was.addresses (range_of index) 0 ≢ 0 → page_of old (get_or was.addresses (range_of index) 0) ≡ Some bytes
        → ((j : ℕ) → j < 256 → j ≢ slot_of index → is_none_pointer (pointer_in bytes j) ≡ true) → fresh ≡ None
        → Stores index no_pointer fresh was (with-address was (range_of index) 0) old old (Emptied (get_or was.addresses (range_of index) 0))
    stored-emptied bytes far is others none =
        no-change (with-address was (range_of index) 0) no_pointer (Emptied (get_or was.addresses (range_of index) 0)) none (address-with was file index high within 0)
        (λ device. last-gone was file index high within (running_over device old) bytes far (runs device old _ bytes is) others)
        (file-with-address was (range_of index) 0 file below (λ z. absurd (z refl))) (kept-with 0)
        (far, address-range was index high, address-with was file index high within 0)

    module _ (to : Pointer) (back : pointer_of (pointer_bytes to) ≡ Some to) where
      pub stored-written : (bytes : List ℕ) → get_or was.addresses (range_of index) 0 ≢ 0 → page_of old (get_or was.addresses (range_of index) 0) ≡ Some bytes → Spells bytes
          → HoldsSome (with_slot 16 (slot_of index) (pointer_bytes to) bytes) → fresh ≡ None
          → Stores index to fresh was was old (with_dirty old (get_or was.addresses (range_of index) 0) (with_slot 16 (slot_of index) (pointer_bytes to) (unwrap_or (page_of old (get_or was.addresses (range_of index) 0)) []))) Done
      stored-written bytes far is spells some none = subst (λ (l : List ℕ). Stores index to fresh was was old (with_dirty old a (slotted l)) Done) (sym bytes-are) all
        where
          a : ℕ
          a = get_or was.addresses (range_of index) 0

          slotted : List ℕ → List ℕ
          slotted l = with_slot 16 (slot_of index) (pointer_bytes to) l

          bytes-are : unwrap_or (page_of old (get_or was.addresses (range_of index) 0)) [] ≡ bytes
          bytes-are = ap (λ (o : Option (List ℕ)). unwrap_or o []) is

          new : Pages
          new = with_dirty old a (slotted bytes)

          a-below : get_or was.addresses (range_of index) 0 < length old.running
          a-below = inside old (get_or was.addresses (range_of index) 0) bytes is

          changed : (device : VirtualMap) → CleanIsStored device old → SetsRunningPage a (slotted bytes) device old new
          changed device clean = (running_map device old clean).changed a (slotted bytes) a-below

          range : HasPointers (page_of new) a
          range = record {
            bytes = slotted bytes;
            there = dirtied old a (slotted bytes) a-below;
            spelled = is-indirect (slotted bytes) (spells-with bytes spells.whole (slot_of index) (omega arith) to spells back) some;
          }

          all : Stores index to fresh was was old new Done
          all = record {
            pointers = λ device clean.
                let r = changed device clean in
                slot-changed was file index high (running_over device old) (running_over device new) to back bytes far spells.whole (runs device old a bytes is) r.at r.others;
            clean = λ device clean. (changed device clean).clean;
            file = file;
            record_kept = record { generation = refl; size = refl; addresses = λ r h. refl };
            range = λ z. subst (λ (v : ℕ). HasPointers (page_of new) v) (sym (address-range was index high)) range;
            pages = record {
              same = λ e. absurd (far (sym (address-range was index high) ∙ e));
              written = λ z n.
                  ap (λ (l : List ℕ). with_dirty old a (slotted l)) (sym bytes-are)
                  ∙ ap (λ (v : ℕ). with_dirty old v (slotted (unwrap_or (page_of old v) []))) (sym (address-range was index high));
              begun = λ s. absurd (is-no-fresh fresh none s);
              one_more = one-more a old.dirty;
            };
            answered = sym (without none);
          }

      pub stored-begun : (a : ℕ) (blank new : Pages) → get_or was.addresses (range_of index) 0 ≡ 0 → IsForNew old was a → is_none_pointer to ≡ false → fresh ≡ Some a → Freshens a old blank
          → new ≡ with_dirty blank a (with_slot 16 (slot_of index) (pointer_bytes to) (zeros 4096)) → Stores index to fresh was (with-address was (range_of index) a) old new Done
      stored-begun a blank new none-here free some fresh-is is e = subst (λ (p : Pages). Stores index to fresh was (with-address was (range_of index) a) old p Done) (sym e) all
        where
          bytes : List ℕ
          bytes = with_slot 16 (slot_of index) (pointer_bytes to) (zeros 4096)

          next : Pages
          next = with_dirty blank a bytes

          a-below : a < length blank.running
          a-below = let c = is.keeps.count in let i = free.inside in omega (arith, c, i)

          address : address_of (with-address was (range_of index) a) index ≡ a
          address = address-with was file index high within a

          first : (device : VirtualMap) → CleanIsStored device old → SetsRunningPage a (zeros 4096) device old blank
          first device clean = (running_map device old clean).freshened a blank is

          second : (device : VirtualMap) → CleanIsStored device old → SetsRunningPage a bytes device blank next
          second device clean = (running_map device blank (first device clean).clean).changed a bytes a-below

          range : HasPointers (page_of next) a
          range = record {
            bytes = bytes;
            there = dirtied blank a bytes a-below;
            spelled = is-indirect bytes (spells-with (zeros 4096) spells-zeros.whole (slot_of index) (omega arith) to spells-zeros back) (holds-put (zeros 4096) (slot_of index) to spells-zeros.whole (omega arith) back some);
          }

          all : Stores index to fresh was (with-address was (range_of index) a) old next Done
          all = record {
            pointers = λ device clean.
                page-begun was file index high (running_over device old) (running_over device next) to back within a none-here free.not_zero free.unused
                (second device clean).at (λ v far. (second device clean).others v far ∙ (first device clean).others v far);
            clean = λ device clean. (second device clean).clean;
            file = file-with-address was (range_of index) a file below (λ z s. free.unused s);
            record_kept = kept-with a;
            range = λ z. subst (λ (v : ℕ). HasPointers (page_of next) v) (sym address) range;
            pages = record {
              same = λ z. absurd (free.not_zero (sym address ∙ z));
              written = λ z n. absurd (none_some a (sym n ∙ fresh-is));
              begun = λ s. subst (λ (v : ℕ). HasNewPage v bytes old next) (sym address) (new-page a bytes old blank a-below is);
              one_more = subst (λ (xs : List ℕ). length (besides_0 xs) ≤ length (besides_0 old.dirty) + 1) (sym (new-page a bytes old blank a-below is).dirty) (one-more a old.dirty);
            };
            answered = address ∙ sym (ap (λ (o : Option ℕ). unwrap_or o (address_of was index)) fresh-is);
          }
