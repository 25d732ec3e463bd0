-- Where the pointer of an index stands.
use Rattle.std.proofs.Common.{◌≡◌, ◌≢◌, ℕ, ◌≤◌, ◌<◌, true, ◌==◌, cond, List, [], get_or, ap, ◌∙◌, Option, Some, unwrap_or, nat_lt, arith}
use Rattle.std.proofs.lemmas.Bool.{and_parts, cond-true, cond-false, eq-eqb, eqb-true, ne_eqb, lt-ltb, le-ltb}
use Rattle.std.specs.Prelude.{slice_index}
use Rattle.nl_field.specs.Pointers.{is_none_pointer, no_pointer, pointer_fields}
use Rattle.nl_field.specs.declared.inode.InodeRec.{InodeRec}
use Rattle.nl_field.specs.declared.pointer.Pointer.{Pointer}
use Rattle.nl_meta.specs.Committed.{VirtualMap}
use Rattle.nl_meta.specs.Nodes.{pointer_at, pointer_in_page, slot_in, slots_of}
use Rattle.nl_meta.specs.Pages.{Pages, page_of}
use Rattle.nl_meta.specs.Running.{or_stored, running_over}
use Rattle.nl_indirect.specs.Ranges.{address_of, pointer_in, range_of, slot_of}

pub at-node : (pages : VirtualMap) (rec : InodeRec) (i : ℕ) → i < 8 → pointer_at pages rec i ≡ get_or rec.direct i no_pointer
unfolding pointer_at
at-node pages rec i low = cond-true (nat_lt i 8) _ _ (lt-ltb i 8 low)

pub in-range : (pages : VirtualMap) (rec : InodeRec) (i : ℕ) → 8 ≤ i → pointer_at pages rec i ≡ pointer_in_page pages (slice_index (slots_of rec) (range_of i)) (slot_of i)
unfolding pointer_at
in-range pages rec i high = cond-false (nat_lt i 8) _ _ (le-ltb i 8 high)

pub address-node : (rec : InodeRec) (i : ℕ) → i < 8 → address_of rec i ≡ 0
address-node rec i low = cond-true (nat_lt i 8) _ _ (lt-ltb i 8 low)

pub address-range : (rec : InodeRec) (i : ℕ) → 8 ≤ i → address_of rec i ≡ slice_index (slots_of rec) (range_of i)
address-range rec i high = cond-false (nat_lt i 8) _ _ (le-ltb i 8 high)

pub no-page : (pages : VirtualMap) (v j : ℕ) → v ≡ 0 → pointer_in_page pages v j ≡ no_pointer
no-page pages v j e = cond-true (v == 0) _ _ (eq-eqb v 0 e)

pub on-page : (pages : VirtualMap) (v j : ℕ) (bytes : List ℕ) → v ≢ 0 → pages v ≡ Some bytes → pointer_in_page pages v j ≡ pointer_in bytes j
on-page pages v j bytes far is = cond-false (v == 0) _ _ (ne_eqb v 0 far) ∙ ap (λ (o : Option (List ℕ)). pointer_fields (slot_in 16 j (unwrap_or o []))) is

-- a page that is the same has the same
pub same-page : (old new : VirtualMap) (v j : ℕ) → new v ≡ old v → pointer_in_page new v j ≡ pointer_in_page old v j
same-page old new v j e = ap (λ (o : Option (List ℕ)). cond (v == 0) no_pointer (pointer_fields (slot_in 16 j (unwrap_or o [])))) e

-- a resident page runs
pub runs : (device : VirtualMap) (p : Pages) (v : ℕ) (bytes : List ℕ) → page_of p v ≡ Some bytes → running_over device p v ≡ Some bytes
unfolding running_over
runs device p v bytes is = ap (λ o. or_stored o (device v)) is

pub none-is : (p : Pointer) → is_none_pointer p ≡ true → p ≡ no_pointer
none-is p e =
    let both = and_parts (p.name == 0) (p.stamp == 0) e in
    λ i. record { name = eqb-true p.name 0 both.0 i; stamp = eqb-true p.stamp 0 both.1 i }

-- two indexes of one range stand in two slots
pub slots-differ : (i k : ℕ) → 8 ≤ i → 8 ≤ k → range_of i ≡ range_of k → i ≢ k → slot_of i ≢ slot_of k
slots-differ i k hi hk e far s = far (omega (arith, hi, hk, e, s))
