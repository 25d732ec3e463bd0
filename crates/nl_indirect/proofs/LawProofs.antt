-- Other nodes stay, and the file's addresses stay good.
use Rattle.std.proofs.Common.{◌≡◌, ◌≢◌, ℕ, zero, suc, ◌+◌, ◌*◌, ◌/◌, ◌%◌, ◌≤◌, ◌<◌, ◌==◌, false, cond, List, [], ◌∷◌, ◌++◌, length, filter, filter_map, flat_map, map, not, replicate, get_or, refl, sym, ap, ◌∙◌, subst, Option, Some, None, IfSome, IsSome, is_some, unwrap_or, ◌⊎◌, inl, inr, arith}
use Rattle.std.proofs.lemmas.Bool.{both_ways, cases_eq, cases_lt, cond-false}
use Rattle.std.specs.List.{enumerate_from, range_with_len}
use Rattle.std.specs.Prelude.{◌↔◌, IsTrue, slice_get, slice_index}
use Rattle.nl_field.specs.EntryRecord.{entry_of}
use Rattle.nl_field.specs.Graph.{directory_node, file_node}
use Rattle.nl_field.specs.Inode.{inode_of}
use Rattle.nl_field.specs.Members.{Has}
use Rattle.nl_field.specs.Pointers.{indirect_of, is_none_pointer, no_pointer, pointer_fields, pointers}
use Rattle.nl_field.specs.Spelling.{is_stamp}
use Rattle.nl_field.specs.declared.inode.InodeRec.{InodeRec}
use Rattle.nl_field.specs.declared.inode.Kind.{Kind}
use Rattle.nl_field.specs.declared.inode.Kind.TheVariants.{Unused, File, Dir}
use Rattle.nl_field.specs.declared.pointer.Pointer.{Pointer}
use Rattle.nl_field.specs.declared.shape.Shape.{Shape}
use Rattle.nl_field.proofs.EachRow.{length-each_of}
use Rattle.nl_meta.specs.Committed.{VirtualMap}
use Rattle.nl_meta.specs.Consistent.{AddressAt, GoodAddress, NamesPhysical}
use Rattle.nl_meta.specs.Nodes.{body_of, bytes_of_node, bytes_of_place, entries_of_inode, inode_at, is_physical_name, pointer_at, pointer_in_page, pointers_at, pointers_of_inode, slot_in, slots_of}
use Rattle.nl_meta.specs.Pages.{Pages, page_of}
use Rattle.nl_meta.specs.Running.{running_over}
use Rattle.nl_meta.proofs.AddressProofs.{inode_spelled}
use Rattle.nl_meta.proofs.Lists.{some_in}
use Rattle.nl_indirect.specs.FileLaws.{AddressesGood, FileOfNode, GivesBackRange, HoldsPointer, ResidentPointers, OtherNodes, StoredFile, StoresOver}
use Rattle.nl_indirect.specs.Ranges.{HasPointers, HasRange, address_of, pointer_in, range_of, slot_of, some_pointer}
use Rattle.nl_indirect.specs.Storing.{AnswersStored, DiffersInPage, StoresPointer, or_none}
use Rattle.nl_indirect.specs.declared.answer.Stored.{Stored}
use Rattle.nl_indirect.specs.declared.answer.Stored.TheVariants.{Done, Emptied}
use Rattle.nl_indirect.proofs.Cases.{to-some}
use Rattle.nl_indirect.proofs.Pointing.{address-node, address-range, in-range, no-page, on-page, runs}
use Rattle.nl_indirect.proofs.Spelled.{HoldsSome, holds-some, indirect-is, row}

-- ---- other nodes

module _ (a : ℕ) (old new : VirtualMap) (differs : DiffersInPage a old new) where
  node : (n : ℕ) → 67 + n / 16 ≢ a → inode_at new n ≡ inode_at old n
  unfolding inode_at bytes_of_node
  node n far = ap (λ (o : Option (List ℕ)). inode_of (slot_in 256 (n % 16) (unwrap_or o []))) (differs (67 + n / 16) (λ e. absurd (far e)))

  flat : (xs : List ℕ) → ((r : ℕ) → slice_index xs r ≡ a → slice_index xs r ≡ 0) → flat_map (pointers_at new) xs ≡ flat_map (pointers_at old) xs
  flat [] h = refl
  flat (x ∷ xs) h = λ i. here i ++ flat xs (λ r. h (suc r)) i
    where
      here : pointers_at new x ≡ pointers_at old x
      here = ap (λ (o : Option (List ℕ)). cond (x == 0) (replicate 256 no_pointer) (pointers 256 (unwrap_or o []))) (differs x (h 0))

  module _ (rec : InodeRec) (h : (r : ℕ) → slice_index (slots_of rec) r ≡ a → slice_index (slots_of rec) r ≡ 0) where
    file : pointers_of_inode new rec ≡ pointers_of_inode old rec
    unfolding pointers_of_inode
    file = ap (λ (ps : List Pointer). filter (λ (p : ℕ × Pointer). not (is_none_pointer p.1)) (enumerate_from 0 (rec.direct ++ ps))) (flat (slots_of rec) h)

    place : (i : ℕ) → bytes_of_place new rec i ≡ bytes_of_place old rec i
    unfolding bytes_of_place
    place i = ap (λ (o : Option (List ℕ)). slot_in 64 (i % 64) (unwrap_or o [])) (differs (slice_index (slots_of rec) (i / 64)) (h (i / 64)))

    entries : entries_of_inode new rec ≡ entries_of_inode old rec
    unfolding entries_of_inode
    entries = λ k. filter_map (λ i. entry_of (place i k)) (range_with_len 0 rec.size)

    body : (kind : Kind) → body_of new rec kind ≡ body_of old rec kind
    body Unused = refl
    body Dir = ap (λ es. directory_node (map (λ e. (e.name, e.ino)) es)) entries
    body File = ap (file_node rec.size) file

pub other_nodes : OtherNodes
other_nodes a old new differs = record { node = node a old new differs; body = body a old new differs }

-- ---- what is found

found-pointer : (to : Option Pointer) → IfSome to (λ p. IsTrue (is_stamp p.stamp)) → some_pointer (or_none to) ≡ to
found-pointer None h = refl
found-pointer (Some p) h = cond-false (is_none_pointer p) None (Some p) (to-some (Some p) h refl)

-- ---- good addresses

pub get-has : {X : Type 0} (d : X) (xs : List X) (j : ℕ) → j < length xs → Has xs (get_or xs j d)
get-has d [] j h = absurd (omega (arith, h))
get-has d (x ∷ xs) zero h = inl refl
get-has d (x ∷ xs) (suc j) h = inr (get-has d xs j (omega (arith, h)))

pub has-get : {X : Type 0} (d : X) (xs : List X) (x : X) → Has xs x → (j : ℕ) × (j < length xs) × (get_or xs j d ≡ x)
has-get d [] x h = absurd h
has-get d (y ∷ xs) x (inl e) = (0, omega arith, e)
has-get d (y ∷ xs) x (inr h) = let r = has-get d xs x h in (suc r.0, omega (arith, r.1), r.2)

-- the slots of a page whose pointers are physical
pub physical-slot : (shape : Shape) (bytes : List ℕ) (ps : List Pointer) → indirect_of bytes ≡ Some ps → NamesPhysical shape ps → (j : ℕ) → j < 256 → IsTrue (is_physical_name shape (pointer_in bytes j))
physical-slot shape bytes ps is names j h =
    subst (λ (p : Pointer). IsTrue (is_physical_name shape p)) (row bytes j h)
    (names (get_or (pointers 256 bytes) j no_pointer)
    (subst (λ (l : List Pointer). Has l (get_or (pointers 256 bytes) j no_pointer)) same (get-has no_pointer (pointers 256 bytes) j (let l = length-each_of pointer_fields 16 256 bytes in omega (arith, l, h)))))
  where
    same : pointers 256 bytes ≡ ps
    same = some_in _ _ (sym (indirect-is bytes (ap is_some is)) ∙ is)

pub slots-physical : (shape : Shape) (bytes : List ℕ) → ((j : ℕ) → j < 256 → IsTrue (is_physical_name shape (pointer_in bytes j))) → NamesPhysical shape (pointers 256 bytes)
slots-physical shape bytes each p m =
    let r = has-get no_pointer (pointers 256 bytes) p m in
    let h : r.0 < 256 = (let l = length-each_of pointer_fields 16 256 bytes in omega (arith, l, r.1)) in
    subst (λ (q : Pointer). IsTrue (is_physical_name shape q)) (sym (row bytes r.0 h) ∙ r.2) (each r.0 h)

-- a range has an address exactly where it has a pointer
range-holds : (pages : VirtualMap) (rec : InodeRec) (index : ℕ) → 8 ≤ index → HasRange pages rec index → (address_of rec index ≢ 0) ↔ HoldsPointer pages rec index
range-holds pages rec index high range = (there, back)
  where
    there : address_of rec index ≢ 0 → HoldsPointer pages rec index
    there far = record { at = 8 + 256 * range_of index + some.at; high = omega arith; same = range-of some.at some.below; some = ap is_none_pointer pointer ∙ some.some }
      where
        has : HasPointers pages (slice_index (slots_of rec) (range_of index))
        has = subst (λ (v : ℕ). HasPointers pages v) (address-range rec index high) (range far)

        some : HoldsSome has.bytes
        some = holds-some has.bytes has.spelled

        range-of : (j : ℕ) → j < 256 → range_of (8 + 256 * range_of index + j) ≡ range_of index
        range-of j h = omega (arith, h)

        slot-of : (j : ℕ) → j < 256 → slot_of (8 + 256 * range_of index + j) ≡ j
        slot-of j h = omega (arith, h)

        pointer : pointer_at pages rec (8 + 256 * range_of index + some.at) ≡ pointer_in has.bytes some.at
        pointer =
            in-range pages rec (8 + 256 * range_of index + some.at) (omega arith)
            ∙ (λ k. pointer_in_page pages (slice_index (slots_of rec) (range-of some.at some.below k)) (slot-of some.at some.below k))
            ∙ on-page pages (slice_index (slots_of rec) (range_of index)) some.at has.bytes (λ z. far (address-range rec index high ∙ z)) has.there

    back : HoldsPointer pages rec index → address_of rec index ≢ 0
    back h z = both_ways (is_none_pointer (pointer_at pages rec h.at)) h.some (ap is_none_pointer none)
      where
        none : pointer_at pages rec h.at ≡ no_pointer
        none =
            in-range pages rec h.at h.high
            ∙ no-page pages (slice_index (slots_of rec) (range_of h.at)) (slot_of h.at) (ap (λ (r : ℕ). slice_index (slots_of rec) r) h.same ∙ sym (address-range rec index high) ∙ z)

module _ (shape : Shape) (device : VirtualMap) (index : ℕ) (to : Option Pointer) (fresh : Option ℕ) (was is : InodeRec) (old new : Pages) (answer : Stored) (over : StoresOver shape device index to fresh was is old new answer) where
  stored : StoresPointer index (or_none to) was is (running_over device old) (running_over device new)
  stored = over.stores.pointers device over.clean

  module _ (good : AddressesGood shape (running_over device old) was) where
    -- the pointers that a range had
    was-physical : (i : ℕ) → 8 ≤ i → IsTrue (is_physical_name shape (pointer_at (running_over device old) was i))
    was-physical i high = by (cases_eq (slice_index (slots_of was) (range_of i)) 0)
      where
        by : (slice_index (slots_of was) (range_of i) ≡ 0) ⊎ (slice_index (slots_of was) (range_of i) ≡ 0 → ⊥) → IsTrue (is_physical_name shape (pointer_at (running_over device old) was i))
        by (inl e) = subst (λ (p : Pointer). IsTrue (is_physical_name shape p)) (sym (in-range (running_over device old) was i high ∙ no-page (running_over device old) _ (slot_of i) e)) refl
        by (inr far) =
            let g = good (range_of i) far in
            let s = g.spelled refl in
            subst (λ (p : Pointer). IsTrue (is_physical_name shape p)) (sym (in-range (running_over device old) was i high ∙ on-page (running_over device old) _ (slot_of i) g.bytes far g.committed))
            (physical-slot shape g.bytes s.0 s.1 s.2 (slot_of i) (omega arith))

    now-physical : (i : ℕ) → 8 ≤ i → (i ≡ index) ⊎ (i ≡ index → ⊥) → IsTrue (is_physical_name shape (pointer_at (running_over device new) is i))
    now-physical i high (inl e) =
        subst (λ (p : Pointer). IsTrue (is_physical_name shape p)) (sym (ap (λ (k : ℕ). pointer_at (running_over device new) is k) e ∙ stored.at)) over.physical
    now-physical i high (inr off) = subst (λ (p : Pointer). IsTrue (is_physical_name shape p)) (sym (stored.others i off)) (was-physical i high)

    -- the range of the index
    module _ (high : 8 ≤ index) (far : slice_index (slots_of is) (range_of index) ≢ 0) where
      has : HasPointers (page_of new) (slice_index (slots_of is) (range_of index))
      has = subst (λ (v : ℕ). HasPointers (page_of new) v) (address-range is index high) (over.stores.range (λ z. far (sym (address-range is index high) ∙ z)))

      in-the-pool : (67 + shape.inode_pages ≤ slice_index (slots_of is) (range_of index)) × (slice_index (slots_of is) (range_of index) < shape.vaddrs)
      in-the-pool = by answer over.stores.answered fresh refl over.pool
        where
          by : (s : Stored) → AnswersStored index fresh was is s → (f : Option ℕ) → fresh ≡ f → IfSome f (λ a. (67 + shape.inode_pages ≤ a) × (a < shape.vaddrs))
              → (67 + shape.inode_pages ≤ slice_index (slots_of is) (range_of index)) × (slice_index (slots_of is) (range_of index) < shape.vaddrs)
          by (Emptied b) h f e pool = absurd (far (sym (address-range is index high) ∙ h.2))
          by Done h (Some b) e pool =
              subst (λ (v : ℕ). (67 + shape.inode_pages ≤ v) × (v < shape.vaddrs)) (sym (sym (address-range is index high) ∙ h ∙ ap (λ (o : Option ℕ). unwrap_or o (address_of was index)) e)) pool
          by Done h None e pool =
              let same : slice_index (slots_of is) (range_of index) ≡ slice_index (slots_of was) (range_of index) =
              sym (address-range is index high) ∙ h ∙ ap (λ (o : Option ℕ). unwrap_or o (address_of was index)) e ∙ address-range was index high in
              let g = good (range_of index) (λ z. far (same ∙ z)) in
              subst (λ (v : ℕ). (67 + shape.inode_pages ≤ v) × (v < shape.vaddrs)) (sym same) (g.from_pool, g.in_pool)

      slot-physical : (j : ℕ) → j < 256 → IsTrue (is_physical_name shape (pointer_in has.bytes j))
      slot-physical j h =
          subst (λ (p : Pointer). IsTrue (is_physical_name shape p)) there (now-physical i i-high (cases_eq i index))
        where
          i : ℕ
          i = 8 + 256 * range_of index + j

          i-high : 8 ≤ 8 + 256 * range_of index + j
          i-high = omega arith

          same-range : range_of (8 + 256 * range_of index + j) ≡ range_of index
          same-range = omega (arith, h)

          same-slot : slot_of (8 + 256 * range_of index + j) ≡ j
          same-slot = omega (arith, h)

          there : pointer_at (running_over device new) is (8 + 256 * range_of index + j) ≡ pointer_in has.bytes j
          there =
              in-range (running_over device new) is i i-high ∙ (λ k. pointer_in_page (running_over device new) (slice_index (slots_of is) (same-range k)) (same-slot k))
              ∙ on-page (running_over device new) _ j has.bytes far (runs device new _ has.bytes has.there)

      good-here : GoodAddress shape (running_over device new) File (slice_index (slots_of is) (range_of index))
      good-here = record {
        from_pool = in-the-pool.0;
        in_pool = in-the-pool.1;
        bytes = has.bytes;
        committed = runs device new _ has.bytes has.there;
        spelled = λ e. (pointers 256 has.bytes, indirect-is has.bytes has.spelled, slots-physical shape has.bytes slot-physical);
      }

    -- another range
    good-other : (r : ℕ) → (8 ≤ index → r ≢ range_of index) → slice_index (slots_of is) r ≢ 0 → GoodAddress shape (running_over device new) File (slice_index (slots_of is) r)
    good-other r off far = subst (λ (v : ℕ). GoodAddress shape (running_over device new) File v) (sym same) moved
      where
        same : slice_index (slots_of is) r ≡ slice_index (slots_of was) r
        same = over.stores.record_kept.addresses r off

        g : GoodAddress shape (running_over device old) File (slice_index (slots_of was) r)
        g = good r (λ z. far (same ∙ z))

        not-its : slice_index (slots_of is) r ≡ address_of is index → slice_index (slots_of is) r ≡ 0
        not-its e = by (cases_lt index 8)
          where
            by : (index < 8) ⊎ (8 ≤ index) → slice_index (slots_of is) r ≡ 0
            by (inl low) = e ∙ address-node is index low
            by (inr high) = absurd (off high (sym (over.stores.file.differ r (range_of index) far (sym (e ∙ address-range is index high)))))

        page : running_over device new (slice_index (slots_of was) r) ≡ running_over device old (slice_index (slots_of was) r)
        page = subst (λ (v : ℕ). running_over device new v ≡ running_over device old v) same (stored.pages (slice_index (slots_of is) r) not-its)

        moved : GoodAddress shape (running_over device new) File (slice_index (slots_of was) r)
        moved = record { from_pool = g.from_pool; in_pool = g.in_pool; bytes = g.bytes; committed = page ∙ g.committed; spelled = g.spelled }

    good-all : AddressesGood shape (running_over device new) is
    good-all r far = by (cases_lt index 8) (cases_eq r (range_of index))
      where
        by : (index < 8) ⊎ (8 ≤ index) → (r ≡ range_of index) ⊎ (r ≡ range_of index → ⊥) → GoodAddress shape (running_over device new) File (slice_index (slots_of is) r)
        by (inl low) e = good-other r (λ high. absurd (omega (arith, low, high))) far
        by (inr high) (inr off) = good-other r (λ h. off) far
        by (inr high) (inl e) = subst (λ (k : ℕ). GoodAddress shape (running_over device new) File (slice_index (slots_of is) k)) (sym e) (good-here high (λ z. far (ap (λ (k : ℕ). slice_index (slots_of is) k) e ∙ z)))

  -- ---- pages that are given back

  given-back : 8 ≤ index → AddressesGood shape (running_over device old) was → GivesBackRange index was is (running_over device old) (running_over device new) answer
  given-back high good = record {
    emptied = λ a e.
        let h = subst (λ (s : Stored). AnswersStored index fresh was is s) e over.stores.answered in
        (before.0 (λ z. h.0 (sym h.1 ∙ z)), λ held. later.1 held h.2);
    done = λ e held. later.0 (kept (subst (λ (s : Stored). AnswersStored index fresh was is s) e over.stores.answered) fresh refl over.pool (before.1 held));
  }
    where
      before : (address_of was index ≢ 0) ↔ HoldsPointer (running_over device old) was index
      before = range-holds (running_over device old) was index high (λ far. at-address (address-range was index high) far)
        where
          at-address : address_of was index ≡ slice_index (slots_of was) (range_of index) → address_of was index ≢ 0 → HasPointers (running_over device old) (address_of was index)
          at-address e far =
              let g = good (range_of index) (λ z. far (e ∙ z)) in
              subst (λ (v : ℕ). HasPointers (running_over device old) v) (sym e) (record { bytes = g.bytes; there = g.committed; spelled = ap is_some (g.spelled refl).1 })

      later : (address_of is index ≢ 0) ↔ HoldsPointer (running_over device new) is index
      later = range-holds (running_over device new) is index high (λ far. let h = over.stores.range far in record { bytes = h.bytes; there = runs device new (address_of is index) h.bytes h.there; spelled = h.spelled })

      kept : address_of is index ≡ unwrap_or fresh (address_of was index) → (f : Option ℕ) → fresh ≡ f → IfSome f (λ a. (67 + shape.inode_pages ≤ a) × (a < shape.vaddrs)) → address_of was index ≢ 0 → address_of is index ≢ 0
      kept h None e pool far = λ z. far (sym (h ∙ ap (λ (o : Option ℕ). unwrap_or o (address_of was index)) e) ∙ z)
      kept h (Some b) e pool far = λ z. low pool.0 (sym (h ∙ ap (λ (o : Option ℕ). unwrap_or o (address_of was index)) e) ∙ z)
        where
          low : 67 + shape.inode_pages ≤ b → b ≡ 0 → ⊥
          low p z = omega (arith, p, z)

pub stored_file : StoredFile
stored_file shape device index to fresh was is old new answer over = record {
  found = ap some_pointer (stored shape device index to fresh was is old new answer over).at ∙ found-pointer to over.spelled;
  good = good-all shape device index to fresh was is old new answer over;
  given_back = given-back shape device index to fresh was is old new answer over;
}

-- ---- a node of a volume

pub at-slot : (xs : List ℕ) (r : ℕ) → slice_index xs r ≢ 0 → slice_get xs r ≡ Some (slice_index xs r)
at-slot [] r far = absurd (far refl)
at-slot (x ∷ xs) zero far = refl
at-slot (x ∷ xs) (suc r) far = at-slot xs r far

pub file_of_node : FileOfNode
file_of_node shape pages n rec right is kind = record {
  file = record { kind = kind; spelled = inode_spelled shape pages n rec is; differ = λ r s far e. sym (right.one_use n r n s (slice_index (slots_of rec) r) (address r far) (other r s far e)).1 };
  good = λ r far. subst (λ (k : Kind). GoodAddress shape pages k (slice_index (slots_of rec) r)) kind (right.good n r (slice_index (slots_of rec) r) (address r far));
  unused = λ a far none r e. none r (record { rec = rec; is_node = is; in_slot = at-slot (slots_of rec) r (λ z. far (sym e ∙ z)) ∙ ap (λ (v : ℕ). Some v) e; not_zero = far });
}
  where
    address : (r : ℕ) → slice_index (slots_of rec) r ≢ 0 → AddressAt shape pages n r (slice_index (slots_of rec) r)
    address r far = record { rec = rec; is_node = is; in_slot = at-slot (slots_of rec) r far; not_zero = far }

    other : (r s : ℕ) → slice_index (slots_of rec) r ≢ 0 → slice_index (slots_of rec) s ≡ slice_index (slots_of rec) r → AddressAt shape pages n s (slice_index (slots_of rec) r)
    other r s far e = record { rec = rec; is_node = is; in_slot = at-slot (slots_of rec) s (λ z. far (sym e ∙ z)) ∙ ap (λ (v : ℕ). Some v) e; not_zero = far }

pub resident_pointers : ResidentPointers
resident_pointers shape device p a good there = by (page_of p a) refl there
  where
    by : (o : Option (List ℕ)) → page_of p a ≡ o → IsSome o → HasPointers (page_of p) a
    by None e h = absurd (both_ways false refl h)
    by (Some bytes) e h =
        let same : good.bytes ≡ bytes = some_in _ _ (sym good.committed ∙ runs device p a bytes e) in
        record { bytes = bytes; there = e; spelled = subst (λ (l : List ℕ). IsSome (indirect_of l)) same (ap is_some (good.spelled refl).1) }
