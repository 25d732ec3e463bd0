-- A file that is cut: the page in which it ends is replaced, and then the pointers behind it are taken away.
use Rattle.std.proofs.Common.{◌≡◌, ◌≢◌, ℕ, zero, suc, ◌+◌, ◌/◌, ◌%◌, ◌≤◌, ◌<◌, true, false, List, [], ◌∷◌, length, get_or, refl, sym, ap, ◌∙◌, subst, Option, Some, None, is_some, ◌⊎◌, inl, inr, arith}
use Rattle.std.proofs.Math.ListN.{set}
use Rattle.std.proofs.lemmas.Bool.{both_ways, cases_eq, cases_lt, le-leb}
use Rattle.std.specs.Int.{div_ceil}
use Rattle.std.specs.Prelude.{IfSome, IsSome, IsTrue, slice_index}
use Rattle.nl_field.specs.Pointers.{is_none_pointer}
use Rattle.nl_field.specs.Spelling.{is_stamp}
use Rattle.nl_field.specs.declared.inode.InodeRec.{InodeRec}
use Rattle.nl_field.specs.declared.pointer.Pointer.{Pointer}
use Rattle.nl_meta.specs.Committed.{VirtualMap}
use Rattle.nl_meta.specs.Nodes.{pointer_at, slots_of}
use Rattle.nl_meta.specs.Pages.{Pages, besides_0, has_room, page_of}
use Rattle.nl_meta.specs.Running.{CleanIsStored, running_over}
use Rattle.nl_meta.specs.Steps.{with_dirty}
use Rattle.nl_inode.specs.Nodes.{Spaces}
use Rattle.nl_indirect.specs.Ranges.{HasPointers, HasRange, IsFileRecord, address_of, range_of, slot_of}
use Rattle.nl_indirect.specs.Storing.{Stores}
use Rattle.nl_indirect.specs.Truncating.{TakesFrom, TruncatesPointers}
use Rattle.nl_indirect.specs.declared.answer.Stored.TheVariants.{Done}
use Rattle.nl_indirect.proofs.Cases.{to-some}
use Rattle.nl_indirect.proofs.Fresh.{dirty_has_room, one-more, with-twice}
use Rattle.nl_indirect.proofs.Pointing.{address-node, address-range, in-range, no-page, runs}
use Rattle.nl_indirect.proofs.Records.{file-parts, file-spelled}
use Rattle.nl_files.specs.Cutting.{Cuts, CutsPointers, GivesBackAddresses, IsPartial, Rewrites}

-- ---- where the cut falls

-- the range of the first index that goes is that of the index in which the file ends, where an index before it is in the range
pub same-range : (size : ℕ) (rec : InodeRec) → slot_of (div_ceil size 4096) ≢ 0 → address_of rec (div_ceil size 4096) ≡ address_of rec (size / 4096)
same-range size rec slotted =
    address-range rec (div_ceil size 4096) (omega (arith, slotted)) ∙ ap (λ (r : ℕ). get_or rec.addresses r 0) ranges ∙ sym (address-range rec (size / 4096) (omega (arith, slotted)))
  where
    ranges : range_of (div_ceil size 4096) ≡ range_of (size / 4096)
    ranges = omega (arith, slotted)

-- ---- the page in which the file ends

-- what the pages of the file have then
pub record PlacesPointer (index : ℕ) (partial : Option Pointer) (was mid : InodeRec) (one two : VirtualMap) : Type 0 where
  pub replaced : IfSome partial (λ p. pointer_at two mid index ≡ p)
  pub others : (i : ℕ) → (IsSome partial → i ≢ index) → pointer_at two mid i ≡ pointer_at one was i
  pub spelled : (v : ℕ) → v ≢ 0 → HasPointers one v → HasPointers two v
  pub pages : (v : ℕ) → (IsSome partial → v ≡ address_of mid index → v ≡ 0) → two v ≡ one v

pub record Places (size : ℕ) (partial : Option Pointer) (was mid : InodeRec) (old next : Pages) : Type 0 where
  pub pointers : (device : VirtualMap) → CleanIsStored device old → PlacesPointer (size / 4096) partial was mid (running_over device old) (running_over device next)
  pub clean : (device : VirtualMap) → CleanIsStored device old → CleanIsStored device next
  pub file : IsFileRecord mid
  pub generation : mid.generation ≡ was.generation
  pub addresses : (r : ℕ) → slice_index (slots_of mid) r ≡ slice_index (slots_of was) r
  pub within : IsSome partial → size % 4096 ≢ 0
  pub some : IfSome partial (λ p. is_none_pointer p ≡ false)
  pub written : (next ≡ old) ⊎ (IsSome partial × Rewrites (address_of mid (size / 4096)) old next)
  pub range : HasRange (page_of next) mid (size / 4096)
  pub room : address_of mid (size / 4096) ≢ 0 → has_room next (address_of mid (size / 4096)) ≡ true

places-none : (size : ℕ) (was : InodeRec) (old : Pages) → IsFileRecord was → HasRange (page_of old) was (size / 4096)
    → (address_of was (size / 4096) ≢ 0 → has_room old (address_of was (size / 4096)) ≡ true) → Places size None was was old old
places-none size was old file range room = record {
  pointers = λ device clean. record { replaced = tt; others = λ i h. refl; spelled = λ v far has. has; pages = λ v h. refl };
  clean = λ device clean. clean;
  file = file;
  generation = refl;
  addresses = λ r. refl;
  within = λ h. absurd (both_ways false refl h);
  some = tt;
  written = inl refl;
  range = range;
  room = room;
}

module _ (size : ℕ) (to : Pointer) (was mid : InodeRec) (old next : Pages) (spelled : IsTrue (is_stamp to.stamp)) (stores : Stores (size / 4096) to None was mid old next Done) where
  abbrev index : ℕ
  index = size / 4096

  addresses : (r : ℕ) → (8 ≤ index → r ≢ range_of index) ⊎ ((8 ≤ index) × (r ≡ range_of index)) → slice_index (slots_of mid) r ≡ slice_index (slots_of was) r
  addresses r (inl h) = stores.record_kept.addresses r h
  addresses r (inr (high, e)) =
      ap (λ (k : ℕ). get_or mid.addresses k 0) e ∙ sym (address-range mid index high) ∙ stores.answered ∙ address-range was index high ∙ ap (λ (k : ℕ). get_or was.addresses k 0) (sym e)

  here-or-not : (r : ℕ) → (index < 8) ⊎ (8 ≤ index) → (r ≡ range_of index) ⊎ (r ≡ range_of index → ⊥) → (8 ≤ index → r ≢ range_of index) ⊎ ((8 ≤ index) × (r ≡ range_of index))
  here-or-not r (inl low) y = inl (λ high. absurd (omega (arith, low, high)))
  here-or-not r (inr high) (inl e) = inr (high, e)
  here-or-not r (inr high) (inr far) = inl (λ h. far)

  stored-written : (address_of mid index ≡ 0) ⊎ (address_of mid index ≡ 0 → ⊥) → (next ≡ old) ⊎ (IsSome (Some to) × Rewrites (address_of mid index) old next)
  stored-written (inl e) = inl (stores.pages.same e)
  stored-written (inr far) = inr (refl, record { not_zero = far; bytes = _; page = stores.pages.written far refl })

  spells-on : (device : VirtualMap) → CleanIsStored device old → (v : ℕ) → v ≢ 0 → HasPointers (running_over device old) v → (v ≡ address_of mid index) ⊎ (v ≡ address_of mid index → ⊥) → HasPointers (running_over device next) v
  spells-on device clean v far has (inl e) =
      let p = stores.range (λ z. far (e ∙ z)) in
      subst (λ (a : ℕ). HasPointers (running_over device next) a) (sym e) (record { bytes = p.bytes; there = runs device next (address_of mid index) p.bytes p.there; spelled = p.spelled })
  spells-on device clean v far has (inr off) = record { bytes = has.bytes; there = (stores.pointers device clean).pages v (λ e. absurd (off e)) ∙ has.there; spelled = has.spelled }

  places-some : size % 4096 ≢ 0 → Places size (Some to) was mid old next
  places-some within = record {
    pointers = λ device clean. let p = stores.pointers device clean in record {
      replaced = p.at;
      others = λ i h. p.others i (h refl);
      spelled = λ v far has. spells-on device clean v far has (cases_eq v (address_of mid index));
      pages = λ v h. p.pages v (h refl);
    };
    clean = stores.clean;
    file = stores.file;
    generation = stores.record_kept.generation;
    addresses = λ r. addresses r (here-or-not r (cases_lt index 8) (cases_eq r (range_of index)));
    within = λ h. within;
    some = to-some (Some to) spelled refl;
    written = stored-written (cases_eq (address_of mid index) 0);
    range = stores.range;
    room = λ far. dirty_has_room (address_of mid index) old next (ap (λ (p : Pages). p.dirty) (stores.pages.written far refl));
  }

module _ (size : ℕ) (partial : Option Pointer) (was mid : InodeRec) (old next : Pages) where
  as-place : (o : Option Pointer) (is : InodeRec) (new : Pages) → partial ≡ o → mid ≡ is → next ≡ new → Places size o was is old new → Places size partial was mid old next
  as-place o is new e f g places =
      subst (λ (p : Option Pointer). Places size p was mid old next) (sym e) (subst (λ (r : InodeRec). Places size o was r old next) (sym f) (subst (λ (p : Pages). Places size o was is old p) (sym g) places))

  -- a pointer is given and was stored
  pub placed : (to : Pointer) (is : InodeRec) (new : Pages) → partial ≡ Some to → mid ≡ is → next ≡ new → IfSome partial (IsPartial size was) → Stores (size / 4096) to None was is old new Done → Places size partial was mid old next
  placed to is new e f g if stores =
      let part : IsPartial size was to = subst (λ (o : Option Pointer). IfSome o (IsPartial size was)) e if in
      as-place (Some to) is new e f g (places-some size to was is old new part.spelled stores part.within)

  -- none is
  pub not-placed : partial ≡ None → mid ≡ was → next ≡ old → IsFileRecord was → HasRange (page_of old) was (size / 4096)
      → (address_of was (size / 4096) ≢ 0 → has_room old (address_of was (size / 4096)) ≡ true) → Places size partial was mid old next
  not-placed e f g file range room = as-place None was old e f g (places-none size was old file range room)

-- ---- both

abbrev pub with-size : InodeRec → ℕ → InodeRec
with-size rec n = record { kind = rec.kind; generation = rec.generation; size = n; direct = rec.direct; addresses = rec.addresses }

pointer-sized : (pages : VirtualMap) (rec : InodeRec) (n i : ℕ) → pointer_at pages (with-size rec n) i ≡ pointer_at pages rec i
unfolding pointer_at
pointer-sized pages rec n i = refl

file-sized : (rec : InodeRec) (n : ℕ) → n ≤ 16809984 → IsFileRecord rec → IsFileRecord (with-size rec n)
file-sized rec n most is =
    let parts = file-parts rec is in
    record { kind = is.kind; spelled = file-spelled (with-size rec n) is.kind (record { direct = parts.direct; addresses = parts.addresses; size = le-leb n 16809984 most; pointers = parts.pointers }); differ = is.differ }

set-twice : {A : Type 0} (xs : List A) (i : ℕ) (x y : A) → set (set xs i x) i y ≡ set xs i y
set-twice [] i x y = refl
set-twice (z ∷ xs) zero x y = refl
set-twice (z ∷ xs) (suc i) x y = ap (λ l. z ∷ l) (set-twice xs i x y)

dirty-twice : (p : Pages) (v : ℕ) (b c : List ℕ) → with_dirty (with_dirty p v b) v c ≡ with_dirty p v c
dirty-twice p v b c = λ i. record { running = set-twice p.running v (Some b) (Some c) i; dirty = with-twice v p.dirty i; recent = p.recent; frozen = p.frozen }

-- the page in which the cut falls may become dirty
pub room-then : (size : ℕ) (partial : Option Pointer) (was mid : InodeRec) (old next : Pages) → Places size partial was mid old next → slot_of (div_ceil size 4096) ≢ 0 → address_of mid (div_ceil size 4096) ≢ 0
    → has_room next (address_of mid (div_ceil size 4096)) ≡ true
room-then size partial was mid old next places slotted far =
    let e = same-range size mid slotted in
    subst (λ (a : ℕ). has_room next a ≡ true) (sym e) (places.room (λ z. far (e ∙ z)))

pub range-then : (size : ℕ) (partial : Option Pointer) (was mid : InodeRec) (old next : Pages) → Places size partial was mid old next → slot_of (div_ceil size 4096) ≢ 0 → HasRange (page_of next) mid (div_ceil size 4096)
range-then size partial was mid old next places slotted far =
    let e = same-range size mid slotted in
    subst (λ (a : ℕ). HasPointers (page_of next) a) (sym e) (places.range (λ z. far (e ∙ z)))

module _ (size : ℕ) (partial : Option Pointer) (was mid is : InodeRec) (old next new : Pages) (places : Places size partial was mid old next) (cuts : TruncatesPointers (div_ceil size 4096) mid is next new) where
  abbrev from : ℕ
  from = div_ceil size 4096

  abbrev last : ℕ
  last = size / 4096

  -- the range of the replaced pointer keeps its page
  stays : IsSome partial → address_of is last ≡ address_of mid last
  stays some = by (cases_lt last 8)
    where
      self : CleanIsStored (page_of old) old
      self = record { each = λ u bytes there clean frozen. there }

      one : VirtualMap
      one = running_over (page_of old) old

      at : (o : Option Pointer) → partial ≡ o → IsSome o → is_none_pointer (pointer_at (running_over (page_of old) next) mid last) ≡ false
      at None e h = absurd (both_ways false refl h)
      at (Some p) e h =
          ap is_none_pointer (subst (λ (o : Option Pointer). IfSome o (λ p. pointer_at (running_over (page_of old) next) mid last ≡ p)) e (places.pointers (page_of old) self).replaced)
          ∙ subst (λ (o : Option Pointer). IfSome o (λ p. is_none_pointer p ≡ false)) e places.some

      kept : pointer_at (running_over (page_of old) new) is last ≡ pointer_at (running_over (page_of old) next) mid last
      kept = (cuts.pointers (page_of old) (places.clean (page_of old) self)).kept last (let w = places.within some in omega (arith, w))

      ranged : 8 ≤ last → (slice_index (slots_of is) (range_of last) ≡ slice_index (slots_of mid) (range_of last)) ⊎ (slice_index (slots_of is) (range_of last) ≡ 0) → address_of is last ≡ address_of mid last
      ranged high (inl e) = address-range is last high ∙ e ∙ sym (address-range mid last high)
      ranged high (inr z) =
          absurd (both_ways _ (at partial refl some) (ap is_none_pointer (sym kept ∙ in-range (running_over (page_of old) new) is last high ∙ no-page (running_over (page_of old) new) _ (slot_of last) z)))

      by : (last < 8) ⊎ (8 ≤ last) → address_of is last ≡ address_of mid last
      by (inl low) = address-node is last low ∙ sym (address-node mid last low)
      by (inr high) = ranged high (cuts.addresses.either (range_of last))

  -- where the range of the first index that goes keeps its page, an index before it is in the range
  slotted : address_of is from ≢ 0 → slot_of from ≢ 0
  slotted far first = far (by (cases_lt from 8))
    where
      by : (from < 8) ⊎ (8 ≤ from) → address_of is from ≡ 0
      by (inl low) = address-node is from low
      by (inr high) = address-range is from high ∙ cuts.addresses.behind (range_of from) (omega (arith, high, first))

  same-page : address_of is from ≢ 0 → address_of is last ≡ address_of is from
  same-page far = sym (same-range size is (slotted far))

  was-there : address_of is from ≢ 0 → address_of mid last ≡ address_of is from
  was-there far = sym (same-range size mid (slotted far)) ∙ by (cuts.addresses.either (range_of from))
    where
      high : 8 ≤ from
      high = let s = slotted far in omega (arith, s)

      by : (slice_index (slots_of is) (range_of from) ≡ slice_index (slots_of mid) (range_of from)) ⊎ (slice_index (slots_of is) (range_of from) ≡ 0) → address_of mid from ≡ address_of is from
      by (inl e) = address-range mid from high ∙ sym e ∙ sym (address-range is from high)
      by (inr z) = absurd (far (address-range is from high ∙ z))

  written : (new ≡ old) ⊎ Rewrites (address_of is last) old new
  written = by (cases_eq (address_of is from) 0) places.written
    where
      by : (address_of is from ≡ 0) ⊎ (address_of is from ≡ 0 → ⊥) → (next ≡ old) ⊎ (IsSome partial × Rewrites (address_of mid last) old next) → (new ≡ old) ⊎ Rewrites (address_of is last) old new
      by (inl z) (inl e) = inl (cuts.pages.same z ∙ e)
      by (inl z) (inr (some, w)) = inr (record { not_zero = λ k. w.not_zero (sym (stays some) ∙ k); bytes = w.bytes; page = cuts.pages.same z ∙ w.page ∙ ap (λ (v : ℕ). with_dirty old v w.bytes) (sym (stays some)) })
      by (inr far) (inl e) =
          let c = cuts.pages.written far in
          inr (record { not_zero = λ k. far (sym (same-page far) ∙ k); bytes = c.0; page = c.2 ∙ (λ i. with_dirty (e i) (sym (same-page far) i) c.0) })
      by (inr far) (inr (some, w)) =
          let c = cuts.pages.written far in
          inr (record {
            not_zero = λ k. far (sym (same-page far) ∙ k);
            bytes = c.0;
            page =
                c.2 ∙ ap (λ (p : Pages). with_dirty p (address_of is from) c.0) (w.page ∙ ap (λ (v : ℕ). with_dirty old v w.bytes) (was-there far))
                ∙ dirty-twice old (address_of is from) w.bytes c.0 ∙ ap (λ (v : ℕ). with_dirty old v c.0) (sym (same-page far));
          })

  one-page : (new ≡ old) ⊎ Rewrites (address_of is last) old new → length (besides_0 new.dirty) ≤ length (besides_0 old.dirty) + 1
  one-page (inl e) = subst (λ (p : Pages). length (besides_0 p.dirty) ≤ length (besides_0 old.dirty) + 1) (sym e) (omega arith)
  one-page (inr w) = subst (λ (p : Pages). length (besides_0 p.dirty) ≤ length (besides_0 old.dirty) + 1) (sym w.page) (one-more (address_of is last) old.dirty)

  module _ (device : VirtualMap) (clean : CleanIsStored device old) where
    abbrev one : VirtualMap
    one = running_over device old

    abbrev two : VirtualMap
    two = running_over device next

    abbrev three : VirtualMap
    three = running_over device new

    place : PlacesPointer last partial was mid one two
    place = places.pointers device clean

    taken : TakesFrom from mid is two three
    taken = cuts.pointers device (places.clean device clean)

    replaced : (o : Option Pointer) → partial ≡ o → IfSome o (λ p. pointer_at three (with-size is size) last ≡ p)
    replaced None e = tt
    replaced (Some p) e =
        pointer-sized three is size last ∙ taken.kept last (let w = places.within (ap is_some e) in omega (arith, w))
        ∙ subst (λ (o : Option Pointer). IfSome o (λ p. pointer_at two mid last ≡ p)) e place.replaced

    pages : (v : ℕ) → (v ≡ address_of is last → v ≡ 0) → three v ≡ one v
    pages v h = taken.pages v (λ e. at-from e (cases_eq (address_of is from) 0)) ∙ place.pages v (λ some e. h (e ∙ sym (stays some)))
      where
        at-from : v ≡ address_of is from → (address_of is from ≡ 0) ⊎ (address_of is from ≡ 0 → ⊥) → v ≡ 0
        at-from e (inl z) = e ∙ z
        at-from e (inr far) = h (e ∙ sym (same-page far))

    pub cuts-pointers : CutsPointers size partial was (with-size is size) one three
    cuts-pointers = record {
      gone = λ i h. pointer-sized three is size i ∙ taken.gone i h;
      replaced = replaced partial refl;
      kept = λ i h k. pointer-sized three is size i ∙ taken.kept i h ∙ place.others i k;
      spelled = λ r far has. taken.spelled r far (place.spelled (slice_index (slots_of is) r) far has);
      pages = pages;
    }

  pub cuts-file : (s t : Spaces) → size ≤ 16809984 → GivesBackAddresses (slots_of was) (slots_of is) s t → Cuts size partial was (with-size is size) old new s t
  cuts-file s t most gives = record {
    pointers = cuts-pointers;
    clean = λ device clean. cuts.clean device (places.clean device clean);
    file = file-sized is size most cuts.file;
    sized = refl;
    generation = cuts.generation ∙ places.generation;
    addresses = record {
      behind = cuts.addresses.behind;
      before = λ r h. cuts.addresses.before r h ∙ places.addresses r;
      either = λ r. either r (cuts.addresses.either r);
    };
    given = gives;
    written = written;
    one_more = one-page written;
  }
    where
      either : (r : ℕ) → (slice_index (slots_of is) r ≡ slice_index (slots_of mid) r) ⊎ (slice_index (slots_of is) r ≡ 0) → (slice_index (slots_of is) r ≡ slice_index (slots_of was) r) ⊎ (slice_index (slots_of is) r ≡ 0)
      either r (inl e) = inl (e ∙ places.addresses r)
      either r (inr z) = inr z
