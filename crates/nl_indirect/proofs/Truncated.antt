-- Each way that the pointers of a file are taken away from an index on.
use Rattle.std.proofs.Common.{◌≡◌, ◌≢◌, ℕ, zero, suc, ◌+◌, ◌-◌, ◌≤◌, ◌<◌, true, List, [], ◌++◌, length, take, replicate, get_or, refl, sym, ap, ◌∙◌, subst, Option, Some, ◌⊎◌, inl, inr, arith, unwrap_or}
use Rattle.std.proofs.lemmas.Bool.{cases_eq, cases_lt}
use Rattle.std.proofs.lemmas.List.{get_or-take, get_or-replicate, length-append, length-replicate, length-take-le}
use Rattle.std.proofs.Math.Seq.{get_or-append_right}
use Rattle.std.proofs.Math.ListN.{get_or-append}
use Rattle.nl_field.specs.Pointers.{is_pointer, no_pointer}
use Rattle.nl_field.specs.declared.inode.InodeRec.{InodeRec}
use Rattle.nl_meta.specs.Committed.{VirtualMap}
use Rattle.nl_meta.specs.Nodes.{pointer_at, pointer_in_page}
use Rattle.nl_meta.specs.Pages.{Pages, page_of}
use Rattle.nl_meta.specs.Running.{CleanIsStored, SetsRunningPage, running_over}
use Rattle.nl_meta.specs.Steps.{with_dirty}
use Rattle.nl_meta.proofs.RunningProofs.{running_map}
use Rattle.nl_indirect.specs.Ranges.{HasPointers, IsFileRecord, address_of, pointer_in, range_of, slot_of}
use Rattle.nl_indirect.specs.Truncating.{CutsSlots, HasBefore, NoneBefore, TakesFrom, TruncatesPointers}
use Rattle.nl_indirect.proofs.Cases.{inside}
use Rattle.nl_indirect.proofs.Cut.{cut-gone, cut-indirect, cut-kept}
use Rattle.nl_indirect.proofs.Fresh.{one-more}
use Rattle.nl_indirect.proofs.Pointing.{address-node, address-range, at-node, in-range, no-page, none-is, on-page, runs, same-page}
use Rattle.nl_indirect.proofs.Records.{FileParts, file-parts, file-spelled}
use Rattle.nl_indirect.proofs.Spelled.{Spells, all-rows, row-all}

-- ---- a list that is cut

module _ {A : Type 0} (xs : List A) (n count : ℕ) (d : A) (len : length xs ≡ count) (most : n ≤ count) where
  short : length (take n xs) ≡ n
  short = length-take-le n xs (omega (arith, len, most))

  pub cut-length : length (take n xs ++ replicate (count - n) d) ≡ count
  cut-length = let a = length-append (take n xs) (replicate (count - n) d) in let r = length-replicate (count - n) d in omega (arith, a, r, short, most)

  pub cut-front : (i : ℕ) → i < n → get_or (take n xs ++ replicate (count - n) d) i d ≡ get_or xs i d
  cut-front i h = get_or-append (take n xs) (replicate (count - n) d) d i (omega (arith, h, short)) ∙ get_or-take n xs i d h

  pub cut-behind : (i : ℕ) → n ≤ i → get_or (take n xs ++ replicate (count - n) d) i d ≡ d
  cut-behind i h = get_or-append_right (take n xs) (replicate (count - n) d) i d (omega (arith, h, short)) ∙ all-d (count - n) (i - length (take n xs))
    where
      all-d : (k j : ℕ) → get_or (replicate k d) j d ≡ d
      all-d k j = by (cases_lt j k)
        where
          past : (k j : ℕ) → k ≤ j → get_or (replicate k d) j d ≡ d
          past zero j h = refl
          past (suc k) zero h = absurd (omega (arith, h))
          past (suc k) (suc j) h = past k j (omega (arith, h))

          by : (j < k) ⊎ (k ≤ j) → get_or (replicate k d) j d ≡ d
          by (inl h) = get_or-replicate k j d d h
          by (inr h) = past k j h

-- ---- the records

abbrev pub cut-direct : InodeRec → ℕ → InodeRec
cut-direct rec n = record { kind = rec.kind; generation = rec.generation; size = rec.size; direct = take n rec.direct ++ replicate (8 - n) no_pointer; addresses = rec.addresses }

abbrev pub cut-ranges : InodeRec → ℕ → InodeRec
cut-ranges rec n = record { kind = rec.kind; generation = rec.generation; size = rec.size; direct = rec.direct; addresses = take n rec.addresses ++ replicate (16 - n) 0 }

pub file-cut-direct : (rec : InodeRec) (n : ℕ) → n ≤ 8 → IsFileRecord rec → IsFileRecord (cut-direct rec n)
file-cut-direct rec n most is = record {
  kind = is.kind;
  spelled = file-spelled (cut-direct rec n) is.kind (record {
    direct = cut-length rec.direct n 8 no_pointer parts.direct most;
    addresses = parts.addresses;
    size = parts.size;
    pointers = all-rows (take n rec.direct ++ replicate (8 - n) no_pointer) (λ j h. each j (cases_lt j n));
  });
  differ = is.differ;
}
  where
    parts : FileParts rec
    parts = file-parts rec is

    each : (j : ℕ) → (j < n) ⊎ (n ≤ j) → is_pointer (get_or (take n rec.direct ++ replicate (8 - n) no_pointer) j no_pointer) ≡ true
    each j (inl h) = ap is_pointer (cut-front rec.direct n 8 no_pointer parts.direct most j h) ∙ row-all rec.direct parts.pointers j (let d = parts.direct in omega (arith, d, h, most))
    each j (inr h) = ap is_pointer (cut-behind rec.direct n 8 no_pointer parts.direct most j h)

module _ (rec : InodeRec) (n : ℕ) (most : n ≤ 16) (is : IsFileRecord rec) where
  parts : FileParts rec
  parts = file-parts rec is

  pub range-kept : (r : ℕ) → r < n → get_or (cut-ranges rec n).addresses r 0 ≡ get_or rec.addresses r 0
  range-kept r h = cut-front rec.addresses n 16 0 parts.addresses most r h

  pub range-gone : (r : ℕ) → n ≤ r → get_or (cut-ranges rec n).addresses r 0 ≡ 0
  range-gone r h = cut-behind rec.addresses n 16 0 parts.addresses most r h

  pub range-either : (r : ℕ) → (get_or (cut-ranges rec n).addresses r 0 ≡ get_or rec.addresses r 0) ⊎ (get_or (cut-ranges rec n).addresses r 0 ≡ 0)
  range-either r = by (cases_lt r n)
    where
      by : (r < n) ⊎ (n ≤ r) → (get_or (cut-ranges rec n).addresses r 0 ≡ get_or rec.addresses r 0) ⊎ (get_or (cut-ranges rec n).addresses r 0 ≡ 0)
      by (inl h) = inl (range-kept r h)
      by (inr h) = inr (range-gone r h)

  -- an address that is left is one that it had, of a range that stays
  left : (r : ℕ) → get_or (cut-ranges rec n).addresses r 0 ≢ 0 → r < n
  left r far = by (cases_lt r n)
    where
      by : (r < n) ⊎ (n ≤ r) → r < n
      by (inl h) = h
      by (inr h) = absurd (far (range-gone r h))

  pub file-cut-ranges : IsFileRecord (cut-ranges rec n)
  file-cut-ranges = record {
    kind = is.kind;
    spelled = file-spelled (cut-ranges rec n) is.kind (record { direct = parts.direct; addresses = cut-length rec.addresses n 16 0 parts.addresses most; size = parts.size; pointers = parts.pointers });
    differ = λ r s far e.
        let hr = left r far in
        let hs = left s (λ z. far (sym e ∙ z)) in
        is.differ r s (λ z. far (range-kept r hr ∙ z)) (sym (range-kept s hs) ∙ e ∙ range-kept r hr);
  }

-- ---- the ways

module _ (was : InodeRec) (file : IsFileRecord was) (from : ℕ) (old : Pages) where
  -- within the node
  pub truncated-node : from < 8 → TruncatesPointers from was (cut-ranges (cut-direct was from) 0) old old
  truncated-node low = record {
    pointers = λ device clean. record {
      gone = λ i h. gone (running_over device old) i h (cases_lt i 8);
      kept = λ i h.
          let l : i < 8 = omega (arith, h, low) in
          at-node (running_over device old) is i l ∙ cut-front was.direct from 8 no_pointer parts-was.direct most i h ∙ sym (at-node (running_over device old) was i l);
      spelled = λ r far has. has;
      pages = λ v h. refl;
    };
    clean = λ device clean. clean;
    file = file-cut-ranges mid 0 (omega arith) mid-file;
    generation = refl;
    size = refl;
    addresses = record { behind = λ r h. none r; before = λ r h. absurd (omega (arith, h, low)); either = λ r. inr (none r) };
    pages = record { same = λ e. refl; written = λ far. absurd (far (address-node is from low)); one_more = omega arith };
  }
    where
      most : from ≤ 8
      most = omega (arith, low)

      parts-was : FileParts was
      parts-was = file-parts was file

      mid : InodeRec
      mid = cut-direct was from

      mid-file : IsFileRecord (cut-direct was from)
      mid-file = file-cut-direct was from most file

      is : InodeRec
      is = cut-ranges (cut-direct was from) 0

      none : (r : ℕ) → get_or (cut-ranges (cut-direct was from) 0).addresses r 0 ≡ 0
      none r = range-gone (cut-direct was from) 0 (omega arith) mid-file r (omega arith)

      gone : (pages : VirtualMap) (i : ℕ) → from ≤ i → (i < 8) ⊎ (8 ≤ i) → pointer_at pages (cut-ranges (cut-direct was from) 0) i ≡ no_pointer
      gone pages i h (inl l) = at-node pages (cut-ranges (cut-direct was from) 0) i l ∙ cut-behind was.direct from 8 no_pointer parts-was.direct most i h
      gone pages i h (inr high) = in-range pages (cut-ranges (cut-direct was from) 0) i high ∙ no-page pages _ (slot_of i) (none (range_of i))

  module _ (high : 8 ≤ from) (within : from ≤ 4104) where
    -- the range of the index goes too
    pub truncated-whole : NoneBefore old was from → TruncatesPointers from was (cut-ranges was (range_of from)) old old
    truncated-whole before = record {
      pointers = λ device clean. record {
        gone = λ i h. let k : 8 ≤ i = omega (arith, h, high) in in-range (running_over device old) is i k ∙ no-page (running_over device old) _ (slot_of i) (none (range_of i) (omega (arith, h, high)));
        kept = λ i h. kept device i h (cases_lt i 8);
        spelled = λ r far has. has;
        pages = λ v h. refl;
      };
      clean = λ device clean. clean;
      file = file-cut-ranges was (range_of from) most file;
      generation = refl;
      size = refl;
      addresses = record {
        behind = λ r h. none r (omega (arith, h, high));
        before = λ r h. range-kept was (range_of from) most file r (omega (arith, h));
        either = range-either was (range_of from) most file;
      };
      pages = record { same = λ e. refl; written = λ far. absurd (far (address-range is from high ∙ none (range_of from) (omega arith))); one_more = omega arith };
    }
      where
        most : range_of from ≤ 16
        most = omega (arith, within)

        is : InodeRec
        is = cut-ranges was (range_of from)

        none : (r : ℕ) → range_of from ≤ r → get_or is.addresses r 0 ≡ 0
        none r h = range-gone was (range_of from) most file r h

        ranged : (device : VirtualMap) (i : ℕ) → i < from → 8 ≤ i → (range_of i < range_of from) ⊎ (range_of from ≤ range_of i)
            → pointer_at (running_over device old) is i ≡ pointer_at (running_over device old) was i
        ranged device i h k (inl lower) =
            in-range (running_over device old) is i k
            ∙ ap (λ (v : ℕ). pointer_in_page (running_over device old) v (slot_of i)) (range-kept was (range_of from) most file (range_of i) lower)
            ∙ sym (in-range (running_over device old) was i k)
        ranged device i h k (inr same) =
            in-range (running_over device old) is i k ∙ no-page (running_over device old) _ (slot_of i) (none (range_of i) same)
            ∙ sym (none-is (pointer_at (running_over device old) was i) (before device i k h (omega (arith, h, k, same))))

        kept : (device : VirtualMap) (i : ℕ) → i < from → (i < 8) ⊎ (8 ≤ i) → pointer_at (running_over device old) is i ≡ pointer_at (running_over device old) was i
        kept device i h (inl l) = at-node (running_over device old) is i l ∙ sym (at-node (running_over device old) was i l)
        kept device i h (inr k) = ranged device i h k (cases_lt (range_of i) (range_of from))

    -- it stays, and its page is cut
    module _ (slotted : slot_of from ≢ 0) (far : get_or was.addresses (range_of from) 0 ≢ 0) (bytes : List ℕ) (there : page_of old (get_or was.addresses (range_of from) 0) ≡ Some bytes)
        (spelled : Spells bytes) (before : HasBefore bytes (slot_of from)) (cut : List ℕ) (cuts : CutsSlots (slot_of from) bytes cut) where
      abbrev here : ℕ
      here = get_or was.addresses (range_of from) 0

      abbrev new : Pages
      new = with_dirty old (get_or was.addresses (range_of from) 0) cut

      abbrev is : InodeRec
      is = cut-ranges was (range_of from + 1)

      most : range_of from + 1 ≤ 16
      most = omega (arith, within, slotted)

      stays : get_or is.addresses (range_of from) 0 ≡ here
      stays = range-kept was (range_of from + 1) most file (range_of from) (omega arith)

      address : address_of is from ≡ here
      address = address-range is from high ∙ stays

      changed : (device : VirtualMap) → CleanIsStored device old → SetsRunningPage here cut device old new
      changed device clean = (running_map device old clean).changed here cut (inside old here bytes there)

      module _ (device : VirtualMap) (clean : CleanIsStored device old) where
        abbrev one : VirtualMap
        one = running_over device old

        abbrev two : VirtualMap
        two = running_over device new

        at-cut : two here ≡ Some cut
        at-cut = (changed device clean).at

        same : (v : ℕ) → v ≢ here → two v ≡ one v
        same = (changed device clean).others

        -- the pointer in the cut page
        in-cut : (i : ℕ) → 8 ≤ i → range_of i ≡ range_of from → pointer_at two is i ≡ pointer_in cut (slot_of i)
        in-cut i k e =
            in-range two is i k
            ∙ ap (λ (v : ℕ). pointer_in_page two v (slot_of i)) (ap (λ (r : ℕ). get_or is.addresses r 0) e ∙ stays)
            ∙ on-page two here (slot_of i) cut far at-cut

        in-bytes : (i : ℕ) → 8 ≤ i → range_of i ≡ range_of from → pointer_at one was i ≡ pointer_in bytes (slot_of i)
        in-bytes i k e =
            in-range one was i k ∙ ap (λ (r : ℕ). pointer_in_page one (get_or was.addresses r 0) (slot_of i)) e
            ∙ on-page one here (slot_of i) bytes far (runs device old here bytes there)

        gone : (i : ℕ) → from ≤ i → (range_of i ≡ range_of from) ⊎ (range_of i ≡ range_of from → ⊥) → pointer_at two is i ≡ no_pointer
        gone i h (inl e) = in-cut i (omega (arith, h, high)) e ∙ cut-gone (slot_of from) bytes cut cuts (slot_of i) (omega (arith, h, high, e)) (omega arith)
        gone i h (inr off) =
            in-range two is i (omega (arith, h, high))
            ∙ no-page two _ (slot_of i) (range-gone was (range_of from + 1) most file (range_of i) (omega (arith, h, high, off)))

        lower : (i : ℕ) → 8 ≤ i → range_of i < range_of from → (get_or was.addresses (range_of i) 0 ≡ here) ⊎ (get_or was.addresses (range_of i) 0 ≡ here → ⊥)
            → pointer_at two is i ≡ pointer_at one was i
        lower i k l (inl e) = let f = file.differ (range_of from) (range_of i) far e in absurd (omega (arith, f, l))
        lower i k l (inr off) =
            in-range two is i k
            ∙ ap (λ (v : ℕ). pointer_in_page two v (slot_of i)) (range-kept was (range_of from + 1) most file (range_of i) (omega (arith, l)))
            ∙ same-page one two (get_or was.addresses (range_of i) 0) (slot_of i) (same (get_or was.addresses (range_of i) 0) off) ∙ sym (in-range one was i k)

        ranged : (i : ℕ) → i < from → 8 ≤ i → (range_of i < range_of from) ⊎ (range_of from ≤ range_of i) → pointer_at two is i ≡ pointer_at one was i
        ranged i h k (inl l) = lower i k l (cases_eq (get_or was.addresses (range_of i) 0) here)
        ranged i h k (inr l) =
            let e : range_of i ≡ range_of from = omega (arith, h, k, l) in
            in-cut i k e ∙ cut-kept (slot_of from) bytes cut cuts (slot_of i) (omega (arith, h, k, e)) ∙ sym (in-bytes i k e)

        kept : (i : ℕ) → i < from → (i < 8) ⊎ (8 ≤ i) → pointer_at two is i ≡ pointer_at one was i
        kept i h (inl l) = at-node two is i l ∙ sym (at-node one was i l)
        kept i h (inr k) = ranged i h k (cases_lt (range_of i) (range_of from))

        spells-on : (v : ℕ) → HasPointers one v → (v ≡ here) ⊎ (v ≡ here → ⊥) → HasPointers two v
        spells-on v has (inl e) = record { bytes = cut; there = ap two e ∙ at-cut; spelled = cut-indirect (slot_of from) bytes cut cuts spelled (omega arith) before }
        spells-on v has (inr off) = record { bytes = has.bytes; there = same v off ∙ has.there; spelled = has.spelled }

        takes-within : TakesFrom from was is one two
        takes-within = record {
          gone = λ i h. gone i h (cases_eq (range_of i) (range_of from));
          kept = λ i h. kept i h (cases_lt i 8);
          spelled = λ r z has. spells-on (get_or is.addresses r 0) has (cases_eq (get_or is.addresses r 0) here);
          pages = λ v h. same v (λ e. far (sym e ∙ h (e ∙ sym address)));
        }

      bytes-are : unwrap_or (page_of old here) [] ≡ bytes
      bytes-are = ap (λ (o : Option (List ℕ)). unwrap_or o []) there

      pub truncated-within : TruncatesPointers from was (cut-ranges was (range_of from + 1)) old (with_dirty old (get_or was.addresses (range_of from) 0) cut)
      truncated-within = record {
        pointers = takes-within;
        clean = λ device clean. (changed device clean).clean;
        file = file-cut-ranges was (range_of from + 1) most file;
        generation = refl;
        size = refl;
        addresses = record {
          behind = λ r h. range-gone was (range_of from + 1) most file r (omega (arith, h, high, slotted));
          before = λ r h. range-kept was (range_of from + 1) most file r (omega (arith, h));
          either = range-either was (range_of from + 1) most file;
        };
        pages = record {
          same = λ e. absurd (far (sym address ∙ e));
          written = λ z. (
            cut,
            subst (λ (v : ℕ). CutsSlots (slot_of from) (unwrap_or (page_of old v) []) cut) (sym address) (subst (λ (l : List ℕ). CutsSlots (slot_of from) l cut) (sym bytes-are) cuts),
            ap (λ (v : ℕ). with_dirty old v cut) (sym address),
          );
          one_more = one-more here old.dirty;
        };
      }
