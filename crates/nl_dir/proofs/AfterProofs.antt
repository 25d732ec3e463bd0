-- Entries and addresses after a change.
use Rattle.std.proofs.Common.{◌≡◌, ◌≢◌, ℕ, zero, suc, ◌-◌, ◌*◌, ◌/◌, ◌%◌, ◌<◌, Bool, true, false, not, ◌==◌, List, [], ◌∷◌, ◌++◌, length, get_or, refl, sym, ap, subst, ◌∙◌, Option, Some, None, ◌⊎◌, inl, inr, arith}
use Rattle.std.proofs.Math.ListN.{set}
use Rattle.std.proofs.lemmas.Bool.{and_parts, cases_eq, cond-true, cond-false, eqb-true}
use Rattle.std.proofs.lemmas.List.{get_or-set_same, get_or-set_other}
use Rattle.std.proofs.lemmas.Option.{get_or_from_slice_get}
use Rattle.std.specs.Int.{div_ceil}
use Rattle.std.specs.Prelude.{◌↔◌, slice_get}
use Rattle.nl_field.specs.Bytes.{all_zero}
use Rattle.nl_field.specs.Inode.{are_filled}
use Rattle.nl_field.specs.Members.{Has}
use Rattle.nl_field.specs.declared.entry.EntryRec.{EntryRec}
use Rattle.nl_field.specs.declared.inode.InodeRec.{InodeRec}
use Rattle.nl_meta.specs.Committed.{VirtualMap}
use Rattle.nl_meta.specs.Nodes.{address_of_place, entries_of_inode, entry_named}
use Rattle.nl_meta.specs.Pages.{Pages, page_of}
use Rattle.nl_meta.proofs.Lists.{append-member-left, append-member-right, member-append, none_some, some_in}
use Rattle.nl_dir.specs.AfterLaws.{AddressesOfChanged, HasAddress, ListsInserted, ListsRemoved}
use Rattle.nl_dir.specs.Directory.{FitsFresh, HasPlaces, given_up, last_alone, longer, shorter}
use Rattle.nl_dir.proofs.LawProofs.{entries_in_order}
use Rattle.nl_dir.proofs.Records.{SpelledDir, alone-addresses, alone-rows, beside-addresses, some-fits, spelled-dir}

-- ---- slots that are not 0

from-slot : (xs : List ℕ) (k a : ℕ) → slice_get xs k ≡ Some a → get_or xs k 0 ≡ a
from-slot xs k a h = get_or_from_slice_get xs k a 0 h

to-slot : (xs : List ℕ) (k a : ℕ) → a ≢ 0 → get_or xs k 0 ≡ a → slice_get xs k ≡ Some a
to-slot [] k a far h = absurd (far (sym h))
to-slot (x ∷ xs) zero a far h = ap (λ (v : ℕ). Some v) h
to-slot (x ∷ xs) (suc k) a far h = to-slot xs k a far h

zero-at : (xs : List ℕ) (k : ℕ) → all_zero xs ≡ true → get_or xs k 0 ≡ 0
zero-at [] k e = refl
zero-at (x ∷ xs) zero e = eqb-true x 0 (and_parts (x == 0) _ e).0
zero-at (x ∷ xs) (suc k) e = zero-at xs k (and_parts (x == 0) _ e).1

filled-only : (n : ℕ) (xs : List ℕ) (k : ℕ) → are_filled n xs ≡ true → get_or xs k 0 ≢ 0 → k < n
unfolding are_filled
filled-only zero xs k e far = absurd (far (zero-at xs k e))
filled-only (suc n) [] k e far = absurd (far refl)
filled-only (suc n) (x ∷ xs) zero e far = omega arith
filled-only (suc n) (x ∷ xs) (suc k) e far = let h = filled-only n xs k (and_parts (not (x == 0)) _ e).1 far in omega (arith, h)

module _ (pages : VirtualMap) (rec : InodeRec) (has : HasPlaces pages rec) where
  s : SpelledDir rec
  s = spelled-dir rec has.is_dir has.spelled

  -- an address that is not 0 is that of a place
  row-of : (k : ℕ) → get_or rec.addresses k 0 ≢ 0 → 64 * k < rec.size
  row-of k far = let h = filled-only (div_ceil rec.size 64) rec.addresses k s.filled far in omega (arith, h)

  inserted : (p : Pages) (fresh : Option ℕ) → FitsFresh p rec fresh → rec.size < 1024
      → (k a : ℕ) → HasAddress (longer rec fresh) k a ↔ (HasAddress rec k a ⊎ ((fresh ≡ Some a) × (k ≡ rec.size / 64)))
  inserted p None fits few k a = ((λ h. inl h), back)
    where
      back : HasAddress rec k a ⊎ ((None ≡ Some a) × (k ≡ rec.size / 64)) → HasAddress rec k a
      back (inl h) = h
      back (inr h) = absurd (none_some a h.0)
  inserted p (Some b) fits few k a = ((λ h. there h (cases_eq k (rec.size / 64))), back)
    where
      even : rec.size % 64 ≡ 0
      even = some-fits p rec b fits

      inside : rec.size / 64 < length rec.addresses
      inside = let n = s.sixteen in omega (arith, n, few)

      there : HasAddress (longer rec (Some b)) k a → (k ≡ rec.size / 64) ⊎ (k ≡ rec.size / 64 → ⊥) → HasAddress rec k a ⊎ ((Some b ≡ Some a) × (k ≡ rec.size / 64))
      there h (inl e) =
          inr (ap (λ (v : ℕ). Some v) (sym (get_or-set_same rec.addresses (rec.size / 64) b 0 inside) ∙ ap (λ (i : ℕ). get_or (set rec.addresses (rec.size / 64) b) i 0) (sym e) ∙ from-slot _ k a h.0), e)
      there h (inr far) = inl (to-slot rec.addresses k a h.1 (sym (get_or-set_other rec.addresses (rec.size / 64) k b 0 far) ∙ from-slot _ k a h.0), h.1)

      back : HasAddress rec k a ⊎ ((Some b ≡ Some a) × (k ≡ rec.size / 64)) → HasAddress (longer rec (Some b)) k a
      back (inl h) = (to-slot _ k a h.1 (get_or-set_other rec.addresses (rec.size / 64) k b 0 apart ∙ from-slot rec.addresses k a h.0), h.1)
        where
          low : 64 * k < rec.size
          low = row-of k (λ e. h.1 (sym (from-slot rec.addresses k a h.0) ∙ e))

          apart : k ≡ rec.size / 64 → ⊥
          apart e = omega (arith, low, e, even)
      back (inr h) =
          let same = some_in b a h.0 in
          (to-slot _ k a (λ e. fits.not_zero b refl (same ∙ e)) (ap (λ (i : ℕ). get_or (set rec.addresses (rec.size / 64) b) i 0) h.1 ∙ get_or-set_same rec.addresses (rec.size / 64) b 0 inside ∙ same), (λ e. fits.not_zero b refl (same ∙ e)))

  removed : 0 < rec.size → (k a : ℕ) → HasAddress (shorter rec) k a ↔ (HasAddress rec k a × (given_up rec ≢ Some a))
  removed some k a = by (last_alone rec) refl
    where
      last : ℕ
      last = (rec.size - 1) / 64

      by : (b : Bool) → last_alone rec ≡ b → HasAddress (shorter rec) k a ↔ (HasAddress rec k a × (given_up rec ≢ Some a))
      by false e = ((λ h. (kept h, none)), (λ h. back h.0))
        where
          is : (shorter rec).addresses ≡ rec.addresses
          is = beside-addresses rec e

          kept : HasAddress (shorter rec) k a → HasAddress rec k a
          kept h = (sym (ap (λ (l : List ℕ). slice_get l k) is) ∙ h.0, h.1)

          back : HasAddress rec k a → HasAddress (shorter rec) k a
          back h = (ap (λ (l : List ℕ). slice_get l k) is ∙ h.0, h.1)

          none : given_up rec ≡ Some a → ⊥
          none g = none_some a (sym (cond-false (last_alone rec) (Some (address_of_place rec (rec.size - 1))) None e) ∙ g)
      by true e = (there, back)
        where
          n : (rec.size - 1) % 64 ≡ 0
          n = alone-rows rec e

          is : (shorter rec).addresses ≡ set rec.addresses last 0
          is = alone-addresses rec e

          inside : last < length rec.addresses
          inside = let m = s.sixteen in let few = s.few in omega (arith, m, few, some)

          gone : given_up rec ≡ Some (address_of_place rec (rec.size - 1))
          gone = cond-true (last_alone rec) (Some (address_of_place rec (rec.size - 1))) None e

          slot : HasAddress (shorter rec) k a → get_or (set rec.addresses last 0) k 0 ≡ a
          slot h = sym (ap (λ (l : List ℕ). get_or l k 0) is) ∙ from-slot _ k a h.0

          apart : HasAddress (shorter rec) k a → k ≡ last → ⊥
          apart h same = h.1 (sym (slot h) ∙ ap (λ (i : ℕ). get_or (set rec.addresses last 0) i 0) same ∙ get_or-set_same rec.addresses last 0 0 inside)

          old : HasAddress (shorter rec) k a → get_or rec.addresses k 0 ≡ a
          old h = sym (get_or-set_other rec.addresses last k 0 0 (apart h)) ∙ slot h

          row : 64 * k / 64 ≡ k
          row = omega arith

          -- the row of the address that is given up has no other
          other : HasAddress (shorter rec) k a → given_up rec ≡ Some a → ⊥
          other h g =
              let low = row-of k (λ z. h.1 (sym (old h) ∙ z)) in
              let one = has.one_use (64 * k) (rec.size - 1) low (omega (arith, some)) (ap (λ (i : ℕ). get_or rec.addresses i 0) row ∙ old h ∙ sym (some_in (address_of_place rec (rec.size - 1)) a (sym gone ∙ g))) in
              apart h (sym row ∙ one)

          there : HasAddress (shorter rec) k a → HasAddress rec k a × (given_up rec ≢ Some a)
          there h = ((to-slot rec.addresses k a h.1 (old h), h.1), other h)

          back : HasAddress rec k a × (given_up rec ≢ Some a) → HasAddress (shorter rec) k a
          back h = (ap (λ (l : List ℕ). slice_get l k) is ∙ to-slot _ k a h.0.1 (get_or-set_other rec.addresses last k 0 0 far ∙ from-slot rec.addresses k a h.0.0), h.0.1)
            where
              far : k ≡ last → ⊥
              far same = h.1 (gone ∙ ap (λ (v : ℕ). Some v) (ap (λ (i : ℕ). get_or rec.addresses i 0) (sym same) ∙ from-slot rec.addresses k a h.0.0))

pub addresses_of_changed : AddressesOfChanged
addresses_of_changed pages rec has = record { inserted = inserted pages rec has; removed = removed pages rec has }

-- ---- entries

pub lists_inserted : ListsInserted
lists_inserted entry fresh rec after old new is e = (there, back)
  where
    lists : List EntryRec
    lists = entries_of_inode (page_of old) rec

    there : Has (entries_of_inode (page_of new) after) e → Has lists e ⊎ (e ≡ entry)
    there h = by (member-append lists (entry ∷ []) e (subst (λ (l : List EntryRec). Has l e) is.entries h))
      where
        by : Has lists e ⊎ ((entry ≡ e) ⊎ ⊥) → Has lists e ⊎ (e ≡ entry)
        by (inl h) = inl h
        by (inr (inl same)) = inr (sym same)
        by (inr (inr none)) = elim none [ ]

    back : Has lists e ⊎ (e ≡ entry) → Has (entries_of_inode (page_of new) after) e
    back h = subst (λ (l : List EntryRec). Has l e) (sym is.entries) (by h)
      where
        by : Has lists e ⊎ (e ≡ entry) → Has (lists ++ entry ∷ []) e
        by (inl h) = append-member-left lists (entry ∷ []) e h
        by (inr same) = append-member-right lists (entry ∷ []) e (inl (sym same))

pub lists_removed : ListsRemoved
lists_removed name gone rec after old new dir is e = (there, back)
  where
    there : Has (entries_of_inode (page_of new) after) e → Has (entries_of_inode (page_of old) rec) e × (e.name ≢ name)
    there h =
        let at = (entries_in_order (page_of new) after is.directory).by_name e in
        let found = at.0 h in
        let far : e.name ≡ name → ⊥ = (λ same. none_some e (sym is.named ∙ ap (entry_named (page_of new) after) (sym same) ∙ found)) in
        (((entries_in_order (page_of old) rec dir).by_name e).1 (sym (is.others e.name far) ∙ found), far)

    back : Has (entries_of_inode (page_of old) rec) e × (e.name ≢ name) → Has (entries_of_inode (page_of new) after) e
    back h = ((entries_in_order (page_of new) after is.directory).by_name e).1 (is.others e.name h.1 ∙ ((entries_in_order (page_of old) rec dir).by_name e).0 h.0)
