-- What the calls mean for the pages in memory.
use Rattle.std.proofs.Common.{◌≡◌, ◌≢◌, ◌⊎◌, inl, inr, ℕ, zero, suc, ◌-◌, ◌/◌, ◌%◌, ◌<◌, ◌==◌, Bool, true, false, cond, List, [], ◌∷◌, get_or, Option, Some, None, IfSome, IsSome, is_some, refl, sym, ap, subst, ◌∙◌, arith}
use Rattle.std.proofs.Math.ListN.{set}
use Rattle.std.proofs.lemmas.Bool.{both_ways, cases_Bool, eq-eqb, eqb-true}
use Rattle.std.proofs.lemmas.List.Quantifiers.{position-Some}
use Rattle.std.specs.List.{list_any}
use Rattle.std.specs.Prelude.{bytes_eq}
use Rattle.nl_field.specs.Members.{Has}
use Rattle.nl_field.specs.declared.entry.EntryRec.{EntryRec}
use Rattle.nl_field.specs.declared.inode.InodeRec.{InodeRec}
use Rattle.nl_meta.specs.Nodes.{address_of_place, entries_of_inode}
use Rattle.nl_meta.specs.PageLaws.{IsApart}
use Rattle.nl_meta.specs.Pages.{Pages, is_dirty, page_of, with_address}
use Rattle.nl_meta.proofs.Lists.{member-append}
use Rattle.nl_meta.proofs.RunningProofs.{not-with}
use Rattle.nl_dir.specs.Changes.{changed_by_removal, no_entry, with_addresses}
use Rattle.nl_dir.specs.Directory.{FitsFresh, IsDirectory, last_alone, longer}
use Rattle.nl_dir.specs.PageLaws.{ChangedPagesAreKept, InsertingChangesPages, RemovingChangesPages}
use Rattle.nl_dir.proofs.LawProofs.{entries_in_order}

-- what is not dirty was not, and is none of those that changed
not-among : (vs dirty : List ℕ) (u : ℕ) → list_any (λ a. a == u) (with_addresses vs dirty) ≡ false → (Has vs u → ⊥) × (list_any (λ a. a == u) dirty ≡ false)
unfolding with_addresses
not-among [] dirty u e = ((λ h. h), e)
not-among (v ∷ vs) dirty u e = by (not-among vs (with_address v dirty) u e)
  where
    by : (Has vs u → ⊥) × (list_any (λ a. a == u) (with_address v dirty) ≡ false) → (Has (v ∷ vs) u → ⊥) × (list_any (λ a. a == u) dirty ≡ false)
    by rest = (off, last.1)
      where
        last : (u ≢ v) × (list_any (λ a. a == u) dirty ≡ false)
        last = not-with v dirty u rest.1

        off : Has (v ∷ vs) u → ⊥
        off (inl same) = last.0 (sym same)
        off (inr h) = rest.0 h

has-or-not : (vs : List ℕ) (u : ℕ) → Has vs u ⊎ (Has vs u → ⊥)
has-or-not [] u = inr (λ h. h)
has-or-not (v ∷ vs) u = by (cases_Bool (v == u)) (has-or-not vs u)
  where
    by : (v == u ≡ true) ⊎ (v == u ≡ false) → Has vs u ⊎ (Has vs u → ⊥) → Has (v ∷ vs) u ⊎ (Has (v ∷ vs) u → ⊥)
    by (inl e) rest = inl (inl (eqb-true v u e))
    by (inr e) (inl h) = inl (inr h)
    by (inr e) (inr off) = inr (λ h. neither h)
      where
        neither : Has (v ∷ vs) u → ⊥
        neither (inl same) = both_ways (v == u) e (eq-eqb v u same)
        neither (inr h) = off h

pub changed_pages_are_kept : ChangedPagesAreKept
changed_pages_are_kept changed old new may is = record {
  same_frozen = is.frozen;
  stays = λ u there. stays u there (has-or-not changed u);
  was_clean = λ u clean. (before u clean).1;
  same_clean = λ u clean there. is.others u (before u clean).0;
  apart = λ u there. apart u there (has-or-not changed u);
}
  where
    before : (u : ℕ) → is_dirty new u ≡ false → (Has changed u → ⊥) × (is_dirty old u ≡ false)
    before u clean = not-among changed old.dirty u (ap (λ (xs : List ℕ). list_any (λ a. a == u) xs) (sym is.dirty) ∙ clean)

    stays : (u : ℕ) → IsSome (page_of old u) → Has changed u ⊎ (Has changed u → ⊥) → IsSome (page_of new u)
    stays u there (inl h) = is.there u h
    stays u there (inr off) = ap is_some (is.others u off) ∙ there

    apart : (u : ℕ) → IsSome (page_of new u) → Has changed u ⊎ (Has changed u → ⊥) → IsSome (page_of old u) ⊎ IsApart u
    apart u there (inl h) = may u h
    apart u there (inr off) = inl (ap is_some (sym (is.others u off)) ∙ there)

-- ---- an entry more

-- what is read where it was set, or nothing where the list is too short
set-reads : (xs : List ℕ) (v a : ℕ) → (get_or (set xs v a) v 0 ≡ a) ⊎ (get_or (set xs v a) v 0 ≡ 0)
set-reads [] v a = inr refl
set-reads (x ∷ xs) zero a = inl refl
set-reads (x ∷ xs) (suc v) a = set-reads xs v a

module _ (rec : InodeRec) (old : Pages) (is : IsDirectory (page_of old) rec) where
  -- the page of a place is resident
  at-place : (k : ℕ) → k < rec.size → IsSome (page_of old (address_of_place rec k)) ⊎ IsApart (address_of_place rec k)
  at-place k h = inl (is.places.there k h)

  -- the last page is resident where it is not full
  at-end : rec.size % 64 ≢ 0 → IsSome (page_of old (address_of_place rec rec.size))
  at-end off = ap (λ (k : ℕ). is_some (page_of old (get_or rec.addresses k 0))) same ∙ is.places.there (rec.size - 1) below
    where
      same : rec.size / 64 ≡ (rec.size - 1) / 64
      same = omega (arith, off)

      below : rec.size - 1 < rec.size
      below = omega (arith, off)

  inserted-at : (fresh : Option ℕ) → FitsFresh old rec fresh → IfSome fresh IsApart
      → IsSome (page_of old (address_of_place (longer rec fresh) rec.size)) ⊎ IsApart (address_of_place (longer rec fresh) rec.size)
  inserted-at None fits far = inl (at-end (λ e. both_ways false refl (fits.exactly ∙ eq-eqb (rec.size % 64) 0 e)))
  inserted-at (Some a) fits far = by (set-reads rec.addresses (rec.size / 64) a)
    where
      by : (get_or (set rec.addresses (rec.size / 64) a) (rec.size / 64) 0 ≡ a) ⊎ (get_or (set rec.addresses (rec.size / 64) a) (rec.size / 64) 0 ≡ 0)
          → IsSome (page_of old (address_of_place (longer rec (Some a)) rec.size)) ⊎ IsApart (address_of_place (longer rec (Some a)) rec.size)
      by (inl e) = inr (subst IsApart (sym e) far)
      by (inr e) = inr (inl e)

  -- ---- one less

  only : (b : Bool) (v u : ℕ) → Has (cond b [] (v ∷ [])) u → v ≡ u
  only true v u h = absurd h
  only false v u (inl e) = e
  only false v u (inr h) = absurd h

  removed-at : (at : ℕ) → at < rec.size → (u : ℕ) → Has (changed_by_removal rec at) u → IsSome (page_of old u) ⊎ IsApart u
  removed-at at h u has = by (member-append (cond (at == rec.size - 1) [] (address_of_place rec at ∷ [])) (cond (last_alone rec) [] (address_of_place rec (rec.size - 1) ∷ [])) u has)
    where
      last : rec.size - 1 < rec.size
      last = omega (arith, h)

      by : Has (cond (at == rec.size - 1) [] (address_of_place rec at ∷ [])) u ⊎ Has (cond (last_alone rec) [] (address_of_place rec (rec.size - 1) ∷ [])) u
          → IsSome (page_of old u) ⊎ IsApart u
      by (inl m) = subst (λ (v : ℕ). IsSome (page_of old v) ⊎ IsApart v) (only (at == rec.size - 1) (address_of_place rec at) u m) (at-place at h)
      by (inr m) = subst (λ (v : ℕ). IsSome (page_of old v) ⊎ IsApart v) (only (last_alone rec) (address_of_place rec (rec.size - 1)) u m) (at-place (rec.size - 1) last)

pub inserting_changes_pages : InsertingChangesPages
inserting_changes_pages entry fresh rec after old new is fits far inserts = changed_pages_are_kept (address_of_place after rec.size ∷ []) old new may inserts.pages
  where
    may : (u : ℕ) → Has (address_of_place after rec.size ∷ []) u → IsSome (page_of old u) ⊎ IsApart u
    may u (inl e) = subst (λ (v : ℕ). IsSome (page_of old v) ⊎ IsApart v) (ap (λ (r : InodeRec). address_of_place r rec.size) (sym inserts.record_after) ∙ e) (inserted-at rec old is fresh fits far)
    may u (inr h) = absurd h

pub removing_changes_pages : RemovingChangesPages
removing_changes_pages name given rec after old new is removes = changed_pages_are_kept (changed_by_removal rec removes.place) old new (removed-at rec old is removes.place below) removes.pages
  where
    below : removes.place < rec.size
    below = let h = (position-Some (λ (e : EntryRec). bytes_eq e.name name) (entries_of_inode (page_of old) rec) removes.place no_entry removes.had_name).0 in
        let n = (entries_in_order (page_of old) rec is).count in
        omega (arith, h, n)
