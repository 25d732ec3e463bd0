-- Of the pages only those of the file become resident.
use Rattle.std.proofs.Common.{◌≡◌, ◌≢◌, ◌⊎◌, ⊎_elim, inl, inr, ℕ, ◌≤◌, ◌<◌, IsSome, is_some, sym, ap, subst, ◌∙◌}
use Rattle.std.proofs.lemmas.Bool.{cases_eq, cases_lt}
use Rattle.nl_field.specs.declared.inode.InodeRec.{InodeRec}
use Rattle.nl_meta.specs.Pages.{Pages, page_of}
use Rattle.nl_indirect.specs.Ranges.{address_of, range_of}
use Rattle.nl_indirect.proofs.Pointing.{address-node, address-range}
use Rattle.nl_files.specs.Standing.{IsOwn, LoadsAt, LoadsOwn}

pub own-none : (rec : InodeRec) (p : Pages) → LoadsOwn rec p p
own-none rec p = record { each = λ u there. inl there }

pub own-then : (rec : InodeRec) (p q r : Pages) → LoadsOwn rec p q → LoadsOwn rec q r → LoadsOwn rec p r
own-then rec p q r a b = record { each = λ u there. ⊎_elim (λ before. a.each u before) (λ own. inr own) (b.each u there) }

-- the page of an index is
pub own-at : (rec : InodeRec) (i : ℕ) (p q : Pages) → LoadsAt (address_of rec i) p q → LoadsOwn rec p q
own-at rec i p q loads = by (cases_eq (address_of rec i) 0)
  where
    by : (address_of rec i ≡ 0) ⊎ (address_of rec i ≢ 0) → LoadsOwn rec p q
    by (inl none) = subst (LoadsOwn rec p) (sym (loads.0 none)) (own-none rec p)
    by (inr far) = record { each = λ u there. at u there (cases_eq u (address_of rec i)) (cases_lt i 8) }
      where
        at : (u : ℕ) → IsSome (page_of q u) → (u ≡ address_of rec i) ⊎ (u ≢ address_of rec i) → (i < 8) ⊎ (8 ≤ i) → IsSome (page_of p u) ⊎ IsOwn rec u
        at u there (inr off) _ = inl (ap is_some (sym ((loads.1 far).others u off)) ∙ there)
        at u there (inl e) (inl low) = absurd (far (address-node rec i low))
        at u there (inl e) (inr high) = inr ((λ z. far (sym e ∙ z)), (range_of i, sym (address-range rec i high) ∙ sym e))
