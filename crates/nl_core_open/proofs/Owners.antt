-- A pointer's place was found with its owner.
use Rattle.std.proofs.Common.{◌≡◌, inl, inr, ⊎_elim, ℕ, ◌&&◌, nat_le, true, List, [], ◌∷◌, map, filter_map, Option, Some, None, refl, sym, ap, subst, ◌∙◌}
use Rattle.std.specs.List.{cons_option}
use Rattle.std.proofs.lemmas.Bool.{cases_Bool, cond-false, cond-true}
use Rattle.nl_field.specs.Members as members
use Rattle.nl_field.specs.Medium.{first_physical, is_physical_rec}
use Rattle.nl_field.specs.ScanList.{physical_seen}
use Rattle.nl_field.specs.SpareRecord.{stamp_of}
use Rattle.nl_field.specs.declared.seen.Seen.{Seen}
use Rattle.nl_field.specs.declared.shape.Shape.{Shape}
use Rattle.nl_field.specs.declared.spare.SpareRec.{SpareRec}
use Rattle.nl_field.specs.declared.spare.SpareRec.TheVariants.{Virtual, Physical}
use Rattle.nl_device.specs.Kept.{kept_from, kept_pages, with_record}
use Rattle.nl_device.specs.Shown.{found_on}
use Rattle.nl_device.specs.declared.kept.page.KeptPage.{KeptPage}
use Rattle.nl_iface.specs.Names.{Has, LivePage}
use Rattle.nl_meta.specs.Consistent.{tag_on}
use Rattle.nl_meta.proofs.Lists.{none_some, some_in}

-- a page of the list with this owner and this number
pub record IsSeenAs (shape : Shape) (seen : List Seen) (page : LivePage) : Type 0 where
  pub of : Seen
  pub has : members.Has (physical_seen shape seen) of
  pub owner : tag_on of.rec ≡ Some page.tag
  pub number : stamp_of of.rec ≡ page.stamp

abbrev by_number : KeptPage → ℕ × LivePage
by_number k = (k.page, found_on k)

-- what is kept of one page of the list
kept_one : (low : ℕ) (s : Seen) (rec : SpareRec) → s.rec ≡ rec → (k : KeptPage) → kept_from low s ≡ Some k → (nat_le low s.page && is_physical_rec s.rec ≡ true) × (tag_on s.rec ≡ Some k.tag) × (stamp_of s.rec ≡ k.stamp)
kept_one low s (Virtual vaddr stamp wear) is k kept = ⊎_elim
    (λ far. absurd (none_some k (sym (cond-true (nat_le low s.page) (with_record s.page s.rec) None far ∙ ap (with_record s.page) is) ∙ kept)))
    (λ near. absurd (none_some k (sym (cond-false (nat_le low s.page) (with_record s.page s.rec) None near) ∙ kept)))
    (cases_Bool (nat_le low s.page))
kept_one low s (Physical tag stamp wear) is k kept = ⊎_elim
    (λ far.
    let e : record { page = s.page; stamp = stamp; tag = tag } ≡ k = some_in (record { page = s.page; stamp = stamp; tag = tag }) k (sym (cond-true (nat_le low s.page) (with_record s.page s.rec) None far ∙ ap (with_record s.page) is) ∙ kept) in (
      ap (λ b. b && is_physical_rec s.rec) far ∙ ap is_physical_rec is,
      ap tag_on is ∙ ap (λ (x : KeptPage). Some x.tag) e,
      ap stamp_of is ∙ ap (λ (x : KeptPage). x.stamp) e,
    ))
    (λ near. absurd (none_some k (sym (cond-false (nat_le low s.page) (with_record s.page s.rec) None near) ∙ kept)))
    (cases_Bool (nat_le low s.page))

pub found_is_seen : (shape : Shape) (seen : List Seen) (p : ℕ) (page : LivePage) → Has (map by_number (kept_pages (first_physical shape) seen)) (p, page) → IsSeenAs shape seen page
unfolding kept_pages physical_seen
found_is_seen shape [] p page has = absurd has
found_is_seen shape (s ∷ ss) p page has = by (λ h. found_is_seen shape ss p page h) (kept_from (first_physical shape) s) refl has
  where
    later : IsSeenAs shape ss page → IsSeenAs shape (s ∷ ss) page
    later x = record {
      of = x.of;
      has = ⊎_elim
          (λ yes. subst (λ (xs : List Seen). members.Has xs x.of) (sym (cond-true (nat_le (first_physical shape) s.page && is_physical_rec s.rec) (s ∷ physical_seen shape ss) (physical_seen shape ss) yes)) (inr x.has))
          (λ no. subst (λ (xs : List Seen). members.Has xs x.of) (sym (cond-false (nat_le (first_physical shape) s.page && is_physical_rec s.rec) (s ∷ physical_seen shape ss) (physical_seen shape ss) no)) x.has)
          (cases_Bool (nat_le (first_physical shape) s.page && is_physical_rec s.rec));
      owner = x.owner;
      number = x.number;
    }

    by : (Has (map by_number (kept_pages (first_physical shape) ss)) (p, page) → IsSeenAs shape ss page) → (o : Option KeptPage) → kept_from (first_physical shape) s ≡ o → Has (map by_number (kept_pages (first_physical shape) (s ∷ ss))) (p, page) → IsSeenAs shape (s ∷ ss) page
    by rest None is h = later (rest (subst (λ (xs : List KeptPage). Has (map by_number xs) (p, page)) (without is) h))
      where
        without : kept_from (first_physical shape) s ≡ None → kept_pages (first_physical shape) (s ∷ ss) ≡ kept_pages (first_physical shape) ss
        without e = ap (λ (o : Option KeptPage). cons_option o (filter_map (kept_from (first_physical shape)) ss)) e
    by rest (Some k) is h = ⊎_elim
        (λ here.
        let one = kept_one (first_physical shape) s s.rec refl k is in
        let same : found_on k ≡ page = ap (λ (x : ℕ × LivePage). x.1) here in
        record {
          of = s;
          has = subst (λ (xs : List Seen). members.Has xs s) (sym (cond-true (nat_le (first_physical shape) s.page && is_physical_rec s.rec) (s ∷ physical_seen shape ss) (physical_seen shape ss) one.0)) (inl refl);
          owner = one.1 ∙ ap (λ (x : LivePage). Some x.tag) same;
          number = one.2 ∙ ap (λ (x : LivePage). x.stamp) same;
        })
        (λ far. later (rest far))
        (subst (λ (xs : List KeptPage). Has (map by_number xs) (p, page)) (with_one is) h)
      where
        with_one : kept_from (first_physical shape) s ≡ Some k → kept_pages (first_physical shape) (s ∷ ss) ≡ k ∷ kept_pages (first_physical shape) ss
        with_one e = ap (λ (o : Option KeptPage). cons_option o (filter_map (kept_from (first_physical shape)) ss)) e
