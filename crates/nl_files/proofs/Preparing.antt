-- Two pages of pointers that are made resident, one after the other.
use Rattle.std.proofs.Common.{◌≡◌, ◌≢◌, ◌⊎◌, inl, inr, ℕ, ◌+◌, ◌≤◌, ◌<◌, ◌==◌, not, List, take, refl, sym, ap, ◌∙◌, subst, get_or, ⊎_elim, arith}
use Rattle.std.proofs.lemmas.Bool.{cases_eq, cases_lt, cond-true, ne_eqb}
use Rattle.nl_field.specs.Members.{Has}
use Rattle.nl_field.specs.declared.inode.InodeRec.{InodeRec}
use Rattle.nl_meta.specs.Pages.{Pages, first_most, page_of, touched}
use Rattle.nl_indirect.specs.Ranges.{HasPointers, HasRange, address_of, range_of}
use Rattle.nl_indirect.proofs.Pointing.{address-node, address-range}
use Rattle.nl_files.specs.Standing.{LoadsAt}

module _ (p q r : Pages) (a b : ℕ) (to_a : LoadsAt a p q) (to_b : LoadsAt b q r) (far : a ≢ 0) (has : HasPointers (page_of q) a) (last : b ≢ 0 → HasPointers (page_of r) b) where
  both : HasPointers (page_of r) a
  both = by (cases_eq b 0)
    where
      at : b ≢ 0 → (a ≡ b) ⊎ (a ≢ b) → HasPointers (page_of r) a
      at some (inl e) = subst (λ (v : ℕ). HasPointers (page_of r) v) (sym e) (last some)
      at some (inr apart) = record { bytes = has.bytes; there = (to_b.1 some).others a apart ∙ has.there; spelled = has.spelled }

      by : (b ≡ 0) ⊎ (b ≢ 0) → HasPointers (page_of r) a
      by (inl none) = subst (λ (pages : Pages). HasPointers (page_of pages) a) (sym (to_b.0 none)) has
      by (inr some) = at some (cases_eq a b)

-- an index between two that are near stands in the range of one of them
near : (first last i : ℕ) → last ≤ first + 16 → first ≤ i → i ≤ last → 8 ≤ i → (range_of i ≡ range_of last) ⊎ ((8 ≤ first) × (range_of i ≡ range_of first))
near first last i few low high in_range = by (cases_eq (range_of i) (range_of last)) (cases_lt first 8)
  where
    by : (range_of i ≡ range_of last) ⊎ (range_of i ≢ range_of last) → (first < 8) ⊎ (8 ≤ first) → (range_of i ≡ range_of last) ⊎ ((8 ≤ first) × (range_of i ≡ range_of first))
    by (inl e) either = inl e
    by (inr n) (inl under) = inl (omega (arith, few, low, high, in_range, under))
    by (inr n) (inr over) = inr (over, omega (arith, few, low, high, in_range, over, n))

last-touched : (v : ℕ) (xs : List ℕ) → Has (take 2 (touched v xs)) v
unfolding touched first_most
last-touched v xs = inl refl

last-but-one : (a b : ℕ) (xs : List ℕ) → a ≢ b → Has (take 2 (touched b (touched a xs))) a
unfolding touched first_most
last-but-one a b xs far = inr (subst (λ (l : List ℕ). Has (take 1 (take 62 l)) a) (sym (cond-true (not (a == b)) _ _ (ap not (ne_eqb a b far)))) (inl refl))

module _ (p q r : Pages) (a b : ℕ) (to_a : LoadsAt a p q) (to_b : LoadsAt b q r) (far : a ≢ 0) where
  first-recent : Has (take 2 r.recent) a
  first-recent = by (cases_eq b 0)
    where
      at : b ≢ 0 → (a ≡ b) ⊎ (a ≢ b) → Has (take 2 r.recent) a
      at some (inl e) = subst (λ (l : List ℕ). Has (take 2 l) a) (sym ((to_b.1 some).recent ∙ ap (λ (v : ℕ). touched v q.recent) (sym e))) (last-touched a q.recent)
      at some (inr apart) = subst (λ (l : List ℕ). Has (take 2 l) a) (sym ((to_b.1 some).recent ∙ ap (touched b) (to_a.1 far).recent)) (last-but-one a b p.recent apart)

      by : (b ≡ 0) ⊎ (b ≢ 0) → Has (take 2 r.recent) a
      by (inl none) = subst (λ (l : List ℕ). Has (take 2 l) a) (sym (ap (λ (pages : Pages). pages.recent) (to_b.0 none) ∙ (to_a.1 far).recent)) (last-touched a p.recent)
      by (inr some) = at some (cases_eq a b)

-- what holds of the addresses of the first and the last index holds of each between them
between : (P : ℕ → Type 0) (rec : InodeRec) (first last i : ℕ) → last ≤ first + 16 → first ≤ i → i ≤ last → (address_of rec first ≢ 0 → P (address_of rec first)) → (address_of rec last ≢ 0 → P (address_of rec last))
    → address_of rec i ≢ 0 → P (address_of rec i)
between P rec first last i few low high at_first at_last some = by (cases_lt i 8)
  where
    same : (j : ℕ) → 8 ≤ i → 8 ≤ j → range_of i ≡ range_of j → address_of rec j ≡ address_of rec i
    same j hi hj e = address-range rec j hj ∙ ap (λ n. get_or rec.addresses n 0) (sym e) ∙ sym (address-range rec i hi)

    in-one : (j : ℕ) → 8 ≤ i → 8 ≤ j → range_of i ≡ range_of j → (address_of rec j ≢ 0 → P (address_of rec j)) → P (address_of rec i)
    in-one j hi hj e has = let s = same j hi hj e in subst P s (has (λ z. some (sym s ∙ z)))

    by : (i < 8) ⊎ (8 ≤ i) → P (address_of rec i)
    by (inl under) = absurd (some (address-node rec i under))
    by (inr hi) =
        ⊎_elim (λ e. in-one last hi (let h : 8 ≤ last = omega (arith, hi, high) in h) e at_last) (λ x. in-one first hi x.0 x.1 at_first) (near first last i few low high hi)

pub both-ready : (p q r : Pages) (rec : InodeRec) (first last i : ℕ) → last ≤ first + 16 → first ≤ i → i ≤ last → LoadsAt (address_of rec first) p q → LoadsAt (address_of rec last) q r
    → HasRange (page_of q) rec first → HasRange (page_of r) rec last → HasRange (page_of r) rec i
both-ready p q r rec first last i few low high to_first to_last at_first at_last =
    between (HasPointers (page_of r)) rec first last i few low high (λ far. both p q r (address_of rec first) (address_of rec last) to_first to_last far (at_first far) at_last) at_last

pub both-recent : (p q r : Pages) (rec : InodeRec) (first last i : ℕ) → last ≤ first + 16 → first ≤ i → i ≤ last → LoadsAt (address_of rec first) p q → LoadsAt (address_of rec last) q r
    → address_of rec i ≢ 0 → Has (take 2 r.recent) (address_of rec i)
both-recent p q r rec first last i few low high to_first to_last =
    between (Has (take 2 r.recent)) rec first last i few low high (first-recent p q r (address_of rec first) (address_of rec last) to_first to_last)
    (λ some. subst (λ (l : List ℕ). Has (take 2 l) (address_of rec last)) (sym (to_last.1 some).recent) (last-touched (address_of rec last) q.recent))
