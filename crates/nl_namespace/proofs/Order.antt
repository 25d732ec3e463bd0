-- The order of names.
use Rattle.std.proofs.Common.{◌≡◌, ℕ, zero, suc, ◌≤◌, true, false, List, [], ◌∷◌, take, length, refl, sym, ap, ◌∙◌, Some, ◌⊎◌, inl, inr, arith}
use Rattle.std.proofs.lemmas.Bool.{both_ways}
use Rattle.std.proofs.lemmas.Cmp.{nat_list_cmp_total}
use Rattle.std.proofs.lemmas.Map.Lookups.{exact_bytes}
use Rattle.std.specs.Prelude.{slice_get}
use Rattle.std.specs.Ordering.{is_lt, nat_cmp, ordering_reverse}
use Rattle.std.specs.Cmp.Lexicographic.{slice_cmp}
use Rattle.std.specs.declared.cmp.Ordering.{Ordering}
use Rattle.std.specs.declared.cmp.Ordering.TheVariants.{Less, Equal, Greater}
use Rattle.nl_field.specs.Members.{Has}
use Rattle.nl_field.specs.declared.entry.EntryRec.{EntryRec}
use Rattle.nl_meta.proofs.Lists.{some_in, none_some}
use Rattle.nl_namespace.specs.Listing.{is_before}

abbrev by-name : EntryRec → EntryRec → Ordering
by-name a b = slice_cmp nat_cmp a.name b.name

less-is : (o : Ordering) → is_lt o ≡ true → o ≡ Less
less-is Less e = refl
less-is Equal e = cc
less-is Greater e = cc

pub irreflexive : (e : EntryRec) → is_before e e ≡ false
irreflexive e = by (by-name e e) refl
  where
    by : (o : Ordering) → by-name e e ≡ o → is_before e e ≡ false
    by Equal is = ap is_lt is
    by Greater is = ap is_lt is
    by Less is = absurd (clash (sym is ∙ nat_list_cmp_total.antisymm e.name e.name ∙ ap ordering_reverse is))
      where
        clash : Less ≡ Greater → ⊥
        clash e = cc

pub before-then : (a b c : EntryRec) → is_before a b ≡ true → is_before b c ≡ true → is_before a c ≡ true
before-then a b c x y = ap is_lt (nat_list_cmp_total.trans a.name b.name c.name (less-is _ x) (less-is _ y))

-- not behind one that comes before a third
pub not-before : (a b c : EntryRec) → is_before b a ≡ false → is_before b c ≡ true → is_before a c ≡ true
not-before a b c x y = by (by-name b a) refl
  where
    by : (o : Ordering) → by-name b a ≡ o → is_before a c ≡ true
    by Less is = absurd (both_ways _ x (ap is_lt is))
    by Equal is = ap is_lt (sym (nat_list_cmp_total.congr b.name a.name c.name is) ∙ less-is _ y)
    by Greater is = ap is_lt (nat_list_cmp_total.trans a.name b.name c.name (nat_list_cmp_total.antisymm a.name b.name ∙ ap ordering_reverse is) (less-is _ y))

pub same-name : (a b : EntryRec) → is_before a b ≡ false → is_before b a ≡ false → a.name ≡ b.name
same-name a b x y = by (by-name a b) refl
  where
    by : (o : Ordering) → by-name a b ≡ o → a.name ≡ b.name
    by Less is = absurd (both_ways _ x (ap is_lt is))
    by Equal is = exact_bytes a.name b.name is
    by Greater is = absurd (both_ways _ y (ap is_lt (nat_list_cmp_total.antisymm b.name a.name ∙ ap ordering_reverse is)))

-- ---- the first few of a list, with one more

pub take-more : (es : List EntryRec) (k : ℕ) (e f : EntryRec) → slice_get es k ≡ Some e → Has (take (suc k) es) f → Has (take k es) f ⊎ (f ≡ e)
take-more [] k e f is h = absurd h
take-more (x ∷ es) zero e f is (inl same) = inr (sym same ∙ some_in x e is)
take-more (x ∷ es) zero e f is (inr h) = absurd h
take-more (x ∷ es) (suc k) e f is (inl same) = inl (inl same)
take-more (x ∷ es) (suc k) e f is (inr h) = by (take-more es k e f is h)
  where
    by : Has (take k es) f ⊎ (f ≡ e) → (Has (x ∷ take k es) f) ⊎ (f ≡ e)
    by (inl m) = inl (inr m)
    by (inr m) = inr m

pub more-take : (es : List EntryRec) (k : ℕ) (f : EntryRec) → Has (take k es) f → Has (take (suc k) es) f
more-take es zero f h = absurd h
more-take [] (suc k) f h = absurd h
more-take (x ∷ es) (suc k) f (inl same) = inl same
more-take (x ∷ es) (suc k) f (inr h) = inr (more-take es k f h)

pub last-take : (es : List EntryRec) (k : ℕ) (e : EntryRec) → slice_get es k ≡ Some e → Has (take (suc k) es) e
last-take [] k e is = absurd (none_some e is)
last-take (x ∷ es) zero e is = inl (some_in x e is)
last-take (x ∷ es) (suc k) e is = inr (last-take es k e is)

pub take-all : (es : List EntryRec) (n : ℕ) → length es ≤ n → take n es ≡ es
take-all [] zero h = refl
take-all [] (suc n) h = refl
take-all (x ∷ es) zero h = absurd (none h)
  where
    none : suc (length es) ≤ 0 → ⊥
    none h = omega (arith, h)
take-all (x ∷ es) (suc n) h = ap (λ (ys : List EntryRec). x ∷ ys) (take-all es n (omega (arith, h)))
