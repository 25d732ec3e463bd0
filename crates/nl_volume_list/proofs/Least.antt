-- The least of the entries of a directory, looked at one after the other.
use Rattle.std.proofs.Common.{◌≡◌, ℕ, zero, suc, ◌+◌, ◌<◌, Bool, true, false, List, [], ◌∷◌, ◌++◌, length, take, get_or, refl, sym, ap, subst, ◌∙◌, Option, Some, None, IfSome, option_and_then, ◌⊎◌, inl, inr, arith}
use Rattle.std.proofs.lemmas.List.{take_more, take_all}
use Rattle.std.specs.Prelude.{slice_get}
use Rattle.std.specs.Ordering.{is_lt, nat_cmp}
use Rattle.std.specs.Cmp.{tied_itself}
use Rattle.std.specs.Cmp.Lexicographic.{slice_cmp}
use Rattle.nl_field.specs.Members.{Has}
use Rattle.nl_field.specs.declared.entry.EntryRec.{EntryRec}
use Rattle.nl_meta.proofs.Lists.{append-member-left, append-member-right, member-append}
use Rattle.nl_volume_list.specs.Entries.{IsLeastOf, is_behind, is_lesser}
use Rattle.nl_volume_list.proofs.Climbing.{less-is, names_total}

true-false : true ≡ false → ⊥
true-false e = cc

not-true : (b : Bool) → (b ≡ true → ⊥) → b ≡ false
not-true true h = absurd (h refl)
not-true false h = refl

-- names are in one order
behind-then : (a b c : List ℕ) → is_behind a b ≡ true → is_behind b c ≡ true → is_behind a c ≡ true
behind-then a b c e f = ap is_lt (names_total.trans a b c (less-is (slice_cmp nat_cmp a b) e) (less-is (slice_cmp nat_cmp b c) f))

not-itself : (a : List ℕ) → is_behind a a ≡ false
not-itself a = ap is_lt (tied_itself names_total a)

record At (xs : List EntryRec) (i : ℕ) (x : EntryRec) : Type 0 where
  below : i < length xs
  is : get_or xs i x ≡ x

at-place : (xs : List EntryRec) (i : ℕ) (x : EntryRec) → slice_get xs i ≡ Some x → At xs i x
at-place [] i x e = absurd (none-at e)
  where
    none-at : slice_get [] i ≡ Some x → ⊥
    none-at e = cc
at-place (y ∷ xs) zero x e = record { below = omega arith; is = some-at e }
  where
    some-at : Some y ≡ Some x → y ≡ x
    some-at e = cc
at-place (y ∷ xs) (suc i) x e = let r = at-place xs i x e in record { below = omega (arith, r.below); is = r.is }

-- The place of the least of so many entries, where one of them comes behind the name.
pub record LeastSoFar (es : List EntryRec) (after : List ℕ) (size k : ℕ) (o : Option ℕ) : Type 0 where
  pub below : IfSome o (λ p. p < size)
  pub least : IsLeastOf (take k es) after (option_and_then (slice_get es) o)

module _ (es : List EntryRec) (k : ℕ) (e : EntryRec) (at : slice_get es k ≡ Some e) where
  one-more : take (k + 1) es ≡ take k es ++ e ∷ []
  one-more = let p = at-place es k e at in take_more es k e p.below ∙ ap (λ (x : EntryRec). take k es ++ x ∷ []) p.is

  of-more : (x : EntryRec) → Has (take (k + 1) es) x → Has (take k es) x ⊎ (e ≡ x)
  of-more x h = by (member-append (take k es) (e ∷ []) x (subst (λ (xs : List EntryRec). Has xs x) one-more h))
    where
      by : Has (take k es) x ⊎ ((e ≡ x) ⊎ ⊥) → Has (take k es) x ⊎ (e ≡ x)
      by (inl m) = inl m
      by (inr (inl s)) = inr s
      by (inr (inr n)) = absurd n

  is-more : (x : EntryRec) → Has (take k es) x → Has (take (k + 1) es) x
  is-more x h = subst (λ (xs : List EntryRec). Has xs x) (sym one-more) (append-member-left (take k es) (e ∷ []) x h)

  last-more : Has (take (k + 1) es) e
  last-more = subst (λ (xs : List EntryRec). Has xs e) (sym one-more) (append-member-right (take k es) (e ∷ []) e (inl refl))

  module _ (after : List ℕ) where
    -- the entry does not come behind the name
    pub least-before : (o : Option EntryRec) → IsLeastOf (take k es) after o → is_behind after e.name ≡ false → IsLeastOf (take (k + 1) es) after o
    least-before None none out = λ x h. by x (of-more x h)
      where
        by : (x : EntryRec) → Has (take k es) x ⊎ (e ≡ x) → is_behind after x.name ≡ false
        by x (inl m) = none x m
        by x (inr s) = subst (λ (y : EntryRec). is_behind after y.name ≡ false) s out
    least-before (Some l) least out = record { has = is-more l least.has; behind = least.behind; least = λ x h b. by x b (of-more x h) }
      where
        by : (x : EntryRec) → is_behind after x.name ≡ true → Has (take k es) x ⊎ (e ≡ x) → is_behind x.name l.name ≡ false
        by x b (inl m) = least.least x m b
        by x b (inr s) = absurd (true-false (sym b ∙ sym (ap (λ (y : EntryRec). is_behind after y.name) s) ∙ out))

    -- the entry does not come before the least so far
    pub least-stays : (o : Option EntryRec) → IsLeastOf (take k es) after o → is_lesser e.name o ≡ false → IsLeastOf (take (k + 1) es) after o
    least-stays None none out = absurd (true-false out)
    least-stays (Some l) least out = record { has = is-more l least.has; behind = least.behind; least = λ x h b. by x b (of-more x h) }
      where
        by : (x : EntryRec) → is_behind after x.name ≡ true → Has (take k es) x ⊎ (e ≡ x) → is_behind x.name l.name ≡ false
        by x b (inl m) = least.least x m b
        by x b (inr s) = subst (λ (y : EntryRec). is_behind y.name l.name ≡ false) s out

    -- the entry is the least
    pub least-now : (o : Option EntryRec) → IsLeastOf (take k es) after o → is_behind after e.name ≡ true → is_lesser e.name o ≡ true → IsLeastOf (take (k + 1) es) after (Some e)
    least-now o least behind lesser = record { has = last-more; behind = behind; least = λ x h b. by o least lesser x b (of-more x h) }
      where
        by : (o : Option EntryRec) → IsLeastOf (take k es) after o → is_lesser e.name o ≡ true → (x : EntryRec) → is_behind after x.name ≡ true → Has (take k es) x ⊎ (e ≡ x) → is_behind x.name e.name ≡ false
        by o least lesser x b (inr s) = subst (λ (y : EntryRec). is_behind y.name e.name ≡ false) s (not-itself e.name)
        by None none lesser x b (inl m) = absurd (true-false (sym b ∙ none x m))
        by (Some l) least lesser x b (inl m) = not-true _ (λ h. true-false (sym (behind-then x.name e.name l.name h lesser) ∙ least.least x m b))

    module _ (size : ℕ) (o : Option ℕ) (so : LeastSoFar es after size k o) where
      pub still-before : is_behind after e.name ≡ false → LeastSoFar es after size (k + 1) o
      still-before out = record { below = so.below; least = least-before (option_and_then (slice_get es) o) so.least out }

      pub still-stays : is_lesser e.name (option_and_then (slice_get es) o) ≡ false → LeastSoFar es after size (k + 1) o
      still-stays out = record { below = so.below; least = least-stays (option_and_then (slice_get es) o) so.least out }

      pub is-now : k < size → is_behind after e.name ≡ true → is_lesser e.name (option_and_then (slice_get es) o) ≡ true → LeastSoFar es after size (k + 1) (Some k)
      is-now inside behind lesser = record { below = inside; least = subst (λ (f : Option EntryRec). IsLeastOf (take (k + 1) es) after f) (sym at) (least-now (option_and_then (slice_get es) o) so.least behind lesser) }

pub least-none : (es : List EntryRec) (after : List ℕ) → IsLeastOf (take 0 es) after None
least-none es after x h = absurd h

pub least-all : (es : List EntryRec) (n : ℕ) (after : List ℕ) (o : Option EntryRec) → length es ≡ n → IsLeastOf (take n es) after o → IsLeastOf es after o
least-all es n after o count least = subst (λ (xs : List EntryRec). IsLeastOf xs after o) (take_all n es (omega (arith, count))) least
