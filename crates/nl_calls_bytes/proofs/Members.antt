-- Lists of the same numbers, none of them twice.
use Rattle.std.proofs.Common.{◌≡◌, ℕ, zero, suc, ◌+◌, Bool, true, false, ◌||◌, cond, List, [], ◌∷◌, filter, length, count_by, refl, sym, ap, ◌∙◌, inl, inr, arith}
use Rattle.std.specs.Cmp.{both_ways}
use Rattle.std.proofs.lemmas.List.Sums.{length-filter}
use Rattle.std.specs.List.{list_any, range_with_len}
use Rattle.nl_field.specs.Members.{Has}
use Rattle.nl_meta.proofs.Lists.{filter-member, member-filter, member-range}
use Rattle.nl_tree.specs.CountLaws.{Differ}
use Rattle.nl_tree.proofs.CountProofs.{count_laws}

pub differ_range : (n a : ℕ) → Differ (range_with_len a n)
differ_range zero a = tt
differ_range (suc n) a = ((λ has. let r = member-range a (a + 1) n has in omega (arith, r)), differ_range n (a + 1))

differ_filter : (t : ℕ → Bool) (xs : List ℕ) → Differ xs → Differ (filter t xs)
differ_filter t [] d = tt
differ_filter t (x ∷ xs) d = by (t x) (differ_filter t xs d.1)
  where
    by : (b : Bool) → Differ (filter t xs) → Differ (cond b (x ∷ filter t xs) (filter t xs))
    by true rest = ((λ has. d.0 (member-filter t xs x has).0), rest)
    by false rest = rest

any_of : (t : ℕ → Bool) (xs : List ℕ) → list_any t xs ≡ true → (x : ℕ) × Has xs x × (t x ≡ true)
any_of t [] e = absurd (cc e)
any_of t (x ∷ xs) e = by (t x) refl e (any_of t xs)
  where
    by : (b : Bool) → t x ≡ b → (b || list_any t xs) ≡ true → (list_any t xs ≡ true → (y : ℕ) × Has xs y × (t y ≡ true)) → (y : ℕ) × Has (x ∷ xs) y × (t y ≡ true)
    by true is h rest = (x, inl refl, is)
    by false is h rest = let r = rest h in (r.0, inr r.1, r.2)

of_any : (t : ℕ → Bool) (xs : List ℕ) (x : ℕ) → Has xs x → t x ≡ true → list_any t xs ≡ true
of_any t [] x has is = absurd has
of_any t (y ∷ xs) x (inl e) is = ap (λ (b : Bool). b || list_any t xs) (ap t e ∙ is)
of_any t (y ∷ xs) x (inr has) is = ap (λ (b : Bool). t y || b) (of_any t xs x has is) ∙ by (t y)
  where
    by : (b : Bool) → (b || true) ≡ true
    by true = refl
    by false = refl

module _ (xs ys : List ℕ) (to : (n : ℕ) → Has xs n → Has ys n) (back : (n : ℕ) → Has ys n → Has xs n) where
  pub same_any : (t : ℕ → Bool) → list_any t xs ≡ list_any t ys
  same_any t = both_ways _ _
      (λ e. let r = any_of t xs e in of_any t ys r.0 (to r.0 r.1) r.2)
      (λ e. let r = any_of t ys e in of_any t xs r.0 (back r.0 r.1) r.2)

  module _ (one : Differ xs) (other : Differ ys) where
    pub same_length : length xs ≡ length ys
    same_length = count_laws.length_of_members xs ys one other to back

    pub same_count : (t : ℕ → Bool) → count_by t xs ≡ count_by t ys
    same_count t =
        sym (length-filter t xs)
        ∙ count_laws.length_of_members (filter t xs) (filter t ys) (differ_filter t xs one) (differ_filter t ys other)
        (λ n has. let m = member-filter t xs n has in filter-member t ys n (to n m.0) m.1)
        (λ n has. let m = member-filter t ys n has in filter-member t xs n (back n m.0) m.1)
        ∙ length-filter t ys
