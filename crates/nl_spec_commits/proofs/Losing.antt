-- Lists that lose or gain some, one after the other.
use Rattle.std.proofs.Common.{◌≡◌, ℕ, ◌+◌, List, [], ◌∷◌, ◌++◌, length, refl, sym, subst, ◌⊎◌, inl, inr, ⊎_elim, arith}
use Rattle.std.proofs.lemmas.List.{append_assoc, length-append}
use Rattle.nl_field.specs.declared.pointer.Pointer.{Pointer}
use Rattle.nl_field.specs.declared.pointer.Tag.{Tag}
use Rattle.nl_iface.specs.Holders.{one, tagged, times}
use Rattle.nl_iface.specs.Names.{Has}
use Rattle.nl_spec_holders.specs.Lists.{ListGains, ListLoses}
use Rattle.nl_spec_holders.proofs.Lists.{times_append}
use Rattle.nl_spec_commits.specs.Changes.{GainsEach, LosesEach, RunsOfLists}

abbrev Held : Type 0
Held = Tag × Pointer

-- ---- members of a list in two parts

in_front : (xs ys : List Held) (z : Held) → Has xs z → Has (xs ++ ys) z
in_front [] ys z h = absurd h
in_front (x ∷ xs) ys z (inl e) = inl e
in_front (x ∷ xs) ys z (inr h) = inr (in_front xs ys z h)

in_back : (xs ys : List Held) (z : Held) → Has ys z → Has (xs ++ ys) z
in_back [] ys z h = h
in_back (x ∷ xs) ys z h = inr (in_back xs ys z h)

in_either : (xs ys : List Held) (z : Held) → Has (xs ++ ys) z → Has xs z ⊎ Has ys z
in_either [] ys z h = inr h
in_either (x ∷ xs) ys z (inl e) = inl (inl e)
in_either (x ∷ xs) ys z (inr h) = ⊎_elim (λ k. inl (inr k)) (λ k. inr k) (in_either xs ys z h)

-- ---- one more at the head of the second part

module _ (front : List Held) (x : Held) (rest : List Held) where
  has_it : Has (front ++ x ∷ rest) x
  has_it = in_back front (x ∷ rest) x (inl refl)

  had : (z : Held) → Has (front ++ rest) z → Has (front ++ x ∷ rest) z
  had z h = ⊎_elim (λ k. in_front front (x ∷ rest) z k) (λ k. in_back front (x ∷ rest) z (inr k)) (in_either front rest z h)

  is_one : (z : Held) → Has (front ++ x ∷ rest) z → (z ≡ x) ⊎ Has (front ++ rest) z
  is_one z h = ⊎_elim (λ k. inr (in_front front rest z k)) (λ k. ⊎_elim (λ e. inl (sym e)) (λ m. inr (in_back front rest z m)) k) (in_either front (x ∷ rest) z h)

  counted : (s : ℕ) → times tagged s (front ++ x ∷ rest) ≡ times tagged s (front ++ rest) + one x.1.stamp s
  counted s =
      let with = times_append tagged s front (x ∷ rest) in
      let without = times_append tagged s front rest in
      omega (arith, with, without)

  sized : length (front ++ x ∷ rest) ≡ length (front ++ rest) + 1
  sized =
      let with = length-append front (x ∷ rest) in
      let without = length-append front rest in
      omega (arith, with, without)

  lose_one : ListLoses tagged x (front ++ x ∷ rest) (front ++ rest)
  lose_one = record { had = has_it; only = had; count = counted; size = sized }

  gain_one : ListGains tagged x (front ++ rest) (front ++ x ∷ rest)
  gain_one = record { has = has_it; only = is_one; count = counted; size = sized }

-- ---- some that stand one behind the other

lose_run : (front xs behind : List Held) → LosesEach xs (front ++ (xs ++ behind)) (front ++ behind)
lose_run front [] behind = refl
lose_run front (x ∷ xs) behind = (front ++ (xs ++ behind), lose_one front x (xs ++ behind), lose_run front xs behind)

gain_run : (front xs behind : List Held) → GainsEach xs (front ++ behind) (front ++ (xs ++ behind))
gain_run front [] behind = refl
gain_run front (x ∷ xs) behind = (
  front ++ x ∷ behind,
  gain_one front x behind,
  subst (λ (l : List Held). GainsEach xs (front ++ x ∷ behind) l) (append_assoc front (x ∷ []) (xs ++ behind))
      (subst (λ (l : List Held). GainsEach xs l (front ++ x ∷ [] ++ (xs ++ behind))) (append_assoc front (x ∷ []) behind) (gain_run (front ++ x ∷ []) xs behind)),
)

lose_then : (xs ys l m n : List Held) → LosesEach xs l m → LosesEach ys m n → LosesEach (xs ++ ys) l n
lose_then [] ys l m n a b = subst (λ (k : List Held). LosesEach ys k n) a b
lose_then (x ∷ xs) ys l m n (k, loses, rest) b = (k, loses, lose_then xs ys k m n rest b)

pub runs_of_lists : RunsOfLists
runs_of_lists = record {
  lost = λ front xs behind. subst (λ (l : List Held). LosesEach xs l (front ++ behind)) (sym (append_assoc front xs behind)) (lose_run front xs behind);
  gained = λ front xs behind. subst (λ (l : List Held). GainsEach xs (front ++ behind) l) (sym (append_assoc front xs behind)) (gain_run front xs behind);
  lost_then = lose_then;
}
