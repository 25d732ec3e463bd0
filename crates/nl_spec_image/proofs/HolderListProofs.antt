-- What the change of one pointer means for the list of all.
use Rattle.std.proofs.Common.{◌≡◌, ℕ, ◌+◌, List, [], ◌∷◌, ◌++◌, length, sym, subst, ap, ◌∙◌, ◌⊎◌, inl, inr, arith}
use Rattle.std.proofs.lemmas.List.{length-append}
use Rattle.nl_field.specs.Members.{Has}
use Rattle.nl_field.specs.declared.pointer.Pointer.{Pointer}
use Rattle.nl_field.specs.declared.pointer.Tag.{Tag}
use Rattle.nl_iface.specs.Holders.{one, tagged, times}
use Rattle.nl_meta.specs.PointerLists.{shown}
use Rattle.nl_meta.proofs.Lists.{append-member-left, append-member-right, member-append}
use Rattle.nl_spec_image.specs.HolderLists.{OneChangesHolders}

times_append : (s : ℕ) (xs ys : List (Tag × Pointer)) → times tagged s (xs ++ ys) ≡ times tagged s xs + times tagged s ys
times_append s [] ys = omega arith
times_append s (x ∷ xs) ys = let r = times_append s xs ys in omega (arith, r)

-- of a list in three parts
times_three : (s : ℕ) (a b d : List (Tag × Pointer)) → times tagged s (a ++ b ++ d) ≡ times tagged s a + times tagged s b + times tagged s d
times_three s a b d = let x = times_append s (a ++ b) d in let y = times_append s a b in omega (arith, x, y)

length_three : (a b d : List (Tag × Pointer)) → length (a ++ b ++ d) ≡ length a + length b + length d
length_three a b d = let x = length-append (a ++ b) d in let y = length-append a b in omega (arith, x, y)

-- what is in the list is in one with another part between, or in that part
others : (a b c d : List (Tag × Pointer)) (x : Tag × Pointer) → Has (a ++ b ++ d) x → Has (a ++ c ++ d) x ⊎ Has b x
others a b c d x m = by (member-append (a ++ b) d x m)
  where
    first : Has a x ⊎ Has b x → Has (a ++ c ++ d) x ⊎ Has b x
    first (inl h) = inl (append-member-left (a ++ c) d x (append-member-left a c x h))
    first (inr h) = inr h

    by : Has (a ++ b) x ⊎ Has d x → Has (a ++ c ++ d) x ⊎ Has b x
    by (inl h) = first (member-append a b x h)
    by (inr h) = inl (append-member-right (a ++ c) d x h)

pub one_changes_holders : OneChangesHolders
one_changes_holders tag p q old new c = record {
  count = λ s.
      let o = ap (times tagged s) c.was ∙ times_three s c.front (shown tag p) c.behind in
      let n = ap (times tagged s) c.is ∙ times_three s c.front (shown tag q) c.behind in
      omega (arith, o, n);
  only = λ x m. subst (λ (l : List (Tag × Pointer)). Has l x ⊎ Has (shown tag q) x) (sym c.was) (others c.front (shown tag q) (shown tag p) c.behind x (subst (λ (l : List (Tag × Pointer)). Has l x) c.is m));
  kept = λ x m. subst (λ (l : List (Tag × Pointer)). Has l x ⊎ Has (shown tag p) x) (sym c.is) (others c.front (shown tag p) (shown tag q) c.behind x (subst (λ (l : List (Tag × Pointer)). Has l x) c.was m));
  size =
      let o = ap length c.was ∙ length_three c.front (shown tag p) c.behind in
      let n = ap length c.is ∙ length_three c.front (shown tag q) c.behind in
      omega (arith, o, n);
}
