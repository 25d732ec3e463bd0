-- A node or an address that was taken and given back leaves what is free.
use Rattle.std.proofs.Common.{◌≡◌, ℕ, zero, suc, ◌-◌, Bool, true, false, List, [], ◌∷◌, length, get_or, nat_le, refl, sym, ap, subst, ◌∙◌, ◌⊎◌, inl, inr, arith}
use Rattle.std.proofs.lemmas.Bool.{and_parts, cases_eq}
use Rattle.nl_inode.specs.Free.{Becomes, is_free}
use Rattle.nl_inode.specs.Nodes.{AddressBecomes, NodeBecomes, Spaces, is_free_address, is_free_node}

same-list : (xs ys : List Bool) → length ys ≡ length xs → ((k : ℕ) → get_or ys k false ≡ get_or xs k false) → ys ≡ xs
same-list [] [] e same = refl
same-list [] (y ∷ ys) e same = absurd (none e)
  where
    none : suc (length ys) ≡ 0 → ⊥
    none e = cc
same-list (x ∷ xs) [] e same = absurd (none e)
  where
    none : 0 ≡ suc (length xs) → ⊥
    none e = cc
same-list (x ∷ xs) (y ∷ ys) e same = λ i. same zero i ∷ same-list xs ys (omega (arith, e)) (λ k. same (suc k)) i

twice : (k : ℕ) (a b c : List Bool) → is_free a k ≡ true → Becomes k false a b → Becomes k true b c → c ≡ a
twice k a b c was first second = same-list a c (second.count ∙ first.count) (λ i. by i (cases_eq i k))
  where
    by : (i : ℕ) → (i ≡ k) ⊎ (i ≡ k → ⊥) → is_free c i ≡ is_free a i
    by i (inl e) = ap (is_free c) e ∙ second.at ∙ sym was ∙ ap (is_free a) (sym e)
    by i (inr far) = second.others i far ∙ first.others i far

spaces : List Bool → ℕ → List Bool → Spaces
spaces nodes first pool = record { nodes = nodes; first = first; pool = pool }

pub node-back : (n : ℕ) (s t u : Spaces) → is_free_node s n ≡ true → NodeBecomes n false s t → NodeBecomes n true t u → u ≡ s
unfolding spaces
node-back n s t u was first second = λ i. spaces (twice n s.nodes t.nodes u.nodes was first.nodes second.nodes i) ((second.first ∙ first.first) i) ((second.pool ∙ first.pool) i)

pub address-back : (a : ℕ) (s t u : Spaces) → is_free_address s a ≡ true → AddressBecomes a false s t → AddressBecomes a true t u → u ≡ s
unfolding spaces
address-back a s t u was first second = λ i. spaces ((second.nodes ∙ first.nodes) i) ((second.first ∙ first.first) i) (twice (a - s.first) s.pool t.pool u.pool (and_parts (nat_le s.first a) _ was).1 first.pool again i)
  where
    again : Becomes (a - s.first) true t.pool u.pool
    again = subst (λ (f : ℕ). Becomes (a - f) true t.pool u.pool) first.first second.pool
