-- An address that is taken and given back, and how many are free.
use Rattle.std.proofs.Common.{◌≡◌, ◌≢◌, ℕ, ◌+◌, ◌-◌, ◌<◌, ◌≤◌, Bool, true, false, List, get_or, sym, ap, subst, ◌∙◌, ◌⊎◌, inl, inr, arith}
use Rattle.std.proofs.lemmas.Bool.{and_parts, both_ways, cases_eq, cases_lt}
use Rattle.std.proofs.lemmas.List.{ext_get_or}
use Rattle.nl_inode.specs.Free.{Becomes, NoneFree, is_free}
use Rattle.nl_inode.specs.Nodes.{AddressBecomes, IsLeastAddress, Spaces}
use Rattle.nl_calls_files.specs.LineNeeds.{free_addresses}
use Rattle.nl_calls_files.proofs.Counts.{marks, one_unmarked, some_mark}

pub none-counted : (free : List Bool) → NoneFree free → marks free ≡ 0
none-counted free none = by (cases_lt 0 (marks free))
  where
    by : (0 < marks free) ⊎ (marks free ≤ 0) → marks free ≡ 0
    by (inl some) = let k = some_mark free (omega (arith, some)) in absurd (both_ways (get_or free k.0 false) (none k.0) k.1)
    by (inr low) = omega (arith, low)

given-back : (k : ℕ) (old mid new : List Bool) → is_free old k ≡ true → Becomes k false old mid → Becomes k true mid new → new ≡ old
given-back k old mid new is a b =
    ext_get_or false new old (b.count ∙ a.count) (λ i low. by i (cases_eq i k))
  where
    by : (i : ℕ) → (i ≡ k) ⊎ (i ≢ k) → get_or new i false ≡ get_or old i false
    by i (inl e) = ap (λ (j : ℕ). get_or new j false) e ∙ b.at ∙ sym is ∙ ap (λ (j : ℕ). get_or old j false) (sym e)
    by i (inr far) = b.others i far ∙ a.others i far

-- ---- of the pool

free-itself : (a : ℕ) (s : Spaces) → IsLeastAddress a s → is_free s.pool (a - s.first) ≡ true
free-itself a s least = (and_parts _ _ least.free_itself).1

pub pool-taken : (a : ℕ) (s t : Spaces) → IsLeastAddress a s → AddressBecomes a false s t → free_addresses s ≡ free_addresses t + 1
pool-taken a s t least taken = sym (one_unmarked s.pool t.pool (a - s.first) taken.pool.count (free-itself a s least) taken.pool.at taken.pool.others)

pub pool-given : (a : ℕ) (s t u v : Spaces) → IsLeastAddress a s → AddressBecomes a false s t → u ≡ t → AddressBecomes a true u v → v ≡ s
pool-given a s t u v least taken same given = λ i. record { nodes = nodes i; first = first i; pool = pool i }
  where
    nodes : v.nodes ≡ s.nodes
    nodes = given.nodes ∙ ap (λ (x : Spaces). x.nodes) same ∙ taken.nodes

    first : v.first ≡ s.first
    first = given.first ∙ ap (λ (x : Spaces). x.first) same ∙ taken.first

    back : Becomes (a - s.first) true t.pool v.pool
    back = subst (λ (k : ℕ). Becomes (a - k) true t.pool v.pool) taken.first (subst (λ (x : Spaces). Becomes (a - x.first) true x.pool v.pool) same given.pool)

    pool : v.pool ≡ s.pool
    pool = given-back (a - s.first) s.pool t.pool v.pool (free-itself a s least) taken.pool back
