-- What a call takes of what is free, from the steps of which it is made.
use Rattle.std.proofs.Common.{◌≡◌, ◌≢◌, ℕ, ◌+◌, ◌-◌, ◌%◌, ◌^◌, ◌≤◌, Bool, true, false, ◌&&◌, nat_le, List, Option, Some, None, refl, sym, ap, subst, ◌∙◌, ◌⊎◌, inl, inr, arith}
use Rattle.std.proofs.lemmas.Bool.{and_from, and_parts, cases_eq, leb-true}
use Rattle.nl_field.specs.Graph.{Graph}
use Rattle.nl_inode.specs.Free.{IsLeastFreeNumber, is_free}
use Rattle.nl_inode.specs.Nodes.{AddressBecomes, IsLeastAddress, NodeBecomes, Spaces, is_free_address, is_free_node}
use Rattle.nl_namespace.specs.Entering.{ReturnsAddress, TakesAddress}
use Rattle.nl_namespace.specs.Taking.{IsTakenNumber, TakesLeast}

pub true-false : true ≡ false → ⊥
true-false e = cc

-- ---- one address

module _ (a : ℕ) (b : Bool) (s t : Spaces) (becomes : AddressBecomes a b s t) where
  index : (c : ℕ) → is_free_address t c ≡ (nat_le s.first c && is_free t.pool (c - s.first))
  index c = ap (λ (f : ℕ). nat_le f c && is_free t.pool (c - f)) becomes.first

  -- every other address is free or not as before
  other-address : (c : ℕ) → c - s.first ≢ a - s.first → is_free_address t c ≡ is_free_address s c
  other-address c far = index c ∙ ap (λ (x : Bool). nat_le s.first c && x) (becomes.pool.others (c - s.first) far)

pub address-from : (a : ℕ) (s : Spaces) → is_free_address s a ≡ true → s.first ≤ a
address-from a s free = leb-true s.first a (and_parts (nat_le s.first a) _ free).0

-- ---- no number is taken

-- Addresses are given back at most.
pub record Gives (s t : Spaces) : Type 0 where
  pub nodes : t.nodes ≡ s.nodes
  pub address : (a : ℕ) → is_free_address s a ≡ true → is_free_address t a ≡ true

pub gives-none : (s : Spaces) → Gives s s
gives-none s = record { nodes = refl; address = λ a free. free }

pub gives-of : (given : Option ℕ) (s t : Spaces) → ReturnsAddress given s t → Gives s t
gives-of None s t same = record {
  nodes = ap (λ (x : Spaces). x.nodes) same;
  address = λ a free. ap (λ (x : Spaces). is_free_address x a) same ∙ free;
}
gives-of (Some b) s t becomes = record { nodes = becomes.nodes; address = address }
  where
    address : (a : ℕ) → is_free_address s a ≡ true → is_free_address t a ≡ true
    address a free = by (cases_eq (a - s.first) (b - s.first))
      where
        by : (a - s.first ≡ b - s.first) ⊎ (a - s.first ≡ b - s.first → ⊥) → is_free_address t a ≡ true
        by (inl e) = index b true s t becomes a ∙ and_from (nat_le s.first a) _ (and_parts (nat_le s.first a) _ free).0 (ap (is_free t.pool) e ∙ becomes.pool.at)
        by (inr far) = other-address b true s t becomes a far ∙ free

-- An address that is taken is the least one.
pub record Takes (s t : Spaces) : Type 0 where
  pub nodes : t.nodes ≡ s.nodes
  pub address : (a : ℕ) → is_free_address s a ≡ true → is_free_address t a ≡ false → IsLeastAddress a s

pub takes-of : (fresh : Option ℕ) (s t : Spaces) → TakesAddress fresh s t → Takes s t
takes-of None s t same = record {
  nodes = ap (λ (x : Spaces). x.nodes) same;
  address = λ a free used. absurd (true-false (sym free ∙ sym (ap (λ (x : Spaces). is_free_address x a) same) ∙ used));
}
takes-of (Some b) s t takes = record { nodes = takes.1.nodes; address = address }
  where
    address : (a : ℕ) → is_free_address s a ≡ true → is_free_address t a ≡ false → IsLeastAddress a s
    address a free used = by (cases_eq a b)
      where
        by : (a ≡ b) ⊎ (a ≡ b → ⊥) → IsLeastAddress a s
        by (inl e) = subst (λ (c : ℕ). IsLeastAddress c s) (sym e) takes.0
        by (inr far) = absurd (true-false (sym free ∙ sym (other-address b false s t takes.1 a apart) ∙ used))
          where
            apart : a - s.first ≢ b - s.first
            apart e = let h = address-from a s free in let l = address-from b s takes.0.free_itself in far (omega (arith, h, l, e))

-- What is taken after something was given back is the least of what was free before, if it was.
pub takes-after : (s u v t : Spaces) → Gives s u → Gives u v → Takes v t → Takes s t
takes-after s u v t first second takes = record { nodes = takes.nodes ∙ second.nodes ∙ first.nodes; address = address }
  where
    later : (a : ℕ) → is_free_address s a ≡ true → is_free_address v a ≡ true
    later a free = second.address a (first.address a free)

    address : (a : ℕ) → is_free_address s a ≡ true → is_free_address t a ≡ false → IsLeastAddress a s
    address a free used = record { free_itself = free; least = λ b less. by b (least.least b less) (is_free_address s b) refl }
      where
        least : IsLeastAddress a v
        least = takes.address a (later a free) used

        by : (b : ℕ) → is_free_address v b ≡ false → (x : Bool) → is_free_address s b ≡ x → is_free_address s b ≡ false
        by b none false e = e
        by b none true e = absurd (true-false (sym (later b e) ∙ none))

-- ---- what the call takes

module _ (s t : Spaces) (old new : Graph) where
  -- no number is taken, and the generations stay
  pub takes-address : Takes s t → ((k : ℕ) → (new k).generation ≡ (old k).generation) → TakesLeast s t old new
  takes-address takes stay = record {
    number = λ n x. absurd (none n x);
    next = λ n x. absurd (none n x);
    others = λ n off. stay n;
    address = λ a x. takes.address a x.was_free x.is_used;
  }
    where
      none : (n : ℕ) → IsTakenNumber n s t → ⊥
      none n x = true-false (sym x.was_free ∙ sym (ap (λ (bs : List Bool). is_free bs n) takes.nodes) ∙ x.is_used)

-- nothing is taken
pub takes-none : (s : Spaces) (old new : Graph) → ((k : ℕ) → (new k).generation ≡ (old k).generation) → TakesLeast s s old new
takes-none s old new stay = takes-address s s old new (record { nodes = refl; address = λ a free used. absurd (true-false (sym free ∙ used)) }) stay

-- what is given back at most
pub takes-given : (s t : Spaces) (old new : Graph) → Gives s t → ((k : ℕ) → (new k).generation ≡ (old k).generation) → TakesLeast s t old new
takes-given s t old new gives stay =
    takes-address s t old new (record { nodes = gives.nodes; address = λ a free used. absurd (true-false (sym (gives.address a free) ∙ used)) }) stay

-- a number is taken, and then an address or none
module _ (m : ℕ) (s u t : Spaces) (old new : Graph) (least : IsLeastFreeNumber m s.nodes) (becomes : NodeBecomes m false s u) (takes : Takes u t) (next : (new m).generation ≡ ((old m).generation + 1) % 2 ^ 32)
    (stay : (k : ℕ) → k ≢ m → (new k).generation ≡ (old k).generation) where
  same-address : (a : ℕ) → is_free_address u a ≡ is_free_address s a
  same-address a = λ i. nat_le (becomes.first i) a && is_free (becomes.pool i) (a - becomes.first i)

  other-number : (k : ℕ) → k ≢ m → is_free_node t k ≡ is_free_node s k
  other-number k far = ap (λ (bs : List Bool). is_free bs k) takes.nodes ∙ becomes.nodes.others k far

  taken : IsTakenNumber m s t
  taken = record { was_free = least.free_itself; is_used = ap (λ (bs : List Bool). is_free bs m) takes.nodes ∙ becomes.nodes.at }

  is-it : (k : ℕ) → IsTakenNumber k s t → k ≡ m
  is-it k x = by (cases_eq k m)
    where
      by : (k ≡ m) ⊎ (k ≡ m → ⊥) → k ≡ m
      by (inl e) = e
      by (inr far) = absurd (true-false (sym x.was_free ∙ sym (other-number k far) ∙ x.is_used))

  pub takes-number : TakesLeast s t old new
  takes-number = record {
    number = λ k x. subst (λ (i : ℕ). IsLeastFreeNumber i s.nodes) (sym (is-it k x)) least;
    next = λ k x. subst (λ (i : ℕ). (new i).generation ≡ ((old i).generation + 1) % 2 ^ 32) (sym (is-it k x)) next;
    others = λ k off. stay k (λ e. off (subst (λ (i : ℕ). IsTakenNumber i s t) (sym e) taken));
    address = λ a x.
        let l = takes.address a (same-address a ∙ x.was_free) x.is_used in
        record { free_itself = x.was_free; least = λ b less. sym (same-address b) ∙ l.least b less };
  }
