-- Paths in their order: what comes next behind a path, found from its end towards the root.
use Rattle.std.proofs.Common.{◌≡◌, ◌≢◌, ℕ, true, false, List, [], ◌∷◌, ◌++◌, refl, sym, ap, subst, ◌∙◌, Option, Some, None, option_and_then}
use Rattle.std.proofs.lemmas.List.{append_assoc}
use Rattle.std.specs.declared.cmp.Ordering.{Ordering}
use Rattle.std.specs.declared.cmp.Ordering.TheVariants.{Less, Equal, Greater}
use Rattle.std.specs.Ordering.{is_lt, nat_cmp, ordering_then, ordering_reverse}
use Rattle.std.specs.Cmp.{IsTotalOrder, nat_cmp_total, tied_itself}
use Rattle.std.specs.Cmp.Lexicographic.{slice_cmp, lists_total}
use Rattle.std.specs.FinMap.{nat_cmp-IsAntisymmetric, slice_cmp-IsAntisymmetric}
use Rattle.nl_field.specs.Graph.{Graph}
use Rattle.nl_field.specs.declared.entry.EntryRec.{EntryRec}
use Rattle.nl_meta.proofs.Lists.{none_some}
use Rattle.nl_tree.specs.GraphLaws.{entry_at}
use Rattle.nl_tree.specs.Represents.{node_reached}
use Rattle.nl_tree.specs.Tree.{path_cmp}
use Rattle.nl_tree.proofs.GraphProofs.{reached-append}
use Rattle.nl_volume_list.specs.Entries.{HasLeastBehind, HasNoneBehind, is_behind}
use Rattle.nl_volume_list.specs.Onward.{IsNextPath, NoneUnder}

abbrev pub Path : Type 0
Path = List (List ℕ)

pub names_total : IsTotalOrder (slice_cmp nat_cmp)
names_total = lists_total nat_cmp_total

pub same-name : (a b : List ℕ) → slice_cmp nat_cmp a b ≡ Equal → a ≡ b
same-name a b e = slice_cmp-IsAntisymmetric nat_cmp-IsAntisymmetric a b e

pub greater-less : Greater ≡ Less → ⊥
greater-less e = cc

pub equal-less : Equal ≡ Less → ⊥
equal-less e = cc

true-false : true ≡ false → ⊥
true-false e = cc

pub less-is : (o : Ordering) → is_lt o ≡ true → o ≡ Less
less-is Less e = refl
less-is Equal e = cc
less-is Greater e = cc

-- a beginning that two paths share
pub order-behind : (p a b : Path) → path_cmp (p ++ a) (p ++ b) ≡ path_cmp a b
order-behind [] a b = refl
order-behind (x ∷ p) a b = ap (λ (o : Ordering). ordering_then o (path_cmp (p ++ a) (p ++ b))) (tied_itself names_total x) ∙ order-behind p a b

pub record Under (p q : Path) : Type 0 where
  pub rest : Path
  pub is : q ≡ p ++ rest

-- what stands between two paths under one stands under it too
pub convex : (p a b q : Path) → path_cmp (p ++ a) q ≡ Less → path_cmp q (p ++ b) ≡ Less → Under p q
convex [] a b q e f = record { rest = q; is = refl }
convex (x ∷ p) a b [] e f = absurd (greater-less e)
convex (x ∷ p) a b (y ∷ q) e f = by (convex p a b q) (slice_cmp nat_cmp x y) refl
  where
    back : (o : Ordering) → slice_cmp nat_cmp x y ≡ o → slice_cmp nat_cmp y x ≡ ordering_reverse o
    back o h = names_total.antisymm y x ∙ ap ordering_reverse h

    by : (path_cmp (p ++ a) q ≡ Less → path_cmp q (p ++ b) ≡ Less → Under p q) → (o : Ordering) → slice_cmp nat_cmp x y ≡ o → Under (x ∷ p) (y ∷ q)
    by rest Less h = absurd (greater-less (sym (ap (λ (o : Ordering). ordering_then o (path_cmp q (p ++ b))) (back Less h)) ∙ f))
    by rest Equal h =
        let r = rest (sym (ap (λ (o : Ordering). ordering_then o (path_cmp (p ++ a) q)) h) ∙ e) (sym (ap (λ (o : Ordering). ordering_then o (path_cmp q (p ++ b))) (back Equal h)) ∙ f) in
        record { rest = r.rest; is = λ i. sym (same-name x y h) i ∷ r.is i }
    by rest Greater h = absurd (greater-less (sym (ap (λ (o : Ordering). ordering_then o (path_cmp (p ++ a) q)) h) ∙ e))

module _ (graph : Graph) (here p a : Path) (k : ℕ) (at : node_reached graph 0 p ≡ Some k) (parts : here ≡ p ++ a) where
  -- the first name behind it is one of an entry
  first-name : (x : List ℕ) (r : Path) (n : ℕ) → node_reached graph 0 (p ++ x ∷ r) ≡ Some n → (m : ℕ) × (entry_at graph k x ≡ Some m)
  unfolding node_reached
  first-name x r n e = by (entry_at graph k x) refl (sym (reached-append graph 0 p (x ∷ r) ∙ ap (option_and_then (λ j. node_reached graph j (x ∷ r))) at) ∙ e)
    where
      by : (o : Option ℕ) → entry_at graph k x ≡ o → node_reached graph k (x ∷ r) ≡ Some n → (m : ℕ) × (entry_at graph k x ≡ Some m)
      by (Some m) h e = (m, h)
      by None h e = absurd (none_some n (sym (ap (option_and_then (λ m. node_reached graph m r)) h) ∙ e))

  compared : (s : Path) → path_cmp here (p ++ s) ≡ path_cmp a s
  compared s = ap (λ (h : Path). path_cmp h (p ++ s)) parts ∙ order-behind p a s

  -- ---- nothing is left under it

  -- where it is the path itself, and no entry is there
  pub bare : a ≡ [] → ((x : List ℕ) (m : ℕ) → entry_at graph k x ≡ Some m → x ≢ []) → HasNoneBehind graph k [] → NoneUnder graph here p
  bare end named none s n e f = by s e (sym (ap (λ (b : Path). path_cmp b s) end) ∙ sym (compared s) ∙ f)
    where
      some : (x : List ℕ) (m : ℕ) → entry_at graph k x ≡ Some m → x ≢ [] → is_behind [] x ≡ false → ⊥
      some [] m h far out = far refl
      some (b ∷ x) m h far out = true-false out

      by : (s : Path) → node_reached graph 0 (p ++ s) ≡ Some n → path_cmp [] s ≡ Less → ⊥
      by [] e f = equal-less f
      by (x ∷ r) e f = let m = first-name x r n e in some x m.0 m.1 (named x m.0 m.1) (none x m.0 m.1)

  -- where a name comes behind it, behind which there is no entry, and nothing under that name
  pub climbed : (h : List ℕ) (rest : Path) → a ≡ h ∷ rest → HasNoneBehind graph k h → NoneUnder graph here (p ++ h ∷ []) → NoneUnder graph here p
  climbed h rest end none deeper s n e f = by s e f (sym (ap (λ (b : Path). path_cmp b s) end) ∙ sym (compared s) ∙ f)
    where
      same : (x : List ℕ) (r : Path) → h ≡ x → p ++ x ∷ r ≡ (p ++ h ∷ []) ++ r
      same x r e = ap (λ (y : List ℕ). p ++ y ∷ r) (sym e) ∙ sym (append_assoc p (h ∷ []) r)

      by : (s : Path) → node_reached graph 0 (p ++ s) ≡ Some n → path_cmp here (p ++ s) ≡ Less → path_cmp (h ∷ rest) s ≡ Less → ⊥
      by [] e f g = greater-less g
      by (x ∷ r) e f g = cases (slice_cmp nat_cmp h x) refl
        where
          cases : (o : Ordering) → slice_cmp nat_cmp h x ≡ o → ⊥
          cases Less c = let m = first-name x r n e in true-false (sym (ap is_lt c) ∙ none x m.0 m.1)
          cases Equal c =
              let q = same x r (same-name h x c) in
              deeper r n (subst (λ (z : Path). node_reached graph 0 z ≡ Some n) q e) (subst (λ (z : Path). path_cmp here z ≡ Less) q f)
          cases Greater c = greater-less (sym (ap (λ (o : Ordering). ordering_then o (path_cmp rest r)) c) ∙ g)

  -- ---- what comes next

  module _ (name : List ℕ) where
    next-of : path_cmp a (name ∷ []) ≡ Less
        → ((x : List ℕ) (r : Path) (n m : ℕ) → node_reached graph 0 (p ++ x ∷ r) ≡ Some n → path_cmp here (p ++ x ∷ r) ≡ Less → entry_at graph k x ≡ Some m → path_cmp a (x ∷ r) ≡ Less → slice_cmp nat_cmp x name ≡ Less → ⊥)
        → IsNextPath graph here (p ++ name ∷ [])
    next-of less none = record { behind = compared (name ∷ []) ∙ less; between = between }
      where
        after : (r : Path) → path_cmp r [] ≡ Less → ⊥
        after [] e = equal-less e
        after (y ∷ r) e = greater-less e

        in-it : (s : Path) (n : ℕ) → node_reached graph 0 (p ++ s) ≡ Some n → path_cmp here (p ++ s) ≡ Less → path_cmp a s ≡ Less → path_cmp s (name ∷ []) ≡ Less → ⊥
        in-it [] n e h f g = after a f
        in-it (x ∷ r) n e h f g = cases (slice_cmp nat_cmp x name) refl
          where
            cases : (o : Ordering) → slice_cmp nat_cmp x name ≡ o → ⊥
            cases Less c = let m = first-name x r n e in none x r n m.0 e h m.1 f c
            cases Equal c = after r (sym (ap (λ (o : Ordering). ordering_then o (path_cmp r [])) c) ∙ g)
            cases Greater c = greater-less (sym (ap (λ (o : Ordering). ordering_then o (path_cmp r [])) c) ∙ g)

        between : (q : Path) (n : ℕ) → node_reached graph 0 q ≡ Some n → path_cmp here q ≡ Less → path_cmp q (p ++ name ∷ []) ≡ Less → ⊥
        between q n e f g =
            let u = convex p a (name ∷ []) q (sym (ap (λ (h : Path). path_cmp h q) parts) ∙ f) g in
            let f2 = subst (λ (z : Path). path_cmp here z ≡ Less) u.is f in
            in-it u.rest n (subst (λ (z : Path). node_reached graph 0 z ≡ Some n) u.is e) f2 (sym (compared u.rest) ∙ f2)
            (sym (order-behind p u.rest (name ∷ [])) ∙ subst (λ (z : Path). path_cmp z (p ++ name ∷ []) ≡ Less) u.is g)

  module _ (entry : EntryRec) where
    -- the least entry of the path itself
    pub first-next : a ≡ [] → ((x : List ℕ) (m : ℕ) → entry_at graph k x ≡ Some m → x ≢ []) → HasLeastBehind graph k [] entry → IsNextPath graph here (p ++ entry.name ∷ [])
    first-next end named least = next-of entry.name (ap (λ (b : Path). path_cmp b (entry.name ∷ [])) end) (λ x r n m e h at f c. true-false (sym (ap is_lt c) ∙ least.least x m at (some x (named x m at))))
      where
        some : (x : List ℕ) → x ≢ [] → is_behind [] x ≡ true
        some [] far = absurd (far refl)
        some (b ∷ x) far = refl

    -- the least behind a name of the path
    pub beside-next : (h : List ℕ) (rest : Path) → a ≡ h ∷ rest → HasLeastBehind graph k h entry → NoneUnder graph here (p ++ h ∷ []) → IsNextPath graph here (p ++ entry.name ∷ [])
    beside-next h rest end least deeper =
        next-of entry.name (ap (λ (b : Path). path_cmp b (entry.name ∷ [])) end ∙ ap (λ (o : Ordering). ordering_then o (path_cmp rest [])) (less-is (slice_cmp nat_cmp h entry.name) least.behind)) none
      where
        same : (x : List ℕ) (r : Path) → h ≡ x → p ++ x ∷ r ≡ (p ++ h ∷ []) ++ r
        same x r e = ap (λ (y : List ℕ). p ++ y ∷ r) (sym e) ∙ sym (append_assoc p (h ∷ []) r)

        none : (x : List ℕ) (r : Path) (n m : ℕ) → node_reached graph 0 (p ++ x ∷ r) ≡ Some n → path_cmp here (p ++ x ∷ r) ≡ Less → entry_at graph k x ≡ Some m → path_cmp a (x ∷ r) ≡ Less → slice_cmp nat_cmp x entry.name ≡ Less → ⊥
        none x r n m e f at g c = cases (slice_cmp nat_cmp h x) refl
          where
            cases : (o : Ordering) → slice_cmp nat_cmp h x ≡ o → ⊥
            cases Less d = true-false (sym (ap is_lt c) ∙ least.least x m at (ap is_lt d))
            cases Equal d =
                let q = same x r (same-name h x d) in
                deeper r n (subst (λ (z : Path). node_reached graph 0 z ≡ Some n) q e) (subst (λ (z : Path). path_cmp here z ≡ Less) q f)
            cases Greater d = greater-less (sym (ap (λ (o : Ordering). ordering_then o (path_cmp rest r)) d) ∙ sym (ap (λ (b : Path). path_cmp b (x ∷ r)) end) ∙ g)
