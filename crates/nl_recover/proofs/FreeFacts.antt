-- What is free is what no used node has.
use Rattle.std.proofs.Common.{◌≡◌, ◌≢◌, ℕ, zero, suc, ◌+◌, ◌-◌, ◌<◌, ◌≤◌, Bool, true, false, not, ◌&&◌, ◌||◌, cond, List, [], ◌∷◌, ◌++◌, length, refl, sym, ap, subst, ◌∙◌, Option, Some, None, ◌⊎◌, inl, inr, arith, ◌==◌, nat_le, nat_lt}
use Rattle.std.proofs.lemmas.Bool.{and_parts, cases_Bool, cases_eq, cases_lt, eq-eqb, eqb-true, le-leb, le-ltb, lt-ltb, ne_eqb, not-true}
use Rattle.std.proofs.lemmas.List.Folds.{list_any-append}
use Rattle.std.specs.List.{list_any, range_with_len}
use Rattle.std.specs.Prelude.{slice_get}
use Rattle.nl_field.specs.Members.{Has}
use Rattle.nl_field.specs.declared.inode.InodeRec.{InodeRec}
use Rattle.nl_field.specs.declared.shape.Shape.{Shape}
use Rattle.nl_meta.specs.Committed.{VirtualMap}
use Rattle.nl_meta.specs.Consistent.{AddressAt, IsNode}
use Rattle.nl_meta.specs.Nodes.{inode_at}
use Rattle.nl_meta.specs.Walk.{is_used_kind}
use Rattle.nl_meta.proofs.Lists.{any_member, flat-member, member-flat, member-range, member_any, none_some, range-member, some_in, true_false}
use Rattle.nl_meta.proofs.NodeProofs.{kind_used, used_kind}
use Rattle.nl_inode.specs.Free.{is_free}
use Rattle.nl_inode.specs.Nodes.{AddressBecomes, AreFree, NodeBecomes, Spaces, is_free_address, is_free_node}
use Rattle.nl_recover.specs.Freeing.{SpacesOf, TakesAddresses, TakesNode, taken_by}
use Rattle.nl_recover.specs.Reaching.{is_used_record}
use Rattle.nl_recover.proofs.Scans.{grows, upto}

-- ---- tests

and-true : (b : Bool) → b ≡ (b && true)
and-true true = refl
and-true false = refl

and-false : (b : Bool) → false ≡ (b && false)
and-false true = refl
and-false false = refl

and-both : (f x y : Bool) → (f && not x && not y) ≡ (f && not (x || y))
and-both true true y = refl
and-both true false y = refl
and-both false x y = refl

-- ---- addresses

module _ (shape : Shape) where
  pub takes-none : (s : Spaces) → SpacesOf shape s → TakesAddresses shape [] s s
  takes-none s is = record { spaces = is; nodes = refl; each = λ a low high. and-true _ }

  pub takes-then : (xs ys : List ℕ) (s t u : Spaces) → TakesAddresses shape xs s t → TakesAddresses shape ys t u → TakesAddresses shape (xs ++ ys) s u
  takes-then xs ys s t u a b = record {
    spaces = b.spaces;
    nodes = b.nodes ∙ a.nodes;
    each = λ v low high.
        b.each v low high ∙ ap (λ x. x && not (list_any (λ w. w == v) ys)) (a.each v low high)
        ∙ and-both (is_free s.pool (v - (67 + shape.inode_pages))) (list_any (λ w. w == v) xs) (list_any (λ w. w == v) ys)
        ∙ ap (λ x. is_free s.pool (v - (67 + shape.inode_pages)) && not x) (sym (list_any-append (λ w. w == v) xs ys));
  }

  -- an address outside the pool
  pub takes-outside : (a : ℕ) (s : Spaces) → SpacesOf shape s → ((v : ℕ) → 67 + shape.inode_pages ≤ v → v < shape.vaddrs → a ≡ v → ⊥) → TakesAddresses shape (a ∷ []) s s
  takes-outside a s is far = record {
    spaces = is;
    nodes = refl;
    each = λ v low high. and-true (is_free s.pool (v - (67 + shape.inode_pages))) ∙ ap (λ x. is_free s.pool (v - (67 + shape.inode_pages)) && not (x || false)) (sym (ne_eqb a v (far v low high)));
  }

  -- one of the pool
  pub takes-one : (a : ℕ) (s t : Spaces) → SpacesOf shape s → 67 + shape.inode_pages ≤ a → AddressBecomes a false s t → TakesAddresses shape (a ∷ []) s t
  takes-one a s t is from becomes = record {
    spaces = record {
      nodes = ap length becomes.nodes ∙ is.nodes;
      first = becomes.first ∙ is.first;
      pool = let f = becomes.first in let c = becomes.pool.count in let p = is.pool in omega (arith, f, c, p);
    };
    nodes = becomes.nodes;
    each = λ v low high. by v low (cases_eq a v);
  }
    where
      apart : (v f : ℕ) → f ≡ 67 + shape.inode_pages → 67 + shape.inode_pages ≤ v → (a ≡ v → ⊥) → v - (67 + shape.inode_pages) ≡ a - f → ⊥
      apart v f e low far same = far (omega (arith, e, low, from, same))

      by : (v : ℕ) → 67 + shape.inode_pages ≤ v → (a ≡ v) ⊎ (a ≡ v → ⊥)
          → is_free t.pool (v - (67 + shape.inode_pages)) ≡ (is_free s.pool (v - (67 + shape.inode_pages)) && not (a == v || false))
      by v low (inl e) =
          ap (λ (k : ℕ). is_free t.pool k) ((λ i. sym e i - sym is.first i)) ∙ becomes.pool.at ∙ and-false (is_free s.pool (v - (67 + shape.inode_pages)))
          ∙ ap (λ x. is_free s.pool (v - (67 + shape.inode_pages)) && not (x || false)) (sym (eq-eqb a v e))
      by v low (inr far) =
          becomes.pool.others (v - (67 + shape.inode_pages)) (apart v s.first is.first low far)
          ∙ and-true (is_free s.pool (v - (67 + shape.inode_pages))) ∙ ap (λ x. is_free s.pool (v - (67 + shape.inode_pages)) && not (x || false)) (sym (ne_eqb a v far))

  -- ---- one node

  pub node-stays : (n : ℕ) (s : Spaces) (used : Bool) (ys : List ℕ) → SpacesOf shape s → used ≡ false → ys ≡ [] → TakesNode shape n used ys s s
  node-stays n s used ys is e none = record {
    spaces = is;
    nodes = λ m h. and-true (is_free s.nodes m) ∙ ap (λ x. is_free s.nodes m && not x) (sym (ap (λ u. m == n && u) e ∙ nothing (m == n)));
    each = λ v low high. and-true (is_free s.pool (v - (67 + shape.inode_pages))) ∙ ap (λ (l : List ℕ). is_free s.pool (v - (67 + shape.inode_pages)) && not (list_any (λ w. w == v) l)) (sym none);
  }
    where
      nothing : (b : Bool) → (b && false) ≡ false
      nothing true = refl
      nothing false = refl

  pub node-taken : (n : ℕ) (xs : List ℕ) (s t u : Spaces) → TakesAddresses shape xs s t → NodeBecomes n false t u → TakesNode shape n true xs s u
  node-taken n xs s t u a b = record {
    spaces = record { nodes = b.nodes.count ∙ a.spaces.nodes; first = b.first ∙ a.spaces.first; pool = let f = b.first in let p = ap length b.pool in let q = a.spaces.pool in omega (arith, f, p, q) };
    nodes = λ m h. by m (cases_eq m n);
    each = λ v low high. ap (λ (l : List Bool). is_free l (v - (67 + shape.inode_pages))) b.pool ∙ a.each v low high;
  }
    where
      by : (m : ℕ) → (m ≡ n) ⊎ (m ≡ n → ⊥) → is_free u.nodes m ≡ (is_free s.nodes m && not (m == n && true))
      by m (inl e) =
          ap (is_free u.nodes) e ∙ b.nodes.at ∙ and-false (is_free s.nodes m) ∙ ap (λ x. is_free s.nodes m && not (x && true)) (sym (eq-eqb m n e))
      by m (inr far) =
          b.nodes.others m far ∙ ap (λ (l : List Bool). is_free l m) a.nodes ∙ and-true (is_free s.nodes m) ∙ ap (λ x. is_free s.nodes m && not (x && true)) (sym (ne_eqb m n far))

  -- ---- all nodes

  module _ (pages : VirtualMap) where
    abbrev is_used : ℕ → Bool
    is_used n = is_used_record (inode_at pages n)

    abbrev taken : ℕ → List ℕ
    taken n = taken_by (inode_at pages n)

    pub record FreeBelow (n : ℕ) (s : Spaces) : Type 0 where
      pub spaces : SpacesOf shape s
      pub nodes : (m : ℕ) → m < shape.nodes → is_free s.nodes m ≡ not (nat_lt m n && is_used m)
      pub pool : (a : ℕ) → 67 + shape.inode_pages ≤ a → a < shape.vaddrs → is_free s.pool (a - (67 + shape.inode_pages)) ≡ not (list_any (λ b. b == a) (upto taken n))

    same-test : (x y : Bool) → (not x && not y) ≡ not (x || y)
    same-test true y = refl
    same-test false y = refl

    pub free-none : (s : Spaces) → SpacesOf shape s → ((m : ℕ) → m < shape.nodes → is_free_node s m ≡ true) → ((a : ℕ) → s.first ≤ a → a < shape.vaddrs → is_free_address s a ≡ true) → FreeBelow 0 s
    free-none s is free pool = record {
      spaces = is;
      nodes = λ m h. free m h ∙ ap (λ x. not (x && is_used m)) (sym (le-ltb m 0 (omega arith)));
      pool = λ a low high.
          let from : s.first ≤ a = let f = is.first in omega (arith, f, low) in
          ap (λ (f : ℕ). is_free s.pool (a - f)) (sym is.first) ∙ (and_parts (nat_le s.first a) (is_free s.pool (a - s.first)) (pool a from high)).1;
    }

    pub free-more : (n : ℕ) (s t : Spaces) → FreeBelow n s → TakesNode shape n (is_used n) (taken n) s t → FreeBelow (n + 1) t
    free-more n s t is takes = record {
      spaces = takes.spaces;
      nodes = λ m h. takes.nodes m h ∙ ap (λ x. x && not (m == n && is_used n)) (is.nodes m h) ∙ same-test (nat_lt m n && is_used m) (m == n && is_used n) ∙ ap not (by m (cases_eq m n));
      pool = λ a low high.
          takes.each a low high ∙ ap (λ x. x && not (list_any (λ b. b == a) (taken n))) (is.pool a low high)
          ∙ same-test (list_any (λ b. b == a) (upto taken n)) (list_any (λ b. b == a) (taken n))
          ∙ ap not (sym (ap (list_any (λ b. b == a)) (grows taken n) ∙ list_any-append (λ b. b == a) (upto taken n) (taken n)));
    }
      where
        here : (x u : Bool) → x ≡ false → ((x && u) || (true && u)) ≡ (true && u)
        here x u e = ap (λ b. (b && u) || u) e

        unlike : (x u v : Bool) → ((x && u) || (false && v)) ≡ (x && u)
        unlike true true v = refl
        unlike true false v = refl
        unlike false u v = refl

        by : (m : ℕ) → (m ≡ n) ⊎ (m ≡ n → ⊥) → ((nat_lt m n && is_used m) || (m == n && is_used n)) ≡ (nat_lt m (n + 1) && is_used m)
        by m (inl e) =
            ap (λ x. (nat_lt m n && is_used m) || (x && is_used n)) (eq-eqb m n e) ∙ ap (λ (k : ℕ). (nat_lt m n && is_used m) || (true && is_used k)) (sym e)
            ∙ here (nat_lt m n) (is_used m) (le-ltb m n (omega (arith, e))) ∙ ap (λ x. x && is_used m) (sym (lt-ltb m (n + 1) (omega (arith, e))))
        by m (inr far) =
            ap (λ x. (nat_lt m n && is_used m) || (x && is_used n)) (ne_eqb m n far) ∙ unlike (nat_lt m n) (is_used m) (is_used n) ∙ ap (λ x. x && is_used m) (next (cases_lt m n))
          where
            next : (m < n) ⊎ (n ≤ m) → nat_lt m n ≡ nat_lt m (n + 1)
            next (inl h) = lt-ltb m n h ∙ sym (lt-ltb m (n + 1) (omega (arith, h)))
            next (inr h) = le-ltb m n h ∙ sym (le-ltb m (n + 1) (omega (arith, h, far)))

    -- ---- the end

    used-node : (n : ℕ) (rec : InodeRec) → IsNode shape pages n rec → is_used n ≡ true
    used-node n rec is = ap is_used_record is.spelled ∙ kind_used rec.kind is.used

    node-used : (n : ℕ) → n < shape.nodes → is_used n ≡ true → (rec : InodeRec) × IsNode shape pages n rec
    node-used n h e = by (inode_at pages n) refl e
      where
        by : (o : Option InodeRec) → inode_at pages n ≡ o → is_used_record o ≡ true → (rec : InodeRec) × IsNode shape pages n rec
        by None is e = absurd (true_false (sym e))
        by (Some rec) is e = (rec, record { below = h; spelled = is; used = used_kind rec.kind e })

    in-slot : (xs : List ℕ) (a k : ℕ) → slice_get xs k ≡ Some a → Has xs a
    in-slot [] a k e = absurd (none_some a e)
    in-slot (x ∷ xs) a zero e = inl (some_in x a e)
    in-slot (x ∷ xs) a (suc k) e = inr (in-slot xs a k e)

    has-slot : (xs : List ℕ) (a : ℕ) → Has xs a → (k : ℕ) × (slice_get xs k ≡ Some a)
    has-slot [] a m = absurd m
    has-slot (x ∷ xs) a (inl e) = (0, ap (λ (n : ℕ). Some n) e)
    has-slot (x ∷ xs) a (inr m) = let r = has-slot xs a m in (suc r.0, r.1)

    address-taken : (n slot a : ℕ) → AddressAt shape pages n slot a → Has (upto taken shape.nodes) a
    address-taken n slot a at =
        flat-member taken (range_with_len 0 shape.nodes) n a (range-member n 0 shape.nodes (omega arith) (let h = at.is_node.below in omega (arith, h)))
        (subst (λ (l : List ℕ). Has l a) (sym (ap taken_by at.is_node.spelled ∙ ap (λ b. cond b at.rec.addresses []) (kind_used at.rec.kind at.is_node.used))) (in-slot at.rec.addresses a slot at.in_slot))

    taken-address : (a : ℕ) → a ≢ 0 → Has (upto taken shape.nodes) a → (n : ℕ) × (slot : ℕ) × AddressAt shape pages n slot a
    taken-address a far m = at (member-flat taken (range_with_len 0 shape.nodes) a m)
      where
        of : (n : ℕ) → n < shape.nodes → (o : Option InodeRec) → inode_at pages n ≡ o → Has (taken_by o) a → (n : ℕ) × (slot : ℕ) × AddressAt shape pages n slot a
        of n h None is m = absurd m
        of n h (Some rec) is m =
            elim (is_used_kind rec.kind) as (λ b. is_used_kind rec.kind ≡ b → Has (cond b rec.addresses []) a → (n : ℕ) × (slot : ℕ) × AddressAt shape pages n slot a) [
              | true ↦ λ e m. let k = has-slot rec.addresses a m in (n, k.0, record { rec = rec; is_node = record { below = h; spelled = is; used = used_kind rec.kind e }; in_slot = k.1; not_zero = far })
              | false ↦ λ e m. absurd m
            ] refl m

        at : (n : ℕ) × Has (range_with_len 0 shape.nodes) n × Has (taken n) a → (n : ℕ) × (slot : ℕ) × AddressAt shape pages n slot a
        at r = of r.0 (omega (arith, (member-range r.0 0 shape.nodes r.1).1)) (inode_at pages r.0) refl r.2

    pub are-free : (n : ℕ) (s : Spaces) → n ≡ shape.nodes → FreeBelow n s → AreFree shape pages s
    are-free n s e is = record {
      nodes = λ m h. ((λ f rec node. true_false (sym (used-node m rec node) ∙ unused m h f)), (λ none. free m h none));
      pool = λ a low high. ((λ f k slot at. taken-no a low high f k slot at), (λ none. free-address a low high none));
    }
      where
        number : (m : ℕ) → m < shape.nodes → is_free_node s m ≡ not (is_used m)
        number m h = is.nodes m h ∙ ap (λ x. not (x && is_used m)) (lt-ltb m n (omega (arith, h, e)))

        unused : (m : ℕ) → m < shape.nodes → is_free_node s m ≡ true → is_used m ≡ false
        unused m h f = not-true _ (sym (number m h) ∙ f)

        free : (m : ℕ) → m < shape.nodes → ((rec : InodeRec) → IsNode shape pages m rec → ⊥) → is_free_node s m ≡ true
        free m h none = number m h ∙ by (cases_Bool (is_used m))
          where
            by : (is_used m ≡ true) ⊎ (is_used m ≡ false) → not (is_used m) ≡ true
            by (inl u) = let r = node-used m h u in absurd (none r.0 r.1)
            by (inr u) = ap not u

        address : (a : ℕ) → 67 + shape.inode_pages ≤ a → a < shape.vaddrs → is_free_address s a ≡ not (list_any (λ b. b == a) (upto taken shape.nodes))
        address a low high =
            ap (λ x. x && is_free s.pool (a - s.first)) (le-leb s.first a (let f = is.spaces.first in omega (arith, f, low)))
            ∙ ap (λ (f : ℕ). is_free s.pool (a - f)) is.spaces.first ∙ is.pool a low high ∙ ap (λ (k : ℕ). not (list_any (λ b. b == a) (upto taken k))) e

        taken-no : (a : ℕ) → 67 + shape.inode_pages ≤ a → a < shape.vaddrs → is_free_address s a ≡ true → (k slot : ℕ) → AddressAt shape pages k slot a → ⊥
        taken-no a low high f k slot at =
            true_false (sym (member_any (λ b. b == a) (upto taken shape.nodes) a (address-taken k slot a at) (eq-eqb a a refl)) ∙ not-true _ (sym (address a low high) ∙ f))

        free-address : (a : ℕ) → 67 + shape.inode_pages ≤ a → a < shape.vaddrs → ((k slot : ℕ) → AddressAt shape pages k slot a → ⊥) → is_free_address s a ≡ true
        free-address a low high none = address a low high ∙ by (cases_Bool (list_any (λ b. b == a) (upto taken shape.nodes)))
          where
            found : (b : ℕ) × Has (upto taken shape.nodes) b × ((b == a) ≡ true) → ⊥
            found r =
                let t = taken-address a (λ z. no-zero z) (subst (λ (b : ℕ). Has (upto taken shape.nodes) b) (eqb-true r.0 a r.2) r.1) in
                none t.0 t.1 t.2
              where
                no-zero : a ≡ 0 → ⊥
                no-zero z = omega (arith, z, low)

            by : (list_any (λ b. b == a) (upto taken shape.nodes) ≡ true) ⊎ (list_any (λ b. b == a) (upto taken shape.nodes) ≡ false) → not (list_any (λ b. b == a) (upto taken shape.nodes)) ≡ true
            by (inl t) = absurd (found (any_member (λ b. b == a) (upto taken shape.nodes) t))
            by (inr t) = ap not t
