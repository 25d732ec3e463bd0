-- Marks of addresses tell what looking back at all earlier addresses would.
use Rattle.std.proofs.Common.{◌≡◌, ℕ, ◌+◌, ◌<◌, Bool, true, false, not, ◌&&◌, ◌||◌, cond, List, [], ◌∷◌, ◌++◌, length, take, drop, map, filter, filter_map, flat_map, get_or, set, refl, sym, ap, subst, ◌∙◌, Option, Some, None, option_map, is_none, if◌then◌else◌, ◌⊎◌, inl, inr, ◌==◌, nat_le, nat_lt}
use Rattle.std.proofs.lemmas.Bool.{and_parts, cases_Bool, cases_eq, eq-eqb, ltb-true, ne_eqb, not-false, or_parts}
use Rattle.std.proofs.lemmas.List.Elements.{filter-append, filter_more}
use Rattle.std.proofs.lemmas.List.{get_or-set_other, get_or-set_same, length-set, map-append, take-append-drop}
use Rattle.std.specs.List.{cons_option, list_any, range_with_len}
use Rattle.nl_field.specs.Pointers.{indirect_of}
use Rattle.nl_field.specs.declared.inode.InodeRec.{InodeRec}
use Rattle.nl_field.specs.declared.inode.Kind.{Kind}
use Rattle.nl_field.specs.declared.inode.Kind.TheVariants.{Unused}
use Rattle.nl_field.specs.declared.shape.Shape.{Shape}
use Rattle.nl_meta.specs.Committed.{VirtualMap}
use Rattle.nl_meta.specs.Nodes.{bytes_at, inode_at}
use Rattle.nl_meta.specs.Walk.{addresses_of, first_after, is_bad_address, is_good_indirect, is_used_kind, pages_fault, used_nodes}
use Rattle.nl_recover.specs.Addresses.{PassesAddresses, address_at, addresses_in, is_bad_marked, listed, with_mark}
use Rattle.nl_recover.specs.Scanning.{first_with}
use Rattle.nl_recover.proofs.Scans.{gathers, pass-bad, pass-good, pass-nil, pass-stop, pass-then}

-- ---- used nodes

module _ {Y : Type 0} (test : InodeRec → Bool) (g : ℕ × InodeRec → List Y) (h : ℕ → Option InodeRec) where
  abbrev of_node : ℕ → Option InodeRec → List Y
  of_node n None = []
  of_node n (Some rec) = if test rec then g (n, rec) else []

  one-node : (n : ℕ) (rest : List (ℕ × InodeRec)) (ys : List Y) → flat_map g (filter (λ x. test x.1) rest) ≡ ys
      → (o : Option InodeRec) → flat_map g (filter (λ x. test x.1) (cons_option (option_map (λ rec. (n, rec)) o) rest)) ≡ of_node n o ++ ys
  one-node n rest ys is None = is
  one-node n rest ys is (Some rec) =
      elim (test rec) as (λ b. flat_map g (cond b ((n, rec) ∷ filter (λ x. test x.1) rest) (filter (λ x. test x.1) rest)) ≡ cond b (g (n, rec)) [] ++ ys) [
        | true ↦ ap (λ (zs : List Y). g (n, rec) ++ zs) is
        | false ↦ is
      ]

  pub of-nodes : (ns : List ℕ) → flat_map g (filter (λ x. test x.1) (filter_map (λ n. option_map (λ rec. (n, rec)) (h n)) ns)) ≡ flat_map (λ n. of_node n (h n)) ns
  of-nodes [] = refl
  of-nodes (n ∷ ns) = one-node n (filter_map (λ n. option_map (λ rec. (n, rec)) (h n)) ns) (flat_map (λ n. of_node n (h n)) ns) (of-nodes ns) (h n)

-- ---- marks

module _ (shape : Shape) (pages : VirtualMap) where
  abbrev in_pool : ℕ → Bool
  in_pool a = nat_le (67 + shape.inode_pages) a && nat_lt a shape.vaddrs

  pub record MarksAgree (earlier : List (Bool × ℕ)) (marks : List Bool) : Type 0 where
    pub size : length marks ≡ shape.vaddrs
    pub each : (k : ℕ) → k < shape.vaddrs → list_any (λ e. e.1 == k) earlier ≡ get_or marks k false

  grouped : (p l n f : Bool) → (p || l || n || f) ≡ (p || l || (n || f))
  grouped true l n f = refl
  grouped false true n f = refl
  grouped false false n f = refl

  outside : (p l n f : Bool) → p ≡ false → (not p || l || n || f) ≡ true
  outside p l n f e = ap (λ (b : Bool). not b || l || n || f) e

  abbrev is_missing : Bool × ℕ → Bool
  is_missing x = is_none (pages x.1)

  abbrev is_unspelled : Bool × ℕ → Bool
  is_unspelled x = x.0 && not (is_good_indirect shape (indirect_of (bytes_at pages x.1)))

  same : (earlier : List (Bool × ℕ)) (marks : List Bool) (x : Bool × ℕ) → MarksAgree earlier marks → is_bad_address shape pages earlier x ≡ is_bad_marked shape pages marks x
  same earlier marks x agree = by (cases_Bool (in_pool x.1))
    where
      by : (in_pool x.1 ≡ true) ⊎ (in_pool x.1 ≡ false) → is_bad_address shape pages earlier x ≡ is_bad_marked shape pages marks x
      by (inl pool) =
          ap (λ (b : Bool). not (in_pool x.1) || b || is_missing x || is_unspelled x) (agree.each x.1 (ltb-true _ _ (and_parts _ _ pool).1))
          ∙ grouped (not (in_pool x.1)) (get_or marks x.1 false) (is_missing x) (is_unspelled x)
      by (inr out) =
          outside (in_pool x.1) (list_any (λ e. e.1 == x.1) earlier) (is_missing x) (is_unspelled x) out
          ∙ sym (sym (grouped (not (in_pool x.1)) (get_or marks x.1 false) (is_missing x) (is_unspelled x)) ∙ outside (in_pool x.1) (get_or marks x.1 false) (is_missing x) (is_unspelled x) out)

  pub good-below : (marks : List Bool) (x : Bool × ℕ) → is_bad_marked shape pages marks x ≡ false → x.1 < shape.vaddrs
  good-below marks x good =
      ltb-true _ _ (and_parts (nat_le (67 + shape.inode_pages) x.1) _ (not-false _ (or_parts (not (in_pool x.1)) _ (or_parts (not (in_pool x.1) || get_or marks x.1 false) _ good).0).0)).1

  step : (earlier : List (Bool × ℕ)) (marks : List Bool) (x : Bool × ℕ) → MarksAgree earlier marks → is_bad_marked shape pages marks x ≡ false → MarksAgree (x ∷ earlier) (with_mark marks x)
  step earlier marks x agree good = record { size = length-set marks x.1 true ∙ agree.size; each = λ k h. by k h (cases_eq x.1 k) }
    where
      below : x.1 < length marks
      below = subst (λ (n : ℕ). x.1 < n) (sym agree.size) (good-below marks x good)

      by : (k : ℕ) → k < shape.vaddrs → (x.1 ≡ k) ⊎ (x.1 ≡ k → ⊥) → (x.1 == k || list_any (λ e. e.1 == k) earlier) ≡ get_or (set marks x.1 true) k false
      by k h (inl e) =
          ap (λ (b : Bool). b || list_any (λ e. e.1 == k) earlier) (eq-eqb x.1 k e)
          ∙ sym (ap (λ (n : ℕ). get_or (set marks x.1 true) n false) (sym e) ∙ get_or-set_same marks x.1 true false below)
      by k h (inr far) =
          ap (λ (b : Bool). b || list_any (λ e. e.1 == k) earlier) (ne_eqb x.1 k far) ∙ agree.each k h
          ∙ sym (get_or-set_other marks x.1 k true false (λ e. far (sym e)))

  pub no-marks : (marks : List Bool) → length marks ≡ shape.vaddrs → ((k : ℕ) → get_or marks k false ≡ false) → MarksAgree [] marks
  no-marks marks size none = record { size = size; each = λ k h. sym (none k) }

  -- the addresses of a node
  abbrev pub of_number : ℕ → List (Bool × ℕ)
  of_number n = addresses_in n (inode_at pages n)

  pub first_address : (marks : List Bool) → MarksAgree [] marks
      → pages_fault shape pages ≡ option_map (λ e. e.1) (first_with (is_bad_marked shape pages) with_mark marks (flat_map of_number (range_with_len 0 shape.nodes)))
  unfolding pages_fault used_nodes
  first_address marks agree =
      ap (λ (l : List (Bool × ℕ)). option_map (λ e. e.1) (first_after (is_bad_address shape pages) [] l)) (of-nodes (λ rec. is_used_kind rec.kind) addresses_of (inode_at pages) (range_with_len 0 shape.nodes))
      ∙ ap (option_map (λ e. e.1)) (gathers (is_bad_address shape pages) (is_bad_marked shape pages) with_mark MarksAgree same step [] marks (flat_map of_number (range_with_len 0 shape.nodes)) agree)

  -- ---- slots

  slots-more : (of_file : Bool) (xs : List ℕ) (i : ℕ) → i < length xs → listed of_file (take (i + 1) xs) ≡ listed of_file (take i xs) ++ listed of_file (get_or xs i 0 ∷ [])
  slots-more of_file xs i h = ap (map (λ a. (of_file, a))) (filter_more (λ a. not (a == 0)) xs i 0 h) ∙ map-append (λ a. (of_file, a)) (filter (λ a. not (a == 0)) (take i xs)) _

  slots-split : (of_file : Bool) (xs : List ℕ) (i : ℕ) → i < length xs
      → listed of_file xs ≡ listed of_file (take (i + 1) xs) ++ listed of_file (drop (i + 1) xs)
  slots-split of_file xs i h =
      ap (listed of_file) (sym (take-append-drop (i + 1) xs)) ∙ ap (map (λ a. (of_file, a))) (filter-append (λ a. not (a == 0)) (take (i + 1) xs) (drop (i + 1) xs))
      ∙ map-append (λ a. (of_file, a)) (filter (λ a. not (a == 0)) (take (i + 1) xs)) _

  abbrev Goes : List Bool → List Bool → List (Bool × ℕ) → Option ℕ → Type 0
  Goes old new addresses answer = PassesAddresses shape pages old new addresses answer

  pub slots-next : (s t u : List Bool) (of_file : Bool) (xs : List ℕ) (i : ℕ) → i < length xs → Goes s t (listed of_file (take i xs)) None
      → Goes t u (listed of_file (get_or xs i 0 ∷ [])) None → Goes s u (listed of_file (take (i + 1) xs)) None
  slots-next s t u of_file xs i h a b =
      subst (λ (ys : List (Bool × ℕ)). Goes s u ys None) (sym (slots-more of_file xs i h)) (pass-then (is_bad_marked shape pages) with_mark address_at s t u (listed of_file (take i xs)) _ None a b)

  pub slots-stop : (s t u : List Bool) (of_file : Bool) (xs : List ℕ) (i p : ℕ) → i < length xs → Goes s t (listed of_file (take i xs)) None
      → Goes t u (listed of_file (get_or xs i 0 ∷ [])) (Some p) → Goes s u (listed of_file xs) (Some p)
  slots-stop s t u of_file xs i p h a b =
      subst (λ (ys : List (Bool × ℕ)). Goes s u ys (Some p)) (sym (slots-split of_file xs i h ∙ ap (λ (ys : List (Bool × ℕ)). ys ++ listed of_file (drop (i + 1) xs)) (slots-more of_file xs i h)))
      (pass-stop (is_bad_marked shape pages) with_mark address_at s u (listed of_file (take i xs) ++ listed of_file (get_or xs i 0 ∷ [])) _ p
      (pass-then (is_bad_marked shape pages) with_mark address_at s t u (listed of_file (take i xs)) _ (Some p) a b))

  -- one slot
  pub slot-none : (s : List Bool) (of_file : Bool) (a : ℕ) → a ≡ 0 → Goes s s (listed of_file (a ∷ [])) None
  slot-none s of_file a e = subst (λ (n : ℕ). Goes s s (listed of_file (n ∷ [])) None) (sym e) (pass-nil (is_bad_marked shape pages) with_mark address_at s)

  one-listed : (of_file : Bool) (a : ℕ) → (a ≡ 0 → ⊥) → listed of_file (a ∷ []) ≡ (of_file, a) ∷ []
  one-listed of_file a far = ap (λ b. map (λ a. (of_file, a)) (cond (not b) (a ∷ []) [])) (ne_eqb a 0 far)

  pub slot-bad : (s t : List Bool) (of_file : Bool) (a : ℕ) → (a ≡ 0 → ⊥) → is_bad_marked shape pages s (of_file, a) ≡ true → Goes s t (listed of_file (a ∷ [])) (Some a)
  slot-bad s t of_file a far bad = subst (λ (ys : List (Bool × ℕ)). Goes s t ys (Some a)) (sym (one-listed of_file a far)) (pass-bad (is_bad_marked shape pages) with_mark address_at s t (of_file, a) bad)

  pub slot-good : (s t : List Bool) (of_file : Bool) (a : ℕ) → (a ≡ 0 → ⊥) → is_bad_marked shape pages s (of_file, a) ≡ false → t ≡ set s a true → Goes s t (listed of_file (a ∷ [])) None
  slot-good s t of_file a far good is = subst (λ (ys : List (Bool × ℕ)). Goes s t ys None) (sym (one-listed of_file a far)) (pass-good (is_bad_marked shape pages) with_mark address_at s t (of_file, a) good is)

  -- a node without addresses
  pub node-none : (s : List Bool) (ys : List (Bool × ℕ)) → ys ≡ [] → Goes s s ys None
  node-none s ys e = subst (λ (ys : List (Bool × ℕ)). Goes s s ys None) (sym e) (pass-nil (is_bad_marked shape pages) with_mark address_at s)

  pub no-addresses : (n : ℕ) (o : Option InodeRec) → o ≡ None → addresses_in n o ≡ []
  no-addresses n o e = ap (addresses_in n) e

  pub unused-addresses : (n : ℕ) (o : Option InodeRec) (rec : InodeRec) → Some rec ≡ o → rec.kind ≡ Unused → addresses_in n o ≡ []
  unused-addresses n o rec e unused = ap (addresses_in n) (sym e) ∙ ap (λ (k : Kind). if is_used_kind k then addresses_of (n, rec) else []) unused
