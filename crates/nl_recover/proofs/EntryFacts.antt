-- What was named tells what looking back at all earlier entries would.
use Rattle.std.proofs.Common.{◌≡◌, ℕ, ◌+◌, ◌*◌, ◌%◌, ◌<◌, Bool, true, false, not, ◌&&◌, ◌||◌, cond, List, [], ◌∷◌, ◌++◌, length, map, filter, filter_map, flat_map, get_or, set, refl, sym, ap, subst, ◌∙◌, Option, Some, None, option_map, is_some, ◌⊎◌, inl, inr, arith, ◌==◌, nat_lt, bytes_eq, append_assoc}
use Rattle.std.proofs.lemmas.Bool.{cases_Bool, cases_eq, eq-eqb, ltb-true, ne_eqb, not-false, or_parts}
use Rattle.std.proofs.lemmas.List.{get_or-set_other, get_or-set_same, length-set}
use Rattle.std.proofs.lemmas.List.Folds.{list_any-append}
use Rattle.std.specs.Int.{div_ceil}
use Rattle.std.specs.List.{cons_option, list_any, range_with_len}
use Rattle.nl_field.specs.Bytes.{all_zero}
use Rattle.nl_field.specs.EntryRecord.{entry_of}
use Rattle.nl_field.specs.Members.{Has}
use Rattle.nl_field.specs.declared.entry.EntryRec.{EntryRec}
use Rattle.nl_field.specs.declared.inode.InodeRec.{InodeRec}
use Rattle.nl_field.specs.declared.inode.Kind.{Kind}
use Rattle.nl_field.specs.declared.inode.Kind.TheVariants.{Dir, File, Unused}
use Rattle.nl_field.specs.declared.shape.Shape.{Shape}
use Rattle.nl_meta.specs.Committed.{VirtualMap}
use Rattle.nl_meta.specs.Nodes.{address_of_place, bytes_of_place, inode_at, slot_in}
use Rattle.nl_meta.specs.Walk.{EntryPlace, Naming, all_places, entry_fault, first_after, has_generation, is_bad_naming, is_bad_place, is_dir_kind, is_used_kind, naming_of, places_of, used_nodes}
use Rattle.nl_meta.proofs.Lists.{map_none, member-map, member-some, none-any, none_some, some_in, true_false}
use Rattle.nl_recover.specs.Entries.{Named, NamesSlot, PassesPlaces, dir_of_place, is_bad_among, is_bad_entry, named_by, place_there, places_in, with_entry, with_place}
use Rattle.nl_recover.specs.Scanning.{first_with, gathered}
use Rattle.nl_recover.proofs.AddressFacts.{of-nodes}
use Rattle.nl_recover.proofs.PlacesThere.{place-is}
use Rattle.nl_recover.proofs.Scans.{grows, pass-bad, pass-good, pass-nil, splits, upto}

-- ---- tests

any-or : {X : Type 0} (t u : X → Bool) (xs : List X) → list_any (λ x. t x || u x) xs ≡ (list_any t xs || list_any u xs)
any-or t u [] = refl
any-or t u (x ∷ xs) = ap (λ b. t x || u x || b) (any-or t u xs) ∙ by (t x) (u x) (list_any t xs) (list_any u xs)
  where
    by : (a b c d : Bool) → (a || b || (c || d)) ≡ (a || c || (b || d))
    by true b c d = refl
    by false true true d = refl
    by false true false d = refl
    by false false true d = refl
    by false false false d = refl

at-end : (x a : Bool) → (x || a) ≡ (a || (x || false))
at-end true true = refl
at-end true false = refl
at-end false true = refl
at-end false false = refl

not-below : (z l g n : Bool) → l ≡ false → (z || not l || g || n) ≡ true
not-below true l g n e = refl
not-below false l g n e = ap (λ b. not b || g || n) e

module _ (shape : Shape) (pages : VirtualMap) where
  -- What was named in directory n and the ones before it.
  pub record NamesAgree (n : ℕ) (earlier : List Naming) (s : Named) : Type 0 where
    pub size : length s.nodes ≡ shape.nodes
    pub nodes : (k : ℕ) → k < shape.nodes → list_any (λ x. x.1.ino == k) earlier ≡ get_or s.nodes k false
    pub names : (name : List ℕ) → list_any (λ x. x.0 == n && bytes_eq x.1.name name) earlier ≡ list_any (λ m. bytes_eq m name) s.names

  same-entry : (n : ℕ) (earlier : List Naming) (s : Named) → NamesAgree n earlier s → (o : Option EntryRec) → is_bad_naming shape pages earlier n o ≡ is_bad_entry shape pages s o
  same-entry n earlier s agree None = refl
  same-entry n earlier s agree (Some e) = by (cases_Bool (nat_lt e.ino shape.nodes))
    where
      by : (nat_lt e.ino shape.nodes ≡ true) ⊎ (nat_lt e.ino shape.nodes ≡ false) → is_bad_naming shape pages earlier n (Some e) ≡ is_bad_entry shape pages s (Some e)
      by (inl below) =
          ap (λ b. e.ino == 0 || not (nat_lt e.ino shape.nodes) || not (has_generation e.generation (inode_at pages e.ino)) || b)
          (any-or (λ x. x.1.ino == e.ino) (λ x. x.0 == n && bytes_eq x.1.name e.name) earlier
          ∙ ap (λ b. b || list_any (λ x. x.0 == n && bytes_eq x.1.name e.name) earlier) (agree.nodes e.ino (ltb-true _ _ below))
          ∙ ap (λ b. get_or s.nodes e.ino false || b) (agree.names e.name))
      by (inr out) =
          not-below (e.ino == 0) (nat_lt e.ino shape.nodes) (not (has_generation e.generation (inode_at pages e.ino))) _ out
          ∙ sym (not-below (e.ino == 0) (nat_lt e.ino shape.nodes) (not (has_generation e.generation (inode_at pages e.ino))) _ out)

  entry-below : (s : Named) (e : EntryRec) → is_bad_entry shape pages s (Some e) ≡ false → e.ino < shape.nodes
  entry-below s e good =
      ltb-true _ _ (not-false _ (or_parts (e.ino == 0) _ (or_parts (e.ino == 0 || not (nat_lt e.ino shape.nodes)) _ (or_parts (e.ino == 0 || not (nat_lt e.ino shape.nodes) || not (has_generation e.generation (inode_at pages e.ino))) _ good).0).0).1)

  named-more : (n : ℕ) (earlier : List Naming) (s : Named) (e : EntryRec) → NamesAgree n earlier s → e.ino < shape.nodes → NamesAgree n ((n, e) ∷ earlier) (with_entry s (Some e))
  named-more n earlier s e agree below = record { size = length-set s.nodes e.ino true ∙ agree.size; nodes = λ k h. node k h (cases_eq e.ino k); names = by_name }
    where
      inside : e.ino < length s.nodes
      inside = subst (λ (m : ℕ). e.ino < m) (sym agree.size) below

      node : (k : ℕ) → k < shape.nodes → (e.ino ≡ k) ⊎ (e.ino ≡ k → ⊥) → (e.ino == k || list_any (λ x. x.1.ino == k) earlier) ≡ get_or (set s.nodes e.ino true) k false
      node k h (inl is) =
          ap (λ (b : Bool). b || list_any (λ x. x.1.ino == k) earlier) (eq-eqb e.ino k is)
          ∙ sym (ap (λ (m : ℕ). get_or (set s.nodes e.ino true) m false) (sym is) ∙ get_or-set_same s.nodes e.ino true false inside)
      node k h (inr far) =
          ap (λ (b : Bool). b || list_any (λ x. x.1.ino == k) earlier) (ne_eqb e.ino k far) ∙ agree.nodes k h ∙ sym (get_or-set_other s.nodes e.ino k true false (λ is. far (sym is)))

      by_name : (name : List ℕ) → ((n == n && bytes_eq e.name name) || list_any (λ x. x.0 == n && bytes_eq x.1.name name) earlier) ≡ list_any (λ m. bytes_eq m name) (s.names ++ e.name ∷ [])
      by_name name =
          ap (λ b. (b && bytes_eq e.name name) || list_any (λ x. x.0 == n && bytes_eq x.1.name name) earlier) (eq-eqb n n refl)
          ∙ at-end (bytes_eq e.name name) _ ∙ ap (λ b. b || (bytes_eq e.name name || false)) (agree.names name)
          ∙ sym (list_any-append (λ m. bytes_eq m name) s.names (e.name ∷ []))

  -- ---- places of one directory

  same-place : (n : ℕ) (earlier : List EntryPlace) (s : Named) (p : EntryPlace) → NamesAgree n (filter_map naming_of earlier) s → p.dir ≡ n → is_bad_place shape pages earlier p ≡ is_bad_among shape pages s p
  same-place n earlier s p agree is =
      ap (λ b. cond p.is_entry b (not (all_zero p.bytes)))
      (ap (λ (d : ℕ). is_bad_naming shape pages (filter_map naming_of earlier) d (entry_of p.bytes)) is ∙ same-entry n (filter_map naming_of earlier) s agree (entry_of p.bytes))

  more-of : (n d : ℕ) (earlier : List Naming) (s : Named) → NamesAgree n earlier s → d ≡ n → (b : Bool) (o : Option EntryRec) (z : Bool) → cond b (is_bad_entry shape pages s o) z ≡ false
      → NamesAgree n (cons_option (cond b (option_map (λ e. (d, e)) o) None) earlier) (cond b (with_entry s o) s)
  more-of n d earlier s agree is true None z good = absurd (true_false good)
  more-of n d earlier s agree is true (Some e) z good = subst (λ (m : ℕ). NamesAgree n ((m, e) ∷ earlier) (with_entry s (Some e))) (sym is) (named-more n earlier s e agree (entry-below s e good))
  more-of n d earlier s agree is false o z good = agree

  place-more : (n : ℕ) (earlier : List EntryPlace) (s : Named) (p : EntryPlace) → NamesAgree n (filter_map naming_of earlier) s → p.dir ≡ n → is_bad_among shape pages s p ≡ false
      → NamesAgree n (filter_map naming_of (p ∷ earlier)) (with_place s p)
  place-more n earlier s p agree is good = more-of n p.dir (filter_map naming_of earlier) s agree is p.is_entry (entry_of p.bytes) (not (all_zero p.bytes)) good

  -- places put before others, the last one first
  pub onto : List EntryPlace → List EntryPlace → List EntryPlace
  onto [] earlier = earlier
  onto (p ∷ ps) earlier = onto ps (p ∷ earlier)

  pub onto-member : (ps earlier : List EntryPlace) (q : EntryPlace) → Has (onto ps earlier) q → Has ps q ⊎ Has earlier q
  unfolding onto
  onto-member [] earlier q m = inr m
  onto-member (p ∷ ps) earlier q m = by (onto-member ps (p ∷ earlier) q m)
    where
      by : Has ps q ⊎ ((p ≡ q) ⊎ Has earlier q) → ((p ≡ q) ⊎ Has ps q) ⊎ Has earlier q
      by (inl h) = inl (inr h)
      by (inr (inl e)) = inl (inl e)
      by (inr (inr h)) = inr h

  run-some : (n : ℕ) (earlier : List EntryPlace) (s : Named) (ps qs : List EntryPlace) (x : EntryPlace) → NamesAgree n (filter_map naming_of earlier) s → ((p : EntryPlace) → Has ps p → p.dir ≡ n)
      → first_with (is_bad_among shape pages) with_place s ps ≡ Some x → first_after (is_bad_place shape pages) earlier (ps ++ qs) ≡ Some x
  unfolding first_with
  run-some n earlier s [] qs x agree in_dir e = absurd (none_some x e)
  run-some n earlier s (p ∷ ps) qs x agree in_dir e =
      ap (λ b. cond b (Some p) (first_after (is_bad_place shape pages) (p ∷ earlier) (ps ++ qs))) (same-place n earlier s p agree (in_dir p (inl refl)))
      ∙ elim (is_bad_among shape pages s p) as (λ b. is_bad_among shape pages s p ≡ b → cond b (Some p) (first_with (is_bad_among shape pages) with_place (with_place s p) ps) ≡ Some x
      → cond b (Some p) (first_after (is_bad_place shape pages) (p ∷ earlier) (ps ++ qs)) ≡ Some x) [
        | true ↦ λ _ e. e
        | false ↦ λ good e. run-some n (p ∷ earlier) (with_place s p) ps qs x (place-more n earlier s p agree (in_dir p (inl refl)) good) (λ p m. in_dir p (inr m)) e
      ] refl e

  run-none : (n : ℕ) (earlier : List EntryPlace) (s : Named) (ps : List EntryPlace) → NamesAgree n (filter_map naming_of earlier) s → ((p : EntryPlace) → Has ps p → p.dir ≡ n)
      → first_with (is_bad_among shape pages) with_place s ps ≡ None
      → ((qs : List EntryPlace) → first_after (is_bad_place shape pages) earlier (ps ++ qs) ≡ first_after (is_bad_place shape pages) (onto ps earlier) qs)
      × NamesAgree n (filter_map naming_of (onto ps earlier)) (gathered with_place s ps)
  unfolding first_with gathered onto
  run-none n earlier s [] agree in_dir e = ((λ qs. refl), agree)
  run-none n earlier s (p ∷ ps) agree in_dir e =
      elim (is_bad_among shape pages s p) as (λ b. is_bad_among shape pages s p ≡ b → cond b (Some p) (first_with (is_bad_among shape pages) with_place (with_place s p) ps) ≡ None
      → ((qs : List EntryPlace) → first_after (is_bad_place shape pages) earlier ((p ∷ ps) ++ qs) ≡ first_after (is_bad_place shape pages) (onto ps (p ∷ earlier)) qs)
      × NamesAgree n (filter_map naming_of (onto ps (p ∷ earlier))) (gathered with_place (with_place s p) ps)) [
        | true ↦ λ _ e. absurd (none_some p (sym e))
        | false ↦ λ good e.
            let r = run-none n (p ∷ earlier) (with_place s p) ps (place-more n earlier s p agree (in_dir p (inl refl)) good) (λ p m. in_dir p (inr m)) e in (
              (λ qs. ap (λ b. cond b (Some p) (first_after (is_bad_place shape pages) (p ∷ earlier) (ps ++ qs))) (same-place n earlier s p agree (in_dir p (inl refl)) ∙ good) ∙ r.0 qs),
              r.1,
            )
      ] refl e

  -- ---- one directory after the other

  -- The directories below n were passed without a fault.
  pub record Passed (n : ℕ) (marks : List Bool) : Type 0 where
    pub earlier : List EntryPlace
    pub goes_on : (qs : List EntryPlace) → first_after (is_bad_place shape pages) [] (upto (λ m. places_in pages m (inode_at pages m)) n ++ qs) ≡ first_after (is_bad_place shape pages) earlier qs
    pub size : length marks ≡ shape.nodes
    pub nodes : (k : ℕ) → k < shape.nodes → list_any (λ x. x.1.ino == k) (filter_map naming_of earlier) ≡ get_or marks k false
    pub below : (p : EntryPlace) → Has earlier p → p.dir < n

  abbrev pub of_number : ℕ → List EntryPlace
  of_number m = places_in pages m (inode_at pages m)

  naming-dir : (d : ℕ) (b : Bool) (o : Option EntryRec) (x : Naming) → cond b (option_map (λ e. (d, e)) o) None ≡ Some x → d ≡ x.0
  naming-dir d true None x e = absurd (none_some x e)
  naming-dir d true (Some r) x e = ap (λ (y : Naming). y.0) (some_in (d, r) x e)
  naming-dir d false o x e = absurd (none_some x e)

  fresh-names : (n : ℕ) (marks : List Bool) (r : Passed n marks) → NamesAgree n (filter_map naming_of r.earlier) (named_by marks [])
  fresh-names n marks r = record { size = r.size; nodes = r.nodes; names = λ name. none-any (λ x. x.0 == n && bytes_eq x.1.name name) (filter_map naming_of r.earlier) (λ x m. other name x (member-some naming_of r.earlier x m)) }
    where
      other : (name : List ℕ) (x : Naming) → (p : EntryPlace) × Has r.earlier p × (naming_of p ≡ Some x) → (x.0 == n && bytes_eq x.1.name name) ≡ false
      other name x q = ap (λ b. b && bytes_eq x.1.name name) (ne_eqb x.0 n (far (r.below q.0 q.1) (naming-dir q.0.dir q.0.is_entry (entry_of q.0.bytes) x q.2)))
        where
          far : q.0.dir < n → q.0.dir ≡ x.0 → x.0 ≡ n → ⊥
          far h e f = omega (arith, h, e, f)

  pub dirs : (n : ℕ) (o : Option InodeRec) (p : EntryPlace) → Has (places_in pages n o) p → p.dir ≡ n
  dirs n None p m = absurd m
  dirs n (Some rec) p m = by (is_used_kind rec.kind) m
    where
      mapped : (b : Bool) (is : List ℕ) → Has (cond b (map (λ i. record { dir = n; is_entry = nat_lt i rec.size; bytes = bytes_of_place pages rec i }) is) []) p → p.dir ≡ n
      mapped true is m = let q = member-map _ is p m in sym (ap (λ (p : EntryPlace). p.dir) q.2)
      mapped false is m = absurd m

      by : (b : Bool) → Has (cond b (places_of pages (n, rec)) []) p → p.dir ≡ n
      by true m = mapped (is_dir_kind rec.kind) _ m
      by false m = absurd m

  pub passed-none : (marks : List Bool) → length marks ≡ shape.nodes → ((k : ℕ) → get_or marks k false ≡ false) → Passed 0 marks
  passed-none marks size none = record { earlier = []; goes_on = λ qs. refl; size = size; nodes = λ k h. sym (none k); below = λ p m. absurd m }

  pub passed-more : (n : ℕ) (old new : List Bool) (names : List (List ℕ)) → Passed n old → PassesPlaces shape pages (named_by old []) (named_by new names) (of_number n) None → Passed (n + 1) new
  passed-more n old new names r pass = record {
    earlier = onto (of_number n) r.earlier;
    goes_on = λ qs. ap (λ (l : List EntryPlace). first_after (is_bad_place shape pages) [] (l ++ qs)) (grows of_number n) ∙ ap (first_after (is_bad_place shape pages) []) (append_assoc (upto of_number n) (of_number n) qs)
        ∙ r.goes_on (of_number n ++ qs) ∙ run.0 qs;
    size = agree.size;
    nodes = agree.nodes;
    below = λ p m. by p (onto-member (of_number n) r.earlier p m);
  }
    where
      run : ((qs : List EntryPlace) → first_after (is_bad_place shape pages) r.earlier (of_number n ++ qs) ≡ first_after (is_bad_place shape pages) (onto (of_number n) r.earlier) qs)
          × NamesAgree n (filter_map naming_of (onto (of_number n) r.earlier)) (gathered with_place (named_by old []) (of_number n))
      run = run-none n r.earlier (named_by old []) (of_number n) (fresh-names n old r) (dirs n (inode_at pages n)) (map_none dir_of_place _ (sym pass.first))

      agree : NamesAgree n (filter_map naming_of (onto (of_number n) r.earlier)) (named_by new names)
      agree = subst (NamesAgree n (filter_map naming_of (onto (of_number n) r.earlier))) (sym (pass.rest refl)) run.1

      later : (m : ℕ) → m < n → m < n + 1
      later m h = omega arith

      here : (m : ℕ) → m ≡ n → m < n + 1
      here m e = omega arith

      by : (p : EntryPlace) → Has (of_number n) p ⊎ Has r.earlier p → p.dir < n + 1
      by p (inl m) = here p.dir (dirs n (inode_at pages n) p m)
      by p (inr m) = later p.dir (r.below p m)

  pub listed : all_places shape pages ≡ upto of_number shape.nodes
  unfolding all_places used_nodes
  listed = of-nodes (λ rec. is_used_kind rec.kind) (places_of pages) (inode_at pages) (range_with_len 0 shape.nodes)

  pub passed-stops : (n p : ℕ) (old : List Bool) (new : Named) → n < shape.nodes → Passed n old → PassesPlaces shape pages (named_by old []) new (of_number n) (Some p) → Some p ≡ entry_fault shape pages
  unfolding entry_fault
  passed-stops n p old new h r pass = by (first_with (is_bad_among shape pages) with_place (named_by old []) (of_number n)) refl pass.first
    where
      found : (x : EntryPlace) → first_with (is_bad_among shape pages) with_place (named_by old []) (of_number n) ≡ Some x → first_after (is_bad_place shape pages) [] (all_places shape pages) ≡ Some x
      found x e =
          ap (first_after (is_bad_place shape pages) []) (listed ∙ splits of_number n shape.nodes h ∙ append_assoc (upto of_number n) (of_number n) _) ∙ r.goes_on _
          ∙ run-some n r.earlier (named_by old []) (of_number n) _ x (fresh-names n old r) (dirs n (inode_at pages n)) e

      by : (o : Option EntryPlace) → first_with (is_bad_among shape pages) with_place (named_by old []) (of_number n) ≡ o → Some p ≡ option_map dir_of_place o
          → Some p ≡ option_map (λ p. p.dir) (first_after (is_bad_place shape pages) [] (all_places shape pages))
      by None is e = absurd (none_some p (sym e))
      by (Some x) is e = e ∙ sym (ap (option_map (λ p. p.dir)) (found x is))

  pub passed-all : (n : ℕ) (marks : List Bool) → n ≡ shape.nodes → Passed n marks → None ≡ entry_fault shape pages
  unfolding entry_fault
  passed-all n marks is r =
      sym (ap (λ (l : List EntryPlace). option_map (λ p. p.dir) (first_after (is_bad_place shape pages) [] l)) (listed ∙ ap (upto of_number) (sym is) ∙ sym (end (upto of_number n)))
      ∙ ap (option_map (λ p. p.dir)) (r.goes_on []))
    where
      end : (ps : List EntryPlace) → ps ++ [] ≡ ps
      end [] = refl
      end (p ∷ ps) = ap (λ qs. p ∷ qs) (end ps)

  -- ---- one directory

  each-one : (n : ℕ) (rec : InodeRec) (is : List ℕ)
      → map (λ i. record { dir = n; is_entry = nat_lt i rec.size; bytes = bytes_of_place pages rec i }) (filter (λ i. is_some (pages (address_of_place rec i))) is) ≡ flat_map (place_there pages n rec) is
  each-one n rec [] = refl
  each-one n rec (i ∷ is) =
      elim (is_some (pages (address_of_place rec i))) as (λ b. map place (cond b (i ∷ filter there is) (filter there is)) ≡ cond b (place i ∷ []) [] ++ flat_map (place_there pages n rec) is) [
        | true ↦ ap (λ (ps : List EntryPlace). place i ∷ ps) (each-one n rec is)
        | false ↦ each-one n rec is
      ]
    where
      place : ℕ → EntryPlace
      place i = record { dir = n; is_entry = nat_lt i rec.size; bytes = bytes_of_place pages rec i }

      there : ℕ → Bool
      there i = is_some (pages (address_of_place rec i))

  pub dir-places : (n : ℕ) (rec : InodeRec) → rec.kind ≡ Dir → places_of pages (n, rec) ≡ upto (place_there pages n rec) (64 * div_ceil rec.size 64)
  dir-places n rec dir =
      ap (λ (k : Kind). cond (is_dir_kind k) (map (λ i. record { dir = n; is_entry = nat_lt i rec.size; bytes = bytes_of_place pages rec i }) (filter (λ i. is_some (pages (address_of_place rec i))) (range_with_len 0 (64 * div_ceil rec.size 64)))) []) dir
      ∙ each-one n rec (range_with_len 0 (64 * div_ceil rec.size 64))

  -- ---- one node

  pub node-places : (n : ℕ) (o : Option InodeRec) (rec : InodeRec) → Some rec ≡ o → rec.kind ≡ Dir → places_in pages n o ≡ places_of pages (n, rec)
  node-places n o rec is dir = ap (places_in pages n) (sym is) ∙ ap (λ (k : Kind). cond (is_used_kind k) (places_of pages (n, rec)) []) dir

  pub file-places : (n : ℕ) (o : Option InodeRec) (rec : InodeRec) → Some rec ≡ o → rec.kind ≡ File → places_in pages n o ≡ []
  file-places n o rec is file =
      ap (places_in pages n) (sym is)
      ∙ ap (λ (k : Kind). cond (is_used_kind k) (cond (is_dir_kind k) (map (λ i. record { dir = n; is_entry = nat_lt i rec.size; bytes = bytes_of_place pages rec i }) (filter (λ i. is_some (pages (address_of_place rec i))) (range_with_len 0 (64 * div_ceil rec.size 64)))) []) []) file

  pub unused-places : (n : ℕ) (o : Option InodeRec) (rec : InodeRec) → Some rec ≡ o → rec.kind ≡ Unused → places_in pages n o ≡ []
  unused-places n o rec is unused = ap (places_in pages n) (sym is) ∙ ap (λ (k : Kind). cond (is_used_kind k) (places_of pages (n, rec)) []) unused

  pub no-places : (n : ℕ) (o : Option InodeRec) → o ≡ None → places_in pages n o ≡ []
  no-places n o e = ap (places_in pages n) e

  pub places-none : (s t : Named) (ps : List EntryPlace) → ps ≡ [] → t ≡ s → PassesPlaces shape pages s t ps None
  places-none s t ps e is = subst (λ (ps : List EntryPlace). PassesPlaces shape pages s t ps None) (sym e) (subst (λ (t : Named). PassesPlaces shape pages s t [] None) (sym is) (pass-nil (is_bad_among shape pages) with_place dir_of_place s))

  -- ---- one place

  pub place-bad : (n : ℕ) (rec : InodeRec) (i a : ℕ) (main : List ℕ) (s t : Named) → a ≡ address_of_place rec i → pages a ≡ Some main
      → NamesSlot shape pages s t (nat_lt i rec.size) (slot_in 64 (i % 64) main) true → PassesPlaces shape pages s t (place_there pages n rec i) (Some n)
  place-bad n rec i a main s t at is names =
      subst (λ (ps : List EntryPlace). PassesPlaces shape pages s t ps (Some n)) (sym (place-is pages n rec i a at main is))
      (pass-bad (is_bad_among shape pages) with_place dir_of_place s t (record { dir = n; is_entry = nat_lt i rec.size; bytes = slot_in 64 (i % 64) main }) (sym names.answer))

  pub place-good : (n : ℕ) (rec : InodeRec) (i a : ℕ) (main : List ℕ) (s t : Named) → a ≡ address_of_place rec i → pages a ≡ Some main
      → NamesSlot shape pages s t (nat_lt i rec.size) (slot_in 64 (i % 64) main) false → PassesPlaces shape pages s t (place_there pages n rec i) None
  place-good n rec i a main s t at is names =
      subst (λ (ps : List EntryPlace). PassesPlaces shape pages s t ps None) (sym (place-is pages n rec i a at main is))
      (pass-good (is_bad_among shape pages) with_place dir_of_place s t (record { dir = n; is_entry = nat_lt i rec.size; bytes = slot_in 64 (i % 64) main }) (sym names.answer) (names.named refl))
