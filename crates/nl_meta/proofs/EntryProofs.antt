-- The entries of directories as the walk tests them, and that each used node is reached.
use Rattle.std.proofs.Common.{◌≡◌, ℕ, zero, suc, ◌≤◌, ◌<◌, Bool, true, false, not, ◌&&◌, ◌||◌, cond, List, [], ◌∷◌, map, filter, filter_map, find, refl, sym, ap, subst, ◌∙◌, Option, Some, None, option_map, is_some, ◌⊎◌, inl, inr, arith, ◌≢◌, ◌*◌, nat_lt, ◌==◌, length, bytes_eq}
use Rattle.std.proofs.lemmas.Bool.{or_parts, or_from, cond-false, not_from_true, not-false, cases_eq, and_parts, and_from, and_cases, cond-true, not_from_false, not-true, eqb-true, eqb-false, eq-eqb, ne_eqb, ltb-true, lt-ltb, le-ltb, cases_Bool, cases_lt, or_cases, or_left, or_right}
use Rattle.std.proofs.lemmas.Slice.Eq.{bytes_eq-Decides}
use Rattle.std.specs.Int.{div_ceil}
use Rattle.std.specs.List.{list_any, range_with_len}
use Rattle.std.specs.Prelude.{◌↔◌}
use Rattle.nl_field.specs.Bytes.{all_zero}
use Rattle.nl_field.specs.EntryRecord.{entry_of}
use Rattle.nl_field.specs.declared.entry.EntryRec.{EntryRec}
use Rattle.nl_field.specs.declared.inode.InodeRec.{InodeRec}
use Rattle.nl_field.specs.declared.inode.Kind.TheVariants.{Dir}
use Rattle.nl_field.specs.declared.shape.Shape.{Shape}
use Rattle.nl_meta.specs.Committed.{VirtualMap}
use Rattle.nl_field.specs.Members.{Has}
use Rattle.nl_meta.specs.Consistent.{IsNode, GoodEntry}
use Rattle.nl_meta.specs.Nodes.{inode_at, address_of_place, bytes_of_place}
use Rattle.nl_meta.specs.Walk.{first_after, or_then, is_dir_kind, used_nodes, EntryPlace, places_of, Naming, naming_of, has_generation, is_bad_naming, is_bad_place, is_reached, all_places, entry_fault, reach_fault}
use Rattle.nl_meta.proofs.Facts.{EachTwo, PlacesThere, namings, ReachedBy, from_root, by_naming, EntriesListed}
use Rattle.nl_meta.proofs.Lists.{some_in, true_false, none_some, find-none, none-find, none-any, any_member, member_any, map_none, none_map, then_none, none_then, member-range, range-member, member-filter, filter-member, member-map, map-member, member-flat, flat-member, member-some, some-member}
use Rattle.nl_meta.proofs.NodeProofs.{dir_kind, used_kind, kind_used, used_is, is_used}
use Rattle.nl_meta.proofs.Pairs.{FaultParts, first_none, none_first, two_map, opt, any-some, two-some, some-two, two_same, not_many}

pub room : (size : ℕ) → size ≤ 64 * div_ceil size 64
room size = omega arith

module _ (shape : Shape) (pages : VirtualMap) where
  abbrev own_naming : Option EntryRec → Bool
  own_naming None = false
  own_naming (Some e) = not (e.ino == 0 || not (nat_lt e.ino shape.nodes) || not (has_generation e.generation (inode_at pages e.ino)))

  abbrev own_place : EntryPlace → Bool
  own_place p = cond p.is_entry (own_naming (entry_of p.bytes)) (all_zero p.bytes)

  abbrev naming_clash : Naming → Naming → Bool
  naming_clash x y = x.1.ino == y.1.ino || (x.0 == y.0 && bytes_eq x.1.name y.1.name)

  abbrev place_clash : EntryPlace → EntryPlace → Bool
  place_clash e p = opt (λ x. opt (λ y. naming_clash x y) (naming_of p)) (naming_of e)

  twice : (a l : Bool) → (a || l) ≡ (not (not a) || l)
  twice true l = refl
  twice false l = refl

  nothing_clashes : (earlier : List EntryPlace) → list_any (λ q. opt {Y = Naming} (λ x. false) (naming_of q)) earlier ≡ false
  nothing_clashes earlier = none-any _ earlier (λ q m. elim (naming_of q) as (λ o. opt {Y = Naming} (λ x. false) o ≡ false) [ None ↦ refl | Some x ↦ refl ])

  or_none : (a b : Bool) → b ≡ false → a ≡ (a || b)
  or_none true b e = refl
  or_none false b e = sym e

  parts_of : (earlier : List EntryPlace) (d : ℕ) (b : Bool) (o : Option EntryRec) (z : Bool)
      → cond b (is_bad_naming shape pages (filter_map naming_of earlier) d o) (not z)
      ≡ (not (cond b (own_naming o) z) || list_any (λ q. opt (λ x. opt (λ y. naming_clash x y) (cond b (option_map (λ e. (d, e)) o) None)) (naming_of q)) earlier)
  parts_of earlier d true None z = refl
  parts_of earlier d true (Some e) z =
      twice (e.ino == 0 || not (nat_lt e.ino shape.nodes) || not (has_generation e.generation (inode_at pages e.ino))) (list_any (λ x. naming_clash x (d, e)) (filter_map naming_of earlier))
      ∙ ap (λ t. not (own_naming (Some e)) || t) (any-some (λ x. naming_clash x (d, e)) naming_of earlier)
  parts_of earlier d false o z = or_none (not z) _ (nothing_clashes earlier)

  place_parts : FaultParts (is_bad_place shape pages) own_place place_clash
  place_parts = record { parts = λ earlier p. parts_of earlier p.dir p.is_entry (entry_of p.bytes) (all_zero p.bytes) }

  -- the place i of a directory
  abbrev pub place_at : ℕ → InodeRec → ℕ → EntryPlace
  place_at n rec i = record { dir = n; is_entry = nat_lt i rec.size; bytes = bytes_of_place pages rec i }

  -- the places of a directory whose page is there
  abbrev pub is_there : InodeRec → ℕ → Bool
  is_there rec i = is_some (pages (address_of_place rec i))

  abbrev pub places_in : InodeRec → List ℕ
  places_in rec = filter (is_there rec) (range_with_len 0 (64 * div_ceil rec.size 64))

  pub in_places : PlacesThere shape pages → (n : ℕ) (rec : InodeRec) (i : ℕ) → IsNode shape pages n rec → rec.kind ≡ Dir → i < 64 * div_ceil rec.size 64 → Has (places_in rec) i
  in_places t n rec i is dir below = filter-member (is_there rec) (range_with_len 0 (64 * div_ceil rec.size 64)) i (range-member i 0 _ (omega arith) (omega (arith, below))) (t n rec i is dir below)

  pub place_member : PlacesThere shape pages → (n : ℕ) (rec : InodeRec) (i : ℕ) → IsNode shape pages n rec → rec.kind ≡ Dir → i < 64 * div_ceil rec.size 64 → Has (all_places shape pages) (place_at n rec i)
  unfolding all_places
  place_member t n rec i is dir below =
      flat-member (places_of pages) (used_nodes shape pages) (n, rec) (place_at n rec i) (is_used shape pages n rec is)
      (subst (λ b. Has (cond b (map (place_at n rec) (places_in rec)) []) (place_at n rec i)) (sym (ap is_dir_kind dir))
      (map-member (place_at n rec) (places_in rec) i (in_places t n rec i is dir below)))

  pub record PlaceOf (p : EntryPlace) : Type 0 where
    node : ℕ
    rec : InodeRec
    at : ℕ
    is_node : IsNode shape pages node rec
    is_dir : rec.kind ≡ Dir
    inside : at < 64 * div_ceil rec.size 64
    same : place_at node rec at ≡ p

  pub member_place : (p : EntryPlace) → Has (all_places shape pages) p → PlaceOf p
  unfolding all_places
  member_place p m = by (member-flat (places_of pages) (used_nodes shape pages) p m)
    where
      by : (x : ℕ × InodeRec) × Has (used_nodes shape pages) x × Has (places_of pages x) p → PlaceOf p
      by r =
          elim (is_dir_kind r.0.1.kind) as (λ b. is_dir_kind r.0.1.kind ≡ b → Has (cond b (map (place_at r.0.0 r.0.1) (places_in r.0.1)) []) p → PlaceOf p) [
            | true ↦ λ e m.
                let q = member-map (place_at r.0.0 r.0.1) (places_in r.0.1) p m in
                record {
                  node = r.0.0;
                  rec = r.0.1;
                  at = q.0;
                  is_node = used_is shape pages r.0 r.1;
                  is_dir = dir_kind r.0.1.kind e;
                  inside = omega (arith, (member-range q.0 0 _ (member-filter (is_there r.0.1) _ q.0 q.1).0).1);
                  same = q.2;
                }
            | false ↦ λ e m. absurd m
          ] refl r.2

-- ---- the entries

pub pair_of : (n : ℕ) (o : Option EntryRec) (x : Naming) → option_map (λ e. (n, e)) o ≡ Some x → (n ≡ x.0) × (o ≡ Some x.1)
pair_of n None x e = absurd (none_some x e)
pair_of n (Some r) x e = let s = some_in (n, r) x e in (ap (λ (z : Naming). z.0) s, ap (λ (z : Naming). Some z.1) s)

-- where an entry stands
pub record NamingAt (shape : Shape) (pages : VirtualMap) (x : Naming) : Type 0 where
  pub rec : InodeRec
  pub at : ℕ
  pub is_node : IsNode shape pages x.0 rec
  pub is_dir : rec.kind ≡ Dir
  pub inside : at < rec.size
  pub spelled : entry_of (bytes_of_place pages rec at) ≡ Some x.1

module _ (shape : Shape) (pages : VirtualMap) where
  good_entry : (e : EntryRec) → own_naming shape pages (Some e) ≡ true → GoodEntry shape pages e
  good_entry e h = by (inode_at pages e.ino) refl (not-false _ parts.1)
    where
      parts : ((e.ino == 0 || not (nat_lt e.ino shape.nodes)) ≡ false) × (not (has_generation e.generation (inode_at pages e.ino)) ≡ false)
      parts = or_parts _ _ (not-true _ h)

      by : (o : Option InodeRec) → inode_at pages e.ino ≡ o → has_generation e.generation o ≡ true → GoodEntry shape pages e
      by None at g = absurd (true_false (sym g))
      by (Some rec) at g =
          let q = and_parts _ _ g in
          record {
            no_root = eqb-false e.ino 0 (or_parts _ _ parts.0).0;
            target = rec;
            is_node = record { below = ltb-true _ _ (not-false _ (or_parts _ _ parts.0).1); spelled = at; used = used_kind rec.kind q.0 };
            generation = eqb-true rec.generation e.generation q.1;
          }

  entry_good : (e : EntryRec) → GoodEntry shape pages e → own_naming shape pages (Some e) ≡ true
  entry_good e good =
      not_from_false _ (or_from _ _ (or_from _ _ (ne_eqb e.ino 0 good.no_root) (not_from_true _ (lt-ltb _ _ good.is_node.below)))
      (not_from_true _ (ap (has_generation e.generation) good.is_node.spelled ∙ and_from _ _ (kind_used good.target.kind good.is_node.used) (eq-eqb _ _ good.generation))))

  pub entry_place : (size i : ℕ) → i < size → i < 64 * div_ceil size 64
  entry_place size i h = omega (arith, h, room size)

  pub naming_member : PlacesThere shape pages → (n : ℕ) (rec : InodeRec) (i : ℕ) (e : EntryRec) → IsNode shape pages n rec → rec.kind ≡ Dir → i < rec.size → entry_of (bytes_of_place pages rec i) ≡ Some e → Has (namings shape pages) (n, e)
  unfolding namings
  naming_member t n rec i e is dir below at =
      some-member naming_of (all_places shape pages) (place_at shape pages n rec i) (n, e) (place_member shape pages t n rec i is dir (entry_place rec.size i below))
      (cond-true (nat_lt i rec.size) _ _ (lt-ltb _ _ below) ∙ ap (option_map (λ e. (n, e))) at)

  pub naming_at : (x : Naming) → Has (namings shape pages) x → NamingAt shape pages x
  unfolding namings
  naming_at x m = by (member-some naming_of (all_places shape pages) x m)
    where
      of : (n : ℕ) (rec : InodeRec) (i : ℕ) → IsNode shape pages n rec → rec.kind ≡ Dir → naming_of (place_at shape pages n rec i) ≡ Some x → NamingAt shape pages x
      of n rec i is dir e =
          elim (nat_lt i rec.size) as (λ b. nat_lt i rec.size ≡ b → cond b (option_map (λ e. (n, e)) (entry_of (bytes_of_place pages rec i))) None ≡ Some x → NamingAt shape pages x) [
            | true ↦ λ b e.
                let q = pair_of n (entry_of (bytes_of_place pages rec i)) x e in
                record { rec = rec; at = i; is_node = subst (λ (k : ℕ). IsNode shape pages k rec) q.0 is; is_dir = dir; inside = ltb-true _ _ b; spelled = q.1 }
            | false ↦ λ b e. absurd (none_some x e)
          ] refl e

      by : (p : EntryPlace) × Has (all_places shape pages) p × (naming_of p ≡ Some x) → NamingAt shape pages x
      by r =
          let p = member_place shape pages r.0 r.1 in
          of p.node p.rec p.at p.is_node p.is_dir (ap naming_of p.same ∙ r.2)

  -- ---- what is reached

  pub reached_of : (fuel n : ℕ) → is_reached (namings shape pages) fuel n ≡ true → ReachedBy shape pages n
  reached_of zero n e = subst (λ (k : ℕ). ReachedBy shape pages k) (sym (eqb-true n 0 e)) from_root
  reached_of (suc fuel) n e = by (λ k. reached_of fuel k) (or_cases _ _ e)
    where
      by : ((k : ℕ) → is_reached (namings shape pages) fuel k ≡ true → ReachedBy shape pages k)
          → ((n == 0) ≡ true) ⊎ (list_any (λ x. x.1.ino == n && is_reached (namings shape pages) fuel x.0) (namings shape pages) ≡ true) → ReachedBy shape pages n
      by rest (inl z) = subst (λ (k : ℕ). ReachedBy shape pages k) (sym (eqb-true n 0 z)) from_root
      by rest (inr h) =
          let r = any_member (λ x. x.1.ino == n && is_reached (namings shape pages) fuel x.0) (namings shape pages) h in
          let q = and_parts _ _ r.2 in
          subst (λ (k : ℕ). ReachedBy shape pages k) (eqb-true r.0.1.ino n q.0) (by_naming r.0 r.1 (rest r.0.0 q.1))

  -- the nodes on the way from node 0, the last first
  Chain : ℕ → List ℕ → Type 0
  Chain n [] = n ≡ 0
  Chain n (m ∷ ns) = (n ≡ m) × (x : Naming) × Has (namings shape pages) x × (x.1.ino ≡ n) × Chain x.0 ns

  chain_of : (n : ℕ) → ReachedBy shape pages n → (ns : List ℕ) × Chain n ns
  unfolding Chain
  chain_of n from_root = ([], refl)
  chain_of n (by_naming x m r) = let c = chain_of x.0 r in (x.1.ino ∷ c.0, (refl, x, m, refl, c.1))

  by_chain : (ns : List ℕ) (n fuel : ℕ) → Chain n ns → length ns ≤ fuel → is_reached (namings shape pages) fuel n ≡ true
  unfolding Chain
  by_chain [] n zero c h = eq-eqb n 0 c
  by_chain [] n (suc fuel) c h = or_left _ _ (eq-eqb n 0 c)
  by_chain (m ∷ ns) n zero c h = absurd (none (length ns) h)
    where
      none : (k : ℕ) → suc k ≤ 0 → ⊥
      none k h = omega arith
  by_chain (m ∷ ns) n (suc fuel) c h =
      or_right (n == 0) _ (member_any (λ x. x.1.ino == n && is_reached (namings shape pages) fuel x.0) (namings shape pages) c.1 c.2
      (and_from _ _ (eq-eqb c.1.1.ino n c.3) (by_chain ns c.1.0 fuel c.4 (less (length ns) h))))
    where
      less : (k : ℕ) → suc k ≤ suc fuel → k ≤ fuel
      less k h = omega arith

  module _ (right : EntriesListed shape pages) where
    pub names_good : (x : Naming) → Has (namings shape pages) x → GoodEntry shape pages x.1
    names_good x m =
        let p = naming_at x m in
        let r = right.spelled x.0 p.rec p.at p.is_node p.is_dir p.inside in
        subst (λ (e : EntryRec). GoodEntry shape pages e) (some_in r.0 x.1 (sym r.1 ∙ p.spelled)) r.2

    one_chain : (ms ns : List ℕ) (n : ℕ) → Chain n ms → Chain n ns → ms ≡ ns
    unfolding Chain
    one_chain [] [] n c d = refl
    one_chain [] (k ∷ ns) n c d = absurd ((names_good d.1 d.2).no_root (d.3 ∙ c))
    one_chain (k ∷ ms) [] n c d = absurd ((names_good c.1 c.2).no_root (c.3 ∙ d))
    one_chain (k ∷ ms) (l ∷ ns) n c d =
        let same = two_same (λ (x : Naming). x.1.ino) (namings shape pages) right.one_name c.1 d.1 c.2 d.2 (c.3 ∙ sym d.3) in
        let rest = one_chain ms ns c.1.0 c.4 (subst (λ (x : Naming). Chain x.0 ns) (sym same) d.4) in
        λ i. (sym c.0 ∙ d.0) i ∷ rest i

    suffix : (ns : List ℕ) (n m : ℕ) → Chain n ns → Has ns m → (ms : List ℕ) × Chain m ms × (length ms ≤ length ns)
    unfolding Chain
    suffix [] n m c h = absurd h
    suffix (k ∷ ns) n m c (inl e) = (k ∷ ns, subst (λ (z : ℕ). Chain z (k ∷ ns)) (c.0 ∙ e) c, omega arith)
    suffix (k ∷ ns) n m c (inr h) = let r = suffix ns c.1.0 m c.4 h in (r.0, r.1, longer (length r.0) (length ns) r.2)
      where
        longer : (a b : ℕ) → a ≤ b → a ≤ suc b
        longer a b h = omega arith

    chain_differs : (ns : List ℕ) (n : ℕ) → Chain n ns → EachTwo (λ a b. a ≢ b) ns
    unfolding Chain
    chain_differs [] n c = tt
    chain_differs (k ∷ ns) n c = ((λ m h e. twice_there m h e), chain_differs ns c.1.0 c.4)
      where
        shorter : (a b : ℕ) → a ≡ suc b → a ≤ b → ⊥
        shorter a b e h = omega arith

        twice_there : (m : ℕ) → Has ns m → k ≡ m → ⊥
        twice_there m h e =
            let r = suffix ns c.1.0 m c.4 h in
            shorter (length r.0) (length ns) (ap (λ (l : List ℕ). length l) (one_chain r.0 (k ∷ ns) m r.1 (subst (λ (z : ℕ). Chain z (k ∷ ns)) (c.0 ∙ e) c))) r.2

    chain_below : (ns : List ℕ) (n m : ℕ) → Chain n ns → Has ns m → m < shape.nodes
    unfolding Chain
    chain_below [] n m c h = absurd h
    chain_below (k ∷ ns) n m c (inl e) = subst (λ (z : ℕ). z < shape.nodes) (c.3 ∙ c.0 ∙ e) (names_good c.1 c.2).is_node.below
    chain_below (k ∷ ns) n m c (inr h) = chain_below ns c.1.0 m c.4 h

    pub all_reached : (n : ℕ) → ReachedBy shape pages n → is_reached (namings shape pages) shape.nodes n ≡ true
    all_reached n r =
        let c = chain_of n r in
        by_chain c.0 n shape.nodes c.1 (not_many shape.nodes c.0 (chain_differs c.0 n c.1) (λ m h. chain_below c.0 n m c.1 h))

  -- ---- both phases

  pub entries_listed : PlacesThere shape pages → (or_then (entry_fault shape pages) (reach_fault shape pages) ≡ None) ↔ (EntriesListed shape pages)
  unfolding entry_fault reach_fault namings
  entries_listed t = (there, back)
    where
      clash_apart : (x y : Naming) → naming_clash shape pages x y ≡ false → x.1.ino ≢ y.1.ino
      clash_apart x y e = eqb-false x.1.ino y.1.ino (or_parts (x.1.ino == y.1.ino) (x.0 == y.0 && bytes_eq x.1.name y.1.name) e).0

      clash_names : (x y : Naming) → naming_clash shape pages x y ≡ false → x.0 ≡ y.0 → x.1.name ≢ y.1.name
      clash_names x y e same names = by (and_cases _ _ (or_parts (x.1.ino == y.1.ino) (x.0 == y.0 && bytes_eq x.1.name y.1.name) e).1)
        where
          by : ((x.0 == y.0) ≡ false) ⊎ (bytes_eq x.1.name y.1.name ≡ false) → ⊥
          by (inl h) = eqb-false x.0 y.0 h same
          by (inr h) = true_false (sym ((bytes_eq-Decides x.1.name y.1.name).1 names) ∙ h)

      no_clash : (x y : Naming) → x.1.ino ≢ y.1.ino → (x.0 ≡ y.0 → x.1.name ≢ y.1.name) → naming_clash shape pages x y ≡ false
      no_clash x y apart names = or_from _ _ (ne_eqb x.1.ino y.1.ino apart) (by (cases_eq x.0 y.0) (cases_Bool (bytes_eq x.1.name y.1.name)))
        where
          by : (x.0 ≡ y.0) ⊎ (x.0 ≡ y.0 → ⊥) → (bytes_eq x.1.name y.1.name ≡ true) ⊎ (bytes_eq x.1.name y.1.name ≡ false) → (x.0 == y.0 && bytes_eq x.1.name y.1.name) ≡ false
          by (inr far) _ = ap (λ t. t && bytes_eq x.1.name y.1.name) (ne_eqb x.0 y.0 far)
          by (inl same) (inl e) = absurd (names same ((bytes_eq-Decides x.1.name y.1.name).0 e))
          by (inl same) (inr e) = ap (λ t. x.0 == y.0 && t) e ∙ elim (x.0 == y.0) as (λ t. (t && false) ≡ false) [ true ↦ refl | false ↦ refl ]

      there : or_then (option_map (λ p. p.dir) (first_after (is_bad_place shape pages) [] (all_places shape pages)))
          (find (λ n. not (is_reached (filter_map naming_of (all_places shape pages)) shape.nodes n)) (map (λ x. x.0) (used_nodes shape pages))) ≡ None → EntriesListed shape pages
      there e = record {
        spelled = λ n rec i is dir below.
            of (entry_of (bytes_of_place pages rec i)) (bytes_of_place pages rec i) refl
            (sym (cond-true (nat_lt i rec.size) (own_naming shape pages (entry_of (bytes_of_place pages rec i))) (all_zero (bytes_of_place pages rec i)) (lt-ltb _ _ below))
            ∙ r.0 (place_at shape pages n rec i) (place_member shape pages t n rec i is dir (entry_place rec.size i below)));
        rest = λ n rec i is dir past inside.
            sym (cond-false (nat_lt i rec.size) (own_naming shape pages (entry_of (bytes_of_place pages rec i))) (all_zero (bytes_of_place pages rec i)) (le-ltb _ _ past))
            ∙ r.0 (place_at shape pages n rec i) (place_member shape pages t n rec i is dir inside);
        one_name = two_map (λ x y. naming_clash shape pages x y ≡ false) (λ x y. x.1.ino ≢ y.1.ino) clash_apart (filter_map naming_of (all_places shape pages)) two;
        names_differ = two_map (λ x y. naming_clash shape pages x y ≡ false) (λ x y. x.0 ≡ y.0 → x.1.name ≢ y.1.name) clash_names (filter_map naming_of (all_places shape pages)) two;
        reached = λ n rec is. reached_of shape.nodes n
            (not-false _ (find-none (λ n. not (is_reached (filter_map naming_of (all_places shape pages)) shape.nodes n)) (map (λ x. x.0) (used_nodes shape pages)) parts.1 n
            (map-member (λ x. x.0) (used_nodes shape pages) (n, rec) (is_used shape pages n rec is))));
      }
        where
          parts : (option_map (λ p. p.dir) (first_after (is_bad_place shape pages) [] (all_places shape pages)) ≡ None)
              × (find (λ n. not (is_reached (filter_map naming_of (all_places shape pages)) shape.nodes n)) (map (λ x. x.0) (used_nodes shape pages)) ≡ None)
          parts = then_none _ _ e

          r : ((x : EntryPlace) → Has (all_places shape pages) x → own_place shape pages x ≡ true)
              × ((x : EntryPlace) → Has (all_places shape pages) x → (e : EntryPlace) → Has [] e → place_clash shape pages e x ≡ false)
              × EachTwo (λ e x. place_clash shape pages e x ≡ false) (all_places shape pages)
          r = first_none (is_bad_place shape pages) (own_place shape pages) (place_clash shape pages) (place_parts shape pages) [] (all_places shape pages) (map_none (λ p. p.dir) _ parts.0)

          two : EachTwo (λ x y. naming_clash shape pages x y ≡ false) (filter_map naming_of (all_places shape pages))
          two = two-some (naming_clash shape pages) naming_of (all_places shape pages) r.2

          of : (o : Option EntryRec) (bytes : List ℕ) → entry_of bytes ≡ o → own_naming shape pages o ≡ true → (e : EntryRec) × (entry_of bytes ≡ Some e) × GoodEntry shape pages e
          of None bytes at h = absurd (true_false (sym h))
          of (Some e) bytes at h = (e, at, good_entry e h)

      back : EntriesListed shape pages → or_then (option_map (λ p. p.dir) (first_after (is_bad_place shape pages) [] (all_places shape pages)))
          (find (λ n. not (is_reached (filter_map naming_of (all_places shape pages)) shape.nodes n)) (map (λ x. x.0) (used_nodes shape pages))) ≡ None
      back right =
          none_then _ _
          (none_map (λ p. p.dir) _ (none_first (is_bad_place shape pages) (own_place shape pages) (place_clash shape pages) (place_parts shape pages) [] (all_places shape pages)
          own (λ x m e n. absurd n) (some-two (naming_clash shape pages) naming_of (all_places shape pages) (clashes (filter_map naming_of (all_places shape pages)) right.one_name right.names_differ))))
          (none-find (λ n. not (is_reached (filter_map naming_of (all_places shape pages)) shape.nodes n)) (map (λ x. x.0) (used_nodes shape pages)) reach)
        where
          clashes : (xs : List Naming) → EachTwo (λ x y. x.1.ino ≢ y.1.ino) xs → EachTwo (λ x y. x.0 ≡ y.0 → x.1.name ≢ y.1.name) xs → EachTwo (λ x y. naming_clash shape pages x y ≡ false) xs
          clashes [] a b = tt
          clashes (x ∷ xs) a b = ((λ y m. no_clash x y (a.0 y m) (b.0 y m)), clashes xs a.1 b.1)

          own_at : (n : ℕ) (rec : InodeRec) (i : ℕ) → IsNode shape pages n rec → rec.kind ≡ Dir → i < 64 * div_ceil rec.size 64 → (i < rec.size) ⊎ (rec.size ≤ i) → own_place shape pages (place_at shape pages n rec i) ≡ true
          own_at n rec i is dir inside (inl below) =
              let e = right.spelled n rec i is dir below in
              cond-true (nat_lt i rec.size) _ _ (lt-ltb _ _ below) ∙ ap (own_naming shape pages) e.1 ∙ entry_good e.0 e.2
          own_at n rec i is dir inside (inr past) = cond-false (nat_lt i rec.size) _ _ (le-ltb _ _ past) ∙ right.rest n rec i is dir past inside

          own : (p : EntryPlace) → Has (all_places shape pages) p → own_place shape pages p ≡ true
          own p m =
              let q = member_place shape pages p m in
              ap (own_place shape pages) (sym q.same) ∙ own_at q.node q.rec q.at q.is_node q.is_dir q.inside (cases_lt q.at q.rec.size)

          reach : (n : ℕ) → Has (map (λ x. x.0) (used_nodes shape pages)) n → not (is_reached (filter_map naming_of (all_places shape pages)) shape.nodes n) ≡ false
          reach n m =
              let q = member-map (λ (x : ℕ × InodeRec). x.0) (used_nodes shape pages) n m in
              not_from_true _ (all_reached right n (subst (λ (k : ℕ). ReachedBy shape pages k) q.2 (right.reached q.0.0 q.0.1 (used_is shape pages q.0 q.1))))
