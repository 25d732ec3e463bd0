-- The entries of directories by the places where they stand.
use Rattle.std.proofs.Common.{◌≡◌, ℕ, ◌<◌, true, false, cond, [], map, flat_map, refl, sym, ap, subst, ◌∙◌, Some, None, option_map, ◌⊎◌, inl, inr, ◌≢◌, ◌*◌, nat_lt}
use Rattle.std.proofs.lemmas.Bool.{cond-true, ltb-true, lt-ltb, cases_order}
use Rattle.std.specs.Int.{div_ceil}
use Rattle.std.specs.List.{range_with_len}
use Rattle.std.specs.Prelude.{◌↔◌}
use Rattle.nl_field.specs.EntryRecord.{entry_of}
use Rattle.nl_field.specs.declared.entry.EntryRec.{EntryRec}
use Rattle.nl_field.specs.declared.inode.InodeRec.{InodeRec}
use Rattle.nl_field.specs.declared.inode.Kind.TheVariants.{Dir}
use Rattle.nl_field.specs.declared.shape.Shape.{Shape}
use Rattle.nl_meta.specs.Committed.{VirtualMap}
use Rattle.nl_field.specs.Members.{Has}
use Rattle.nl_meta.specs.Consistent.{IsNode, GoodEntry, at_root, by_entry, EntryAt, Reached, EntriesRight}
use Rattle.nl_meta.specs.Nodes.{bytes_of_place}
use Rattle.nl_meta.specs.Walk.{or_then, is_dir_kind, used_nodes, EntryPlace, places_of, Naming, naming_of, all_places, entry_fault, reach_fault}
use Rattle.nl_meta.proofs.EntryProofs.{place_at, is_there, places_in, in_places, pair_of, entry_place, naming_member, naming_at, entries_listed}
use Rattle.nl_meta.proofs.Facts.{EachTwo, PlacesThere, namings, ReachedBy, from_root, by_naming, EntriesListed}
use Rattle.nl_meta.proofs.Lists.{some_in, none_some, member-map, map-member}
use Rattle.nl_meta.proofs.NodeProofs.{dir_kind, used_is, is_used, used_rise, same_rec}
use Rattle.nl_meta.proofs.Pairs.{two_within, rising_two, two_flat, flat_two, two_mapped, mapped_two, two_somes, somes_two, two_filtered, range_rises, itself}

module _ (shape : Shape) (pages : VirtualMap) where
  place_in : PlacesThere shape pages → (d : ℕ) (rec : InodeRec) (i : ℕ) → IsNode shape pages d rec → rec.kind ≡ Dir → i < rec.size → Has (places_of pages (d, rec)) (place_at shape pages d rec i)
  place_in t d rec i is dir below =
      subst (λ b. Has (cond b (map (place_at shape pages d rec) (places_in shape pages rec)) []) (place_at shape pages d rec i)) (sym (ap is_dir_kind dir))
      (map-member (place_at shape pages d rec) (places_in shape pages rec) i (in_places shape pages t d rec i is dir (entry_place shape pages rec.size i below)))

  places_rise : (rec : InodeRec) → EachTwo (λ i j. i < j) (places_in shape pages rec)
  places_rise rec = two_filtered (λ i j. i < j) (is_there shape pages rec) (range_with_len 0 (64 * div_ceil rec.size 64)) (range_rises 0 _)

  naming_here : (d i : ℕ) (e : EntryRec) (at : EntryAt shape pages d i e) → naming_of (place_at shape pages d at.rec i) ≡ Some (d, e)
  naming_here d i e at = cond-true (nat_lt i at.rec.size) _ _ (lt-ltb _ _ at.below) ∙ ap (option_map (λ e. (d, e))) at.spelled

  entry_here : (d : ℕ) (rec : InodeRec) (i : ℕ) → IsNode shape pages d rec → rec.kind ≡ Dir → (a : Naming) → naming_of (place_at shape pages d rec i) ≡ Some a → EntryAt shape pages d i a.1 × (d ≡ a.0)
  entry_here d rec i is dir a e =
      elim (nat_lt i rec.size) as (λ b. nat_lt i rec.size ≡ b → cond b (option_map (λ e. (d, e)) (entry_of (bytes_of_place pages rec i))) None ≡ Some a → EntryAt shape pages d i a.1 × (d ≡ a.0)) [
        | true ↦ λ b e.
            let q = pair_of d (entry_of (bytes_of_place pages rec i)) a e in
            (record { rec = rec; is_node = is; is_dir = dir; below = ltb-true _ _ b; spelled = q.1 }, q.0)
        | false ↦ λ b e. absurd (none_some a e)
      ] refl e

  module _ (t : PlacesThere shape pages) (r : Naming → Naming → Type 0) where
    abbrev of_places : EntryPlace → EntryPlace → Type 0
    of_places p q = (x y : Naming) → naming_of p ≡ Some x → naming_of q ≡ Some y → r x y

    abbrev of_dirs : ℕ × InodeRec → ℕ × InodeRec → Type 0
    of_dirs x y = (u v : EntryPlace) → Has (places_of pages x) u → Has (places_of pages y) v → of_places u v

    split : EachTwo r (namings shape pages) → EachTwo of_dirs (used_nodes shape pages) × ((x : ℕ × InodeRec) → Has (used_nodes shape pages) x → EachTwo of_places (places_of pages x))
    unfolding namings all_places
    split two = two_flat of_places (places_of pages) (used_nodes shape pages) (two_somes r naming_of (flat_map (places_of pages) (used_nodes shape pages)) two)

    other_dirs : EachTwo r (namings shape pages) → (d i d' i' : ℕ) (e e' : EntryRec) → EntryAt shape pages d i e → EntryAt shape pages d' i' e' → d < d' → r (d, e) (d', e')
    other_dirs two d i d' i' e e' a b h =
        rising_two (λ (x : ℕ × InodeRec). x.0) of_dirs (used_nodes shape pages) (used_rise shape pages) (split two).0 (d, a.rec) (d', b.rec) (is_used shape pages d a.rec a.is_node) (is_used shape pages d' b.rec b.is_node) h
        (place_at shape pages d a.rec i) (place_at shape pages d' b.rec i') (place_in t d a.rec i a.is_node a.is_dir a.below) (place_in t d' b.rec i' b.is_node b.is_dir b.below)
        (d, e) (d', e') (naming_here d i e a) (naming_here d' i' e' b)

    one_dir : EachTwo r (namings shape pages) → (d i i' : ℕ) (e e' : EntryRec) → EntryAt shape pages d i e → EntryAt shape pages d i' e' → i < i' → r (d, e) (d, e')
    one_dir two d i i' e e' a b h =
        rising_two (λ (k : ℕ). k) (λ i j. of_places (place_at shape pages d a.rec i) (place_at shape pages d a.rec j)) (places_in shape pages a.rec) (places_rise a.rec)
        (two_mapped of_places (place_at shape pages d a.rec) (places_in shape pages a.rec)
        (subst (λ b. EachTwo of_places (cond b (map (place_at shape pages d a.rec) (places_in shape pages a.rec)) [])) (ap is_dir_kind a.is_dir) ((split two).1 (d, a.rec) (is_used shape pages d a.rec a.is_node))))
        i i' (inside i a.below) (inside i' (subst (λ (z : InodeRec). i' < z.size) same b.below)) h
        (d, e) (d, e') (naming_here d i e a) (subst (λ (z : InodeRec). naming_of (place_at shape pages d z i') ≡ Some (d, e')) same (naming_here d i' e' b))
      where
        same : b.rec ≡ a.rec
        same = same_rec shape pages d b.rec a.rec b.is_node a.is_node

        inside : (k : ℕ) → k < a.rec.size → Has (places_in shape pages a.rec) k
        inside k below = in_places shape pages t d a.rec k a.is_node a.is_dir (entry_place shape pages a.rec.size k below)

    moved_to : (d d' : ℕ) (a b : Naming) → d ≡ a.0 → d' ≡ b.0 → r (d, a.1) (d', b.1) → r a b
    moved_to d d' a b p q h = subst (λ (k : ℕ). r a (k, b.1)) q (subst (λ (k : ℕ). r (k, a.1) (d', b.1)) p h)

    each_naming : ((d i d' i' : ℕ) (e e' : EntryRec) → EntryAt shape pages d i e → EntryAt shape pages d' i' e' → d < d' → r (d, e) (d', e'))
        → ((d i i' : ℕ) (e e' : EntryRec) → EntryAt shape pages d i e → EntryAt shape pages d i' e' → i < i' → r (d, e) (d, e'))
        → EachTwo r (namings shape pages)
    unfolding namings all_places
    each_naming f g =
        somes_two r naming_of (flat_map (places_of pages) (used_nodes shape pages))
        (flat_two of_places (places_of pages) (used_nodes shape pages)
        (two_within (λ x y. x.0 < y.0) of_dirs (used_nodes shape pages) (used_rise shape pages)
        (λ x y m n h u v mu mv a b eu ev. dirs x y (used_is shape pages x m) (used_is shape pages y n) h u v mu mv a b eu ev))
        (λ x m. dir x (used_is shape pages x m)))
      where
        place : (x : ℕ × InodeRec) → IsNode shape pages x.0 x.1 → (u : EntryPlace) → Has (places_of pages x) u → (a : Naming) → naming_of u ≡ Some a → (i : ℕ) × EntryAt shape pages x.0 i a.1 × (x.0 ≡ a.0)
        place x is u m a e =
            elim (is_dir_kind x.1.kind) as (λ t. is_dir_kind x.1.kind ≡ t → Has (cond t (map (place_at shape pages x.0 x.1) (places_in shape pages x.1)) []) u → (i : ℕ) × EntryAt shape pages x.0 i a.1 × (x.0 ≡ a.0)) [
              | true ↦ λ t m.
                  let q = member-map (place_at shape pages x.0 x.1) (places_in shape pages x.1) u m in
                  let w = entry_here x.0 x.1 q.0 is (dir_kind x.1.kind t) a (ap naming_of q.2 ∙ e) in
                  (q.0, w.0, w.1)
              | false ↦ λ t m. absurd m
            ] refl m

        dirs : (x y : ℕ × InodeRec) → IsNode shape pages x.0 x.1 → IsNode shape pages y.0 y.1 → x.0 < y.0 → of_dirs x y
        dirs x y p q h u v mu mv a b eu ev =
            let k = place x p u mu a eu in
            let l = place y q v mv b ev in
            moved_to x.0 y.0 a b k.2 l.2 (f x.0 k.0 y.0 l.0 a.1 b.1 k.1 l.1 h)

        dir : (x : ℕ × InodeRec) → IsNode shape pages x.0 x.1 → EachTwo of_places (places_of pages x)
        dir x is =
            elim (is_dir_kind x.1.kind) as (λ t. is_dir_kind x.1.kind ≡ t → EachTwo of_places (cond t (map (place_at shape pages x.0 x.1) (places_in shape pages x.1)) [])) [
              | true ↦ λ t.
                  mapped_two of_places (place_at shape pages x.0 x.1) (places_in shape pages x.1)
                  (two_within (λ i j. i < j) (λ i j. of_places (place_at shape pages x.0 x.1 i) (place_at shape pages x.0 x.1 j)) (places_in shape pages x.1) (places_rise x.1)
                  (λ i j m n h a b ei ej.
                  let k = entry_here x.0 x.1 i is (dir_kind x.1.kind t) a ei in
                  let l = entry_here x.0 x.1 j is (dir_kind x.1.kind t) b ej in
                  moved_to x.0 x.0 a b k.1 l.1 (g x.0 i j a.1 b.1 k.0 l.0 h)))
              | false ↦ λ t. tt
            ] refl

  abbrev other_node : Naming → Naming → Type 0
  other_node x y = x.1.ino ≢ y.1.ino

  abbrev other_name : Naming → Naming → Type 0
  other_name x y = x.0 ≡ y.0 → x.1.name ≢ y.1.name

  pub same_entry : (d i : ℕ) (e e' : EntryRec) → EntryAt shape pages d i e → EntryAt shape pages d i e' → e ≡ e'
  same_entry d i e e' a b = some_in e e' (sym (subst (λ (z : InodeRec). entry_of (bytes_of_place pages z i) ≡ Some e) (same_rec shape pages d a.rec b.rec a.is_node b.is_node) a.spelled) ∙ b.spelled)

  named : (n : ℕ) (rec : InodeRec)
      → ((d : ℕ) (rec : InodeRec) (i : ℕ) → IsNode shape pages d rec → rec.kind ≡ Dir → i < rec.size → (e : EntryRec) × EntryAt shape pages d i e × GoodEntry shape pages e)
      → Reached shape pages n → IsNode shape pages n rec → n ≢ 0 → (d : ℕ) × (i : ℕ) × (e : EntryRec) × EntryAt shape pages d i e × (e.ino ≡ n) × (e.generation ≡ rec.generation)
  named n rec spelled at_root is far = absurd (far refl)
  named n rec spelled (by_entry d i e a r) is far =
      let q = spelled d a.rec i a.is_node a.is_dir a.below in
      let good = subst (λ (z : EntryRec). GoodEntry shape pages z) (same_entry d i q.0 e q.1 a) q.2 in
      (d, i, e, a, refl, sym good.generation ∙ ap (λ (z : InodeRec). z.generation) (same_rec shape pages e.ino good.target rec good.is_node is))

  there : PlacesThere shape pages → EntriesListed shape pages → EntriesRight shape pages
  there t right = record {
    spelled = spelled;
    rest = right.rest;
    one_name = λ d i d' i' e e' a b same. dirs d i d' i' e e' a b same (cases_order d d');
    names_differ = λ d i i' e e' a b same. places d i i' e e' a b same (cases_order i i');
    named = λ n rec is far. named n rec spelled (linked n (right.reached n rec is)) is far;
    reached = λ n rec is. linked n (right.reached n rec is);
  }
    where
      spelled : (d : ℕ) (rec : InodeRec) (i : ℕ) → IsNode shape pages d rec → rec.kind ≡ Dir → i < rec.size → (e : EntryRec) × EntryAt shape pages d i e × GoodEntry shape pages e
      spelled d rec i is dir below = let r = right.spelled d rec i is dir below in (r.0, record { rec = rec; is_node = is; is_dir = dir; below = below; spelled = r.1 }, r.2)

      linked : (n : ℕ) → ReachedBy shape pages n → Reached shape pages n
      linked n from_root = at_root
      linked n (by_naming x m r) =
          let p = naming_at shape pages x m in
          by_entry x.0 p.at x.1 (record { rec = p.rec; is_node = p.is_node; is_dir = p.is_dir; below = p.inside; spelled = p.spelled }) (linked x.0 r)

      places : (d i i' : ℕ) (e e' : EntryRec) → EntryAt shape pages d i e → EntryAt shape pages d i' e' → e.name ≡ e'.name → (i ≡ i') ⊎ ((i < i') ⊎ (i' < i)) → i ≡ i'
      places d i i' e e' a b same (inl h) = h
      places d i i' e e' a b same (inr (inl h)) = absurd (one_dir t other_name right.names_differ d i i' e e' a b h refl same)
      places d i i' e e' a b same (inr (inr h)) = absurd (one_dir t other_name right.names_differ d i' i e' e b a h refl (sym same))

      in_one : (d i i' : ℕ) (e e' : EntryRec) → EntryAt shape pages d i e → EntryAt shape pages d i' e' → e.ino ≡ e'.ino → (i ≡ i') ⊎ ((i < i') ⊎ (i' < i)) → i ≡ i'
      in_one d i i' e e' a b same (inl h) = h
      in_one d i i' e e' a b same (inr (inl h)) = absurd (one_dir t other_node right.one_name d i i' e e' a b h same)
      in_one d i i' e e' a b same (inr (inr h)) = absurd (one_dir t other_node right.one_name d i' i e' e b a h (sym same))

      dirs : (d i d' i' : ℕ) (e e' : EntryRec) → EntryAt shape pages d i e → EntryAt shape pages d' i' e' → e.ino ≡ e'.ino → (d ≡ d') ⊎ ((d < d') ⊎ (d' < d)) → (d ≡ d') × (i ≡ i')
      dirs d i d' i' e e' a b same (inl h) = (h, in_one d i i' e e' a (subst (λ (k : ℕ). EntryAt shape pages k i' e') (sym h) b) same (cases_order i i'))
      dirs d i d' i' e e' a b same (inr (inl h)) = absurd (other_dirs t other_node right.one_name d i d' i' e e' a b h same)
      dirs d i d' i' e e' a b same (inr (inr h)) = absurd (other_dirs t other_node right.one_name d' i' d i e' e b a h (sym same))

  back : PlacesThere shape pages → EntriesRight shape pages → EntriesListed shape pages
  back t plain = record {
    spelled = λ d rec i is dir below.
        let r = plain.spelled d rec i is dir below in
        (r.0, subst (λ (z : InodeRec). entry_of (bytes_of_place pages z i) ≡ Some r.0) (same_rec shape pages d r.1.rec rec r.1.is_node is) r.1.spelled, r.2);
    rest = plain.rest;
    one_name = each_naming t other_node (λ d i d' i' e e' a b h same. itself d d' (plain.one_name d i d' i' e e' a b same).0 h) (λ d i i' e e' a b h same. itself i i' (plain.one_name d i d i' e e' a b same).1 h);
    names_differ = each_naming t other_name (λ d i d' i' e e' a b h same names. itself d d' same h) (λ d i i' e e' a b h same names. itself i i' (plain.names_differ d i i' e e' a b names) h);
    reached = λ n rec is. reached n (plain.reached n rec is);
  }
    where
      reached : (n : ℕ) → Reached shape pages n → ReachedBy shape pages n
      reached n at_root = from_root
      reached n (by_entry d i e a r) = by_naming (d, e) (naming_member shape pages t d a.rec i e a.is_node a.is_dir a.below a.spelled) (reached d r)

  pub entries : PlacesThere shape pages → (or_then (entry_fault shape pages) (reach_fault shape pages) ≡ None) ↔ EntriesRight shape pages
  entries t = ((λ e. there t ((entries_listed shape pages t).0 e)), (λ r. (entries_listed shape pages t).1 (back t r)))
