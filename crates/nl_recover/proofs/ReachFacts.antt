-- The nodes that a walk with a queue marks are those that a chain of entries reaches.
use Rattle.std.proofs.Common.{◌≡◌, ℕ, zero, suc, ◌+◌, ◌-◌, ◌<◌, ◌≤◌, Bool, true, false, not, ◌&&◌, cond, List, [], ◌∷◌, ◌++◌, length, map, filter, filter_map, find, replicate, get_or, set, refl, sym, ap, subst, ◌∙◌, Option, Some, None, option_map, ◌⊎◌, inl, inr, arith, ◌==◌, nat_lt, length-append}
use Rattle.std.proofs.lemmas.Bool.{and_from, and_parts, cases_Bool, cases_eq, eq-eqb, eqb-true, lt-ltb, ltb-true, not-false, not-true, or_cases, or_left, or_right}
use Rattle.std.proofs.lemmas.List.{get_or-set_other, get_or-set_same, length-replicate, length-set}
use Rattle.std.proofs.lemmas.List.Elements.{filter_map-append}
use Rattle.std.proofs.lemmas.Option.{get_or_from_slice_get, slice_get_read}
use Rattle.std.specs.List.{cons_option, list_any, range_with_len}
use Rattle.nl_field.specs.EntryRecord.{entry_of}
use Rattle.nl_field.specs.Members.{Has}
use Rattle.nl_field.specs.declared.entry.EntryRec.{EntryRec}
use Rattle.nl_field.specs.declared.inode.InodeRec.{InodeRec}
use Rattle.nl_field.specs.declared.shape.Shape.{Shape}
use Rattle.nl_meta.specs.Committed.{VirtualMap}
use Rattle.nl_meta.specs.Nodes.{inode_at}
use Rattle.nl_meta.specs.Walk.{EntryPlace, Naming, all_places, is_reached, is_used_kind, naming_of, reach_fault, used_nodes}
use Rattle.nl_meta.proofs.Kept.{count-more, count-none}
use Rattle.nl_meta.proofs.Lists.{any_member, flat-member, member-flat, member-range, member-some, member_any, none_some, range-member, some-member, some_in, true_false}
use Rattle.nl_recover.specs.Entries.{places_in}
use Rattle.nl_recover.specs.Reaching.{ReachState, is_used_record, reached_by, target_of, targets_of, with_node}
use Rattle.nl_recover.specs.Scanning.{gathered}
use Rattle.nl_recover.proofs.EntryFacts.{dirs, listed, of_number}
use Rattle.nl_recover.proofs.Firsts.{find-filter, first_in_range, none_in_range}
use Rattle.nl_recover.proofs.Scans.{gathered-append, grows, upto}

-- ---- chains

module _ (ns : List Naming) where
  reached-more : (k n : ℕ) → is_reached ns k n ≡ true → is_reached ns (suc k) n ≡ true
  reached-more zero n e = or_left (n == 0) _ e
  reached-more (suc k) n e = by (λ x. reached-more k x) (or_cases (n == 0) _ e)
    where
      longer : ((m : ℕ) → is_reached ns k m ≡ true → is_reached ns (suc k) m ≡ true) → (x : Naming) × Has ns x × ((x.1.ino == n && is_reached ns k x.0) ≡ true)
          → list_any (λ x. x.1.ino == n && is_reached ns (suc k) x.0) ns ≡ true
      longer more m = let p = and_parts (m.0.1.ino == n) _ m.2 in member_any (λ x. x.1.ino == n && is_reached ns (suc k) x.0) ns m.0 m.1 (and_from (m.0.1.ino == n) _ p.0 (more m.0.0 p.1))

      by : ((m : ℕ) → is_reached ns k m ≡ true → is_reached ns (suc k) m ≡ true) → (n == 0 ≡ true) ⊎ (list_any (λ x. x.1.ino == n && is_reached ns k x.0) ns ≡ true) → is_reached ns (suc (suc k)) n ≡ true
      by more (inl root) = or_left (n == 0) _ root
      by more (inr any) = or_right (n == 0) _ (longer more (any_member (λ x. x.1.ino == n && is_reached ns k x.0) ns any))

  reached-by : (d k n : ℕ) → is_reached ns k n ≡ true → is_reached ns (d + k) n ≡ true
  reached-by zero k n e = subst (λ (m : ℕ). is_reached ns m n ≡ true) same e
    where
      same : k ≡ 0 + k
      same = omega arith
  reached-by (suc d) k n e = subst (λ (m : ℕ). is_reached ns m n ≡ true) same (reached-more (d + k) n (reached-by d k n e))
    where
      same : suc (d + k) ≡ suc d + k
      same = omega arith

  pub reached-up : (k m n : ℕ) → k ≤ m → is_reached ns k n ≡ true → is_reached ns m n ≡ true
  reached-up k m n h e = subst (λ (m : ℕ). is_reached ns m n ≡ true) same (reached-by (m - k) k n e)
    where
      same : (m - k) + k ≡ m
      same = omega (arith, h)

  pub reached-step : (k : ℕ) (x : Naming) → Has ns x → is_reached ns k x.0 ≡ true → is_reached ns (suc k) x.1.ino ≡ true
  reached-step k x m e = or_right (x.1.ino == 0) _ (member_any (λ y. y.1.ino == x.1.ino && is_reached ns k y.0) ns x m (and_from (x.1.ino == x.1.ino) _ (eq-eqb x.1.ino x.1.ino refl) e))

-- ---- entries and what they name

target-spelled : (d : ℕ) (b : Bool) (o : Option EntryRec) (t : ℕ) → cond b (option_map (λ e. e.ino) o) None ≡ Some t
    → (e : EntryRec) × (cond b (option_map {U = Naming} (λ e. (d, e)) o) None ≡ Some (d, e)) × (e.ino ≡ t)
target-spelled d true None t e = absurd (none_some t e)
target-spelled d true (Some r) t e = (r, refl, some_in _ _ e)
target-spelled d false o t e = absurd (none_some t e)

naming-spelled : (d : ℕ) (b : Bool) (o : Option EntryRec) (x : Naming) → cond b (option_map (λ e. (d, e)) o) None ≡ Some x → (d ≡ x.0) × (cond b (option_map (λ e. e.ino) o) None ≡ Some x.1.ino)
naming-spelled d true None x e = absurd (none_some x e)
naming-spelled d true (Some r) x e = let s = some_in (d, r) x e in (ap (λ (y : Naming). y.0) s, ap (λ (y : Naming). Some y.1.ino) s)
naming-spelled d false o x e = absurd (none_some x e)

module _ (shape : Shape) (pages : VirtualMap) where
  abbrev pub namings : List Naming
  namings = filter_map naming_of (all_places shape pages)

  target-naming : (d t : ℕ) → d < shape.nodes → Has (targets_of pages d) t → (x : Naming) × Has namings x × (x.0 ≡ d) × (x.1.ino ≡ t)
  target-naming d t h m = by (member-some target_of (places_in pages d (inode_at pages d)) t m)
    where
      by : (p : EntryPlace) × Has (places_in pages d (inode_at pages d)) p × (target_of p ≡ Some t) → (x : Naming) × Has namings x × (x.0 ≡ d) × (x.1.ino ≡ t)
      by q =
          let s = target-spelled q.0.dir q.0.is_entry (entry_of q.0.bytes) t q.2 in
          let all = flat-member (of_number shape pages) (range_with_len 0 shape.nodes) d q.0 (range-member d 0 shape.nodes (omega arith) (omega (arith, h))) q.1 in
          ((q.0.dir, s.0), some-member naming_of (all_places shape pages) q.0 (q.0.dir, s.0) (subst (λ (l : List EntryPlace). Has l q.0) (sym (listed shape pages)) all) s.1, dirs shape pages d (inode_at pages d) q.0 q.1, s.2)

  naming-target : (x : Naming) → Has namings x → (x.0 < shape.nodes) × Has (targets_of pages x.0) x.1.ino
  naming-target x m = by (member-some naming_of (all_places shape pages) x m)
    where
      at : (p : EntryPlace) (n : ℕ) → Has (range_with_len 0 shape.nodes) n → Has (places_in pages n (inode_at pages n)) p → (p.dir ≡ x.0) → (target_of p ≡ Some x.1.ino)
          → (x.0 < shape.nodes) × Has (targets_of pages x.0) x.1.ino
      at p n r h e t =
          let is : n ≡ x.0 = sym (dirs shape pages n (inode_at pages n) p h) ∙ e in
          let below = (member-range n 0 shape.nodes r).1 in
          (omega (arith, is, below), subst (λ (k : ℕ). Has (targets_of pages k) x.1.ino) is (some-member target_of (places_in pages n (inode_at pages n)) p x.1.ino h t))

      by : (p : EntryPlace) × Has (all_places shape pages) p × (naming_of p ≡ Some x) → (x.0 < shape.nodes) × Has (targets_of pages x.0) x.1.ino
      by q =
          let s = naming-spelled q.0.dir q.0.is_entry (entry_of q.0.bytes) x q.2 in
          let f = member-flat (of_number shape pages) (range_with_len 0 shape.nodes) q.0 (subst (λ (l : List EntryPlace). Has l q.0) (listed shape pages) q.1) in
          at q.0 f.0 f.1 f.2 s.0 s.1

  -- ---- what the walk keeps

  pub record Reaches (done : ℕ) (s : ReachState) : Type 0 where
    pub size : length s.marks ≡ shape.nodes
    pub count : length s.queue ≡ length (filter (λ b. b) s.marks)
    pub each : (j : ℕ) → j < length s.queue → (get_or s.queue j 0 < shape.nodes) × (is_reached namings j (get_or s.queue j 0) ≡ true)
    pub there : (n : ℕ) → get_or s.marks n false ≡ true → (j : ℕ) × (j < length s.queue) × (get_or s.queue j 0 ≡ n)
    pub closed : (j t : ℕ) → j < done → j < length s.queue → Has (targets_of pages (get_or s.queue j 0)) t → t < shape.nodes → get_or s.marks t false ≡ true
    pub root : get_or s.marks 0 false ≡ true

  record Grows (s u : ReachState) : Type 0 where
    longer : length s.queue ≤ length u.queue
    kept : (j : ℕ) → j < length s.queue → get_or u.queue j 0 ≡ get_or s.queue j 0
    marked : (n : ℕ) → get_or s.marks n false ≡ true → get_or u.marks n false ≡ true

  abbrev pushed : ReachState → ℕ → ReachState
  pushed s t = record { marks = set s.marks t true; queue = s.queue ++ t ∷ [] }

  front : (xs : List ℕ) (t j : ℕ) → j < length xs → get_or (xs ++ t ∷ []) j 0 ≡ get_or xs j 0
  front [] t j h = absurd (omega (arith, h))
  front (x ∷ xs) t zero h = refl
  front (x ∷ xs) t (suc j) h = front xs t j (omega (arith, h))

  last : (xs : List ℕ) (t : ℕ) → get_or (xs ++ t ∷ []) (length xs) 0 ≡ t
  last [] t = refl
  last (x ∷ xs) t = last xs t

  one-longer : (xs : List ℕ) (t : ℕ) → length (xs ++ t ∷ []) ≡ length xs + 1
  one-longer xs t = length-append xs (t ∷ [])

  marked-more : (marks : List Bool) (t n : ℕ) → t < length marks → get_or marks n false ≡ true → get_or (set marks t true) n false ≡ true
  marked-more marks t n h e = by (cases_eq n t)
    where
      by : (n ≡ t) ⊎ (n ≡ t → ⊥) → get_or (set marks t true) n false ≡ true
      by (inl is) = ap (λ (k : ℕ). get_or (set marks t true) k false) is ∙ get_or-set_same marks t true false h
      by (inr far) = get_or-set_other marks t n true false far ∙ e

  push : (h t : ℕ) (s : ReachState) → Reaches h s → h < length s.queue → Has (targets_of pages (get_or s.queue h 0)) t → t < shape.nodes → get_or s.marks t false ≡ false
      → Reaches h (pushed s t) × Grows s (pushed s t)
  push h t s r below m inside unmarked = (
    record {
      size = length-set s.marks t true ∙ r.size;
      count = one-longer s.queue t ∙ ap (λ (n : ℕ). n + 1) r.count ∙ sym (count-more s.marks t fits unmarked);
      each = λ j k. each j k (cases_eq j (length s.queue));
      there = λ n e. there n e (cases_eq n t);
      closed = λ j u d k has u_in. closed j u d k has u_in;
      root = marked-more s.marks t 0 fits r.root;
    },
    record { longer = let l = one-longer s.queue t in omega (arith, l); kept = λ j k. front s.queue t j k; marked = λ n e. marked-more s.marks t n fits e },
  )
    where
      fits : t < length s.marks
      fits = subst (λ (n : ℕ). t < n) (sym r.size) inside

      from : is_reached namings h (get_or s.queue h 0) ≡ true → is_reached namings (length s.queue) t ≡ true
      from e =
          let x = target-naming (get_or s.queue h 0) t (r.each h below).0 m in
          reached-up namings (suc h) (length s.queue) t (omega (arith, below))
          (subst (λ (n : ℕ). is_reached namings (suc h) n ≡ true) x.3 (reached-step namings h x.0 x.1 (ap (is_reached namings h) x.2 ∙ e)))

      before : (j : ℕ) → j < length (s.queue ++ t ∷ []) → (j ≡ length s.queue → ⊥) → j < length s.queue
      before j k far = let l = one-longer s.queue t in omega (arith, l, k, far)

      each : (j : ℕ) → j < length (s.queue ++ t ∷ []) → (j ≡ length s.queue) ⊎ (j ≡ length s.queue → ⊥)
          → (get_or (s.queue ++ t ∷ []) j 0 < shape.nodes) × (is_reached namings j (get_or (s.queue ++ t ∷ []) j 0) ≡ true)
      each j k (inl is) =
          let e : get_or (s.queue ++ t ∷ []) j 0 ≡ t = ap (λ (i : ℕ). get_or (s.queue ++ t ∷ []) i 0) is ∙ last s.queue t in
          (subst (λ (n : ℕ). n < shape.nodes) (sym e) inside, ap (is_reached namings j) e ∙ ap (λ (i : ℕ). is_reached namings i t) is ∙ from (r.each h below).1)
      each j k (inr far) =
          let b = before j k far in
          let e = front s.queue t j b in
          (subst (λ (n : ℕ). n < shape.nodes) (sym e) (r.each j b).0, ap (is_reached namings j) e ∙ (r.each j b).1)

      there : (n : ℕ) → get_or (set s.marks t true) n false ≡ true → (n ≡ t) ⊎ (n ≡ t → ⊥) → (j : ℕ) × (j < length (s.queue ++ t ∷ [])) × (get_or (s.queue ++ t ∷ []) j 0 ≡ n)
      there n e (inl is) = let l = one-longer s.queue t in (length s.queue, omega (arith, l), last s.queue t ∙ sym is)
      there n e (inr far) =
          let q = r.there n (sym (get_or-set_other s.marks t n true false far) ∙ e) in
          let l = one-longer s.queue t in
          let b = q.1 in
          (q.0, omega (arith, l, b), front s.queue t q.0 q.1 ∙ q.2)

      closed : (j u : ℕ) → j < h → j < length (s.queue ++ t ∷ []) → Has (targets_of pages (get_or (s.queue ++ t ∷ []) j 0)) u → u < shape.nodes → get_or (set s.marks t true) u false ≡ true
      closed j u d k has u_in =
          let b : j < length s.queue = omega (arith, d, below) in
          marked-more s.marks t u fits (r.closed j u d b (subst (λ (n : ℕ). Has (targets_of pages n) u) (front s.queue t j b) has) u_in)

  record Visits (h : ℕ) (ts : List ℕ) (s u : ReachState) : Type 0 where
    reaches : Reaches h u
    grows : Grows s u
    named : (t : ℕ) → Has ts t → t < shape.nodes → get_or u.marks t false ≡ true

  stays : (s : ReachState) → Grows s s
  stays s = record { longer = omega arith; kept = λ j k. refl; marked = λ n e. e }

  already : (s : ReachState) (t : ℕ) → t < shape.nodes → (nat_lt t shape.nodes && not (get_or s.marks t false)) ≡ false → get_or s.marks t false ≡ true
  already s t inside e = not-false _ (sym (ap (λ b. b && not (get_or s.marks t false)) (lt-ltb _ _ inside)) ∙ e)

  node-step : (h t : ℕ) (s : ReachState) → Reaches h s → h < length s.queue → Has (targets_of pages (get_or s.queue h 0)) t → Visits h (t ∷ []) s (with_node shape.nodes s t)
  node-step h t s r below m = by (cases_Bool (nat_lt t shape.nodes && not (get_or s.marks t false)))
    where
      by : ((nat_lt t shape.nodes && not (get_or s.marks t false)) ≡ true) ⊎ ((nat_lt t shape.nodes && not (get_or s.marks t false)) ≡ false) → Visits h (t ∷ []) s (with_node shape.nodes s t)
      by (inl e) = subst (λ b. Visits h (t ∷ []) s (cond b (pushed s t) s)) (sym e) (
          let p = and_parts (nat_lt t shape.nodes) _ e in
          let inside = ltb-true _ _ p.0 in
          let r2 = push h t s r below m inside (not-true _ p.1) in
          record {
            reaches = r2.0;
            grows = r2.1;
            named = λ u mu _. elim mu as (λ mu. get_or (set s.marks t true) u false ≡ true) [
              | inl is ↦ ap (λ (k : ℕ). get_or (set s.marks t true) k false) (sym is) ∙ get_or-set_same s.marks t true false (subst (λ (n : ℕ). t < n) (sym r.size) inside)
              | inr other ↦ absurd other
            ];
          })
      by (inr e) = subst (λ b. Visits h (t ∷ []) s (cond b (pushed s t) s)) (sym e) (record {
        reaches = r;
        grows = stays s;
        named = λ u mu u_in. elim mu as (λ mu. get_or s.marks u false ≡ true) [
          | inl is ↦ ap (λ (k : ℕ). get_or s.marks k false) (sym is) ∙ already s t (subst (λ (k : ℕ). k < shape.nodes) (sym is) u_in) e
          | inr other ↦ absurd other
        ];
      })

  then-grows : (s u v : ReachState) → Grows s u → Grows u v → Grows s v
  then-grows s u v a b = record {
    longer = let l = a.longer in let m = b.longer in omega (arith, l, m);
    kept = λ j k. b.kept j (inside j k a.longer) ∙ a.kept j k;
    marked = λ n e. b.marked n (a.marked n e);
  }
    where
      inside : (j : ℕ) → j < length s.queue → length s.queue ≤ length u.queue → j < length u.queue
      inside j k l = omega (arith, k, l)

  list-step : (h : ℕ) (ts : List ℕ) (s : ReachState) → Reaches h s → h < length s.queue → ((t : ℕ) → Has ts t → Has (targets_of pages (get_or s.queue h 0)) t)
      → Visits h ts s (gathered (with_node shape.nodes) s ts)
  unfolding gathered
  list-step h [] s r below each = record { reaches = r; grows = stays s; named = λ t m _. absurd m }
  list-step h (t ∷ ts) s r below each =
      let v = node-step h t s r below (each t (inl refl)) in
      let k = v.grows.kept h below in
      let l = v.grows.longer in
      let rest = list-step h ts (with_node shape.nodes s t) v.reaches (omega (arith, below, l)) (λ u m. subst (λ (n : ℕ). Has (targets_of pages n) u) (sym k) (each u (inr m))) in
      record {
        reaches = rest.reaches;
        grows = then-grows s (with_node shape.nodes s t) _ v.grows rest.grows;
        named = λ u m u_in. elim m as (λ m. get_or (gathered (with_node shape.nodes) (with_node shape.nodes s t) ts).marks u false ≡ true) [
          | inl is ↦ rest.grows.marked u (v.named u (inl is) u_in)
          | inr m ↦ rest.named u m u_in
        ];
      }

  -- one directory of the queue more is done
  pub done-step : (h : ℕ) (s u : ReachState) → Reaches h s → h < length s.queue → u ≡ gathered (with_node shape.nodes) s (targets_of pages (get_or s.queue h 0)) → Reaches (h + 1) u
  done-step h s u r below is = subst (λ (u : ReachState). Reaches (h + 1) u) (sym is) (record {
    size = v.reaches.size;
    count = v.reaches.count;
    each = v.reaches.each;
    there = v.reaches.there;
    closed = λ j t d k has t_in. by j t d k has t_in (cases_eq j h);
    root = v.reaches.root;
  })
    where
      v : Visits h (targets_of pages (get_or s.queue h 0)) s (gathered (with_node shape.nodes) s (targets_of pages (get_or s.queue h 0)))
      v = list-step h (targets_of pages (get_or s.queue h 0)) s r below (λ t m. m)

      earlier : (j : ℕ) → j < h + 1 → (j ≡ h → ⊥) → j < h
      earlier j d far = omega (arith, d, far)

      by : (j t : ℕ) → j < h + 1 → j < length (gathered (with_node shape.nodes) s (targets_of pages (get_or s.queue h 0))).queue
          → Has (targets_of pages (get_or (gathered (with_node shape.nodes) s (targets_of pages (get_or s.queue h 0))).queue j 0)) t → t < shape.nodes → (j ≡ h) ⊎ (j ≡ h → ⊥)
          → get_or (gathered (with_node shape.nodes) s (targets_of pages (get_or s.queue h 0))).marks t false ≡ true
      by j t d k has t_in (inl e) =
          v.named t (subst (λ (n : ℕ). Has (targets_of pages n) t)
          (ap (λ (i : ℕ). get_or (gathered (with_node shape.nodes) s (targets_of pages (get_or s.queue h 0))).queue i 0) e ∙ v.grows.kept h below) has) t_in
      by j t d k has t_in (inr far) = v.reaches.closed j t (earlier j d far) k has t_in

  few : (bs : List Bool) → length (filter (λ b. b) bs) ≤ length bs
  few [] = omega arith
  few (true ∷ bs) = let h = few bs in omega (arith, h)
  few (false ∷ bs) = let h = few bs in omega (arith, h)

  pub queue-few : (h : ℕ) (s : ReachState) → Reaches h s → length s.queue ≤ shape.nodes
  queue-few h s r = let a = few s.marks in let b = r.count in let c = r.size in omega (arith, a, b, c)

  -- once all are done
  complete : (h : ℕ) (s : ReachState) → Reaches h s → length s.queue ≤ h → (k n : ℕ) → n < shape.nodes → is_reached namings k n ≡ true → get_or s.marks n false ≡ true
  complete h s r all zero n below e = ap (λ (m : ℕ). get_or s.marks m false) (eqb-true n 0 e) ∙ r.root
  complete h s r all (suc k) n below e = by (λ m. complete h s r all k m) (or_cases (n == 0) _ e)
    where
      at : (x : Naming) → x.1.ino ≡ n → Has (targets_of pages x.0) x.1.ino → (j : ℕ) × (j < length s.queue) × (get_or s.queue j 0 ≡ x.0) → get_or s.marks n false ≡ true
      at x is has q =
          let k = q.1 in
          r.closed q.0 n (omega (arith, k, all)) q.1 (subst (λ (d : ℕ). Has (targets_of pages d) n) (sym q.2) (subst (λ (t : ℕ). Has (targets_of pages x.0) t) is has)) below

      chain : ((m : ℕ) → m < shape.nodes → is_reached namings k m ≡ true → get_or s.marks m false ≡ true) → (x : Naming) × Has namings x × ((x.1.ino == n && is_reached namings k x.0) ≡ true) → get_or s.marks n false ≡ true
      chain rest m =
          let p = and_parts (m.0.1.ino == n) _ m.2 in
          let t = naming-target m.0 m.1 in
          at m.0 (eqb-true m.0.1.ino n p.0) t.1 (r.there m.0.0 (rest m.0.0 t.0 p.1))

      by : ((m : ℕ) → m < shape.nodes → is_reached namings k m ≡ true → get_or s.marks m false ≡ true) → (n == 0 ≡ true) ⊎ (list_any (λ x. x.1.ino == n && is_reached namings k x.0) namings ≡ true) → get_or s.marks n false ≡ true
      by rest (inl root) = ap (λ (m : ℕ). get_or s.marks m false) (eqb-true n 0 root) ∙ r.root
      by rest (inr any) = chain rest (any_member (λ x. x.1.ino == n && is_reached namings k x.0) namings any)

  pub all-marked : (h : ℕ) (s : ReachState) → Reaches h s → length s.queue ≤ h → (n : ℕ) → n < shape.nodes → get_or s.marks n false ≡ is_reached namings shape.nodes n
  all-marked h s r all n below = by (cases_Bool (get_or s.marks n false)) (cases_Bool (is_reached namings shape.nodes n))
    where
      sound : get_or s.marks n false ≡ true → is_reached namings shape.nodes n ≡ true
      sound e =
          let q = r.there n e in
          let k = q.1 in
          let most = queue-few h s r in
          reached-up namings q.0 shape.nodes n (omega (arith, k, most)) (ap (is_reached namings q.0) (sym q.2) ∙ (r.each q.0 q.1).1)

      by : (get_or s.marks n false ≡ true) ⊎ (get_or s.marks n false ≡ false) → (is_reached namings shape.nodes n ≡ true) ⊎ (is_reached namings shape.nodes n ≡ false) → get_or s.marks n false ≡ is_reached namings shape.nodes n
      by (inl a) b = a ∙ sym (sound a)
      by (inr a) (inl b) = absurd (true_false (sym (complete h s r all shape.nodes n below b) ∙ a))
      by (inr a) (inr b) = a ∙ sym b

  -- as the walk begins
  pub at-root : (marks : List Bool) → length marks ≡ shape.nodes → ((k : ℕ) → get_or marks k false ≡ false) → length (filter (λ b. b) marks) ≡ 0 → 0 < shape.nodes → Reaches 0 (reached_by (set marks 0 true) (0 ∷ []))
  at-root marks size none zero_many some = record {
    size = length-set marks 0 true ∙ size;
    count = sym (count-more marks 0 fits (none 0) ∙ ap (λ (n : ℕ). n + 1) zero_many);
    each = λ j k. each j k;
    there = λ n e. there n e (cases_eq n 0);
    closed = λ j t d k has t_in. absurd (omega (arith, d));
    root = get_or-set_same marks 0 true false fits;
  }
    where
      fits : 0 < length marks
      fits = subst (λ (n : ℕ). 0 < n) (sym size) some

      each : (j : ℕ) → j < 1 → (get_or (0 ∷ []) j 0 < shape.nodes) × (is_reached namings j (get_or (0 ∷ []) j 0) ≡ true)
      each zero k = (some, refl)
      each (suc j) k = absurd (omega (arith, k))

      there : (n : ℕ) → get_or (set marks 0 true) n false ≡ true → (n ≡ 0) ⊎ (n ≡ 0 → ⊥) → (j : ℕ) × (j < 1) × (get_or (0 ∷ []) j 0 ≡ n)
      there n e (inl is) = (0, omega arith, sym is)
      there n e (inr far) = absurd (true_false (sym e ∙ get_or-set_other marks 0 n true false far ∙ none n))

  -- ---- the used nodes

  abbrev pub is_used_at : ℕ → Bool
  is_used_at n = is_used_record (inode_at pages n)

  used-one : (n : ℕ) (rest : List (ℕ × InodeRec)) (ns : List ℕ) → map (λ (x : ℕ × InodeRec). x.0) (filter (λ x. is_used_kind x.1.kind) rest) ≡ ns
      → (o : Option InodeRec) → map (λ (x : ℕ × InodeRec). x.0) (filter (λ x. is_used_kind x.1.kind) (cons_option (option_map (λ rec. (n, rec)) o) rest)) ≡ cond (is_used_record o) (n ∷ ns) ns
  used-one n rest ns is None = is
  used-one n rest ns is (Some rec) =
      elim (is_used_kind rec.kind) as (λ b. map (λ (x : ℕ × InodeRec). x.0) (cond b ((n, rec) ∷ filter (λ x. is_used_kind x.1.kind) rest) (filter (λ x. is_used_kind x.1.kind) rest)) ≡ cond b (n ∷ ns) ns) [
        | true ↦ ap (λ (ms : List ℕ). n ∷ ms) is
        | false ↦ is
      ]

  used-numbers : (ns : List ℕ) → map (λ (x : ℕ × InodeRec). x.0) (filter (λ x. is_used_kind x.1.kind) (filter_map (λ n. option_map (λ rec. (n, rec)) (inode_at pages n)) ns)) ≡ filter is_used_at ns
  used-numbers [] = refl
  used-numbers (n ∷ ns) = used-one n (filter_map (λ n. option_map (λ rec. (n, rec)) (inode_at pages n)) ns) (filter is_used_at ns) (used-numbers ns) (inode_at pages n)

  abbrev pub is_lost : ℕ → Bool
  is_lost n = is_used_at n && not (is_reached namings shape.nodes n)

  unreached : reach_fault shape pages ≡ find is_lost (range_with_len 0 shape.nodes)
  unfolding reach_fault used_nodes
  unreached =
      ap (find (λ n. not (is_reached namings shape.nodes n))) (used-numbers (range_with_len 0 shape.nodes))
      ∙ find-filter (λ n. not (is_reached namings shape.nodes n)) is_used_at (range_with_len 0 shape.nodes)

  module _ (marks : List Bool) (each : (n : ℕ) → n < shape.nodes → get_or marks n false ≡ is_reached namings shape.nodes n) where
    abbrev pub is_unmarked : ℕ → Bool
    is_unmarked n = is_used_at n && not (get_or marks n false)

    alike : (n : ℕ) → n < shape.nodes → is_lost n ≡ is_unmarked n
    alike n h = ap (λ b. is_used_at n && not b) (sym (each n h))

    pub lost-here : (n : ℕ) → n < shape.nodes → ((k : ℕ) → k < n → is_unmarked k ≡ false) → is_unmarked n ≡ true → Some n ≡ reach_fault shape pages
    lost-here n h before here = sym (unreached ∙ first_in_range is_lost shape.nodes n h (λ k g. alike k (omega (arith, g, h)) ∙ before k g) (alike n h ∙ here))

    pub none-lost : (n : ℕ) → shape.nodes ≤ n → ((k : ℕ) → k < n → is_unmarked k ≡ false) → None ≡ reach_fault shape pages
    none-lost n h before = sym (unreached ∙ none_in_range is_lost shape.nodes (λ k g. alike k g ∙ before k (omega (arith, g, h))))

  -- ---- one directory, place by place

  pub places-step : (f : ℕ → List EntryPlace) (n : ℕ) (s t u : ReachState) → t ≡ gathered (with_node shape.nodes) s (filter_map target_of (upto f n))
      → u ≡ gathered (with_node shape.nodes) t (filter_map target_of (f n)) → u ≡ gathered (with_node shape.nodes) s (filter_map target_of (upto f (n + 1)))
  places-step f n s t u a b =
      b ∙ ap (λ (v : ReachState). gathered (with_node shape.nodes) v (filter_map target_of (f n))) a
      ∙ sym (ap (λ (ps : List EntryPlace). gathered (with_node shape.nodes) s (filter_map target_of ps)) (grows f n) ∙ ap (gathered (with_node shape.nodes) s) (filter_map-append target_of (upto f n) (f n))
      ∙ gathered-append (λ _ _. false) (with_node shape.nodes) s (filter_map target_of (upto f n)) (filter_map target_of (f n)))

  pub nothing-named : (s : ReachState) (ts : List ℕ) → ts ≡ [] → s ≡ gathered (with_node shape.nodes) s ts
  unfolding gathered
  nothing-named s ts e = sym (ap (gathered (with_node shape.nodes) s) e)

  pub one-named : (s u : ReachState) (t : ℕ) (ts : List ℕ) → t ∷ [] ≡ ts → u ≡ with_node shape.nodes s t → u ≡ gathered (with_node shape.nodes) s ts
  unfolding gathered
  one-named s u t ts e is = is ∙ ap (gathered (with_node shape.nodes) s) e

unset : (n k : ℕ) → get_or (replicate n false) k false ≡ false
unset zero k = refl
unset (suc n) zero = refl
unset (suc n) (suc k) = unset n k

pub begins : (shape : Shape) (pages : VirtualMap) (marks : List Bool) (queue : List ℕ) → 0 < shape.nodes → marks ≡ replicate shape.nodes false → queue ≡ 0 ∷ []
    → Reaches shape pages 0 (reached_by (set marks 0 true) queue)
begins shape pages marks queue some is at =
    subst (λ (l : List ℕ). Reaches shape pages 0 (reached_by (set marks 0 true) l)) (sym at)
    (at-root shape pages marks (ap length is ∙ length-replicate shape.nodes false) (λ k. ap (λ (l : List Bool). get_or l k false) is ∙ unset shape.nodes k)
    (ap (λ (l : List Bool). length (filter (λ b. b) l)) is ∙ count-none shape.nodes) some)

pub read-at : (xs : List ℕ) (i x : ℕ) → i < length xs → x ≡ get_or xs i x → x ≡ get_or xs i 0
read-at xs i x h e = sym (get_or_from_slice_get xs i x 0 (slice_get_read xs (length xs) i x refl h e))
