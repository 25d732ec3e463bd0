-- What refuses a call that changes one file, for want of room.
use Rattle.std.proofs.Common.{◌≡◌, ℕ, zero, suc, ◌+◌, ◌*◌, ◌/◌, ◌<◌, ◌≤◌, ◌==◌, nat_lt, nat_le, Bool, true, false, not, ◌&&◌, ◌||◌, cond, List, [], ◌∷◌, length, sum_by, count_by, fold, max, is_some, is_none, refl, sym, ap, ◌∙◌, Option, Some, None, IsTrue, arith, ◌⊎◌, inl, inr}
use Rattle.std.specs.Bool.{passes}
use Rattle.std.specs.Cmp.{both_ways, nat_cmp_total, unsigned_tied}
use Rattle.std.specs.FinMap.Entries.{find, find-put, is_sorted, is_sorted-put, length-put, put}
use Rattle.std.specs.List.{list_any, range_with_len}
use Rattle.std.specs.Option.{option_map_or}
use Rattle.std.specs.Ordering.{nat_cmp}
use Rattle.std.proofs.lemmas.Bool.{and_from, and_parts, cases_lt, cond-false, eqb-true, eq-eqb, le-leb, leb-true, lt-ltb, ltb-true, ne_eqb}
use Rattle.std.proofs.lemmas.List.Sums.{sum_by-cons}
use Rattle.nl_tree_content.specs.ContentLaws.{has_page, is_touched}
use Rattle.nl_field.specs.FileContent.{FileContent, is_content, overlaid, page_bytes, written_over}
use Rattle.nl_field.specs.declared.shape.Shape.{Shape}
use Rattle.nl_tree_content.proofs.ContentPages.{all_put, is_true}
use Rattle.nl_tree_content.proofs.ContentProofs.{touched_some, write_laws}
use Rattle.nl_tree.specs.Charges.{data_charge, has_page_in_range, meta_charge, node_charge, ranges_of_node}
use Rattle.nl_tree.specs.KeptSums.{IsChangeAt}
use Rattle.nl_tree.specs.Step.{first_of, space_refusal, when}
use Rattle.nl_field.specs.Numbers.{max_entries}
use Rattle.nl_tree.specs.Tree.{Node, Tree, entries_of, file, node_at, without}
use Rattle.nl_tree.specs.TreeLaws.{IsInOrder}
use Rattle.nl_tree.specs.declared.reply.Refusal.TheVariants.{Enospc}
use Rattle.nl_tree.specs.declared.reply.Space.TheVariants as space
use Rattle.nl_tree.proofs.KeptProofs.{beyond, data_changed, meta_kept, overfull_kept, sum_of_others, within}
use Rattle.nl_tree.proofs.SpaceProofs.{lacks_meta, lacks_nothing, lacks_pages, nodes-are}
use Rattle.nl_calls_bytes.specs.Contents.{count_indexes, first_index}
use Rattle.nl_calls_bytes.specs.Room.{room_refusal}
use Rattle.nl_calls_bytes.proofs.Content.{sorted-of}
use Rattle.nl_calls_bytes.proofs.Spans.{meets}
use Rattle.nl_calls_bytes.proofs.Counted.{count_same}

abbrev E : Type 0
E = List (List ℕ) × Node

abbrev Pages : Type 0
Pages = List (ℕ × List ℕ)

ones : (t : Tree) → length t ≡ sum_by (λ (e : E). 1) t
ones [] = refl
ones (e ∷ t) = let a = sum_by-cons (λ (e : E). 1) e t in let r = ones t in omega (arith, a, r)

-- ---- a file of the tree has another content

module _ (shape : Shape) (tree next : Tree) (path : List (List ℕ)) (content now : FileContent) (change : IsChangeAt path tree next) (was : node_at tree path ≡ Some (file content)) (is : node_at next path ≡ Some (file now)) (some : 0 < length path)
    (room : None ≡ space_refusal shape tree) (few : node_charge tree ≤ shape.nodes) where
  nodes-of : (t : Tree) → IsInOrder t → (x : Node) → node_at t path ≡ Some x → node_charge t ≡ 1 + sum_by (λ (e : E). 1) (without t path)
  unfolding without node_at
  nodes-of t order x at =
      sym (nodes-are t) ∙ ones t ∙ sum_of_others (λ e. 1) path t (passes _ order)
      ∙ (λ i. option_map_or (λ (y : Node). 1) (at i) 0 + sum_by (λ (e : E). 1) (without t path))

  nodes-same : node_charge next ≡ node_charge tree
  nodes-same =
      nodes-of next change.next_in_order (file now) is ∙ ap (λ (t : Tree). 1 + sum_by (λ (e : E). 1) t) (sym change.others)
      ∙ sym (nodes-of tree change.in_order (file content) was)

  more-pages : data_charge next + length content.pages ≡ data_charge tree + length now.pages
  more-pages = data_changed path tree next (Some (file content)) (Some (file now)) change (sym was) (sym is)

  meta : meta_charge next + ranges_of_node (file content) ≡ meta_charge tree + ranges_of_node (file now)
  meta = meta_kept path tree next (Some (file content)) (Some (file now)) some change (sym was) (sym is) refl refl

  few-nodes : false ≡ nat_lt shape.nodes (node_charge next)
  few-nodes = within shape.nodes (node_charge next) (node_charge next) refl (let s = nodes-same in omega (arith, s, few))

  pub space-is : (free ranges files pages : ℕ) → meta_charge tree + free ≡ shape.meta → ranges_of_node (file now) ≡ ranges_of_node (file content) + ranges → data_charge tree ≡ files
      → length now.pages ≡ length content.pages + pages → room_refusal free ranges shape.cap files pages ≡ space_refusal shape next
  space-is free ranges files pages all more counted longer = by (cases_lt free ranges) (cases_lt shape.cap (files + pages))
    where
      entries : false ≡ list_any (λ e. nat_lt max_entries (length (entries_of next e.0))) next
      entries = overfull_kept shape path tree next (Some (file content)) (Some (file now)) some change room (sym was) (sym is) refl refl

      meta-fits : ranges ≤ free → false ≡ nat_lt shape.meta (meta_charge next)
      meta-fits high = within shape.meta (meta_charge next) (meta_charge next) refl (let m = meta in omega (arith, m, all, more, high))

      by : (free < ranges) ⊎ (ranges ≤ free) → (shape.cap < files + pages) ⊎ (files + pages ≤ shape.cap) → room_refusal free ranges shape.cap files pages ≡ space_refusal shape next
      by (inl low) b =
          ap (λ (a : Bool). first_of (when a (Enospc space.Meta) ∷ when (nat_lt shape.cap (files + pages)) (Enospc space.Pages) ∷ [])) (sym (beyond free ranges low))
          ∙ lacks_meta shape next entries few-nodes (beyond shape.meta (meta_charge next) (let m = meta in omega (arith, m, all, more, low)))
      by (inr high) (inl low) =
          (λ i. first_of (when (sym (within free ranges ranges refl high) i) (Enospc space.Meta) ∷ when (sym (beyond shape.cap (files + pages) low) i) (Enospc space.Pages) ∷ []))
          ∙ lacks_pages shape next entries few-nodes (meta-fits high) (beyond shape.cap (data_charge next) (let d = more-pages in omega (arith, d, counted, longer, low)))
      by (inr high) (inr fits) =
          (λ i. first_of (when (sym (within free ranges ranges refl high) i) (Enospc space.Meta) ∷ when (sym (within shape.cap (files + pages) (files + pages) refl fits) i) (Enospc space.Pages) ∷ []))
          ∙ lacks_nothing shape next entries few-nodes (meta-fits high) (within shape.cap (data_charge next) (data_charge next) refl (let d = more-pages in omega (arith, d, counted, longer, fits)))

-- ---- how many pages a write adds

put-length : (g : ℕ → List ℕ) (n a : ℕ) (es : Pages) → is_sorted nat_cmp es ≡ true → length (all_put g es a n) ≡ length es + count_by (λ i. is_none (find nat_cmp i es)) (range_with_len a n)
put-length g zero a es sorted = nothing (length es)
  where
    nothing : (k : ℕ) → k ≡ k + 0
    nothing k = omega arith
put-length g (suc n) a es sorted =
    put-length g n (a + 1) (put nat_cmp a (g a) es) (is_true _ (is_sorted-put nat_cmp nat_cmp_total a (g a) es (passes _ sorted)))
    ∙ (λ i. length-put nat_cmp nat_cmp_total a (g a) es (passes _ sorted) i + count_same (λ k. is_none (find nat_cmp k es)) (λ k. is_none (find nat_cmp k (put nat_cmp a (g a) es))) (a + 1) n other i)
    ∙ turned (find nat_cmp a es) (length es) (count_by (λ k. is_none (find nat_cmp k es)) (range_with_len (a + 1) n))
    ∙ ap (λ (k : ℕ). length es + k) (sym (sum_by-cons (λ k. cond (is_none (find nat_cmp k es)) 1 0) a (range_with_len (a + 1) n)))
  where
    other : (k : ℕ) → a + 1 ≤ k → k < a + 1 + n → is_none (find nat_cmp k (put nat_cmp a (g a) es)) ≡ is_none (find nat_cmp k es)
    other k low high = ap (λ (o : Option (List ℕ)). is_none o) (find-put nat_cmp nat_cmp_total k a (g a) es ∙ ap (λ b. cond b (Some (g a)) (find nat_cmp k es)) (unsigned_tied k a ∙ ne_eqb k a (λ e. omega (arith, e, low))))

    turned : (o : Option (List ℕ)) (l c : ℕ) → cond (is_some o) l (l + 1) + c ≡ l + (cond (is_none o) 1 0 + c)
    turned None l c = omega arith
    turned (Some x) l c = omega arith

module _ (content : FileContent) (from : ℕ) (bytes : List ℕ) (right : IsTrue (is_content content)) (some : 0 < length bytes) where
  pub longer : length (written_over content from bytes).pages ≡ length content.pages + count_by (λ i. is_none (find nat_cmp i content.pages)) (range_with_len (first_index from) (count_indexes from (length bytes)))
  unfolding written_over
  longer =
      ap (λ (f : FileContent). length f.pages) (cond-false (length bytes == 0) content _ (ne_eqb (length bytes) 0 (λ e. omega (arith, e, some))))
      ∙ ap (λ (is : List ℕ). length (fold (λ pages index. put nat_cmp index (overlaid (page_bytes content index) index from bytes) pages) content.pages is)) (touched_some from (length bytes) some)
      ∙ put-length (λ i. overlaid (page_bytes content i) i from bytes) (count_indexes from (length bytes)) (first_index from) content.pages (sorted-of content right)

-- ---- in which ranges it has a page then

abbrev in_range : ℕ → ℕ → Bool
in_range r i = nat_le (8 + 256 * r) i && nat_lt i (264 + 256 * r)

any-found : (t : ℕ → Bool) (es : Pages) → list_any (λ (p : ℕ × List ℕ). t p.0) es ≡ true → (i : ℕ) × (t i ≡ true) × (is_some (find nat_cmp i es) ≡ true)
any-found t [] e = absurd (cc e)
any-found t (p ∷ es) e = by (t p.0) refl e (any-found t es)
  where
    or-true : (i : ℕ) (b : Bool) → is_some (find nat_cmp i es) ≡ true → is_some (cond b (Some p.1) (find nat_cmp i es)) ≡ true
    or-true i true h = refl
    or-true i false h = h

    by : (b : Bool) → t p.0 ≡ b → (b || list_any (λ (p : ℕ × List ℕ). t p.0) es) ≡ true → (list_any (λ (p : ℕ × List ℕ). t p.0) es ≡ true → (i : ℕ) × (t i ≡ true) × (is_some (find nat_cmp i es) ≡ true))
        → (i : ℕ) × (t i ≡ true) × (is_some (find nat_cmp i (p ∷ es)) ≡ true)
    by true is e rest = (p.0, is, ap (λ (b : Bool). is_some (cond b (Some p.1) (find nat_cmp p.0 es))) (unsigned_tied p.0 p.0 ∙ eq-eqb p.0 p.0 refl))
    by false is e rest = let r = rest e in (r.0, r.1, or-true r.0 _ r.2)

found-any : (t : ℕ → Bool) (es : Pages) (i : ℕ) → t i ≡ true → is_some (find nat_cmp i es) ≡ true → list_any (λ (p : ℕ × List ℕ). t p.0) es ≡ true
found-any t [] i is has = absurd (cc has)
found-any t (p ∷ es) i is has = by (i == p.0) refl (found-any t es i is)
  where
    or-right : (a b : Bool) → b ≡ true → (a || b) ≡ true
    or-right true b h = refl
    or-right false b h = h

    by : (b : Bool) → (i == p.0) ≡ b → (is_some (find nat_cmp i es) ≡ true → list_any (λ (p : ℕ × List ℕ). t p.0) es ≡ true) → list_any (λ (p : ℕ × List ℕ). t p.0) (p ∷ es) ≡ true
    by true e rest = ap (λ (b : Bool). b || list_any (λ (p : ℕ × List ℕ). t p.0) es) (ap t (sym (eqb-true i p.0 e)) ∙ is)
    by false e rest = or-right (t p.0) _ (rest (sym (ap (λ (b : Bool). is_some (cond b (Some p.1) (find nat_cmp i es))) (unsigned_tied i p.0 ∙ e)) ∙ has))

module _ (content : FileContent) (from : ℕ) (bytes : List ℕ) (some : 0 < length bytes) (r : ℕ) where
  in-first : ℕ
  in-first = max (first_index from) (8 + 256 * r)

  touched-met : (i : ℕ) → is_touched from (length bytes) i ≡ true → in_range r i ≡ true → meets (first_index from) (count_indexes from (length bytes)) r ≡ true
  touched-met i t h =
      let p = and_parts _ _ t in
      let q = and_parts _ _ p.0 in
      let a = ltb-true (4096 * i) (from + length bytes) q.1 in
      let b = ltb-true from (4096 * i + 4096) p.1 in
      let s = and_parts _ _ h in
      let c = leb-true (8 + 256 * r) i s.0 in
      let d = ltb-true i (264 + 256 * r) s.1 in
      and_from _ _ (and_from _ _ (lt-ltb (from / 4096) (264 + 256 * r) (omega (arith, b, d))) (lt-ltb (8 + 256 * r) (from / 4096 + count_indexes from (length bytes)) (omega (arith, a, c, some))))
      (lt-ltb 0 (count_indexes from (length bytes)) (omega (arith, some)))

  met-touched : meets (first_index from) (count_indexes from (length bytes)) r ≡ true → (i : ℕ) × (is_touched from (length bytes) i ≡ true) × (in_range r i ≡ true)
  met-touched m =
      let p = and_parts _ _ m in
      let q = and_parts _ _ p.0 in
      let a = ltb-true (from / 4096) (264 + 256 * r) q.0 in
      let b = ltb-true (8 + 256 * r) (from / 4096 + count_indexes from (length bytes)) q.1 in
      by (cases_lt (from / 4096) (8 + 256 * r)) a b
    where
      by : (from / 4096 < 8 + 256 * r) ⊎ (8 + 256 * r ≤ from / 4096) → from / 4096 < 264 + 256 * r → 8 + 256 * r < from / 4096 + count_indexes from (length bytes) → (i : ℕ) × (is_touched from (length bytes) i ≡ true) × (in_range r i ≡ true)
      by (inl low) a b = (
        8 + 256 * r,
        and_from _ _ (and_from _ _ (lt-ltb 0 (length bytes) some) (lt-ltb (4096 * (8 + 256 * r)) (from + length bytes) (omega (arith, b, some)))) (lt-ltb from (4096 * (8 + 256 * r) + 4096) (omega (arith, low))),
        and_from _ _ (le-leb (8 + 256 * r) (8 + 256 * r) (omega arith)) (lt-ltb (8 + 256 * r) (264 + 256 * r) (omega arith)),
      )
      by (inr high) a b = (
        from / 4096,
        and_from _ _ (and_from _ _ (lt-ltb 0 (length bytes) some) (lt-ltb (4096 * (from / 4096)) (from + length bytes) (omega (arith, some)))) (lt-ltb from (4096 * (from / 4096) + 4096) (omega arith)),
        and_from _ _ (le-leb (8 + 256 * r) (from / 4096) high) (lt-ltb (from / 4096) (264 + 256 * r) a),
      )

  pub in-range-then : has_page_in_range (written_over content from bytes) r ≡ (has_page_in_range content r || meets (first_index from) (count_indexes from (length bytes)) r)
  in-range-then = both_ways _ _
      (λ e.
      let k = any-found (in_range r) (written_over content from bytes).pages e in
      split (is_touched from (length bytes) k.0) (has_page content k.0) (sym (write_laws.indexes content from bytes k.0) ∙ k.2) k.0 k.1 refl refl)
      (λ e. back (has_page_in_range content r) refl e)
    where
      or-right : (a b : Bool) → b ≡ true → (a || b) ≡ true
      or-right true b h = refl
      or-right false b h = h

      or-left : (a b : Bool) → a ≡ true → (a || b) ≡ true
      or-left true b h = refl
      or-left false b h = absurd (cc h)

      split : (t h : Bool) → (t || h) ≡ true → (i : ℕ) → in_range r i ≡ true → is_touched from (length bytes) i ≡ t → has_page content i ≡ h → (has_page_in_range content r || meets (first_index from) (count_indexes from (length bytes)) r) ≡ true
      split true h e i is a b = or-right (has_page_in_range content r) _ (touched-met i a is)
      split false true e i is a b = or-left _ (meets (first_index from) (count_indexes from (length bytes)) r) (found-any (in_range r) content.pages i is b)
      split false false e i is a b = absurd (cc e)

      has-then : (i : ℕ) → in_range r i ≡ true → (is_touched from (length bytes) i || has_page content i) ≡ true → has_page_in_range (written_over content from bytes) r ≡ true
      has-then i is e = found-any (in_range r) (written_over content from bytes).pages i is (write_laws.indexes content from bytes i ∙ e)

      back : (b : Bool) → has_page_in_range content r ≡ b → (b || meets (first_index from) (count_indexes from (length bytes)) r) ≡ true → has_page_in_range (written_over content from bytes) r ≡ true
      back true is e = let k = any-found (in_range r) content.pages is in has-then k.0 k.1 (or-right (is_touched from (length bytes) k.0) _ k.2)
      back false is e = let k = met-touched e in has-then k.0 k.2 (or-left _ (has_page content k.0) k.1)

-- as many more as get one
count-two : (s p q : ℕ → Bool) (n a : ℕ) → ((r : ℕ) → a ≤ r → r < a + n → cond {A = ℕ} (s r) 1 0 ≡ cond (p r) 1 0 + cond (q r) 1 0) → count_by s (range_with_len a n) ≡ count_by p (range_with_len a n) + count_by q (range_with_len a n)
count-two s p q zero a each = refl
count-two s p q (suc n) a each =
    let x = sum_by-cons (λ r. cond (s r) 1 0) a (range_with_len (a + 1) n) in
    let y = sum_by-cons (λ r. cond (p r) 1 0) a (range_with_len (a + 1) n) in
    let z = sum_by-cons (λ r. cond (q r) 1 0) a (range_with_len (a + 1) n) in
    let h = each a (omega arith) (omega arith) in
    let rest = count-two s p q n (a + 1) (λ r low high. each r (omega (arith, low)) (omega (arith, high))) in
    omega (arith, x, y, z, h, rest)

pub ranges-more : (content : FileContent) (from : ℕ) (bytes : List ℕ) (gets : ℕ → Bool) → 0 < length bytes
    → ((r : ℕ) → r < 16 → gets r ≡ (not (has_page_in_range content r) && meets (first_index from) (count_indexes from (length bytes)) r))
    → ranges_of_node (file (written_over content from bytes)) ≡ ranges_of_node (file content) + count_by gets (range_with_len 0 16)
ranges-more content from bytes gets some each =
    count-two (has_page_in_range (written_over content from bytes)) (has_page_in_range content) gets 16 0
    (λ r low high. ap (λ b. cond {A = ℕ} b 1 0) (in-range-then content from bytes some r) ∙ split (has_page_in_range content r) _ ∙ ap (λ b. cond {A = ℕ} (has_page_in_range content r) 1 0 + cond b 1 0) (sym (each r high)))
  where
    split : (a b : Bool) → cond {A = ℕ} (a || b) 1 0 ≡ cond a 1 0 + cond (not a && b) 1 0
    split true b = refl
    split false true = refl
    split false false = refl
