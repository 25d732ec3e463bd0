-- The super page and the records of nodes.
use Rattle.std.proofs.Common.{◌≡◌, ℕ, ◌+◌, ◌≤◌, ◌<◌, Bool, true, false, not, ◌||◌, cond, find, refl, sym, ap, subst, ◌∙◌, Option, Some, None, option_map, ◌⊎◌, inl, inr, arith, ◌≢◌, ◌*◌, nat_lt, ◌==◌}
use Rattle.std.proofs.lemmas.Bool.{cond-false, not_from_true, not-false, cases_eq, and_parts, and_from, cond-true, eqb-true, eq-eqb, ne_eqb, lt-ltb, le-ltb, cases_lt}
use Rattle.std.specs.List.{range_with_len}
use Rattle.std.specs.Prelude.{◌↔◌}
use Rattle.nl_field.specs.Bytes.{all_zero}
use Rattle.nl_field.specs.declared.inode.InodeRec.{InodeRec}
use Rattle.nl_field.specs.declared.inode.Kind.{Kind}
use Rattle.nl_field.specs.declared.inode.Kind.TheVariants.{Unused, File, Dir}
use Rattle.nl_field.specs.declared.shape.Shape.{Shape}
use Rattle.nl_field.specs.declared.super_page.SuperRec.{SuperRec}
use Rattle.nl_meta.specs.Committed.{VirtualMap}
use Rattle.nl_field.specs.Members.{Has}
use Rattle.nl_meta.specs.Consistent.{NumbersRight, NamesPhysical, IsNode, NodesRight}
use Rattle.nl_meta.specs.Nodes.{inode_at, bytes_of_node, super_of_pages, is_physical_name}
use Rattle.nl_meta.specs.Walk.{is_super_of, is_dir_kind, is_file_kind, is_used_kind, is_good_inode, inode_fault, used_nodes, zero_where}
use Rattle.nl_meta.proofs.Facts.{EachTwo}
use Rattle.nl_meta.proofs.Lists.{some_in, true_false, none_some, find-none, none-find, all-each, each-all, zero_none, member-range, range-member, member-filter, filter-member, member-some, some-member}
use Rattle.nl_meta.proofs.Pairs.{two_map, somes_two, two_filtered, range_rises}

pub numbers : (shape : Shape) (pages : VirtualMap) → (zero_where (not (is_super_of shape (super_of_pages pages))) ≡ None) ↔ ((rec : SuperRec) × NumbersRight shape pages rec)
numbers shape pages = ((λ e. there (super_of_pages pages) refl (not-false _ (zero_none _ e))), back)
  where
    there : (o : Option SuperRec) → super_of_pages pages ≡ o → is_super_of shape o ≡ true → (rec : SuperRec) × NumbersRight shape pages rec
    there None e h = absurd (true_false (sym h))
    there (Some rec) e h =
        let a = and_parts _ _ h in
        let b = and_parts _ _ a.0 in
        (rec, record { spelled = e; same_blocks = eqb-true _ _ b.0; same_pages = eqb-true _ _ b.1; legal = a.1 })

    back : (rec : SuperRec) × NumbersRight shape pages rec → zero_where (not (is_super_of shape (super_of_pages pages))) ≡ None
    back r =
        ap (λ (o : Option SuperRec). cond (not (is_super_of shape o)) (Some 0) None) r.1.spelled
        ∙ cond-false _ _ _ (not_from_true _ (and_from _ _ (and_from _ _ (eq-eqb _ _ r.1.same_blocks) (eq-eqb _ _ r.1.same_pages)) r.1.legal))

-- ---- nodes

pub dir_kind : (k : Kind) → is_dir_kind k ≡ true → k ≡ Dir
dir_kind Dir e = refl
dir_kind File e = absurd (true_false (sym e))
dir_kind Unused e = absurd (true_false (sym e))

module _ (shape : Shape) (pages : VirtualMap) where
  abbrev bad_node : ℕ → Bool
  bad_node n = not (cond (nat_lt n shape.nodes) (is_good_inode shape n (inode_at pages n)) (all_zero (bytes_of_node pages n)))

  good_node : (n : ℕ) → n < shape.nodes → bad_node n ≡ false → (rec : InodeRec) × (inode_at pages n ≡ Some rec) × (NamesPhysical shape rec.direct × (n ≡ 0 → rec.kind ≡ Dir))
  good_node n below e = by (inode_at pages n) refl (sym (cond-true (nat_lt n shape.nodes) _ _ (lt-ltb _ _ below)) ∙ not-false _ e)
    where
      by : (o : Option InodeRec) → inode_at pages n ≡ o → is_good_inode shape n o ≡ true → (rec : InodeRec) × (inode_at pages n ≡ Some rec) × (NamesPhysical shape rec.direct × (n ≡ 0 → rec.kind ≡ Dir))
      by None at h = absurd (true_false (sym h))
      by (Some rec) at h =
          let p = and_parts _ _ h in
          (rec, at, (all-each (is_physical_name shape) rec.direct p.0, λ z. dir_kind rec.kind (sym (ap (λ t. not t || is_dir_kind rec.kind) (eq-eqb n 0 z)) ∙ p.1)))

  pub inodes : 0 < shape.nodes → shape.nodes ≤ 16 * shape.inode_pages → (inode_fault shape pages ≡ None) ↔ (NodesRight shape pages)
  unfolding inode_fault
  inodes some room = (there, back)
    where
      there : find bad_node (range_with_len 0 (16 * shape.inode_pages)) ≡ None → NodesRight shape pages
      there e = record {
        spelled = λ n below. let r = good_node n below (at n (omega (arith, below, room))) in (r.0, r.1, r.2.0);
        rest = λ n past inside. sym (cond-false (nat_lt n shape.nodes) _ _ (le-ltb _ _ past)) ∙ not-false _ (at n inside);
        root = λ rec is. root rec is (good_node 0 some (at 0 (omega (arith, some, room))));
      }
        where
          at : (n : ℕ) → n < 16 * shape.inode_pages → bad_node n ≡ false
          at n inside = find-none bad_node _ e n (range-member n 0 _ (omega arith) (omega (arith, inside)))

          root : (rec : InodeRec) → inode_at pages 0 ≡ Some rec → (r : InodeRec) × (inode_at pages 0 ≡ Some r) × (NamesPhysical shape r.direct × (◌≡◌ {A = ℕ} 0 0 → r.kind ≡ Dir)) → rec.kind ≡ Dir
          root rec is r = ap (λ (z : InodeRec). z.kind) (some_in rec r.0 (sym is ∙ r.1)) ∙ r.2.1 refl

      back : NodesRight shape pages → find bad_node (range_with_len 0 (16 * shape.inode_pages)) ≡ None
      back h = none-find bad_node _ (λ n m. by n (member-range n 0 _ m).1 (cases_lt n shape.nodes))
        where
          good : (n : ℕ) (rec : InodeRec) → inode_at pages n ≡ Some rec → NamesPhysical shape rec.direct → is_good_inode shape n (inode_at pages n) ≡ true
          good n rec at names = ap (is_good_inode shape n) at ∙ and_from _ _ (each-all (is_physical_name shape) rec.direct names) (kind (cases_eq n 0))
            where
              kind : (n ≡ 0) ⊎ (n ≡ 0 → ⊥) → (not (n == 0) || is_dir_kind rec.kind) ≡ true
              kind (inl z) = ap (λ t. not t || is_dir_kind rec.kind) (eq-eqb n 0 z) ∙ ap is_dir_kind (h.root rec (ap (inode_at pages) (sym z) ∙ at))
              kind (inr far) = ap (λ t. not t || is_dir_kind rec.kind) (ne_eqb n 0 far)

          by : (n : ℕ) → n < 0 + 16 * shape.inode_pages → (n < shape.nodes) ⊎ (shape.nodes ≤ n) → bad_node n ≡ false
          by n inside (inl below) =
              let r = h.spelled n below in
              not_from_true _ (cond-true (nat_lt n shape.nodes) _ _ (lt-ltb _ _ below) ∙ good n r.0 r.1 r.2)
          by n inside (inr past) = not_from_true _ (cond-false (nat_lt n shape.nodes) _ _ (le-ltb _ _ past) ∙ h.rest n past (omega (arith, inside)))

-- ---- used nodes

pub used_kind : (k : Kind) → is_used_kind k ≡ true → k ≢ Unused
used_kind Dir e u = cc
used_kind File e u = cc
used_kind Unused e u = true_false (sym e)

pub kind_used : (k : Kind) → k ≢ Unused → is_used_kind k ≡ true
kind_used Dir f = refl
kind_used File f = refl
kind_used Unused f = absurd (f refl)

pub file_kind : (k : Kind) → is_file_kind k ≡ true → k ≡ File
file_kind File e = refl
file_kind Dir e = absurd (true_false (sym e))
file_kind Unused e = absurd (true_false (sym e))

module _ (shape : Shape) (pages : VirtualMap) where
  pub used_is : (x : ℕ × InodeRec) → Has (used_nodes shape pages) x → IsNode shape pages x.0 x.1
  unfolding used_nodes
  used_is x m =
      let f = member-filter (λ x. is_used_kind x.1.kind) _ x m in
      by (member-some (λ n. option_map (λ rec. (n, rec)) (inode_at pages n)) (range_with_len 0 shape.nodes) x f.0) f.1
    where
      pair : (n : ℕ) (o : Option InodeRec) → option_map (λ rec. (n, rec)) o ≡ Some x → (n ≡ x.0) × (o ≡ Some x.1)
      pair n None e = absurd (none_some x e)
      pair n (Some rec) e = let s = some_in (n, rec) x e in (ap (λ (z : ℕ × InodeRec). z.0) s, ap (λ (z : ℕ × InodeRec). Some z.1) s)

      by : (n : ℕ) × Has (range_with_len 0 shape.nodes) n × (option_map (λ rec. (n, rec)) (inode_at pages n) ≡ Some x) → is_used_kind x.1.kind ≡ true → IsNode shape pages x.0 x.1
      by r u =
          let p = pair r.0 (inode_at pages r.0) r.2 in
          record {
            below = subst (λ (k : ℕ). k < shape.nodes) p.0 (omega (arith, (member-range r.0 0 shape.nodes r.1).1));
            spelled = ap (inode_at pages) (sym p.0) ∙ p.1;
            used = used_kind x.1.kind u;
          }

  pub is_used : (n : ℕ) (rec : InodeRec) → IsNode shape pages n rec → Has (used_nodes shape pages) (n, rec)
  unfolding used_nodes
  is_used n rec is =
      filter-member (λ x. is_used_kind x.1.kind) _ (n, rec)
      (some-member (λ n. option_map (λ rec. (n, rec)) (inode_at pages n)) (range_with_len 0 shape.nodes) n (n, rec)
      (range-member n 0 shape.nodes (omega arith) (omega (arith, is.below))) (ap (option_map (λ rec. (n, rec))) is.spelled))
      (kind_used rec.kind is.used)

number_of : (n : ℕ) (o : Option InodeRec) (x : ℕ × InodeRec) → option_map (λ rec. (n, rec)) o ≡ Some x → n ≡ x.0
number_of n None x e = absurd (none_some x e)
number_of n (Some rec) x e = ap (λ (z : ℕ × InodeRec). z.0) (some_in (n, rec) x e)

module _ (shape : Shape) (pages : VirtualMap) where
  pub used_rise : EachTwo (λ x y. x.0 < y.0) (used_nodes shape pages)
  unfolding used_nodes
  used_rise =
      two_filtered (λ x y. x.0 < y.0) (λ x. is_used_kind x.1.kind) _
      (somes_two (λ x y. x.0 < y.0) (λ n. option_map (λ rec. (n, rec)) (inode_at pages n)) (range_with_len 0 shape.nodes)
      (two_map (λ i j. i < j) (λ a b. (x y : ℕ × InodeRec) → option_map (λ rec. (a, rec)) (inode_at pages a) ≡ Some x → option_map (λ rec. (b, rec)) (inode_at pages b) ≡ Some y → x.0 < y.0)
      (λ i j h x y e f. less i j x.0 y.0 h (number_of i (inode_at pages i) x e) (number_of j (inode_at pages j) y f)) (range_with_len 0 shape.nodes) (range_rises 0 shape.nodes)))
    where
      less : (i j a b : ℕ) → i < j → i ≡ a → j ≡ b → a < b
      less i j a b h e f = omega arith

  pub same_rec : (n : ℕ) (a b : InodeRec) → IsNode shape pages n a → IsNode shape pages n b → a ≡ b
  same_rec n a b p q = some_in a b (sym p.spelled ∙ q.spelled)
