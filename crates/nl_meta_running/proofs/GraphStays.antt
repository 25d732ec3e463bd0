-- Two maps with the same pages of nodes and of used nodes' addresses have the same nodes.
use Rattle.std.proofs.Common.{◌≡◌, ◌≢◌, ℕ, suc, ◌<◌, Bool, true, false, not, ◌==◌, cond, List, [], ◌∷◌, ◌++◌, map, filter, replicate, refl, sym, ap, ◌∙◌, Option, Some, None, ◌⊎◌, inl, inr, arith, nat_lt, unwrap_or}
use Rattle.std.proofs.lemmas.Bool.{cases_eq, cond-true, eq-eqb, ltb-true}
use Rattle.std.specs.List.{enumerate_from, flat_map}
use Rattle.std.specs.Prelude.{slice_get}
use Rattle.nl_field.specs.Graph.{GraphNode, NodeBody, directory_node, file_node}
use Rattle.nl_field.specs.Numbers.{ShapeBounds}
use Rattle.nl_field.specs.Pointers.{is_none_pointer, no_pointer, pointers}
use Rattle.nl_field.specs.declared.entry.EntryRec.{EntryRec}
use Rattle.nl_field.specs.declared.inode.InodeRec.{InodeRec}
use Rattle.nl_field.specs.declared.inode.Kind.{Kind}
use Rattle.nl_field.specs.declared.inode.Kind.TheVariants.{Dir, File, Unused}
use Rattle.nl_field.specs.declared.pointer.Pointer.{Pointer}
use Rattle.nl_field.specs.declared.shape.Shape.{Shape}
use Rattle.nl_meta.specs.Committed.{VirtualMap}
use Rattle.nl_meta.specs.Consistent.{IsNode}
use Rattle.nl_meta.specs.Nodes.{body_of, graph_of, inode_at, node_from, pointers_at, pointers_of_inode, slots_of}
use Rattle.nl_meta_running.specs.Running.{IsNeeded}
use Rattle.nl_meta_running.proofs.SameNeeded.{entries-same, inode-same}

page-pointers : (old new : VirtualMap) (a : ℕ) → (a ≢ 0 → new a ≡ old a) → pointers_at new a ≡ pointers_at old a
page-pointers old new a same = by (cases_eq a 0)
  where
    by : (a ≡ 0) ⊎ (a ≡ 0 → ⊥) → pointers_at new a ≡ pointers_at old a
    by (inl e) = cond-true (a == 0) _ _ (eq-eqb a 0 e) ∙ sym (cond-true (a == 0) _ _ (eq-eqb a 0 e))
    by (inr far) = ap (λ (o : Option (List ℕ)). cond (a == 0) (replicate 256 no_pointer) (pointers 256 (unwrap_or o []))) (same far)

pub all-pointers : (old new : VirtualMap) (xs : List ℕ) → ((k a : ℕ) → slice_get xs k ≡ Some a → a ≢ 0 → new a ≡ old a) → flat_map (pointers_at new) xs ≡ flat_map (pointers_at old) xs
all-pointers old new [] same = refl
all-pointers old new (x ∷ xs) same =
    ap (λ (ps : List Pointer). ps ++ flat_map (pointers_at new) xs) (page-pointers old new x (same 0 x refl))
    ∙ ap (λ (ps : List Pointer). pointers_at old x ++ ps) (all-pointers old new xs (λ k a e far. same (suc k) a e far))

module _ (shape : Shape) (bounds : ShapeBounds shape) (old new : VirtualMap) (same : (v : ℕ) → IsNeeded shape old v → new v ≡ old v) where
  body-same : (n : ℕ) (rec : InodeRec) → n < shape.nodes → inode_at old n ≡ Some rec → (k : Kind) → rec.kind ≡ k → body_of new rec k ≡ body_of old rec k
  unfolding pointers_of_inode
  body-same n rec h at Unused e = refl
  body-same n rec h at Dir e = ap (λ (es : List EntryRec). directory_node (map (λ e. (e.name, e.ino)) es)) (entries-same shape bounds old new same n rec (node (λ u. dir-used (sym e ∙ u))) e)
    where
      dir-used : Dir ≡ Unused → ⊥
      dir-used e = cc

      node : rec.kind ≢ Unused → IsNode shape old n rec
      node used = record { below = h; spelled = at; used = used }
  body-same n rec h at File e =
      ap (λ (ps : List Pointer). file_node rec.size (filter (λ p. not (is_none_pointer p.1)) (enumerate_from 0 (rec.direct ++ ps))))
      (all-pointers old new (slots_of rec) (λ k a is far. same a (inr (n, k, record { rec = rec; is_node = record { below = h; spelled = at; used = λ u. file-used (sym e ∙ u) }; in_slot = is; not_zero = far }))))
    where
      file-used : File ≡ Unused → ⊥
      file-used e = cc

  from-same : (n : ℕ) → n < shape.nodes → (o : Option InodeRec) → inode_at old n ≡ o → node_from new o ≡ node_from old o
  from-same n h None at = refl
  from-same n h (Some rec) at = ap (λ (b : NodeBody). the-node rec.generation b) (body-same n rec h at rec.kind refl)
    where
      the-node : ℕ → NodeBody → GraphNode
      the-node g b = record { generation = g; body = b }

  node-same : (n : ℕ) → graph_of shape new n ≡ graph_of shape old n
  unfolding graph_of
  node-same n = by (nat_lt n shape.nodes) refl
    where
      by : (b : Bool) → nat_lt n shape.nodes ≡ b → node_from new (cond b (inode_at new n) None) ≡ node_from old (cond b (inode_at old n) None)
      by false e = refl
      by true e =
          let h = ltb-true n shape.nodes e in
          let f = bounds.places in
          ap (node_from new) (inode-same shape bounds old new same n (omega (arith, h, f))) ∙ from-same n h (inode_at old n) refl

  pub graph-same : graph_of shape new ≡ graph_of shape old
  graph-same = λ i n. node-same n i
