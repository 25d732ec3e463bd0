-- A call that changes names answers as the step of the tree for which the pages stand.
use Rattle.std.proofs.Common.{◌≡◌, ◌≢◌, ℕ, ◌+◌, ◌%◌, ◌≤◌, ◌<◌, Bool, true, false, not, ◌&&◌, ◌||◌, cond, List, [], ◌∷◌, ◌++◌, drop, length, refl, sym, ap, subst, ◌∙◌, Option, Some, None, option_and_then, is_none, is_some, IsSome, ◌⊎◌, inl, inr, arith}
use Rattle.std.proofs.lemmas.List.{append-nil, length-append}
use Rattle.std.specs.Prelude.{MatchBool}
use Rattle.nl_field.specs.FileContent.{empty_file}
use Rattle.nl_field.specs.Graph.{Graph}
use Rattle.nl_field.specs.declared.inode.Kind.TheVariants.{Dir, File}
use Rattle.nl_field.specs.declared.shape.Shape.{Shape}
use Rattle.nl_tree.specs.Charges.{data_of_node, meta_charge, ranges_of_node}
use Rattle.nl_tree.specs.GraphLaws.{entry_at, NamedOnce}
use Rattle.nl_tree.specs.Step.{refusal_before, Outcome, effect_of, first_of, is_too_long, own_refusal, space_refusal, when}
use Rattle.nl_tree.specs.Represents.{Represents, entries_in, node_of, node_reached}
use Rattle.nl_tree.specs.Tree.{Node, Tree, directory, file, entries_of, is_at_or_under, is_root, node_at, paths_eq, with_new, with_renamed, without}
use Rattle.nl_tree.specs.TreeLaws.{IsInOrder, or_else}
use Rattle.nl_tree.specs.declared.call.Call.{Call}
use Rattle.nl_tree.specs.declared.call.Call.TheVariants.{Clean, Create, Fill, List as ListCall, Mkdir, Read, Rename, Rmdir, Stat, Sync, Truncate, Unlink, Write}
use Rattle.nl_tree.specs.declared.reply.Refusal.{Refusal}
use Rattle.nl_tree.specs.declared.reply.Refusal.TheVariants.{Eexist, Einval, Enametoolong, Enoent, Enospc}
use Rattle.nl_tree.specs.declared.reply.Reply.TheVariants.{Done}
use Rattle.nl_tree.specs.declared.reply.Space.{Space}
use Rattle.nl_tree.specs.declared.reply.Space.TheVariants as space
use Rattle.nl_tree.proofs.ChangeProofs.{at_end, reached_step}
use Rattle.nl_tree.proofs.GraphProofs.{one_path_to, reached-append}
use Rattle.nl_tree.proofs.StepProofs.{performed, refused_after, refused_before}
use Rattle.nl_tree.proofs.TreeProofs.{eq_path, not_true, path_eq, tree_laws, under_append}
use Rattle.nl_meta.specs.Committed.{VirtualMap}
use Rattle.nl_meta.specs.Consistent.{PageOfStamp}
use Rattle.nl_meta.proofs.Lists.{none_some, some_in}
use Rattle.nl_inode.specs.Nodes.{Spaces}
use Rattle.nl_spec_image.specs.Stands.{bytes_for}
use Rattle.nl_spec_image.proofs.GraphOfPages.{graph, reached_is_node}
use Rattle.nl_spec_image.proofs.TreeOfPages.{node_here, once}
use Rattle.nl_namespace.specs.Calls.{ChangesInTree, IsStep}
use Rattle.nl_namespace.specs.ChangeLaws.{GraphRepresents}
use Rattle.nl_namespace.specs.Entering.{HasFreeAddress}
use Rattle.nl_namespace.specs.Moving.{CanTake, CannotTake, HasRoomForMove, LacksRoomForMove, MovesName, MovesOrStays, refusal_of_place, refusal_of_rename}
use Rattle.nl_namespace.specs.Naming.{IsFull, LosesName, MakesNode, NameIn, refusal_of_name}
use Rattle.nl_namespace.specs.Paths.{walk_refusal}
use Rattle.nl_namespace.specs.Standing.{HoldsTree}
use Rattle.nl_namespace.specs.declared.answer.Change.{Change}
use Rattle.nl_namespace.specs.declared.answer.Change.TheVariants as change
use Rattle.nl_namespace.proofs.Charged.{all-meta, all-nodes, bounds-here, count-at, few-at, some-meta, some-nodes, tree-fits}
use Rattle.nl_namespace.proofs.TreeChanges.{makes_in_tree, making-same, removes_in_tree, unlinks_in_tree}
use Rattle.nl_namespace.proofs.TreeRenames.{or-nothing, rename-same, renames_in_tree}
use Rattle.nl_namespace.proofs.TreeRmdir.{rmdirs_in_tree}
use Rattle.nl_namespace.proofs.TreeRooms.{CanAdd, CanDrop, Fits, across-fits, across-full, across-meta, add-fits, add-full, add-meta, add-nodes, drop-count, drop-fits, drop-meta, drop-order, drop-other, fits-room, pages-full, within-fits}
use Rattle.nl_namespace.proofs.TreeSums.{CanMove, Path, false-true}

-- the refusals of a call on one path
one : (b : Bool) (o : Option Refusal) → first_of (when (b || false) Enametoolong ∷ o ∷ []) ≡ first_of (when b Enametoolong ∷ o ∷ [])
one b o = ap (λ (c : Bool). first_of (when c Enametoolong ∷ o ∷ [])) (or-nothing b)

-- what the last of four tests asks holds where none refuses
last-of-four : (a b c : Option Refusal) (d : Bool) (r : Refusal) → first_of (a ∷ b ∷ c ∷ when d r ∷ []) ≡ None → d ≡ false
last-of-four (Some x) b c d r e = absurd (none_some x (sym e))
last-of-four None (Some x) c d r e = absurd (none_some x (sym e))
last-of-four None None (Some x) d r e = absurd (none_some x (sym e))
last-of-four None None None true r e = absurd (none_some r (sym e))
last-of-four None None None false r e = refl

-- what the fourth of five tests asks holds where none refuses
fourth-of-five : (a b c z : Option Refusal) (d : Bool) (r : Refusal) → first_of (a ∷ b ∷ c ∷ when d r ∷ z ∷ []) ≡ None → d ≡ false
fourth-of-five (Some x) b c z d r e = absurd (none_some x (sym e))
fourth-of-five None (Some x) c z d r e = absurd (none_some x (sym e))
fourth-of-five None None (Some x) z d r e = absurd (none_some x (sym e))
fourth-of-five None None None z true r e = absurd (none_some r (sym e))
fourth-of-five None None None z false r e = refl

not-some : (o : Option ℕ) → is_some o ≡ false → o ≡ None
not-some (Some n) e = absurd (false-true (sym e))
not-some None e = refl

not-none : (o : Option ℕ) → is_none o ≡ false → (n : ℕ) × (o ≡ Some n)
not-none (Some n) e = (n, refl)
not-none None e = absurd (false-true (sym e))

some-node : (o : Option Node) → IsSome o → (x : Node) × (o ≡ Some x)
some-node (Some x) h = (x, refl)
some-node None h = absurd (false-true h)

-- ---- the step

done : (shape : Shape) (b : ℕ → List ℕ) (new : Graph) (tree next : Tree) (call : Call) (lost : Option ℕ) → refusal_before tree call ≡ None → next ≡ (effect_of tree call).tree → (effect_of tree call).reply ≡ Done
    → None ≡ space_refusal shape next → Represents b new next → IsStep shape b new tree call (change.Changed lost)
done shape b new tree next call lost before is reply room stands =
    let p = performed shape tree next call (sym before) is room in
    (ap (λ (o : Outcome). o.reply) p ∙ reply, subst (λ (o : Outcome). Represents b new o.tree) (sym p) (subst (Represents b new) is stands))

refused : (shape : Shape) (b : ℕ → List ℕ) (new : Graph) (tree : Tree) (call : Call) (r : Refusal) → refusal_before tree call ≡ Some r → IsStep shape b new tree call (change.No r)
refused shape b new tree call r before = refused_before shape tree call r (sym before)

lacking : (shape : Shape) (b : ℕ → List ℕ) (new : Graph) (tree next : Tree) (call : Call) (r : Refusal) → refusal_before tree call ≡ None → next ≡ (effect_of tree call).tree → Some r ≡ space_refusal shape next
    → IsStep shape b new tree call (change.No r)
lacking shape b new tree next call r before is room = refused_after shape tree next call r (sym before) is room

module _ (shape : Shape) (pages : VirtualMap) (page_of_stamp : ℕ → Option PageOfStamp) (free : Spaces) (tree : Tree) (holds : HoldsTree shape pages page_of_stamp free tree) where
  abbrev g : Graph
  g = graph shape pages

  abbrev b : ℕ → List ℕ
  b = bytes_for page_of_stamp

  abbrev once-here : NamedOnce g
  once-here = once shape pages page_of_stamp holds.right

  fits : Fits shape tree
  fits = tree-fits shape pages page_of_stamp free tree holds

  order : IsInOrder tree
  order = holds.represents.is_tree.in_order

  there-used : (path : Path) (n : ℕ) → node_reached g 0 path ≡ Some n → (x : Node) × (node_of b (g n).body ≡ Some x)
  there-used path n e =
      let some = (bounds-here shape pages page_of_stamp free tree holds).some_nodes in
      let r = reached_is_node shape pages holds.right.tree.entries holds.right.tree.nodes path n (omega (arith, some)) e in
      let x = node_here shape pages page_of_stamp holds.right n in
      (x.0, x.1 r.rec r.is)

  stands : GraphRepresents b g tree
  stands = record {
    represents = holds.represents.depicts;
    root = holds.represents.is_tree.root;
    once = once-here;
    used = λ path n e. let x = there-used path n e in subst IsSome (sym x.1) tt-is;
  }
    where
      tt-is : IsSome {T = Node} (Some directory)
      tt-is = refl

  at-node : (path : Path) (n : ℕ) → node_reached g 0 path ≡ Some n → (x : Node) × (node_at tree path ≡ Some x)
  at-node path n e = let x = there-used path n e in (x.0, holds.represents.depicts path ∙ ap (option_and_then (λ k. node_of b (g k).body)) e ∙ x.1)

  at-none : (path : Path) → node_reached g 0 path ≡ None → node_at tree path ≡ None
  at-none path e = holds.represents.depicts path ∙ ap (option_and_then (λ k. node_of b (g k).body)) e

  is-there : (path : Path) (n : ℕ) → node_reached g 0 path ≡ Some n → IsSome (node_at tree path)
  is-there path n e = ap is_some (at-node path n e).1

  -- under what has no such entry nothing stands
  none-below : (path : Path) (y : List ℕ) (o : Option ℕ) → node_reached g 0 path ≡ o → ((k : ℕ) → o ≡ Some k → entry_at g k y ≡ None) → node_reached g 0 (path ++ y ∷ []) ≡ None
  none-below path y None e bare = reached_step g path y ∙ ap (option_and_then (λ k. entry_at g k y)) e
  none-below path y (Some k) e bare = at_end g path y k e ∙ bare k refl

  none-under : (path r : Path) → node_reached g 0 path ≡ None → node_reached g 0 (path ++ r) ≡ None
  none-under path r e = reached-append g 0 path r ∙ ap (option_and_then (λ k. node_reached g k r)) e

  none-deep : (path : Path) (k : ℕ) → node_reached g 0 path ≡ Some k → ((y : List ℕ) → entry_at g k y ≡ None) → (y : List ℕ) (r : Path) → node_reached g 0 (path ++ y ∷ r) ≡ None
  unfolding node_reached
  none-deep path k e bare y r = reached-append g 0 path (y ∷ r) ∙ ap (option_and_then (λ k. node_reached g k (y ∷ r))) e ∙ ap (option_and_then (λ m. node_reached g m r)) (bare y)

  at-name : (path : Path) (n : ℕ) (name : List ℕ) (at : NameIn g path n name) → node_reached g 0 path ≡ entry_at g n name
  at-name path n name at = ap (node_reached g 0) at.split ∙ at_end g at.parent name n at.leads

  count : (path : Path) (n : ℕ) → node_reached g 0 path ≡ Some n → length (entries_of tree path) ≡ length (entries_in (g n).body)
  count path n e = count-at shape pages page_of_stamp free tree holds path n e

  few : (path : Path) (n : ℕ) → node_reached g 0 path ≡ Some n → length (entries_of tree path) ≤ 1024
  few path n e = few-at shape pages page_of_stamp free tree holds path n e

  abbrev IsStepHere : Graph → Call → Change → Type 0
  IsStepHere new call answer = IsStep shape b new tree call answer

  -- ---- a node made

  module _ (new : Graph) (path : Path) (node : Node) (call : Call) (no_data : data_of_node node ≡ 0) (no_ranges : ranges_of_node node ≡ 0)
      (before : refusal_before tree call ≡ refusal_of_name g path) (is : with_new tree path node ≡ (effect_of tree call).tree) (reply : (effect_of tree call).reply ≡ Done) where
    absent : refusal_of_name g path ≡ None → node_reached g 0 path ≡ None
    absent e = not-some (node_reached g 0 path) (last-of-four (when (is_too_long path) Enametoolong) (when (is_root path) Eexist) (walk_refusal g 0 path) (is_some (node_reached g 0 path)) Eexist e)

    can-add : refusal_of_name g path ≡ None → (n : ℕ) (name : List ℕ) (at : NameIn g path n name) → CanAdd tree path at.parent name node
    can-add e n name at = record {
      in_order = order;
      absent = at-none path (absent e);
      path_is = at.split;
      parent_there = is-there at.parent n at.leads;
      bare = λ y. at-none (path ++ y ∷ []) (none-below path y None (absent e) (λ k s. absurd (none_some k s)));
      no_data = no_data;
      no_ranges = no_ranges;
    }

    full-space : (e : refusal_of_name g path ≡ None) (n : ℕ) (name : List ℕ) (at : NameIn g path n name) (sp : Space) → IsFull free (length (entries_in (g n).body)) sp → Some (Enospc sp) ≡ space_refusal shape (with_new tree path node)
    full-space e n name at space.Dir f = add-full shape tree path at.parent name node (can-add e n name at) fits (count at.parent n at.leads ∙ f)
    full-space e n name at space.Nodes f =
        add-nodes shape tree path at.parent name node (can-add e n name at) fits (let c = count at.parent n at.leads in let h = f.0 in omega (arith, c, h)) (all-nodes shape pages page_of_stamp free tree holds f.1)
    full-space e n name at space.Meta f =
        add-meta shape tree path at.parent name node (can-add e n name at) fits (let c = count at.parent n at.leads in let h = f.0 in omega (arith, c, h)) (some-nodes shape pages page_of_stamp free tree holds f.1.0 f.1.1)
        (ap (λ (k : ℕ). k % 64) (count at.parent n at.leads) ∙ f.2) (all-meta shape pages page_of_stamp free tree holds f.3)
    full-space e n name at space.Pages f = absurd f

    made : (answer : Change) → MakesNode free g new path node answer → IsStepHere new call answer
    made (change.Changed lost) m =
        let p = m.2.2 in
        let c = count p.place.parent p.n p.place.leads in
        done shape b new tree (with_new tree path node) call lost (before ∙ m.0) is reply
        (add-fits shape tree path p.place.parent p.name node (can-add m.0 p.n p.name p.place) fits (let h = p.spare.few in omega (arith, c, h)) (some-nodes shape pages page_of_stamp free tree holds m.2.0 p.spare.least)
        (λ e. some-meta shape pages page_of_stamp free tree holds (p.spare.address (ap (λ (k : ℕ). k % 64) (sym c) ∙ e))))
        (makes_in_tree b free g new tree path node (change.Changed lost) stands m).1
    made (change.No r) (inl e) = refused shape b new tree call r (before ∙ e)
    made (change.No r) (inr m) =
        subst (λ (x : Refusal). IsStepHere new call (change.No x)) (sym m.1.is_space)
        (lacking shape b new tree (with_new tree path node) call (Enospc m.1.space) (before ∙ m.0) is (full-space m.0 m.1.n m.1.name m.1.place m.1.space m.1.full))
    made change.Fault m = tt
    made (change.Lost w f) m = tt

  -- ---- a node without its name

  can-drop : (path : Path) (n m : ℕ) (name : List ℕ) (at : NameIn g path n name) → entry_at g n name ≡ Some m → ((y : List ℕ) → entry_at g m y ≡ None) → (x : Node) × CanDrop tree path at.parent name x
  can-drop path n m name at was bare =
      let e = at-name path n name at ∙ was in
      let x = at-node path m e in (
        x.0,
        record {
          in_order = order;
          there = x.1;
          path_is = at.split;
          parent_there = is-there at.parent n at.leads;
          bare = λ y. at-none (path ++ y ∷ []) (none-below path y (Some m) e (λ k s. subst (λ (i : ℕ). entry_at g i y ≡ None) (some_in m k s) (bare y)));
        },
      )

  dropped : (path : Path) (m : ℕ) (new : Graph) → LosesName g new path m → None ≡ space_refusal shape (without tree path)
  dropped path m new l =
      let r = l.removes b in
      let c = can-drop path l.n m l.name l.place r.was r.was_childless in
      fits-room shape (without tree path) (drop-fits shape tree path l.place.parent l.name c.0 c.1 fits (few l.place.parent l.n l.place.leads))

  -- ---- a name moved

  module _ (new : Graph) (from to : Path) where
    found-from : refusal_of_rename g from to ≡ None → (m : ℕ) × (node_reached g 0 from ≡ Some m)
    found-from e = not-none (node_reached g 0 from) (fourth-of-five (when (is_too_long from || is_too_long to) Enametoolong) (when (is_root from || is_root to) Einval) (walk_refusal g 0 from) (cond (paths_eq from to) None (refusal_of_place g from to)) (is_none (node_reached g 0 from)) Enoent e)

    -- nothing stands at the new path
    can-move : refusal_of_rename g from to ≡ None → node_reached g 0 to ≡ None → is_at_or_under from to ≡ false → (n l : ℕ) (name name_to : List ℕ) (at : NameIn g from n name) (at_to : NameIn g to l name_to) → CanMove tree from to
    can-move e none apart n l name name_to at at_to =
        let m = found-from e in
        let x = at-node from m.0 m.1 in
        record {
          in_order = order;
          node = x.0;
          there = x.1;
          free = λ r. at-none (to ++ r) (none-under to r none);
          apart = apart;
          n = at.parent;
          l = at_to.parent;
          name = name;
          name_to = name_to;
          split = at.split;
          split_to = at_to.split;
          n_there = is-there at.parent n at.leads;
          l_there = is-there at_to.parent l at_to.leads;
        }

    -- a path for each node
    one-parent : (n l : ℕ) (p q : Path) → node_reached g 0 p ≡ Some n → node_reached g 0 q ≡ Some l → n ≡ l → p ≡ q
    one-parent n l p q a c e = one_path_to g once-here l p q (a ∙ ap (λ (k : ℕ). Some k) e) c

    one-node : (n l : ℕ) (p q : Path) → node_reached g 0 p ≡ Some n → node_reached g 0 q ≡ Some l → p ≡ q → n ≡ l
    one-node n l p q a c e = some_in n l (sym a ∙ ap (node_reached g 0) e ∙ c)

    same-or-not : (p q : Path) → (p ≡ q) ⊎ (p ≢ q)
    same-or-not p q = by (paths_eq p q) refl
      where
        by : (t : Bool) → paths_eq p q ≡ t → (p ≡ q) ⊎ (p ≢ q)
        by true e = inl (eq_path p q e)
        by false e = inr (λ s. false-true (sym e ∙ path_eq p q s))

    moved-free : refusal_of_rename g from to ≡ None → node_reached g 0 to ≡ None → is_at_or_under from to ≡ false → HasRoomForMove free g from to → Fits shape (with_renamed tree from to)
    unfolding can-move
    moved-free e none apart h = by (same-or-not h.place.parent h.place_to.parent)
      where
        can : CanMove tree from to
        can = can-move e none apart h.n h.l h.name h.name_to h.place h.place_to

        room : CanTake free h.n (length (entries_in (g h.n).body)) h.l (length (entries_in (g h.l).body))
        room = h.room (sym (at-name to h.l h.name_to h.place_to) ∙ none)

        a-is : length (entries_of tree h.place.parent) ≡ length (entries_in (g h.n).body)
        a-is = count h.place.parent h.n h.place.leads

        b-is : length (entries_of tree h.place_to.parent) ≡ length (entries_in (g h.l).body)
        b-is = count h.place_to.parent h.l h.place_to.leads

        -- an address is free, or the other directory gives one up
        page : HasFreeAddress free ⊎ (length (entries_in (g h.n).body) % 64 ≡ 1) → (meta_charge tree < shape.meta) ⊎ (length (entries_of tree h.place.parent) % 64 ≡ 1)
        page (inl a) = inl (some-meta shape pages page_of_stamp free tree holds a)
        page (inr s) = inr (ap (λ (k : ℕ). k % 64) a-is ∙ s)

        across : h.place.parent ≢ h.place_to.parent → CanTake free h.n (length (entries_in (g h.n).body)) h.l (length (entries_in (g h.l).body)) → Fits shape (with_renamed tree from to)
        across far (inl s) = absurd (far (one-parent h.n h.l h.place.parent h.place_to.parent h.place.leads h.place_to.leads s))
        across far (inr r) =
            across-fits shape tree from to can fits far (few h.place.parent h.n h.place.leads) (let c = b-is in let k = r.0 in omega (arith, c, k))
            (λ s. page (r.1 (ap (λ (k : ℕ). k % 64) (sym b-is) ∙ s)))

        by : (h.place.parent ≡ h.place_to.parent) ⊎ (h.place.parent ≢ h.place_to.parent) → Fits shape (with_renamed tree from to)
        by (inl s) = within-fits shape tree from to can fits s
        by (inr far) = across far room

    -- a file or an empty directory stands there
    module _ (e : refusal_of_rename g from to ≡ None) (other : paths_eq from to ≡ false) (gone : Option ℕ) (mv : MovesName g new from to gone) (k : ℕ) (there : node_reached g 0 to ≡ Some k) where
      stood : entry_at g mv.l mv.name_to ≡ Some k
      stood = sym (at-name to mv.l mv.name_to mv.place_to) ∙ there

      bare : (y : List ℕ) → entry_at g k y ≡ None
      bare y = (mv.moves b).over_childless k y stood

      lost : (x : Node) × CanDrop tree to mv.place_to.parent mv.name_to x
      lost = can-drop to mv.l k mv.name_to mv.place_to stood bare

      few-to : length (entries_of tree mv.place_to.parent) ≤ 1024
      few-to = few mv.place_to.parent mv.l mv.place_to.leads

      tree1 : Tree
      tree1 = without tree to

      order1 : IsInOrder tree1
      unfolding tree1
      order1 = drop-order shape tree to mv.place_to.parent mv.name_to lost.0 lost.1 fits

      fits1 : Fits shape tree1
      unfolding tree1
      fits1 = drop-fits shape tree to mv.place_to.parent mv.name_to lost.0 lost.1 fits few-to

      stays1 : (p : Path) → paths_eq to p ≡ false → node_at tree1 p ≡ node_at tree p
      unfolding tree1
      stays1 p far = tree_laws.at_without tree to p ∙ ap (λ c. cond (not c) (node_at tree p) None) far

      gone1 : (r : Path) → node_at tree1 (to ++ r) ≡ None
      unfolding tree1
      gone1 [] = tree_laws.at_without tree to (to ++ []) ∙ ap (λ c. cond (not c) (node_at tree (to ++ [])) None) (path_eq to (to ++ []) (sym (append-nil to)))
      gone1 (y ∷ r) = tree_laws.at_without tree to (to ++ y ∷ r) ∙ ap (λ (o : Option Node). cond (not (paths_eq to (to ++ y ∷ r))) o None) (at-none (to ++ y ∷ r) (none-deep to k there bare y r)) ∙ nothing (not (paths_eq to (to ++ y ∷ r)))
        where
          nothing : (c : Bool) → cond {A = Option Node} c None None ≡ None
          nothing true = refl
          nothing false = refl

      not-to-from : paths_eq to from ≡ false
      not-to-from = not_true _ (λ t. sym other ∙ path_eq from to (sym (eq_path to from t)))

      not-to-l : paths_eq to mv.place_to.parent ≡ false
      not-to-l = not_true _ (λ t. absurd (longer mv.place_to.parent (sym (eq_path to mv.place_to.parent t) ∙ mv.place_to.split)))
        where
          longer : (p : Path) → p ≡ p ++ mv.name_to ∷ [] → ⊥
          longer p e = let a = ap (λ (z : Path). length z) e in let c = length-append p (mv.name_to ∷ []) in omega (arith, a, c)

      -- nothing is named in what stands there
      not-to-n : paths_eq to mv.place.parent ≡ false
      not-to-n = not_true _ (λ t. absurd (none_some mv.m (sym (bare mv.name) ∙ ap (λ (i : ℕ). entry_at g i mv.name) (some_in k mv.n (sym there ∙ ap (node_reached g 0) (eq_path to mv.place.parent t) ∙ mv.place.leads)) ∙ (mv.moves b).was)))

      can1 : CanMove tree1 from to
      can1 =
          let m = found-from e in
          let x = at-node from m.0 m.1 in
          record {
            in_order = order1;
            node = x.0;
            there = stays1 from not-to-from ∙ x.1;
            free = gone1;
            apart = mv.apart;
            n = mv.place.parent;
            l = mv.place_to.parent;
            name = mv.name;
            name_to = mv.name_to;
            split = mv.place.split;
            split_to = mv.place_to.split;
            n_there = subst IsSome (sym (stays1 mv.place.parent not-to-n)) (is-there mv.place.parent mv.n mv.place.leads);
            l_there = subst IsSome (sym (stays1 mv.place_to.parent not-to-l)) (is-there mv.place_to.parent mv.l mv.place_to.leads);
          }

      same-after : with_renamed tree1 from to ≡ with_renamed tree from to
      unfolding tree1
      same-after =
          tree_laws.same_tree (with_renamed tree1 from to) (with_renamed tree from to) (tree_laws.order_renamed tree1 from to order1) (tree_laws.order_renamed tree from to order)
          (λ q. tree_laws.at_renamed tree1 from to q ∙ same q ∙ sym (tree_laws.at_renamed tree from to q))
        where
          off : (r : Path) → paths_eq to (from ++ r) ≡ false
          off r = not_true _ (λ t. sym mv.apart ∙ ap (is_at_or_under from) (eq_path to (from ++ r) t) ∙ under_append from r)

          stays : (q : Path) (a : Bool) → cond (a && not (paths_eq to q)) (node_at tree1 q) None ≡ cond (a && not (paths_eq to q)) (node_at tree q) None
          stays q a = by a (paths_eq to q) refl
            where
              by : (a t : Bool) → paths_eq to q ≡ t → cond (a && not t) (node_at tree1 q) None ≡ cond (a && not t) (node_at tree q) None
              by false t e = refl
              by true true e = refl
              by true false e = stays1 q e

          same : (q : Path) → or_else (cond (is_at_or_under to q) (node_at tree1 (from ++ drop (length to) q)) None) (cond (not (is_at_or_under from q) && not (paths_eq to q)) (node_at tree1 q) None)
              ≡ or_else (cond (is_at_or_under to q) (node_at tree (from ++ drop (length to) q)) None) (cond (not (is_at_or_under from q) && not (paths_eq to q)) (node_at tree q) None)
          same q = λ i. or_else (cond (is_at_or_under to q) (stays1 (from ++ drop (length to) q) (off (drop (length to) q)) i) None) (stays q (not (is_at_or_under from q)) i)

      moved1 : Fits shape (with_renamed tree1 from to)
      unfolding tree1 can1
      moved1 = by (same-or-not mv.place.parent mv.place_to.parent)
        where
          few-n : mv.place.parent ≢ mv.place_to.parent → length (entries_of tree1 mv.place.parent) ≤ 1024
          few-n far =
              let s = drop-other shape tree to mv.place_to.parent mv.name_to lost.0 lost.1 fits mv.place.parent (not_true _ (λ t. absurd (far (sym (eq_path mv.place_to.parent mv.place.parent t))))) in
              let f = few mv.place.parent mv.n mv.place.leads in
              omega (arith, s, f)

          less : length (entries_of tree mv.place_to.parent) ≡ length (entries_of tree1 mv.place_to.parent) + 1
          less = drop-count shape tree to mv.place_to.parent mv.name_to lost.0 lost.1 fits

          given : length (entries_of tree1 mv.place_to.parent) % 64 ≡ 0 → meta_charge tree1 < shape.meta
          given full =
              let m = drop-meta shape tree to mv.place_to.parent mv.name_to lost.0 lost.1 fits in
              let p = pages-full (length (entries_of tree1 mv.place_to.parent)) full in
              let s = less in
              let f = fits.meta in
              omega (arith, m, p, s, f)

          by : (mv.place.parent ≡ mv.place_to.parent) ⊎ (mv.place.parent ≢ mv.place_to.parent) → Fits shape (with_renamed tree1 from to)
          by (inl s) = within-fits shape tree1 from to can1 fits1 s
          by (inr far) = across-fits shape tree1 from to can1 fits1 far (few-n far) (let s = less in let f = few-to in omega (arith, s, f)) (λ full. inl (given full))

      pub moved-over : Fits shape (with_renamed tree from to)
      moved-over = subst (Fits shape) same-after moved1

    moved-fits : refusal_of_rename g from to ≡ None → (gone : Option ℕ) → paths_eq from to ≡ false → MovesName g new from to gone → HasRoomForMove free g from to → Fits shape (with_renamed tree from to)
    moved-fits e gone other mv h = by (node_reached g 0 to) refl
      where
        by : (o : Option ℕ) → node_reached g 0 to ≡ o → Fits shape (with_renamed tree from to)
        by None none = moved-free e none mv.apart h
        by (Some k) there = moved-over e other gone mv k there

    abbrev after : Tree
    after = cond (paths_eq from to) tree (with_renamed tree from to)

    renamed-room : refusal_of_rename g from to ≡ None → (gone : Option ℕ) → MovesOrStays g new from to gone → (paths_eq from to ≡ false → HasRoomForMove free g from to) → None ≡ space_refusal shape after
    renamed-room e gone m h = by (paths_eq from to) refl m
      where
        by : (t : Bool) → paths_eq from to ≡ t → MatchBool t ((gone ≡ None) × (new ≡ g)) (MovesName g new from to gone) → None ≡ space_refusal shape (cond t tree (with_renamed tree from to))
        by true t m = fits-room shape tree fits
        by false t m = fits-room shape (with_renamed tree from to) (moved-fits e gone t m (h t))

    lacks-space : (r : Refusal) → refusal_of_rename g from to ≡ None → (l : LacksRoomForMove free g from to r) → Some (Enospc l.space) ≡ space_refusal shape after
    unfolding can-move
    lacks-space r e l = by l.space l.full ∙ ap (λ (t : Bool). space_refusal shape (cond t tree (with_renamed tree from to))) (sym other)
      where
        none : node_reached g 0 to ≡ None
        none = at-name to l.l l.name_to l.place_to ∙ l.absent

        other : paths_eq from to ≡ false
        other = not_true _ (λ t. absurd (none_some (found-from e).0 (sym none ∙ sym (ap (node_reached g 0) (eq_path from to t)) ∙ (found-from e).1)))

        can : CanMove tree from to
        can = can-move e none l.apart l.n l.l l.name l.name_to l.place l.place_to

        far : l.place.parent ≢ l.place_to.parent
        far s = l.other (one-node l.n l.l l.place.parent l.place_to.parent l.place.leads l.place_to.leads s)

        a-is : length (entries_of tree l.place.parent) ≡ length (entries_in (g l.n).body)
        a-is = count l.place.parent l.n l.place.leads

        b-is : length (entries_of tree l.place_to.parent) ≡ length (entries_in (g l.l).body)
        b-is = count l.place_to.parent l.l l.place_to.leads

        by : (sp : Space) → CannotTake free (length (entries_in (g l.n).body)) (length (entries_in (g l.l).body)) sp → Some (Enospc sp) ≡ space_refusal shape (with_renamed tree from to)
        by space.Dir f = across-full shape tree from to can fits far (few l.place.parent l.n l.place.leads) (b-is ∙ f)
        by space.Nodes f = absurd f
        by space.Meta f =
            across-meta shape tree from to can fits far (few l.place.parent l.n l.place.leads) (let c = b-is in let h = f.0 in omega (arith, c, h)) (ap (λ (k : ℕ). k % 64) b-is ∙ f.1)
            (λ s. f.2 (ap (λ (k : ℕ). k % 64) (sym a-is) ∙ s)) (all-meta shape pages page_of_stamp free tree holds f.3)
        by space.Pages f = absurd f

-- ---- the calls

pub changes_in_tree : ChangesInTree
unfolding effect_of own_refusal
changes_in_tree shape pages page_of_stamp free new tree (Mkdir path) answer holds m =
    made shape pages page_of_stamp free tree holds new path directory (Mkdir path) refl refl
    (one (is_too_long path) (own_refusal tree (Mkdir path)) ∙ making-same (bytes_for page_of_stamp) (graph shape pages) tree (stands shape pages page_of_stamp free tree holds) path) refl refl answer m
changes_in_tree shape pages page_of_stamp free new tree (Create path) answer holds m =
    made shape pages page_of_stamp free tree holds new path (file empty_file) (Create path) refl refl
    (one (is_too_long path) (own_refusal tree (Create path)) ∙ making-same (bytes_for page_of_stamp) (graph shape pages) tree (stands shape pages page_of_stamp free tree holds) path) refl refl answer m
changes_in_tree shape pages page_of_stamp free new tree (Rmdir path) (change.Changed lost) holds m =
    let s = stands shape pages page_of_stamp free tree holds in
    done shape (bytes_for page_of_stamp) new tree (without tree path) (Rmdir path) lost
    (one (is_too_long path) (own_refusal tree (Rmdir path)) ∙ rmdirs_in_tree (bytes_for page_of_stamp) (graph shape pages) new tree path (change.Changed lost) s m) refl refl
    (dropped shape pages page_of_stamp free tree holds path m.1.0 new m.1.2) (removes_in_tree (bytes_for page_of_stamp) Dir (graph shape pages) new tree path (change.Changed lost) s m)
changes_in_tree shape pages page_of_stamp free new tree (Rmdir path) (change.No r) holds m =
    refused shape (bytes_for page_of_stamp) new tree (Rmdir path) r
    (one (is_too_long path) (own_refusal tree (Rmdir path)) ∙ rmdirs_in_tree (bytes_for page_of_stamp) (graph shape pages) new tree path (change.No r) (stands shape pages page_of_stamp free tree holds) m)
changes_in_tree shape pages page_of_stamp free new tree (Rmdir path) change.Fault holds m = tt
changes_in_tree shape pages page_of_stamp free new tree (Rmdir path) (change.Lost w f) holds m = tt
changes_in_tree shape pages page_of_stamp free new tree (Unlink path) (change.Changed lost) holds m =
    let s = stands shape pages page_of_stamp free tree holds in
    done shape (bytes_for page_of_stamp) new tree (without tree path) (Unlink path) lost
    (one (is_too_long path) (own_refusal tree (Unlink path)) ∙ unlinks_in_tree (bytes_for page_of_stamp) (graph shape pages) new tree path (change.Changed lost) s m) refl refl
    (dropped shape pages page_of_stamp free tree holds path m.1.0 new m.1.2) (removes_in_tree (bytes_for page_of_stamp) File (graph shape pages) new tree path (change.Changed lost) s m)
changes_in_tree shape pages page_of_stamp free new tree (Unlink path) (change.No r) holds m =
    refused shape (bytes_for page_of_stamp) new tree (Unlink path) r
    (one (is_too_long path) (own_refusal tree (Unlink path)) ∙ unlinks_in_tree (bytes_for page_of_stamp) (graph shape pages) new tree path (change.No r) (stands shape pages page_of_stamp free tree holds) m)
changes_in_tree shape pages page_of_stamp free new tree (Unlink path) change.Fault holds m = tt
changes_in_tree shape pages page_of_stamp free new tree (Unlink path) (change.Lost w f) holds m = tt
changes_in_tree shape pages page_of_stamp free new tree (Rename from to) (change.Changed gone) holds m =
    let r = renames_in_tree (bytes_for page_of_stamp) free (graph shape pages) new tree from to (change.Changed gone) (stands shape pages page_of_stamp free tree holds) m in
    done shape (bytes_for page_of_stamp) new tree _ (Rename from to) gone r.0 refl refl (renamed-room shape pages page_of_stamp free tree holds new from to m.0 gone m.1 m.2) r.1
changes_in_tree shape pages page_of_stamp free new tree (Rename from to) (change.No r) holds (inl e) =
    refused shape (bytes_for page_of_stamp) new tree (Rename from to) r (rename-same (bytes_for page_of_stamp) (graph shape pages) tree (stands shape pages page_of_stamp free tree holds) from to ∙ e)
changes_in_tree shape pages page_of_stamp free new tree (Rename from to) (change.No r) holds (inr m) =
    subst (λ (x : Refusal). IsStep shape (bytes_for page_of_stamp) new tree (Rename from to) (change.No x)) (sym m.1.is_space)
    (lacking shape (bytes_for page_of_stamp) new tree _ (Rename from to) (Enospc m.1.space)
    (rename-same (bytes_for page_of_stamp) (graph shape pages) tree (stands shape pages page_of_stamp free tree holds) from to ∙ m.0) refl (lacks-space shape pages page_of_stamp free tree holds new from to r m.0 m.1))
changes_in_tree shape pages page_of_stamp free new tree (Rename from to) change.Fault holds m = tt
changes_in_tree shape pages page_of_stamp free new tree (Rename from to) (change.Lost w f) holds m = tt
changes_in_tree shape pages page_of_stamp free new tree (Write path at bytes) answer holds m = absurd m
changes_in_tree shape pages page_of_stamp free new tree (Fill path at len byte) answer holds m = absurd m
changes_in_tree shape pages page_of_stamp free new tree (Read path at len) answer holds m = absurd m
changes_in_tree shape pages page_of_stamp free new tree (Truncate path size) answer holds m = absurd m
changes_in_tree shape pages page_of_stamp free new tree (Stat path) answer holds m = absurd m
changes_in_tree shape pages page_of_stamp free new tree (ListCall path) answer holds m = absurd m
changes_in_tree shape pages page_of_stamp free new tree Sync answer holds m = absurd m
changes_in_tree shape pages page_of_stamp free new tree Clean answer holds m = absurd m
