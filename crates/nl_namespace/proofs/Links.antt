-- From the nodes as a graph to what is right about the entries of a volume, and back.
use Rattle.std.proofs.Common.{◌≡◌, ◌≢◌, ℕ, ◌<◌, Bool, true, false, cond, List, [], ◌∷◌, refl, sym, ap, subst, ◌∙◌, Option, Some, None, option_map, option_and_then, bytes_eq, nat_lt}
use Rattle.std.proofs.lemmas.Bool.{ltb-true}
use Rattle.std.specs.Prelude.{find}
use Rattle.nl_field.specs.Graph.{Graph}
use Rattle.nl_field.specs.Members.{Has}
use Rattle.nl_field.specs.declared.entry.EntryRec.{EntryRec}
use Rattle.nl_field.specs.declared.inode.InodeRec.{InodeRec}
use Rattle.nl_field.specs.declared.inode.Kind.{Kind}
use Rattle.nl_field.specs.declared.inode.Kind.TheVariants.{Dir, File, Unused}
use Rattle.nl_field.specs.declared.shape.Shape.{Shape}
use Rattle.nl_meta.specs.Committed.{VirtualMap}
use Rattle.nl_meta.specs.Consistent.{IsNode}
use Rattle.nl_meta.specs.Nodes.{body_of, entries_of_inode, entry_named, graph_of, inode_at, node_from}
use Rattle.nl_meta.proofs.Lists.{member-find, none_some, some_in}
use Rattle.nl_dir.specs.Directory.{IsDirectory}
use Rattle.nl_dir.specs.ListLaws.{Lists, ListsRight, ReachedByLists}
use Rattle.nl_dir.proofs.LawProofs.{entries_in_order}
use Rattle.nl_dir.proofs.EntryLists.{named-same}
use Rattle.nl_tree.specs.GraphLaws.{NamedOnce, entry_at}
use Rattle.nl_tree.specs.Represents.{entries_in, node_named, node_reached}
use Rattle.nl_namespace.proofs.DirectorySteps.{dir-entry}
use Rattle.nl_namespace.proofs.States.{AllGood}

-- a chain of entries leads from node 0 to the node
pub data Led (graph : Graph) : ℕ → Type 0 where
  at_root : Led graph 0
  by_entry : (d m : ℕ) (x : List ℕ) → entry_at graph d x ≡ Some m → Led graph d → Led graph m

-- a path that leads to a node is such a chain
pub led-by-path : (graph : Graph) (path : List (List ℕ)) (n m : ℕ) → Led graph n → node_reached graph n path ≡ Some m → Led graph m
unfolding node_reached
led-by-path graph [] n m led e = subst (Led graph) (some_in n m e) led
led-by-path graph (x ∷ path) n m led e = by (entry_at graph n x) refl e (λ k l f. led-by-path graph path k m l f)
  where
    by : (o : Option ℕ) → entry_at graph n x ≡ o → option_and_then (λ k. node_reached graph k path) o ≡ Some m → ((k : ℕ) → Led graph k → node_reached graph k path ≡ Some m → Led graph m) → Led graph m
    by None at e rest = absurd (none_some m e)
    by (Some k) at e rest = rest k (Led.by_entry n k x at led) e

option-map-some : {X Y : Type 0} (f : X → Y) (o : Option X) (y : Y) → option_map f o ≡ Some y → (x : X) × (o ≡ Some x) × (f x ≡ y)
option-map-some f None y e = absurd (none_some y e)
option-map-some f (Some x) y e = (x, refl, some_in _ _ e)

dir-used : (k : Kind) → k ≡ Dir → k ≢ Unused
dir-used k e u = cc

-- what a list has under a name
named-has : (es : List EntryRec) (x : List ℕ) (e : EntryRec) → find (λ e. bytes_eq e.name x) es ≡ Some e → Has es e × (e.name ≡ x)
named-has es x e f = let m = member-find (λ (e : EntryRec). bytes_eq e.name x) es e f in (m.0, named-same x e m.1)

module _ (shape : Shape) (pages : VirtualMap) where
  -- what a node has under a name is an entry that its directory lists
  pub entry-listed : (k m : ℕ) (x : List ℕ) → entry_at (graph_of shape pages) k x ≡ Some m → (e : EntryRec) × Lists shape pages k e × (e.name ≡ x) × (e.ino ≡ m)
  unfolding graph_of entry_named
  entry-listed k m x at = below (nat_lt k shape.nodes) refl
    where
      of_kind : (rec : InodeRec) → k < shape.nodes → inode_at pages k ≡ Some rec → (kind : Kind) → rec.kind ≡ kind → node_named x (entries_in (body_of pages rec kind)) ≡ Some m
          → (e : EntryRec) × Lists shape pages k e × (e.name ≡ x) × (e.ino ≡ m)
      of_kind rec h is Unused e f = absurd (none_some m f)
      of_kind rec h is File e f = absurd (none_some m f)
      of_kind rec h is Dir e f =
          let node : IsNode shape pages k rec = record { below = h; spelled = is; used = dir-used rec.kind e } in
          let found = option-map-some (λ (e : EntryRec). e.ino) (entry_named pages rec x) m (sym (dir-entry shape pages k rec node e x) ∙ at) in
          let has = named-has (entries_of_inode pages rec) x found.0 found.1 in
          (found.0, record { rec = rec; is_node = node; is_dir = e; has = has.0 }, has.1, found.2)

      of_inode : k < shape.nodes → (o : Option InodeRec) → inode_at pages k ≡ o → node_named x (entries_in (node_from pages o).body) ≡ Some m → (e : EntryRec) × Lists shape pages k e × (e.name ≡ x) × (e.ino ≡ m)
      of_inode h None is f = absurd (none_some m f)
      of_inode h (Some rec) is f = of_kind rec h is rec.kind refl f

      below : (b : Bool) → nat_lt k shape.nodes ≡ b → (e : EntryRec) × Lists shape pages k e × (e.name ≡ x) × (e.ino ≡ m)
      below false e = absurd (none_some m (sym (ap (λ b. node_named x (entries_in (node_from pages (cond b (inode_at pages k) None)).body)) e) ∙ at))
      below true e = of_inode (ltb-true k shape.nodes e) (inode_at pages k) refl (sym (ap (λ b. node_named x (entries_in (node_from pages (cond b (inode_at pages k) None)).body)) e) ∙ at)

  module _ (directories : (d : ℕ) (rec : InodeRec) → IsNode shape pages d rec → rec.kind ≡ Dir → IsDirectory pages rec) where
    -- an entry that a directory lists is what it has under the name
    pub listed-entry : (k : ℕ) (e : EntryRec) → Lists shape pages k e → entry_at (graph_of shape pages) k e.name ≡ Some e.ino
    listed-entry k e l =
        dir-entry shape pages k l.rec l.is_node l.is_dir e.name
        ∙ ap (option_map (λ (e : EntryRec). e.ino)) (((entries_in_order pages l.rec (directories k l.rec l.is_node l.is_dir)).by_name e).0 l.has)

    one-listed : (k : ℕ) (e f : EntryRec) → Lists shape pages k e → Lists shape pages k f → e.name ≡ f.name → e ≡ f
    one-listed k e f l m same =
        let rec-same = some_in m.rec l.rec (sym m.is_node.spelled ∙ l.is_node.spelled) in
        let order = entries_in_order pages l.rec (directories k l.rec l.is_node l.is_dir) in
        let has = subst (λ (r : InodeRec). Has (entries_of_inode pages r) f) rec-same m.has in
        some_in e f (sym ((order.by_name e).0 l.has) ∙ ap (entry_named pages l.rec) same ∙ (order.by_name f).0 has)

    module _ (good : AllGood shape pages) where
      reached : (n : ℕ) → Led (graph_of shape pages) n → ReachedByLists shape pages n
      reached n Led.at_root = ReachedByLists.at_root
      reached n (Led.by_entry d m x at led) = let l = entry-listed d n x at in subst (ReachedByLists shape pages) l.3 (ReachedByLists.by_entry d l.0 l.1 (reached d led))

      -- Where nodes are named once, and each is led to, entries are right.
      pub lists-of-graph : NamedOnce (graph_of shape pages) → ((n : ℕ) (rec : InodeRec) → IsNode shape pages n rec → Led (graph_of shape pages) n) → ListsRight shape pages
      lists-of-graph once led = record {
        directories = directories;
        good = good;
        named = λ n rec is far. named n rec is far (led n rec is);
        one_name = one;
        reached = λ n rec is. reached n (led n rec is);
      }
        where
          named : (n : ℕ) (rec : InodeRec) → IsNode shape pages n rec → n ≢ 0 → Led (graph_of shape pages) n → (d : ℕ) × (e : EntryRec) × Lists shape pages d e × (e.ino ≡ n) × (e.generation ≡ rec.generation)
          named n rec is far Led.at_root = absurd (far refl)
          named n rec is far (Led.by_entry d m x at led) =
              let l = entry-listed d n x at in
              let g = good d l.0 l.1 in
              let same = some_in g.target rec (sym g.is_node.spelled ∙ ap (inode_at pages) l.3 ∙ is.spelled) in
              (d, l.0, l.1, l.3, sym g.generation ∙ ap (λ (r : InodeRec). r.generation) same)

          one : (d d' : ℕ) (e e' : EntryRec) → Lists shape pages d e → Lists shape pages d' e' → e.ino ≡ e'.ino → (d ≡ d') × (e ≡ e')
          one d d' e e' l l' same =
              let o = once.once d d' e'.ino e.name e'.name (listed-entry d e l ∙ ap (λ (k : ℕ). Some k) same) (listed-entry d' e' l') in
              (o.0, one-listed d' e e' (subst (λ (k : ℕ). Lists shape pages k e) o.0 l) l' o.1)

    -- the other way
    pub once-of-lists : ListsRight shape pages → NamedOnce (graph_of shape pages)
    once-of-lists right = record { once = once; not_root = not-root }
      where
        once : (k l n : ℕ) (x y : List ℕ) → entry_at (graph_of shape pages) k x ≡ Some n → entry_at (graph_of shape pages) l y ≡ Some n → (k ≡ l) × (x ≡ y)
        once k l n x y at at' =
            let e = entry-listed k n x at in
            let f = entry-listed l n y at' in
            let o = right.one_name k l e.0 f.0 e.1 f.1 (e.3 ∙ sym f.3) in
            (o.0, sym e.2 ∙ ap (λ (z : EntryRec). z.name) o.1 ∙ f.2)

        not-root : (k : ℕ) (x : List ℕ) → entry_at (graph_of shape pages) k x ≢ Some 0
        not-root k x at = let e = entry-listed k 0 x at in (right.good k e.0 e.1).no_root e.3

    pub led-of-lists : (n : ℕ) → ReachedByLists shape pages n → Led (graph_of shape pages) n
    led-of-lists n ReachedByLists.at_root = Led.at_root
    led-of-lists n (ReachedByLists.by_entry d e l r) = Led.by_entry d n e.name (listed-entry d e l) (led-of-lists d r)
