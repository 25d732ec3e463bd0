-- A name that is moved, in a volume that runs over a device: what stood at the new path is out, and the entry is taken out and put in.
use Rattle.std.proofs.Common.{◌≡◌, ◌≢◌, ℕ, ◌+◌, ◌≤◌, ◌<◌, true, false, List, [], ◌∷◌, ◌++◌, sym, ap, subst, ◌∙◌, Option, Some, None, option_map, is_some, IsSome, ◌⊎◌, inl, inr, arith}
use Rattle.std.proofs.lemmas.Bool.{cases_eq}
use Rattle.std.proofs.lemmas.List.{append-nil}
use Rattle.nl_field.specs.Graph.{Graph}
use Rattle.nl_field.specs.Numbers.{ShapeBounds}
use Rattle.nl_field.specs.declared.entry.EntryRec.{EntryRec}
use Rattle.nl_field.specs.declared.inode.InodeRec.{InodeRec}
use Rattle.nl_field.specs.declared.inode.Kind.TheVariants.{Dir, File}
use Rattle.nl_field.specs.declared.shape.Shape.{Shape}
use Rattle.nl_iface.specs.Device.{IsVolumeShape}
use Rattle.nl_iface.specs.declared.counts.Counts.{Ghosts}
use Rattle.nl_inode.specs.FreeLaws.{UsesAddress}
use Rattle.nl_inode.specs.Nodes.{Spaces}
use Rattle.nl_meta.specs.Committed.{VirtualMap}
use Rattle.nl_meta.specs.Consistent.{GoodEntry, IsNode}
use Rattle.nl_meta.specs.Nodes.{graph_of, held_by, inode_at}
use Rattle.nl_meta.specs.Pages.{Pages, page_of}
use Rattle.nl_meta.specs.Running.{running_over}
use Rattle.nl_meta.proofs.Lists.{none_some, some_in}
use Rattle.nl_dir.proofs.ListProofs.{entries_by_lists}
use Rattle.nl_tree.specs.GraphLaws.{NamedOnce, entry_at}
use Rattle.nl_tree.specs.Tree.{is_at_or_under}
use Rattle.nl_tree.proofs.GraphProofs.{one_path_to}
use Rattle.nl_tree.proofs.TreeProofs.{under_append}
use Rattle.nl_meta_running.specs.Running.{IsNeeded, IsNodeOf, RunningIsRight, stored_on}
use Rattle.nl_meta_running.proofs.Holds.{bounds-of, reads-none}
use Rattle.nl_namespace.specs.Changing.{Changes, EntriesBut, FileStays}
use Rattle.nl_namespace.specs.Entering.{PutsIn, TakesOut}
use Rattle.nl_namespace.specs.Finding.{renamed}
use Rattle.nl_namespace.specs.Moving.{MovesName}
use Rattle.nl_namespace.specs.Placing.{IsPlaceOfPath}
use Rattle.nl_namespace.specs.declared.place.Place.{Place}
use Rattle.nl_namespace.proofs.DirectorySteps.{dir-entry, dir-node}
use Rattle.nl_tree.specs.Represents.{node_of}
use Rattle.nl_namespace.proofs.EntrySteps.{EntryStep, put-step, taken-step}
use Rattle.nl_namespace.proofs.Links.{Led, entry-listed, lists-of-graph}
use Rattle.nl_namespace.proofs.MakeSteps.{fits-of, led, lists, once}
use Rattle.nl_namespace.proofs.MovedGraphs.{Named, childless, led-moved, led-to, moves, once-moved, unnamed}
use Rattle.nl_namespace.proofs.PutSteps.{put-state}
use Rattle.nl_namespace.proofs.PointersStay.{held-dir, tagged-same}
use Rattle.nl_namespace.proofs.RemoveSteps.{gone-before, right-without}
use Rattle.nl_namespace.proofs.States.{Follows, State, follows-then}
use Rattle.nl_namespace.proofs.TakeSteps.{take-good, take-state}
use Rattle.nl_namespace.proofs.Taking.{Gives, gives-of, takes-address, takes-after, takes-of}

-- names at two paths of which the second does not lie at or under the first
differ-by-path : (graph : Graph) → NamedOnce graph → (from to path path_to : List (List ℕ)) (n l : ℕ) (name name_to : List ℕ) → from ≡ path ++ name ∷ [] → to ≡ path_to ++ name_to ∷ [] → is_at_or_under from to ≡ false
    → path ≡ path_to → name ≢ name_to
differ-by-path graph once from to path path_to n l name name_to split split_to apart same_path same =
    false-true (sym apart ∙ ap (is_at_or_under from) (sym (append-nil from ∙ split ∙ (λ i. same_path i ++ same i ∷ []) ∙ sym split_to)) ∙ under_append from [])
  where
    false-true : false ≡ true → ⊥
    false-true e = cc

module _ {D : Type 0} (g : Ghosts D) (s : D) (p : Pages) (volume : IsVolumeShape (g.shape s)) (runs : RunningIsRight g s p) (from to : List (List ℕ)) (origin target : Place) (at : IsPlaceOfPath g s p from origin) (at_to : IsPlaceOfPath g s p to target)
    (entry : EntryRec) (stands : origin.entry ≡ Some entry) (apart : is_at_or_under from to ≡ false) where
  abbrev shape : Shape
  shape = g.shape s

  bounds : ShapeBounds shape
  bounds = bounds-of (g.shape s) volume

  abbrev device : VirtualMap
  device = stored_on g s

  abbrev n : ℕ
  n = origin.dir

  abbrev m : ℕ
  m = entry.ino

  abbrev l : ℕ
  l = target.dir

  abbrev name : List ℕ
  name = at.name

  abbrev name_to : List ℕ
  name_to = at_to.name

  abbrev over : Pages → Graph
  over q = graph_of shape (running_over device q)

  pub stood : entry_at (over p) n name ≡ Some m
  stood = dir-entry shape (running_over device p) n origin.rec at.is_node at.is_dir name ∙ ap (option_map (λ (e : EntryRec). e.ino)) (at.entry ∙ stands)

  pub stood-to : entry_at (over p) l name_to ≡ option_map (λ (e : EntryRec). e.ino) target.entry
  stood-to = dir-entry shape (running_over device p) l target.rec at_to.is_node at_to.is_dir name_to ∙ ap (option_map (λ (e : EntryRec). e.ino)) at_to.entry

  pub differ : n ≡ l → name ≢ name_to
  differ e =
      differ-by-path (over p) (once g s p runs) from to at.named.parent at_to.named.parent n l name name_to at.named.split at_to.named.split apart
      (one_path_to (over p) (once g s p runs) n at.named.parent at_to.named.parent at.named.leads (at_to.named.leads ∙ ap (λ (i : ℕ). Some i) (sym e)))

  module _ (bare : (k : ℕ) (x : List ℕ) → entry_at (over p) l name_to ≡ Some k → entry_at (over p) k x ≡ None) (p1 p2 q : Pages) (s1 s2 after : Spaces) (count : ℕ) (few : count ≤ 3) (first : EntryStep shape device l name_to None count p p1) (state1 : State shape device p1 s1)
      (good1 : GoodEntry shape (running_over device p1) entry) (takes : TakesOut n name p1 p2 s1 s2) (puts : PutsIn l (renamed entry name_to) p2 q s2 after) where
    second : EntryStep shape device n name None 3 p1 p2
    second = taken-step shape bounds device n p1 p2 s1 s2 state1 at.is_node.below name takes

    state2 : State shape device p2 s2
    state2 = take-state shape bounds device n name p1 p2 s1 s2 state1 at.is_node.below takes

    third : EntryStep shape device l name_to (Some m) 2 p2 q
    third = put-step shape bounds device l p2 q s2 after state2 at_to.is_node.below (renamed entry name_to) puts

    good2 : GoodEntry shape (running_over device p2) (renamed entry name_to)
    good2 = let g = take-good shape bounds device n name p1 p2 s1 s2 state1 at.is_node.below takes entry good1 in record { no_root = g.no_root; target = g.target; is_node = g.is_node; generation = g.generation }

    state3 : State shape device q after
    state3 = put-state shape bounds device l (renamed entry name_to) p2 q s2 after state2 at_to.is_node.below puts good2

    follows : Follows device p q (count + 3 + 2)
    follows = follows-then device p p2 q (count + 3) 2 (follows-then device p p1 p2 count 3 first.follows second.follows) third.follows

    named1 : Named (over p) (over p1) l name_to None
    named1 = record { at = first.at; elsewhere = first.elsewhere; bodies = first.bodies }

    named2 : Named (over p1) (over p2) n name None
    named2 = record { at = second.at; elsewhere = second.elsewhere; bodies = second.bodies }

    named3 : Named (over p2) (over q) l name_to (Some m)
    named3 = record { at = third.at; elsewhere = third.elsewhere; bodies = third.bodies }

    pub moved-name : MovesName (over p) (over q) from to (option_map (λ (e : EntryRec). e.ino) target.entry)
    moved-name = record {
      n = n;
      m = m;
      l = l;
      name = name;
      name_to = name_to;
      place = at.named;
      place_to = at_to.named;
      apart = apart;
      stood = sym stood-to;
      moves = moves (over p) (over p1) (over p2) (over q) n m l name name_to (once g s p runs) stood bare named1 named2 named3 differ;
    }

    once-after : NamedOnce (over q)
    once-after = once-moved (over p) (over p1) (over p2) (over q) n m l name name_to (once g s p runs) stood bare named1 named2 named3 differ

    split-apart : is_at_or_under (at.named.parent ++ name ∷ []) (at_to.named.parent ++ name_to ∷ []) ≡ false
    split-apart = (λ i. is_at_or_under (sym at.named.split i) (sym at_to.named.split i)) ∙ apart

    led-from : (k : ℕ) → (entry_at (over p) l name_to ≡ Some k → ⊥) → Led (over p) k → Led (over q) k
    led-from =
        led-moved (over p) (over p1) (over p2) (over q) n m l name name_to (once g s p runs) stood bare named1 named2 named3 differ at.named.parent at_to.named.parent at.named.leads at_to.named.leads split-apart

    led-after : (k : ℕ) (r : InodeRec) → IsNode shape (running_over device q) k r → (entry_at (over p) l name_to ≡ Some k → ⊥) → Led (over q) k
    led-after k r is alive = by (cases_eq k l) (cases_eq k n)
      where
        by : (k ≡ l) ⊎ (k ≡ l → ⊥) → (k ≡ n) ⊎ (k ≡ n → ⊥) → Led (over q) k
        by (inl e) _ =
            subst (Led (over q)) (sym e)
            (led-to (over p) (over p1) (over p2) (over q) n m l name name_to (once g s p runs) stood bare named1 named2 named3 differ at.named.parent at_to.named.parent at.named.leads at_to.named.leads split-apart)
        by (inr far) (inl e) = led-from k alive (subst (Led (over p)) (sym e) (led g s p runs n origin.rec at.is_node))
        by (inr far) (inr off) = led-from k alive (led g s p runs k r (first.back k r far (second.back k r off (third.back k r far is))))

    entries-right : (o : Option ℕ) → entry_at (over p) l name_to ≡ o → EntriesBut shape (running_over device q) o
    entries-right None e =
        (entries_by_lists shape (running_over device q) state3.formed.addresses).1
        (lists-of-graph shape (running_over device q) state3.formed.directories state3.good once-after (λ k r is. led-after k r is (λ h. none_some k (sym e ∙ h))))
    entries-right (Some j) e = λ rec left unused is.
        right-without shape bounds (running_over device q) left j rec state3.formed state3.good below unused is
        (λ k x. unnamed (over p) (over p1) (over p2) (over q) n m l name name_to (once g s p runs) stood bare named1 named2 named3 differ k j x e)
        (λ x. childless (over p) (over p1) (over p2) (over q) n m l name name_to (once g s p runs) stood bare named1 named2 named3 differ j x e)
        once-after (λ k r is far. led-after k r is (λ h. far (some_in k j (sym h ∙ e))))
      where
        below : j < shape.nodes
        below =
            let listed = entry-listed shape (running_over device p) l j name_to e in
            subst (λ (i : ℕ). i < shape.nodes) listed.3 ((lists g s p runs).good l listed.0 listed.1).is_node.below

    needs : (b : ℕ) → UsesAddress shape (running_over device q) b → UsesAddress shape (running_over device p) b ⊎ IsSome (page_of q b)
    needs b u = by3 (third.needs b u)
      where
        by1 : UsesAddress shape (running_over device p) b ⊎ IsSome (page_of p1 b) → UsesAddress shape (running_over device p) b ⊎ IsSome (page_of q b)
        by1 (inl v) = inl v
        by1 (inr h) = inr (third.follows.there b (second.follows.there b h))

        by2 : UsesAddress shape (running_over device p1) b ⊎ IsSome (page_of p2 b) → UsesAddress shape (running_over device p) b ⊎ IsSome (page_of q b)
        by2 (inl v) = by1 (first.needs b v)
        by2 (inr h) = inr (third.follows.there b h)

        by3 : UsesAddress shape (running_over device p2) b ⊎ IsSome (page_of q b) → UsesAddress shape (running_over device p) b ⊎ IsSome (page_of q b)
        by3 (inl v) = by2 (second.needs b v)
        by3 (inr h) = inr h

    -- the pointers of each node
    body : (k : ℕ) → node_of (λ v. []) (over q k).body ≡ node_of (λ v. []) (over p k).body
    body k = third.bodies (λ v. []) k ∙ second.bodies (λ v. []) k ∙ first.bodies (λ v. []) k

    held : (k : ℕ) → (k ≡ n) ⊎ (k ≡ n → ⊥) → (k ≡ l) ⊎ (k ≡ l → ⊥) → held_by k (over q k) ≡ held_by k (over p k)
    held k (inr off) (inr far) = ap (held_by k) (third.others k far ∙ second.others k off ∙ first.others k far)
    held k (inl e) _ =
        ap (λ (i : ℕ). held_by i (over q i)) e ∙ held-dir n (over p n) (over q n) (dir-node shape (running_over device p) n origin.rec at.is_node at.is_dir (λ v. [])) (body n) ∙ sym (ap (λ (i : ℕ). held_by i (over p i)) e)
    held k (inr off) (inl e) =
        ap (λ (i : ℕ). held_by i (over q i)) e ∙ held-dir l (over p l) (over q l) (dir-node shape (running_over device p) l target.rec at_to.is_node at_to.is_dir (λ v. [])) (body l)
        ∙ sym (ap (λ (i : ℕ). held_by i (over p i)) e)

    pub moved-changes : (free : Spaces) → Gives free s1 → Changes g s p free s q after (option_map (λ (e : EntryRec). e.ino) target.entry)
    moved-changes free given = record {
      reads = reads-none g s;
      frozen = follows.frozen;
      pages = follows.pages;
      few = let f = follows.few in let c = few in omega (arith, f, c);
      runs = record {
        count = state3.count;
        nodes = state3.formed.nodes;
        addresses = state3.formed.addresses;
        entries = entries-right _ stood-to;
        absent = absent;
        clean = λ told. follows.clean (runs.clean told);
      };
      fits = fits-of g s q after state3;
      takes = takes-address free after (over p) (over q) (takes-after free s1 s2 after given (gives-of takes.given s1 s2 takes.gives) (takes-of puts.fresh s2 after puts.takes))
          (λ k. third.generations k ∙ second.generations k ∙ first.generations k);
      files = files;
      pointers = tagged-same shape (running_over device p) (running_over device q) (λ k. held k (cases_eq k n) (cases_eq k l));
    }
      where
        absent : (v : ℕ) → IsNeeded shape (running_over device q) v → page_of q v ≡ None → g.tells
        absent v (inl e) gone = runs.absent v (inl e) (gone-before device p q (count + 3 + 2) follows v gone)
        absent v (inr u) gone = by (needs v u)
          where
            by : UsesAddress shape (running_over device p) v ⊎ IsSome (page_of q v) → g.tells
            by (inl w) = runs.absent v (inr w) (gone-before device p q (count + 3 + 2) follows v gone)
            by (inr h) = absurd (not-there (sym (ap is_some gone) ∙ h))
              where
                not-there : false ≡ true → ⊥
                not-there e = cc

        no-file : (k d : ℕ) (rec dir : InodeRec) → IsNodeOf g s p k rec → rec.kind ≡ File → IsNodeOf g s p d dir → dir.kind ≡ Dir → k ≢ d
        no-file k d rec dir is file is-dir dir-kind e = dir-file (sym dir-kind ∙ ap (λ (r : InodeRec). r.kind) (some_in dir rec (sym is-dir.spelled ∙ ap (inode_at (running_over device p)) (sym e) ∙ is.spelled)) ∙ file)
          where
            dir-file : Dir ≡ File → ⊥
            dir-file e = cc

        files : (k : ℕ) (rec : InodeRec) → IsNodeOf g s p k rec → rec.kind ≡ File → FileStays g s p s q k rec
        files k rec is file =
            let off = no-file k n rec origin.rec is file at.is_node at.is_dir in
            let far = no-file k l rec target.rec is file at_to.is_node at_to.is_dir in
            record { is_node = third.node k rec far (second.node k rec off (first.node k rec far is)); graph = third.others k far ∙ second.others k off ∙ first.others k far }
