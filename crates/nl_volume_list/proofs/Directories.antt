-- What the entries of a directory's pages are in the nodes of a volume.
use Rattle.std.proofs.Common.{◌≡◌, ◌≢◌, ℕ, ◌/◌, ◌<◌, Bool, true, false, ◌&&◌, cond, List, [], length, get_or, refl, sym, ap, subst, ◌∙◌, Option, Some, None, IsSome, arith, nat_le, bytes_eq}
use Rattle.std.proofs.lemmas.Bool.{and_parts, leb-true}
use Rattle.std.specs.Int.{div_ceil}
use Rattle.nl_field.specs.EntryRecord.{entry_bytes, entry_fields, entry_of, is_entry}
use Rattle.nl_field.specs.Graph.{Graph}
use Rattle.nl_field.specs.Members.{Has}
use Rattle.nl_field.specs.Names.{is_name}
use Rattle.nl_field.specs.Numbers.{ShapeBounds}
use Rattle.nl_field.specs.declared.entry.EntryRec.{EntryRec}
use Rattle.nl_field.specs.declared.inode.InodeRec.{InodeRec}
use Rattle.nl_field.specs.declared.inode.Kind.TheVariants.{Dir}
use Rattle.nl_field.specs.declared.shape.Shape.{Shape}
use Rattle.nl_iface.specs.declared.counts.Counts.{Ghosts}
use Rattle.nl_dir.proofs.EntryLists.{has-listed, listed-has}
use Rattle.nl_dir.proofs.LawProofs.{resident_is_running, right_is_directory}
use Rattle.nl_dir.proofs.LookProofs.{spelled-fields}
use Rattle.nl_meta.specs.Committed.{VirtualMap}
use Rattle.nl_meta.specs.Consistent.{EntriesRight, EntryAt, IsNode, NodesRight}
use Rattle.nl_meta.specs.Nodes.{bytes_of_place, entries_of_inode, graph_of}
use Rattle.nl_meta.specs.Pages.{Pages, page_of}
use Rattle.nl_meta.proofs.Lists.{none_some}
use Rattle.nl_meta.proofs.NodeProofs.{same_rec}
use Rattle.nl_namespace.specs.Holding.{HasEntries}
use Rattle.nl_meta_running.specs.Running.{IsNodeOf, IsUsedNode, RunningIsRight, PreservesRunning, running_on, stored_on}
use Rattle.nl_meta_running.proofs.GraphStays.{graph-same}
use Rattle.nl_meta_running.proofs.SameNeeded.{own}
use Rattle.nl_spec_image.proofs.GraphOfPages.{entry_found, entry_is, reached_is_node}
use Rattle.nl_tree.specs.GraphLaws.{entry_at}
use Rattle.nl_tree.specs.Represents.{node_reached}
use Rattle.nl_volume_list.specs.Entries.{IsLeastOf, LeastBehind, is_behind}

-- what spells an entry has a name
spelled-name : (bytes : List ℕ) (e : EntryRec) → entry_of bytes ≡ Some e → e.name ≢ []
unfolding entry_of is_name
spelled-name bytes e is none = by (is_entry (entry_fields bytes)) (bytes_eq (entry_bytes (entry_fields bytes)) bytes) refl is
  where
    few : is_entry (entry_fields bytes) ≡ true → ⊥
    few t =
        let a = and_parts (is_name (entry_fields bytes).name) _ t in
        let b = leb-true 1 (length (entry_fields bytes).name) (and_parts (nat_le 1 (length (entry_fields bytes).name)) _ (and_parts (nat_le 1 (length (entry_fields bytes).name) && _) _ (and_parts (nat_le 1 (length (entry_fields bytes).name) && _ && _) _ a.0).0).0).0 in
        let c = ap (λ (x : EntryRec). length x.name) (spelled-fields bytes e is) in
        let d = ap (λ (x : List ℕ). length x) none in
        omega (arith, b, c, d)

    by : (a b : Bool) → is_entry (entry_fields bytes) ≡ a → cond (a && b) (Some (entry_fields bytes)) None ≡ Some e → ⊥
    by true b t h = few t
    by false b t h = none_some e h

module _ (shape : Shape) (pages : VirtualMap) (right : EntriesRight shape pages) (nodes : NodesRight shape pages) where
  abbrev g : Graph
  g = graph_of shape pages

  -- no entry is without a name
  pub entry-named : (n : ℕ) (x : List ℕ) (m : ℕ) → entry_at g n x ≡ Some m → x ≢ []
  entry-named n x m e none = let r = entry_is shape pages n x m e in spelled-name (bytes_of_place pages r.at.rec r.place) r.entry r.at.spelled (r.name ∙ none)

  pub record HasEntry (es : List EntryRec) (x : List ℕ) : Type 0 where
    pub entry : EntryRec
    pub has : Has es entry
    pub name : entry.name ≡ x

  module _ (n : ℕ) (rec : InodeRec) (is : IsNode shape pages n rec) where
    -- a node that is no directory has none
    pub no-entries : (rec.kind ≡ Dir → ⊥) → (after : List ℕ) → LeastBehind g n after None
    no-entries far after = λ x m e.
        let r = entry_is shape pages n x m e in
        absurd (far (ap (λ (y : InodeRec). y.kind) (same_rec shape pages n rec r.at.rec is r.at.is_node) ∙ r.at.is_dir))

    module _ (dir : rec.kind ≡ Dir) where
      place-of : (e : EntryRec) → Has (entries_of_inode pages rec) e → (i : ℕ) × EntryAt shape pages n i e
      unfolding entries_of_inode
      place-of e has =
          let p = has-listed (λ i. entry_of (bytes_of_place pages rec i)) rec.size e has in
          (p.0, record { rec = rec; is_node = is; is_dir = dir; below = p.1; spelled = p.2 })

      listed : (i : ℕ) (e : EntryRec) → EntryAt shape pages n i e → Has (entries_of_inode pages rec) e
      unfolding entries_of_inode
      listed i e a =
          let same = same_rec shape pages n a.rec rec a.is_node is in
          listed-has (λ i. entry_of (bytes_of_place pages rec i)) rec.size i e (subst (λ (r : InodeRec). i < r.size) same a.below)
          (subst (λ (r : InodeRec). entry_of (bytes_of_place pages r i) ≡ Some e) same a.spelled)

      entry-of : (x : List ℕ) (m : ℕ) → entry_at g n x ≡ Some m → HasEntry (entries_of_inode pages rec) x
      entry-of x m e = let r = entry_is shape pages n x m e in record { entry = r.entry; has = listed r.place r.entry r.at; name = r.name }

      -- the least of its list is the least of the node
      pub least-of : (after : List ℕ) (o : Option EntryRec) → IsLeastOf (entries_of_inode pages rec) after o → LeastBehind g n after o
      least-of after None none = λ x m e. let r = entry-of x m e in subst (λ (y : List ℕ). is_behind after y ≡ false) r.name (none r.entry r.has)
      least-of after (Some entry) least = record {
        at = let p = place-of entry least.has in entry_found shape pages right nodes n p.0 entry p.1;
        behind = least.behind;
        least = λ x m e b. (
            let r = entry-of x m e in
            subst (λ (y : List ℕ). is_behind y entry.name ≡ false) r.name (least.least r.entry r.has (subst (λ (y : List ℕ). is_behind after y ≡ true) (sym r.name) b))
            );
      }

module _ {D : Type 0} (g : Ghosts D) (s : D) (p : Pages) where
  module _ (runs : RunningIsRight g s p) where
    -- a node that a path leads to is used
    pub used-at : ShapeBounds (g.shape s) → (q : List (List ℕ)) (n : ℕ) → node_reached (graph_of (g.shape s) (running_on g s p)) 0 q ≡ Some n → IsUsedNode g s p n
    used-at bounds q n e =
        let some = bounds.some_nodes in
        let r = reached_is_node (g.shape s) (running_on g s p) runs.entries runs.nodes q n (omega (arith, some)) e in
        (r.rec, r.is)

  module _ (t : D) (q : Pages) (bounds : ShapeBounds (g.shape s)) (on : PreservesRunning g s p t q) where
    -- the nodes stay
    pub graph-stays : graph_of (g.shape t) (running_on g t q) ≡ graph_of (g.shape s) (running_on g s p)
    graph-stays = ap (λ (n : Shape). graph_of n (running_on g t q)) on.reads.medium.virtual.same_shape ∙ graph-same (g.shape s) bounds (running_on g s p) (running_on g t q) on.needed

    module _ (n : ℕ) (rec : InodeRec) (is : IsNodeOf g s p n rec) (dir : rec.kind ≡ Dir) where
      -- a directory whose pages were made resident
      pub entries-held : RunningIsRight g s p → ((k : ℕ) → k < div_ceil rec.size 64 → IsSome (page_of q (get_or rec.addresses k 0))) → HasEntries g s p q rec
      entries-held runs there =
          let owned = own (g.shape s) bounds (running_on g s p) (running_on g t q) on.needed n rec is dir in
          let right = right_is_directory (g.shape s) (running_on g s p) n rec runs.addresses runs.entries is dir in
          let held = resident_is_running (stored_on g t) q rec (λ i h. there (i / 64) (omega (arith, h))) in
          record { directory = held.directory.0 (owned.directory right); entries = sym held.entries ∙ owned.entries }

      -- the entries are those that the directory had before
      pub held-before : (r : Pages) → HasEntries g t q r rec → HasEntries g s p r rec
      held-before r has = record { directory = has.directory; entries = has.entries ∙ (own (g.shape s) bounds (running_on g s p) (running_on g t q) on.needed n rec is dir).entries }
