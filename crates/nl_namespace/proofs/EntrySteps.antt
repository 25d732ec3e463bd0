-- One entry of a directory that comes, goes or stays away, in the running map over a device.
use Rattle.std.proofs.Common.{◌≡◌, ◌≢◌, ℕ, ◌+◌, ◌≤◌, ◌<◌, List, length, arith, refl, sym, ap, ◌∙◌, Option, Some, None, IsSome, ◌⊎◌, inl, inr}
use Rattle.std.proofs.lemmas.Bool.{cases_eq}
use Rattle.nl_field.specs.Graph.{Graph, GraphNode}
use Rattle.nl_field.specs.Numbers.{ShapeBounds}
use Rattle.nl_field.specs.declared.entry.EntryRec.{EntryRec}
use Rattle.nl_field.specs.declared.inode.InodeRec.{InodeRec}
use Rattle.nl_field.specs.declared.inode.Kind.TheVariants.{Dir}
use Rattle.nl_field.specs.declared.shape.Shape.{Shape}
use Rattle.nl_meta.specs.Committed.{VirtualMap}
use Rattle.nl_meta.specs.Consistent.{IsNode}
use Rattle.nl_meta.specs.Nodes.{graph_of}
use Rattle.nl_meta.specs.Pages.{Pages, besides_0, page_of}
use Rattle.nl_meta.specs.Running.{running_over}
use Rattle.nl_meta.proofs.PageProofs.{none as none-changed}
use Rattle.nl_inode.specs.FreeLaws.{UsesAddress}
use Rattle.nl_inode.specs.Nodes.{Spaces}
use Rattle.nl_tree.specs.GraphLaws.{entry_at}
use Rattle.nl_tree.specs.Represents.{node_of}
use Rattle.nl_namespace.specs.Entering.{PutsIn, TakesOut}
use Rattle.nl_namespace.proofs.DirectorySteps.{dir-node}
use Rattle.nl_namespace.proofs.NodeChanges.{graph-at}
use Rattle.nl_namespace.proofs.PutSteps.{put-at, put-back, put-dir, put-else, put-follows, put-needs, put-node, put-others, put-was}
use Rattle.nl_namespace.proofs.States.{Follows, State}
use Rattle.nl_namespace.proofs.TakeSteps.{fewer-uses, take-at, take-back, take-dir, take-else, take-follows, take-node, take-others, take-was}

-- A name of directory d has this node from then on, and every other name what it had.
pub record EntryStep (shape : Shape) (device : VirtualMap) (d : ℕ) (name : List ℕ) (o : Option ℕ) (n : ℕ) (p q : Pages) : Type 0 where
  pub follows : Follows device p q n
  pub at : entry_at (graph_of shape (running_over device q)) d name ≡ o
  pub elsewhere : (k : ℕ) (x : List ℕ) → (k ≡ d → x ≢ name) → entry_at (graph_of shape (running_over device q)) k x ≡ entry_at (graph_of shape (running_over device p)) k x
  pub others : (k : ℕ) → k ≢ d → graph_of shape (running_over device q) k ≡ graph_of shape (running_over device p) k
  pub bodies : (bytes_of : ℕ → List ℕ) (k : ℕ) → node_of bytes_of (graph_of shape (running_over device q) k).body ≡ node_of bytes_of (graph_of shape (running_over device p) k).body
  pub node : (k : ℕ) (r : InodeRec) → k ≢ d → IsNode shape (running_over device p) k r → IsNode shape (running_over device q) k r
  pub back : (k : ℕ) (r : InodeRec) → k ≢ d → IsNode shape (running_over device q) k r → IsNode shape (running_over device p) k r
  pub needs : (b : ℕ) → UsesAddress shape (running_over device q) b → UsesAddress shape (running_over device p) b ⊎ IsSome (page_of q b)
  pub generations : (k : ℕ) → (graph_of shape (running_over device q) k).generation ≡ (graph_of shape (running_over device p) k).generation

at-node : (old new : Graph) (k : ℕ) → new k ≡ old k → (x : List ℕ) → entry_at new k x ≡ entry_at old k x
at-node old new k e x = ap (λ (z : GraphNode). entry_at (λ i. z) k x) e

module _ (shape : Shape) (device : VirtualMap) (d : ℕ) (p q : Pages) where
  abbrev one : Graph
  one = graph_of shape (running_over device p)

  abbrev two : Graph
  two = graph_of shape (running_over device q)

  -- entries that stay, from those of the other nodes and those of the directory
  stay-else : (name : List ℕ) → ((k : ℕ) → k ≢ d → two k ≡ one k) → ((x : List ℕ) → x ≢ name → entry_at two d x ≡ entry_at one d x) → (k : ℕ) (x : List ℕ) → (k ≡ d → x ≢ name) → entry_at two k x ≡ entry_at one k x
  stay-else name others here k x far = by (cases_eq k d)
    where
      by : (k ≡ d) ⊎ (k ≡ d → ⊥) → entry_at two k x ≡ entry_at one k x
      by (inr off) = at-node one two k (others k off) x
      by (inl e) = ap (λ (i : ℕ). entry_at two i x) e ∙ here x (far e) ∙ sym (ap (λ (i : ℕ). entry_at one i x) e)

  -- what the nodes are, where the directory is one before and after
  stay-bodies : ((k : ℕ) → k ≢ d → two k ≡ one k) → (was is : InodeRec) → IsNode shape (running_over device p) d was → was.kind ≡ Dir → IsNode shape (running_over device q) d is → is.kind ≡ Dir
      → (bytes_of : ℕ → List ℕ) (k : ℕ) → node_of bytes_of (two k).body ≡ node_of bytes_of (one k).body
  stay-bodies others was is at-was was-dir at-is is-dir bytes_of k = by (cases_eq k d)
    where
      by : (k ≡ d) ⊎ (k ≡ d → ⊥) → node_of bytes_of (two k).body ≡ node_of bytes_of (one k).body
      by (inr off) = ap (λ (z : GraphNode). node_of bytes_of z.body) (others k off)
      by (inl e) =
          ap (λ (i : ℕ). node_of bytes_of (two i).body) e
          ∙ dir-node shape (running_over device q) d is at-is is-dir bytes_of
          ∙ sym (dir-node shape (running_over device p) d was at-was was-dir bytes_of)
          ∙ sym (ap (λ (i : ℕ). node_of bytes_of (one i).body) e)

  -- the generations stay where that of the directory does
  stay-generations : ((k : ℕ) → k ≢ d → two k ≡ one k) → (was is : InodeRec) → IsNode shape (running_over device p) d was → IsNode shape (running_over device q) d is → is.generation ≡ was.generation
      → (k : ℕ) → (two k).generation ≡ (one k).generation
  stay-generations others was is at-was at-is same k = by (cases_eq k d)
    where
      by : (k ≡ d) ⊎ (k ≡ d → ⊥) → (two k).generation ≡ (one k).generation
      by (inr off) = ap (λ (z : GraphNode). z.generation) (others k off)
      by (inl e) =
          ap (λ (i : ℕ). (two i).generation) e
          ∙ ap (λ (z : GraphNode). z.generation) (graph-at shape (running_over device q) d is at-is.below at-is.spelled)
          ∙ same
          ∙ sym (ap (λ (z : GraphNode). z.generation) (graph-at shape (running_over device p) d was at-was.below at-was.spelled))
          ∙ sym (ap (λ (i : ℕ). (one i).generation) e)

module _ (shape : Shape) (bounds : ShapeBounds shape) (device : VirtualMap) (d : ℕ) (p q : Pages) (s t : Spaces) (state : State shape device p s) (below : d < shape.nodes) where
  -- an entry that is taken out
  pub taken-step : (name : List ℕ) → TakesOut d name p q s t → EntryStep shape device d name None 3 p q
  taken-step name takes = record {
    follows = take-follows shape bounds device d name p q s t state below takes;
    at = take-at shape bounds device d name p q s t state below takes;
    elsewhere = stay-else shape device d p q name others (take-else shape bounds device d name p q s t state below takes);
    others = others;
    bodies = stay-bodies shape device d p q others takes.rec _ (take-was shape bounds device d name p q s t state below takes) takes.has.directory.places.is_dir (take-dir shape bounds device d name p q s t state below takes)
        takes.has.directory.places.is_dir;
    node = take-node shape bounds device d name p q s t state below takes;
    back = take-back shape bounds device d name p q s t state below takes;
    needs = λ b u. inl (fewer-uses shape bounds device d name p q s t state below takes b u);
    generations = stay-generations shape device d p q others takes.rec _ (take-was shape bounds device d name p q s t state below takes) (take-dir shape bounds device d name p q s t state below takes) refl;
  }
    where
      others : (k : ℕ) → k ≢ d → graph_of shape (running_over device q) k ≡ graph_of shape (running_over device p) k
      others = take-others shape bounds device d name p q s t state below takes

  -- an entry that is put in
  pub put-step : (entry : EntryRec) → PutsIn d entry p q s t → EntryStep shape device d entry.name (Some entry.ino) 2 p q
  put-step entry puts = record {
    follows = put-follows shape bounds device d entry p q s t state below puts;
    at = put-at shape bounds device d entry p q s t state below puts;
    elsewhere = stay-else shape device d p q entry.name others (put-else shape bounds device d entry p q s t state below puts);
    others = others;
    bodies = stay-bodies shape device d p q others puts.rec _ (put-was shape bounds device d entry p q s t state below puts) puts.has.directory.places.is_dir (put-dir shape bounds device d entry p q s t state below puts)
        puts.has.directory.places.is_dir;
    node = put-node shape bounds device d entry p q s t state below puts;
    back = put-back shape bounds device d entry p q s t state below puts;
    needs = put-needs shape bounds device d entry p q s t state below puts;
    generations = stay-generations shape device d p q others puts.rec _ (put-was shape bounds device d entry p q s t state below puts) (put-dir shape bounds device d entry p q s t state below puts) refl;
  }
    where
      others : (k : ℕ) → k ≢ d → graph_of shape (running_over device q) k ≡ graph_of shape (running_over device p) k
      others = put-others shape bounds device d entry p q s t state below puts

-- an entry that is put in was not there
pub absent-step : (shape : Shape) (device : VirtualMap) (d : ℕ) (name : List ℕ) (p : Pages) → entry_at (graph_of shape (running_over device p)) d name ≡ None → EntryStep shape device d name None 0 p p
absent-step shape device d name p none = record {
  follows = record { there = λ v h. h; frozen = refl; few = few (besides_0 p.dirty); count = refl; clean = λ c. c; pages = none-changed p };
  at = none;
  elsewhere = λ k x far. refl;
  others = λ k far. refl;
  bodies = λ bytes_of k. refl;
  node = λ k r far is. is;
  back = λ k r far is. is;
  needs = λ b u. inl u;
  generations = λ k. refl;
}
  where
    few : (xs : List ℕ) → length xs ≤ length xs + 0
    few xs = omega arith
