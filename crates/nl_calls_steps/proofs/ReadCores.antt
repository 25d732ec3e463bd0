-- A core of which pages were read, and reads one after the other.
use Rattle.std.proofs.Common.{◌≡◌, ℕ, cond, List, length, Option, Some, None, refl, sym, ap, subst, ◌∙◌, arith}
use Rattle.std.proofs.lemmas.List.{length-map}
use Rattle.std.specs.Bool.{⊤}
use Rattle.nl_field.specs.Bytes.{zeros}
use Rattle.nl_field.specs.Pointers.{is_none_pointer}
use Rattle.nl_field.specs.declared.inode.InodeRec.{InodeRec}
use Rattle.nl_field.specs.declared.pointer.Pointer.{Pointer}
use Rattle.nl_field.specs.declared.shape.Shape.{Shape}
use Rattle.nl_iface.specs.Calls.{OnlyReads}
use Rattle.nl_iface.specs.Counting.{FailuresCounted}
use Rattle.nl_iface.specs.Device.{IsVolumeShape}
use Rattle.nl_iface.specs.Names.{Names, place_of}
use Rattle.nl_iface.specs.declared.counts.Counts.{Ghosts}
use Rattle.nl_indirect.specs.Ranges.{IsFileRecord}
use Rattle.nl_meta.specs.Committed.{VirtualMap}
use Rattle.nl_meta.specs.Consistent.{PageOfStamp}
use Rattle.nl_meta.specs.Nodes.{pointer_at, pointers_of_inode}
use Rattle.nl_meta_running.specs.Reading.{ReadsExplainStop}
use Rattle.nl_meta_running.specs.Running.{IsNodeOf}
use Rattle.nl_meta_running.specs.declared.answer.Stop.{Stop}
use Rattle.nl_meta_running.specs.declared.answer.Stop.TheVariants as stop
use Rattle.nl_meta_running.proofs.Holds.{bounds-of, none-runs}
use Rattle.nl_meta_running.proofs.Kept.{kept-then, used-back, used-on}
use Rattle.nl_tree.specs.Tree.{Tree}
use Rattle.nl_files.specs.Answers.{IfPages}
use Rattle.nl_files.specs.Reading.{file_page}
use Rattle.nl_files.specs.Spans.{pointers_from}
use Rattle.nl_files.specs.declared.answer.CountPages.{CountPages}
use Rattle.nl_files.specs.declared.answer.CountPages.TheVariants as counted
use Rattle.nl_files.proofs.LawProofs.{all_are_of_node}
use Rattle.nl_spec_commits.specs.Trees.{RepresentsTree}
use Rattle.nl_core.specs.Core.{IsCore, running_of}
use Rattle.nl_core.specs.Trees.{CoreRepresentsTree}
use Rattle.nl_core.specs.declared.state.Core.{Core}
use Rattle.nl_calls_steps.specs.Steps.{ReadsOn}

pub reads-none : {D : Type 0} (g : Ghosts D) (v : Core D) → IsCore g v → ReadsOn g v v
reads-none g v core = record { runs = none-runs g v.device v.meta core.journaled.runs; read_faults = omega arith; others = refl }

module _ {D : Type 0} (g : Ghosts D) (u v : Core D) (volume : IsVolumeShape (g.shape u.device)) (on : ReadsOn g u v) where
  pub reads-then : (w : Core D) → ReadsOn g v w → ReadsOn g u w
  reads-then w next = record {
    runs = kept-then g u.device u.meta v.device v.meta (bounds-of (g.shape u.device) volume) on.runs w.device w.meta next.runs;
    read_faults = let m = on.read_faults in let n = next.read_faults in omega (arith, m, n);
    others = next.others ∙ ap (λ (x : Core D). record x { device = w.device; meta = w.meta }) on.others;
  }

  pub node-on : (n : ℕ) (rec : InodeRec) → IsNodeOf g u.device u.meta n rec → IsNodeOf g v.device v.meta n rec
  node-on = used-on g u.device u.meta v.device v.meta (bounds-of (g.shape u.device) volume) on.runs

  pub node-back : (n : ℕ) (rec : InodeRec) → IsNodeOf g v.device v.meta n rec → IsNodeOf g u.device u.meta n rec
  node-back = used-back g u.device u.meta v.device v.meta (bounds-of (g.shape u.device) volume) on.runs

module _ {D : Type 0} (g : Ghosts D) (u v : Core D) (on : ReadsOn g u v) where
  pub same-shape : g.shape v.device ≡ g.shape u.device
  same-shape = on.runs.reads.medium.virtual.same_shape

  pub same-names : g.names v.device ≡ g.names u.device
  same-names = on.runs.reads.names

  module _ (tells : g.tells) where
    pub same-running : running_of g v ≡ running_of g u
    same-running = λ i a. on.runs.told tells a i

    same-bytes : g.bytes v.device ≡ g.bytes u.device
    same-bytes = λ i p. on.runs.reads.medium.bytes tells p i

    -- a core that was only read runs as the same trees
    pub runs-then : (page_of_stamp : ℕ → Option PageOfStamp) (tree : Tree) → CoreRepresentsTree g u page_of_stamp tree → CoreRepresentsTree g v page_of_stamp tree
    runs-then page_of_stamp tree r = record {
      runs = subst (λ (shape : Shape). RepresentsTree shape (running_of g v) page_of_stamp tree) (sym same-shape)
          (subst (λ (pages : VirtualMap). RepresentsTree (g.shape u.device) pages page_of_stamp tree) (sym same-running) r.runs);
      shows = λ p page is. r.shows p page (ap (λ (names : Names). names.live p) (sym same-names) ∙ is) ∙ ap (λ (bytes : List ℕ). Some (record { tag = page.tag; bytes = bytes })) (sym (on.runs.reads.medium.bytes tells p));
      given = λ stamp page is. let low = r.given stamp page is in let same = on.runs.reads.medium.next_stamp in omega (arith, low, same);
    }

    -- the files of a core that was only read have the same bytes
    pub same-page : (rec : InodeRec) → file_page g v.device (running_of g v) rec ≡ file_page g u.device (running_of g u) rec
    same-page rec = λ j i. cond (is_none_pointer (pointer_at (same-running j) rec i)) (zeros 4096) (same-bytes j (place_of (same-names j) (pointer_at (same-running j) rec i)))

-- ---- after a part in which no read failed

pub reads-after : {D : Type 0} (g : Ghosts D) (s t u : D) (o : Option Stop) → OnlyReads g s t → g.read_faults t ≡ g.read_faults s → ReadsExplainStop g t u o → ReadsExplainStop g s u o
reads-after g s t u None on same r = r ∙ same
reads-after g s t u (Some stop.Fault) on same r = subst (λ (n : ℕ). FailuresCounted ⊤ n (g.read_faults u) ⊤) same r
reads-after g s t u (Some (stop.Lost w f)) on same r = (r.0 ∙ same, (r.1.0, sym (on.medium.virtual.same_stamps r.1.0) ∙ r.1.1), r.2, r.3)

-- ---- the pointers that were counted

-- as many pointers as the node has
pub counts-node : (pages : VirtualMap) (rec : InodeRec) (a : CountPages) → IsFileRecord rec → IfPages a (λ n. n ≡ length (pointers_from pages rec 0)) → IfPages a (λ n. n ≡ length (pointers_of_inode pages rec))
counts-node pages rec (counted.Pages n) file h =
    h ∙ ap (λ (ps : List Pointer). length ps) (all_are_of_node pages rec file) ∙ length-map (pointers_of_inode pages rec) (λ (p : ℕ × Pointer). p.1)
counts-node pages rec counted.Fault file h = h
counts-node pages rec (counted.Lost w f) file h = h
