-- What the calls that only look answer on the tree for which the pages stand.
use Rattle.std.proofs.Common.{◌≡◌, ℕ, zero, suc, ◌+◌, ◌-◌, ◌<◌, min, List, [], ◌∷◌, length, map, get_or, refl, sym, ap, subst, ◌∙◌, Option, Some, None, arith}
use Rattle.std.specs.List.{range_with_len}
use Rattle.nl_field.specs.FileContent.{FileContent, byte_of, bytes_read}
use Rattle.nl_field.specs.Graph.{Graph}
use Rattle.nl_field.specs.declared.inode.InodeRec.{InodeRec}
use Rattle.nl_field.specs.declared.inode.Kind.TheVariants.{Dir}
use Rattle.nl_field.specs.declared.shape.Shape.{Shape}
use Rattle.nl_meta.specs.Committed.{VirtualMap}
use Rattle.nl_meta.specs.Consistent.{IsNode, PageOfStamp}
use Rattle.nl_meta.specs.Nodes.{entries_of_inode, graph_of}
use Rattle.nl_spec_image.specs.Stands.{bytes_for}
use Rattle.nl_tree.specs.Step.{refusal_before, Outcome, effect_of, first_of, listing, status_of, step, when}
use Rattle.nl_tree.specs.Replay.{Answers}
use Rattle.nl_tree.specs.Represents.{node_reached}
use Rattle.nl_tree.specs.Tree.{Node, Tree, content_of, directory, entries_of, file, is_directory, is_file, node_at}
use Rattle.nl_tree.specs.declared.call.Call.{Call}
use Rattle.nl_tree.specs.declared.call.Call.TheVariants.{List as ListCall, Read, Stat}
use Rattle.nl_tree.specs.declared.reply.Refusal.{Refusal}
use Rattle.nl_tree.specs.declared.reply.Refusal.TheVariants.{Eisdir, Enotdir}
use Rattle.nl_tree.specs.declared.reply.Reply.{Reply}
use Rattle.nl_tree.specs.declared.reply.Reply.TheVariants.{Content, Dir as DirReply, File as FileReply, Names, No}
use Rattle.nl_tree.proofs.StepProofs.{performed, refused_before}
use Rattle.nl_namespace.specs.Listing.{IsListing}
use Rattle.nl_spec_commits.specs.Trees.{RepresentsTree}
use Rattle.nl_calls_read.specs.Spots.{refusal_of_path}
use Rattle.nl_calls_files.proofs.Directories.{directory-count, order, room, under-directory}
use Rattle.nl_calls_files.proofs.Entries.{IsUnder, entries-are, length-named, named, text-same}
use Rattle.nl_calls_read.proofs.Refusals.{list-refusal, read-refusal, stat-refusal}

-- a list of so many numbers, each of them given
pub mapped : (f : ℕ → ℕ) (from count : ℕ) (bytes : List ℕ) → length bytes ≡ count → ((k : ℕ) → k < count → get_or bytes k 0 ≡ f (from + k)) → bytes ≡ map f (range_with_len from count)
mapped f from zero [] n each = refl
mapped f from (suc count) [] n each = absurd (none n)
  where
    none : 0 ≡ suc count → ⊥
    none e = omega (arith, e)
mapped f from zero (x ∷ xs) n each = absurd (none n)
  where
    none : suc (length xs) ≡ 0 → ⊥
    none e = omega (arith, e)
mapped f from (suc count) (x ∷ xs) n each =
    λ i. head i ∷ mapped f (from + 1) count xs (fewer n) (λ k h. each (suc k) (more k h) ∙ ap f (next k)) i
  where
    head : x ≡ f from
    head = each 0 (omega arith) ∙ ap f (let e : from + 0 ≡ from = omega arith in e)

    next : (k : ℕ) → from + suc k ≡ from + 1 + k
    next k = omega arith

    fewer : suc (length xs) ≡ suc count → length xs ≡ count
    fewer e = omega (arith, e)

    more : (k : ℕ) → k < count → suc k < suc count
    more k h = omega (arith, h)

module _ (shape : Shape) (pages : VirtualMap) (page_of_stamp : ℕ → Option PageOfStamp) (tree : Tree) (runs : RepresentsTree shape pages page_of_stamp tree) where
  refused : (call : Call) (r : Refusal) → refusal_before tree call ≡ Some r → Answers (step shape tree call) (No r) []
  refused call r e = subst (λ (o : Outcome). Answers o (No r) []) (sym (refused_before shape tree call r (sym e))) (refl, refl)

  done : (call : Call) (reply : Reply) (bytes : List ℕ) → refusal_before tree call ≡ None → tree ≡ (effect_of tree call).tree → Answers (effect_of tree call) reply bytes → Answers (step shape tree call) reply bytes
  done call reply bytes e same a = subst (λ (o : Outcome). Answers o reply bytes) (sym (performed shape tree tree call (sym e) same (room shape pages page_of_stamp tree runs))) a

  -- one more refusal, behind those of the path
  pub first-is : (o last : Option Refusal) (r : Refusal) → o ≡ Some r → first_of (o ∷ last ∷ []) ≡ Some r
  first-is None last r e = cc
  first-is (Some x) last r e = e

  one-last : (last : Option Refusal) → first_of (last ∷ []) ≡ last
  one-last None = refl
  one-last (Some x) = refl

  last-is : (o last : Option Refusal) → o ≡ None → first_of (o ∷ last ∷ []) ≡ last
  last-is o last e = ap (λ (x : Option Refusal). first_of (x ∷ last ∷ [])) e ∙ one-last last

  module _ (path : List (List ℕ)) where
    -- ---- stat

    pub stat-refused : (r : Refusal) → refusal_of_path tree path ≡ Some r → Answers (step shape tree (Stat path)) (No r) []
    stat-refused r e = refused (Stat path) r (stat-refusal tree path ∙ e)

    pub stat-file : (content : FileContent) (count : ℕ) → refusal_of_path tree path ≡ None → node_at tree path ≡ Some (file content) → count ≡ length content.pages
        → Answers (step shape tree (Stat path)) (FileReply content.size count) []
    unfolding effect_of
    stat-file content count e at is =
        done (Stat path) (FileReply content.size count) [] (stat-refusal tree path ∙ e) refl
        (subst (λ (o : Option Node). Answers (record { reply = status_of (length (entries_of tree path)) o; bytes = []; tree = tree }) (FileReply content.size count) []) (sym at) (ap (FileReply content.size) is, refl))

    pub stat-directory : (n : ℕ) (rec : InodeRec) → refusal_of_path tree path ≡ None → node_at tree path ≡ Some directory → node_reached (graph_of shape pages) 0 path ≡ Some n → IsNode shape pages n rec → rec.kind ≡ Dir
        → Answers (step shape tree (Stat path)) (DirReply rec.size) []
    unfolding effect_of
    stat-directory n rec e at reached is dir =
        done (Stat path) (DirReply rec.size) [] (stat-refusal tree path ∙ e) refl
        (subst (λ (o : Option Node). Answers (record { reply = status_of (length (entries_of tree path)) o; bytes = []; tree = tree }) (DirReply rec.size) []) (sym at)
        (ap (λ (k : ℕ). DirReply k) (sym (directory-count shape pages page_of_stamp tree runs path n reached rec is dir)), refl))

    -- ---- list

    pub list-refused : (r : Refusal) → refusal_of_path tree path ≡ Some r → Answers (step shape tree (ListCall path)) (No r) []
    list-refused r e = refused (ListCall path) r (list-refusal tree path ∙ first-is (refusal_of_path tree path) (when (is_file (node_at tree path)) Enotdir) r e)

    pub list-file : (content : FileContent) → refusal_of_path tree path ≡ None → node_at tree path ≡ Some (file content) → Answers (step shape tree (ListCall path)) (No Enotdir) []
    list-file content e at =
        refused (ListCall path) Enotdir
        (list-refusal tree path ∙ last-is (refusal_of_path tree path) (when (is_file (node_at tree path)) Enotdir) e ∙ ap (λ (o : Option Node). when (is_file o) Enotdir) at)

    pub list-directory : (n : ℕ) (rec : InodeRec) (count : ℕ) (text : List ℕ) → refusal_of_path tree path ≡ None → node_at tree path ≡ Some directory → node_reached (graph_of shape pages) 0 path ≡ Some n
        → IsNode shape pages n rec → rec.kind ≡ Dir → IsListing (graph_of shape pages) (entries_of_inode pages rec) count text → Answers (step shape tree (ListCall path)) (Names count) text
    unfolding effect_of
    list-directory n rec count text e at reached is dir lists =
        done (ListCall path) (Names count) text
        (list-refusal tree path ∙ last-is (refusal_of_path tree path) (when (is_file (node_at tree path)) Enotdir) e ∙ ap (λ (o : Option Node). when (is_file o) Enotdir) at) refl (
          ap (λ (k : ℕ). Names k) (lists.counted ∙ sym (length-named b graph path lists.listed) ∙ ap (λ (t : Tree). length t) (sym same)),
          lists.printed ∙ sym (text-same b graph path lists.listed) ∙ ap listing (sym same),
        )
      where
        b : ℕ → List ℕ
        b = bytes_for page_of_stamp

        graph : Graph
        graph = graph_of shape pages

        all : IsUnder b graph path tree (entries_of_inode pages rec)
        all = under-directory shape pages page_of_stamp tree runs path n reached rec is dir

        same : entries_of tree path ≡ map (named b graph path) lists.listed
        same = entries-are b graph path tree lists.listed
            (record { there = λ x has. all.there x ((lists.each x).0 has); all = λ name node h. let r = all.all name node h in (r.0, (lists.each r.0).1 r.1, r.2) })
            (order shape pages page_of_stamp tree runs) lists.rising

    -- ---- read

    module _ (from len : ℕ) where
      here : refusal_before tree (Read path from len) ≡ first_of (refusal_of_path tree path ∷ when (is_directory (node_at tree path)) Eisdir ∷ [])
      here = read-refusal tree path from len runs.represents.is_tree.root

      pub read-refused : (r : Refusal) → refusal_of_path tree path ≡ Some r → Answers (step shape tree (Read path from len)) (No r) []
      read-refused r e = refused (Read path from len) r (here ∙ first-is (refusal_of_path tree path) (when (is_directory (node_at tree path)) Eisdir) r e)

      pub read-directory : refusal_of_path tree path ≡ None → node_at tree path ≡ Some directory → Answers (step shape tree (Read path from len)) (No Eisdir) []
      read-directory e at =
          refused (Read path from len) Eisdir
          (here ∙ last-is (refusal_of_path tree path) (when (is_directory (node_at tree path)) Eisdir) e ∙ ap (λ (o : Option Node). when (is_directory o) Eisdir) at)

      pub read-file : (content : FileContent) (bytes : List ℕ) → refusal_of_path tree path ≡ None → node_at tree path ≡ Some (file content)
          → length bytes ≡ min len (content.size - from) → ((k : ℕ) → k < min len (content.size - from) → get_or bytes k 0 ≡ byte_of content (from + k)) → Answers (step shape tree (Read path from len)) Content bytes
      unfolding effect_of bytes_read
      read-file content bytes e at n each =
          done (Read path from len) Content bytes
          (here ∙ last-is (refusal_of_path tree path) (when (is_directory (node_at tree path)) Eisdir) e ∙ ap (λ (o : Option Node). when (is_directory o) Eisdir) at) refl
          (refl, mapped (byte_of content) from (min len (content.size - from)) bytes n each ∙ ap (λ (o : Option Node). bytes_read (content_of o) from len) (sym at))
