-- What a file of a core holds, in the tree as which the core runs.
use Rattle.std.proofs.Common.{◌≡◌, ℕ, ◌+◌, ◌-◌, ◌*◌, ◌/◌, ◌%◌, ◌<◌, min, Bool, true, false, cond, List, [], ◌++◌, length, drop, get_or, unwrap_or, refl, sym, ap, ◌∙◌, Option, Some, None, option_map, arith}
use Rattle.std.specs.Prelude.{slice_index}
use Rattle.nl_field.specs.Bytes.{zeros}
use Rattle.nl_field.specs.FileContent.{FileContent, page_bytes}
use Rattle.nl_field.specs.Pointers.{is_none_pointer}
use Rattle.nl_field.specs.declared.inode.InodeRec.{InodeRec}
use Rattle.nl_tree.specs.Represents.{node_reached}
use Rattle.nl_tree.specs.Tree.{Node, Tree, content_of, file, node_at}
use Rattle.nl_iface.specs.Names.{place_of}
use Rattle.nl_iface.specs.declared.counts.Counts.{Ghosts}
use Rattle.nl_meta.specs.Consistent.{PageOfStamp}
use Rattle.nl_meta.specs.Nodes.{pointer_at}
use Rattle.nl_spec_image.specs.Stands.{bytes_for}
use Rattle.nl_files.specs.Contents.{page_by_stamp}
use Rattle.nl_files.specs.Reading.{AreBytesFrom, file_page}
use Rattle.nl_files.proofs.ContentFacts.{pages_by_pointers}
use Rattle.nl_flight.specs.Flight.{carried}
use Rattle.nl_core.specs.Core.{IsCore, names_of, running_of}
use Rattle.nl_core.specs.Trees.{CoreRepresentsTree}
use Rattle.nl_core.specs.declared.state.Core.{Core}
use Rattle.nl_calls_files.specs.FileTrees.{held_content}
use Rattle.nl_calls_files.specs.Fits.{IsFileOf}
use Rattle.nl_calls_files.proofs.FileTrees.{file_at}
use Rattle.nl_calls_files.proofs.Fits.{files_lead, files_stand, is_file_at}
use Rattle.nl_calls_files.proofs.Joined.{joined}
use Rattle.nl_calls_steps.specs.Finding.{nodes_of}
use Rattle.nl_calls_steps.specs.Paging.{ArePageBytes}

module _ {D : Type 0} (g : Ghosts D) (v : Core D) (page_of_stamp : ℕ → Option PageOfStamp) (tree : Tree) (n : ℕ) (rec : InodeRec) (is : IsFileOf g v.device v.meta n rec) where
  -- the tree has it where a path leads to the file
  pub at-path : CoreRepresentsTree g v page_of_stamp tree → (path : List (List ℕ)) → node_reached (nodes_of g v) 0 path ≡ Some n → node_at tree path ≡ Some (file (held_content page_of_stamp (running_of g v) rec))
  at-path at path reached =
      file_at (g.shape v.device) (running_of g v) page_of_stamp n rec path tree (is_file_at (g.shape v.device) (running_of g v) n rec at.runs.right.tree.addresses is.is_node is.is_file) reached at.runs.represents

  module _ (core : IsCore g v) (at : CoreRepresentsTree g v page_of_stamp tree) where
    -- the page of a pointer is the live page to which it leads
    bytes-at : (i : ℕ) → i < 4104 → is_none_pointer (pointer_at (running_of g v) rec i) ≡ false
        → g.bytes v.device (place_of (names_of g v) (pointer_at (running_of g v) rec i)) ≡ bytes_for page_of_stamp (pointer_at (running_of g v) rec i).stamp
    bytes-at i low some =
        let p = pointer_at (running_of g v) rec i in
        let l = (files_lead g v.device v.journal v.meta (carried v.flight) v.freeing.items n rec _ core.journaled.runs core.held is i low some).leads in
        let shown = at.shows (place_of (names_of g v) p) l.0 l.1 in
        let stamp : l.0.stamp ≡ p.stamp = l.2.1 in
        sym (ap (λ (o : Option PageOfStamp). unwrap_or (option_map (λ x. x.bytes) o) []) (ap page_of_stamp (sym stamp) ∙ shown))

    pub page-shown : (i : ℕ) → i < 4104 → file_page g v.device (running_of g v) rec i ≡ page_bytes (held_content page_of_stamp (running_of g v) rec) i
    unfolding page_bytes
    page-shown i low =
        by (is_none_pointer (pointer_at (running_of g v) rec i)) refl
        ∙ sym (ap (λ (o : Option (List ℕ)). unwrap_or o (zeros 4096)) (pages_by_pointers (bytes_for page_of_stamp) (running_of g v) rec (files_stand g v.device v.meta n rec core.journaled.runs is).file i))
      where
        by : (b : Bool) → is_none_pointer (pointer_at (running_of g v) rec i) ≡ b
            → file_page g v.device (running_of g v) rec i ≡ unwrap_or (page_by_stamp (bytes_for page_of_stamp) (pointer_at (running_of g v) rec i)) (zeros 4096)
        by true e = ap (λ (b : Bool). cond b (zeros 4096) (g.bytes v.device (place_of (names_of g v) (pointer_at (running_of g v) rec i)))) e ∙ sym (ap (λ (b : Bool). unwrap_or (cond b None (Some (bytes_for page_of_stamp (pointer_at (running_of g v) rec i).stamp))) (zeros 4096)) e)
        by false e =
            ap (λ (b : Bool). cond b (zeros 4096) (g.bytes v.device (place_of (names_of g v) (pointer_at (running_of g v) rec i)))) e ∙ bytes-at i low e
            ∙ sym (ap (λ (b : Bool). unwrap_or (cond b None (Some (bytes_for page_of_stamp (pointer_at (running_of g v) rec i).stamp))) (zeros 4096)) e)

-- ---- what is read of it

-- The first bytes of what is read, as far as the page lies below the size, and zeros behind them are the page.
module _ {D : Type 0} (g : Ghosts D) (v : Core D) (core : IsCore g v) (n index : ℕ) (rec : InodeRec) (is : IsFileOf g v.device v.meta n rec) (low : index < 4104) (at held : ℕ) (head rest : List ℕ)
    (held_is : held ≡ min (rec.size - 4096 * index) 4096) (at_is : 0 < held → at ≡ 4096 * index) (len : length head ≡ held) (zeros_rest : rest ≡ zeros 4096)
    (are : g.tells → AreBytesFrom (file_page g v.device (running_of g v) rec) at head) where
  module _ (tells : g.tells) (page_of_stamp : ℕ → Option PageOfStamp) (tree : Tree) (path : List (List ℕ)) (runs : CoreRepresentsTree g v page_of_stamp tree) (reached : node_reached (nodes_of g v) 0 path ≡ Some n) where
    abbrev content : FileContent
    content = held_content page_of_stamp (running_of g v) rec

    there : node_at tree path ≡ Some (file content)
    there = at-path g v page_of_stamp tree n rec is runs path reached

    first : (k : ℕ) → k < held → get_or head k 0 ≡ get_or (page_bytes content index) k 0
    first k below =
        let from = at_is (omega (arith, below)) in
        let quotient : (at + k) / 4096 ≡ index = omega (arith, from, below, held_is) in
        let place : (at + k) % 4096 ≡ k = omega (arith, from, below, held_is) in
        are tells k (omega (arith, below, len)) ∙ (λ i. slice_index (file_page g v.device (running_of g v) rec (quotient i)) (place i))
        ∙ ap (λ (bytes : List ℕ). get_or bytes k 0) (page-shown g v page_of_stamp tree n rec is core runs index low)

    whole : head ++ drop held rest ≡ page_bytes (content_of (node_at tree path)) index
    whole =
        joined content index held head rest (runs.runs.represents.is_tree.contents path content there) held_is len first zeros_rest
        ∙ sym (ap (λ (o : Option Node). page_bytes (content_of o) index) there)

  pub has-page : ArePageBytes g v n index (head ++ drop held rest)
  has-page = λ tells page_of_stamp tree path runs reached. whole tells page_of_stamp tree path runs reached
