-- How the command ends that prints the bytes of a file: with which status, text, refusal and cause, and what it then says of sink and
-- medium.
use Rattle.std.specs.Prelude.{◌≡◌, ◌⊎◌, ℕ, List, [], ◌++◌, Option, None, Some}
use Rattle.nl_field.specs.CrashStates.{Rose}
use Rattle.nl_field.specs.FileContent.{FileContent, bytes_read}
use Rattle.nl_field.specs.Page.{Image}
use Rattle.nl_spec_headline.specs.Streams.{Medium, PrintsWhole, Stream}
use Rattle.nl_spec_headline.specs.declared.lists.Ordered.{Ordered}
use Rattle.nl_spec_headline.specs.declared.lists.Synced.{Synced}
use Rattle.nl_spec_image.specs.Stands.{ConsistentAs}
use Rattle.nl_tree.specs.Step.{refusal_before}
use Rattle.nl_tree.specs.Tree.{Tree, file, node_at}
use Rattle.nl_tree.specs.declared.call.Call.TheVariants.{Read}
use Rattle.nl_tree.specs.declared.reply.Refusal.{Refusal}
use Rattle.nl_cmd_words.specs.Ends.{EndsBefore}
use Rattle.nl_cmd_view.specs.Looking.{LookEnds}

-- why the tree refuses to read at the path, whatever is to be read there
abbrev pub refusal_of_read : Tree → List (List ℕ) → Option Refusal
refusal_of_read tree path = refusal_before tree (Read path 0 0)

-- The text is all bytes of the file at the path, which the tree does not refuse to read.
pub record IsTextOfFile (tree : Tree) (path : List (List ℕ)) (text : List ℕ) : Type 0 where
  pub may_read : refusal_of_read tree path ≡ None
  pub content : FileContent
  pub is_file : node_at tree path ≡ Some (file content)
  pub text_is : text ≡ bytes_read content 0 content.size

-- The text is that of the file in the tree as which the image is consistent.
pub record ShowsFile (path : List (List ℕ)) (image : Image) (text : List ℕ) : Type 0 where
  pub count : ℕ
  pub tree : Tree
  pub sound : ConsistentAs image count tree
  pub of_file : IsTextOfFile tree path text

-- The tree as which the image is consistent refuses to read at the path.
pub record RefusesPath (path : List (List ℕ)) (image : Image) (refusal : Refusal) : Type 0 where
  pub count : ℕ
  pub tree : Tree
  pub sound : ConsistentAs image count tree
  pub refused : refusal_of_read tree path ≡ Some refusal

-- The text is a beginning of that of the file. It has no byte where the read failed by which the file was to be found.
abbrev pub BeginsFile : List (List ℕ) → Image → List ℕ → Type 0
BeginsFile path image text = (text ≡ []) ⊎ ((rest : List ℕ) × ShowsFile path image (text ++ rest))

-- The file is looked at, as the paths of a tree are. Or the tree refuses the path, and nothing is printed. Or a read failed while the bytes
-- were printed, or a page was lost, which it is only where the medium does not tell its contents: then the sink is given a beginning.
pub data GetEnds (tells : Type 0) (path : List (List ℕ)) (sink sink' : Stream) (medium medium' : Medium) (order : List Ordered) (syncs : List Synced) (refused : Option Refusal) (status : ℕ) : Type 0 where
  not_cut : refused ≡ None → LookEnds tells (ShowsFile path) sink sink' medium medium' order syncs status
      → GetEnds tells path sink sink' medium medium' order syncs refused status
  refuses : (refusal : Refusal) → refused ≡ Some refusal → status ≡ 2 → (tells → RefusesPath path medium.contents refusal)
      → medium'.counts.read_faults ≡ medium.counts.read_faults → sink' ≡ sink
      → EndsBefore tells [] sink sink' medium medium' order syncs
      → GetEnds tells path sink sink' medium medium' order syncs refused status
  cut_short : (text : List ℕ) → refused ≡ None → status ≡ 5
      → Rose medium.counts.read_faults medium'.counts.read_faults ⊎ (tells → ⊥) → (tells → BeginsFile path medium.contents text)
      → EndsBefore tells text sink sink' medium medium' order syncs → PrintsWhole sink sink' text
      → GetEnds tells path sink sink' medium medium' order syncs refused status
