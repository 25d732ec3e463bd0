-- How a command ends that opens the volume of a medium and prints what it sees: with which status, text and cause, and what it then says of
-- sink and medium.
use Rattle.std.specs.Prelude.{◌≡◌, ◌⊎◌, ℕ, List, ◌++◌}
use Rattle.nl_cmd_words.specs.Ends.{EndsBefore, NotOpened}
use Rattle.nl_field.specs.CrashStates.{Rose}
use Rattle.nl_field.specs.Medium.{shape_of_image}
use Rattle.nl_field.specs.Page.{Image}
use Rattle.nl_field.specs.Scan.{greatest_wear, least_wear, next_stamp_of}
use Rattle.nl_spec_headline.specs.Status.{DoneStatus}
use Rattle.nl_spec_headline.specs.Streams.{Medium, MediumRose, PrintsWhole, Stream}
use Rattle.nl_spec_headline.specs.declared.lists.Ordered.{Ordered}
use Rattle.nl_spec_headline.specs.declared.lists.Synced.{Synced}
use Rattle.nl_core_open.specs.Figures.{pairs_of}
use Rattle.nl_print.specs.Texts.{report_text, tree_text}
use Rattle.nl_spec_image.specs.Stands.{ConsistentAs}
use Rattle.nl_tree.specs.Charges.{data_charge, meta_charge, node_charge}
use Rattle.nl_tree.specs.Tree.{Tree}

-- The text is that of the tree as which the image is sound, after its count of calls.
pub record ShowsTree (image : Image) (text : List ℕ) : Type 0 where
  pub count : ℕ
  pub tree : Tree
  pub sound : ConsistentAs image count tree
  pub text_is : text ≡ tree_text count tree

-- The text tells the charges of the tree as which the image is sound, the pairs right after an opening, and the wear and the next write
-- sequence number of the readable pages.
pub record ReportsImage (image : Image) (text : List ℕ) : Type 0 where
  pub count : ℕ
  pub tree : Tree
  pub sound : ConsistentAs image count tree
  pub text_is : text
      ≡ report_text (shape_of_image image) count (data_charge tree) (node_charge tree) (meta_charge tree) (pairs_of image)
      (least_wear image) (greatest_wear image) (next_stamp_of image)

-- No volume was opened. Or the sink is given the text, and no read has failed. Which text that is is said where the medium tells its
-- contents.
pub data LookEnds (tells : Type 0) (shows : Image → List ℕ → Type 0) (sink sink' : Stream) (medium medium' : Medium) (order : List Ordered) (syncs : List Synced) (status : ℕ) : Type 0 where
  not_seen : (text : List ℕ) → NotOpened tells medium medium' status text → EndsBefore tells text sink sink' medium medium' order syncs
      → LookEnds tells shows sink sink' medium medium' order syncs status
  seen : (text : List ℕ) → (tells → shows medium.contents text) → medium'.counts.read_faults ≡ medium.counts.read_faults
      → EndsBefore tells text sink sink' medium medium' order syncs → DoneStatus status (MediumRose medium medium') sink sink' text
      → LookEnds tells shows sink sink' medium medium' order syncs status

-- Paths are looked at so. Or a read failed while they were printed, or a page was lost, which it is only where the medium does not tell its
-- contents: then the sink is given a beginning of the text.
pub data TreeEnds (tells : Type 0) (sink sink' : Stream) (medium medium' : Medium) (order : List Ordered) (syncs : List Synced) (status : ℕ) : Type 0 where
  not_cut : LookEnds tells ShowsTree sink sink' medium medium' order syncs status
      → TreeEnds tells sink sink' medium medium' order syncs status
  cut_short : (text rest : List ℕ) → status ≡ 5 → Rose medium.counts.read_faults medium'.counts.read_faults ⊎ (tells → ⊥)
      → (tells → ShowsTree medium.contents (text ++ rest))
      → EndsBefore tells text sink sink' medium medium' order syncs → PrintsWhole sink sink' text
      → TreeEnds tells sink sink' medium medium' order syncs status
