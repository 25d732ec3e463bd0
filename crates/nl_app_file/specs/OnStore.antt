-- How the words of a command line end on a store of bytes: as on a medium, with what it holds, and what a stop leaves, in words of the
-- bytes.
use Rattle.std.specs.Prelude.{◌≡◌, ◌⊎◌, ◌+◌, ℕ, Bool, true, false, IsTrue, List, Option}
use Rattle.nl_app_process.specs.declared.notice.Notice.{Notice}
use Rattle.nl_app_process.specs.declared.notice.Notice.TheVariants as notice
use Rattle.nl_field.specs.CrashStates.{saturated}
use Rattle.nl_field.specs.Page.{Image}
use Rattle.nl_store.specs.declared.store.Store.{Ghosts}
use Rattle.nl_imgfile.specs.DiskImage.{SameOrBlank, image_of_store}
use Rattle.nl_spec_image.specs.Crash.{CrashesSafely}
use Rattle.nl_spec_image.specs.Stands.{ConsistentAs}
use Rattle.nl_volume_format.specs.Making.{OpensAsNew}
use Rattle.nl_cmd_words.specs.Command.{command_of}
use Rattle.nl_cmd_words.specs.Complete.{NothingRose}
use Rattle.nl_cmd_words.specs.Paths.{path_word}
use Rattle.nl_spec_headline.specs.Streams.{Medium, Stream}
use Rattle.nl_spec_headline.specs.declared.lists.Ordered.{Ordered}
use Rattle.nl_spec_headline.specs.declared.lists.Synced.{Synced}
use Rattle.nl_tree.specs.declared.reply.Refusal.{Refusal}
use Rattle.nl_top.specs.Complete.{CarriesOut}
use Rattle.nl_top.specs.Ends.{CallEnds, MayRefuse}
use Rattle.nl_top.specs.Leaving.{Leaving, nothing_new, new_volume, prefixes_of}
use Rattle.nl_app_file.specs.Ended.{forms}

-- the images that the bytes are which a kill at a moment may have left
abbrev pub images_left : {B : Type 0} → Ghosts B → B → ℕ → Image → Type 0
images_left g s moment image = (bytes : List ℕ) × g.left s moment bytes × (image ≡ image_of_store bytes)

-- What a call leaves that took the store from the first of these to the second. Of a store that does not tell its bytes nothing is said.
abbrev pub leaves_in_store : {B : Type 0} → Ghosts B → B → B → Leaving → Type 0
leaves_in_store g old new nothing_new =
    IsTrue g.tells → (moment : ℕ) (image : Image) → images_left g new moment image → images_left g old moment image
leaves_in_store g old new new_volume =
    IsTrue g.tells → (moment : ℕ) (image : Image) → images_left g new moment image → images_left g old moment image ⊎ OpensAsNew image
leaves_in_store g old new (prefixes_of run) =
    IsTrue g.tells → CrashesSafely ConsistentAs (images_left g old) (images_left g new) (g.moment old) (g.moment new) run

-- What is said of the end is said of the image that the bytes are; after a command that forms the medium, where one of the two has a page
-- that is not erased.
abbrev pub SeenInStore : Bool → Image → Image → Type 0
SeenInStore true image shown = SameOrBlank image shown
SeenInStore false image shown = shown ≡ image

-- the medium's clock was and is the store's moment, and its counts of faults were and are the store's
pub record CountsOfStore {B : Type 0} (g : Ghosts B) (old new : B) (before after : Medium) : Type 0 where
  pub clock_first : before.counts.clock ≡ g.moment old
  pub clock_last : after.counts.clock ≡ g.moment new
  pub reads_first : before.counts.read_faults ≡ g.read_faults old
  pub reads_last : after.counts.read_faults ≡ g.read_faults new
  pub writes_first : before.counts.write_faults ≡ g.write_faults old
  pub writes_last : after.counts.write_faults ≡ g.write_faults new

-- The call ends as a call of `nameless` on a medium that held the image that the store's bytes were, and counted as the store does.
pub record EndsOnStore {B : Type 0} (g : Ghosts B) (words : List (List ℕ)) (old new : B) (source source' sink sink' : Stream)
    (refused : Option Refusal) (status : ℕ) : Type 0 where
  pub before : Medium
  pub after : Medium
  pub order : List Ordered
  pub syncs : List Synced
  pub starts : IsTrue g.tells → before.contents ≡ image_of_store (g.bytes old)
  pub holds : IsTrue g.tells → SeenInStore (forms (command_of words)) (image_of_store (g.bytes new)) after.contents
  pub counts : CountsOfStore g old new before after
  pub ends : CallEnds (IsTrue g.tells) words (leaves_in_store g old new) source source' sink sink' before after order syncs refused status
  pub refused_only : MayRefuse (command_of words) refused
  pub carries_out : NothingRose source source' sink sink' before after
      → CarriesOut (command_of words) (path_word words) (IsTrue g.tells) source before after order status

-- Why a notice came in the place of a status: one read of the store failed, and was counted; or memory was wanting, and nothing was done to
-- it. No other notice comes of a store.
abbrev pub HasNoticeCause : {B : Type 0} → (B → ℕ) → Notice → B → B → Type 0
HasNoticeCause read_faults notice.MediumFault old new = read_faults new ≡ saturated (read_faults old + 1)
HasNoticeCause read_faults notice.Memory old new = new ≡ old
HasNoticeCause read_faults notice.Words old new = ⊥
HasNoticeCause read_faults notice.MediumInUse old new = ⊥
