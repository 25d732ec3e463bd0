-- The seven sentences on a run: as what it opened, the one order of its lines, their answers, the printed text, the syncs, what a stop
-- leaves, and what the medium holds at the end. All of them speak of one course.
use Rattle.std.specs.Prelude.{◌≡◌, ℕ, ◌+◌, ◌-◌, ◌<◌, ◌≤◌, ◌^◌, Bool, false, List, map, filter_map, slice_get, IfSome, Ok}
use Rattle.nl_field.specs.Medium.{shape_of_image}
use Rattle.nl_field.specs.Page.{Image}
use Rattle.nl_field.specs.Scan.{next_stamp_of}
use Rattle.nl_field.specs.Virtual.{virtual_bytes}
use Rattle.nl_meta.specs.Committed.{next_number}
use Rattle.nl_script.specs.Script.{script}
use Rattle.nl_spec_image.specs.Crash.{OpensAsPrefix, Run}
use Rattle.nl_spec_image.specs.Stands.{ConsistentAs}
use Rattle.nl_tree.specs.Causes.{AreOneNumber, Counts, DifferBelowTop, HasCause, eio_of, erofs_of, fault_in}
use Rattle.nl_tree.specs.Order.{AreSyncs, IsOrderOf}
use Rattle.nl_tree.specs.Replay.{Answers, answer_due}
use Rattle.nl_tree.specs.declared.call.Line.{Line}
use Rattle.nl_spec_headline.specs.Course.{Course, RepliedLine, calls_in, count_after, line_sync_of, lines_in, order_in, replies_in, run_in, tree_after}
use Rattle.nl_spec_headline.specs.Streams.{Medium, MediumRose, ReadsWhole, Stream}
use Rattle.nl_spec_headline.specs.declared.lists.Ordered.{Ordered}
use Rattle.nl_spec_headline.specs.declared.lists.Synced.{Synced}

-- ---- premises

-- The clock, the last place and the numbers of transactions stay below 2^63. The number of the last transaction rises by no more than the
-- clock.
pub record IsYoung (image : Image) (before now : Counts) (course : Course) : Type 0 where
  pub clock : now.clock < 2 ^ 63
  pub places : count_after course < 2 ^ 63
  pub transactions : next_number (shape_of_image image) (virtual_bytes image) + (now.clock - before.clock) < 2 ^ 63

-- ---- the start

-- The image is consistent, and represents the tree after the count of calls with which the volume opened.
pub record OpensAs (image : Image) (course : Course) : Type 0 where
  pub sound : ConsistentAs image course.count course.tree
  pub shape : course.shape ≡ shape_of_image image
  pub next_stamp : course.next_stamp ≡ next_stamp_of image

-- Over any medium the volume opens with no greater count of calls than a super page can spell, and with a next write sequence number from 1
-- to 2^63. Which, only a medium tells that tells its contents.
pub record BeginsSpelled (course : Course) : Type 0 where
  pub count : course.count < 2 ^ 63
  pub next_stamp : (0 < course.next_stamp) × (course.next_stamp ≤ 2 ^ 63)

-- ---- the order

-- The source was read to its end, and what it had left is a script of these lines.
pub record ReadsScript (source source' : Stream) (lines : List Line) : Type 0 where
  pub bytes : List ℕ
  pub whole : ReadsWhole source source' bytes
  pub script_is : script bytes ≡ Ok lines

-- The list that is told is the one order of the answered lines: each line of the script once and no other, and none before one that has to
-- precede it.
pub record IsOneOrder (lines : List Line) (order : List Ordered) (course : Course) : Type 0 where
  pub in_order : IsOrderOf lines (lines_in course)
  pub told : order ≡ order_in course

-- ---- the answers

-- Each answer is what the plain tree replies after those before it, with the fault replies of the list itself; and each fault reply has its
-- cause between start and end. Below the greatest, each failed line has a number of its own; lines refused by a read-only volume have one
-- number.
pub record AnswersByTree (tells : Type 0) (before now : Counts) (course : Course) : Type 0 where
  pub due : tells → (i : ℕ) → IfSome (slice_get course.answers i)
      (λ a. IfSome (answer_due course.shape course.tree (calls_in course) i) (λ due. Answers due a.reply a.bytes))
  pub causes : (i : ℕ)
      → IfSome (slice_get course.answers i) (λ a. IfSome (fault_in a.reply) (HasCause tells before now course.next_stamp a.line.call))
  pub failed : DifferBelowTop (filter_map (λ (a : RepliedLine). eio_of (fault_in a.reply)) course.answers)
  pub refused : AreOneNumber (filter_map (λ (a : RepliedLine). erofs_of (fault_in a.reply)) course.answers)

-- ---- the syncs

-- The syncs that were answered ok, by place, each with how many calls it made durable and when.
abbrev pub TellsSyncs : Counts → Counts → Course → List Synced → Type 0
TellsSyncs before now course syncs = AreSyncs course.count before.clock now.clock (replies_in course) (map line_sync_of syncs)

-- ---- stops

-- What `stops` says of the run: what a stop at any moment leaves was left before the call, or is consistent, and represents the tree after
-- a prefix of the list that has every call made durable by then. What there was at the start is so too, at that moment.
pub record CrashesLeavePrefixes (image : Image) (before : Counts) (stops : Run → Type 0) (course : Course) : Type 0 where
  pub starts : OpensAsPrefix ConsistentAs (run_in course) before.clock image
  pub leaves : stops (run_in course)

-- ---- the end

-- The medium ends consistent, and represents the tree after all calls of the list.
abbrev pub EndsAfterAll : Image → Course → Type 0
EndsAfterAll image course = ConsistentAs image (count_after course) (tree_after course)

-- ---- all of them

-- What a call of the store says of a run of these lines. What the medium held is spoken of where it tells its contents, and what counts
-- bound while they last. `worn`: closing found the write sequence numbers exhausted.
pub record RunsLines (tells : Type 0) (lines : List Line) (stops : Run → Type 0) (medium medium' : Medium) (order : List Ordered)
    (syncs : List Synced) (worn : Bool) (course : Course) : Type 0 where
  pub opens : tells → OpensAs medium.contents course
  pub begins : BeginsSpelled course
  pub order_is : IsOneOrder lines order course
  pub answers : AnswersByTree tells medium.counts medium'.counts course
  pub syncs_are : TellsSyncs medium.counts medium'.counts course syncs
  pub stopped : tells → IsYoung medium.contents medium.counts medium'.counts course
      → CrashesLeavePrefixes medium.contents medium.counts stops course
  pub ends : tells → IsYoung medium.contents medium.counts medium'.counts course → (MediumRose medium medium' → ⊥) → worn ≡ false
      → EndsAfterAll medium'.contents course
