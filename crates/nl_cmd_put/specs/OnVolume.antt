-- A file was put on the volume of a medium: how that ended, and what is then said of the medium.
use Rattle.std.specs.Prelude.{◌≡◌, ◌⊎◌, ℕ, ◌+◌, ◌≤◌, Bool, false, List, [], ◌∷◌, length, take, Option, None, Some}
use Rattle.nl_field.specs.Members.{Has}
use Rattle.nl_spec_headline.specs.Course.{Course, RepliedLine, calls_in, run_in, tree_after as tree_of_course}
use Rattle.nl_spec_headline.specs.Headline.{BeginsSpelled, CrashesLeavePrefixes, EndsAfterAll, IsYoung, OpensAs}
use Rattle.nl_spec_headline.specs.Status.{HaveCauses}
use Rattle.nl_spec_headline.specs.Streams.{Medium, MediumRose}
use Rattle.nl_spec_image.specs.Crash.{Run}
use Rattle.nl_tree.specs.Causes.{HasCause}
use Rattle.nl_tree.specs.Order.{SyncPoint}
use Rattle.nl_tree.specs.Replay.{replay}
use Rattle.nl_tree.specs.declared.call.Call.{Call}
use Rattle.nl_tree.specs.declared.call.Call.TheVariants.{Sync}
use Rattle.nl_tree.specs.declared.reply.FaultReply.{FaultReply}
use Rattle.nl_tree.specs.declared.reply.Reply.TheVariants.{Synced}
use Rattle.nl_put_tree.specs.Putting.{IsBeside, IsPut, IsUnderWay, Path, Refuses}
use Rattle.nl_cmd_put.specs.declared.ending.End.{End}
use Rattle.nl_cmd_put.specs.declared.ending.End.TheVariants as ends

-- ---- what is said of the medium

-- the last of a list, if it has one
abbrev pub last_of : {A : Type 0} → List A → Option A
last_of [] = None
last_of (x ∷ []) = Some x
last_of (x ∷ y ∷ xs) = last_of (y ∷ xs)

-- Where a put ended with a whole file: its last call is a sync, which made all calls before it durable, within these moments.
pub record IsDurable (course : Course) (first last : ℕ) : Type 0 where
  pub sync : SyncPoint
  pub listed : Has (run_in course).syncs sync
  pub final : RepliedLine
  pub is_final : last_of course.answers ≡ Some final
  pub is_sync : (final.line.call ≡ Sync) × (final.reply ≡ Synced sync.upto sync.moment)
  pub all : course.count + length course.answers ≤ sync.upto + 1
  pub moment : (first ≤ sync.moment) × (sync.moment ≤ last)

-- How the put ended, of its course.
abbrev pub CourseEnds : Type 0 → Path → Path → List ℕ → Medium → Medium → Course → End → Type 0
CourseEnds tells own path bytes medium medium' course (ends.Put count) =
    (count ≡ length bytes) × IsDurable course medium.counts.clock medium'.counts.clock
    × (tells → IsPut course.tree path bytes (tree_of_course course))
CourseEnds tells own path bytes medium medium' course (ends.Refused refusal) =
    tells → (tree_of_course course ≡ course.tree) × Refuses course.shape course.tree own path bytes refusal
CourseEnds tells own path bytes medium medium' course ends.Memory = tells → tree_of_course course ≡ course.tree
CourseEnds tells own path bytes medium medium' course ends.Fault =
    ((call : Call) × (fault : FaultReply) × HasCause tells medium.counts medium'.counts course.next_stamp call fault) ⊎ (tells → ⊥)

-- A put was run on the volume of a medium, which was closed. It opened as a tree; what a stop leaves opens as the tree after some of its
-- calls, and after each of them the path has what it had or the whole file, and every other path but the one of its own what it had.
pub record RunsPut (tells : Type 0) (path : Path) (bytes : List ℕ) (stops : Run → Type 0) (medium medium' : Medium) (end : End)
    (lost worn : Bool) (course : Course) : Type 0 where
  pub opens : tells → OpensAs medium.contents course
  pub begins : BeginsSpelled course
  pub own : Path
  pub beside : IsBeside path own
  pub under_way : tells → (n : ℕ)
      → IsUnderWay course.tree own path bytes (replay course.shape course.tree (take n (calls_in course)))
  pub ended : CourseEnds tells own path bytes medium medium' course end
  pub causes : HaveCauses tells medium.counts medium'.counts course.next_stamp lost worn
  pub stopped : tells → IsYoung medium.contents medium.counts medium'.counts course
      → CrashesLeavePrefixes medium.contents medium.counts stops course
  pub ends : tells → IsYoung medium.contents medium.counts medium'.counts course → (MediumRose medium medium' → ⊥) → worn ≡ false
      → EndsAfterAll medium'.contents course
