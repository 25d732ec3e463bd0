-- Where nothing fails, a file is put, or refused.
use Rattle.std.proofs.Common.{◌≡◌, ◌+◌, ◌-◌, ◌<◌, ℕ, Bool, true, false, List, inl, inr, arith}
use Rattle.std.specs.Prelude.{◌^◌, Option}
use Rattle.nl_field.specs.CrashStates.{Rose}
use Rattle.nl_field.specs.Scan.{next_stamp_of}
use Rattle.nl_spec_headline.specs.Status.{DoneStatus}
use Rattle.nl_spec_headline.specs.Streams.{Medium, Stream}
use Rattle.nl_spec_headline.specs.declared.lists.Ordered.{Ordered}
use Rattle.nl_spec_headline.specs.declared.lists.Synced.{Synced}
use Rattle.nl_spec_image.specs.Crash.{Run}
use Rattle.nl_tree.specs.declared.reply.Refusal.{Refusal}
use Rattle.nl_cmd_words.specs.Complete.{CountsLast, NothingRose, OpeningCompletes, StartsConsistent}
use Rattle.nl_cmd_words.proofs.Causeless.{never_worn, no_cause}
use Rattle.nl_cmd_put.specs.Complete.{IsPutOrRefused, PutCompletes}
use Rattle.nl_cmd_put.specs.OnVolume.{CourseEnds}
use Rattle.nl_cmd_put.specs.Putting.{BytesEnd, PutEnds, PutFailed, PutRan, TellsEnd, TellsPut, all_read, at_root, no_memory, no_memory_to_read, not_opened, put_text, ran, source_fault, too_long}
use Rattle.nl_cmd_put.specs.declared.ending.End.{End}
use Rattle.nl_cmd_put.specs.declared.ending.End.TheVariants as ends

module _ (tells : Type 0) (opening_completes : OpeningCompletes tells) (path : List (List ℕ)) (nothing : Type 0) (stops : Run → Type 0) (source source' sink sink' : Stream) (medium medium' : Medium)
    (order : List Ordered) (syncs : List Synced) (refused : Option Refusal) (status count : ℕ) (starts : StartsConsistent tells medium count) (none : NothingRose source source' sink sink' medium medium') (last : CountsLast medium medium') where
  module _ (bytes : List ℕ) (r : PutRan tells path bytes stops sink sink' medium medium' order syncs refused status) where
    stamps : r.course.next_stamp + (medium'.counts.clock - medium.counts.clock) < 2 ^ 62
    stamps =
        let stamp : r.course.next_stamp ≡ next_stamp_of medium.contents = (r.runs.opens starts.told).next_stamp in
        let few = last.stamps in
        omega (arith, stamp, few)

    reads : Rose medium.counts.read_faults medium'.counts.read_faults → ⊥
    reads rose = none.medium_stays (inl rose)

    writes : Rose medium.counts.write_faults medium'.counts.write_faults → ⊥
    writes rose = none.medium_stays (inr rose)

    lost_not : (lost : Bool) → lost ≡ false → lost ≡ true → ⊥
    lost_not lost found not_found = cc (found, not_found)

    not_failed : PutFailed medium medium' r.lost r.worn → ⊥
    not_failed (inl rose) = none.medium_stays rose
    not_failed (inr (inl lost)) = lost_not r.lost (r.runs.causes.lost_is starts.told) lost
    not_failed (inr (inr worn)) = never_worn tells medium.counts medium'.counts r.course.next_stamp starts.told reads writes last.clock stamps last.faults (r.runs.causes.worn_is worn)

    was_done : (text : List ℕ) → DoneStatus status ⊥ sink sink' text → IsPutOrRefused status
    was_done text (inl five) = absurd five.1
    was_done text (inr (inl four)) = absurd (none.sink_stays four.2)
    was_done text (inr (inr zero)) = inl zero.0

    told : (end : End) → CourseEnds tells r.runs.own path bytes medium medium' r.course end → TellsEnd end sink sink' refused status → IsPutOrRefused status
    told (ends.Put n) is (is_none, prints, done) = was_done (put_text n) done
    told (ends.Refused refusal) is (is_some, two, same) = inr (inl two)
    told ends.Memory is (is_none, six, prints) = inr (inr six)
    told ends.Fault (inl (call, fault, cause)) is = absurd (no_cause tells medium.counts medium'.counts r.course.next_stamp starts.told reads writes last.clock stamps last.faults call fault cause)
    told ends.Fault (inr untold) is = absurd (untold starts.told)

    was_told : TellsPut r.end (PutFailed medium medium' r.lost r.worn) sink sink' refused status → IsPutOrRefused status
    was_told (inl (failed, is_none, five, same)) = absurd (not_failed failed)
    was_told (inr (sound, is)) = told r.end r.runs.ended is

  of_bytes : (bytes : List ℕ) → BytesEnd tells path bytes nothing stops sink sink' medium medium' order syncs refused status → IsPutOrRefused status
  of_bytes bytes (at_root is before) = inr (inl before.status_is)
  of_bytes bytes (no_memory six is_none leaves before) = inr (inr six)
  of_bytes bytes (not_opened text why is_none leaves before) = inr (inr (opening_completes source source' sink sink' medium medium' status count text why starts none))
  of_bytes bytes (ran r) = was_told bytes r r.told

  of_source : PutEnds tells path nothing stops source source' sink sink' medium medium' order syncs refused status → IsPutOrRefused status
  of_source (source_fault three rose is_none leaves before) = absurd (none.source_stays rose)
  of_source (no_memory_to_read six is_none leaves before) = inr (inr six)
  of_source (too_long read long begins before) = inr (inl before.status_is)
  of_source (all_read bytes whole is) = of_bytes bytes is

pub put_completes : (tells : Type 0) → OpeningCompletes tells → (nothing : Type 0) (stops : Run → Type 0) → PutCompletes tells nothing stops
put_completes tells opening nothing stops path source source' sink sink' medium medium' order syncs refused status count ends starts none last =
    of_source tells opening path nothing stops source source' sink sink' medium medium' order syncs refused status count starts none last ends
