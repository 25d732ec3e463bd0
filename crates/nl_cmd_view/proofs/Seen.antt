-- How a command ends that printed what it saw of a volume.
use Rattle.std.proofs.Common.{◌≡◌, ◌≤◌, ◌∙◌, ℕ, List, [], ◌++◌, length, drop, inl, inr, refl, sym, ap, subst}
use Rattle.std.proofs.lemmas.List.{take-append-drop}
use Rattle.std.specs.Prelude.{◌⊎◌}
use Rattle.nl_cmd_words.specs.Ends.{EndsBefore, IsStatusOf, NotOpened}
use Rattle.nl_field.specs.CrashStates.{Rose}
use Rattle.nl_field.specs.Page.{Image}
use Rattle.nl_spec_headline.specs.Streams.{Medium, MediumRose, Prints, Stream, Untouched, medium}
use Rattle.nl_spec_headline.specs.declared.lists.Ordered.{Ordered}
use Rattle.nl_spec_headline.specs.declared.lists.Synced.{Synced}
use Rattle.nl_iface.specs.declared.counts.Counts.{Ghosts}
use Rattle.nl_io.specs.Streams.{WritesStream}
use Rattle.nl_io.specs.declared.sink.SinkAnswer.{SinkAnswer}
use Rattle.nl_io.specs.declared.sink.SinkAnswer.TheVariants as answers
use Rattle.nl_nand.specs.declared.geometry.Geometry.{Geometry}
use Rattle.nl_core_open.specs.Opening.{OnlyReadsMedium}
use Rattle.nl_io.proofs.StreamsLaws.{stopped}
use Rattle.nl_cmd_print.specs.Showing.{IsTextPrefix, IsShown, ReadsFor, sink_answer}
use Rattle.nl_cmd_print.specs.declared.paths.Shown.{Shown}
use Rattle.nl_cmd_print.specs.declared.paths.Shown.TheVariants as shown
use Rattle.nl_cmd_view.specs.Looking.{LookEnds, ShowsTree, TreeEnds, cut_short, not_cut, not_seen, seen}

-- ---- no volume

-- the medium that comes back is one that was only read
module _ {M : Type 0} (tells : Type 0) (geometry : M → Geometry) (contents : M → Image) (clock read_faults write_faults : M → ℕ) (left : M → ℕ → Image → Type 0) (old mid new : M)
    (only : OnlyReadsMedium tells contents clock write_faults left old mid) (same : new ≡ mid) where
  abbrev pub at : M → Medium
  at m = medium (geometry m) (contents m) (clock m) (read_faults m) (write_faults m)

  pub untouched_by : Untouched tells (at old) (at new)
  untouched_by = record {
    same_contents = λ told. ap contents same ∙ only.same_contents told;
    same_clock = ap clock same ∙ only.same_clock;
    same_write_faults = ap write_faults same ∙ only.same_write_faults;
  }

  pub no_more_left : tells → (m : ℕ) (c : Image) → left new m c → left old m c
  no_more_left told m c was = only.no_more_left told m c (subst (λ (x : M). left x m c) same was)

  -- why there is no volume was printed
  pub was_not_seen : (shows : Image → List ℕ → Type 0) (sink sink' : Stream) (order : List Ordered) (syncs : List Synced) (status : ℕ) → order ≡ [] → syncs ≡ []
      → (text : List ℕ) × NotOpened tells (at old) (at new) status text × Prints sink sink' text → LookEnds tells shows sink sink' (at old) (at new) order syncs status
  was_not_seen shows sink sink' order syncs status no_lines no_syncs (text, why, prints) =
      not_seen text why (record { prints = prints; untouched = untouched_by; no_lines = no_lines; no_syncs = no_syncs })

-- ---- causes

pub fault_rose : {D : Type 0} (g : Ghosts D) (s t : D) (answer : Shown) → ReadsFor g s t answer → answer ≡ shown.Fault → Rose (g.read_faults s) (g.read_faults t)
fault_rose g s t answer reads is = (subst (ReadsFor g s t) is reads).cause tt

pub lost_untold : {D : Type 0} (g : Ghosts D) (s t : D) (answer : Shown) → ReadsFor g s t answer → answer ≡ shown.Lost → g.tells → ⊥
lost_untold g s t answer reads is = (subst (ReadsFor g s t) is reads).1

-- no read failed where the sink was given all, or failed itself
pub all_still : {D : Type 0} (g : Ghosts D) (s t : D) (answer : Shown) → ReadsFor g s t answer → answer ≡ shown.All → g.read_faults t ≡ g.read_faults s
all_still g s t answer reads is = subst (ReadsFor g s t) is reads

pub not_taken_still : {D : Type 0} (g : Ghosts D) (s t : D) (answer : Shown) → ReadsFor g s t answer → answer ≡ shown.NotTaken → g.read_faults t ≡ g.read_faults s
not_taken_still g s t answer reads is = subst (ReadsFor g s t) is reads

-- the counts of faults before were these
pub status_since : (reads writes status : ℕ) (answer : SinkAnswer) (start middle : Medium) → (reads ≡ start.counts.read_faults) × (writes ≡ start.counts.write_faults)
    → IsStatusOf status (Rose reads middle.counts.read_faults ⊎ Rose writes middle.counts.write_faults) answer → IsStatusOf status (MediumRose start middle) answer
status_since reads writes status answer start middle before =
    subst (λ (k : ℕ × ℕ). IsStatusOf status (Rose k.0 middle.counts.read_faults ⊎ Rose k.1 middle.counts.write_faults) answer) (λ j. (before.0 j, before.1 j))

-- ---- endings

-- the whole, as a beginning and a rest
with_rest : (text whole : List ℕ) → IsTextPrefix text whole → text ++ drop (length text) whole ≡ whole
with_rest text whole begins = ap (λ (t : List ℕ). t ++ drop (length text) whole) begins ∙ take-append-drop (length text) whole

-- A command has only read the medium and lists no line.
pub record Looked (tells : Type 0) (sink sink' : Stream) (start middle : Medium) (order : List Ordered) (syncs : List Synced) : Type 0 where
  pub untouched : Untouched tells start middle
  pub no_lines : order ≡ []
  pub no_syncs : syncs ≡ []
  pub later : sink.faults ≤ sink'.faults

differ : answers.Took ≡ answers.Failed → ⊥
differ e = cc

module _ (tells : Type 0) (sink sink' : Stream) (start middle : Medium) (order : List Ordered) (syncs : List Synced) (status : ℕ) (looks : Looked tells sink sink' start middle order syncs) where
  ends_before : (answer : SinkAnswer) (text : List ℕ) → WritesStream sink.bytes sink'.bytes answer text → (answer ≡ answers.Failed → Rose sink.faults sink'.faults) → EndsBefore tells text sink sink' start middle order syncs
  ends_before answer text taken cause =
      record {
        prints = record { answer = answer; taken = taken; never_falls = looks.later; cause = cause };
        untouched = looks.untouched;
        no_lines = looks.no_lines;
        no_syncs = looks.no_syncs;
      }

  -- the sink was given a text, and no read has failed
  pub was_seen : (shows : Image → List ℕ → Type 0) (answer : SinkAnswer) (text : List ℕ) → (tells → shows start.contents text) → middle.counts.read_faults ≡ start.counts.read_faults
      → WritesStream sink.bytes sink'.bytes answer text → (answer ≡ answers.Failed → Rose sink.faults sink'.faults) → IsStatusOf status (MediumRose start middle) answer
      → LookEnds tells shows sink sink' start middle order syncs status
  was_seen shows answer text shown still taken cause done = seen text shown still (ends_before answer text taken cause) (done sink sink' text taken cause)

  -- the sink was given the paths of a tree, or a beginning of them
  module _ (whole text : List ℕ) (shown_whole : tells → ShowsTree start.contents whole) where
    shown_rest : text ++ drop (length text) whole ≡ whole → tells → ShowsTree start.contents (text ++ drop (length text) whole)
    shown_rest is t = subst (ShowsTree start.contents) (sym is) (shown_whole t)

    pub was_shown : (answer : Shown) → (tells → IsShown answer text whole) → WritesStream sink.bytes sink'.bytes (sink_answer answer) text → (answer ≡ shown.NotTaken → Rose sink.faults sink'.faults)
        → (answer ≡ shown.All → middle.counts.read_faults ≡ start.counts.read_faults) → (answer ≡ shown.NotTaken → middle.counts.read_faults ≡ start.counts.read_faults)
        → (answer ≡ shown.Fault → Rose start.counts.read_faults middle.counts.read_faults) → (answer ≡ shown.Lost → tells → ⊥)
        → (answer ≡ shown.Fault → status ≡ 5) → (answer ≡ shown.Lost → status ≡ 5) → (answer ≡ shown.All → IsStatusOf status (MediumRose start middle) answers.Took)
        → (answer ≡ shown.NotTaken → IsStatusOf status (MediumRose start middle) answers.Failed) → TreeEnds tells sink sink' start middle order syncs status
    was_shown shown.All is taken cause still still_not rose untold fault lost all failed =
        not_cut (was_seen ShowsTree answers.Took text (λ t. subst (ShowsTree start.contents) (sym (is t)) (shown_whole t)) (still refl) taken (λ f. absurd (differ f)) (all refl))
    was_shown shown.NotTaken is taken cause still still_not rose untold fault lost all failed =
        not_cut
        (was_seen ShowsTree answers.Failed (text ++ drop (length text) whole) (λ t. shown_rest (with_rest text whole (is t)) t) (still_not refl) (stopped sink.bytes sink'.bytes text (drop (length text) whole) taken)
        (λ f. cause refl) (failed refl))
    was_shown shown.Fault is taken cause still still_not rose untold fault lost all failed =
        cut_short text (drop (length text) whole) (fault refl) (inl (rose refl)) (λ t. shown_rest (with_rest text whole (is t)) t) (ends_before answers.Took text taken (λ f. absurd (differ f))) taken
    was_shown shown.Lost is taken cause still still_not rose untold fault lost all failed =
        cut_short text (drop (length text) whole) (lost refl) (inr (untold refl)) (λ t. shown_rest (with_rest text whole (is t)) t) (ends_before answers.Took text taken (λ f. absurd (differ f))) taken
