-- An ending, with something else said of what a stop leaves.
use Rattle.std.proofs.Common.{◌≡◌, ℕ, List, [], Bool, true, false, refl, sym, ◌∙◌, ap, subst}
use Rattle.std.specs.Prelude.{⊤, IsTrue, Option, None, Some, codes}
use Rattle.nl_cmd_words.specs.Command.{command_of}
use Rattle.nl_cmd_words.specs.Ends.{EndsBefore}
use Rattle.nl_cmd_words.specs.declared.command.Command.{Command}
use Rattle.nl_field.specs.Page.{Image}
use Rattle.nl_nand.specs.declared.geometry.Geometry.{Geometry}
use Rattle.nl_spec_headline.specs.Course.{Course}
use Rattle.nl_spec_headline.specs.Headline.{CrashesLeavePrefixes, RunsLines}
use Rattle.nl_spec_headline.specs.Streams.{Medium, Prints, Stream, medium}
use Rattle.nl_spec_headline.specs.declared.lists.Ordered.{Ordered}
use Rattle.nl_spec_headline.specs.declared.lists.Synced.{Synced}
use Rattle.nl_store.specs.declared.store.Store.{Ghosts}
use Rattle.nl_cmd_words.specs.Paths.{path_word}
use Rattle.nl_tree.specs.declared.call.Line.{Line}
use Rattle.nl_tree.specs.declared.reply.Refusal.{Refusal}
use Rattle.nl_imgfile.specs.DiskImage.{image_of_store}
use Rattle.nl_tree.specs.declared.reply.Refusal.TheVariants.{Efbig, Eisdir}
use Rattle.nl_cmd_put.specs.Putting.{BytesEnd, PutEnds, PutRan, RefusedBefore, all_read, at_root, no_memory, no_memory_to_read, not_opened, too_long}
use Rattle.nl_cmd_put.specs.Putting.{ran as put_ran, source_fault as put_source_fault}
use Rattle.nl_top.specs.Complete.{CarriesOut}
use Rattle.nl_top.specs.Leaving.{Leaving, new_volume, nothing_new, prefixes_of}
use Rattle.nl_top.specs.Ends.{CallEnds, MayRefuse, checks, compares, faulty_words, formats, gets, maps, maps_as_picture, puts, reports, runs, shows_tree, soaks}
use Rattle.nl_top.specs.Soak.{Summarises}
use Rattle.nl_top.specs.RunEnds.{RunEnds, ScriptEnds, PrintsAnswers, not_run, ran, runs_script, script_refused, source_fault, source_no_memory}
use Rattle.nl_app_file.specs.Ended.{EndsOnFile, forms}
use Rattle.nl_app_file.specs.OnStore.{EndsOnStore, SeenInStore, leaves_in_store}

module _ {tells : Type 0} {leaves leaves' : Leaving → Type 0} (by : (l : Leaving) → leaves l → leaves' l) (source source' sink sink' : Stream) (medium medium' : Medium) (order : List Ordered) (syncs : List Synced) (refused : Option Refusal) (status : ℕ) where
  lines_by : (lines : List Line) (worn : Bool) (course : Course) → RunsLines tells lines (λ run. leaves (prefixes_of run)) medium medium' order syncs worn course → RunsLines tells lines (λ run. leaves' (prefixes_of run)) medium medium' order syncs worn course
  lines_by lines worn course r =
      record {
        opens = r.opens;
        begins = r.begins;
        order_is = r.order_is;
        answers = r.answers;
        syncs_are = r.syncs_are;
        stopped = λ told young. let safe = r.stopped told young in record { starts = safe.starts; leaves = by _ safe.leaves };
        ends = r.ends;
      }

  ran_by : (lines : List Line) (shows : Course → List ℕ → Type 0) → RunEnds tells lines shows leaves sink sink' medium medium' order syncs status
      → RunEnds tells lines shows leaves' sink sink' medium medium' order syncs status
  ran_by lines shows (not_run text why kept before) = not_run text why (by nothing_new kept) before
  ran_by lines shows (ran r) =
      ran (record {
        course = r.course;
        lost = r.lost;
        worn = r.worn;
        runs = lines_by lines r.worn r.course r.runs;
        causes = r.causes;
        text = r.text;
        text_is = r.text_is;
        prints = r.prints;
        done = r.done;
      })

  script_by : ScriptEnds tells leaves source source' sink sink' medium medium' order syncs status → ScriptEnds tells leaves' source source' sink sink' medium medium' order syncs status
  script_by (source_fault three rose kept before) = source_fault three rose (by nothing_new kept) before
  script_by (source_no_memory six kept before) = source_no_memory six (by nothing_new kept) before
  script_by (script_refused line column why two refuses kept before) = script_refused line column why two refuses (by nothing_new kept) before
  script_by (runs_script lines reads ends) = runs_script lines reads (ran_by lines PrintsAnswers ends)

  put_ran_by : (path : List (List ℕ)) (bytes : List ℕ) → PutRan tells path bytes (λ run. leaves (prefixes_of run)) sink sink' medium medium' order syncs refused status
      → PutRan tells path bytes (λ run. leaves' (prefixes_of run)) sink sink' medium medium' order syncs refused status
  put_ran_by path bytes r =
      record {
        course = r.course;
        end = r.end;
        lost = r.lost;
        worn = r.worn;
        runs = record {
          opens = r.runs.opens;
          begins = r.runs.begins;
          own = r.runs.own;
          beside = r.runs.beside;
          under_way = r.runs.under_way;
          ended = r.runs.ended;
          causes = r.runs.causes;
          stopped = λ told young. let safe = r.runs.stopped told young in record { starts = safe.starts; leaves = by _ safe.leaves };
          ends = r.runs.ends;
        };
        told = r.told;
        no_lines = r.no_lines;
        no_syncs = r.no_syncs;
      }

  before_by : (refusal : Refusal) → RefusedBefore tells (leaves nothing_new) refusal sink sink' medium medium' order syncs refused status
      → RefusedBefore tells (leaves' nothing_new) refusal sink sink' medium medium' order syncs refused status
  before_by refusal b = record { status_is = b.status_is; refused_is = b.refused_is; leaves = by nothing_new b.leaves; no_text = b.no_text; before = b.before }

  bytes_by : (path : List (List ℕ)) (bytes : List ℕ) → BytesEnd tells path bytes (leaves nothing_new) (λ run. leaves (prefixes_of run)) sink sink' medium medium' order syncs refused status
      → BytesEnd tells path bytes (leaves' nothing_new) (λ run. leaves' (prefixes_of run)) sink sink' medium medium' order syncs refused status
  bytes_by path bytes (at_root root before) = at_root root (before_by Eisdir before)
  bytes_by path bytes (no_memory six none kept before) = no_memory six none (by nothing_new kept) before
  bytes_by path bytes (not_opened text why none kept before) = not_opened text why none (by nothing_new kept) before
  bytes_by path bytes (put_ran r) = put_ran (put_ran_by path bytes r)

  put_by : (path : List (List ℕ)) → PutEnds tells path (leaves nothing_new) (λ run. leaves (prefixes_of run)) source source' sink sink' medium medium' order syncs refused status
      → PutEnds tells path (leaves' nothing_new) (λ run. leaves' (prefixes_of run)) source source' sink sink' medium medium' order syncs refused status
  put_by path (put_source_fault three rose none kept before) = put_source_fault three rose none (by nothing_new kept) before
  put_by path (no_memory_to_read six none kept before) = no_memory_to_read six none (by nothing_new kept) before
  put_by path (too_long read long begins before) = too_long read long begins (before_by Efbig before)
  put_by path (all_read bytes whole ends) = all_read bytes whole (bytes_by path bytes ends)

  pub ends_by : (words : List (List ℕ)) → CallEnds tells words leaves source source' sink sink' medium medium' order syncs refused status → CallEnds tells words leaves' source source' sink sink' medium medium' order syncs refused status
  ends_by words (faulty_words none two same kept before) = faulty_words none two same (by nothing_new kept) before
  ends_by words (runs is ends) = runs is (script_by ends)
  ends_by words (formats blocks pages is same kept ends) = formats blocks pages is same (by new_volume kept) ends
  ends_by words (checks is same kept ends) = checks is same (by nothing_new kept) ends
  ends_by words (shows_tree is same kept ends) = shows_tree is same (by nothing_new kept) ends
  ends_by words (reports is same kept ends) = reports is same (by nothing_new kept) ends
  ends_by words (maps is same kept ends) = maps is same (by nothing_new kept) ends
  ends_by words (maps_as_picture is same kept ends) = maps_as_picture is same (by nothing_new kept) ends
  ends_by words (gets path is at same kept ends) = gets path is at same (by nothing_new kept) ends
  ends_by words (puts path is at ends) = puts path is at (put_by path ends)
  ends_by words (soaks seed count workers lines is same drawn ends) = soaks seed count workers lines is same drawn (ran_by lines (Summarises tells) ends)
  ends_by words (compares seed count workers lines is same kept drawn ends) = compares seed count workers lines is same (by nothing_new kept) drawn ends

-- of the command alone that forms the medium
not_forming : {o : Option Command} {command : Command} → forms o ≡ true → o ≡ Some command → forms (Some command) ≡ false → ⊥
not_forming is at not = let bad : true ≡ false = sym is ∙ ap forms at ∙ not in cc

module _ {tells : Type 0} {leaves leaves' : Leaving → Type 0} (by : leaves new_volume → leaves' new_volume) {words : List (List ℕ)} (is_format : forms (command_of words) ≡ true) {source source' sink sink' : Stream} {medium medium' : Medium} {order : List Ordered} {syncs : List Synced} {refused : Option Refusal} {status : ℕ} where
  pub forming_by : CallEnds tells words leaves source source' sink sink' medium medium' order syncs refused status → CallEnds tells words leaves' source source' sink sink' medium medium' order syncs refused status
  forming_by (faulty_words none two same kept before) = absurd (let bad : true ≡ false = sym is_format ∙ ap forms none in cc)
  forming_by (runs is ends) = absurd (not_forming is_format is refl)
  forming_by (formats blocks pages is same kept ends) = formats blocks pages is same (by kept) ends
  forming_by (checks is same kept ends) = absurd (not_forming is_format is refl)
  forming_by (shows_tree is same kept ends) = absurd (not_forming is_format is refl)
  forming_by (reports is same kept ends) = absurd (not_forming is_format is refl)
  forming_by (maps is same kept ends) = absurd (not_forming is_format is refl)
  forming_by (maps_as_picture is same kept ends) = absurd (not_forming is_format is refl)
  forming_by (gets path is at same kept ends) = absurd (not_forming is_format is refl)
  forming_by (puts path is at ends) = absurd (not_forming is_format is refl)
  forming_by (soaks seed count workers lines is same drawn ends) = absurd (not_forming is_format is refl)
  forming_by (compares seed count workers lines is same kept drawn ends) = absurd (not_forming is_format is refl)

-- ---- faulty words

not_both : {o : Option Command} {command : Command} → o ≡ None → o ≡ Some command → ⊥
not_both none some = cc (none, some)

-- what is told, on whatever medium
pub record ToldFaulty (source source' sink sink' : Stream) (status : ℕ) : Type 0 where
  pub two : status ≡ 2
  pub same : source' ≡ source
  pub prints : Prints sink sink' (codes "words\n")

module _ {tells : Type 0} {words : List (List ℕ)} {leaves : Leaving → Type 0} {source source' sink sink' : Stream} {medium medium' : Medium} {order : List Ordered} {syncs : List Synced} {refused : Option Refusal} {status : ℕ} (none : command_of words ≡ None) where
  pub told_faulty : CallEnds tells words leaves source source' sink sink' medium medium' order syncs refused status → ToldFaulty source source' sink sink' status
  told_faulty (faulty_words is two same kept before) = record { two = two; same = same; prints = before.prints }
  told_faulty (runs is ends) = absurd (not_both none is)
  told_faulty (formats blocks pages is same kept ends) = absurd (not_both none is)
  told_faulty (checks is same kept ends) = absurd (not_both none is)
  told_faulty (shows_tree is same kept ends) = absurd (not_both none is)
  told_faulty (reports is same kept ends) = absurd (not_both none is)
  told_faulty (maps is same kept ends) = absurd (not_both none is)
  told_faulty (maps_as_picture is same kept ends) = absurd (not_both none is)
  told_faulty (gets path is at same kept ends) = absurd (not_both none is)
  told_faulty (puts path is at ends) = absurd (not_both none is)
  told_faulty (soaks seed count workers lines is same drawn ends) = absurd (not_both none is)
  told_faulty (compares seed count workers lines is same kept drawn ends) = absurd (not_both none is)

-- nothing was done before a line, and the medium is one that stays
stays : {tells : Type 0} {sink sink' : Stream} (m : Medium) → Prints sink sink' (codes "words\n") → EndsBefore tells (codes "words\n") sink sink' m m [] []
stays m prints = record { prints = prints; untouched = record { same_contents = λ told. refl; same_clock = refl; same_write_faults = refl }; no_lines = refl; no_syncs = refl }

-- on a store that is left alone
pub faulty_on_store : {B : Type 0} (g : Ghosts B) (words : List (List ℕ)) (store : B) {source source' sink sink' : Stream} {status : ℕ} → command_of words ≡ None → ToldFaulty source source' sink sink' status
    → EndsOnStore g words store store source source' sink sink' None status
faulty_on_store g words store {source} {source'} {sink} {sink'} {status} none told =
    let m : Medium = medium (record { blocks = 0; pages = 0 }) (image_of_store (g.bytes store)) (g.moment store) (g.read_faults store) (g.write_faults store) in
    record {
      before = m;
      after = m;
      order = [];
      syncs = [];
      starts = λ t. refl;
      holds = λ t. subst (λ (o : Option Command). SeenInStore (forms o) (image_of_store (g.bytes store)) (image_of_store (g.bytes store))) (sym none) refl;
      counts = record { clock_first = refl; clock_last = refl; reads_first = refl; reads_last = refl; writes_first = refl; writes_last = refl };
      ends = faulty_words none told.two told.same (λ t moment image left. left) (stays m told.prints);
      refused_only = subst (λ (o : Option Command). MayRefuse o None) (sym none) refl;
      carries_out = λ nothing. subst (λ (o : Option Command). CarriesOut o (path_word words) (IsTrue g.tells) source m m [] status) (sym none) tt;
    }

-- on a file that was not opened
pub faulty_on_file : {words : List (List ℕ)} {source source' sink sink' : Stream} {status : ℕ} → command_of words ≡ None → ToldFaulty source source' sink sink' status → EndsOnFile words source source' sink sink' None status
faulty_on_file {words} none told =
    let m : Medium = medium (record { blocks = 0; pages = 0 }) (record { blocks = 0; pages = 0; contents = [] }) 0 0 0 in
    (m, m, [], [], faulty_words none told.two told.same tt (stays m told.prints), subst (λ (o : Option Command). MayRefuse o None) (sym none) refl)

-- on a file that was: of a store that does not tell its bytes
pub on_file : {B : Type 0} (g : Ghosts B) {words : List (List ℕ)} {old new : B} {source source' sink sink' : Stream} {refused : Option Refusal} {status : ℕ} → g.tells ≡ false
    → EndsOnStore g words old new source source' sink sink' refused status → EndsOnFile words source source' sink sink' refused status
on_file g {words} {old} {new} {source} {source'} {sink} {sink'} {refused} {status} untold e = (
  e.before,
  e.after,
  e.order,
  e.syncs,
  ends_by (λ l kept. tt) source source' sink sink' e.before e.after e.order e.syncs refused status words
      (subst (λ (b : Bool). CallEnds (IsTrue b) words (leaves_in_store g old new) source source' sink sink' e.before e.after e.order e.syncs refused status) untold e.ends),
  e.refused_only,
)
