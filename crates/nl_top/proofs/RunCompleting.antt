-- Where nothing fails, a run is carried out, and no answer is a fault reply.
use Rattle.std.proofs.Common.{◌≡◌, ◌⊎◌, ◌+◌, ◌-◌, ◌<◌, ◌||◌, ℕ, suc, Bool, true, false, List, [], ◌∷◌, ◌++◌, map, length, refl, sym, ap, ◌∙◌, inl, inr, append-nil, length-append, arith}
use Rattle.std.specs.Prelude.{◌^◌, if◌then◌else◌, Option, None, Some, Ok, Err, IfSome, is_some, option_map, slice_get}
use Rattle.std.specs.List.{list_any}
use Rattle.nl_field.specs.CrashStates.{Rose}
use Rattle.nl_field.specs.Scan.{next_stamp_of}
use Rattle.nl_spec_headline.specs.Course.{Course, RepliedLine}
use Rattle.nl_spec_headline.specs.Status.{DoneStatus, RunFailed}
use Rattle.nl_spec_headline.specs.Streams.{Medium, ReadsWhole, Stream}
use Rattle.nl_spec_headline.specs.declared.lists.Ordered.{Ordered}
use Rattle.nl_spec_headline.specs.declared.lists.Synced.{Synced}
use Rattle.nl_script.specs.Words.{lines_of}
use Rattle.nl_script.specs.Script.{lines_from, max_script, script}
use Rattle.nl_script.specs.declared.refusal.ScriptRefusal.TheVariants.{Refused}
use Rattle.std.proofs.lemmas.Bool.{lt-ltb}
use Rattle.nl_script.specs.declared.why.Why.{Why}
use Rattle.nl_script.specs.declared.why.Why.TheVariants.{Size}
use Rattle.nl_tree.specs.Causes.{Counts, FaultRose, fault_in}
use Rattle.nl_tree.specs.declared.call.Line.{Line}
use Rattle.nl_tree.specs.declared.reply.FaultReply.{FaultReply}
use Rattle.nl_cmd_words.specs.Complete.{CountsLast, NothingRose, OpeningCompletes, StartsConsistent}
use Rattle.nl_cmd_words.specs.Ends.{NotOpened, RefusesScript}
use Rattle.nl_cmd_words.proofs.Causeless.{never_worn, no_cause}
use Rattle.nl_top.specs.Complete.{NoFaultAnswered, RunCompletes}
use Rattle.nl_top.specs.Leaving.{Leaving}
use Rattle.nl_top.specs.RunEnds.{Ran, RunEnds, ScriptEnds, PrintsAnswers, not_run, ran, runs_script, script_refused, source_fault, source_no_memory}

-- ---- no answer is one

none_is : (o : Option FaultReply) → IfSome o (λ f. ⊥) → is_some o ≡ false
none_is None h = refl
none_is (Some f) h = absurd h

if_some : {A : Type 0} {P Q : A → Type 0} (o : Option A) → ((x : A) → P x → Q x) → IfSome o P → IfSome o Q
if_some None step p = p
if_some (Some x) step p = step x p

no_faults : (answers : List RepliedLine) → ((i : ℕ) → IfSome (slice_get answers i) (λ a. IfSome (fault_in a.reply) (λ f. ⊥)))
    → list_any (λ (o : Ordered). is_some o.fault) (map (λ (a : RepliedLine). record { line = a.line.line; fault = fault_in a.reply }) answers) ≡ false
no_faults [] h = refl
no_faults (a ∷ rest) h = λ j. none_is (fault_in a.reply) (h 0) j || no_faults rest (λ i. h (suc i)) j

-- ---- scripts

some_same : {A : Type 0} {x y : A} → Some x ≡ Some y → x ≡ y
some_same e = cc e

err_not_ok : {line column : ℕ} {why : Why} {lines : List Line} → Err (Refused line column why) ≡ Ok lines → ⊥
err_not_ok e = cc e

script_of_long : (bytes : List ℕ) → max_script < length bytes → script bytes ≡ Err (Refused 0 0 Size)
unfolding script
script_of_long bytes long = ap (λ (b : Bool). if b then Err (Refused 0 0 Size) else lines_from 1 0 0 0 (lines_of bytes)) (lt-ltb max_script (length bytes) long)

-- ---- a run

module _ (tells : Type 0) (source source' sink sink' : Stream) (medium medium' : Medium) (order : List Ordered) (syncs : List Synced) (status count : ℕ)
    (opening_completes : OpeningCompletes tells) (starts : StartsConsistent tells medium count) (none : NothingRose source source' sink sink' medium medium') (last : CountsLast medium medium') where
  not_opened : (text : List ℕ) → NotOpened tells medium medium' status text → RunCompletes status order
  not_opened text why = inr (opening_completes source source' sink sink' medium medium' status count text why starts none)

  was_run : (lines : List Line) (shows : Course → List ℕ → Type 0) (leaves : Leaving → Type 0) → Ran tells lines shows leaves sink sink' medium medium' order syncs status → RunCompletes status order
  was_run lines shows leaves r =
      let before = medium.counts in
      let now = medium'.counts in
      let stamp : r.course.next_stamp ≡ next_stamp_of medium.contents = (r.runs.opens starts.told).next_stamp in
      let few = last.stamps in
      let stamps : r.course.next_stamp + (now.clock - before.clock) < 2 ^ 62 = omega (arith, stamp, few) in
      let reads : Rose before.read_faults now.read_faults → ⊥ = λ rose. none.medium_stays (inl rose) in
      let writes : Rose before.write_faults now.write_faults → ⊥ = λ rose. none.medium_stays (inr rose) in
      let no = no_cause tells before now r.course.next_stamp starts.told reads writes last.clock stamps last.faults in
      let faultless = no_faults r.course.answers (λ i. if_some (slice_get r.course.answers i) (λ a is. if_some (fault_in a.reply) (λ f h. no a.line.call f h) is) (r.runs.answers.causes i)) in
      let clean : NoFaultAnswered order = ap (list_any (λ (o : Ordered). is_some o.fault)) r.runs.order_is.told ∙ faultless in
      let not_failed : RunFailed order before now r.lost r.worn → ⊥ = failed order before now r.lost r.worn clean none.medium_stays (r.causes.lost_is starts.told) (λ worn. never_worn tells before now r.course.next_stamp starts.told reads writes last.clock stamps last.faults (r.causes.worn_is worn)) in
      done (RunFailed order before now r.lost r.worn) r.text not_failed clean r.done
    where
      failed : (order : List Ordered) (before now : Counts) (lost worn : Bool) → NoFaultAnswered order → (FaultRose before now → ⊥) → lost ≡ false → (worn ≡ true → ⊥) → RunFailed order before now lost worn → ⊥
      failed order before now lost worn clean stays found young (inl fault) = cc (fault, clean)
      failed order before now lost worn clean stays found young (inr (inl rose)) = stays rose
      failed order before now lost worn clean stays found young (inr (inr (inl l))) = cc (l, found)
      failed order before now lost worn clean stays found young (inr (inr (inr w))) = young w

      done : (bad : Type 0) (text : List ℕ) → (bad → ⊥) → NoFaultAnswered order → DoneStatus status bad sink sink' text → RunCompletes status order
      done bad text not clean (inl five) = absurd (not five.1)
      done bad text not clean (inr (inl four)) = absurd (none.sink_stays four.2)
      done bad text not clean (inr (inr zero_status)) = inl (zero_status.0, clean)

  pub lines_complete : (lines : List Line) (shows : Course → List ℕ → Type 0) (leaves : Leaving → Type 0) → RunEnds tells lines shows leaves sink sink' medium medium' order syncs status → RunCompletes status order
  lines_complete lines shows leaves (not_run text why kept before) = not_opened text why
  lines_complete lines shows leaves (ran r) = was_run lines shows leaves r

  -- ---- the script of a source

  module _ (bytes : List ℕ) (lines : List Line) (has : source.bytes ≡ Some bytes) (is : script bytes ≡ Ok lines) where
    -- all that was read is all that there was
    whole_is : (b : List ℕ) (new : Option (List ℕ)) → source.bytes ≡ option_map (λ rest. b ++ rest) new → IfSome new (λ rest. rest ≡ []) → bytes ≡ b
    whole_is b None read nothing = cc (has, read)
    whole_is b (Some rest) read nothing = some_same (sym has ∙ read ∙ ap (λ (x : List ℕ). Some (b ++ x)) nothing) ∙ append-nil b

    too_long : (b : List ℕ) (new : Option (List ℕ)) → source.bytes ≡ option_map (λ rest. b ++ rest) new → max_script < length b → max_script < length bytes
    too_long b None read long = cc (has, read)
    too_long b (Some rest) read long = omega (arith, long, ap length (some_same (sym has ∙ read)), length-append b rest)

    refuses_not : (line column : ℕ) (why : Why) → RefusesScript source source' line column why → ⊥
    refuses_not line column why r = read_so r.read
      where
        read_so : ReadsWhole source source' r.bytes ⊎ ((max_script < length r.bytes) × (source.bytes ≡ option_map (λ rest. r.bytes ++ rest) source'.bytes)) → ⊥
        read_so (inl whole) = err_not_ok (sym r.refused ∙ ap script (sym (whole_is r.bytes source'.bytes whole.read whole.none_left)) ∙ is)
        read_so (inr (long, read)) = err_not_ok (sym (script_of_long bytes (too_long r.bytes source'.bytes read long)) ∙ is)

    pub script_completes : (leaves : Leaving → Type 0) → ScriptEnds tells leaves source source' sink sink' medium medium' order syncs status → RunCompletes status order
    script_completes leaves (source_fault three rose kept before) = absurd (none.source_stays rose)
    script_completes leaves (source_no_memory six kept before) = inr six
    script_completes leaves (script_refused line column why two refuses kept before) = absurd (refuses_not line column why refuses)
    script_completes leaves (runs_script these reads ends) = lines_complete these PrintsAnswers leaves ends
