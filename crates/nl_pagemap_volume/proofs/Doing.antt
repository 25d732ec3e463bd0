-- A call, with what the device does before it and behind it.
use Rattle.std.proofs.Common.{◌≡◌, ◌≢◌, ◌⊎◌, inl, inr, ⊎_elim, ℕ, ◌+◌, ◌<◌, ◌≤◌, ◌^◌, Bool, true, false, cond, ◌&&◌, is_none, is_some, IsTrue, List, [], Option, None, Some, refl, sym, ap, subst, ◌∙◌, ne_eqb, arith}
use Rattle.std.specs.Prelude.{IfSome, MatchOption, ⊤, nat_le, ◌==◌}
use Rattle.std.proofs.lemmas.Bool.{cases_eq}
use Rattle.std.proofs.lemmas.Bool.Decides.{nat_tests}
use Rattle.nl_field.specs.CrashStates.{saturated}
use Rattle.nl_field.specs.declared.shape.Shape.{Shape}
use Rattle.nl_tree.specs.Causes.{Counts, FaultIsDue, FaultRose, FaultState, FaultWithin, NeverFall, fault_before, fault_due, fault_in, fault_sum, fault_of_change, is_changing, max_stamp}
use Rattle.nl_tree.specs.Replay.{Answers, step_marked}
use Rattle.nl_tree.specs.Step.{Outcome, step}
use Rattle.nl_tree.specs.Tree.{Tree}
use Rattle.nl_tree.specs.declared.call.Call.{Call}
use Rattle.nl_tree.specs.declared.call.Call.TheVariants.{Mkdir, Rmdir, Create, Unlink, Rename, Write, Fill, Read, Truncate, Stat, List as ListCall, Sync, Clean}
use Rattle.nl_tree.specs.declared.reply.FaultReply.{FaultReply}
use Rattle.nl_tree.specs.declared.reply.FaultReply.TheVariants.{Eio, Erofs, Eworn, Edamaged}
use Rattle.nl_tree.specs.declared.reply.Reply.{Reply}
use Rattle.nl_tree.specs.declared.reply.Reply.TheVariants.{Done, Count, Content, Names, File, Dir as DirReply, Synced, No, Fault}
use Rattle.nl_iface.specs.declared.counts.Counts.{Ghosts}
use Rattle.nl_meta.specs.Consistent.{PageOfStamp}
use Rattle.nl_core.specs.Calls.{counted}
use Rattle.nl_core.specs.Core.{IsCore, running_of}
use Rattle.nl_core.proofs.Counted.{counted_core}
use Rattle.nl_core.specs.Goes.{PreservesTree, PreservesVolume, TurnsReadOnly}
use Rattle.nl_core.specs.Trees.{CoreRepresentsTree}
use Rattle.nl_core.specs.declared.state.Core.{Core}
use Rattle.nl_core.proofs.Onward.{goes_none}
use Rattle.nl_core.proofs.Running.{with_none}
use Rattle.nl_calls_files.proofs.Directories.{room}
use Rattle.nl_calls_steps.specs.Calls.{counts_of}
use Rattle.nl_calls_steps.proofs.Going.{files_on}
use Rattle.nl_calls.specs.Answering.{AnswersOn, MayTry, is_sync_call, is_synced}
use Rattle.nl_calls.proofs.Steps.{clean_step}
use Rattle.nl_flight.specs.Flight.{InFlight, of_worker}
use Rattle.nl_pagemap_volume.specs.Serving.{CoreServes, StampsPaid, TakesStep, TellsAllCalls}
use Rattle.nl_pagemap_volume.specs.Volume.{DoesCall, FreesAll, TellsCount, is_clean, refusing, some_number}
use Rattle.nl_pagemap_volume.proofs.Keeping.{Keeps, keeps_goes, keeps_then}
use Rattle.nl_pagemap_volume.proofs.Served.{counted_tree}

-- ---- a core that goes on

pub serves_goes : {D : Type 0} (g : Ghosts D) (m files : ℕ) (u v : Core D) → CoreServes g files u → PreservesVolume g m u v → IsCore g v → v.flight ≡ u.flight → CoreServes g files v
serves_goes g m files u v was goes core flight = record {
  core = core;
  runs = λ tells. let k = was.runs tells in let on = goes.runs tells k.0 k.1 k.2 in (on.pages, k.1, on.runs);
  counted = files_on g m u v goes files was.counted;
  idle = λ worker. ap (λ (f : List InFlight). of_worker f worker) flight ∙ was.idle worker;
}

-- ---- why a call has a fault

none_number : (n : ℕ) → some_number n ≡ None → n ≡ 0
none_number n none = ⊎_elim (λ is. is) (λ off. let e : cond false None (Some n) ≡ None = subst (λ b. cond b None (Some n) ≡ None) (ne_eqb n 0 off) none in absurd (cc e)) (cases_eq n 0)

-- a call that changes something and is not refused can be tried
module _ {D : Type 0} (g : Ghosts D) (v : Core D) (call : Call) (due : fault_due (refusing g v) call ≡ None) where
  of_change : IsTrue (is_changing call) → fault_of_change (some_number v.stopped) (g.next_stamp v.device) ≡ None
  of_change changing = subst (λ b. cond b (fault_of_change (some_number v.stopped) (g.next_stamp v.device)) None ≡ None) changing due

  not_stopped : (o : Option ℕ) (n : ℕ) → fault_of_change o n ≡ None → o ≡ None
  not_stopped None n e = refl
  not_stopped (Some x) n e = absurd (cc e)

  worn : (n : ℕ) (b : Bool) → nat_le max_stamp n ≡ b → cond b (Some Eworn) None ≡ None → n < 2 ^ 62
  worn n true high e = absurd (cc e)
  worn n false low e = grind (arith, nat_tests, low)

  not_worn : (o : Option ℕ) (n : ℕ) → fault_of_change o n ≡ None → n < 2 ^ 62
  not_worn (Some x) n e = absurd (cc e)
  not_worn None n e = worn n (nat_le max_stamp n) refl e

  pub may_try : MayTry g call v
  may_try = record {
    writes = λ changing. none_number v.stopped (not_stopped (some_number v.stopped) (g.next_stamp v.device) (of_change changing));
    stamp = λ changing. not_worn (some_number v.stopped) (g.next_stamp v.device) (of_change changing);
  }

-- a later count of faults that rose
pub rose_after : (u v w : Counts) → NeverFall u v → FaultRose v w → FaultRose u w
rose_after u v w never rose = let reads = never.read_faults in let writes = never.write_faults in ⊎_elim (λ r. inl (omega (arith, r, reads))) (λ r. inr (omega (arith, r, writes))) rose

pub rose_then : (u v w : Counts) → FaultRose u v → NeverFall v w → FaultRose u w
rose_then u v w rose never = let reads = never.read_faults in let writes = never.write_faults in ⊎_elim (λ r. inl (omega (arith, r, reads))) (λ r. inr (omega (arith, r, writes))) rose

within_after : (tells : Type 0) (u v w : Counts) → NeverFall u v → (fault : FaultReply) → FaultWithin tells v w fault → FaultWithin tells u w fault
within_after tells u v w never (Eio n) x = (rose_after u v w never x.0, x.1)
within_after tells u v w never (Edamaged wanted found) x = x
within_after tells u v w never (Erofs n) x = absurd x
within_after tells u v w never Eworn x = absurd x

some_after : (tells : Type 0) (u v w : Counts) → NeverFall u v → (o : Option FaultReply) → IfSome o (FaultWithin tells v w) → IfSome o (FaultWithin tells u w)
some_after tells u v w never None x = tt
some_after tells u v w never (Some fault) x = within_after tells u v w never fault x

module _ (tells : Type 0) (state : FaultState) (call : Call) (reply : Reply) where
  -- the call was tried
  pub due_within : (u v w : Counts) → fault_due state call ≡ None → NeverFall u v → IfSome (fault_in reply) (FaultWithin tells v w) → FaultIsDue tells state u w call reply
  due_within u v w tried never within =
      subst (λ (o : Option FaultReply). MatchOption o (IfSome (fault_in reply) (FaultWithin tells u w)) (λ fault. reply ≡ Fault fault)) (sym tried) (some_after tells u v w never (fault_in reply) within)

  -- it was refused
  pub due_refused : (u w : Counts) (fault : FaultReply) → fault_due state call ≡ Some fault → reply ≡ Fault fault → FaultIsDue tells state u w call reply
  due_refused u w fault refused is = subst (λ (o : Option FaultReply). MatchOption o (IfSome (fault_in reply) (FaultWithin tells u w)) (λ f. reply ≡ Fault f)) (sym refused) is

  -- without a fault, whatever came behind it
  pub due_later : (u v w : Counts) → fault_in reply ≡ None → FaultIsDue tells state u v call reply → FaultIsDue tells state u w call reply
  due_later u v w none due = by (fault_due state call) due
    where
      by : (o : Option FaultReply) → MatchOption o (IfSome (fault_in reply) (FaultWithin tells u v)) (λ f. reply ≡ Fault f) → MatchOption o (IfSome (fault_in reply) (FaultWithin tells u w)) (λ f. reply ≡ Fault f)
      by None x = subst (λ (o : Option FaultReply). IfSome o (FaultWithin tells u w)) (sym none) tt
      by (Some fault) x = x

-- ---- the effect of a call, with or without a cause of its fault

pub record Effect {D : Type 0} (g : Ghosts D) (call : Call) (u v : Core D) (reply : Reply) (out : List ℕ) : Type 0 where
  pub answers : AnswersOn g call u reply out
  pub steps : TakesStep g call u v reply
  pub synced : is_synced reply ≡ (is_sync_call call && is_none (fault_in reply))
  pub upto : TellsCount u.count reply
  pub counted : v.count ≡ saturated (u.count + 1)
  pub keeps : Keeps g u v

pub does : {D : Type 0} (g : Ghosts D) (call : Call) (u v : Core D) (reply : Reply) (out : List ℕ) → FaultIsDue g.tells (refusing g u) (counts_of g u.device) (counts_of g v.device) call reply → Effect g call u v reply out → DoesCall g call u v reply out
does g call u v reply out cause e = record {
  answers = e.answers;
  steps = e.steps;
  cause = cause;
  synced = e.synced;
  upto = e.upto;
  counted = e.counted;
  counts = e.keeps.later;
  same_shape = e.keeps.same_shape;
  stops = e.keeps.stops;
  stamps = e.keeps.stamps;
}

pub effect_in : {D : Type 0} (g : Ghosts D) (call : Call) (u v : Core D) (reply : Reply) (out : List ℕ) → DoesCall g call u v reply out → Effect g call u v reply out
effect_in g call u v reply out d = record {
  answers = d.answers;
  steps = d.steps;
  synced = d.synced;
  upto = d.upto;
  counted = d.counted;
  keeps = record { later = d.counts; same_shape = d.same_shape; stops = d.stops; stamps = d.stamps };
}

module _ {D : Type 0} (g : Ghosts D) (call : Call) (u v w : Core D) (reply : Reply) (out : List ℕ) (m : ℕ) where
  -- the device did something before
  pub effect_after : PreservesVolume g m u v → Effect g call v w reply out → Effect g call u w reply out
  effect_after goes e = record {
    answers = λ tells page_of_stamp tree at.
        let k = goes.runs tells page_of_stamp tree at in
        subst (λ (h : Shape). Answers (step_marked h tree (call, fault_in reply)) reply out) goes.same_shape (e.answers tells k.pages tree k.runs);
    steps = λ tells page_of_stamp tree at.
        let k = goes.runs tells page_of_stamp tree at in
        let l = subst (λ (h : Shape). PreservesTree g w k.pages (step_marked h tree (call, fault_in reply)).tree) goes.same_shape (e.steps tells k.pages tree k.runs) in
        record { pages = l.pages; extends = λ stamp page has. l.extends stamp page (k.extends stamp page has); runs = l.runs };
    synced = e.synced;
    upto = subst (λ n. TellsCount n reply) goes.count e.upto;
    counted = e.counted ∙ ap (λ n. saturated (n + 1)) goes.count;
    keeps = keeps_then g u v w (keeps_goes g m u v goes) e.keeps;
  }

  -- and behind it
  pub effect_then : Effect g call u v reply out → PreservesVolume g m v w → Effect g call u w reply out
  effect_then e goes = record {
    answers = e.answers;
    steps = λ tells page_of_stamp tree at.
        let k = e.steps tells page_of_stamp tree at in
        let l = goes.runs tells k.pages _ k.runs in
        record { pages = l.pages; extends = λ stamp page has. l.extends stamp page (k.extends stamp page has); runs = l.runs };
    synced = e.synced;
    upto = e.upto;
    counted = goes.count ∙ e.counted;
    keeps = keeps_then g u v w e.keeps (keeps_goes g m v w goes);
  }

-- ---- calls that leave the core but for its count

no_sync : (b : Bool) → false ≡ (b && false)
no_sync true = refl
no_sync false = refl

module _ {D : Type 0} (g : Ghosts D) (v : Core D) (core : IsCore g v) where
  keeps_counted : Keeps g v (counted v)
  keeps_counted =
      let k = keeps_goes g 0 v v (goes_none g v core) in
      record {
        later = record { clock = k.later.clock; read_faults = k.later.read_faults; write_faults = k.later.write_faults };
        same_shape = refl;
        stops = record { stands = k.stops.stands; none = k.stops.none; some = k.stops.some };
        stamps = k.stamps;
      }

  stays : (page_of_stamp : ℕ → Option PageOfStamp) (tree : Tree) → CoreRepresentsTree g v page_of_stamp tree → PreservesTree g (counted v) page_of_stamp tree
  stays page_of_stamp tree at = counted_tree g v page_of_stamp tree (with_none g v page_of_stamp tree at)

  pub effect_fault : (call : Call) (fault : FaultReply) → Effect g call v (counted v) (Fault fault) []
  effect_fault call fault = record {
    answers = λ tells page_of_stamp tree at. (refl, refl);
    steps = λ tells page_of_stamp tree at. stays page_of_stamp tree at;
    synced = no_sync (is_sync_call call);
    upto = tt;
    counted = refl;
    keeps = keeps_counted;
  }

  clean_is : (page_of_stamp : ℕ → Option PageOfStamp) (tree : Tree) → CoreRepresentsTree g v page_of_stamp tree → step (g.shape v.device) tree Clean ≡ record { reply = Done; bytes = []; tree = tree }
  clean_is page_of_stamp tree at = clean_step (g.shape v.device) tree (room (g.shape v.device) (running_of g v) page_of_stamp tree at.runs)

  pub effect_clean : Effect g Clean v (counted v) Done []
  effect_clean = record {
    answers = λ tells page_of_stamp tree at. subst (λ (o : Outcome). Answers o Done []) (sym (clean_is page_of_stamp tree at)) (refl, refl);
    steps = λ tells page_of_stamp tree at. subst (λ (o : Outcome). PreservesTree g (counted v) page_of_stamp o.tree) (sym (clean_is page_of_stamp tree at)) (stays page_of_stamp tree at);
    synced = refl;
    upto = tt;
    counted = refl;
    keeps = keeps_counted;
  }

-- ---- behind a call

-- a core that goes on behind a call that met no fault, and stays behind one that did
pub does_behind : {D : Type 0} (g : Ghosts D) (call : Call) (u v w : Core D) (reply : Reply) (out : List ℕ) (m : ℕ) → DoesCall g call u v reply out → PreservesVolume g m v w → (is_some (fault_in reply) ≡ true → w ≡ v) → DoesCall g call u w reply out
does_behind g call u v w reply out m d goes same = by (fault_in reply) refl
  where
    by : (o : Option FaultReply) → fault_in reply ≡ o → DoesCall g call u w reply out
    by (Some fault) is = subst (λ (x : Core _). DoesCall g call u x reply out) (sym (same (ap is_some is))) d
    by None is = does g call u w reply out (due_later g.tells (refusing g u) call reply (counts_of g u.device) (counts_of g v.device) (counts_of g w.device) is d.cause) (effect_then g call u v w reply out m (effect_in g call u v reply out d) goes)

-- no page awaits its free behind a call where nothing failed
pub frees_all : {D : Type 0} (g : Ghosts D) (call : Call) (u v w : Core D) (reply : Reply) (out : List ℕ) (m : ℕ) → DoesCall g call u v reply out → PreservesVolume g m v w
    → (g.tells → fault_in reply ≡ None → (FaultRose (counts_of g v.device) (counts_of g w.device) → ⊥) → v.stopped ≡ 0 → g.next_stamp v.device < 2 ^ 62 → w.freeing.items ≡ []) → FreesAll g u w reply
frees_all g call u v w reply out m d goes freed tells none calm writes stamp = freed tells none (λ rose. calm (rose_after (counts_of g u.device) (counts_of g v.device) (counts_of g w.device) d.counts rose)) still (let low = goes.stamps.never_falls in omega (arith, low, stamp))
  where
    later : NeverFall (counts_of g v.device) (counts_of g w.device)
    later = record { clock = goes.clock; read_faults = goes.reads; write_faults = goes.writes }

    still : v.stopped ≡ 0
    still = ⊎_elim (λ is. is) (λ off. absurd (calm (rose_then (counts_of g u.device) (counts_of g v.device) (counts_of g w.device) (inr (d.stops.some writes off).0) later))) (cases_eq v.stopped 0)

-- ---- a call, by how it was answered

-- the call for cleaning is this one
pub clean_of : (call : Call) → is_clean call ≡ true → call ≡ Clean
clean_of (Mkdir path) e = absurd (cc e)
clean_of (Rmdir path) e = absurd (cc e)
clean_of (Create path) e = absurd (cc e)
clean_of (Unlink path) e = absurd (cc e)
clean_of (Rename from to) e = absurd (cc e)
clean_of (Write path from bytes) e = absurd (cc e)
clean_of (Fill path from len byte) e = absurd (cc e)
clean_of (Read path from len) e = absurd (cc e)
clean_of (Truncate path size) e = absurd (cc e)
clean_of (Stat path) e = absurd (cc e)
clean_of (ListCall path) e = absurd (cc e)
clean_of Sync e = absurd (cc e)
clean_of Clean e = refl

-- a sync that tells all calls tells their count
tells_count : {D : Type 0} (u v : Core D) (reply : Reply) → TellsAllCalls u v reply → TellsCount u.count reply
tells_count u v Done x = tt
tells_count u v (Count n) x = tt
tells_count u v Content x = tt
tells_count u v (Names n) x = tt
tells_count u v (File size pages) x = tt
tells_count u v (DirReply entries) x = tt
tells_count u v (Synced upto moment) x = x.0
tells_count u v (No refusal) x = tt
tells_count u v (Fault fault) x = tt

module _ {D : Type 0} (g : Ghosts D) (call : Call) (u v : Core D) where
  -- it is refused before it is tried
  pub does_refused : (fault : FaultReply) → IsCore g v → fault_due (refusing g v) call ≡ Some fault → DoesCall g call v (counted v) (Fault fault) []
  does_refused fault core refused =
      does g call v (counted v) (Fault fault) [] (due_refused g.tells (refusing g v) call (Fault fault) (counts_of g v.device) (counts_of g v.device) fault refused refl) (effect_fault g v core call fault)

  module _ (tried : fault_due (refusing g u) call ≡ None) (goes : PreservesVolume g 0 u v) where
    never : NeverFall (counts_of g u.device) (counts_of g v.device)
    never = record { clock = goes.clock; read_faults = goes.reads; write_faults = goes.writes }

    -- what came before it failed
    pub does_fail : IsCore g v → FaultRose (counts_of g u.device) (counts_of g v.device) → DoesCall g call u (counted v) (Fault (Eio (fault_sum (counts_of g v.device)))) []
    does_fail core rose =
        does g call u (counted v) (Fault (Eio (fault_sum (counts_of g v.device)))) []
        (subst (λ (o : Option FaultReply). MatchOption o (FaultWithin g.tells (counts_of g u.device) (counts_of g v.device) (Eio (fault_sum (counts_of g v.device)))) (λ fault. Fault (Eio (fault_sum (counts_of g v.device))) ≡ Fault fault)) (sym tried) (rose, refl))
        (effect_after g call u v (counted v) (Fault (Eio (fault_sum (counts_of g v.device)))) [] 0 goes (effect_fault g v core call (Eio (fault_sum (counts_of g v.device)))))

    -- it is served
    pub does_serve : (w : Core D) (reply : Reply) (out : List ℕ) → AnswersOn g call v reply out → TakesStep g call v w reply → IfSome (fault_in reply) (FaultWithin g.tells (counts_of g v.device) (counts_of g w.device))
        → is_synced reply ≡ (is_sync_call call && is_none (fault_in reply)) → TellsAllCalls v w reply → w.count ≡ saturated (v.count + 1) → NeverFall (counts_of g v.device) (counts_of g w.device) → g.shape w.device ≡ g.shape v.device → TurnsReadOnly g v w
        → StampsPaid g v.device w.device → DoesCall g call u w reply out
    does_serve w reply out answers steps cause synced numbers count later shape stops stamps =
        does g call u w reply out (due_within g.tells (refusing g u) call reply (counts_of g u.device) (counts_of g v.device) (counts_of g w.device) tried never cause)
        (effect_after g call u v w reply out 0 goes (record {
          answers = answers;
          steps = steps;
          synced = synced;
          upto = tells_count v w reply numbers;
          counted = count;
          keeps = record { later = later; same_shape = shape; stops = stops; stamps = stamps };
        }))

-- a call for cleaning is done
pub does_clean : {D : Type 0} (g : Ghosts D) (u v : Core D) → fault_due (refusing g u) Clean ≡ None → PreservesVolume g 0 u v → IsCore g v → DoesCall g Clean u (counted v) Done []
does_clean g u v tried goes core =
    does g Clean u (counted v) Done [] (subst (λ (o : Option FaultReply). MatchOption o ⊤ (λ fault. Done ≡ Fault fault)) (sym tried) tt) (effect_after g Clean u v (counted v) Done [] 0 goes (effect_clean g v core))

-- a count of calls is no part of what a core serves
pub serves_counted : {D : Type 0} (g : Ghosts D) (files : ℕ) (v : Core D) → CoreServes g files v → CoreServes g files (counted v)
serves_counted g files v was = record {
  core = counted_core g v was.core;
  runs = λ tells. let k = was.runs tells in let on = counted_tree g v k.0 k.1 (with_none g v k.0 k.1 k.2) in (on.pages, k.1, on.runs);
  counted = was.counted;
  idle = was.idle;
}

-- no write failed where the core can be written to; else one did
pub rose_stopped : {D : Type 0} (g : Ghosts D) (u v : Core D) → PreservesVolume g 0 u v → u.stopped ≡ 0 → (v.stopped ≡ 0 → ⊥) → FaultRose (counts_of g u.device) (counts_of g v.device)
rose_stopped g u v goes writes off = inr (goes.stops.some writes off).0

pub may_after : {D : Type 0} (g : Ghosts D) (call : Call) (u v : Core D) → MayTry g call u → PreservesVolume g 0 u v → v.stopped ≡ 0 → MayTry g call v
may_after g call u v may goes writes = record { writes = λ changing. writes; stamp = λ changing. let low = may.stamp changing in let most = goes.stamps.at_most in omega (arith, low, most) }
