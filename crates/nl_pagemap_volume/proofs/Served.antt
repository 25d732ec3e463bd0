-- A core after a call of one thread.
use Rattle.std.proofs.Common.{◌≡◌, ◌≢◌, ◌⊎◌, inl, inr, ℕ, zero, suc, ◌+◌, ◌≤◌, List, length, replicate, Option, None, Some, refl, sym, ap, subst, ◌∙◌, arith}
use Rattle.std.proofs.lemmas.Bool.{cases_eq}
use Rattle.nl_field.specs.CrashStates.{Rose, saturated}
use Rattle.nl_tree.specs.Causes.{NeverFall, fault_in}
use Rattle.nl_tree.specs.Replay.{step_marked}
use Rattle.nl_tree.specs.Tree.{Tree, empty_tree}
use Rattle.nl_tree.specs.declared.call.Call.{Call}
use Rattle.nl_tree.specs.declared.reply.FaultReply.{FaultReply}
use Rattle.nl_tree.specs.declared.reply.Reply.{Reply}
use Rattle.nl_tree.specs.declared.reply.Reply.TheVariants.{Done, Count, Content, Names, File, Dir, Synced, No, Fault}
use Rattle.nl_flight.specs.Flight.{InFlight, IsFlight, begun, nothing, of_worker}
use Rattle.nl_iface.specs.declared.counts.Counts.{Ghosts}
use Rattle.nl_meta.specs.Consistent.{PageOfStamp}
use Rattle.nl_core_callbacks.specs.Handled.{nameless_line}
use Rattle.nl_core.specs.Calls.{counted}
use Rattle.nl_core.proofs.Counted.{counted_core}
use Rattle.nl_core.specs.Core.{IsCore}
use Rattle.nl_core.specs.Goes.{PreservesTree, TurnsReadOnly}
use Rattle.nl_core.specs.Trees.{CoreRepresentsTree}
use Rattle.nl_core.specs.Units.{goal_or}
use Rattle.nl_core.specs.declared.state.Core.{Core}
use Rattle.nl_calls_steps.specs.Calls.{RepresentsSomeTree, counts_of}
use Rattle.nl_calls.specs.Answering.{AnswersCall, HasEffectOf, MakesEffect, Syncs, goal_now, pages_of_files}
use Rattle.nl_pagemap_volume.specs.Serving.{CoreServes, StampsPaid, TakesStep, TellsAllCalls}
use Rattle.nl_pagemap_volume.proofs.Keeping.{Keeps, keeps_goes, keeps_then}
use Rattle.nl_pagemap_volume.proofs.Stepped.{steps_of}

-- ---- lines

no_line : (n worker : ℕ) → of_worker (replicate n (begun 0)) worker ≡ begun 0
no_line zero worker = refl
no_line (suc n) zero = refl
no_line (suc n) (suc worker) = no_line n worker

-- a worker without a line but for names has none
pub none_is : (flight : List InFlight) (worker : ℕ) → IsFlight flight → nameless_line (of_worker flight worker) ≡ begun 0 → of_worker flight worker ≡ begun 0
none_is flight worker is same =
    let line : (of_worker flight worker).line ≡ 0 = ap (λ (y : InFlight). y.line) same in
    let fault : (of_worker flight worker).fault ≡ 0 = ap (λ (y : InFlight). y.fault) same in
    let none = is.idle worker line in
    λ i. record { line = line i; fault = fault i; goal = none.1 i; pages = none.0 i }

-- no worker has a page in flight
pub few_of : (flight : List InFlight) (worker : ℕ) → of_worker flight worker ≡ begun 0 → length (of_worker flight worker).pages ≤ 16
few_of flight worker idle = let none : length (of_worker flight worker).pages ≡ 0 = ap (λ (y : InFlight). length y.pages) idle in omega (arith, none)

-- ---- a new volume

pub serves_new : {D : Type 0} (g : Ghosts D) (v : Core D) → IsCore g v → (g.tells → (page_of_stamp : ℕ → Option PageOfStamp) × CoreRepresentsTree g v page_of_stamp empty_tree)
    → v.flight ≡ nothing → pages_of_files g v ≡ 0 → CoreServes g 0 v
serves_new g v core runs flight none = record {
  core = core;
  runs = λ tells. let k = runs tells in (k.0, empty_tree, k.1);
  counted = sym none;
  idle = λ worker. ap (λ (f : List InFlight). of_worker f worker) flight ∙ no_line 8 worker;
}

-- ---- what a call keeps

module _ {D : Type 0} (g : Ghosts D) (goal : ℕ) (call : Call) (u v : Core D) where
  effect_keeps : (fault : Option FaultReply) → MakesEffect g call fault u v → Keeps g u v
  effect_keeps fault x =
      let m = x.steps.reads.medium in
      let t = x.goes.stops in
      let same : v.stopped ≡ x.between.stopped = ap (λ (c : Core D). c.stopped) x.steps.others in
      let clock = m.clock in
      let writes = m.write_faults in
      let reads = x.steps.read_faults in
      let stamp = m.next_stamp in
      record {
        later = record {
          clock = let one = x.goes.clock in omega (arith, one, clock);
          read_faults = let one = x.goes.reads in omega (arith, one, reads);
          write_faults = let one = x.goes.writes in omega (arith, one, writes);
        };
        same_shape = m.virtual.same_shape ∙ x.goes.same_shape;
        stops = record {
          stands = λ off. same ∙ t.stands off;
          none = λ none rose. t.none (sym same ∙ none) (omega (arith, rose, writes));
          some = λ was off.
              let k = t.some was (λ none. off (same ∙ none)) in
              let one = k.0 in
              let two = k.1.0 in
              let most = k.1.1 in
              (omega (arith, one, writes), (omega (arith, two, same), omega (arith, most, same, writes, reads)));
        };
        stamps = λ low less.
            let paid = x.goes.stamps.paid (omega (arith, low, clock)) (omega (arith, less, writes)) in
            omega (arith, paid, clock, stamp, writes);
      }

  effect_count : (fault : Option FaultReply) → MakesEffect g call fault u v → v.count ≡ u.count
  effect_count fault x = ap (λ (c : Core D). c.count) x.steps.others ∙ x.goes.count

  pub keeps_of : (reply : Reply) → HasEffectOf g goal call u v reply → Keeps g u v
  keeps_of Done x = effect_keeps None x
  keeps_of (Count n) x = effect_keeps None x
  keeps_of Content x = effect_keeps None x
  keeps_of (Names n) x = effect_keeps None x
  keeps_of (File size pages) x = effect_keeps None x
  keeps_of (Dir entries) x = effect_keeps None x
  keeps_of (Synced upto moment) x = keeps_goes g x.most u v x.goes
  keeps_of (No refusal) x = effect_keeps None x
  keeps_of (Fault fault) x = effect_keeps (Some fault) x

  pub count_of : (reply : Reply) → HasEffectOf g goal call u v reply → v.count ≡ u.count
  count_of Done x = effect_count None x
  count_of (Count n) x = effect_count None x
  count_of Content x = effect_count None x
  count_of (Names n) x = effect_count None x
  count_of (File size pages) x = effect_count None x
  count_of (Dir entries) x = effect_count None x
  count_of (Synced upto moment) x = x.goes.count
  count_of (No refusal) x = effect_count None x
  count_of (Fault fault) x = effect_count (Some fault) x

  pub tells_of : (reply : Reply) → HasEffectOf g goal call u v reply → goal ≡ u.count → IsCore g v → TellsAllCalls u (counted v) reply
  tells_of Done x all core = tt
  tells_of (Count n) x all core = tt
  tells_of Content x all core = tt
  tells_of (Names n) x all core = tt
  tells_of (File size pages) x all core = tt
  tells_of (Dir entries) x all core = tt
  tells_of (Synced upto moment) x all core =
      let reached = x.reached in
      let count = x.goes.count in
      let later = core.counts.later in
      let latest = core.counts.latest in
      let committed : v.committed ≡ u.count = omega (arith, reached, count, later, latest, all) in
      (x.upto_is ∙ committed, committed, x.moment_is)
  tells_of (No refusal) x all core = tt
  tells_of (Fault fault) x all core = tt

-- ---- with one call more

module _ {D : Type 0} (g : Ghosts D) (v : Core D) where
  pub counted_tree : (page_of_stamp : ℕ → Option PageOfStamp) (tree : Tree) → PreservesTree g v page_of_stamp tree → PreservesTree g (counted v) page_of_stamp tree
  counted_tree page_of_stamp tree k = record { pages = k.pages; extends = k.extends; runs = record { runs = k.runs.runs; shows = k.runs.shows; given = k.runs.given } }

-- where it has no line in flight, the goal of a worker is all calls so far
pub goal_is : {D : Type 0} (u : Core D) (worker : ℕ) → of_worker u.flight worker ≡ begun 0 → goal_now u worker ≡ u.count
goal_is u worker idle = ap (λ (y : InFlight). goal_or y.goal u.count) idle

module _ {D : Type 0} (g : Ghosts D) (files worker : ℕ) (call : Call) (u v : Core D) (reply : Reply) (out : List ℕ) (more : ℕ) (was : CoreServes g files u) (core : IsCore g v) (x : AnswersCall g worker call u v reply out more) where
  idle_on : (w : ℕ) → of_worker v.flight w ≡ begun 0
  idle_on w = by (cases_eq w worker)
    where
      by : (w ≡ worker) ⊎ (w ≢ worker) → of_worker v.flight w ≡ begun 0
      by (inl own) = ap (λ n. of_worker v.flight n) own ∙ x.line.idle
      by (inr far) = none_is v.flight w core.flight (x.line.others w far ∙ ap nameless_line (was.idle w))

  pub steps_on : TakesStep g call u (counted v) reply
  steps_on tells page_of_stamp tree at =
      counted_tree g v page_of_stamp (step_marked (g.shape u.device) tree (call, fault_in reply)).tree (steps_of g call _ u v reply x.effect x.synced tells page_of_stamp tree at)

  some_tree : RepresentsSomeTree g (counted v)
  some_tree tells = let k = was.runs tells in let on = steps_on tells k.0 k.1 k.2 in (on.pages, (step_marked (g.shape u.device) k.1 (call, fault_in reply)).tree, on.runs)

  pub serves_on : CoreServes g more (counted v)
  serves_on = record { core = counted_core g v core; runs = some_tree; counted = x.files_are; idle = idle_on }

  pub keeps_on : Keeps g u v
  keeps_on = keeps_of g (goal_now u worker) call u v reply x.effect

  pub count_on : v.count ≡ u.count
  count_on = count_of g (goal_now u worker) call u v reply x.effect

  pub tells_on : TellsAllCalls u (counted v) reply
  tells_on = tells_of g (goal_now u worker) call u v reply x.effect (goal_is u worker (was.idle worker)) core
