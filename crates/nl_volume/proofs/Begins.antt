-- A volume that was opened stands for its opening and no turn.
use Rattle.std.proofs.Common.{◌≡◌, ◌≢◌, inl, inr, ℕ, zero, suc, ◌≤◌, Bool, true, false, cond, List, [], length, Option, replicate, refl, sym, ap, subst, ◌∙◌, arith}
use Rattle.std.specs.Prelude.{nat_lt, IfSome}
use Rattle.nl_field.specs.CrashStates.{top}
use Rattle.nl_field.specs.Members as members
use Rattle.nl_tree.specs.Tree.{Tree}
use Rattle.nl_tree.specs.declared.call.Line.{Line}
use Rattle.nl_flight.specs.Flight.{InFlight, begun, nothing, of_worker}
use Rattle.nl_iface.specs.declared.counts.Counts.{Ghosts}
use Rattle.nl_meta.specs.Consistent.{PageOfStamp}
use Rattle.nl_spec_image.specs.Crash.{Run}
use Rattle.nl_spec_commits.specs.Trees.{all_at}
use Rattle.nl_core.specs.Core.{IsCore}
use Rattle.nl_core.specs.Trees.{CoreRepresents}
use Rattle.nl_core.specs.declared.state.Core.{Core}
use Rattle.nl_core_open.specs.Opening.{IsOpenedCore}
use Rattle.nl_spec_crashes.specs.Along.{FollowsRun}
use Rattle.nl_spec_crashes.proofs.Along.{opening_goes_along}
use Rattle.nl_turns.specs.History.{Opening, marked_calls, syncs_of}
use Rattle.nl_volume.specs.Opening.{opening_of}
use Rattle.nl_volume_stage.specs.Standing.{EachIsLine, IsGoal, RepresentsHistory, run_of}

no_calls : (o : Opening) → marked_calls o [] ≡ []
unfolding marked_calls
no_calls o = refl

no_syncs : syncs_of [] ≡ []
unfolding syncs_of
no_syncs = refl

all_begun : (n worker : ℕ) → of_worker (replicate n (begun 0)) worker ≡ begun 0
all_begun zero worker = refl
all_begun (suc n) zero = refl
all_begun (suc n) (suc worker) = all_begun n worker

none_flies : (worker : ℕ) → of_worker nothing worker ≡ begun 0
none_flies worker = all_begun 8 worker

module _ {D : Type 0} (g : Ghosts D) (v : Core D) (tree : Tree) (lines : List Line) (core : IsCore g v) (opened : IsOpenedCore g v) (few : v.count ≤ top) (are : EachIsLine lines) (writes : g.write_faults v.device ≤ top)
    (stands : g.tells → (page_of_stamp : ℕ → Option PageOfStamp) × CoreRepresents g v page_of_stamp (all_at v.count tree)) where
  abbrev pub o : Opening
  o = opening_of g v tree lines

  same_run : run_of o [] ≡ record { shape = g.shape v.device; count = v.count; tree = tree; calls = []; syncs = [] }
  same_run = λ i. record { shape = g.shape v.device; count = v.count; tree = tree; calls = no_calls o i; syncs = no_syncs i }

  -- a volume that is begun read-only has as many failed writes as can be counted
  full : v.stopped ≢ 0 → (g.write_faults v.device ≡ top) × (v.stopped ≡ top)
  full off = by (nat_lt (g.write_faults v.device) top) refl
    where
      by : (b : Bool) → nat_lt (g.write_faults v.device) top ≡ b → (g.write_faults v.device ≡ top) × (v.stopped ≡ top)
      by true e = absurd (off (opened.stopped ∙ ap (λ b. cond b 0 top) e))
      by false e = (grind (arith, e, writes), opened.stopped ∙ ap (λ b. cond b 0 top) e)

  pub opening_stands : RepresentsHistory g v o [] v 0
  opening_stands = record {
    serves = record {
      few = few;
      lines = are;
      core = core;
      known = λ e none. absurd none;
      along = subst (λ (r : Run). FollowsRun g v (g.clock v.device) r v) (sym same_run) (opening_goes_along g v tree stands few);
      effects = refl;
      since = record { clock = omega arith; read_faults = omega arith; write_faults = omega arith };
      next_stamp = λ low less. omega arith;
      stamps_rise = omega arith;
      read_only = λ off. let k = full off in (inr k.0, (inr k.1, let all = k.0 in let end = k.1 in omega (arith, all, end)));
      marks = λ e none. absurd none;
      syncs = λ i. tt;
      moments = record {
        begins = let same = opened.moment in omega (arith, same);
        ends = let same = opened.moment in omega (arith, same);
        since = inr opened.committed;
        not_below = let same = opened.committed in omega (arith, same);
        rising = λ i j d low high. absurd (let none = ap length no_syncs in let off : ⊥ = omega (arith, high, none) in off);
        within = λ s has. absurd (subst (λ xs. members.Has xs s) no_syncs has);
      };
    };
    flight = λ worker. let none = ap (λ (f : List InFlight). of_worker f worker) opened.flight ∙ none_flies worker in inl (ap (λ (x : InFlight). x.line) none, ap (λ (x : InFlight). x.fault) none);
    goals = λ worker. let none = ap (λ (x : InFlight). x.goal) (ap (λ (f : List InFlight). of_worker f worker) opened.flight ∙ none_flies worker) in
        subst (λ (x : Option ℕ). IfSome x (IsGoal o [] v.count (of_worker v.flight worker).line)) (sym none) tt;
    numbers = record {
      past = λ i j d low high. absurd (let off : ⊥ = omega (arith, high) in off);
      kept = λ worker e n none. absurd none;
      apart = λ w w' far some. absurd (some (ap (λ (x : InFlight). x.fault) (ap (λ (f : List InFlight). of_worker f w) opened.flight ∙ none_flies w)));
      one = λ e n none. absurd none;
    };
  }
