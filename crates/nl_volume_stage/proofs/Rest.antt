-- What a staging says of what was left, where another line of the worker was left before.
use Rattle.std.proofs.Common.{◌≡◌, ◌≢◌, inl, inr, ℕ, ◌+◌, false, cond, Option, Some, refl, sym, ap, ◌∙◌, arith}
use Rattle.nl_tree.specs.Causes.{FaultRose, fault_sum}
use Rattle.nl_tree.specs.declared.call.Call.{Call}
use Rattle.nl_tree.specs.declared.call.Call.TheVariants.{Mkdir, Rmdir, Create, Unlink, Rename, Write, Fill, Read, Truncate, Stat, List as ListCall, Sync, Clean}
use Rattle.nl_tree.specs.declared.turn.Stage.{Stage}
use Rattle.nl_tree.specs.declared.turn.Stage.TheVariants as stage
use Rattle.nl_iface.specs.declared.counts.Counts.{Ghosts}
use Rattle.nl_core.specs.LastCommit.{LeavesMedium}
use Rattle.nl_core.specs.Units.{goal_of, goal_or, is_unit_left}
use Rattle.nl_core.specs.declared.state.Core.{Core}
use Rattle.nl_core.proofs.LastCommits.{leaves_then}
use Rattle.nl_core.proofs.Onward.{goes_then}
use Rattle.nl_calls_steps.specs.Calls.{counts_of}
use Rattle.nl_turns.specs.Served.{is_fault}
use Rattle.nl_volume_stage.specs.Staging.{FindsUnit, PassesOn, StagesTurn, TellsLeft, TellsRest, TellsUnit}

-- only of a sync units are left
no_unit_left : (call : Call) → call ≢ Sync → (goal : Option ℕ) (committed count : ℕ) → is_unit_left call goal committed count ≡ false
no_unit_left (Mkdir path) off goal committed count = refl
no_unit_left (Rmdir path) off goal committed count = refl
no_unit_left (Create path) off goal committed count = refl
no_unit_left (Unlink path) off goal committed count = refl
no_unit_left (Rename from to) off goal committed count = refl
no_unit_left (Write path from bytes) off goal committed count = refl
no_unit_left (Fill path from len byte) off goal committed count = refl
no_unit_left (Read path from len) off goal committed count = refl
no_unit_left (Truncate path size) off goal committed count = refl
no_unit_left (Stat path) off goal committed count = refl
no_unit_left (ListCall path) off goal committed count = refl
no_unit_left Sync off goal committed count = absurd (off refl)
no_unit_left Clean off goal committed count = refl

module _ {D : Type 0} (g : Ghosts D) (worker line : ℕ) (call : Call) (u w : Core D) where
  -- it was stopped
  pub rest_stopped : TellsRest g worker line call u w stage.Stopped
  rest_stopped = record {
    pages = λ off tells page_of_stamp tree runs. tt;
    units = record {
      whole = λ is. absurd (cc is);
      none = λ is no. inr refl;
      done = λ is no. absurd (cc no);
      goal = λ is far. absurd (far refl);
    };
  }

  -- of a call that is no sync
  pub rest_of_pages : (answer : Stage) → call ≢ Sync → TellsLeft g worker line call u w answer → TellsRest g worker line call u w answer
  rest_of_pages answer off left = record {
    pages = λ other. left;
    units = record {
      whole = λ is. no_unit_left call off (goal_of u.flight worker line) u.committed u.count;
      none = λ is. absurd (off is);
      done = λ is. absurd (off is);
      goal = λ is. absurd (off is);
    };
  }

-- of a sync
module _ {D : Type 0} (g : Ghosts D) (worker line : ℕ) (u v w : Core D) (answer : Stage) (passes : PassesOn g worker line u v) (goal : goal_of v.flight worker line ≡ goal_of u.flight worker line) (kept : LeavesMedium g u v)
    (others : v ≡ record u { device = v.device; flight = v.flight }) where
  same_left : is_unit_left Sync (goal_of v.flight worker line) v.committed v.count ≡ is_unit_left Sync (goal_of u.flight worker line) u.committed u.count
  same_left = λ i. is_unit_left Sync (goal i) (kept.commit.committed i) (passes.goes.count i)

  found : (b : Core D) → FindsUnit g v b → FindsUnit g u b
  found b f = record { kept = leaves_then g u v b kept f.kept; others = f.others ∙ ap (λ (x : Core D). record x { device = b.device; flight = b.flight }) others }

  pub rest_of_units : TellsUnit g worker line Sync v w answer → TellsRest g worker line Sync u w answer
  rest_of_units x = record {
    pages = λ off. absurd (off refl);
    units = record {
      whole = λ is. sym same_left ∙ x.whole is;
      none = λ is no. x.none is (same_left ∙ no);
      done = λ is at. let k = x.done is at in (k.0, found k.0 k.1, k.2);
      goal = λ is far. x.goal is far ∙ (λ i. Some (goal_or (goal i) (passes.goes.count i)));
    };
  }

  pub passes_turn : StagesTurn g worker line Sync v w answer → StagesTurn g worker line Sync u w answer
  passes_turn q = record {
    most = passes.most + q.most;
    goes = goes_then g u v w passes.most q.most passes.goes q.goes;
    on = λ origin o h done s of. q.on origin o h done (passes.on origin o h done s) of;
    others = λ x far. q.others x far ∙ passes.others x far;
    fault = q.fault ∙ ap (λ (k : Option ℕ). cond (is_fault answer) (Some (fault_sum (counts_of g w.device))) k) passes.fault;
    falls = λ staged. let same = passes.room in let less = q.falls staged in omega (arith, same, less);
    failed = λ is. earlier (q.failed is);
    lost = q.lost;
  }
    where
      earlier : FaultRose (counts_of g v.device) (counts_of g w.device) → FaultRose (counts_of g u.device) (counts_of g w.device)
      earlier (inl rose) = inl (let low = passes.goes.reads in omega (arith, rose, low))
      earlier (inr rose) = inr (let low = passes.goes.writes in omega (arith, rose, low))
