-- What the turn of an effect shows.
use Rattle.std.proofs.Common.{◌≡◌, ◌≢◌, ℕ, ◌+◌, ◌≤◌, List, [], ◌∷◌, ◌++◌, Option, Some, None, sym, ap, subst, ◌∙◌, arith}
use Rattle.std.specs.Prelude.{IsSome}
use Rattle.nl_field.specs.CrashStates.{saturated}
use Rattle.nl_field.specs.declared.shape.Shape.{Shape}
use Rattle.nl_tree.specs.Causes.{NeverFall, fault_in}
use Rattle.nl_tree.specs.Replay.{Answers, step_marked}
use Rattle.nl_tree.specs.declared.call.Call.{Call}
use Rattle.nl_tree.specs.declared.reply.FaultReply.{FaultReply}
use Rattle.nl_tree.specs.declared.reply.Reply.{Reply}
use Rattle.nl_tree.specs.declared.reply.Reply.TheVariants.{Done, Count, Content, Names, File, Dir, Synced, No, Fault}
use Rattle.nl_tree.proofs.FaultProofs.{fault_laws}
use Rattle.nl_iface.specs.Device.{IsVolumeShape}
use Rattle.nl_iface.specs.declared.counts.Counts.{Ghosts}
use Rattle.nl_core.specs.Core.{IsCore}
use Rattle.nl_core.specs.declared.state.Core.{Core}
use Rattle.nl_core.specs.Calls.{counted}
use Rattle.nl_turns.specs.History.{Opening, tree_after}
use Rattle.nl_turns.specs.Served.{IsLineOf, StaysReadOnly, effect_entry, ordinal_due, outcome_due, place_due}
use Rattle.nl_turns.specs.declared.entry.Entry.{Entry}
use Rattle.nl_calls.specs.Answering.{MakesEffect, HasEffectOf}
use Rattle.nl_volume.specs.Effects.{AnswersLine}
use Rattle.nl_calls_steps.specs.Calls.{counts_of}
use Rattle.nl_volume_stage.specs.Serving.{refusing_of, some_number, to_stage_of}
use Rattle.nl_volume_stage.specs.Standing.{RepresentsHistory}
use Rattle.nl_volume_stage.specs.Turns.{AreCounts}
use Rattle.nl_core.specs.Units.{goal_of, goal_or}
use Rattle.nl_volume.proofs.Answering.{goes_onward, line_stands}
use Rattle.nl_volume_stage.proofs.Due.{marked}
use Rattle.nl_volume_stage.proofs.Histories.{calls_length}
use Rattle.nl_volume_stage.proofs.Serving.{GoalsWithin, staged_same, stays_read_only, to_stage_less}

-- ---- a volume becomes read-only only where a write failed

module _ {D : Type 0} (g : Ghosts D) (goal : ℕ) (call : Call) (u w : Core D) (core : IsCore g u) where
  effect_read_only : (fault : Option FaultReply) → MakesEffect g call fault u w → StaysReadOnly (counts_of g u.device) (counts_of g w.device) (some_number u.stopped) (some_number w.stopped)
  effect_read_only fault x =
      let m = x.steps.reads.medium in
      let k = stays_read_only g x.most u x.between core x.goes in
      let same : some_number w.stopped ≡ some_number x.between.stopped = ap (λ (c : Core D). some_number c.stopped) x.steps.others in
      let writes = m.write_faults in
      let later : NeverFall (counts_of g x.between.device) (counts_of g w.device) = record {
        clock = let c = m.clock in omega (arith, c);
        read_faults = x.steps.read_faults;
        write_faults = omega (arith, writes);
      } in
      record {
        stays = λ n is. same ∙ k.stays n is;
        begins = λ n none is. let b = k.begins n none (sym same ∙ is) in (let rose = b.0 in omega (arith, rose, writes), fault_laws.stays (counts_of g u.device) (counts_of g x.between.device) (counts_of g w.device) n b.1 later);
        always = λ low. subst (λ (o : Option ℕ). IsSome o) (sym same) (k.always (omega (arith, low, writes)));
      }

  pub stays_read : (reply : Reply) → HasEffectOf g goal call u w reply → StaysReadOnly (counts_of g u.device) (counts_of g w.device) (some_number u.stopped) (some_number w.stopped)
  stays_read Done x = effect_read_only None x
  stays_read (Count n) x = effect_read_only None x
  stays_read Content x = effect_read_only None x
  stays_read (Names n) x = effect_read_only None x
  stays_read (File size pages) x = effect_read_only None x
  stays_read (Dir entries) x = effect_read_only None x
  stays_read (Synced upto moment) x = stays_read_only g x.most u w core x.goes
  stays_read (No refusal) x = effect_read_only None x
  stays_read (Fault fault) x = effect_read_only (Some fault) x

module _ {D : Type 0} (g : Ghosts D) (u w : Core D) (worker line : ℕ) (call : Call) (reply : Reply) (out : List ℕ) (files : ℕ) (x : AnswersLine g worker line call u w reply out files) where
  pub line_less : GoalsWithin u → (k l : ℕ) → k ≢ worker → to_stage_of w k l ≤ to_stage_of u k l
  line_less within k l far = to_stage_less u w (goes_onward g (goal_or (goal_of u.flight worker line) u.count) call u w reply x.effect) within k l (x.ended.others k far)

  pub line_staged : (k l : ℕ) → k ≢ worker → (refusing_of g w k l).staged ≡ (refusing_of g u k l).staged
  line_staged k l far = staged_same u.flight w.flight k l (x.ended.others k far)

  module _ (origin : Core D) (o : Opening) (h : List Entry) (done : ℕ) (s : RepresentsHistory g origin o h u done) (of : IsLineOf o worker line call) (most : AreCounts g w) (volume : IsVolumeShape (g.shape w.device)) where
    then_stands : RepresentsHistory g origin o (h ++ effect_entry line reply ∷ []) (counted w) (saturated (done + 1))
    then_stands = line_stands g origin o h u w done worker line call reply out files s of x most volume

    pub line_place : saturated (w.count + 1) ≡ place_due o h line reply
    line_place = then_stands.serves.along.count ∙ ap (λ n. saturated (o.count + n)) (calls_length o (h ++ effect_entry line reply ∷ []) then_stands.serves.known)

    pub line_ordinal : saturated (done + 1) ≡ ordinal_due h line reply
    line_ordinal = then_stands.serves.effects

    pub line_answers : g.tells → Answers (outcome_due o h call reply) reply out
    line_answers tells =
        let k = s.serves.along.runs tells in
        subst (λ (f : Option FaultReply). Answers (step_marked o.shape (tree_after o h) (call, f)) reply out) (sym (marked reply))
        (subst (λ (z : Shape). Answers (step_marked z (tree_after o h) (call, fault_in reply)) reply out) s.serves.along.shape (x.answers tells k.0 (tree_after o h) k.1))
