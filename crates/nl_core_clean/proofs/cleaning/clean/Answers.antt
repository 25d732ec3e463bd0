use Rattle.std.proofs.Common.{◌≡◌, inl, inr, ⊎_elim, refl, sym, ◌∙◌, ap, subst, arith}
use Rattle.nl_iface.specs.declared.moving.Copying.TheVariants as copy
use Rattle.nl_iface.proofs.Stops.{reads_then}
use Rattle.nl_iface.specs.Names.{Names}
use Rattle.nl_iface.specs.Calls.{stored}
use Rattle.nl_iface.specs.Space.{CanLand, Space}
use Rattle.nl_iface.specs.Victims.{IsWiped, StaysOrTakes}
use Rattle.nl_field.specs.declared.shape.Shape.{Shape}
use Rattle.nl_iface.specs.declared.moving.Erasing.TheVariants as erasure
use Rattle.nl_core_clean.specs.Spaces.{StaysInHand, HasEmptied}
use Rattle.nl_core_clean.proofs.Chosen.{is_chosen, same_none}
use Rattle.nl_core_clean.proofs.Counting.{counted_as}
use Rattle.nl_core_clean.proofs.Finishing.{busy, emptied_is, emptied_well, end_counted, end_held, end_rose, end_ticks, idle, in_hand, same_names, stays}
use Rattle.nl_core_clean.proofs.Steps.{erased_stored, still_stored, stored_then}
use Rattle.nl_core_clean.proofs.cleaning.clean.Goals as goal

pub returns-in-Lost-clause-nothing : goal.returns-in-Lost-clause-nothing
returns-in-Lost-clause-nothing g c =
    let G = g.D.Counts in
    let s = c.args.device.now in
    let t = c.empty_victim.new.device in
    let e = c.empty_victim.ensures in
    let stopped = subst (λ a. HasEmptied a (G.names s).space (G.names t).space) c.in-Lost.is e.emptied in
    (λ is. cc, λ nothing. absurd (busy G s t e.none stopped.victim nothing))

pub returns-in-Lost-clause-faults : goal.returns-in-Lost-clause-faults
returns-in-Lost-clause-faults g c = counted_as g.D.Counts (c.empty_victim.result ≡ copy.Fault) _ c.args.device.now c.empty_victim.new.device (λ is. cc) (λ fault. absurd (apart (sym c.in-Lost.is ∙ fault))) c.empty_victim.ensures.faults
  where
    apart : copy.Lost c.in-Lost.wanted c.in-Lost.found ≡ copy.Fault → ⊥
    apart e = cc

pub returns-in-Lost-clause-lands : goal.returns-in-Lost-clause-lands
returns-in-Lost-clause-lands g c = ⊎_elim (λ rose. inl (λ is. cc, rose)) (λ lands. inr lands) c.empty_victim.ensures.lands

pub returns-in-Fault-clause-lands : goal.returns-in-Fault-clause-lands
returns-in-Fault-clause-lands g c = ⊎_elim (λ rose. inl (λ is. cc, rose)) (λ lands. inr lands) c.empty_victim.ensures.lands

pub returns-in-Fault-clause-nothing : goal.returns-in-Fault-clause-nothing
returns-in-Fault-clause-nothing g c =
    let G = g.D.Counts in
    let s = c.args.device.now in
    let t = c.empty_victim.new.device in
    let e = c.empty_victim.ensures in
    let stopped = subst (λ a. HasEmptied a (G.names s).space (G.names t).space) c.in-Fault.is e.emptied in
    (λ is. cc, λ nothing. absurd (busy G s t e.none stopped.victim nothing))

pub returns-in-Fault-clause-faults : goal.returns-in-Fault-clause-faults
returns-in-Fault-clause-faults g c = counted_as g.D.Counts (c.empty_victim.result ≡ copy.Fault) _ c.args.device.now c.empty_victim.new.device (λ is. c.in-Fault.is) (λ fault. refl) c.empty_victim.ensures.faults

pub returns-in-Done : goal.returns-in-Done
returns-in-Done g c =
    let G = g.D.Counts in
    let s = c.args.device.now in
    let t = c.empty_victim.new.device in
    let u = c.erase.new.self in
    let e = c.empty_victim.ensures in
    let f = c.erase.ensures in
    let empty = emptied_is c.empty_victim.result (G.names s).space (G.names t).space c.in-Did.is e.emptied in
    let erased = f.done c.in-Done.is in
    let wiped = f.wiped c.in-Done.is in
    record {
      formed = f.formed;
      nothing = (λ is. cc, λ nothing. absurd (busy G s t e.none erased.space.in_hand nothing));
      none = λ is. cc;
      block = record { block = wiped.0; chosen = is_chosen g.D.MovingPages s t wiped.0 e.chosen wiped.1; none = wiped.2; wiped = λ tells. subst (λ n. IsWiped (g.D.MovingPages.blank u) n wiped.0 (stored G u)) (ap (λ (h : Shape). h.pages) e.held.virtual.same_shape) (wiped.3 tells) };
      space = ((G.names t).space, empty.0, erased.space);
      held = end_held G s t u e.stored e.held erased.tables f.left f.kept;
      stored = λ tells. inr (stored_then (e.stored tells) (erased_stored G t u (erased.now tells)));
      lands = inr (let left = erased.space.left in omega (arith, left));
      lost = λ w found is. cc;
      told = λ tells w found is. cc;
      ticks = end_ticks G _ s t u e.held.clock f.kept.clock (λ is. f.clock.0 c.in-Done.is);
      faults = end_counted G (c.empty_victim.result ≡ copy.Fault) (c.erase.result ≡ erasure.Fault) _ s t u (emptied_well c.empty_victim.result c.in-Did.is) e.held.clean e.faults f.read_faults f.write_faults (λ is. cc) (λ fault. absurd (apart (sym c.in-Done.is ∙ fault)));
    }
  where
    apart : erasure.Done ≡ erasure.Fault → ⊥
    apart e = cc

pub returns-in-Nothing : goal.returns-in-Nothing
returns-in-Nothing g c =
    let G = g.D.Counts in
    let s = c.args.device.now in
    let t = c.empty_victim.new.device in
    let u = c.erase.new.self in
    let e = c.empty_victim.ensures in
    let f = c.erase.ensures in
    let empty = emptied_is c.empty_victim.result (G.names s).space (G.names t).space c.in-Did.is e.emptied in
    let rests = idle (G.names s).space (G.names t).space empty.0 empty.1 (f.nothing.0 c.in-Nothing.is) in
    let reads = f.none c.in-Nothing.is in
    let all = reads_then G s t u (e.none rests.0) reads in
    record {
      formed = f.formed;
      nothing = (λ is. (rests.0, rests.1), λ nothing. refl);
      none = λ is. all;
      block = (f.same (λ done. other (sym c.in-Nothing.is ∙ done))).1 ∙ same_none g.D.MovingPages s t _ _ (g.met.D.MovingPages.in_hand s) (g.met.D.MovingPages.in_hand t) rests.1 (ap (λ (x : Space). x.victim) rests.2 ∙ rests.1);
      space = (rests.0, rests.1, ap (λ (n : Names). n.space) all.names);
      held = end_held G s t u e.stored e.held (same_names G t u reads.names) f.left f.kept;
      stored = λ tells. inr (stored_then (e.stored tells) (still_stored G t u tells reads.medium));
      lands = inr (subst (λ (n : Names). CanLand n.space) (sym all.names) c.requires.lands);
      lost = λ w found is. cc;
      told = λ tells w found is. cc;
      ticks = end_ticks G _ s t u e.held.clock f.kept.clock (λ is. cc);
      faults = end_counted G (c.empty_victim.result ≡ copy.Fault) (c.erase.result ≡ erasure.Fault) _ s t u (emptied_well c.empty_victim.result c.in-Did.is) e.held.clean e.faults f.read_faults f.write_faults (λ is. cc) (λ fault. absurd (apart (sym c.in-Nothing.is ∙ fault)));
    }
  where
    apart : erasure.Nothing ≡ erasure.Fault → ⊥
    apart e = cc

    other : erasure.Nothing ≡ erasure.Done → ⊥
    other e = cc

pub returns-in-Fault-erase : goal.returns-in-Fault-erase
returns-in-Fault-erase g c =
    let G = g.D.Counts in
    let s = c.args.device.now in
    let t = c.empty_victim.new.device in
    let u = c.erase.new.self in
    let e = c.empty_victim.ensures in
    let f = c.erase.ensures in
    let empty = emptied_is c.empty_victim.result (G.names s).space (G.names t).space c.in-Did.is e.emptied in
    let one = in_hand (G.names t).space empty.1 (λ off. apart (sym c.in-Fault-erase.is ∙ f.nothing.1 off)) in
    let same = (f.same (λ done. other (sym c.in-Fault-erase.is ∙ done))).0 in
    let rose = end_rose G (c.empty_victim.result ≡ copy.Fault) (c.erase.result ≡ erasure.Fault) s t u e.faults f.write_faults c.in-Fault-erase.is in
    record {
      formed = f.formed;
      nothing = (λ is. cc, λ nothing. absurd (busy G s t e.none one nothing));
      none = λ is. cc;
      block = subst (StaysOrTakes (g.D.MovingPages.most_dead s) (g.D.MovingPages.victim s)) (sym (f.same (λ done. other (sym c.in-Fault-erase.is ∙ done))).1) e.chosen;
      space = subst (λ (n : Names). StaysInHand (G.names s).space n.space) (sym same) (stays (G.names s).space (G.names t).space empty.0 one (g.met.D.MovingPages.none_bad t ∙ sym (g.met.D.MovingPages.none_bad s)));
      held = end_held G s t u e.stored e.held (same_names G t u same) f.left f.kept;
      stored = λ tells. inl (refl, rose);
      lands = inl (λ is. cc, rose);
      lost = λ w found is. cc;
      told = λ tells w found is. cc;
      ticks = end_ticks G _ s t u e.held.clock f.kept.clock (λ is. cc);
      faults = end_counted G (c.empty_victim.result ≡ copy.Fault) (c.erase.result ≡ erasure.Fault) _ s t u (emptied_well c.empty_victim.result c.in-Did.is) e.held.clean e.faults f.read_faults f.write_faults (λ is. c.in-Fault-erase.is) (λ fault. refl);
    }
  where
    apart : erasure.Fault ≡ erasure.Nothing → ⊥
    apart e = cc

    other : erasure.Fault ≡ erasure.Done → ⊥
    other e = cc
