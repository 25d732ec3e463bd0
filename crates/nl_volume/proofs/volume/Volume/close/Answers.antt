use Rattle.std.proofs.Common.{◌≤◌, ◌⊎◌, ◌+◌, ◌^◌, ◌∙◌, ⊎_elim, inl, inr, refl, sym, ap, subst, arith}
use Rattle.nl_device.specs.contracts.counts.DeviceCounts.TheImpl.{ghosts}
use Rattle.std.proofs.lemmas.Bool.{cases_eq, cases_lt}
use Rattle.nl_field.specs.CrashStates.{Rose}
use Rattle.nl_tree.specs.Causes.{FaultRose}
use Rattle.nl_device.proofs.Forms.{shape_is}
use Rattle.nl_spec_image.specs.Crash.{CrashesSafely}
use Rattle.nl_spec_image.specs.Stands.{ConsistentAs}
use Rattle.nl_turns.specs.History.{effects, opening_counts, tree_after}
use Rattle.nl_volume.specs.Closing.{IsYoungAtEnd, counts_on}
use Rattle.nl_core.specs.Core.{begun_of}
use Rattle.nl_core.specs.declared.state.Core.{Core}
use Rattle.nl_device.specs.declared.device.Device.{Device}
use Rattle.nl_volume_stage.specs.Standing.{run_of}
use Rattle.nl_volume_stage.proofs.Closes.{closed_ends, closed_stops, could_write, false_of, is_done, none_failed, shape_at_end, sound_end, sound_stops, still_writes}
use Rattle.nl_volume.proofs.volume.Volume.close.Goals as goal

pub returns-clause-stops : goal.returns-clause-stops
returns-clause-stops g c v o h s young =
    let G = ghosts g.row.M g.M.Nand g.M.Nand-dict in
    let u = c.args.self.core in
    let last = c.commit_last-last.new.core in
    let e = c.commit_last-last.ensures in
    let is = c.into_media.ensures in
    let y = subst (λ m. IsYoungAtEnd g.M.Nand.tells o h (begun_of v.core) (g.M.Nand.clock m)) is young in
    subst (λ media. CrashesSafely ConsistentAs (λ m x. g.M.Nand.left v.core.device.media m x) (λ m x. g.M.Nand.left media m x) o.clock (g.M.Nand.clock media) (run_of o h)) (sym is)
    (sound_stops G (run_of o h) (λ m x. G.left v.core.device m x) (λ m x. G.left last.device m x) o.clock (G.clock last.device) (λ x. x) (λ x. refl)
    (λ m x left.
    let fit = g.met.M.Nand.left_fits last.device.media m x y.told left in
    (fit.whole, sym (shape_is e.core.formed.segments fit ∙ shape_at_end G v.core o h u last c.args.self.done s.0 e.goes)))
    (closed_stops G v.core o h u last c.args.self.done s.0 e.goes y.told y.moments y.calls y.numbers))

pub commit_last-last-requires-clause-stamp : goal.commit_last-last-requires-clause-stamp
commit_last-last-requires-clause-stamp g c young = ⊎_elim (λ low. low) (λ high. absurd (cc (sym young ∙ c.worn-worn.ensures.1 high))) (cases_lt c.args.self.core.device.next (2 ^ 62))

pub returns-clause-commits : goal.returns-clause-commits
returns-clause-commits g c k =
    let e = c.commit_last-last.ensures in
    let done = is_done c.commit_last-last.result (λ is. ⊎_elim (λ w. cc (sym w ∙ k.unworn)) (λ off. off k.writes) (e.why.0 is)) (λ is. cc (sym (c.is_lost.ensures.1 is) ∙ k.none_lost)) (λ is. cc (sym (c.is_fault.ensures.1 is) ∙ k.no_fault)) in
    let p = e.commits done in
    (c.commit_last-last.new.core, record { goes = e.goes; medium = c.into_media.ensures }, p.0, p.1)

pub returns-clause-left : goal.returns-clause-left
returns-clause-left g c why =
    let e = c.commit_last-last.ensures in
    c.into_media.ensures ∙ ap (λ (x : Core (Device g.row.M.Denot)). x.device.media) (e.left (e.why.1 (⊎_elim (λ off. inr off) (λ w. inl w) why)))

pub returns-clause-fault : goal.returns-clause-fault
returns-clause-fault g c is =
    let u = c.args.self.core in
    subst (λ m. Rose (g.M.Nand.read_faults u.device.media) (g.M.Nand.read_faults m) ⊎ Rose (g.M.Nand.write_faults u.device.media) (g.M.Nand.write_faults m)) (sym c.into_media.ensures)
    (c.commit_last-last.ensures.fault (c.is_fault.ensures.0 is))

pub returns-clause-lost : goal.returns-clause-lost
returns-clause-lost g c tells = false_of c.is_lost.result (λ is. c.commit_last-last.ensures.lost tells (c.is_lost.ensures.0 is))

-- exactly where the commit answered so
pub returns-clause-meets : goal.returns-clause-meets
returns-clause-meets g c is =
    let u = c.args.self.core in
    let e = c.commit_last-last.ensures in
    let at = c.is_lost.ensures.0 is in
    let k = e.meets at in
    record {
      writes = ⊎_elim (λ on. on) (λ off. absurd (cc (sym at ∙ e.why.1 (inr off)))) (cases_eq u.stopped 0);
      unworn = false_of c.worn-worn.result (λ w. cc (sym at ∙ e.why.1 (inl w)));
      no_fault = false_of c.is_fault.result (λ t. cc (sym at ∙ c.is_fault.ensures.0 t));
      not_done = (c.commit_last-last.new.core, record { goes = e.goes; medium = c.into_media.ensures }, k.0);
      untold = k.1;
    }

pub returns-clause-ends : goal.returns-clause-ends
returns-clause-ends g c v o h s young k none =
    let G = ghosts g.row.M g.M.Nand g.M.Nand-dict in
    let u = c.args.self.core in
    let last = c.commit_last-last.new.core in
    let e = c.commit_last-last.ensures in
    let is = c.into_media.ensures in
    let y = subst (λ m. IsYoungAtEnd g.M.Nand.tells o h (begun_of v.core) (g.M.Nand.clock m)) is young in
    let done = is_done c.commit_last-last.result (λ at. ⊎_elim (λ w. cc (sym w ∙ k.unworn)) (λ off. off k.writes) (e.why.0 at)) (λ at. cc (sym (c.is_lost.ensures.1 at) ∙ k.none_lost)) (λ at. cc (sym (c.is_fault.ensures.1 at) ∙ k.no_fault)) in
    let p = e.commits done in
    let writes = still_writes G v.core o h u last c.args.self.done s.0 e.goes k.writes (λ r. none (subst (λ m. Rose (g.M.Nand.write_faults u.device.media) (g.M.Nand.write_faults m)) (sym is) r)) in
    let fit = g.met.M.Nand.contents_fit last.device.media y.told in
    subst (λ m. ConsistentAs (g.M.Nand.contents m) (o.count + effects h) (tree_after o h)) (sym is)
    (sound_end G o.shape last.device (g.M.Nand.contents last.device.media) (o.count + effects h) (tree_after o h) refl fit.whole
    (sym (shape_is e.core.formed.segments fit ∙ shape_at_end G v.core o h u last c.args.self.done s.0 e.goes))
    (closed_ends G v.core o h u last c.args.self.done s.0 e.goes y.told y.moments y.calls y.numbers e.core c.device_stands.ensures.volume c.device_stands.ensures.map writes p.0 p.1))

pub returns-clause-ends_well : goal.returns-clause-ends_well
returns-clause-ends_well g c v o h s young none unworn =
    let G = ghosts g.row.M g.M.Nand g.M.Nand-dict in
    let u = c.args.self.core in
    let last = c.commit_last-last.new.core in
    let e = c.commit_last-last.ensures in
    let is = c.into_media.ensures in
    let none_since = λ (r : FaultRose (opening_counts o) (counts_on g.M.Nand.clock g.M.Nand.read_faults g.M.Nand.write_faults last.device.media)).
    none (subst (λ m. FaultRose (opening_counts o) (counts_on g.M.Nand.clock g.M.Nand.read_faults g.M.Nand.write_faults m)) (sym is) r) in
    returns-clause-ends g c v o h s young
    (record {
      writes = could_write G v.core o h u last c.args.self.done s.0 e.goes none_since;
      unworn = unworn;
      no_fault = false_of c.is_fault.result (λ t. none_failed G v.core o h u last c.args.self.done s.0 e.goes none_since (e.fault (c.is_fault.ensures.0 t)));
      none_lost = false_of c.is_lost.result (λ t. e.lost young.told (c.is_lost.ensures.0 t));
    })
    (λ r. none_failed G v.core o h u last c.args.self.done s.0 e.goes none_since (inr (subst (λ m. Rose (g.M.Nand.write_faults u.device.media) (g.M.Nand.write_faults m)) is r)))

pub returns-clause-used_up : goal.returns-clause-used_up
returns-clause-used_up g c v o h s high = let up : o.next_stamp ≤ c.args.self.core.device.next = s.0.serves.stamps_rise in c.worn-worn.ensures.1 (omega (arith, high, up))
