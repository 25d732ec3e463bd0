use Rattle.std.proofs.Common.{◌^◌, ◌<◌, subst, sym}
use Rattle.nl_device.specs.Kept.{AreKeptPages}
use Rattle.nl_device.specs.Retain.{CanLoadPointer, IsCalled, LoadsPointer, placed_at, spare_for}
use Rattle.nl_device.proofs.CallsMade.{called_more, called_none}
use Rattle.nl_device.proofs.Retaining.{can_load, loaded_more, loaded_none}
use Rattle.nl_device.proofs.kept.Kept.retain.Goals as goal

pub listed-init : goal.listed-init
listed-init c = record {
  loaded = loaded_none c.args.self.now c.args.list.now.items c.args.pseg.now c.requires.segment c.requires.fresh;
  called = called_none c.args.self.now c.args.list.now.items c.args.pseg.now c.args.pending.now c.requires.idle (subst (λ n. n < 2 ^ 64) c.posted.ensures c.posted.type_inv);
}

pub load-requires-clause-can : goal.load-requires-clause-can
load-requires-clause-can c =
    let is = subst (λ k. AreKeptPages k c.self.inside.copies) c.self.view_is c.self.invariant in
    let i = c.listed.invariant in
    subst (λ k. CanLoadPointer k c.spare-spare.result c.get.result.now c.listed.pseg c.listed.pending) (sym c.spare-spare.ensures.same)
    (subst (λ o. CanLoadPointer c.args.self.now o c.get.result.now c.listed.pseg c.listed.pending) (sym c.spare-spare.ensures.spare)
    (can_load c.args.self.now c.self.inside.copies c.args.list.now.items is c.requires.can c.listed.at c.get.result.now c.args.pseg.now c.listed.pseg c.args.pending.now c.listed.pending i.loaded i.called c.get.ensures))

pub listed-preserved : goal.listed-preserved
listed-preserved c =
    let is = subst (λ k. AreKeptPages k c.self.inside.copies) c.self.view_is c.self.invariant in
    let i = c.listed.invariant in
    let p = c.get.result.now in
    let loads : LoadsPointer c.args.self.now (placed_at c.args.self.now (spare_for c.args.self.now c.args.list.now.items) p) p c.listed.pseg c.load.new.pseg =
    subst (λ o. LoadsPointer c.args.self.now (placed_at c.args.self.now o p) p c.listed.pseg c.load.new.pseg) c.spare-spare.ensures.spare
    (subst (λ k. LoadsPointer k (placed_at k c.spare-spare.result p) p c.listed.pseg c.load.new.pseg) c.spare-spare.ensures.same c.load.ensures.loaded) in
    let calls : IsCalled c.args.self.now (spare_for c.args.self.now c.args.list.now.items) p c.listed.pending c.load.new.pending =
    subst (λ o. IsCalled c.args.self.now o p c.listed.pending c.load.new.pending) c.spare-spare.ensures.spare
    (subst (λ k. IsCalled k c.spare-spare.result p c.listed.pending c.load.new.pending) c.spare-spare.ensures.same c.load.ensures.called) in
    record {
      loaded = loaded_more c.args.self.now c.self.inside.copies c.args.list.now.items is c.requires.can c.listed.at p c.args.pseg.now c.listed.pseg c.load.new.pseg c.args.pending.now c.listed.pending c.requires.fresh c.requires.segment i.loaded i.called c.get.ensures loads;
      called = called_more c.args.self.now c.self.inside.copies c.args.list.now.items is c.requires.can c.listed.at p c.args.pseg.now c.listed.pseg c.load.new.pseg c.args.pending.now c.listed.pending c.load.new.pending c.requires.fresh c.requires.segment i.loaded i.called c.get.ensures loads calls;
    }

pub returns-clause-kept : goal.returns-clause-kept
returns-clause-kept c = (c.self.inside.copies, subst (λ k. AreKeptPages k c.self.inside.copies) c.self.view_is c.self.invariant)
