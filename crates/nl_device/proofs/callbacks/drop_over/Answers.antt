use Rattle.std.proofs.Common.{◌≡◌, ◌∙◌, ◌≤◌, ℕ, List, ap, length, refl, subst, sym}
use Rattle.std.proofs.lemmas.Bool.{OnTrue_at}
use Rattle.nl_callbacks.specs.Pending.{PendingTable, entry_at}
use Rattle.nl_pseg.specs.Cleaning.{without_name}
use Rattle.nl_pseg.specs.Segment.{IsOldName}
use Rattle.nl_device.specs.Space.{space_of}
use Rattle.nl_device.specs.State.{has_at}
use Rattle.nl_device.proofs.Dropping.{called_dropped, dropped_fewer, drops_none, gone_then, unnamed_length}
use Rattle.nl_device.proofs.SpaceSteps.{name_gone}
use Rattle.nl_device.proofs.callbacks.drop_over.Goals as goal

pub over-init : goal.over-init
over-init c = record { dropped = drops_none c.args.pseg.now c.args.pending.now c.requires.whole c.requires.called; over = refl; posted = refl }

pub over-preserved : goal.over-preserved
over-preserved c =
    let k = c.in-Some.ensures.some in
    let t = c.over.pending in
    let u = c.acknowledge_next.new.self in
    let d = c.over.invariant.dropped in
    let e = c.drop_name.ensures in
    let now = c.drop_name.new.self in
    let here = has_at t.callbacks k.at k.within in
    let is = e.found.1 (subst (IsOldName c.over.pseg) k.named (d.called.old (entry_at t.callbacks k.at).callback here)) in
    let dropped = OnTrue_at is e.pairs in
    let pairs = subst (λ n. now.pairs ≡ without_name n c.over.pseg.pairs) (sym k.named) dropped in
    record {
      dropped = record {
        whole = e.whole;
        called = called_dropped c.over.pseg now t u k.at k.within d.called d.whole e.whole k.gone pairs c.in-Some.ensures.table e.live e.pages.same_size;
        same = record {
          same_first = e.pages.same_first ∙ d.same.same_first;
          same_blocks = e.pages.same_blocks ∙ d.same.same_blocks;
          same_size = e.pages.same_size ∙ d.same.same_size;
          same_wear = λ block. e.pages.same_wear block ∙ d.same.same_wear block;
        };
        held = e.live ∙ d.held;
        fewer = λ n x h. d.fewer n x (dropped_fewer c.over.pseg now t u k.at k.within d.called d.whole e.whole k.gone pairs n x h);
        victim = e.space.victim ∙ d.victim;
        space = gone_then (space_of c.args.pseg.now) (space_of c.over.pseg) (space_of now) d.space
            (name_gone c.over.pseg now e.pages e.live (subst (λ (l : List (ℕ × ℕ)). length l ≤ length c.over.pseg.pairs) (sym dropped) (unnamed_length c.over.pseg.pairs c.in-Some.name)) e.space e.back e.reach);
        segment = λ image was. e.segment image (d.segment image was);
        spare = λ image was. e.spare image (d.spare image was);
        block = λ was. e.kept_block (d.block was);
        clean = λ was. e.clean (d.clean was);
      };
      over = c.in-Some.ensures.over ∙ c.over.invariant.over;
      posted = ap (λ (x : PendingTable). x.posted) k.gone ∙ c.over.invariant.posted;
    }
