use Rattle.std.proofs.Common.{ℕ, ◌+◌, ◌<◌, List, sym, ap, subst, ◌∙◌, arith, Option, option_and_then}
use Rattle.std.specs.Prelude.{slice_get}
use Rattle.nl_dir.proofs.LawProofs.{entries_in_order}
use Rattle.nl_meta.specs.Nodes.{entries_of_inode}
use Rattle.nl_meta.specs.Pages.{page_of}
use Rattle.nl_volume_list.specs.Entries.{is_behind, is_lesser}
use Rattle.nl_volume_list.proofs.Least.{LeastSoFar, is-now, least-all, least-none, still-before, still-stays}
use Rattle.nl_volume_list.proofs.entries.least_place.Goals as goal
use Rattle.nl_volume_list.proofs.entries.least_place.Goals.{then-comes_behind+then-is_before, else-comes_behind, else-comes_behind-via-then-comes_behind+else-is_before, else-comes_behind-via-else-comes_behind}

pub loop-place-init : goal.loop-place-init
loop-place-init c = record { below = tt; least = least-none (entries_of_inode (page_of c.args.meta.now) c.args.rec.now) c.args.after.now }

pub loop-place-preserved : goal.loop-place-preserved
loop-place-preserved c =
    let es = entries_of_inode (page_of c.args.meta.now) c.args.rec.now in
    let n = c.name_at-name.ensures in
    let is = c.loop-place.invariant in
    let t = c.loop-place-test.true in
    let few = c.requires.few in
    let inside : c.loop-place.place < c.args.rec.now.size = omega (arith, t, few) in
    let at = option_and_then (slice_get es) c.loop-place.least in
    elim c.if-comes_behind.branch [
      | then-comes_behind+then-is_before w ↦
          subst (λ (o : Option ℕ). LeastSoFar es c.args.after.now c.args.rec.now.size (c.loop-place.place + 1) o) (sym w.least-is)
          (is-now es c.loop-place.place n.0 n.1 c.args.after.now c.args.rec.now.size c.loop-place.least is inside
          (ap (λ (name : List ℕ). is_behind c.args.after.now name) (sym n.2) ∙ sym c.comes_behind.ensures ∙ w.if-comes_behind.true)
          (ap (λ (name : List ℕ). is_lesser name at) (sym n.2) ∙ sym w.is_before.ensures ∙ w.if-is_before.true))
      | else-comes_behind w ↦
          subst (λ (o : Option ℕ). LeastSoFar es c.args.after.now c.args.rec.now.size (c.loop-place.place + 1) o) (sym w.least-is)
          (elim w.else-comes_behind.branch [
            | else-comes_behind-via-then-comes_behind+else-is_before w' ↦
                still-stays es c.loop-place.place n.0 n.1 c.args.after.now c.args.rec.now.size c.loop-place.least is
                (ap (λ (name : List ℕ). is_lesser name at) (sym n.2) ∙ sym w'.is_before.ensures ∙ w'.if-is_before.false)
            | else-comes_behind-via-else-comes_behind w' ↦
                still-before es c.loop-place.place n.0 n.1 c.args.after.now c.args.rec.now.size c.loop-place.least is
                (ap (λ (name : List ℕ). is_behind c.args.after.now name) (sym n.2) ∙ sym c.comes_behind.ensures ∙ w'.if-comes_behind.false)
          ])
    ]

pub returns-clause-below : goal.returns-clause-below
returns-clause-below c = c.loop-place.invariant.below

pub returns-clause-least : goal.returns-clause-least
returns-clause-least c =
    let es = entries_of_inode (page_of c.args.meta.now) c.args.rec.now in
    let count = (entries_in_order (page_of c.args.meta.now) c.args.rec.now c.requires.directory).count in
    let t = c.loop-place-test.false in
    let most = c.loop-place.auto.place-end in
    least-all es c.loop-place.place c.args.after.now (option_and_then (slice_get es) c.loop-place.least) (omega (arith, count, t, most)) c.loop-place.invariant.least
