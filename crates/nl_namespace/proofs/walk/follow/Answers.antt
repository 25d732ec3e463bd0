use Rattle.std.proofs.Common.{◌≡◌, ◌≢◌, Result, Ok, Err, Some, refl, sym, ap, subst, ◌∙◌}
use Rattle.std.specs.Prelude.{IsErr, IsErrAnd}
use Rattle.nl_meta_running.specs.Reading.{ReadsExplainStop, stop_of}
use Rattle.nl_meta_running.specs.declared.answer.Stop.{Stop}
use Rattle.nl_field.specs.declared.inode.Kind.{Kind}
use Rattle.nl_field.specs.declared.inode.Kind.TheVariants.{Unused, File, Dir}
use Rattle.nl_namespace.proofs.Chains.{then-reads}
use Rattle.nl_namespace.proofs.Entries.{named-held}
use Rattle.nl_meta_running.proofs.Holds.{bounds-of}
use Rattle.nl_meta_running.proofs.Kept.{kept-then, runs-then, used-on}
use Rattle.nl_namespace.proofs.walk.follow.Goals as goal

-- a kind that is neither of the others
file-of : (k : Kind) → (k ≡ Dir → ⊥) → k ≢ Unused → k ≡ File
file-of Unused dir unused = absurd (unused refl)
file-of File dir unused = refl
file-of Dir dir unused = absurd (dir refl)

-- what a call ends with that hands an error on
err-stop : {X : Type 0} (r : Result X Stop) (s : Stop) → IsErr r × IsErrAnd r (λ e. e ≡ s) → stop_of r ≡ Some s
err-stop (Ok x) s h = absurd h.1
err-stop (Err e) s h = ap (λ (z : Stop). Some z) h.1

pub hold_entries-requires-clause-runs : goal.hold_entries-requires-clause-runs
hold_entries-requires-clause-runs g c =
    let b = bounds-of (g.D.Counts.shape c.args.device.now) (g.met.D.VirtualPages.numbers c.args.device.now c.requires.formed) in
    runs-then g.D.Counts c.args.device.now c.args.meta.now c.node.new.device c.node.new.meta b c.in_ok-rec.ensures.kept c.requires.runs

pub hold_entries-requires-clause-directory : goal.hold_entries-requires-clause-directory
hold_entries-requires-clause-directory g c =
    let b = bounds-of (g.D.Counts.shape c.args.device.now) (g.met.D.VirtualPages.numbers c.args.device.now c.requires.formed) in (
      c.args.at,
      used-on g.D.Counts c.args.device.now c.args.meta.now c.node.new.device c.node.new.meta b c.in_ok-rec.ensures.kept c.args.at c.in_ok-rec.rec c.in_ok-rec.ensures.node,
      c.in-Dir.is,
    )

pub returns-in_err-hold_entries-clause-kept : goal.returns-in_err-hold_entries-clause-kept
returns-in_err-hold_entries-clause-kept g c =
    let b = bounds-of (g.D.Counts.shape c.args.device.now) (g.met.D.VirtualPages.numbers c.args.device.now c.requires.formed) in
    kept-then g.D.Counts c.args.device.now c.args.meta.now c.node.new.device c.node.new.meta b c.in_ok-rec.ensures.kept c.hold_entries.new.device c.hold_entries.new.meta c.in_err-hold_entries.ensures.kept

pub returns-in-Some-clause-kept : goal.returns-in-Some-clause-kept
returns-in-Some-clause-kept g c =
    let b = bounds-of (g.D.Counts.shape c.args.device.now) (g.met.D.VirtualPages.numbers c.args.device.now c.requires.formed) in
    kept-then g.D.Counts c.args.device.now c.args.meta.now c.node.new.device c.node.new.meta b c.in_ok-rec.ensures.kept c.hold_entries.new.device c.hold_entries.new.meta c.in_ok-hold_entries.ensures.kept

pub returns-in-None-clause-kept : goal.returns-in-None-clause-kept
returns-in-None-clause-kept g c =
    let b = bounds-of (g.D.Counts.shape c.args.device.now) (g.met.D.VirtualPages.numbers c.args.device.now c.requires.formed) in
    kept-then g.D.Counts c.args.device.now c.args.meta.now c.node.new.device c.node.new.meta b c.in_ok-rec.ensures.kept c.hold_entries.new.device c.hold_entries.new.meta c.in_ok-hold_entries.ensures.kept

pub returns-in-Some-clause-answer : goal.returns-in-Some-clause-answer
returns-in-Some-clause-answer g c =
    let b = bounds-of (g.D.Counts.shape c.args.device.now) (g.met.D.VirtualPages.numbers c.args.device.now c.requires.formed) in
    let is = c.in_ok-rec.ensures.node in (
      c.in-Some.entry,
      record {
        rec = c.in_ok-rec.rec;
        is_node = is;
        is_dir = c.in-Dir.is;
        named = sym (named-held g.D.Counts c.args.device.now c.args.meta.now c.node.new.device c.node.new.meta b c.in_ok-rec.ensures.kept c.args.at c.in_ok-rec.rec is c.in-Dir.is c.hold_entries.new.meta c.args.name.now c.in_ok-hold_entries.ensures.there)
            ∙ sym c.in-Some.ensures;
      },
      refl,
    )

pub returns-in-None-clause-answer : goal.returns-in-None-clause-answer
returns-in-None-clause-answer g c =
    let b = bounds-of (g.D.Counts.shape c.args.device.now) (g.met.D.VirtualPages.numbers c.args.device.now c.requires.formed) in
    let is = c.in_ok-rec.ensures.node in
    record {
      rec = c.in_ok-rec.rec;
      is_node = is;
      is_dir = c.in-Dir.is;
      named = sym (named-held g.D.Counts c.args.device.now c.args.meta.now c.node.new.device c.node.new.meta b c.in_ok-rec.ensures.kept c.args.at c.in_ok-rec.rec is c.in-Dir.is c.hold_entries.new.meta c.args.name.now c.in_ok-hold_entries.ensures.there)
          ∙ sym c.in-None.ensures;
    }

pub node-requires-clause-formed : goal.node-requires-clause-formed
node-requires-clause-formed g c = c.requires.formed

pub node-requires-clause-runs : goal.node-requires-clause-runs
node-requires-clause-runs g c = c.requires.runs

pub node-requires-clause-used : goal.node-requires-clause-used
node-requires-clause-used g c = c.requires.used

pub hold_entries-requires-clause-formed : goal.hold_entries-requires-clause-formed
hold_entries-requires-clause-formed g c = c.in_ok-rec.ensures.formed

pub find-requires : goal.find-requires
find-requires g c = c.in_ok-hold_entries.ensures.there.directory

pub returns-in_err-rec-clause-formed : goal.returns-in_err-rec-clause-formed
returns-in_err-rec-clause-formed g c = c.in_err-rec.ensures.formed

pub returns-in_err-rec-clause-kept : goal.returns-in_err-rec-clause-kept
returns-in_err-rec-clause-kept g c = c.in_err-rec.ensures.kept

pub returns-in_default-clause-formed : goal.returns-in_default-clause-formed
returns-in_default-clause-formed g c = c.in_ok-rec.ensures.formed

pub returns-in_default-clause-answer : goal.returns-in_default-clause-answer
returns-in_default-clause-answer g c = (c.in_ok-rec.rec, c.in_ok-rec.ensures.node, file-of c.in_ok-rec.rec.kind c.in_default.not-Dir c.in_ok-rec.ensures.node.used)

pub returns-in_default-clause-kept : goal.returns-in_default-clause-kept
returns-in_default-clause-kept g c = c.in_ok-rec.ensures.kept

pub returns-in_default-clause-reads : goal.returns-in_default-clause-reads
returns-in_default-clause-reads g c = c.in_ok-rec.ensures.reads

pub returns-in_err-hold_entries-clause-formed : goal.returns-in_err-hold_entries-clause-formed
returns-in_err-hold_entries-clause-formed g c = c.in_err-hold_entries.ensures.formed

pub returns-in_err-hold_entries-clause-reads : goal.returns-in_err-hold_entries-clause-reads
returns-in_err-hold_entries-clause-reads g c =
    subst (λ o. ReadsExplainStop g.D.Counts c.args.device.now c.hold_entries.new.device o) (sym (err-stop c.from_residual-in_err-hold_entries.result c.in_err-hold_entries.field-0.0 c.from_residual-in_err-hold_entries.ensures))
    (then-reads g.D.Counts c.args.device.now c.args.meta.now c.node.new.device c.node.new.meta (g.met.D.VirtualPages.numbers c.args.device.now c.requires.formed) c.in_ok-rec.ensures.kept c.hold_entries.new.device (Some c.in_err-hold_entries.field-0.0) c.in_ok-rec.ensures.reads c.in_err-hold_entries.ensures.reads)

pub returns-in_err-rec-clause-reads : goal.returns-in_err-rec-clause-reads
returns-in_err-rec-clause-reads g c =
    subst (λ o. ReadsExplainStop g.D.Counts c.args.device.now c.node.new.device o) (sym (err-stop c.from_residual.result c.in_err-rec.field-0.0 c.from_residual.ensures)) c.in_err-rec.ensures.reads

pub returns-in-Some-clause-formed : goal.returns-in-Some-clause-formed
returns-in-Some-clause-formed g c = c.in_ok-hold_entries.ensures.formed

pub returns-in-Some-clause-reads : goal.returns-in-Some-clause-reads
returns-in-Some-clause-reads g c = c.in_ok-hold_entries.ensures.reads ∙ c.in_ok-rec.ensures.reads

pub returns-in-None-clause-formed : goal.returns-in-None-clause-formed
returns-in-None-clause-formed g c = c.in_ok-hold_entries.ensures.formed

pub returns-in-None-clause-reads : goal.returns-in-None-clause-reads
returns-in-None-clause-reads g c = c.in_ok-hold_entries.ensures.reads ∙ c.in_ok-rec.ensures.reads
