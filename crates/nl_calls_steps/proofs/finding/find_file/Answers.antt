use Rattle.std.proofs.Common.{◌≡◌, false, sym, ap, ◌∙◌, inl}
use Rattle.nl_tree.specs.Step.{is_too_long}
use Rattle.nl_meta_running.specs.Reading.{stop_of}
use Rattle.nl_core.specs.Core.{running_of}
use Rattle.nl_calls_steps.proofs.finding.find_file.Goals as goal
use Rattle.nl_calls_steps.proofs.Early.{early-then}
use Rattle.nl_calls_files.proofs.FoundFiles.{look-missing, look-refused, too-long}
use Rattle.nl_calls_steps.proofs.Leading.{at-end}
use Rattle.nl_calls_steps.proofs.OnlyReads.{still-used}
use Rattle.nl_calls_steps.proofs.ReadCores.{reads-none, reads-then}

pub returns-then-is_long-clause-same : goal.returns-then-is_long-clause-same
returns-then-is_long-clause-same g c = reads-none g.D.Counts c.args.core.now c.requires.core

pub returns-then-is_long-clause-found : goal.returns-then-is_long-clause-found
returns-then-is_long-clause-found g c = λ page_of_stamp tree runs. too-long tree c.args.path.now (ap is_too_long (sym c.names.ensures) ∙ sym c.is_long.ensures ∙ c.if-is_long.true)

pub file_or_not-requires-clause-used : goal.file_or_not-requires-clause-used
file_or_not-requires-clause-used g c = still-used g.D.Counts c.args.core.now c.look_up.new.core c.device_stands.ensures.volume c.in-At.ensures.same c.in-At.ino c.in-At.ensures.used

pub returns-in-At-clause-same : goal.returns-in-At-clause-same
returns-in-At-clause-same g c =
    reads-then g.D.Counts c.args.core.now c.look_up.new.core c.device_stands.ensures.volume c.in-At.ensures.same c.file_or_not.new.core c.file_or_not.ensures.same

pub returns-in-At-clause-found : goal.returns-in-At-clause-found
returns-in-At-clause-found g c =
    let short : is_too_long c.args.path.now ≡ false = ap is_too_long (sym c.names.ensures) ∙ sym c.is_long.ensures ∙ c.if-is_long.false in
    at-end c.looks_in_tree.ensures g.D.Counts c.args.core.now c.look_up.new.core c.device_stands.ensures.volume c.in-At.ensures.same c.args.path.now short c.in-At.ino c.in-At.ensures.answer
    c.file_or_not.result c.file_or_not.ensures.found

pub returns-in-At-clause-early : goal.returns-in-At-clause-early
returns-in-At-clause-early g c =
    early-then g.D.Counts c.args.core.now c.look_up.new.core c.file_or_not.new.core (stop_of c.file_or_not.result) c.in-At.ensures.same c.file_or_not.ensures.early

pub returns-in-Missing-clause-found : goal.returns-in-Missing-clause-found
returns-in-Missing-clause-found g c =
    let G = g.D.Counts in
    let v = c.args.core.now in
    let short : is_too_long c.args.path.now ≡ false = ap is_too_long (sym c.names.ensures) ∙ sym c.is_long.ensures ∙ c.if-is_long.false in
    λ page_of_stamp tree runs. look-missing c.looks_in_tree.ensures (G.shape v.device) (running_of G v) page_of_stamp tree runs c.args.path.now short c.in-Missing.ensures.answer

pub returns-in-No-clause-found : goal.returns-in-No-clause-found
returns-in-No-clause-found g c =
    let G = g.D.Counts in
    let v = c.args.core.now in
    let short : is_too_long c.args.path.now ≡ false = ap is_too_long (sym c.names.ensures) ∙ sym c.is_long.ensures ∙ c.if-is_long.false in
    λ page_of_stamp tree runs. look-refused c.looks_in_tree.ensures (G.shape v.device) (running_of G v) page_of_stamp tree runs c.args.path.now short c.in-No.refusal c.in-No.ensures.answer

pub returns-in-Fault-clause-early : goal.returns-in-Fault-clause-early
returns-in-Fault-clause-early g c = inl (c.in-Fault.ensures.reads.cause tt)

pub returns-in-Lost-clause-early : goal.returns-in-Lost-clause-early
returns-in-Lost-clause-early g c = (c.in-Lost.ensures.reads.2, c.in-Lost.ensures.reads.3)
