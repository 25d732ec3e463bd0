use Rattle.std.proofs.Common.{◌+◌, ◌^◌, sym, ◌∙◌, arith}
use Rattle.std.proofs.lemmas.Bool.{ltb-true}
use Rattle.nl_field.specs.Numbers.{max_file_size}
use Rattle.nl_calls_bytes.specs.Ranges.{from_of, len_of}
use Rattle.nl_calls_write.proofs.Parts.{ends_more, far_refused}
use Rattle.nl_core.proofs.LastCommits.{commit_none}
use Rattle.nl_calls_write.proofs.writing.write_file.Goals as goal

pub returns-then-length_of-eq0-clause-ends : goal.returns-then-length_of-eq0-clause-ends
returns-then-length_of-eq0-clause-ends g c =
    let G = g.D.Counts in
    ends_more G 0 (2 ^ 36) c.args.worker c.args.call.now c.args.core.now c.write_none.new.core c.write_none.result c.requires.core (omega arith) c.write_none.ensures.ends

pub returns-then-ends_far-clause-ends : goal.returns-then-ends_far-clause-ends
returns-then-ends_far-clause-ends g c =
    let G = g.D.Counts in
    let r = c.requires in
    far_refused G (2 ^ 36) c.args.worker c.args.ino c.args.call.now c.args.core.now r.core r.writing r.short r.leads r.file c.looks_refuse.ensures (omega arith)
    (ltb-true max_file_size (from_of c.args.call.now + len_of c.args.call.now) (sym c.ends_far.ensures ∙ c.if-ends_far.true))

pub returns-then-length_of-eq0-clause-commit : goal.returns-then-length_of-eq0-clause-commit
returns-then-length_of-eq0-clause-commit g c room = c.write_none.ensures.commit

pub returns-then-ends_far-clause-commit : goal.returns-then-ends_far-clause-commit
returns-then-ends_far-clause-commit g c room = commit_none c.args.core.now
