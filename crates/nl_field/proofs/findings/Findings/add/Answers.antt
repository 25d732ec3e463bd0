use Rattle.std.proofs.Common.{◌≡◌, ◌∙◌, ap}
use Rattle.std.specs.Int.RustNames.{bit_or}
use Rattle.nl_field.specs.FindingBits.{bit_of}
use Rattle.nl_field.proofs.FindingBits.{add-has, add-keeps}
use Rattle.nl_field.proofs.findings.Findings.add.Goals as goal

pub returns-clause-added : goal.returns-clause-added
returns-clause-added c =
    let e : c.insert.new.self.0 ≡ bit_or c.args.self.now.0 (bit_of c.args.what) = c.insert.ensures tt ∙ ap (bit_or c.args.self.now.0) c.flag.ensures in
    rw e (add-has c.args.self.now.0 c.args.what)

pub returns-clause-others : goal.returns-clause-others
returns-clause-others c other differ =
    let e : c.insert.new.self.0 ≡ bit_or c.args.self.now.0 (bit_of c.args.what) = c.insert.ensures tt ∙ ap (bit_or c.args.self.now.0) c.flag.ensures in
    rw e (add-keeps c.args.self.now.0 c.args.what other differ)
