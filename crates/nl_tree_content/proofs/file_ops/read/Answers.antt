use Rattle.std.proofs.Common.{arith, refl}
use Rattle.nl_field.specs.FileContent.{byte_of}
use Rattle.nl_tree_content.proofs.FileProofs.{read_step, read_length}
use Rattle.nl_tree_content.proofs.file_ops.read.Goals as goal

pub push_part-requires-clause-room : goal.push_part-requires-clause-room
push_part-requires-clause-room c = omega (arith, read_length (byte_of c.args.file.now) c.args.out.now c.parts.out c.args.from c.parts.done c.parts.invariant.0)

pub parts-preserved : goal.parts-preserved
parts-preserved c =
    (read_step (byte_of c.args.file.now) c.args.out.now c.parts.out _ c.args.from c.parts.done c.min_of-part.result _ _ refl refl c.push_part.ensures c.parts.invariant.0, omega arith)
