use Rattle.std.proofs.Common.{refl}
use Rattle.nl_calls_read.proofs.Ending.{loses-other}
use Rattle.nl_calls_read.proofs.reading.read_into.Goals as goal

pub returns-in-Done-clause-bytes : goal.returns-in-Done-clause-bytes
returns-in-Done-clause-bytes g c = λ tells e. record { more = c.read_file.new.out; added = c.extend.ensures; are = c.in-Done.ensures.bytes tells refl }

pub returns-in_default-clause-lost : goal.returns-in_default-clause-lost
returns-in_default-clause-lost g c = loses-other _ c.read_file.result c.read_file.ensures.lost
