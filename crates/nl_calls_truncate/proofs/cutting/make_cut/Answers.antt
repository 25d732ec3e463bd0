use Rattle.std.proofs.Common.{◌≡◌, ◌/◌, ◌%◌, length, take, refl, rules}
use Rattle.std.proofs.lemmas.Result.{IfOk-weaker}
use Rattle.nl_calls_steps.specs.Paging.{ArePageBytes}
use Rattle.nl_calls_truncate.specs.Truncating.{HasCutPage}
use Rattle.nl_calls_truncate.proofs.CutMade.{cut_made}
use Rattle.nl_calls_truncate.proofs.cutting.make_cut.Goals as goal

pub returns-clause-made : goal.returns-clause-made
returns-clause-made g c =
    let G = g.D.Counts in
    let v = c.args.core.now in
    let bytes = c.read_page-read.new.out in
    let size = c.args.size in
    let whole : length bytes ≡ 4096 = search rules in
    IfOk-weaker c.read_page-read.result (λ _. ArePageBytes G v c.args.ino (size / 4096) bytes) (λ _. HasCutPage G v c.args.ino size c.set_head.new.self.main)
    (λ x has. cut_made G v c.args.ino size bytes (take (size % 4096) bytes) c.set_head.new.self.main has whole refl c.set_head.ensures.main)
    c.read_page-read.ensures.page
