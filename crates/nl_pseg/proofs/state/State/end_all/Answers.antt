use Rattle.std.specs.Prelude.{Vec}
use Rattle.std.specs.Global.{Global}
use Rattle.nl_pseg.specs.declared.held.Held.{Held}
use Rattle.std.proofs.Common.{◌∙◌, ap, None, Option, get_or, is_some}
use Rattle.nl_remap.specs.Table.{told}
use Rattle.nl_pseg.proofs.Dropping.{told_beside}
use Rattle.nl_pseg.proofs.Ended.{ends}
use Rattle.nl_pseg.specs.Kept.{kept}
use Rattle.nl_pseg.proofs.state.State.end_all.Goals as goal

pub returns-clause-ended : goal.returns-clause-ended
returns-clause-ended c =
    let s = kept c.args.self.now in
    let d = c.drop_names.ensures in
    let e = c.end.ensures in
    ends c.args.page c.requires.within d.gone (λ i. (d.held i).items) (ap told d.pairs ∙ told_beside c.args.page s.names.pairs) e.pages e.space e.same e.held

pub end-requires-clause-live : goal.end-requires-clause-live
end-requires-clause-live c = ap (λ (l : Vec (Option Held) Global). is_some (get_or l.items c.args.page None)) c.drop_names.ensures.held ∙ c.requires.live
