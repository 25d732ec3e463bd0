use Rattle.nl_pseg.specs.declared.held.Held.{Held}
use Rattle.std.specs.Bool.{OnTrue, OnFalse}
use Rattle.std.specs.Global.{Global}
use Rattle.std.proofs.Common.{◌≡◌, ◌↔◌, get_or, None, sym, ◌∙◌, ap, subst, IsTrue, ◌+◌, Option, Vec}
use Rattle.std.proofs.lemmas.Bool.{OnTrue_at, OnTrue_from}
use Rattle.nl_field.specs.Page.{Image}
use Rattle.nl_remap.specs.Table.{told}
use Rattle.nl_pseg.specs.Cleaning.{without_name}
use Rattle.nl_pseg.specs.Segment.{CanSpareBlock, IsClean, IsOldName, IsPhysicalOf, KeepsBlock, Physical, SameBlocksAndPages}
use Rattle.nl_pseg.specs.Seen.{seen}
use Rattle.nl_pseg.specs.Space.{GivesBackBlocks, Lessens, reach}
use Rattle.nl_pseg.proofs.After.{dropped_back, dropped_few, dropped_reach, dropped_space}
use Rattle.nl_pseg.proofs.Dropping.{dropped_told}
use Rattle.nl_pseg.proofs.Ended.{gone_clean, gone_kept, gone_segment, gone_spare, gone_pages}
use Rattle.nl_pseg.proofs.Gone.{old_told, told_old}
use Rattle.nl_pseg.specs.Kept.{kept}
use Rattle.nl_pseg.proofs.pseg.PSeg.drop_name.Goals as goal

pub whole-requires-clause-few : goal.whole-requires-clause-few
whole-requires-clause-few c =
    let s = kept c.self.inside.state in
    let i = c.self.invariant in
    let d = c.drop_name-dropped.ensures in
    dropped_few s (kept c.drop_name-dropped.new.self) i.0 i.1 i.3 i.2 d.formed d.tied c.table.ensures d.gone d.held

pub returns-clause-found : goal.returns-clause-found
returns-clause-found c =
    let s = kept c.self.inside.state in
    let d = c.drop_name-dropped.ensures in
    subst (λ (o : Physical). IsTrue c.drop_name-dropped.result ↔ IsOldName o c.args.name) c.self.view_is
    ((λ yes. old_told s.names.pairs c.args.name (d.found.0 yes)), (λ old. d.found.1 (told_old s.names.pairs c.args.name old)))

pub returns-clause-pairs : goal.returns-clause-pairs
returns-clause-pairs c =
    let s = kept c.self.inside.state in
    let i = c.self.invariant in
    let d = c.drop_name-dropped.ensures in
    let x = kept c.drop_name-dropped.new.self in
    OnTrue_from c.drop_name-dropped.result (told x.names.pairs ≡ without_name c.args.name c.args.self.now.pairs)
    (λ yes. ap told (OnTrue_at yes d.pairs) ∙ (dropped_told s.names.pairs c.args.name i.1.named.remap (d.found.0 yes) ∙ ap (λ (o : Physical). without_name c.args.name o.pairs) c.self.view_is))

pub returns-clause-space : goal.returns-clause-space
returns-clause-space c =
    let s = kept c.self.inside.state in
    let i = c.self.invariant in
    let d = c.drop_name-dropped.ensures in
    let x = kept c.drop_name-dropped.new.self in
    subst (λ (o : Physical). Lessens 0 o (seen x)) c.self.view_is (dropped_space s x i.0 i.1 i.3 i.2 d.formed d.tied c.table.ensures d.gone d.held)

pub returns-clause-reach : goal.returns-clause-reach
returns-clause-reach c =
    let s = kept c.self.inside.state in
    let i = c.self.invariant in
    let d = c.drop_name-dropped.ensures in
    let x = kept c.drop_name-dropped.new.self in
    subst (λ (o : Physical). reach (seen x) ≡ reach o) c.self.view_is (dropped_reach s x i.0 i.1 i.3 i.2 d.formed d.tied c.table.ensures d.gone d.held)

pub returns-clause-back : goal.returns-clause-back
returns-clause-back c =
    let s = kept c.self.inside.state in
    let i = c.self.invariant in
    let d = c.drop_name-dropped.ensures in
    let x = kept c.drop_name-dropped.new.self in
    subst (λ (o : Physical). GivesBackBlocks o (seen x)) c.self.view_is (dropped_back s x i.0 i.1 i.3 i.2 d.formed d.tied c.table.ensures d.gone d.held)

pub returns-clause-segment : goal.returns-clause-segment
returns-clause-segment c =
    let d = c.drop_name-dropped.ensures in
    subst (λ (o : Physical). (image : Image) → IsPhysicalOf image o → IsPhysicalOf image (seen (kept c.drop_name-dropped.new.self))) c.self.view_is (gone_segment d.gone (λ p h live. (λ i. get_or (sym d.held i).items p None) ∙ live))

pub returns-clause-spare : goal.returns-clause-spare
returns-clause-spare c =
    let d = c.drop_name-dropped.ensures in
    subst (λ (o : Physical). (image : Image) → CanSpareBlock image o → CanSpareBlock image (seen (kept c.drop_name-dropped.new.self))) c.self.view_is (gone_spare d.gone (λ p h live. (λ i. get_or (sym d.held i).items p None) ∙ live))

pub returns-clause-kept_block : goal.returns-clause-kept_block
returns-clause-kept_block c = subst (λ (o : Physical). KeepsBlock o → KeepsBlock (seen (kept c.drop_name-dropped.new.self))) c.self.view_is (gone_kept c.drop_name-dropped.ensures.gone)

pub returns-clause-clean : goal.returns-clause-clean
returns-clause-clean c = subst (λ (o : Physical). IsClean o → IsClean (seen (kept c.drop_name-dropped.new.self))) c.self.view_is (gone_clean c.drop_name-dropped.ensures.gone)

pub drop_name-dropped-requires-clause-formed : goal.drop_name-dropped-requires-clause-formed
drop_name-dropped-requires-clause-formed c = c.self.invariant.0

pub drop_name-dropped-requires-clause-tied : goal.drop_name-dropped-requires-clause-tied
drop_name-dropped-requires-clause-tied c = c.self.invariant.1

pub whole-requires-clause-formed : goal.whole-requires-clause-formed
whole-requires-clause-formed c = c.drop_name-dropped.ensures.formed

pub whole-requires-clause-tied : goal.whole-requires-clause-tied
whole-requires-clause-tied c = c.drop_name-dropped.ensures.tied

pub returns-clause-whole : goal.returns-clause-whole
returns-clause-whole c = c.whole.ensures.whole

pub returns-clause-room : goal.returns-clause-room
returns-clause-room c = subst (λ (s : Physical). OnTrue c.drop_name-dropped.result ((seen (kept c.drop_name-dropped.new.self)).pair_room ≡ s.pair_room + 1)) c.self.view_is c.drop_name-dropped.ensures.room

pub returns-clause-kept : goal.returns-clause-kept
returns-clause-kept c = subst (λ (s : Physical). OnFalse c.drop_name-dropped.result ((seen (kept c.drop_name-dropped.new.self)) ≡ s)) c.self.view_is c.drop_name-dropped.ensures.kept

pub returns-clause-live : goal.returns-clause-live
returns-clause-live c = subst (λ (s : Physical). (seen (kept c.drop_name-dropped.new.self)).held ≡ s.held) c.self.view_is (ap (λ (v : Vec (Option Held) Global). v.items) c.drop_name-dropped.ensures.held)

pub returns-clause-pages : goal.returns-clause-pages
returns-clause-pages c = subst (λ (s : Physical). SameBlocksAndPages s (seen (kept c.drop_name-dropped.new.self))) c.self.view_is (gone_pages c.drop_name-dropped.ensures.gone)
