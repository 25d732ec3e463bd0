use Rattle.std.proofs.Common.{◌≡◌, ⊎_elim, ◌↔◌, None, set, refl, sym, ◌∙◌, ap, subst, IsTrue}
use Rattle.std.proofs.lemmas.Bool.{OnFalse_at, OnTrue_at, OnTrue_from, cases_Bool}
use Rattle.nl_field.specs.Live.{resolve}
use Rattle.nl_pseg.specs.Segment.{CanSpareBlock, IsClean, IsLive, IsPhysicalOf, KeepsBlock, Physical, SameBlocksAndPages, without_target}
use Rattle.nl_pseg.specs.Seen.{seen}
use Rattle.nl_pseg.specs.Space.{GivesBackBlocks, HasFewPairs, Lessens}
use Rattle.nl_pseg.specs.Steps.{EndsPage}
use Rattle.nl_pseg.proofs.After.{ended_back, ended_few, ended_space}
use Rattle.nl_pseg.proofs.Ended.{ended_was, gone_clean, gone_kept, gone_pages, gone_segment, gone_spare, nothing_back, nothing_lessens}
use Rattle.nl_pseg.proofs.States.{kept_dead, within_length}
use Rattle.nl_pseg.specs.Kept.{kept}
use Rattle.nl_pseg.proofs.pseg.PSeg.free.Goals as goal

pub whole-requires-clause-few : goal.whole-requires-clause-few
whole-requires-clause-few c =
    let s = kept c.self.inside.state in
    let x = kept c.free-freed.new.self in
    let i = c.self.invariant in
    let d = c.free-freed.ensures in
    ⊎_elim
    (λ yes. ended_few s x i.0 i.1 i.3 i.2 d.formed d.tied c.table.ensures (OnTrue_at yes d.ended))
    (λ no. subst HasFewPairs (sym (OnFalse_at no d.kept)) i.2)
    (cases_Bool c.free-freed.result)

pub returns-clause-found : goal.returns-clause-found
returns-clause-found c = subst (λ (o : Physical). IsTrue c.free-freed.result ↔ IsLive o c.args.at) c.self.view_is c.free-freed.ensures.found

pub returns-clause-freed : goal.returns-clause-freed
returns-clause-freed c =
    let x = kept c.free-freed.new.self in
    OnTrue_from c.free-freed.result (x.held.items ≡ set c.args.self.now.held (resolve c.args.self.now.pairs c.args.at.name) None)
    (λ yes. (OnTrue_at yes c.free-freed.ensures.ended).held ∙ ap (λ (o : Physical). set o.held (resolve o.pairs c.args.at.name) None) c.self.view_is)

pub returns-clause-pairs : goal.returns-clause-pairs
returns-clause-pairs c =
    let x = kept c.free-freed.new.self in
    OnTrue_from c.free-freed.result ((seen x).pairs ≡ without_target (resolve c.args.self.now.pairs c.args.at.name) c.args.self.now.pairs)
    (λ yes. (OnTrue_at yes c.free-freed.ensures.ended).pairs ∙ ap (λ (o : Physical). without_target (resolve o.pairs c.args.at.name) o.pairs) c.self.view_is)

pub returns-clause-pages : goal.returns-clause-pages
returns-clause-pages c =
    let s = kept c.self.inside.state in
    let x = kept c.free-freed.new.self in
    let d = c.free-freed.ensures in
    subst (λ (o : Physical). SameBlocksAndPages o (seen x)) c.self.view_is
    (⊎_elim (λ yes. (let e : EndsPage (resolve (seen s).pairs c.args.at.name) (seen s) (seen x) = OnTrue_at yes d.ended in gone_pages e.gone)) (λ no. subst (SameBlocksAndPages (seen s)) (sym (OnFalse_at no d.kept)) (record { same_first = refl; same_blocks = refl; same_size = refl; same_wear = λ b. refl })) (cases_Bool c.free-freed.result))

pub returns-clause-space : goal.returns-clause-space
returns-clause-space c =
    let s = kept c.self.inside.state in
    let x = kept c.free-freed.new.self in
    let i = c.self.invariant in
    let d = c.free-freed.ensures in
    subst (λ (o : Physical). Lessens 1 o (seen x)) c.self.view_is
    (⊎_elim
    (λ yes. ended_space s x i.0 i.1 i.3 i.2 d.formed d.tied c.table.ensures (OnTrue_at yes d.ended))
    (λ no. subst (Lessens 1 (seen s)) (sym (OnFalse_at no d.kept)) (nothing_lessens 1 (seen s)))
    (cases_Bool c.free-freed.result))

pub returns-clause-back : goal.returns-clause-back
returns-clause-back c =
    let s = kept c.self.inside.state in
    let x = kept c.free-freed.new.self in
    let i = c.self.invariant in
    let d = c.free-freed.ensures in
    subst (λ (o : Physical). GivesBackBlocks o (seen x)) c.self.view_is
    (⊎_elim
    (λ yes. ended_back s x i.0 i.1 i.3 i.2 d.formed d.tied c.table.ensures (OnTrue_at yes d.ended))
    (λ no. subst (GivesBackBlocks (seen s)) (sym (OnFalse_at no d.kept)) (nothing_back (seen s)))
    (cases_Bool c.free-freed.result))

pub returns-clause-segment : goal.returns-clause-segment
returns-clause-segment c image =
    let s = kept c.self.inside.state in
    let x = kept c.free-freed.new.self in
    let i = c.self.invariant in
    let d = c.free-freed.ensures in
    subst (λ (o : Physical). IsPhysicalOf image o → IsPhysicalOf image (seen x)) c.self.view_is
    (⊎_elim
    (λ yes. (let e : EndsPage (resolve (seen s).pairs c.args.at.name) (seen s) (seen x) = OnTrue_at yes d.ended in gone_segment e.gone (ended_was e (within_length s i.0 (resolve (seen s).pairs c.args.at.name) e.within)) image))
    (λ no is. subst (IsPhysicalOf image) (sym (OnFalse_at no d.kept)) is)
    (cases_Bool c.free-freed.result))

pub returns-clause-spare : goal.returns-clause-spare
returns-clause-spare c image =
    let s = kept c.self.inside.state in
    let x = kept c.free-freed.new.self in
    let i = c.self.invariant in
    let d = c.free-freed.ensures in
    subst (λ (o : Physical). CanSpareBlock image o → CanSpareBlock image (seen x)) c.self.view_is
    (⊎_elim
    (λ yes. (let e : EndsPage (resolve (seen s).pairs c.args.at.name) (seen s) (seen x) = OnTrue_at yes d.ended in gone_spare e.gone (ended_was e (within_length s i.0 (resolve (seen s).pairs c.args.at.name) e.within)) image))
    (λ no is. subst (CanSpareBlock image) (sym (OnFalse_at no d.kept)) is)
    (cases_Bool c.free-freed.result))

pub returns-clause-kept_block : goal.returns-clause-kept_block
returns-clause-kept_block c =
    let s = kept c.self.inside.state in
    let x = kept c.free-freed.new.self in
    let d = c.free-freed.ensures in
    subst (λ (o : Physical). KeepsBlock o → KeepsBlock (seen x)) c.self.view_is
    (⊎_elim (λ yes. (let e : EndsPage (resolve (seen s).pairs c.args.at.name) (seen s) (seen x) = OnTrue_at yes d.ended in gone_kept e.gone)) (λ no is. subst KeepsBlock (sym (OnFalse_at no d.kept)) is) (cases_Bool c.free-freed.result))

pub returns-clause-kept_dead : goal.returns-clause-kept_dead
returns-clause-kept_dead c = kept_dead (kept c.free-freed.new.self) c.free-freed.ensures.formed

pub returns-clause-clean : goal.returns-clause-clean
returns-clause-clean c =
    let s = kept c.self.inside.state in
    let x = kept c.free-freed.new.self in
    let d = c.free-freed.ensures in
    subst (λ (o : Physical). IsClean o → IsClean (seen x)) c.self.view_is
    (⊎_elim (λ yes. (let e : EndsPage (resolve (seen s).pairs c.args.at.name) (seen s) (seen x) = OnTrue_at yes d.ended in gone_clean e.gone)) (λ no is. subst IsClean (sym (OnFalse_at no d.kept)) is) (cases_Bool c.free-freed.result))
