use Rattle.std.proofs.Common.{◌∙◌}
use Rattle.nl_store.specs.Store.{Resized}
use Rattle.nl_imgfile.specs.DiskImage.{FormCut}
use Rattle.nl_imgfile.proofs.DiskPages.{weaker, then}
use Rattle.nl_imgfile.proofs.Forming.{emptied_cut, zeroed, zeroed_cut, put_cut, put_formed, few_pages}
use Rattle.nl_imgfile.proofs.calls.form_store.Goals as goal

pub returns-in_default-clause-crash : goal.returns-in_default-clause-crash
returns-in_default-clause-crash g c t = weaker (FormCut c.args.geometry.now) (λ b to. emptied_cut c.args.geometry.now _ b to) c.resize.ensures.crash

pub returns-in_default-resize-clause-crash : goal.returns-in_default-resize-clause-crash
returns-in_default-resize-clause-crash g c t =
    let empty : Resized 0 (g.S.Store.bytes c.args.store.now) (g.S.Store.bytes c.resize.new.self) = c.in-Done.ensures.told t in
    let first = weaker (FormCut c.args.geometry.now) (λ b to. emptied_cut c.args.geometry.now _ b to) c.resize.ensures.crash in
    let second = weaker (FormCut c.args.geometry.now) (λ b to. zeroed_cut c.args.geometry.now _ _ b empty.length_is to) c.resize-2.ensures.crash in
    then (FormCut c.args.geometry.now) first second

pub returns-clause-formed : goal.returns-clause-formed
returns-clause-formed g c t done =
    let empty : Resized 0 (g.S.Store.bytes c.args.store.now) (g.S.Store.bytes c.resize.new.self) = c.in-Done.ensures.told t in
    let sized = c.in-Done-resize.ensures.told t in
    put_formed c.args.geometry.now c.header_into.new.out _ _ c.put.result (few_pages c.args.geometry.now c.requires) c.header_into.ensures.back c.header_into.ensures.bytes (zeroed _ _ _ empty.length_is sized) (sized.length_is ∙ c.length_of.ensures) done (c.put.ensures.told t)

pub returns-clause-crash : goal.returns-clause-crash
returns-clause-crash g c t =
    let empty : Resized 0 (g.S.Store.bytes c.args.store.now) (g.S.Store.bytes c.resize.new.self) = c.in-Done.ensures.told t in
    let sized = c.in-Done-resize.ensures.told t in
    let first = weaker (FormCut c.args.geometry.now) (λ b to. emptied_cut c.args.geometry.now _ b to) c.resize.ensures.crash in
    let second = weaker (FormCut c.args.geometry.now) (λ b to. zeroed_cut c.args.geometry.now _ _ b empty.length_is to) c.resize-2.ensures.crash in
    let third = weaker (FormCut c.args.geometry.now) (λ b cut. put_cut c.args.geometry.now c.header_into.new.out _ b (few_pages c.args.geometry.now c.requires) c.header_into.ensures.back c.header_into.ensures.bytes (zeroed _ _ _ empty.length_is sized) cut) c.put.ensures.crash in
    then (FormCut c.args.geometry.now) (then (FormCut c.args.geometry.now) first second) third
