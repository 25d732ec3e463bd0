use Rattle.std.proofs.Common.{◌≡◌, ◌*◌, List, sym, ◌∙◌, subst}
use Rattle.std.proofs.lemmas.Bool.{false≢true}
use Rattle.nl_nand.specs.Nand.{IsLegal}
use Rattle.nl_nand.specs.declared.geometry.Geometry.{Geometry}
use Rattle.nl_field.specs.declared.shape.Shape.{Shape}
use Rattle.nl_scan.specs.Passes.{IsPassBelow}
use Rattle.nl_scan.specs.Tables.{IsTableOf, IsSeenTable, FitsMedium}
use Rattle.nl_field.specs.declared.seen.Seen.{Seen}
use Rattle.nl_scan.proofs.Ends.{fits_medium, none_kept, none_fits, not_formed, none_table}
use Rattle.nl_scan.proofs.scan.Goals as goal

pub of_pass-requires : goal.of_pass-requires
of_pass-requires g c = subst (λ (l : List Seen). IsSeenTable l 0) (sym c.new.ensures.items) none_kept

pub returns-in-Ok-clause-fits : goal.returns-in-Ok-clause-fits
returns-in-Ok-clause-fits g c =
    subst (λ (x : Geometry). FitsMedium x c.tables_of.result) c.geometry-geometry.ensures
    (subst (FitsMedium c.geometry-geometry.result) (sym c.tables_of.ensures) (fits_medium c.geometry-geometry.result c.in-Ok.pass
    (subst (λ (s : Shape). IsPassBelow c.geometry-geometry.result s (c.geometry-geometry.result.blocks * c.geometry-geometry.result.pages) c.in-Ok.pass) c.in-Some.ensures.numbers c.in-Ok.ensures.stands)))

pub returns-in-None-clause-fits : goal.returns-in-None-clause-fits
returns-in-None-clause-fits g c =
    let geometry = g.M.Nand.geometry c.args.media.now in
    let none : c.geometry-geometry.result ≡ record { blocks = 0; pages = 0 } =
    not_formed c.geometry-geometry.result (subst IsLegal (sym c.geometry-geometry.ensures) (g.met.M.Nand.legal c.args.media.now)) (λ legal. false≢true (c.in-None.ensures.legal.1 legal)) in
    subst (FitsMedium geometry)
    (sym (c.of_pass.ensures ∙ (λ i. record { seen = c.new.ensures.items i; erased = c.new-in-None.ensures.items i; version = 0 })))
    (none_fits geometry (sym c.geometry-geometry.ensures ∙ none))

pub returns-in-None-clause-tables : goal.returns-in-None-clause-tables
returns-in-None-clause-tables g c = λ tells.
    let geometry = g.M.Nand.geometry c.args.media.now in
    let image = g.M.Nand.contents c.args.media.now in
    let none : c.geometry-geometry.result ≡ record { blocks = 0; pages = 0 } =
    not_formed c.geometry-geometry.result (subst IsLegal (sym c.geometry-geometry.ensures) (g.met.M.Nand.legal c.args.media.now)) (λ legal. false≢true (c.in-None.ensures.legal.1 legal)) in
    subst (IsTableOf image)
    (sym (c.of_pass.ensures ∙ (λ i. record { seen = c.new.ensures.items i; erased = c.new-in-None.ensures.items i; version = 0 })))
    (none_table geometry image (g.met.M.Nand.contents_fit c.args.media.now tells) (sym c.geometry-geometry.ensures ∙ none))
