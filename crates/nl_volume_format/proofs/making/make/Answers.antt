use Rattle.std.proofs.Common.{◌≡◌, inl, inr, ⊎_elim, ◌∙◌, ap, refl, sym, subst, arith}
use Rattle.nl_field.specs.Page.{Image, PageBytes, page_at, written}
use Rattle.nl_nand.specs.ImageLaws.{filled_cut}
use Rattle.nl_nand.specs.Nand.{Cut, Filled, ImageOf, IsBlank}
use Rattle.nl_nand.specs.declared.geometry.Geometry.{Geometry}
use Rattle.nl_spec_image.specs.Formatted.{formatted_root, formatted_super}
use Rattle.nl_spec_image.proofs.FormattedProofs.{formatted_is_consistent}
use Rattle.nl_spec_image.proofs.FreshProofs.{limits}
use Rattle.nl_volume_format.proofs.Begun.{HasRoot, blank_begun, root_cut, root_filled, rooted_begun, super_cut, super_filled}
use Rattle.nl_volume_format.proofs.ReadableOnes.{none_on_blank}
use Rattle.nl_volume_format.proofs.Safe.{makings_are_safe}
use Rattle.nl_volume_format.proofs.making.make.Goals as goal

pub program-requires-2-clause-erased : goal.program-requires-2-clause-erased
program-requires-2-clause-erased g c = λ t.
    let i0 = g.M.Nand.contents c.form.new.self in
    let i1 = g.M.Nand.contents c.program.new.self in
    let blank : IsBlank i0 = c.in-Done.ensures.erased t refl in
    let filled : Filled 0 1 (written formatted_root) i0 i1 = subst (λ (b : PageBytes). Filled 0 1 (written b) i0 i1) c.put_root.ensures (c.in-Done-program.ensures.effect t) in
    let has : HasRoot i1 = root_filled i0 i1 blank filled in
    let wide = limits c.args.blocks c.args.pages c.requires in
    let same = (g.met.M.Nand.contents_fit c.program.new.self t).pages ∙ ap (λ (n : Geometry). n.pages) (c.in-Done-program.ensures.counted.same_geometry ∙ c.in-Done.ensures.done refl) in
    record { block = 0; from = omega arith; below = let least = wide.2 in omega (arith, least, same); rest_erased = λ p low high. has.behind p low }

pub returns-in-Done-program-2-clause-formatted : goal.returns-in-Done-program-2-clause-formatted
returns-in-Done-program-2-clause-formatted g c = λ t.
    let i0 = g.M.Nand.contents c.form.new.self in
    let i1 = g.M.Nand.contents c.program.new.self in
    let i2 = g.M.Nand.contents c.program-2.new.self in
    let blank : IsBlank i0 = c.in-Done.ensures.erased t refl in
    let filled : Filled 0 1 (written formatted_root) i0 i1 = subst (λ (b : PageBytes). Filled 0 1 (written b) i0 i1) c.put_root.ensures (c.in-Done-program.ensures.effect t) in
    super_filled c.args.blocks c.args.pages i1 i2 (root_filled i0 i1 blank filled)
    (subst (λ (b : PageBytes). Filled 1 2 (written b) i1 i2) c.put_super.ensures (c.in-Done-program-2.ensures.effect t))

pub returns-in-Done-program-2-clause-stands : goal.returns-in-Done-program-2-clause-stands
returns-in-Done-program-2-clause-stands g c = λ t.
    let i0 = g.M.Nand.contents c.form.new.self in
    let i1 = g.M.Nand.contents c.program.new.self in
    let blank : IsBlank i0 = c.in-Done.ensures.erased t refl in
    let filled : Filled 0 1 (written formatted_root) i0 i1 = subst (λ (b : PageBytes). Filled 0 1 (written b) i0 i1) c.put_root.ensures (c.in-Done-program.ensures.effect t) in
    let has : HasRoot i1 = root_filled i0 i1 blank filled in
    let i2 = g.M.Nand.contents c.program-2.new.self in
    let numbers : Geometry = record { blocks = c.args.blocks; pages = c.args.pages } in
    let same : g.M.Nand.geometry c.program-2.new.self ≡ numbers = c.in-Done-program-2.ensures.counted.same_geometry ∙ (c.in-Done-program.ensures.counted.same_geometry ∙ c.in-Done.ensures.done refl) in
    let fit : ImageOf numbers i2 = subst (λ (n : Geometry). ImageOf n i2) same (g.met.M.Nand.contents_fit c.program-2.new.self t) in
    formatted_is_consistent c.args.blocks c.args.pages i2 fit.whole fit.blocks fit.pages c.requires
    (super_filled c.args.blocks c.args.pages i1 i2 has (subst (λ (b : PageBytes). Filled 1 2 (written b) i1 i2) c.put_super.ensures (c.in-Done-program-2.ensures.effect t)))

pub returns-in-Done-program-2-clause-left : goal.returns-in-Done-program-2-clause-left
returns-in-Done-program-2-clause-left g c = λ t m image left.
    let i0 = g.M.Nand.contents c.form.new.self in
    let i1 = g.M.Nand.contents c.program.new.self in
    let blank : IsBlank i0 = c.in-Done.ensures.erased t refl in
    let filled : Filled 0 1 (written formatted_root) i0 i1 = subst (λ (b : PageBytes). Filled 0 1 (written b) i0 i1) c.put_root.ensures (c.in-Done-program.ensures.effect t) in
    let has : HasRoot i1 = root_filled i0 i1 blank filled in
    let i2 = g.M.Nand.contents c.program-2.new.self in
    let numbers : Geometry = record { blocks = c.args.blocks; pages = c.args.pages } in
    let same : g.M.Nand.geometry c.program-2.new.self ≡ numbers = c.in-Done-program-2.ensures.counted.same_geometry ∙ (c.in-Done-program.ensures.counted.same_geometry ∙ c.in-Done.ensures.done refl) in
    let fit : ImageOf numbers image = subst (λ (n : Geometry). ImageOf n image) same (g.met.M.Nand.left_fits c.program-2.new.self m image t left) in
    let safe = makings_are_safe c.args.blocks c.args.pages image c.requires in
    let super = c.put_super.ensures in
    inr
    (⊎_elim
    (λ one. ⊎_elim
    (λ none. let e = (c.in-Done.ensures.begins t refl m image none).1 in safe (blank_begun c.args.blocks c.args.pages image fit (λ p. ap (λ (x : Image). page_at x p) e ∙ blank p)))
    (λ is. ⊎_elim
    (λ cut. safe (root_cut c.args.blocks c.args.pages image fit i0 blank (subst (λ (b : PageBytes). Cut 0 1 (written b) i0 image) c.put_root.ensures cut.1)))
    (λ now. safe (rooted_begun c.args.blocks c.args.pages image fit (subst HasRoot (sym now.1) has))) is)
    (c.in-Done-program.ensures.crash.each m image one))
    (λ is. ⊎_elim
    (λ cut. safe (super_cut c.args.blocks c.args.pages image fit i1 has (subst (λ (b : PageBytes). Cut 1 2 (written b) i1 image) super cut.1)))
    (λ now. safe (super_cut c.args.blocks c.args.pages image fit i1 has
    (subst (λ (x : Image). Cut 1 2 (written (formatted_super c.args.blocks c.args.pages)) i1 x) (sym now.1) (subst (λ (b : PageBytes). Cut 1 2 (written b) i1 i2) super (filled_cut (c.in-Done-program-2.ensures.effect t)))))) is)
    (c.in-Done-program-2.ensures.crash.each m image left))

pub returns-clause-left : goal.returns-clause-left
returns-clause-left g c = λ t m image left.
    let i0 = g.M.Nand.contents c.form.new.self in
    let i1 = g.M.Nand.contents c.program.new.self in
    let blank : IsBlank i0 = c.in-Done.ensures.erased t refl in
    let filled : Filled 0 1 (written formatted_root) i0 i1 = subst (λ (b : PageBytes). Filled 0 1 (written b) i0 i1) c.put_root.ensures (c.in-Done-program.ensures.effect t) in
    let has : HasRoot i1 = root_filled i0 i1 blank filled in
    let i2 = g.M.Nand.contents c.program-2.new.self in
    let numbers : Geometry = record { blocks = c.args.blocks; pages = c.args.pages } in
    let same : g.M.Nand.geometry c.program-2.new.self ≡ numbers = c.in-Failed-program-2.ensures.counted.same_geometry ∙ (c.in-Done-program.ensures.counted.same_geometry ∙ c.in-Done.ensures.done refl) in
    let fit : ImageOf numbers image = subst (λ (n : Geometry). ImageOf n image) same (g.met.M.Nand.left_fits c.program-2.new.self m image t left) in
    let safe = makings_are_safe c.args.blocks c.args.pages image c.requires in
    let super = c.put_super.ensures in
    inr
    (⊎_elim
    (λ one. ⊎_elim
    (λ none. let e = (c.in-Done.ensures.begins t refl m image none).1 in safe (blank_begun c.args.blocks c.args.pages image fit (λ p. ap (λ (x : Image). page_at x p) e ∙ blank p)))
    (λ is. ⊎_elim
    (λ cut. safe (root_cut c.args.blocks c.args.pages image fit i0 blank (subst (λ (b : PageBytes). Cut 0 1 (written b) i0 image) c.put_root.ensures cut.1)))
    (λ now. safe (rooted_begun c.args.blocks c.args.pages image fit (subst HasRoot (sym now.1) has))) is)
    (c.in-Done-program.ensures.crash.each m image one))
    (λ is. ⊎_elim
    (λ cut. safe (super_cut c.args.blocks c.args.pages image fit i1 has (subst (λ (b : PageBytes). Cut 1 2 (written b) i1 image) super cut.1)))
    (λ now. safe (super_cut c.args.blocks c.args.pages image fit i1 has
    (subst (λ (x : Image). Cut 1 2 (written (formatted_super c.args.blocks c.args.pages)) i1 x) (sym now.1) (subst (λ (b : PageBytes). Cut 1 2 (written b) i1 i2) super (c.in-Failed-program-2.ensures.effect t))))) is)
    (c.in-Failed-program-2.ensures.crash.each m image left))

-- the forming failed
pub returns-in-Failed-clause-left : goal.returns-in-Failed-clause-left
returns-in-Failed-clause-left g c = λ t m image left. ⊎_elim (λ before. inl before) (λ blank. inr (inl (none_on_blank image blank))) (c.in-Failed.ensures.failed_left t refl m image left)
