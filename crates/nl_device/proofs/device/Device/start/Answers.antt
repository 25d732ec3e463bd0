use Rattle.std.proofs.Common.{◌≡◌, ⊎_elim, ◌<◌, ◌∙◌, sym, ap, subst, IsTrue, arith}
use Rattle.nl_field.specs.Numbers.{ShapeBounds, is_legal, shape_for}
use Rattle.nl_field.proofs.Bounds.{bounds}
use Rattle.nl_field.specs.Page.{Image}
use Rattle.nl_field.specs.Medium.{first_physical, shape_of_image}
use Rattle.nl_field.specs.declared.shape.Shape.{Shape}
use Rattle.nl_nand.specs.declared.geometry.Geometry.{Geometry}
use Rattle.nl_device.proofs.Bounds.{two_blocks}
use Rattle.nl_nand.specs.Nand.{ImageOf}
use Rattle.nl_scan.specs.Tables.{FitsMedium, IsTableOf, ScanTable}
use Rattle.nl_vseg.specs.Pages.{PageShows}
use Rattle.nl_vseg.specs.Places.{map_of}
use Rattle.nl_device.specs.Device.{IsDevice}
use Rattle.nl_device.specs.Kept.{KeptPages}
use Rattle.nl_device.specs.Shown.{live_page}
use Rattle.nl_device.specs.Opening.{FitsShape, IsOpenedPhysical, IsOpenedVirtual}
use Rattle.nl_device.proofs.Agreed.{opened_agreed}
use Rattle.nl_device.proofs.Forms.{shape_is}
use Rattle.nl_device.proofs.OpenedKeeps.{opened_keeps}
use Rattle.nl_device.proofs.OpenedMedium.{opened_map, opened_on}
use Rattle.nl_device.proofs.OpenedNames.{none_held, opened_names}
use Rattle.nl_device.proofs.Ready.{can_none, found_holds, named_after}
use Rattle.nl_device.proofs.SeenSpare.{seen_keeps}
use Rattle.nl_device.proofs.Starting.{for_shape, free_space, opened_device, room_space}
use Rattle.nl_callbacks.specs.Pending.{PendingTable}
use Rattle.nl_device.specs.Callbacks.{callbacks_of}
use Rattle.nl_device.proofs.Leaving.{spare_idle}
use Rattle.nl_device.proofs.Spacing.{none_victim}
use Rattle.nl_device.proofs.device.Device.start.Goals as goal

-- the numbers of the volume are those of the medium
numbers_of : (shape : Shape) (seen before : Geometry) → shape ≡ shape_for seen.blocks seen.pages → seen ≡ before → before ≡ record { blocks = shape.blocks; pages = shape.pages }
numbers_of shape seen before e same = let x = for_shape shape seen.blocks seen.pages e in sym same ∙ (λ i. record { blocks = sym x.0 i; pages = sym x.1 i })

legal_of : (shape : Shape) (seen before : Geometry) → shape ≡ shape_for seen.blocks seen.pages → seen ≡ before → IsTrue (is_legal before.blocks before.pages) → IsTrue (is_legal shape.blocks shape.pages)
legal_of shape seen before e same legal = subst (λ (n : Geometry). IsTrue (is_legal n.blocks n.pages)) (numbers_of shape seen before e same) legal

fits_of : (shape : Shape) (seen before : Geometry) (t : ScanTable) → shape ≡ shape_for seen.blocks seen.pages → seen ≡ before → FitsMedium before t → FitsShape shape t
fits_of shape seen before t e same fits = subst (λ (n : Geometry). FitsMedium n t) (numbers_of shape seen before e same) fits

roomy_of : (shape : Shape) (seen before : Geometry) → shape ≡ shape_for seen.blocks seen.pages → seen ≡ before → IsTrue (is_legal before.blocks before.pages) → ShapeBounds shape
roomy_of shape seen before e same legal = subst ShapeBounds (sym e) (bounds seen.blocks seen.pages (subst (λ (n : Geometry). IsTrue (is_legal n.blocks n.pages)) (sym same) legal))

pub after_scan-requires-clause-legal : goal.after_scan-requires-clause-legal
after_scan-requires-clause-legal g c = legal_of c.legal_shape-shape.result c.geometry.result (g.M.Nand.geometry c.args.media) c.legal_shape-shape.ensures c.geometry.ensures c.requires.formed

pub after_scan-requires-clause-numbers : goal.after_scan-requires-clause-numbers
after_scan-requires-clause-numbers g c = (for_shape c.legal_shape-shape.result c.geometry.result.blocks c.geometry.result.pages c.legal_shape-shape.ensures).2

pub after_scan-requires-clause-fits : goal.after_scan-requires-clause-fits
after_scan-requires-clause-fits g c = fits_of c.legal_shape-shape.result c.geometry.result (g.M.Nand.geometry c.args.media) c.in-Tables.tables c.legal_shape-shape.ensures c.geometry.ensures c.in-Tables.ensures.fits

pub returns-in-Ok-clause-started : goal.returns-in-Ok-clause-started
returns-in-Ok-clause-started g c =
    let shape = c.legal_shape-shape.result in
    let t = c.in-Tables.tables in
    let pseg = c.in-Ok.field-0.pseg in
    let physicals = c.in-Ok.ensures.physicals in
    let roomy = roomy_of shape c.geometry.result (g.M.Nand.geometry c.args.media) c.legal_shape-shape.ensures c.geometry.ensures c.requires.formed in
    record {
      numbers = c.legal_shape-shape.ensures ∙ ap (λ (n : Geometry). shape_for n.blocks n.pages) c.geometry.ensures;
      live = λ p. ap live_page (none_held shape t pseg physicals p);
      pairs = physicals.no_pairs;
      pending = ap (λ (x : PendingTable). callbacks_of x.callbacks) c.in-Ok.ensures.pending;
      posted = ap (λ (x : PendingTable). x.posted) c.in-Ok.ensures.pending;
      victim = none_victim pseg physicals.none_in_hand;
      free = free_space shape t pseg physicals roomy;
      room = room_space shape t pseg physicals roomy;
      stamp = c.next_stamp-next.ensures;
    }

pub returns-in-Ok-clause-nothing : goal.returns-in-Ok-clause-nothing
returns-in-Ok-clause-nothing g c =
    let shape = c.legal_shape-shape.result in
    let roomy = roomy_of shape c.geometry.result (g.M.Nand.geometry c.args.media) c.legal_shape-shape.ensures c.geometry.ensures c.requires.formed in
    let two = two_blocks roomy in
    can_none c.in-Ok.field-0.kept shape.pblocks (ap (λ (k : KeptPages). k.count) c.in-Ok.ensures.kept) (omega (arith, two))

-- the tables are of the medium as it is after the scan
module _ (image before : Image) (t : ScanTable) where
  table_now : image ≡ before → IsTableOf before t → IsTableOf image t
  table_now same is = subst (λ (i : Image). IsTableOf i t) (sym same) is

-- the image has the numbers of the volume
image_shape : (shape : Shape) (seen before : Geometry) (image : Image) → shape ≡ shape_for seen.blocks seen.pages → seen ≡ before → ImageOf before image → shape_of_image image ≡ shape
image_shape shape seen before image e same fit = (λ i. shape_for (fit.blocks i) (fit.pages i)) ∙ (ap (λ (n : Geometry). shape_for n.blocks n.pages) (sym same) ∙ sym e)

pub returns-in-Ok-clause-formed : goal.returns-in-Ok-clause-formed
returns-in-Ok-clause-formed g c =
    let shape = c.legal_shape-shape.result in
    let media = c.scan.new.media in
    let t = c.in-Tables.tables in
    let vseg = c.in-Ok.field-0.vseg in
    let pseg = c.in-Ok.field-0.pseg in
    let image = g.M.Nand.contents media in
    let geometry = g.M.Nand.geometry media in
    let same = c.scan.ensures.only_reads.same_geometry in
    let legal = subst (λ (n : Geometry). IsTrue (is_legal n.blocks n.pages)) (sym same) c.requires.formed in
    let fits = fits_of shape c.geometry.result (g.M.Nand.geometry c.args.media) t c.legal_shape-shape.ensures c.geometry.ensures c.in-Tables.ensures.fits in
    subst (λ next. IsDevice geometry g.M.Nand.tells image shape vseg pseg c.in-Ok.field-0.pending c.in-Ok.field-0.kept next) (sym c.next_stamp-next.ensures)
    (opened_device geometry shape t vseg pseg c.in-Ok.field-0.pending c.in-Ok.field-0.kept g.M.Nand.tells image legal
    (c.legal_shape-shape.ensures ∙ ap (λ (n : Geometry). shape_for n.blocks n.pages) (c.geometry.ensures ∙ sym same))
    fits c.in-Ok.ensures.virtuals c.in-Ok.ensures.physicals
    (λ segments live spare tell.
    let fit = g.met.M.Nand.contents_fit media tell in
    let is = table_now image (g.M.Nand.contents c.args.media) t c.scan.ensures.only_reads.same_contents (c.in-Tables.ensures.tables tell) in
    let e = shape_is segments fit in
    let physical = opened_names image t pseg is (subst (λ s. IsOpenedPhysical s t pseg) (sym e) c.in-Ok.ensures.physicals) (subst (λ (s : Shape). 0 < s.pages) (sym e) segments.some) in
    opened_on t segments fit live physical is c.in-Ok.ensures.virtuals (named_after shape image t c.in-Ok.field-0.kept e is c.in-Ok.ensures.kept) c.in-Ok.ensures.physicals.no_pairs spare (spare_idle pseg image spare.whole spare.block c.in-Ok.ensures.physicals.none_in_hand c.in-Ok.ensures.physicals.left_is))
    c.in-Ok.ensures.kept
    (λ tell.
    found_holds shape image t c.in-Ok.field-0.kept (image_shape shape c.geometry.result geometry image c.legal_shape-shape.ensures (c.geometry.ensures ∙ sym same) (g.met.M.Nand.contents_fit media tell))
    (table_now image (g.M.Nand.contents c.args.media) t c.scan.ensures.only_reads.same_contents (c.in-Tables.ensures.tables tell)) c.in-Ok.ensures.kept) c.in-Ok.ensures.pending)

pub returns-in-Ok-clause-map : goal.returns-in-Ok-clause-map
returns-in-Ok-clause-map g c tell v below =
    let shape = c.legal_shape-shape.result in
    let t = c.in-Tables.tables in
    let before = g.M.Nand.contents c.args.media in
    let e = image_shape shape c.geometry.result (g.M.Nand.geometry c.args.media) before c.legal_shape-shape.ensures c.geometry.ensures (g.met.M.Nand.contents_fit c.args.media tell) in
    ap (λ (i : Image). map_of c.in-Ok.field-0.vseg.places i v) c.scan.ensures.only_reads.same_contents
    ∙ opened_map before t c.in-Ok.field-0.vseg (c.in-Tables.ensures.tables tell) (subst (λ s. IsOpenedVirtual s t c.in-Ok.field-0.vseg) (sym e) c.in-Ok.ensures.virtuals) v (subst (λ (s : Shape). v < s.vaddrs) (sym e) below)

pub returns-in-Ok-clause-spare : goal.returns-in-Ok-clause-spare
returns-in-Ok-clause-spare g c has =
    let shape = c.legal_shape-shape.result in
    let t = c.in-Tables.tables in
    let vseg = c.in-Ok.field-0.vseg in
    let before = g.M.Nand.contents c.args.media in
    ⊎_elim
    (λ seen. seen_keeps shape t vseg has.0 c.in-Ok.ensures.virtuals seen)
    (λ told.
    let e = image_shape shape c.geometry.result (g.M.Nand.geometry c.args.media) before c.legal_shape-shape.ensures c.geometry.ensures (g.met.M.Nand.contents_fit c.args.media told.0) in
    opened_keeps before t vseg has.0 (c.in-Tables.ensures.tables told.0) (subst (λ s. IsOpenedVirtual s t vseg) (sym e) c.in-Ok.ensures.virtuals) told.1)
    has.1

pub returns-in-Ok-clause-agreed : goal.returns-in-Ok-clause-agreed
returns-in-Ok-clause-agreed g c tell agree v x below stray =
    let shape = c.legal_shape-shape.result in
    let media = c.scan.new.media in
    let t = c.in-Tables.tables in
    let vseg = c.in-Ok.field-0.vseg in
    let image = g.M.Nand.contents media in
    let e = image_shape shape c.geometry.result (g.M.Nand.geometry media) image c.legal_shape-shape.ensures (c.geometry.ensures ∙ sym c.scan.ensures.only_reads.same_geometry) (g.met.M.Nand.contents_fit media tell) in
    stray.newer (opened_agreed image t (table_now image (g.M.Nand.contents c.args.media) t c.scan.ensures.only_reads.same_contents (c.in-Tables.ensures.tables tell)) agree vseg (subst (λ s. IsOpenedVirtual s t vseg) (sym e) c.in-Ok.ensures.virtuals) v x.0 x.1
    (subst (λ (s : Shape). v < s.vaddrs) (sym e) below) (subst (λ (s : Shape). PageShows (first_physical s) image v x.0 x.1) (sym e) stray.shown))
