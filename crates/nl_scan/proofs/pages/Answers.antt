use Rattle.std.proofs.Common.{◌≡◌, ◌*◌, ◌≤◌, ℕ, refl, sym, ◌∙◌, ap, subst, arith}
use Rattle.nl_field.specs.Page.{Image}
use Rattle.nl_field.specs.declared.shape.Shape.{Shape}
use Rattle.nl_nand.specs.declared.geometry.Geometry.{Geometry}
use Rattle.nl_scan.specs.Passes.{KnowsPages, KnowsBlocks, IsPassBelow}
use Rattle.nl_scan.proofs.Ends.{fresh_blocks, fresh_stands, pages_of, size_of}
use Rattle.nl_scan.proofs.Knowing.{knows_nothing}
use Rattle.nl_scan.proofs.Whole.{is_table}
use Rattle.nl_scan.proofs.pages.Goals as goal

pub pages-init : goal.pages-init
pages-init g c =
    let fresh = c.in-Ok.ensures in
    let image = g.M.Nand.contents c.args.media.now in
    record {
      knows = λ tells. knows_nothing image c.in-Ok.pass fresh.no_pages fresh.no_virtuals fresh.no_physicals fresh.no_newest;
      blocks = λ tells. fresh_blocks image c.args.geometry.blocks c.in-Ok.pass ((g.met.M.Nand.contents_fit c.args.media.now tells).blocks ∙ ap (λ (x : Geometry). x.blocks) (sym c.requires.geometry)) fresh;
      stands = subst (λ (x : Geometry). IsPassBelow x c.args.shape.now 0 c.in-Ok.pass) c.requires.geometry (fresh_stands c.args.geometry c.args.shape.now c.in-Ok.pass fresh);
      reads = record { same_geometry = refl; same_contents = refl; same_left = record { no_more = λ m x l. l; no_fewer = λ m x l. l }; same_clock = refl; same_write_faults = refl };
      faults = refl;
    }

pub step-requires-clause-pages : goal.step-requires-clause-pages
step-requires-clause-pages g c =
    ap (λ (s : Shape). s.pages) c.requires.shape ∙ pages_of c.args.geometry.blocks c.args.geometry.pages
    ∙ ap (λ (x : Geometry). x.pages) (c.requires.geometry ∙ sym c.pages.invariant.reads.same_geometry)

pub returns-clause-stands : goal.returns-clause-stands
returns-clause-stands g c =
    subst (λ (n : ℕ). IsPassBelow c.args.geometry c.args.shape.now n c.pages.pass) (last c.pages.page (c.args.geometry.blocks * c.args.geometry.pages) c.pages.auto.page-end c.pages-test.false)
    (subst (λ (x : Geometry). IsPassBelow x c.args.shape.now c.pages.page c.pages.pass) (c.pages.invariant.reads.same_geometry ∙ sym c.requires.geometry) c.pages.invariant.stands)
  where
    last : (at count : ℕ) → at ≤ count → count ≤ at → at ≡ count
    last at count within past = omega arith

pub returns-clause-tables : goal.returns-clause-tables
returns-clause-tables g c = λ tells.
    let image = g.M.Nand.contents c.args.media.now in
    let fits = g.met.M.Nand.contents_fit c.args.media.now tells in
    let size : c.args.geometry.blocks * c.args.geometry.pages ≡ image.blocks * image.pages =
    ap (λ (x : Geometry). x.blocks * x.pages) c.requires.geometry ∙ sym (λ i. fits.blocks i * fits.pages i) in
    is_table image c.pages.page c.pages.pass
    (far (c.args.geometry.blocks * c.args.geometry.pages) _ c.pages.page (ap (λ (x : Geometry). x.blocks * x.pages) c.requires.geometry ∙ sym (size_of (g.M.Nand.geometry c.args.media.now) image fits)) c.pages-test.false)
    (far (c.args.geometry.blocks * c.args.geometry.pages) _ c.pages.page size c.pages-test.false)
    (subst (λ (x : Image). KnowsPages x c.pages.page c.pages.pass) c.pages.invariant.reads.same_contents (c.pages.invariant.knows tells))
    (subst (λ (x : Image). KnowsBlocks x c.pages.page c.pages.pass.erased.items) c.pages.invariant.reads.same_contents (c.pages.invariant.blocks tells))
  where
    far : (count size at : ℕ) → count ≡ size → count ≤ at → size ≤ at
    far count size at same past = omega arith
