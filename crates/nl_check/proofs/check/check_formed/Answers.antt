use Rattle.std.proofs.Common.{◌≡◌, ◌≢◌, ◌∙◌, ℕ, List, [], ◌∷◌, length, ap, refl, subst, sym}
use Rattle.nl_field.specs.Medium.{readable_pages, shape_of_image}
use Rattle.nl_field.specs.Numbers.{shape_for}
use Rattle.nl_field.specs.Page.{Image}
use Rattle.nl_field.specs.declared.shape.Shape.{Shape}
use Rattle.nl_device.specs.contracts.counts.DeviceCounts.TheImpl.{ghosts}
use Rattle.nl_meta.specs.Committed.{committed}
use Rattle.nl_meta_running.specs.Running.{stored_on}
use Rattle.nl_recover.proofs.Imaged.{lists_readable}
use Rattle.nl_check.specs.Checking.{Checks, ChecksOver}
use Rattle.nl_check.proofs.Images.{found-any, if-found, is-fault, over-image}
use Rattle.nl_check.proofs.check.check_formed.Goals as goal

-- the numbers of an image are those of its medium
of-image : (blocks pages : ℕ) (image : Image) → image.blocks ≡ blocks → image.pages ≡ pages → shape_for blocks pages ≡ shape_of_image image
of-image blocks pages image is_blocks is_pages = λ i. shape_for ((sym is_blocks) i) ((sym is_pages) i)

pub returns-then-len-eq0-clause-blank : goal.returns-then-len-eq0-clause-blank
returns-then-len-eq0-clause-blank g c = λ t _.
    (lists_readable (g.M.Nand.contents c.args.media)).0 (sym (c.in-Ready.ensures.tables t).each_page ∙ none c.in-Ready.scan.seen (sym c.len.ensures ∙ c.if-len-eq0.true))
  where
    none : {A : Type 0} (xs : List A) → length xs ≡ 0 → xs ≡ []
    none [] e = refl
    none (x ∷ xs) e = cc

pub returns-else-len-eq0-clause-found : goal.returns-else-len-eq0-clause-found
returns-else-len-eq0-clause-found g c = λ tells.
    let G = ghosts g.row.M g.M.Nand g.M.Nand-dict in
    let s = c.in-Ready.device in
    let t = c.in-Ready.scan in
    let e = c.in-Ready.ensures in
    let image = g.M.Nand.contents c.args.media in
    let geometry = g.M.Nand.geometry c.args.media in
    let fits = g.met.M.Nand.contents_fit c.args.media tells in
    let same : c.args.shape ≡ s.shape = c.requires.shape ∙ sym e.started.numbers in
    let is : s.shape ≡ shape_of_image image = e.started.numbers ∙ of-image geometry.blocks geometry.pages image fits.blocks fits.pages in
    if-found c.check_started-checked.result (ChecksOver c.args.shape (committed c.args.shape (stored_on G s)) t.seen) (Checks image)
    (λ bits count over. over-image image s.shape (G.map s) t.seen is (e.map tells) (e.tables tells).each_page bits count
    (subst (λ (h : Shape). ChecksOver h (committed h (stored_on G s)) t.seen bits count) same over))
    (c.check_started-checked.ensures.told tells)

pub returns-else-len-eq0-clause-readable : goal.returns-else-len-eq0-clause-readable
returns-else-len-eq0-clause-readable g c = λ tells.
    let image = g.M.Nand.contents c.args.media in
    found-any c.check_started-checked.result (readable_pages image ≢ [])
    (λ blank. c.if-len-eq0.false (c.len.ensures ∙ ap length ((c.in-Ready.ensures.tables tells).each_page ∙ (lists_readable image).1 blank)))

pub returns-else-len-eq0-clause-no_fault : goal.returns-else-len-eq0-clause-no_fault
returns-else-len-eq0-clause-no_fault g c quiet =
    ap g.M.Nand.read_faults c.into_media-in-Ready.ensures
    ∙ (c.check_started-checked.ensures.faults.stays tt (λ f. quiet (is-fault c.check_started-checked.result f)) ∙ c.in-Ready.ensures.counts.1)
