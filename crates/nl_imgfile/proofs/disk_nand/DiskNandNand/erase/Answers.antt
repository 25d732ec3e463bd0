use Rattle.std.proofs.Common.{◌≡◌, ◌∙◌, ℕ, ◌≤◌, List, ap, subst, arith}
use Rattle.nl_field.specs.Page.{erased}
use Rattle.nl_nand.specs.Nand.{ticked, block_start, block_end}
use Rattle.nl_imgfile.specs.DiskImage.{record_at}
use Rattle.nl_imgfile.proofs.DiskOperations.{block_fits, bytes_counted, done_only, effect, crash, headed, reached_before, reached_after}
use Rattle.nl_imgfile.proofs.disk_nand.DiskNandNand.erase.Goals as goal

pub returns-clause-effect : goal.returns-clause-effect
returns-clause-effect g c t =
    let d = c.args.self.now in
    effect g.S.Store.tells g.S.Store.bytes g.S.Store.moment g.S.Store.left (block_start d.geometry c.args.block) (block_end d.geometry c.args.block) erased d c.counted.new.self c.erase_pages-written.new.store c.erase_pages-written.result c.counted.result
    c.counted.ensures.geometry (block_fits c.args.block d.geometry.blocks d.geometry.pages c.requires) c.counted.ensures.counts t (c.erase_pages-written.ensures.told t)

pub returns-clause-crash : goal.returns-clause-crash
returns-clause-crash g c =
    let d = c.args.self.now in
    let later : g.S.Store.moment d.store ≤ g.S.Store.moment c.counted.new.self.store = subst (λ (m : ℕ). m ≤ g.S.Store.moment c.counted.new.self.store) c.erase_pages-written.ensures.moment c.counted.ensures.later in
    let ticks : g.S.Store.moment c.counted.new.self.store ≡ ticked (g.S.Store.moment d.store) c.counted.result = c.counted.ensures.ticks ∙ ap (λ (m : ℕ). ticked m c.counted.result) c.erase_pages-written.ensures.moment in
    crash g.S.Store.tells g.S.Store.bytes g.S.Store.moment g.S.Store.left (block_start d.geometry c.args.block) (block_end d.geometry c.args.block) erased d c.counted.new.self c.erase_pages-written.new.store c.erase_pages-written.result c.counted.result
    c.counted.ensures.geometry (block_fits c.args.block d.geometry.blocks d.geometry.pages c.requires) c.counted.ensures.counts later ticks (λ t. c.erase_pages-written.ensures.crash t)

pub returns-clause-headed : goal.returns-clause-headed
returns-clause-headed g c t had =
    let d = c.args.self.now in
    headed g.S.Store.tells g.S.Store.bytes g.S.Store.moment g.S.Store.left (block_start d.geometry c.args.block) (block_end d.geometry c.args.block) erased d c.counted.new.self c.erase_pages-written.new.store c.erase_pages-written.result c.counted.result
    c.counted.ensures.geometry (block_fits c.args.block d.geometry.blocks d.geometry.pages c.requires) c.counted.ensures.counts (g.met.S.Store.now_left d.store) (omega (arith, c.requires))
    (c.erase_pages-written.ensures.told t) (c.erase_pages-written.ensures.crash t) had

pub returns-clause-before : goal.returns-clause-before
returns-clause-before g c t =
    let d = c.args.self.now in
    reached_before g.S.Store.tells g.S.Store.bytes g.S.Store.moment g.S.Store.left (block_start d.geometry c.args.block) (block_end d.geometry c.args.block) erased d c.counted.new.self c.erase_pages-written.new.store c.erase_pages-written.result c.counted.result
    c.counted.ensures.geometry (block_fits c.args.block d.geometry.blocks d.geometry.pages c.requires) c.counted.ensures.counts (g.met.S.Store.now_left d.store) (c.erase_pages-written.ensures.crash t) t

pub returns-clause-after : goal.returns-clause-after
returns-clause-after g c t =
    let d = c.args.self.now in
    reached_after g.S.Store.tells g.S.Store.bytes g.S.Store.moment g.S.Store.left (block_start d.geometry c.args.block) (block_end d.geometry c.args.block) erased d c.counted.new.self c.erase_pages-written.new.store c.erase_pages-written.result c.counted.result
    c.counted.ensures.geometry (block_fits c.args.block d.geometry.blocks d.geometry.pages c.requires) c.counted.ensures.counts (g.met.S.Store.now_left c.erase_pages-written.new.store) c.erase_pages-written.ensures.moment t

pub returns-clause-zeros : goal.returns-clause-zeros
returns-clause-zeros g c t done p from below =
    let s = g.S.Store in
    let written = done_only s.bytes s.moment s.left c.erase_pages-written.result c.counted.result c.erase_pages-written.new.store c.counted.new.self.store c.counted.ensures.counts done in
    let kept = bytes_counted s.bytes s.moment s.left c.erase_pages-written.result c.counted.result c.erase_pages-written.new.store c.counted.new.self.store c.counted.ensures.counts in
    ap (λ (b : List ℕ). record_at b p) kept ∙ (c.erase_pages-written.ensures.zeros t written).inside p from below
