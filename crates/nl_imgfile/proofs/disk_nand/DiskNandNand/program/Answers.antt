use Rattle.std.proofs.Common.{◌≡◌, ◌∙◌, ℕ, ◌+◌, ◌≤◌, ◌*◌, ap, subst, arith}
use Rattle.nl_field.specs.Page.{written}
use Rattle.nl_nand.specs.Nand.{ticked}
use Rattle.nl_imgfile.proofs.DiskOperations.{blank_here, effect, crash, headed, reached_before, reached_after, some_blocks}
use Rattle.nl_imgfile.proofs.disk_nand.DiskNandNand.program.Goals as goal

pub returns-clause-effect : goal.returns-clause-effect
returns-clause-effect g c t =
    let d = c.args.self.now in
    let s = g.S.Store in
    let within : c.args.page + 1 ≤ d.geometry.blocks * d.geometry.pages = omega (arith, c.requires.within) in
    effect g.S.Store.tells g.S.Store.bytes g.S.Store.moment g.S.Store.left c.args.page (c.args.page + 1) (written c.args.from.now) d c.counted.new.self c.write_page-written.new.store c.write_page-written.result c.counted.result
    c.counted.ensures.geometry within c.counted.ensures.counts t
    (c.write_page-written.ensures.told t (blank_here g.S.Store.tells g.S.Store.bytes g.S.Store.moment g.S.Store.left d c.args.page t c.requires.within c.requires.erased))

pub returns-clause-crash : goal.returns-clause-crash
returns-clause-crash g c =
    let d = c.args.self.now in
    let within : c.args.page + 1 ≤ d.geometry.blocks * d.geometry.pages = omega (arith, c.requires.within) in
    let later : g.S.Store.moment d.store ≤ g.S.Store.moment c.counted.new.self.store = subst (λ (m : ℕ). m ≤ g.S.Store.moment c.counted.new.self.store) c.write_page-written.ensures.moment c.counted.ensures.later in
    let ticks : g.S.Store.moment c.counted.new.self.store ≡ ticked (g.S.Store.moment d.store) c.counted.result = c.counted.ensures.ticks ∙ ap (λ (m : ℕ). ticked m c.counted.result) c.write_page-written.ensures.moment in
    crash g.S.Store.tells g.S.Store.bytes g.S.Store.moment g.S.Store.left c.args.page (c.args.page + 1) (written c.args.from.now) d c.counted.new.self c.write_page-written.new.store c.write_page-written.result c.counted.result
    c.counted.ensures.geometry within c.counted.ensures.counts later ticks
    (λ t. c.write_page-written.ensures.crash t (blank_here g.S.Store.tells g.S.Store.bytes g.S.Store.moment g.S.Store.left d c.args.page t c.requires.within c.requires.erased))

pub returns-clause-headed : goal.returns-clause-headed
returns-clause-headed g c t had =
    let d = c.args.self.now in
    let within : c.args.page + 1 ≤ d.geometry.blocks * d.geometry.pages = omega (arith, c.requires.within) in
    let blank = blank_here g.S.Store.tells g.S.Store.bytes g.S.Store.moment g.S.Store.left d c.args.page t c.requires.within c.requires.erased in
    headed g.S.Store.tells g.S.Store.bytes g.S.Store.moment g.S.Store.left c.args.page (c.args.page + 1) (written c.args.from.now) d c.counted.new.self c.write_page-written.new.store c.write_page-written.result c.counted.result
    c.counted.ensures.geometry within c.counted.ensures.counts (g.met.S.Store.now_left d.store) (some_blocks d.geometry.blocks d.geometry.pages c.args.page c.requires.within)
    (c.write_page-written.ensures.told t blank) (c.write_page-written.ensures.crash t blank) had

pub returns-clause-before : goal.returns-clause-before
returns-clause-before g c t =
    let d = c.args.self.now in
    let within : c.args.page + 1 ≤ d.geometry.blocks * d.geometry.pages = omega (arith, c.requires.within) in
    reached_before g.S.Store.tells g.S.Store.bytes g.S.Store.moment g.S.Store.left c.args.page (c.args.page + 1) (written c.args.from.now) d c.counted.new.self c.write_page-written.new.store c.write_page-written.result c.counted.result
    c.counted.ensures.geometry within c.counted.ensures.counts (g.met.S.Store.now_left d.store) (c.write_page-written.ensures.crash t (blank_here g.S.Store.tells g.S.Store.bytes g.S.Store.moment g.S.Store.left d c.args.page t c.requires.within c.requires.erased)) t

pub returns-clause-after : goal.returns-clause-after
returns-clause-after g c t =
    let d = c.args.self.now in
    let within : c.args.page + 1 ≤ d.geometry.blocks * d.geometry.pages = omega (arith, c.requires.within) in
    reached_after g.S.Store.tells g.S.Store.bytes g.S.Store.moment g.S.Store.left c.args.page (c.args.page + 1) (written c.args.from.now) d c.counted.new.self c.write_page-written.new.store c.write_page-written.result c.counted.result
    c.counted.ensures.geometry within c.counted.ensures.counts (g.met.S.Store.now_left c.write_page-written.new.store) c.write_page-written.ensures.moment t
