use Rattle.nl_pseg.proofs.Numbers.{block_below}
use Rattle.nl_pseg.specs.Kept.{kept}
use Rattle.std.proofs.Common.{◌≡◌, ◌+◌, ◌*◌, length, ap, arith}
use Rattle.nl_pseg.proofs.state.State.live_among.Goals as goal

pub overflow_mul-page : goal.overflow_mul-page
overflow_mul-page c =
    let s = kept c.args.self.now in
    let b = block_below c.args.block (s.blocks.first + length s.blocks.blocks) s.blocks.size c.requires.has.below in
    let n = c.requires.formed.numbers in
    let e : c.args.block * c.pages-pages.result ≡ c.args.block * s.blocks.size = ap (λ n. c.args.block * n) c.pages-pages.ensures in
    omega (arith, b, n, e)

pub overflow_add-page : goal.overflow_add-page
overflow_add-page c =
    let s = kept c.args.self.now in
    let b = block_below c.args.block (s.blocks.first + length s.blocks.blocks) s.blocks.size c.requires.has.below in
    let n = c.requires.formed.numbers in
    let e : c.args.block * c.pages-pages.result ≡ c.args.block * s.blocks.size = ap (λ n. c.args.block * n) c.pages-pages.ensures in
    let at = c.loop-at-test.true in
    let to = c.requires.within in
    omega (arith, b, n, e, at, to)

pub index-requires : goal.index-requires
index-requires c =
    let s = kept c.args.self.now in
    let b = block_below c.args.block (s.blocks.first + length s.blocks.blocks) s.blocks.size c.requires.has.below in
    let n = c.requires.formed.pages in
    let e : c.args.block * c.pages-pages.result ≡ c.args.block * s.blocks.size = ap (λ n. c.args.block * n) c.pages-pages.ensures in
    let at = c.loop-at-test.true in
    let to = c.requires.within in
    omega (arith, b, n, e, at, to)
