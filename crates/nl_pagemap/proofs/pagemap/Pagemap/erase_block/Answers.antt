use Rattle.std.proofs.Common.{◌≡◌, ◌⊎◌, ℕ, ◌+◌, ◌-◌, ◌*◌, ◌/◌, ◌<◌, ◌≤◌, sum, sym, ◌∙◌, ap, subst, arith}
use Rattle.std.proofs.Math.Nat.{div-mul-le_self, lt-div-mul-add}
use Rattle.nl_field.specs.Page.{erased, page_at}
use Rattle.nl_nand.specs.Nand.{OperationLeaves}
use Rattle.nl_nand.specs.declared.geometry.Geometry.{Geometry}
use Rattle.nl_pagemap.specs.Mapped.{Mapped, seen}
use Rattle.nl_pagemap.specs.Stands.{IsMapped}
use Rattle.nl_pagemap.proofs.Numbers.{few_untried}
use Rattle.nl_pagemap.proofs.Wiped.{erase_inside, erase_outside, failed_keeps, failed_mapped, wiped, wiped_keeps, wiped_mapped}
use Rattle.nl_pagemap.proofs.pagemap.Pagemap.erase_block.Goals as goal

pub refill-requires-clause-fits : goal.refill-requires-clause-fits
refill-requires-clause-fits g c =
    let few = few_untried c.requires.formed in
    let most = c.requires.formed.bounds.most_pages in
    omega (arith, few, most)

pub returns-in-Failed-clause-formed : goal.returns-in-Failed-clause-formed
returns-in-Failed-clause-formed g c =
    let d = c.args.self.now in
    let s = seen g.M.Nand.contents d in
    let f = c.requires.formed in
    let b = c.args.block in
    let e = c.erase.ensures in
    let image = g.M.Nand.contents c.erase.new.self in
    let others : g.M.Nand.tells → (p : ℕ) → (p < b * d.shape.pages) ⊎ (b * d.shape.pages + d.shape.pages ≤ p) → page_at image p ≡ page_at s.image p = λ t p off.
    erase_outside c.erase.result (b * d.shape.pages) (b * d.shape.pages + d.shape.pages) erased s.image image
    (subst (λ n. OperationLeaves (b * n) (b * n + n) erased s.image c.erase.result image) f.pages (e.effect t)) p off in
    subst (λ (x : Geometry). IsMapped g.M.Nand.tells x (record s { image = image })) (sym e.counted.same_geometry)
    (failed_mapped b s image f c.requires.full c.requires.empty others)

pub returns-in-Failed-clause-kept : goal.returns-in-Failed-clause-kept
returns-in-Failed-clause-kept g c =
    let d = c.args.self.now in
    let s = seen g.M.Nand.contents d in
    let f = c.requires.formed in
    let b = c.args.block in
    let e = c.erase.ensures in
    let image = g.M.Nand.contents c.erase.new.self in
    let others : g.M.Nand.tells → (p : ℕ) → (p < b * d.shape.pages) ⊎ (b * d.shape.pages + d.shape.pages ≤ p) → page_at image p ≡ page_at s.image p = λ t p off.
    erase_outside c.erase.result (b * d.shape.pages) (b * d.shape.pages + d.shape.pages) erased s.image image
    (subst (λ n. OperationLeaves (b * n) (b * n + n) erased s.image c.erase.result image) f.pages (e.effect t)) p off in
    failed_keeps b s image f c.requires.full c.requires.empty others

pub returns-in-Done-clause-formed : goal.returns-in-Done-clause-formed
returns-in-Done-clause-formed g c =
    let d = c.args.self.now in
    let s = seen g.M.Nand.contents d in
    let f = c.requires.formed in
    let b = c.args.block in
    let e = c.erase.ensures in
    let image = g.M.Nand.contents c.erase.new.self in
    let effect : g.M.Nand.tells → OperationLeaves (b * d.shape.pages) (b * d.shape.pages + d.shape.pages) erased s.image c.erase.result image = λ t.
    subst (λ n. OperationLeaves (b * n) (b * n + n) erased s.image c.erase.result image) f.pages (e.effect t) in
    let others : g.M.Nand.tells → (p : ℕ) → (p < b * d.shape.pages) ⊎ (b * d.shape.pages + d.shape.pages ≤ p) → page_at image p ≡ page_at s.image p = λ t p off.
    erase_outside c.erase.result (b * d.shape.pages) (b * d.shape.pages + d.shape.pages) erased s.image image (effect t) p off in
    let clear : g.M.Nand.tells → (p : ℕ) → p / d.shape.pages ≡ b → page_at image p ≡ erased = λ t p here.
    let least = f.bounds.least_pages in
    let low : b * d.shape.pages ≤ p = subst (λ q. q * d.shape.pages ≤ p) here (div-mul-le_self p d.shape.pages) in
    let high : p < b * d.shape.pages + d.shape.pages = subst (λ q. p < q * d.shape.pages + d.shape.pages) here (lt-div-mul-add (omega (arith, least))) in
    erase_inside c.erase.result (b * d.shape.pages) (b * d.shape.pages + d.shape.pages) erased s.image image c.in-Done.is (effect t) p low high in
    let counts = c.refill.ensures in
    let room : c.saturating_sub-self.result ≡ sum (wiped b s image f c.requires.full c.requires.empty others).untried - d.shape.pages =
    c.saturating_sub-self.ensures ∙ ap (λ n. n - d.shape.pages) (c.total.ensures ∙ ap sum counts) in
    let path : record s { untried = c.refill.new.self; room = c.saturating_sub-self.result; free = 1 + c.saturating_sub-self.result / d.shape.pages; image = image } ≡ wiped b s image f c.requires.full c.requires.empty others =
    λ i. record s { untried = counts i; room = room i; free = 1 + room i / d.shape.pages; image = image } in
    subst (λ (x : Geometry). IsMapped g.M.Nand.tells x (record s { untried = c.refill.new.self; room = c.saturating_sub-self.result; free = 1 + c.saturating_sub-self.result / d.shape.pages; image = image })) (sym e.counted.same_geometry)
    (subst (λ (x : Mapped). IsMapped g.M.Nand.tells (g.M.Nand.geometry d.media) x) (sym path) (wiped_mapped b s image f c.requires.full c.requires.empty others clear))

pub returns-in-Done-clause-kept : goal.returns-in-Done-clause-kept
returns-in-Done-clause-kept g c =
    let d = c.args.self.now in
    let s = seen g.M.Nand.contents d in
    let f = c.requires.formed in
    let b = c.args.block in
    let e = c.erase.ensures in
    let image = g.M.Nand.contents c.erase.new.self in
    let others : g.M.Nand.tells → (p : ℕ) → (p < b * d.shape.pages) ⊎ (b * d.shape.pages + d.shape.pages ≤ p) → page_at image p ≡ page_at s.image p = λ t p off.
    erase_outside c.erase.result (b * d.shape.pages) (b * d.shape.pages + d.shape.pages) erased s.image image
    (subst (λ n. OperationLeaves (b * n) (b * n + n) erased s.image c.erase.result image) f.pages (e.effect t)) p off in
    let k = wiped_keeps b s image f c.requires.full c.requires.empty others in
    record { shape = k.shape; vseg = k.vseg; next = k.next; count = k.count; live = k.live; map = k.map; stored = k.stored }
