use Rattle.std.proofs.Common.{◌≡◌, ◌+◌, ◌*◌, ◌<◌, ◌≤◌, length, sym, ◌∙◌, subst, arith}
use Rattle.nl_vseg.specs.Places.{IsUnmapped}
use Rattle.nl_vseg.specs.Copying.{mapped_in, HasHole}
use Rattle.nl_vseg.proofs.Blocks.{has_block, none_free}
use Rattle.nl_vseg.proofs.Counting.{some_dead, mapped_zero}
use Rattle.nl_vseg.proofs.Marks.{has_hole, all_dead_unmapped}
use Rattle.nl_vseg.proofs.victim.choose.Goals as goal

pub unreachable-requires : goal.unreachable-requires
unreachable-requires c =
    let s = c.settle.ensures.states in
    let t = c.settle.new.blocks in
    let first = s.numbers.same_first ∙ c.requires.first in
    let few = subst (λ n. length c.args.places.now.items + 4 * n ≤ length t.blocks * n) (sym s.numbers.same_size)
    (subst (λ n. length c.args.places.now.items + 4 * c.args.blocks.now.size ≤ n * c.args.blocks.now.size) (sym s.numbers.same_count) c.requires.few) in
    some_dead t c.args.places.now.items first (subst (λ n. 0 < n) (sym s.numbers.same_size) c.requires.some) (subst (λ n. n ≤ 1) (sym s.total) c.requires.free) few c.settle.ensures.settled
    (λ block within sealed. c.in-None.ensures.none block (has_block t block first within, sealed))

pub returns-clause-hole : goal.returns-clause-hole
returns-clause-hole c =
    let s = c.settle.ensures.states in
    let t = c.settle.new.blocks in
    let first = s.numbers.same_first ∙ c.requires.first in
    let victim = c.in-Some.ensures.some in
    let below : c.in-Some.block < length t.blocks = omega (arith, victim.sealed.0.below, first) in
    subst (λ n. HasHole n c.in-Some.block c.args.places.now.items) s.numbers.same_size (has_hole c.args.places.now.items t c.settle.ensures.settled c.in-Some.block below victim.some)

pub returns-clause-unmapped : goal.returns-clause-unmapped
returns-clause-unmapped c none block within unmapped =
    let s = c.settle.ensures.states in
    let t = c.settle.new.blocks in
    let first = s.numbers.same_first ∙ c.requires.first in
    let places = c.args.places.now.items in
    let some = subst (λ n. 0 < n) (sym s.numbers.same_size) c.requires.some in
    let used = none_free c.args.blocks.now c.requires.first none block within in
    let here : block < length t.blocks = subst (λ n. block < n) (sym s.numbers.same_count) within in
    let sealed = c.settle.ensures.settled.sealed block here (s.free block ∙ used) in
    let victim = c.in-Some.ensures.some in
    let most = victim.most block (has_block t block first here, sealed) in
    let below : c.in-Some.block < length t.blocks = omega (arith, victim.sealed.0.below, first) in
    let counted = c.settle.ensures.settled.counted block here in
    let zero : mapped_in t.size block places ≡ 0 = mapped_zero t.size block places some (subst (λ n. IsUnmapped n places block) (sym s.numbers.same_size) unmapped) in
    subst (λ n. IsUnmapped n places c.in-Some.block) s.numbers.same_size
    (all_dead_unmapped places t c.settle.ensures.settled c.in-Some.block below some (omega (arith, counted, zero, most)))
