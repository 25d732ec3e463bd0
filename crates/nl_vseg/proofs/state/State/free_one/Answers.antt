use Rattle.std.proofs.Common.{◌≡◌, ◌<◌, ◌≤◌, refl, sym, ◌∙◌, ap, subst, arith}
use Rattle.nl_blocks.specs.Table.{free_count}
use Rattle.nl_vseg.specs.Places.{IsUnmapped}
use Rattle.nl_vseg.specs.Seen.{seen}
use Rattle.nl_vseg.specs.Used.{used_of}
use Rattle.nl_vseg.proofs.Cleaning.{settled_used, stands_settled, values_from, values_still, with_table}
use Rattle.nl_vseg.proofs.Segments.{below_of}
use Rattle.nl_vseg.proofs.Small.{given_free, le_least, page_done_failed}
use Rattle.nl_vseg.proofs.Using.{closed_full}
use Rattle.nl_vseg.proofs.state.State.free_one.Goals as goal

pub returns-then-free-gt0 : goal.returns-then-free-gt0
returns-then-free-gt0 g c =
    let s = c.args.self.now in
    record {
      keeps = values_still g.M.Nand s s c.requires.spare c.requires.stands c.requires.stands refl (record { same_first = refl; same_size = refl; same_count = refl }) refl page_done_failed;
      places = refl;
      closed = c.requires.closed;
      free = subst (λ n. 1 ≤ n) c.free.ensures (le_least c.if-free-gt0.true);
      same = λ some. refl;
      ready = λ some. refl;
      still = λ some. refl;
    }

pub choose-block-requires : goal.choose-block-requires
choose-block-requires g c =
    let is = c.requires.stands.formed.segment in
    let free = c.free.ensures in
    let none = c.if-free-gt0.false in
    record { some = is.some; first = is.first; below = below_of (seen c.args.self.now) is; few = is.few; free = omega (arith, free, none) }

pub erase-requires : goal.erase-requires
erase-requires g c =
    let s = c.args.self.now in
    let spare = c.requires.spare in
    let e = c.choose-block.ensures in
    let free = c.free.ensures in
    let left = c.if-free-gt0.false in
    let none : free_count s.blocks ≡ 0 = omega (arith, free, left) in
    record {
      stands = stands_settled g.M.Nand c.choose-block.new.blocks c.requires.closed e.states e.settled c.requires.stands;
      within = subst (λ n. c.choose-block.result < n) (sym e.states.numbers.same_count) e.within;
      unmapped = subst (λ n. IsUnmapped n s.places.items c.choose-block.result) (sym e.states.numbers.same_size) (e.unmapped none spare.block spare.within spare.unmapped);
    }

pub returns : goal.returns
returns g c =
    let s = c.args.self.now in
    let t = c.choose-block.new.blocks in
    let e = c.choose-block.ensures in
    let er = c.erase.ensures in
    let free = c.free.ensures in
    let left = c.if-free-gt0.false in
    let none : 1 ≤ free_count s.blocks → ⊥ = λ some. omega (arith, free, left, some) in
    record {
      keeps = values_from g.M.Nand s (with_table s t) refl e.states.numbers e.wears er.keeps;
      places = er.free.same_places;
      closed =
          let within = subst (λ n. s.active < n) (sym e.states.numbers.same_count) c.requires.stands.formed.segment.active_is in
          ap (used_of c.erase.new.self.blocks) er.free.same_active
          ∙ closed_full s.active within (settled_used s t c.requires.stands.formed e.states e.settled) er.free.states.numbers.same_size er.free.used;
      free = given_free (e.states.free c.choose-block.result ∙ e.in_use) er.free.states;
      same = λ some. absurd (none some);
      ready = λ some. absurd (none some);
      still = λ some. absurd (none some);
    }
