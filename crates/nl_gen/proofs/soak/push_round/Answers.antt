use Rattle.std.proofs.Common.{◌≡◌, ◌<◌, ◌++◌, length, get_or, vec_len, ◌∙◌, ap, arith, rules}
use Rattle.std.proofs.lemmas.List.{get_or_read_under}
use Rattle.std.specs.Prelude.{flat_map}
use Rattle.std.specs.List.{range_with_len}
use Rattle.rand_pcg.specs.Lcg.{Lcg}
use Rattle.nl_gen.specs.Soak.{line_from, line_text, after_line}
use Rattle.nl_gen.proofs.Ranges.{grown}
use Rattle.nl_gen.proofs.Rounds.{went_on, stay}
use Rattle.nl_gen.proofs.soak.push_round.Goals as goal

pub loop-k-preserved : goal.loop-k-preserved
loop-k-preserved c =
    let inv = c.loop-k.invariant in
    let all = c.loop-k.all.items in
    let begun = c.args.all.now.items in
    let k = c.loop-k.k in
    let g = c.index_mut.result.now in
    let len : vec_len c.loop-k.all ≡ length all = search rules in
    let lt : k < vec_len c.loop-k.all = omega (arith, inv.count, c.len-k-end.ensures) in
    let within : k < length all = omega arith in
    let at : (d : Lcg) → g ≡ get_or begun k d = λ d. get_or_read_under all k (vec_len c.loop-k.all) g d c.index_mut.ensures.value lt len ∙ inv.rest k d (omega arith) in
    let here : (d : Lcg) → c.draw-drawn.new.generator ≡ after_line (get_or begun k d) = λ d. c.draw-drawn.ensures.after ∙ ap after_line (at d) in
    let line : (d : Lcg) → line_text k c.draw-drawn.result ≡ line_from k (get_or begun k d) = λ d. ap (line_text k) c.draw-drawn.ensures.drawn ∙ ap (line_from k) (at d) in
    let pushed = c.in_ok-push_line.ensures in
    record {
      text = λ d. grown (λ j. line_from j (get_or begun j d)) k c.args.text.now.items c.loop-k.text.items c.push_line.new.text.items (inv.text d) (pushed ∙ ap (λ t. c.loop-k.text.items ++ t) (line d));
      before = went_on all begun k c.draw-drawn.new.generator within inv.before here;
      rest = stay all begun k c.draw-drawn.new.generator within inv.rest;
      count = inv.count;
    }

pub returns-clause-text : goal.returns-clause-text
returns-clause-text c d =
    let inv = c.loop-k.invariant in
    let all : c.loop-k.k ≡ vec_len c.args.all.now = omega (arith, c.len-k-end.ensures, c.loop-k-test.false, c.loop-k.auto.k-end) in
    inv.text d ∙ ap (λ n. c.args.text.now.items ++ flat_map (λ k. line_from k (get_or c.args.all.now.items k d)) (range_with_len 0 n)) all
