use Rattle.std.proofs.Common.{◌≡◌, ◌++◌, get_or, vec_len, sym, ◌∙◌, ap, arith}
use Rattle.std.specs.Prelude.{flat_map}
use Rattle.std.specs.List.{range_with_len}
use Rattle.rand_pcg.specs.Lcg.{Lcg}
use Rattle.nl_gen.specs.Soak.{generator, line_from, soak_line, after_line, mkdir_text, round_text}
use Rattle.nl_gen.proofs.Ranges.{grown, same_each}
use Rattle.nl_gen.proofs.Rounds.{one_more_line}
use Rattle.nl_gen.proofs.soak.text_of.Goals as goal

pub rounds-preserved : goal.rounds-preserved
rounds-preserved c =
    let inv = c.rounds.invariant in
    let seed = c.args.seed in
    let n = c.rounds._round in
    let workers = c.args.workers in
    let all = c.rounds.all.items in
    let some : Lcg = generator seed 0 0 in
    let did = c.in_ok-push_round.ensures in
    let count : vec_len c.rounds.all ≡ workers = inv.count in
    let of_workers : flat_map (λ k. line_from k (get_or all k some)) (range_with_len 0 (vec_len c.rounds.all)) ≡ round_text seed workers n =
    ap (λ m. flat_map (λ k. line_from k (get_or all k some)) (range_with_len 0 m)) count ∙ same_each (λ k. line_from k (get_or all k some)) (soak_line seed n) workers (λ k lt. ap (line_from k) (inv.each k some lt)) in
    record {
      text = grown (round_text seed workers) n (flat_map mkdir_text (range_with_len 0 workers)) c.rounds.text.items c.push_round.new.text.items inv.text (did.text some ∙ ap (λ t. c.rounds.text.items ++ t) of_workers);
      count = did.count ∙ count;
      each = λ k d lt. did.after k d (omega arith) ∙ ap after_line (inv.each k d lt) ∙ sym (one_more_line seed k n);
    }
