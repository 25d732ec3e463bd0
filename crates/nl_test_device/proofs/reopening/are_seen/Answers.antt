use Rattle.std.proofs.Common.{◌≡◌, ◌∙◌, ◌<◌, Some, ap, arith, refl, subst, ⊎_elim}
use Rattle.std.proofs.lemmas.Bool.{cases_lt}
use Rattle.nl_test_device.specs.Reopened.{own_page, place_of, wanted_at}
use Rattle.nl_test_device.proofs.Reopened.{IsAt, are_kept}
use Rattle.nl_test_device.proofs.reopening.are_seen.Goals as goal

pub loop-at-preserved : goal.loop-at-preserved
loop-at-preserved c i within = ⊎_elim
    (λ before. c.loop-at.invariant i before)
    (λ here. subst (λ k. IsAt c.args.tables.now.seen k (own_page (wanted_at (place_of c.args.first c.args.fives k)))) (let e : c.loop-at.at ≡ i = omega (arith, within, here) in e) (record {
      page = c.get.result.now;
      here = c.get.ensures;
      same = c.if-not-is_page.ensures refl ∙ (ap (λ w. Some (own_page w)) c.wanted-number.ensures ∙ ap (λ k. Some (own_page (wanted_at k))) c.place.ensures);
    }))
    (cases_lt i c.loop-at.at)

pub returns : goal.returns
returns c seen = are_kept c.args.tables.now.seen c.args.first c.args.fives c.args.count (omega (arith, c.len.ensures, c.if-len-count.false)) (λ i within. c.loop-at.invariant i (omega (arith, within, c.loop-at-test.false)))
