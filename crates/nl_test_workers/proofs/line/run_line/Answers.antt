use Rattle.std.proofs.Common.{rules, ◌≡◌, ℕ, ◌+◌, ◌++◌, ◌∷◌, [], replicate, ap, ◌∙◌, subst, append_assoc}
use Rattle.std.proofs.lemmas.List.{replicate_more}
use Rattle.nl_tree.specs.declared.turn.Stage.{Stage}
use Rattle.nl_tree.specs.declared.turn.Stage.TheVariants.{Staged}
use Rattle.nl_turns.specs.Seat.{SeatState}
use Rattle.nl_turns.specs.Served.{stage_entry, effect_entry}
use Rattle.nl_test_workers.specs.Work.{entries_of}
use Rattle.nl_turns.proofs.Histories.{prefix_trans}
use Rattle.nl_test_workers.proofs.line.run_line.Goals as goal

pub loop-preserved : goal.loop-preserved
loop-preserved g c =
    let i = c.loop.invariant in
    let s = c.stage_turn.ensures in
    let n = c.args.seat.number in
    let line = c.args.line.now.line in
    let number : c.loop.seat.number ≡ n = ap (λ (z : SeatState). z.number) i.same in
    let more : c.stage_turn.result ≡ Staged = search rules in
    let did : entries_of n c.stage_turn.new.seat.seen ≡ entries_of n c.loop.seat.seen ++ stage_entry line Staged ∷ [] = subst (λ (z : ℕ × Stage). entries_of z.0 c.stage_turn.new.seat.seen ≡ entries_of z.0 c.loop.seat.seen ++ stage_entry line z.1 ∷ []) (λ k. (number k, more k)) s.own in
    record {
      same = search rules;
      grows = prefix_trans c.args.seat.seen c.loop.seat.seen c.stage_turn.new.seat.seen i.grows s.grows;
      own = (
        i.own.0 + 1,
        did ∙ (ap (λ xs. xs ++ stage_entry line Staged ∷ []) i.own.1 ∙ (append_assoc (entries_of n c.args.seat.seen) (replicate i.own.0 (stage_entry line Staged)) (stage_entry line Staged ∷ []) ∙ ap (λ xs. entries_of n c.args.seat.seen ++ xs) (replicate_more i.own.0 (stage_entry line Staged)))),
      );
    }

pub returns-then-ne-clause-own : goal.returns-then-ne-clause-own
returns-then-ne-clause-own g c =
    let i = c.loop.invariant in
    let s = c.stage_turn.ensures in
    let e = c.effect_turn-answered.ensures in
    let n = c.args.seat.number in
    let line = c.args.line.now.line in
    let last = c.stage_turn.result in
    let reply = c.effect_turn-answered.result.reply in
    let mid = c.stage_turn.new.seat in
    let after = c.effect_turn-answered.new.seat in
    let number : c.loop.seat.number ≡ n = ap (λ (z : SeatState). z.number) i.same in
    let number_mid : mid.number ≡ n = ap (λ (z : SeatState). z.number) s.seat ∙ number in
    let front = entries_of n c.args.seat.seen ++ replicate i.own.0 (stage_entry line Staged) in
    let staged : entries_of n mid.seen ≡ front ++ stage_entry line last ∷ [] =
    subst (λ k. entries_of k mid.seen ≡ entries_of k c.loop.seat.seen ++ stage_entry line last ∷ []) number s.own ∙ ap (λ xs. xs ++ stage_entry line last ∷ []) i.own.1 in
    let did : entries_of n after.seen ≡ entries_of n mid.seen ++ effect_entry line reply ∷ [] =
    subst (λ k. entries_of k after.seen ≡ entries_of k mid.seen ++ effect_entry line reply ∷ []) number_mid e.own in (
      i.own.0,
      last,
      search rules,
      did ∙ (ap (λ xs. xs ++ effect_entry line reply ∷ []) staged ∙ append_assoc front (stage_entry line last ∷ []) (effect_entry line reply ∷ [])),
    )
