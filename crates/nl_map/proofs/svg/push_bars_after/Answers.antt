use Rattle.std.proofs.Common.{◌≡◌, ◌∙◌, ◌+◌, List, ◌∷◌, ◌++◌, drop, sym, ap, arith}
use Rattle.std.proofs.lemmas.List.{append-nil, append_assoc, drop_all, drop_more}
use Rattle.std.proofs.lemmas.Result.{on_ok_weaker}
use Rattle.std.specs.Prelude.{flat_map, get_or}
use Rattle.nl_map_pages.specs.declared.look.Look.{Look}
use Rattle.nl_map_pages.specs.declared.look.Mark.TheVariants.{Erased}
use Rattle.nl_map.specs.Runs.{Run, runs_after}
use Rattle.nl_map.specs.Svg.{bar_text}
use Rattle.nl_map.proofs.Bars.{ended, run_ends, run_goes_on}
use Rattle.nl_map.proofs.svg.push_bars_after.Goals.{then-is_alike, else-is_alike+in_ok-push_bar}
use Rattle.nl_map.proofs.svg.push_bars_after.Goals as goal

pub loop-look-preserved : goal.loop-look-preserved
loop-look-preserved c =
    let looks = c.args.looks.now in
    let at = c.loop-look.look-index in
    let mark = c.loop-look.mark in
    let from = c.loop-look.from in
    let count = c.loop-look.count in
    let text = c.loop-look.text.items in
    let none : Look = record { mark = Erased; wear = 0 } in
    let l = get_or looks at none in
    let rest = drop (at + 1) looks in
    let got : drop at looks ≡ l ∷ rest = drop_more looks at none c.loop-look-test.true in
    let with_runs = λ (rs : List Run). text ++ flat_map bar_text rs in
    let i = c.loop-look.invariant in
    elim c.if-is_alike.branch [
      | then-is_alike w ↦
          let next = run_goes_on mark from count l rest (sym c.is_alike.ensures ∙ w.if-is_alike.true) in
          rw (w.text-is, w.mark-is, w.from-is, w.count-is) (ap with_runs (sym (ap (runs_after mark from count) got ∙ next)) ∙ i.0, omega (arith, i.1))
      | else-is_alike+in_ok-push_bar w ↦
          let next = run_ends mark from count l rest (sym c.is_alike.ensures ∙ w.if-is_alike.false) in
          rw (w.text-is, w.mark-is, w.from-is, w.count-is) (
            ap (λ t. t ++ flat_map bar_text (runs_after l.mark (from + count) 1 rest)) w.in_ok-push_bar.ensures
                ∙ append_assoc text (bar_text (ended mark from count l rest)) (flat_map bar_text (runs_after l.mark (from + count) 1 rest))
                ∙ ap with_runs (sym (ap (runs_after mark from count) got ∙ next)) ∙ i.0,
            omega (arith, i.1),
          )
    ]

pub returns : goal.returns
returns c =
    let looks = c.args.looks.now in
    let at = c.loop-look.look-index in
    let mark = c.loop-look.mark in
    let from = c.loop-look.from in
    let count = c.loop-look.count in
    let text = c.loop-look.text.items in
    let run : Run = record { mark = mark; from = from; count = count } in
    on_ok_weaker c.push_bar-2.result
    (λ last. last ∙ ap (λ l. text ++ l) (sym (append-nil (bar_text run))) ∙ ap (λ xs. text ++ flat_map bar_text (runs_after mark from count xs)) (sym (drop_all at looks c.loop-look-test.false)) ∙ c.loop-look.invariant.0)
    c.push_bar-2.ensures
