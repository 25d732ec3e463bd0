use Rattle.std.proofs.Common.{◌≡◌, ◌∙◌, ◌≤◌, ◌+◌, ◌*◌, ◌++◌, ◌∷◌, [], ℕ, None, length, subst, sym, ap, arith}
use Rattle.nl_field.specs.declared.shape.Shape.{Shape}
use Rattle.nl_pagemap.specs.contracts.counts.PagemapCounts.TheImpl.{ghosts as mapped}
use Rattle.nl_tree.specs.Causes.{fault_in}
use Rattle.nl_tree.specs.Charges.{data_charge}
use Rattle.nl_tree.specs.Replay.{Answers, step_marked}
use Rattle.nl_tree.specs.Tree.{Tree}
use Rattle.nl_turns.specs.History.{with_lines}
use Rattle.nl_volume.specs.contracts.volume.VolumeKept.TheImpl.{ghosts as kept}
use Rattle.nl_cmd_course.specs.Asking.{entries_from, lines_from}
use Rattle.nl_cmd_course.proofs.Asked.{all_lines}
use Rattle.nl_pagemap_volume.specs.Volume.{Shows, awaiting}
use Rattle.nl_cmd_compare.specs.Both.{tree_of}
use Rattle.nl_cmd_compare.proofs.Both.{fits_both}
use Rattle.nl_cmd_compare.proofs.Stepping.{answered_more, calls_more, due_on, few_on, most_on, none_of, tree_more}
use Rattle.nl_cmd_compare.proofs.comparison.Comparison.step.Goals as goal

pub ask-volume-requires-clause-may : goal.ask-volume-requires-clause-may
ask-volume-requires-clause-may g c =
    let is = c.requires.compares.2 in
    let a = is.answered in
    (a.origin, a.opening, a.asked, a.has, omega (arith, a.count, is.counted))

pub pairs-requires : goal.pairs-requires
pairs-requires g c =
    let is = c.requires.compares.2 in
    let a = is.answered in
    let asked = a.asked ++ (c.args.call.now, c.ask-volume.result) ∷ [] in
    let has = c.ask-volume.ensures.asked a.origin a.opening a.asked a.has (omega (arith, a.count, is.counted)) in
    (a.origin, with_lines a.opening (lines_from 1 asked ++ []), entries_from 1 asked, has.follows [] (all_lines asked has.bounded))

pub returns-clause-goes_on : goal.returns-clause-goes_on
returns-clause-goes_on g c = λ shape calls is.
    let V = kept g.row.M g.M.Nand g.M.Nand-dict in
    let G = mapped g.row.M g.M.Nand g.M.Nand-dict in
    let tells = g.M.Nand.tells in
    let call = c.args.call.now in
    let a = is.answered in
    let asked = a.asked ++ (call, c.ask-volume.result) ∷ [] in
    let quiet : fault_in c.ask-volume.result ≡ None = none_of (fault_in c.ask-volume.result) (sym c.is_fault.ensures ∙ c.if-is_fault.false) in
    let has = c.ask-volume.ensures.asked a.origin a.opening a.asked a.has (omega (arith, a.count, is.counted)) in
    let stood = has.follows [] (all_lines asked has.bounded) in
    let q = c.in_ok-map.ensures.goes_on in
    let new = c.step_quietly.new.map in
    let none_awaits : tells → data_charge (tree_of shape (calls ++ call ∷ [])) + awaiting new ≡ data_charge (tree_of shape (calls ++ call ∷ [])) =
    λ t. (let none = q.none_awaits t is.writes in omega (arith, none)) in
    let after : tells → Shows G new (tree_of shape (calls ++ call ∷ [])) =
    λ t. subst (λ (tree : Tree). Shows G new tree) (ap (λ (h : Shape). (step_marked h (tree_of shape calls) (call, None)).tree) is.same_shape ∙ sym (tree_more shape calls call)) (q.goes_on t (tree_of shape calls) (is.shows t)) in
    record {
      answered = answered_more V.stands tells shape calls c.args.self.now.volume call c.ask-volume.result quiet a c.ask-volume.new.volume has;
      map_stands = c.step_quietly.ensures.stands;
      writes = q.writes is.writes;
      same_shape = q.same_shape ∙ is.same_shape;
      shows = after;
      counted = (let more = calls_more calls call in let so_far = is.counted in omega (arith, so_far, more));
      few = λ t. few_on c.args.self.now.numbers.pairs c.pairs.result c.greater.result (4 * shape.pages) (is.few t)
          (subst (λ (h : Shape). c.pairs.result ≤ 4 * h.pages) (stood.0.serves.along.shape ∙ a.same_shape t) c.pairs.ensures.few) c.greater.ensures;
      most = λ t. most_on shape calls call c.args.self.now.numbers.entries c.entries.result c.greater-2.result (is.most t)
          (c.entries.ensures.charged t (tree_of shape (calls ++ call ∷ [])) (after t)
          ∙ none_awaits t)
          c.greater-2.ensures;
    }

pub returns-clause-answers : goal.returns-clause-answers
returns-clause-answers g c = λ t shape calls is.
    let V = kept g.row.M g.M.Nand g.M.Nand-dict in
    let tells = g.M.Nand.tells in
    let call = c.args.call.now in
    let a = is.answered in
    let quiet : fault_in c.ask-volume.result ≡ None = none_of (fault_in c.ask-volume.result) (sym c.is_fault.ensures ∙ c.if-is_fault.false) in
    let q = c.in_ok-map.ensures.goes_on in (
      due_on V.stands tells shape calls c.args.self.now.volume call c.ask-volume.result quiet a t c.ask-volume.new.out
          (c.ask-volume.ensures.answers t a.origin a.opening a.asked a.has (omega (arith, a.count, is.counted))),
      subst (λ (h : Shape). Answers (step_marked h (tree_of shape calls) (call, None)) c.in_ok-map.map c.step_quietly.new.out) is.same_shape (q.answers t (tree_of shape calls) (is.shows t)),
    )

pub returns-clause-alike : goal.returns-clause-alike
returns-clause-alike g c = λ t.
    let V = kept g.row.M g.M.Nand g.M.Nand-dict in
    let tells = g.M.Nand.tells in
    let call = c.args.call.now in
    let shape = c.requires.compares.0 in
    let calls = c.requires.compares.1 in
    let is = c.requires.compares.2 in
    let a = is.answered in
    let quiet : fault_in c.ask-volume.result ≡ None = none_of (fault_in c.ask-volume.result) (sym c.is_fault.ensures ∙ c.if-is_fault.false) in
    let q = c.in_ok-map.ensures.goes_on in
    let one = due_on V.stands tells shape calls c.args.self.now.volume call c.ask-volume.result quiet a t c.ask-volume.new.out
    (c.ask-volume.ensures.answers t a.origin a.opening a.asked a.has (omega (arith, a.count, is.counted))) in
    let other = subst (λ (h : Shape). Answers (step_marked h (tree_of shape calls) (call, None)) c.in_ok-map.map c.step_quietly.new.out) is.same_shape (q.answers t (tree_of shape calls) (is.shows t)) in
    (fits_both (step_marked shape (tree_of shape calls) (call, None)).reply c.ask-volume.result c.in_ok-map.map one.0 other.0, other.1 ∙ sym one.1)
