use Rattle.std.proofs.Common.{◌≡◌, ◌∙◌, ◌++◌, ℕ, List, [], sym, ap, subst}
use Rattle.std.specs.Prelude.{◌⊎◌}
use Rattle.nl_cmd_map.specs.Mapping.{MapEnds, maps_consistent, maps_refused}
use Rattle.nl_cmd_words.specs.Ends.{IsStatusOf}
use Rattle.nl_field.specs.CrashStates.{Rose}
use Rattle.nl_io.specs.Streams.{WritesStream}
use Rattle.nl_map.specs.Drawing.{DrawsImage, IfMap}
use Rattle.nl_map.specs.Forms.{map_in}
use Rattle.nl_spec_headline.specs.Streams.{Untouched, medium_seen, sink_seen}
use Rattle.nl_cmd_map.proofs.Mapped.{maps_it, refuses_it}
use Rattle.nl_cmd_map.proofs.mapping.map_as.Goals as goal

pub returns-then-opens-clause-ended : goal.returns-then-opens-clause-ended
returns-then-opens-clause-ended g c =
    let N = g.M.Nand in
    let K = g.K.Sink in
    let media = c.args.media in
    let given = c.draw-drawn.result.1 in
    let only = c.draw-drawn.ensures.medium in
    let heading = c.in-Map.heading in
    let form = c.args.form in
    let text = c.in-Map.text.items in
    let print = c.write-answer in
    let end = c.carried_out in
    let old = sink_seen K c.args.sink.now in
    let new = sink_seen K print.new.self in
    let before = c.faults_of-before in
    let writes = subst (λ (l : List ℕ). WritesStream old.bytes new.bytes print.result l) c.deref.ensures.value print.ensures.bytes in
    let status = subst (λ (k : ℕ × ℕ). IsStatusOf end.result.status (Rose k.0 (N.read_faults given) ⊎ Rose k.1 (N.write_faults given)) print.result) (λ j. (before.ensures.0 j, before.ensures.1 j)) end.ensures.status in
    let untouched : Untouched N.tells (medium_seen N media) (medium_seen N given) = record { same_contents = only.same_contents; same_clock = only.same_clock; same_write_faults = only.same_write_faults } in
    let ends : MapEnds (map_in form) N.tells old new (medium_seen N media) (medium_seen N given) end.result.order.items end.result.syncs.items end.result.status =
    maps_consistent text
    (λ tells. maps_it c.sound_is_readable.ensures form (N.contents media) (c.walk_finds_consistency.ensures (N.contents media) (g.met.M.Nand.contents_fit media tells).whole) heading text
    (sym c.opens.ensures ∙ c.if-opens.true) (subst (λ d. IfMap d (DrawsImage form (N.contents media))) c.in-Map.is (c.draw-drawn.ensures.map tells)))
    (record {
      prints = record { answer = print.result; taken = writes; never_falls = print.ensures.never_falls; cause = print.ensures.cause };
      untouched = untouched;
      no_lines = end.ensures.order;
      no_syncs = end.ensures.syncs;
    })
    (status old new text writes print.ensures.cause) in
    subst (λ (x : g.row.M.Denot). MapEnds (map_in form) N.tells old new (medium_seen N media) (medium_seen N x) end.result.order.items end.result.syncs.items end.result.status) (sym end.ensures.media) ends

pub returns-in-Map-clause-ended : goal.returns-in-Map-clause-ended
returns-in-Map-clause-ended g c =
    let N = g.M.Nand in
    let K = g.K.Sink in
    let media = c.args.media in
    let given = c.draw-drawn.result.1 in
    let only = c.draw-drawn.ensures.medium in
    let heading = c.in-Map.heading in
    let form = c.args.form in
    let text = c.in-Map.text.items in
    let print = c.write-answer in
    let end = c.without_lines in
    let old = sink_seen K c.args.sink.now in
    let new = sink_seen K print.new.self in
    let writes = subst (λ (l : List ℕ). WritesStream old.bytes new.bytes print.result l) c.deref.ensures.value print.ensures.bytes in
    let untouched : Untouched N.tells (medium_seen N media) (medium_seen N given) = record { same_contents = only.same_contents; same_clock = only.same_clock; same_write_faults = only.same_write_faults } in
    let ends : MapEnds (map_in form) N.tells old new (medium_seen N media) (medium_seen N given) end.result.order.items end.result.syncs.items end.result.status =
    maps_refused text end.ensures.status
    (λ tells. refuses_it c.sound_is_readable.ensures form (N.contents media) (c.walk_finds_consistency.ensures (N.contents media) (g.met.M.Nand.contents_fit media tells).whole) heading text
    (sym c.opens.ensures ∙ c.if-opens.false) (subst (λ d. IfMap d (DrawsImage form (N.contents media))) c.in-Map.is (c.draw-drawn.ensures.map tells)))
    (record {
      prints = record { answer = print.result; taken = writes; never_falls = print.ensures.never_falls; cause = print.ensures.cause };
      untouched = untouched;
      no_lines = end.ensures.order;
      no_syncs = end.ensures.syncs;
    }) in
    subst (λ (x : g.row.M.Denot). MapEnds (map_in form) N.tells old new (medium_seen N media) (medium_seen N x) end.result.order.items end.result.syncs.items end.result.status) (sym end.ensures.media) ends
