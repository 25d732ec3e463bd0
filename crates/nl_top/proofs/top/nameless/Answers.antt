use Rattle.std.proofs.Common.{◌≡◌, ◌∙◌, ℕ, List, ap, refl, subst, sym, Option, None, Some}
use Rattle.std.specs.Prelude.{IfSome, IsSome}
use Rattle.nl_cmd_view.specs.Getting.{GetEnds}
use Rattle.nl_cmd_words.specs.Command.{HasPath}
use Rattle.nl_cmd_words.specs.Paths.{path_word}
use Rattle.nl_cmd_words.specs.declared.command.Command.{Command}
use Rattle.nl_cmd_words.specs.declared.command.Command.TheVariants.{Check, Compare, Format, Get, Map, MapSvg, Put, Report, Run, Soak, Tree}
use Rattle.nl_map.specs.Svg.{map_svg}
use Rattle.nl_map.specs.Text.{map_text}
use Rattle.nl_spec_headline.specs.Streams.{medium_seen, sink_seen, source_seen}
use Rattle.nl_top.specs.Complete.{CarriesOut}
use Rattle.nl_top.specs.Ends.{MayRefuse, checks, compares, faulty_words, formats, gets, maps, maps_as_picture, puts, reports, runs, shows_tree, soaks}
use Rattle.nl_top.specs.Leaving.{leaves_within}
use Rattle.nl_top.specs.Soak.{Summarises}
use Rattle.nl_top.proofs.Left.{same_leaves}
use Rattle.nl_top.proofs.RunCompleting.{lines_complete, script_completes}
use Rattle.nl_top.proofs.top.nameless.Goals as goal

pub returns-in-None-clause-ended : goal.returns-in-None-clause-ended
returns-in-None-clause-ended g c =
    let m = g.M.Nand in
    faulty_words (sym c.command_of.ensures.command ∙ c.in-None.is) c.ended.ensures.status refl (same_leaves m c.args.media c.ended.result.media c.ended.ensures.media)
    (record {
      prints = c.ended.ensures.prints;
      untouched = record {
        same_contents = λ told. ap m.contents c.ended.ensures.media;
        same_clock = ap m.clock c.ended.ensures.media;
        same_write_faults = ap m.write_faults c.ended.ensures.media;
      };
      no_lines = c.ended.ensures.order;
      no_syncs = c.ended.ensures.syncs;
    })

pub returns-in-None-clause-completes : goal.returns-in-None-clause-completes
returns-in-None-clause-completes g c = λ none.
    let m = g.M.Nand in
    let source = source_seen g.S.Source c.args.src.now in
    let old = medium_seen m c.args.media in
    let new = medium_seen m c.ended.result.media in
    let done : CarriesOut None (path_word c.args.words.now) m.tells source old new c.ended.result.order.items c.ended.result.status = tt in
    subst (λ (o : Option Command). CarriesOut o (path_word c.args.words.now) m.tells source old new c.ended.result.order.items c.ended.result.status) (sym (sym c.command_of.ensures.command ∙ c.in-None.is)) done

pub returns-in-Some-Format-clause-ended : goal.returns-in-Some-Format-clause-ended
returns-in-Some-Format-clause-ended g c =
    formats c.in-Some-Format.blocks c.in-Some-Format.pages (sym c.command_of.ensures.command ∙ c.in-Some-Format.is ∙ ap Some c.in-Some-Format.field-0-is) refl c.format.ensures.stops c.format.ensures.ended

pub returns-in-Some-Format-clause-completes : goal.returns-in-Some-Format-clause-completes
returns-in-Some-Format-clause-completes g c = λ none.
    let m = g.M.Nand in
    let source = source_seen g.S.Source c.args.src.now in
    let old = medium_seen m c.args.media in
    let new = medium_seen m c.format.result.media in
    let done : CarriesOut (Some (Format c.in-Some-Format.blocks c.in-Some-Format.pages)) (path_word c.args.words.now) m.tells source old new c.format.result.order.items c.format.result.status =
    c.format_completes.ensures c.in-Some-Format.blocks c.in-Some-Format.pages source source (sink_seen g.K.Sink c.args.sink.now) (sink_seen g.K.Sink c.format.new.sink) old new c.format.result.order.items c.format.result.syncs.items c.format.result.status c.format.ensures.ended none in
    subst (λ (o : Option Command). CarriesOut o (path_word c.args.words.now) m.tells source old new c.format.result.order.items c.format.result.status) (sym (sym c.command_of.ensures.command ∙ c.in-Some-Format.is ∙ ap Some c.in-Some-Format.field-0-is)) done

pub returns-in-Some-Run-clause-ended : goal.returns-in-Some-Run-clause-ended
returns-in-Some-Run-clause-ended g c = runs (sym c.command_of.ensures.command ∙ c.in-Some-Run.is ∙ ap Some c.in-Some-Run.field-0-is) c.run.ensures.ended

pub returns-in-Some-Run-clause-completes : goal.returns-in-Some-Run-clause-completes
returns-in-Some-Run-clause-completes g c = λ none.
    let m = g.M.Nand in
    let source = source_seen g.S.Source c.args.src.now in
    let old = medium_seen m c.args.media in
    let new = medium_seen m c.run.result.media in
    let done : CarriesOut (Some Run) (path_word c.args.words.now) m.tells source old new c.run.result.order.items c.run.result.status = λ bytes lines count left script starts last.
    script_completes m.tells source (source_seen g.S.Source c.run.new.src) (sink_seen g.K.Sink c.args.sink.now) (sink_seen g.K.Sink c.run.new.sink) old new c.run.result.order.items c.run.result.syncs.items c.run.result.status count
    c.opening_completes.ensures starts none last bytes lines left script (leaves_within m c.args.media c.run.result.media) c.run.ensures.ended in
    subst (λ (o : Option Command). CarriesOut o (path_word c.args.words.now) m.tells source old new c.run.result.order.items c.run.result.status) (sym (sym c.command_of.ensures.command ∙ c.in-Some-Run.is ∙ ap Some c.in-Some-Run.field-0-is)) done

pub returns-in-Some-Check-clause-ended : goal.returns-in-Some-Check-clause-ended
returns-in-Some-Check-clause-ended g c = checks (sym c.command_of.ensures.command ∙ c.in-Some-Check.is ∙ ap Some c.in-Some-Check.field-0-is) refl c.check.ensures.left c.check.ensures.ended

pub returns-in-Some-Check-clause-completes : goal.returns-in-Some-Check-clause-completes
returns-in-Some-Check-clause-completes g c = λ none.
    let m = g.M.Nand in
    let source = source_seen g.S.Source c.args.src.now in
    let old = medium_seen m c.args.media in
    let new = medium_seen m c.check.result.media in
    let done : CarriesOut (Some Check) (path_word c.args.words.now) m.tells source old new c.check.result.order.items c.check.result.status = λ count starts.
    c.check_completes.ensures source source (sink_seen g.K.Sink c.args.sink.now) (sink_seen g.K.Sink c.check.new.sink) old new c.check.result.order.items c.check.result.syncs.items c.check.result.status count c.check.ensures.ended starts none in
    subst (λ (o : Option Command). CarriesOut o (path_word c.args.words.now) m.tells source old new c.check.result.order.items c.check.result.status) (sym (sym c.command_of.ensures.command ∙ c.in-Some-Check.is ∙ ap Some c.in-Some-Check.field-0-is)) done

pub returns-in-Some-Tree-clause-ended : goal.returns-in-Some-Tree-clause-ended
returns-in-Some-Tree-clause-ended g c = shows_tree (sym c.command_of.ensures.command ∙ c.in-Some-Tree.is ∙ ap Some c.in-Some-Tree.field-0-is) refl c.tree.ensures.left c.tree.ensures.ended

pub returns-in-Some-Tree-clause-completes : goal.returns-in-Some-Tree-clause-completes
returns-in-Some-Tree-clause-completes g c = λ none.
    let m = g.M.Nand in
    let source = source_seen g.S.Source c.args.src.now in
    let old = medium_seen m c.args.media in
    let new = medium_seen m c.tree.result.media in
    let done : CarriesOut (Some Tree) (path_word c.args.words.now) m.tells source old new c.tree.result.order.items c.tree.result.status = λ count starts.
    c.look_completes.ensures.trees source source (sink_seen g.K.Sink c.args.sink.now) (sink_seen g.K.Sink c.tree.new.sink) old new c.tree.result.order.items c.tree.result.syncs.items c.tree.result.status count c.tree.ensures.ended starts none in
    subst (λ (o : Option Command). CarriesOut o (path_word c.args.words.now) m.tells source old new c.tree.result.order.items c.tree.result.status) (sym (sym c.command_of.ensures.command ∙ c.in-Some-Tree.is ∙ ap Some c.in-Some-Tree.field-0-is)) done

pub returns-in-Some-Report-clause-ended : goal.returns-in-Some-Report-clause-ended
returns-in-Some-Report-clause-ended g c = reports (sym c.command_of.ensures.command ∙ c.in-Some-Report.is ∙ ap Some c.in-Some-Report.field-0-is) refl c.report.ensures.left c.report.ensures.ended

pub returns-in-Some-Report-clause-completes : goal.returns-in-Some-Report-clause-completes
returns-in-Some-Report-clause-completes g c = λ none.
    let m = g.M.Nand in
    let source = source_seen g.S.Source c.args.src.now in
    let old = medium_seen m c.args.media in
    let new = medium_seen m c.report.result.media in
    let done : CarriesOut (Some Report) (path_word c.args.words.now) m.tells source old new c.report.result.order.items c.report.result.status = λ count starts.
    c.look_completes-in-Some-Report.ensures.reports source source (sink_seen g.K.Sink c.args.sink.now) (sink_seen g.K.Sink c.report.new.sink) old new c.report.result.order.items c.report.result.syncs.items c.report.result.status count c.report.ensures.ended starts none in
    subst (λ (o : Option Command). CarriesOut o (path_word c.args.words.now) m.tells source old new c.report.result.order.items c.report.result.status) (sym (sym c.command_of.ensures.command ∙ c.in-Some-Report.is ∙ ap Some c.in-Some-Report.field-0-is)) done

pub returns-in-Some-Map-clause-ended : goal.returns-in-Some-Map-clause-ended
returns-in-Some-Map-clause-ended g c = maps (sym c.command_of.ensures.command ∙ c.in-Some-Map.is ∙ ap Some c.in-Some-Map.field-0-is) refl c.map.ensures.left c.map.ensures.ended

pub returns-in-Some-Map-clause-completes : goal.returns-in-Some-Map-clause-completes
returns-in-Some-Map-clause-completes g c = λ none.
    let m = g.M.Nand in
    let source = source_seen g.S.Source c.args.src.now in
    let old = medium_seen m c.args.media in
    let new = medium_seen m c.map.result.media in
    let done : CarriesOut (Some Map) (path_word c.args.words.now) m.tells source old new c.map.result.order.items c.map.result.status = λ count starts.
    c.map_completes.ensures map_text source source (sink_seen g.K.Sink c.args.sink.now) (sink_seen g.K.Sink c.map.new.sink) old new c.map.result.order.items c.map.result.syncs.items c.map.result.status count c.map.ensures.ended starts none in
    subst (λ (o : Option Command). CarriesOut o (path_word c.args.words.now) m.tells source old new c.map.result.order.items c.map.result.status) (sym (sym c.command_of.ensures.command ∙ c.in-Some-Map.is ∙ ap Some c.in-Some-Map.field-0-is)) done

pub returns-in-Some-MapSvg-clause-ended : goal.returns-in-Some-MapSvg-clause-ended
returns-in-Some-MapSvg-clause-ended g c = maps_as_picture (sym c.command_of.ensures.command ∙ c.in-Some-MapSvg.is ∙ ap Some c.in-Some-MapSvg.field-0-is) refl c.map_svg.ensures.left c.map_svg.ensures.ended

pub returns-in-Some-MapSvg-clause-completes : goal.returns-in-Some-MapSvg-clause-completes
returns-in-Some-MapSvg-clause-completes g c = λ none.
    let m = g.M.Nand in
    let source = source_seen g.S.Source c.args.src.now in
    let old = medium_seen m c.args.media in
    let new = medium_seen m c.map_svg.result.media in
    let done : CarriesOut (Some MapSvg) (path_word c.args.words.now) m.tells source old new c.map_svg.result.order.items c.map_svg.result.status = λ count starts.
    c.map_completes-in-Some-MapSvg.ensures map_svg source source (sink_seen g.K.Sink c.args.sink.now) (sink_seen g.K.Sink c.map_svg.new.sink) old new c.map_svg.result.order.items c.map_svg.result.syncs.items c.map_svg.result.status count c.map_svg.ensures.ended starts none in
    subst (λ (o : Option Command). CarriesOut o (path_word c.args.words.now) m.tells source old new c.map_svg.result.order.items c.map_svg.result.status) (sym (sym c.command_of.ensures.command ∙ c.in-Some-MapSvg.is ∙ ap Some c.in-Some-MapSvg.field-0-is)) done

pub returns-in-Some-Soak-clause-ended : goal.returns-in-Some-Soak-clause-ended
returns-in-Some-Soak-clause-ended g c =
    soaks c.in-Some-Soak.seed c.in-Some-Soak.count c.in-Some-Soak.workers c.soak.ensures.ended.0 (sym c.command_of.ensures.command ∙ c.in-Some-Soak.is ∙ ap Some c.in-Some-Soak.field-0-is) refl c.soak.ensures.ended.1 c.soak.ensures.ended.2

pub returns-in-Some-Soak-clause-completes : goal.returns-in-Some-Soak-clause-completes
returns-in-Some-Soak-clause-completes g c = λ none.
    let m = g.M.Nand in
    let source = source_seen g.S.Source c.args.src.now in
    let old = medium_seen m c.args.media in
    let new = medium_seen m c.soak.result.media in
    let done : CarriesOut (Some (Soak c.in-Some-Soak.seed c.in-Some-Soak.count c.in-Some-Soak.workers)) (path_word c.args.words.now) m.tells source old new c.soak.result.order.items c.soak.result.status = λ count starts last.
    lines_complete m.tells source source (sink_seen g.K.Sink c.args.sink.now) (sink_seen g.K.Sink c.soak.new.sink) old new c.soak.result.order.items c.soak.result.syncs.items c.soak.result.status count
    c.opening_completes-in-Some-Soak.ensures starts none last c.soak.ensures.ended.0 (Summarises m.tells) (leaves_within m c.args.media c.soak.result.media) c.soak.ensures.ended.2 in
    subst (λ (o : Option Command). CarriesOut o (path_word c.args.words.now) m.tells source old new c.soak.result.order.items c.soak.result.status) (sym (sym c.command_of.ensures.command ∙ c.in-Some-Soak.is ∙ ap Some c.in-Some-Soak.field-0-is)) done

pub returns-in-Some-Compare-clause-ended : goal.returns-in-Some-Compare-clause-ended
returns-in-Some-Compare-clause-ended g c =
    compares c.in-Some-Compare.seed c.in-Some-Compare.count c.in-Some-Compare.workers c.compare.ensures.ended.0
    (sym c.command_of.ensures.command ∙ c.in-Some-Compare.is ∙ ap Some c.in-Some-Compare.field-0-is) refl
    (same_leaves g.M.Nand c.args.media c.compare.result.media c.compare.ensures.media) c.compare.ensures.ended.1 c.compare.ensures.ended.2

pub returns-in-Some-Compare-clause-completes : goal.returns-in-Some-Compare-clause-completes
returns-in-Some-Compare-clause-completes g c = λ none.
    let m = g.M.Nand in
    let source = source_seen g.S.Source c.args.src.now in
    let old = medium_seen m c.args.media in
    let new = medium_seen m c.compare.result.media in
    let done : CarriesOut (Some (Compare c.in-Some-Compare.seed c.in-Some-Compare.count c.in-Some-Compare.workers)) (path_word c.args.words.now) m.tells source old new c.compare.result.order.items c.compare.result.status =
    c.compare_completes.ensures c.compare.ensures.ended.0 source source (sink_seen g.K.Sink c.args.sink.now) (sink_seen g.K.Sink c.compare.new.sink) old new c.compare.result.order.items c.compare.result.syncs.items c.compare.result.status c.compare.ensures.ended.2 none in
    subst (λ (o : Option Command). CarriesOut o (path_word c.args.words.now) m.tells source old new c.compare.result.order.items c.compare.result.status) (sym (sym c.command_of.ensures.command ∙ c.in-Some-Compare.is ∙ ap Some c.in-Some-Compare.field-0-is)) done

-- ---- no refusal of the tree

pub returns-in-Some-Compare-clause-refused : goal.returns-in-Some-Compare-clause-refused
returns-in-Some-Compare-clause-refused g c =
    subst (λ (o : Option Command). MayRefuse o c.compare.result.refused) (sym (sym c.command_of.ensures.command ∙ c.in-Some-Compare.is ∙ ap Some c.in-Some-Compare.field-0-is)) c.compare.ensures.refused

pub returns-in-None-clause-refused : goal.returns-in-None-clause-refused
returns-in-None-clause-refused g c = subst (λ (o : Option Command). MayRefuse o c.ended.result.refused) (sym (sym c.command_of.ensures.command ∙ c.in-None.is)) c.ended.ensures.refused

pub returns-in-Some-Format-clause-refused : goal.returns-in-Some-Format-clause-refused
returns-in-Some-Format-clause-refused g c =
    subst (λ (o : Option Command). MayRefuse o c.format.result.refused) (sym (sym c.command_of.ensures.command ∙ c.in-Some-Format.is ∙ ap Some c.in-Some-Format.field-0-is)) c.format.ensures.refused

pub returns-in-Some-Run-clause-refused : goal.returns-in-Some-Run-clause-refused
returns-in-Some-Run-clause-refused g c =
    subst (λ (o : Option Command). MayRefuse o c.run.result.refused) (sym (sym c.command_of.ensures.command ∙ c.in-Some-Run.is ∙ ap Some c.in-Some-Run.field-0-is)) c.run.ensures.refused

pub returns-in-Some-Check-clause-refused : goal.returns-in-Some-Check-clause-refused
returns-in-Some-Check-clause-refused g c =
    subst (λ (o : Option Command). MayRefuse o c.check.result.refused) (sym (sym c.command_of.ensures.command ∙ c.in-Some-Check.is ∙ ap Some c.in-Some-Check.field-0-is)) c.check.ensures.refused

pub returns-in-Some-Tree-clause-refused : goal.returns-in-Some-Tree-clause-refused
returns-in-Some-Tree-clause-refused g c =
    subst (λ (o : Option Command). MayRefuse o c.tree.result.refused) (sym (sym c.command_of.ensures.command ∙ c.in-Some-Tree.is ∙ ap Some c.in-Some-Tree.field-0-is)) c.tree.ensures.refused

pub returns-in-Some-Report-clause-refused : goal.returns-in-Some-Report-clause-refused
returns-in-Some-Report-clause-refused g c =
    subst (λ (o : Option Command). MayRefuse o c.report.result.refused) (sym (sym c.command_of.ensures.command ∙ c.in-Some-Report.is ∙ ap Some c.in-Some-Report.field-0-is)) c.report.ensures.refused

pub returns-in-Some-Map-clause-refused : goal.returns-in-Some-Map-clause-refused
returns-in-Some-Map-clause-refused g c =
    subst (λ (o : Option Command). MayRefuse o c.map.result.refused) (sym (sym c.command_of.ensures.command ∙ c.in-Some-Map.is ∙ ap Some c.in-Some-Map.field-0-is)) c.map.ensures.refused

pub returns-in-Some-Soak-clause-refused : goal.returns-in-Some-Soak-clause-refused
returns-in-Some-Soak-clause-refused g c =
    subst (λ (o : Option Command). MayRefuse o c.soak.result.refused) (sym (sym c.command_of.ensures.command ∙ c.in-Some-Soak.is ∙ ap Some c.in-Some-Soak.field-0-is)) c.soak.ensures.refused

-- ---- get

-- the path of the words, and the ending with it
of_path : (o : Option (List (List ℕ))) (P : List (List ℕ) → Type 0) → IsSome o → IfSome o P → (path : List (List ℕ)) × (o ≡ Some path) × P path
of_path (Some path) P some is = (path, refl, is)
of_path None P some is = absurd (cc some)

pub get_file-requires : goal.get_file-requires
get_file-requires g c = record { path = subst (λ (o : Option Command). IfSome o (HasPath c.args.words.now)) (c.in-Some-Get.is ∙ ap Some c.in-Some-Get.field-0-is) c.command_of.ensures.path }

pub returns-in-Some-Get-clause-ended : goal.returns-in-Some-Get-clause-ended
returns-in-Some-Get-clause-ended g c =
    let some = subst (λ (o : Option Command). IfSome o (HasPath c.args.words.now)) (c.in-Some-Get.is ∙ ap Some c.in-Some-Get.field-0-is) c.command_of.ensures.path in
    let e = of_path (path_word c.args.words.now) _ some c.get_file.ensures.ended in
    gets e.0 (sym c.command_of.ensures.command ∙ c.in-Some-Get.is ∙ ap Some c.in-Some-Get.field-0-is) e.1 refl c.get_file.ensures.left e.2

pub returns-in-Some-Get-clause-refused : goal.returns-in-Some-Get-clause-refused
returns-in-Some-Get-clause-refused g c =
    subst (λ (o : Option Command). MayRefuse o c.get_file.result.refused) (sym (sym c.command_of.ensures.command ∙ c.in-Some-Get.is ∙ ap Some c.in-Some-Get.field-0-is)) tt

pub returns-in-Some-Get-clause-completes : goal.returns-in-Some-Get-clause-completes
returns-in-Some-Get-clause-completes g c = λ none.
    let m = g.M.Nand in
    let source = source_seen g.S.Source c.args.src.now in
    let old = medium_seen m c.args.media in
    let new = medium_seen m c.get_file.result.media in
    let end = c.get_file.result in
    let done : CarriesOut (Some Get) (path_word c.args.words.now) m.tells source old new end.order.items end.status = λ names count is starts.
    c.get_completes.ensures names source source (sink_seen g.K.Sink c.args.sink.now) (sink_seen g.K.Sink c.get_file.new.sink) old new end.order.items end.syncs.items end.refused end.status count
    (subst (λ (o : Option (List (List ℕ))). IfSome o (λ path. GetEnds m.tells path (sink_seen g.K.Sink c.args.sink.now) (sink_seen g.K.Sink c.get_file.new.sink) old new end.order.items end.syncs.items end.refused end.status)) is c.get_file.ensures.ended)
    starts none in
    subst (λ (o : Option Command). CarriesOut o (path_word c.args.words.now) m.tells source old new end.order.items end.status) (sym (sym c.command_of.ensures.command ∙ c.in-Some-Get.is ∙ ap Some c.in-Some-Get.field-0-is)) done

-- ---- put

pub put_file-requires : goal.put_file-requires
put_file-requires g c = record { path = subst (λ (o : Option Command). IfSome o (HasPath c.args.words.now)) (c.in-Some-Put.is ∙ ap Some c.in-Some-Put.field-0-is) c.command_of.ensures.path }

pub returns-in-Some-Put-clause-ended : goal.returns-in-Some-Put-clause-ended
returns-in-Some-Put-clause-ended g c =
    let some = subst (λ (o : Option Command). IfSome o (HasPath c.args.words.now)) (c.in-Some-Put.is ∙ ap Some c.in-Some-Put.field-0-is) c.command_of.ensures.path in
    let e = of_path (path_word c.args.words.now) _ some c.put_file.ensures.ended in
    puts e.0 (sym c.command_of.ensures.command ∙ c.in-Some-Put.is ∙ ap Some c.in-Some-Put.field-0-is) e.1 e.2

pub returns-in-Some-Put-clause-refused : goal.returns-in-Some-Put-clause-refused
returns-in-Some-Put-clause-refused g c =
    subst (λ (o : Option Command). MayRefuse o c.put_file.result.refused) (sym (sym c.command_of.ensures.command ∙ c.in-Some-Put.is ∙ ap Some c.in-Some-Put.field-0-is)) tt

pub returns-in-Some-Put-clause-completes : goal.returns-in-Some-Put-clause-completes
returns-in-Some-Put-clause-completes g c = λ none.
    let m = g.M.Nand in
    let source = source_seen g.S.Source c.args.src.now in
    let source' = source_seen g.S.Source c.put_file.new.src in
    let sink = sink_seen g.K.Sink c.args.sink.now in
    let sink' = sink_seen g.K.Sink c.put_file.new.sink in
    let old = medium_seen m c.args.media in
    let new = medium_seen m c.put_file.result.media in
    let end = c.put_file.result in
    let some = subst (λ (o : Option Command). IfSome o (HasPath c.args.words.now)) (c.in-Some-Put.is ∙ ap Some c.in-Some-Put.field-0-is) c.command_of.ensures.path in
    let e = of_path (path_word c.args.words.now) _ some c.put_file.ensures.ended in
    let done : CarriesOut (Some Put) (path_word c.args.words.now) m.tells source old new end.order.items end.status = λ count starts last.
    c.put_completes.ensures c.args.media end.media e.0 source source' sink sink' old new end.order.items end.syncs.items end.refused end.status count
    e.2 starts none last in
    subst (λ (o : Option Command). CarriesOut o (path_word c.args.words.now) m.tells source old new end.order.items end.status) (sym (sym c.command_of.ensures.command ∙ c.in-Some-Put.is ∙ ap Some c.in-Some-Put.field-0-is)) done
