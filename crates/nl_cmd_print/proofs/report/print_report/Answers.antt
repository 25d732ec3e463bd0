use Rattle.std.proofs.Common.{◌≡◌, ◌∙◌, sym}
use Rattle.nl_print.specs.Texts.{report_text}
use Rattle.nl_cmd_print.proofs.report.print_report.Goals as goal

pub returns-clause-reports : goal.returns-clause-reports
returns-clause-reports g c =
    let G = g.D.Counts in
    let v = c.args.core.now in
    let taken = c.count_taken-taken.result in
    let shape : v.shape ≡ G.shape v.device = c.requires.core.shape in
    record {
      text = report_text v.shape v.count c.from.result taken.nodes taken.meta c.pairs.result c.args.least c.args.greatest c.next_stamp.result;
      taken = c.report_lines.ensures.text;
      of_tree = λ page_of_stamp tree runs. (
          let charged = c.count_taken-taken.ensures page_of_stamp tree runs in
          let pages = c.from.ensures ∙ c.requires.files ∙ sym (c.files_are_charged.ensures v page_of_stamp tree runs) in
          λ j. report_text (shape j) v.count (pages j) (charged.nodes j) (charged.meta j) (c.pairs.ensures j) c.args.least c.args.greatest (c.next_stamp.ensures j)
          );
    }
