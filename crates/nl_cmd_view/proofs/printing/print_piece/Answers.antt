use Rattle.std.proofs.Common.{◌≡◌, ◌∙◌, [], Some, arith, refl, sym, subst}
use Rattle.nl_calls_read.specs.Due.{AnswersStep}
use Rattle.nl_calls_read.specs.declared.answer.Looked.TheVariants as looked
use Rattle.nl_calls_read.specs.declared.answer.Looked.{Looked}
use Rattle.nl_tree.specs.declared.call.Call.{Call}
use Rattle.nl_tree.specs.declared.reply.Reply.TheVariants.{Content}
use Rattle.nl_cmd_view.specs.Pieces.{read_from, read_path}
use Rattle.nl_cmd_view.specs.declared.printing.Got.{Got}
use Rattle.nl_cmd_view.specs.declared.printing.Got.TheVariants as got
use Rattle.nl_cmd_view.proofs.Answered.{content_goes_on, ended_piece, ended_reads, not_not_taken, nothing_taken, piece_of_file, piece_printed, refused_first, taken_not_refused, taken_reads}
use Rattle.nl_cmd_view.proofs.printing.print_piece.Goals as goal

no_fault : (answer : Looked) → answer ≡ looked.Replied Content → answer ≡ looked.Fault → ⊥
no_fault answer is f = cc (is, f)

some_is : (x y : Got) → Some x ≡ Some y → x ≡ y
some_is x y e = cc e

pub returns-in-None : goal.returns-in-None
returns-in-None g c =
    let G = g.D.Counts in
    let call = c.args.call.now in
    let look = c.look_call-answer in
    let print = c.print_bytes in
    let content = content_goes_on look.result c.is_first.result (sym c.ends_at.ensures ∙ c.in-None.is) in
    let answers = subst (λ (x : Call). AnswersStep G c.args.core.now x look.new.out look.result) c.requires.call look.ensures.answer in
    let still = look.ensures.faults.stays tt (no_fault look.result content) in
    record {
      core = look.ensures.core;
      same = look.ensures.same;
      prints = record {
        piece = look.new.out;
        taken = print.ensures.text;
        of_tree = λ tells page_of_stamp tree runs. piece_printed print.result tree (read_path call) (read_from call) look.new.out print.ensures.piece
            (piece_of_file G c.args.core.now (read_path call) (read_from call) look.new.out look.result answers tells page_of_stamp tree runs content);
      };
      reads = taken_reads G c.args.core.now.device look.new.core.device print.result _ print.ensures.piece still;
      refused = taken_not_refused print.result _ _ print.ensures.piece;
      never_falls = print.ensures.never_falls;
      cause = print.ensures.cause;
    }

pub returns-in-Some : goal.returns-in-Some
returns-in-Some g c =
    let G = g.D.Counts in
    let call = c.args.call.now in
    let look = c.look_call-answer in
    let first = c.is_first.result in
    let end = c.in-Some.got in
    let ends = sym c.ends_at.ensures ∙ c.in-Some.is in
    let answers = subst (λ (x : Call). AnswersStep G c.args.core.now x look.new.out look.result) c.requires.call look.ensures.answer in
    record {
      core = look.ensures.core;
      same = look.ensures.same;
      prints = record {
        piece = [];
        taken = nothing_taken look.result first end (g.K.Sink.taken c.args.sink.now) ends;
        of_tree = λ tells page_of_stamp tree runs.
            ended_piece G c.args.core.now (read_path call) (read_from call) look.new.out look.result answers tells page_of_stamp tree runs first c.is_first.ensures look.ensures.told end ends;
      };
      reads = ended_reads G c.args.core.now.device look.new.core.device look.result first end ends look.ensures.faults;
      refused = refused_first look.result first end (read_from call) _ c.is_first.ensures refl ends;
      never_falls = omega arith;
      cause = λ is. absurd (not_not_taken look.result first end ends (some_is end got.NotTaken is));
    }
