use Rattle.std.proofs.Common.{◌∙◌, ℕ, ap, refl, sym, subst, codes}
use Rattle.nl_cmd_words.specs.Ends.{no_memory}
use Rattle.nl_spec_headline.specs.Status.{DoneStatus, RunFailed}
use Rattle.nl_spec_headline.specs.Streams.{medium, stream}
use Rattle.nl_top.specs.Leaving.{leaves_within}
use Rattle.nl_top.specs.RunEnds.{RunEnds, not_run}
use Rattle.nl_top.specs.Telling.{PrintsCourse, told_text}
use Rattle.nl_top.proofs.Left.{same_leaves}
use Rattle.nl_top.proofs.Told.{room_for, was_told}
use Rattle.nl_top.proofs.running.run_on.Goals as goal

-- no memory for the tables
pub returns-in_default-clause-ended : goal.returns-in_default-clause-ended
returns-in_default-clause-ended g c =
    let m = g.M.Nand in
    not_run (codes "memory\n") (no_memory c.ended.ensures.status refl) (same_leaves m c.args.media c.ended.result.media c.ended.ensures.media)
    (record {
      prints = c.ended.ensures.prints;
      untouched = record {
        same_contents = λ told. ap m.contents c.ended.ensures.media;
        same_clock = ap m.clock c.ended.ensures.media;
        same_write_faults = ap m.write_faults c.ended.ensures.media;
      };
      no_lines = c.ended.ensures.order;
      no_syncs = c.ended.ensures.syncs;
    })

-- the volume was not opened
pub returns-in-Err-clause-ended : goal.returns-in-Err-clause-ended
returns-in-Err-clause-ended g c =
    let m = g.M.Nand in
    let why = c.refused.ensures.ended c.args.media c.in-Err.ensures.why in
    let left = c.in-Err.ensures.left in
    not_run why.0 why.1 (λ told moment image was. left.no_more_left told moment image (subst (λ (x : g.row.M.Denot). m.left x moment image) c.refused.ensures.media was))
    (record {
      prints = why.2;
      untouched = record {
        same_contents = λ told. ap m.contents c.refused.ensures.media ∙ left.same_contents told;
        same_clock = ap m.clock c.refused.ensures.media ∙ left.same_clock;
        same_write_faults = ap m.write_faults c.refused.ensures.media ∙ left.same_write_faults;
      };
      no_lines = c.refused.ensures.order;
      no_syncs = c.refused.ensures.syncs;
    })

pub tell-requires : goal.tell-requires
tell-requires g c =
    let e = c.in-Ok-run_lines.ensures in
    let old = c.in-Ok.tables in
    let new = c.run_lines.new.tables in
    record {
      tables = room_for c.args.lines.now new.answers.rows old.answers old.order new.order old.syncs new.syncs e.rows c.in-Ok.ensures c.run_lines.ensures.lists.0 c.run_lines.ensures.lists.1;
    }

-- the lines were run, and are told
pub returns-in-Ok-run_lines-clause-ended : goal.returns-in-Ok-run_lines-clause-ended
returns-in-Ok-run_lines-clause-ended g c =
    let m = g.M.Nand in
    let k = g.K.Sink in
    let lines = c.args.lines.now in
    let media = c.args.media in
    let ran = c.in-Ok-run_lines.ran in
    let end = ran.media in
    let before = c.faults_of-before.ensures in
    let rows = c.run_lines.new.tables.answers.rows in
    let what = c.args.told in
    let r = c.in-Ok-run_lines.ensures.ran in
    let start = medium (m.geometry media) (m.contents media) (m.clock media) (m.read_faults media) (m.write_faults media) in
    let last = medium (m.geometry end) (m.contents end) (m.clock end) (m.read_faults end) (m.write_faults end) in
    let old = stream (k.taken c.args.sink.now) (k.faults c.args.sink.now) in
    let new = stream (k.taken c.tell.new.sink) (k.faults c.tell.new.sink) in
    let done = subst (λ (x : ℕ × ℕ). DoneStatus c.tell.result.status (RunFailed c.tell.result.order.items (record { clock = m.clock media; read_faults = x.0; write_faults = x.1 }) last.counts ran.lost ran.worn) old new (told_text what ran.count ran.charges rows))
    (λ i. (before.0 i, before.1 i)) c.tell.ensures.status in
    let told = was_told m.tells lines (leaves_within m media end) old new start last rows ran.lost ran.worn ran.charges r.0
    ran.count c.tell.result.status r.2 r.1 what c.placed_rows_are_a_run.ensures c.tell.result.order.items c.tell.result.syncs.items c.tell.ensures.order c.tell.ensures.syncs c.tell.ensures.prints done in
    subst (λ (x : g.row.M.Denot). RunEnds m.tells lines (PrintsCourse what m.tells) (leaves_within m media x) old new start
    (medium (m.geometry x) (m.contents x) (m.clock x) (m.read_faults x) (m.write_faults x)) c.tell.result.order.items c.tell.result.syncs.items c.tell.result.status)
    (sym c.tell.ensures.media) told
