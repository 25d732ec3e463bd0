use Rattle.std.proofs.Common.{ap, refl, subst, arith, Result, Ok, Err}
use Rattle.std.specs.Prelude.{OnErr}
use Rattle.std.proofs.lemmas.Result.{IfOk-weaker}
use Rattle.nl_cmd_put.specs.Putting.{all_read, too_long}
use Rattle.nl_cmd_put.proofs.Printing.{prints_none}
use Rattle.nl_cmd_put.proofs.putting.put.Goals as goal

-- the bytes were read, and how that ended
pub returns-in-All-clause-ended : goal.returns-in-All-clause-ended
returns-in-All-clause-ended g c =
    let read = c.in-All.ensures.bytes in
    IfOk-weaker c.put_bytes.result _ _ (λ done e. all_read c.in-All.bytes (record { read = read.1; none_left = read.2 }) e) c.put_bytes.ensures.ended

at_err : {A E : Type 0} (r : Result A E) (P : Type 0) → P → OnErr r P
at_err (Ok x) P p = tt
at_err (Err e) P p = p

pub returns-in-All-clause-read : goal.returns-in-All-clause-read
returns-in-All-clause-read g c =
    let read = c.in-All.ensures.bytes in
    at_err c.put_bytes.result _ (c.in-All.bytes, record { read = read.1; none_left = read.2 })

pub returns-in-TooLong-clause-ended : goal.returns-in-TooLong-clause-ended
returns-in-TooLong-clause-ended g c =
    let m = g.M.Nand in
    let k = g.K.Sink in
    let read = c.in-TooLong.ensures.bytes in
    let end = c.refused_by in
    let same = end.ensures.media in
    too_long read.0 (let l = read.1 in omega (arith, l)) read.2
    (record {
      status_is = end.ensures.status;
      refused_is = end.ensures.refused;
      leaves = λ told t i was. subst (λ (x : g.row.M.Denot). m.left x t i) same was;
      no_text = refl;
      before = record {
        prints = prints_none (k.taken c.args.sink.now) (k.faults c.args.sink.now);
        untouched = record { same_contents = λ told. ap m.contents same; same_clock = ap m.clock same; same_write_faults = ap m.write_faults same };
        no_lines = end.ensures.order;
        no_syncs = end.ensures.syncs;
      };
    })
