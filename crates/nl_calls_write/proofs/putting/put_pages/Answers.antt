use Rattle.std.proofs.Common.{◌+◌, ◌-◌, ◌*◌, ◌/◌, ◌^◌, Some, arith}
use Rattle.nl_calls_bytes.specs.Ranges.{from_of, len_of, path_of}
use Rattle.nl_calls_bytes.proofs.Places.{few_left, few_turns, in_range, index_in_range}
use Rattle.nl_calls_steps.proofs.Early.{within-early}
use Rattle.nl_calls_steps.proofs.Going.{file_on, leads_on}
use Rattle.nl_calls_write.proofs.OnePage.{flying_more, others_few, puts_more, puts_then}
use Rattle.nl_calls_bytes.specs.Contents.{count_indexes}
use Rattle.nl_core.proofs.LastCommits.{room_more}
use Rattle.nl_calls_write.proofs.Uncommitted.{end_counted, index_counted, one_more}
use Rattle.nl_calls_write.proofs.putting.put_pages.Goals as goal

pub put_index-requires-clause-written : goal.put_index-requires-clause-written
put_index-requires-clause-written g c =
    let from = c.requires.within in
    let test = c.indexes-test.true in
    let offset = c.offset_of-2.ensures in
    let len = c.length_of.ensures in
    in_range c.args.call.now c.indexes.index c.requires.few.0 c.indexes.invariant.from (omega (arith, from, test, offset, len))

pub put_index-requires-clause-can : goal.put_index-requires-clause-can
put_index-requires-clause-can g c =
    let G = g.D.Counts in
    let u = c.args.core.now in
    let v = c.indexes.core in
    let goes = c.indexes.invariant.puts.goes in
    let most = 2 ^ 30 * (c.indexes.index - from_of c.args.call.now / 4096) in
    let r = c.requires.can in
    record {
      writes = c.if-core-ne0.false;
      known = r.known;
      some = r.some;
      has_line = c.indexes.invariant.line;
      writing = r.writing;
      leads = leads_on G most u v goes (path_of c.args.call.now) c.args.ino r.leads;
      file = file_on G most u v goes c.args.ino r.file;
    }

pub put_index-requires-clause-others : goal.put_index-requires-clause-others
put_index-requires-clause-others g c = others_few c.args.worker c.args.core.now.flight c.indexes.core.flight c.indexes.invariant.puts.others c.requires.others

pub returns-in-Err-clause-puts : goal.returns-in-Err-clause-puts
returns-in-Err-clause-puts g c =
    let G = g.D.Counts in
    let few = few_left (from_of c.args.call.now) (len_of c.args.call.now) c.indexes.index c.requires.few.0 c.requires.few.1 (omega arith) in
    puts_then G (2 ^ 30 * (c.indexes.index - from_of c.args.call.now / 4096)) (2 ^ 30) (17 * 2 ^ 30) c.args.worker c.args.call.now c.args.core.now c.indexes.core c.put_index.new.core (omega (arith, few)) c.indexes.invariant.puts c.put_index.ensures.puts

pub returns-in-Err-clause-early : goal.returns-in-Err-clause-early
returns-in-Err-clause-early g c =
    let G = g.D.Counts in
    let goes = c.indexes.invariant.puts.goes in
    within-early G c.args.core.now c.indexes.core c.put_index.new.core c.put_index.new.core (Some c.in-Err.stop) goes.reads goes.writes (omega arith) (omega arith) c.in-Err.ensures.early

pub indexes-preserved : goal.indexes-preserved
indexes-preserved g c =
    let G = g.D.Counts in
    let i = c.indexes.invariant in
    let h = c.in-Ok.ensures.has in
    let from = i.from in
    record {
      core = c.put_index.ensures.core;
      from = omega (arith, from);
      puts = puts_then G (2 ^ 30 * (c.indexes.index - from_of c.args.call.now / 4096)) (2 ^ 30) (2 ^ 30 * (c.indexes.index + 1 - from_of c.args.call.now / 4096)) c.args.worker c.args.call.now c.args.core.now c.indexes.core c.put_index.new.core
          (omega (arith, from)) i.puts c.put_index.ensures.puts;
      pages = h.pages;
      line = h.has_line;
      has = flying_more c.args.ino c.args.generation c.args.worker c.args.line c.args.call.now (from_of c.args.call.now / 4096) c.indexes.index c.indexes.core c.put_index.new.core h i.has;
      at_once = λ room. one_more G (count_indexes (from_of c.args.call.now) (len_of c.args.call.now)) (c.indexes.index - from_of c.args.call.now / 4096) c.args.core.now c.indexes.core c.put_index.new.core
          (index_counted (from_of c.args.call.now) (len_of c.args.call.now) c.indexes.index from (let test = c.indexes-test.true in let offset = c.offset_of-2.ensures in let len = c.length_of.ensures in let some = c.requires.few.0 in omega (arith, test, offset, len, some)))
          i.at_once c.put_index.ensures.at_once room (c.indexes.index + 1 - from_of c.args.call.now / 4096) (omega (arith, from));
    }

pub returns-clause-puts : goal.returns-clause-puts
returns-clause-puts g c =
    let G = g.D.Counts in
    let end = c.indexes.auto.index-end (omega arith) in
    let few = few_turns (from_of c.args.call.now) (len_of c.args.call.now) c.indexes.index c.requires.few.0 c.requires.few.1 (omega (arith, end)) in
    puts_more G (2 ^ 30 * (c.indexes.index - from_of c.args.call.now / 4096)) (17 * 2 ^ 30) c.args.worker c.args.call.now c.args.core.now c.indexes.core (omega (arith, few)) c.indexes.invariant.puts

pub returns-clause-pages : goal.returns-clause-pages
returns-clause-pages g c = (
  c.indexes.invariant.pages,
  λ i is.
      let r = index_in_range c.args.call.now i is in
      let high = r.1 in
      c.indexes.invariant.has i r.0 (omega (arith, high)),
)

pub returns-in-Err-clause-at_once : goal.returns-in-Err-clause-at_once
returns-in-Err-clause-at_once g c room =
    let G = g.D.Counts in
    let i = c.indexes.invariant in
    let from = i.from in
    let test = c.indexes-test.true in
    let offset = c.offset_of-2.ensures in
    let len = c.length_of.ensures in
    let some = c.requires.few.0 in
    let less = index_counted (from_of c.args.call.now) (len_of c.args.call.now) c.indexes.index from (omega (arith, test, offset, len, some)) in
    one_more G (count_indexes (from_of c.args.call.now) (len_of c.args.call.now)) (c.indexes.index - from_of c.args.call.now / 4096) c.args.core.now c.indexes.core c.put_index.new.core
    less i.at_once c.put_index.ensures.at_once room (count_indexes (from_of c.args.call.now) (len_of c.args.call.now)) less

pub returns-then-core-ne0-clause-at_once : goal.returns-then-core-ne0-clause-at_once
returns-then-core-ne0-clause-at_once g c room =
    let G = g.D.Counts in
    let i = c.indexes.invariant in
    let test = c.indexes-test.true in
    let offset = c.offset_of-2.ensures in
    let len = c.length_of.ensures in
    let some = c.requires.few.0 in
    room_more G (c.indexes.index - from_of c.args.call.now / 4096) (count_indexes (from_of c.args.call.now) (len_of c.args.call.now)) c.args.core.now c.indexes.core
    (end_counted (from_of c.args.call.now) (len_of c.args.call.now) c.indexes.index (omega (arith, test, offset, len, some))) (i.at_once room)

pub returns-clause-at_once : goal.returns-clause-at_once
returns-clause-at_once g c room =
    let G = g.D.Counts in
    let end = c.indexes.auto.index-end (omega arith) in
    room_more G (c.indexes.index - from_of c.args.call.now / 4096) (count_indexes (from_of c.args.call.now) (len_of c.args.call.now)) c.args.core.now c.indexes.core
    (end_counted (from_of c.args.call.now) (len_of c.args.call.now) c.indexes.index (omega (arith, end))) (c.indexes.invariant.at_once room)
