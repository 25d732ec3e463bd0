use Rattle.std.proofs.Common.{◌*◌, ◌^◌, ◌∙◌, arith}
use Rattle.nl_calls_write.specs.Calls.{ended_as}
use Rattle.nl_calls_bytes.specs.Ranges.{path_of}
use Rattle.nl_calls_write.proofs.Carried.{line_put, written_put}
use Rattle.nl_calls_write.proofs.Ends.{ends_after}
use Rattle.nl_calls_steps.proofs.Going.{file_on, files_on, generation_on, leads_on}
use Rattle.nl_calls_write.proofs.Parts.{part_early, part_stopped, put_early, put_goes, put_others}
use Rattle.nl_calls_write.proofs.Uncommitted.{put_commit, put_then}
use Rattle.nl_calls_write.proofs.writing.write_pages.Goals as goal

pub keep_line-requires-clause-file : goal.keep_line-requires-clause-file
keep_line-requires-clause-file g c = (c.requires.file.0, c.requires.file.1)

pub put_pages-requires : goal.put_pages-requires
put_pages-requires g c =
    let G = g.D.Counts in
    let u = c.args.core.now in
    let v = c.keep_line.new.core in
    let k = c.keep_line.ensures.keeps in
    let r = c.requires in
    let most = k.goes.stamps.at_most in
    let low = r.stamp in
    record {
      core = c.keep_line.ensures.core;
      stamp = omega (arith, most, low);
      can = record {
        writes = k.stopped ∙ r.can.writes;
        known = r.can.known;
        some = r.can.some;
        has_line = k.has_line;
        writing = r.write.writing;
        leads = leads_on G 0 u v k.goes (path_of c.args.call.now) c.args.ino r.leads;
        file = file_on G 0 u v k.goes c.args.ino (r.file.0, r.file.1);
      };
      few = (r.write.some, r.write.few);
      within = r.write.within;
      pages = k.pages;
      others = k.few;
    }

pub returns-then-core-ne0-clause-ends : goal.returns-then-core-ne0-clause-ends
returns-then-core-ne0-clause-ends g c =
    let G = g.D.Counts in
    let u = c.args.core.now in
    let v = c.keep_line.new.core in
    let w = c.put_pages.new.core in
    let k = c.keep_line.ensures.keeps in
    let p = c.put_pages.ensures.puts in
    part_stopped G (17 * 2 ^ 30) c.args.worker c.args.call.now u w (put_goes G (17 * 2 ^ 30) c.args.ino c.args.generation c.args.worker c.args.line c.args.call.now u v w k p)
    (put_others G (17 * 2 ^ 30) c.args.ino c.args.generation c.args.worker c.args.line c.args.call.now u v w k p) (2 ^ 36) (omega arith) c.requires.can.writes c.if-core-ne0.true

pub install_pages-requires : goal.install_pages-requires
install_pages-requires g c =
    let G = g.D.Counts in
    let u = c.args.core.now in
    let v = c.keep_line.new.core in
    let w = c.put_pages.new.core in
    let k = c.keep_line.ensures.keeps in
    let p = c.put_pages.ensures.puts in
    let r = c.requires in
    let all = put_goes G (17 * 2 ^ 30) c.args.ino c.args.generation c.args.worker c.args.line c.args.call.now u v w k p in
    let most = all.stamps.at_most in
    let low = r.stamp in
    record {
      core = c.put_pages.ensures.core;
      writes = c.if-core-ne0.false;
      stamp = omega (arith, most, low);
      known = r.can.known;
      write = r.write;
      leads = leads_on G (17 * 2 ^ 30) u w all (path_of c.args.call.now) c.args.ino r.leads;
      line = line_put G (17 * 2 ^ 30) c.args.worker c.args.call.now v w p c.args.ino c.args.generation (generation_on G 0 u v k.goes c.args.ino c.args.generation r.file) c.in-Ok.ensures.pages.0;
      files = files_on G (17 * 2 ^ 30) u w all c.args.files r.can.files_are;
      all = c.in-Ok.ensures.pages.1;
      written = written_put G (17 * 2 ^ 30) c.args.worker c.args.call.now v w p k.written;
    }

pub returns-else-core-ne0-clause-ends : goal.returns-else-core-ne0-clause-ends
returns-else-core-ne0-clause-ends g c =
    let G = g.D.Counts in
    let u = c.args.core.now in
    let v = c.keep_line.new.core in
    let w = c.put_pages.new.core in
    let k = c.keep_line.ensures.keeps in
    let p = c.put_pages.ensures.puts in
    ends_after G (17 * 2 ^ 30) c.args.worker c.args.call.now u w (put_goes G (17 * 2 ^ 30) c.args.ino c.args.generation c.args.worker c.args.line c.args.call.now u v w k p)
    (put_others G (17 * 2 ^ 30) c.args.ino c.args.generation c.args.worker c.args.line c.args.call.now u v w k p) c.install_pages.new.core 512 (2 ^ 36) (omega arith) (ended_as c.install_pages.result) c.install_pages.ensures.ends

pub returns-in-Err-clause-ends : goal.returns-in-Err-clause-ends
returns-in-Err-clause-ends g c =
    let G = g.D.Counts in
    let u = c.args.core.now in
    let v = c.keep_line.new.core in
    let w = c.put_pages.new.core in
    let k = c.keep_line.ensures.keeps in
    let p = c.put_pages.ensures.puts in
    part_early G (17 * 2 ^ 30) c.args.worker c.args.call.now u w (put_goes G (17 * 2 ^ 30) c.args.ino c.args.generation c.args.worker c.args.line c.args.call.now u v w k p)
    (put_others G (17 * 2 ^ 30) c.args.ino c.args.generation c.args.worker c.args.line c.args.call.now u v w k p) (2 ^ 36) (omega arith) c.in-Err.stop
    (put_early G (17 * 2 ^ 30) c.args.ino c.args.generation c.args.worker c.args.line c.args.call.now u v w k p c.in-Err.stop c.in-Err.ensures.early)

pub returns-then-core-ne0-clause-commit : goal.returns-then-core-ne0-clause-commit
returns-then-core-ne0-clause-commit g c = put_commit g.D.Counts c.args.call.now c.args.core.now c.keep_line.new.core c.put_pages.new.core c.keep_line.ensures.room c.put_pages.ensures.at_once

pub returns-else-core-ne0-clause-commit : goal.returns-else-core-ne0-clause-commit
returns-else-core-ne0-clause-commit g c has = put_then g.D.Counts c.args.call.now c.args.core.now c.keep_line.new.core c.put_pages.new.core c.keep_line.ensures.room c.put_pages.ensures.at_once has c.install_pages.new.core c.install_pages.ensures.commit

pub returns-in-Err-clause-commit : goal.returns-in-Err-clause-commit
returns-in-Err-clause-commit g c = put_commit g.D.Counts c.args.call.now c.args.core.now c.keep_line.new.core c.put_pages.new.core c.keep_line.ensures.room c.put_pages.ensures.at_once
