use Rattle.std.proofs.Common.{◌+◌, ◌^◌, inr, Some, arith}
use Rattle.std.proofs.lemmas.Result.{IfOk-weaker, err_from_is_err_and}
use Rattle.nl_meta_running.specs.Reading.{stop_of}
use Rattle.nl_core.specs.Goes.{PreservesVolume}
use Rattle.nl_core.proofs.Onward.{goes_more, goes_then}
use Rattle.nl_calls_truncate.specs.Truncating.{CutsFile, IsCutInTree, IsUncut}
use Rattle.nl_calls_truncate.proofs.CutPages.{can_cut_on}
use Rattle.nl_calls_truncate.proofs.CutReads.{err_weaker, others_either, some_on}
use Rattle.nl_calls_steps.proofs.Early.{within-early}
use Rattle.nl_calls_steps.proofs.Going.{files_on, others_same, others_then}
use Rattle.nl_calls_truncate.proofs.Uncommitted.{cut_commit, made_commit, put_commit}
use Rattle.nl_calls_truncate.proofs.truncating.truncate_file.Goals as goal

pub returns-in_err-put_cut-clause-uncut : goal.returns-in_err-put_cut-clause-uncut
returns-in_err-put_cut-clause-uncut g c =
    let G = g.D.Counts in
    let p = err_from_is_err_and c.from_residual.result c.from_residual.ensures.1 in
    rw p.1 (goes_more G (2 ^ 30) (2 ^ 31) c.args.core.now c.put_cut.new.core (omega arith) c.put_cut.ensures.goes)

pub returns-then-core-ne0-clause-uncut : goal.returns-then-core-ne0-clause-uncut
returns-then-core-ne0-clause-uncut g c =
    goes_more g.D.Counts (2 ^ 30) (2 ^ 31) c.args.core.now c.put_cut.new.core (omega arith) c.put_cut.ensures.goes

pub returns-then-core-ne0-clause-early : goal.returns-then-core-ne0-clause-early
returns-then-core-ne0-clause-early g c = inr (c.put_cut.ensures.goes.stops.some c.requires.can.writes c.if-core-ne0.true).0

pub make_room-requires-clause-stamp : goal.make_room-requires-clause-stamp
make_room-requires-clause-stamp g c =
    let most = c.put_cut.ensures.goes.stamps.at_most in
    let low = c.requires.stamp in
    omega (arith, most, low)

pub returns-in_err-make_room-clause-uncut : goal.returns-in_err-make_room-clause-uncut
returns-in_err-make_room-clause-uncut g c =
    let G = g.D.Counts in
    let u = c.args.core.now in
    let v = c.put_cut.new.core in
    let w = c.make_room.new.core in
    let p = err_from_is_err_and c.from_residual-in_err-make_room.result c.from_residual-in_err-make_room.ensures.1 in
    rw p.1 (goes_more G (2 ^ 30 + 512) (2 ^ 31) u w (omega arith) (goes_then G u v w (2 ^ 30) 512 c.put_cut.ensures.goes c.make_room.ensures.goes))

pub returns-in_err-make_room-clause-others : goal.returns-in_err-make_room-clause-others
returns-in_err-make_room-clause-others g c =
    let u = c.args.core.now in
    let v = c.put_cut.new.core in
    let w = c.make_room.new.core in
    others_then c.args.worker u.flight v.flight w.flight c.put_cut.ensures.others (others_same c.args.worker v.flight w.flight c.make_room.ensures.flight)

pub returns-in_err-make_room-clause-early : goal.returns-in_err-make_room-clause-early
returns-in_err-make_room-clause-early g c =
    let G = g.D.Counts in
    let u = c.args.core.now in
    let v = c.put_cut.new.core in
    let w = c.make_room.new.core in
    let goes = c.put_cut.ensures.goes in
    let p = err_from_is_err_and c.from_residual-in_err-make_room.result c.from_residual-in_err-make_room.ensures.1 in
    rw (p.1, p.2) (within-early G u v w w (Some c.in_err-make_room.field-0.0) goes.reads goes.writes (omega arith) (omega arith) c.in_err-make_room.ensures.early)

pub cut_now-requires-clause-ready : goal.cut_now-requires-clause-ready
cut_now-requires-clause-ready g c =
    let G = g.D.Counts in
    let u = c.args.core.now in
    let v = c.put_cut.new.core in
    let w = c.make_room.new.core in
    let room = c.make_room.ensures in
    can_cut_on G v w 512 room.goes c.put_cut.ensures.core room.core c.device_stands.ensures.names room.flight c.args.worker c.args.ino c.args.size c.requires.can.known (some_on G u v (2 ^ 30) c.put_cut.ensures.goes c.requires.can.runs)
    c.in_ok-put_cut.ensures.ready

pub cut_now-requires-clause-files : goal.cut_now-requires-clause-files
cut_now-requires-clause-files g c =
    let G = g.D.Counts in
    let u = c.args.core.now in
    let v = c.put_cut.new.core in
    let w = c.make_room.new.core in
    files_on G (2 ^ 30 + 512) u w (goes_then G u v w (2 ^ 30) 512 c.put_cut.ensures.goes c.make_room.ensures.goes) c.args.files c.requires.files

pub returns-clause-cut : goal.returns-clause-cut
returns-clause-cut g c =
    let G = g.D.Counts in
    let u = c.args.core.now in
    let v = c.put_cut.new.core in
    let w = c.make_room.new.core in
    let x = c.cut_now.new.core in
    let room = c.make_room.ensures in
    IfOk-weaker c.cut_now.result (λ files. IsCutInTree G c.args.worker c.args.ino c.args.size w x) (λ files. CutsFile G (2 ^ 31) c.args.worker c.args.ino c.args.size u x)
    (λ files cut. record {
      between = w;
      core = room.core;
      goes = goes_more G (2 ^ 30 + 512) (2 ^ 31) u w (omega arith) (goes_then G u v w (2 ^ 30) 512 c.put_cut.ensures.goes room.goes);
      is_cut = cut;
    })
    c.cut_now.ensures.cut

pub returns-clause-uncut : goal.returns-clause-uncut
returns-clause-uncut g c =
    let G = g.D.Counts in
    let u = c.args.core.now in
    let v = c.put_cut.new.core in
    let w = c.make_room.new.core in
    let x = c.cut_now.new.core in
    err_weaker c.cut_now.result (IsUncut G w x) (PreservesVolume G (2 ^ 31) u x)
    (λ uncut. goes_more G (2 ^ 30 + 512) (2 ^ 31) u x (omega arith) (goes_then G u w x (2 ^ 30 + 512) 0 (goes_then G u v w (2 ^ 30) 512 c.put_cut.ensures.goes c.make_room.ensures.goes) uncut.goes)) c.cut_now.ensures.uncut

pub returns-clause-others : goal.returns-clause-others
returns-clause-others g c =
    let G = g.D.Counts in
    let worker = c.args.worker in
    let u = c.args.core.now in
    let v = c.put_cut.new.core in
    let w = c.make_room.new.core in
    let x = c.cut_now.new.core in
    others_then worker u.flight w.flight x.flight
    (others_then worker u.flight v.flight w.flight c.put_cut.ensures.others (others_same worker v.flight w.flight c.make_room.ensures.flight))
    (others_either G worker c.args.ino c.args.size w x c.cut_now.result c.cut_now.ensures.cut c.cut_now.ensures.uncut)

pub returns-clause-early : goal.returns-clause-early
returns-clause-early g c =
    let G = g.D.Counts in
    let u = c.args.core.now in
    let v = c.put_cut.new.core in
    let w = c.make_room.new.core in
    let x = c.cut_now.new.core in
    let goes = goes_then G u v w (2 ^ 30) 512 c.put_cut.ensures.goes c.make_room.ensures.goes in
    within-early G u w x x (stop_of c.cut_now.result) goes.reads goes.writes (omega arith) (omega arith) c.cut_now.ensures.early

-- ---- nothing is committed

pub returns-in_err-put_cut-clause-commit : goal.returns-in_err-put_cut-clause-commit
returns-in_err-put_cut-clause-commit g c = put_commit g.D.Counts c.args.core.now c.put_cut.new.core c.put_cut.ensures.at_once

pub returns-then-core-ne0-clause-commit : goal.returns-then-core-ne0-clause-commit
returns-then-core-ne0-clause-commit g c = put_commit g.D.Counts c.args.core.now c.put_cut.new.core c.put_cut.ensures.at_once

pub returns-in_err-make_room-clause-commit : goal.returns-in_err-make_room-clause-commit
returns-in_err-make_room-clause-commit g c has = made_commit g.D.Counts c.args.core.now c.put_cut.new.core c.put_cut.ensures.at_once has c.make_room.new.core c.make_room.ensures.kept

pub returns-clause-commit : goal.returns-clause-commit
returns-clause-commit g c has = cut_commit g.D.Counts c.args.core.now c.put_cut.new.core c.put_cut.ensures.at_once has c.make_room.new.core c.make_room.ensures.kept c.cut_now.new.core c.cut_now.ensures.commit
