use Rattle.std.proofs.Common.{ℕ, ◌+◌, ◌≤◌, List, length, refl, sym, ap, subst, ◌∙◌, arith}
use Rattle.nl_core.specs.Core.{running_of}
use Rattle.nl_calls_files.proofs.Fits.{stands}
use Rattle.nl_files.specs.Reading.{file_page}
use Rattle.nl_files.proofs.Filling.{file-size}
use Rattle.nl_calls_read.specs.Pieces.{AddsBytes}
use Rattle.nl_calls_read.proofs.Bytes.{bytes-more, none-read}
use Rattle.nl_calls_steps.proofs.ReadCores.{node-on, reads-none, reads-then, same-page}
use Rattle.nl_calls_read.proofs.Ending.{counted-after, done-no-fault, file-none}
use Rattle.nl_calls_read.proofs.reading.read_pieces.Goals as goal

pub loop-done-init : goal.loop-done-init
loop-done-init g c =
    let G = g.D.Counts in
    let v = c.args.core.now in
    let none = ap (λ (bytes : List ℕ). length bytes) c.requires.nothing in
    record {
      core = c.requires.core;
      same = reads-none G v c.requires.core;
      faults = refl;
      len = none;
      most = omega arith;
      bytes = λ tells. none-read (file_page G v.device (running_of G v) c.args.rec.now) c.args.from c.args.out.now c.requires.nothing;
    }

pub overflow_add-at : goal.overflow_add-at
overflow_add-at g c =
    let G = g.D.Counts in
    let v = c.args.core.now in
    let size = file-size c.args.rec.now (stands G v.device v.meta c.args.ino c.args.rec.now c.requires.core.journaled.runs c.requires.file).file in
    let below = c.loop-done-test.true in
    let within : c.args.from + c.args.count ≤ c.args.rec.now.size = c.requires.within (omega (arith, below)) in
    omega (arith, size, within, below)

pub read_piece-requires-clause-file : goal.read_piece-requires-clause-file
read_piece-requires-clause-file g c =
    let G = g.D.Counts in
    record {
      is_node = node-on G c.args.core.now c.loop-done.core c.device_stands.ensures.volume c.loop-done.invariant.same c.args.ino c.args.rec.now c.requires.file.is_node;
      is_file = c.requires.file.is_file;
    }

pub read_piece-requires-clause-within : goal.read_piece-requires-clause-within
read_piece-requires-clause-within g c =
    let below = c.loop-done-test.true in
    let within : c.args.from + c.args.count ≤ c.args.rec.now.size = c.requires.within (omega (arith, below)) in
    let most = c.piece_length-more.ensures.most in
    omega (arith, within, below, most)

pub read_piece-requires-clause-room : goal.read_piece-requires-clause-room
read_piece-requires-clause-room g c =
    let below = c.loop-done-test.true in
    let most = c.piece_length-more.ensures.most in
    let few = c.requires.few in
    let len = c.loop-done.invariant.len in
    omega (arith, few, below, most, len)

pub loop-done-preserved : goal.loop-done-preserved
loop-done-preserved g c =
    let G = g.D.Counts in
    let v = c.args.core.now in
    let w = c.loop-done.core in
    let is = c.loop-done.invariant in
    let e = c.in-Done.ensures in
    let below = c.loop-done-test.true in
    let most = c.piece_length-more.ensures.most in
    let len = is.len in
    let longer = e.len refl in
    record {
      core = e.core;
      same = reads-then G v w c.device_stands.ensures.volume is.same c.read_piece.new.core e.same;
      faults = e.faults.stays tt done-no-fault ∙ is.faults;
      len = omega (arith, len, longer);
      most = omega (arith, below, most);
      bytes = λ tells.
          bytes-more (file_page G v.device (running_of G v) c.args.rec.now) c.args.from c.loop-done.out c.read_piece.new.out (is.bytes tells)
          (subst (λ (n : ℕ). AddsBytes (file_page G v.device (running_of G v) c.args.rec.now) (c.args.from + n) c.loop-done.out c.read_piece.new.out) (sym len)
          (subst (λ (page : ℕ → List ℕ). AddsBytes page (c.args.from + c.loop-done.done) c.loop-done.out c.read_piece.new.out) (same-page G v w is.same tells c.args.rec.now) (e.bytes tells refl)));
    }

pub returns-in_default-clause-same : goal.returns-in_default-clause-same
returns-in_default-clause-same g c =
    reads-then g.D.Counts c.args.core.now c.loop-done.core c.device_stands.ensures.volume c.loop-done.invariant.same c.read_piece.new.core c.read_piece.ensures.same

pub returns-in_default-clause-faults : goal.returns-in_default-clause-faults
returns-in_default-clause-faults g c =
    counted-after g.D.Counts c.args.core.now.device c.loop-done.core.device c.read_piece.new.core.device _ c.loop-done.invariant.faults c.read_piece.ensures.faults

pub returns-clause-faults : goal.returns-clause-faults
returns-clause-faults g c = file-none g.D.Counts c.args.core.now.device c.loop-done.core.device c.loop-done.invariant.faults
