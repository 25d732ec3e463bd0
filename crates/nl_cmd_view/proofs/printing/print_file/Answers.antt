use Rattle.std.proofs.Common.{◌≡◌, ◌<◌, ◌+◌, ◌*◌, ◌∙◌, ℕ, List, arith, le_trans, refl, subst}
use Rattle.std.specs.Prelude.{None, Some}
use Rattle.std.proofs.lemmas.Grind.{common_steps}
use Rattle.nl_field.specs.Numbers.{max_file_size}
use Rattle.nl_calls_steps.proofs.ReadCores.{reads-none, reads-then}
use Rattle.nl_cmd_view.specs.Pieces.{IfRefused, PrintsPiece, read_path}
use Rattle.nl_cmd_view.specs.declared.printing.Got.{Got}
use Rattle.nl_cmd_view.specs.declared.printing.Got.TheVariants as got
use Rattle.nl_cmd_view.proofs.Printed.{PrintedSoFar, ends_with, goes_on, never_beyond, nothing_yet, reads_for_after}
use Rattle.nl_cmd_view.proofs.printing.print_file.Goals as goal

pub pieces-init : goal.pieces-init
pieces-init g c =
    let G = g.D.Counts in
    record {
      core = c.requires.core;
      same = reads-none G c.args.core.now c.requires.core;
      faults = refl;
      call = c.requires.call;
      bounded = c.requires.bounded;
      path = refl;
      untouched = λ first. refl;
      later = omega arith;
      printed = nothing_yet G c.args.core.now (read_path c.args.call.now) (g.K.Sink.taken c.args.sink.now);
    }

pub pieces-preserved : goal.pieces-preserved
pieces-preserved g c =
    let G = g.D.Counts in
    let K = g.K.Sink in
    let i = c.pieces.invariant in
    let e = c.in-None.ensures in
    let old = K.taken c.args.sink.now in
    let mid = K.taken c.pieces.sink in
    let new = K.taken c.print_piece.new.sink in
    let at = c.pieces.piece * 65536 in
    let path = read_path c.args.call.now in
    let piece = subst (λ (x : List (List ℕ) × ℕ). PrintsPiece G c.pieces.core x.0 x.1 mid new None) (λ j. ((c.set_offset.ensures.path ∙ i.path) j, c.set_offset.ensures.from j)) e.prints in
    record {
      core = e.core;
      same = reads-then G c.args.core.now c.pieces.core c.device_stands.ensures.volume i.same c.print_piece.new.core e.same;
      faults = e.reads ∙ i.faults;
      call = c.set_offset.ensures.call;
      bounded = c.set_offset.ensures.bounded;
      path = c.set_offset.ensures.path ∙ i.path;
      untouched = λ first. absurd (let off : ⊥ = omega (arith, first) in off);
      later = le_trans i.later e.never_falls;
      printed = subst (λ (n : ℕ). PrintedSoFar G c.args.core.now path n old new) (let next : at + 65536 ≡ (c.pieces.piece + 1) * 65536 = omega arith in next)
          (goes_on G c.args.core.now c.pieces.core i.same path at old mid new i.printed piece);
    }

pub returns-in-Some-clause-same : goal.returns-in-Some-clause-same
returns-in-Some-clause-same g c = reads-then g.D.Counts c.args.core.now c.pieces.core c.device_stands.ensures.volume c.pieces.invariant.same c.print_piece.new.core c.in-Some.ensures.same

-- only the first piece is refused as such
first_only : (answer : Got) (n at : ℕ) (P Q : Type 0) → at ≡ n * 65536 → (n ≡ 0 → P → Q) → IfRefused answer ((at ≡ 0) × P) → IfRefused answer Q
first_only got.All n at P Q is by r = tt
first_only got.NotTaken n at P Q is by r = tt
first_only (got.Refused refusal) n at P Q is by r = by (let zero = r.0 in omega (arith, is, zero)) r.1
first_only got.Fault n at P Q is by r = tt
first_only got.Lost n at P Q is by r = tt

pub returns-in-Some-clause-prints : goal.returns-in-Some-clause-prints
returns-in-Some-clause-prints g c =
    let G = g.D.Counts in
    let K = g.K.Sink in
    let i = c.pieces.invariant in
    let e = c.in-Some.ensures in
    let old = K.taken c.args.sink.now in
    let mid = K.taken c.pieces.sink in
    let new = K.taken c.print_piece.new.sink in
    let at = c.pieces.piece * 65536 in
    let path = read_path c.args.call.now in
    let piece = subst (λ (x : List (List ℕ) × ℕ). PrintsPiece G c.pieces.core x.0 x.1 mid new (Some c.in-Some.got)) (λ j. ((c.set_offset.ensures.path ∙ i.path) j, c.set_offset.ensures.from j)) e.prints in
    ends_with G c.args.core.now c.pieces.core i.same path at old mid new i.printed c.in-Some.got piece (first_only c.in-Some.got c.pieces.piece _ _ (at ≡ 0) c.set_offset.ensures.from (λ z p. omega (arith, z)) e.refused)

pub returns-in-Some-clause-reads : goal.returns-in-Some-clause-reads
returns-in-Some-clause-reads g c =
    reads_for_after g.D.Counts c.args.core.now.device c.pieces.core.device c.print_piece.new.core.device c.in-Some.got c.pieces.invariant.faults c.in-Some.ensures.reads

pub returns-in-Some-clause-refused : goal.returns-in-Some-clause-refused
returns-in-Some-clause-refused g c = first_only c.in-Some.got c.pieces.piece _ _ _ c.set_offset.ensures.from (λ z same. same ∙ c.pieces.invariant.untouched z) c.in-Some.ensures.refused

-- as many pieces as a file may have
pub returns-clause-prints : goal.returns-clause-prints
returns-clause-prints g c =
    let beyond : max_file_size < c.pieces.piece * 65536 = grind (arith, common_steps) in
    never_beyond g.D.Counts c.args.core.now (read_path c.args.call.now) (c.pieces.piece * 65536) (g.K.Sink.taken c.args.sink.now) (g.K.Sink.taken c.pieces.sink) beyond c.pieces.invariant.printed
