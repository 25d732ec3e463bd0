use Rattle.std.proofs.Common.{◌≡◌, ⊎_elim, ◌+◌, ◌≤◌, ◌<◌, ◌^◌, arith, refl, subst, sym}
use Rattle.nl_field.specs.declared.answers.Named.{Named}
use Rattle.nl_field.specs.declared.answers.Named.TheVariants as named
use Rattle.nl_iface.specs.Answers.{IfPlaced, IsPlaced}
use Rattle.nl_meta_running.proofs.Holds.{bounds-of}
use Rattle.nl_core.specs.Core.{names_of}
use Rattle.nl_core.specs.Programming.{PutsInFlight}
use Rattle.nl_core.specs.declared.programming.Programmed.TheVariants as programmed
use Rattle.nl_core.specs.declared.rounds.Rounded.TheVariants as rounded
use Rattle.nl_core.proofs.Nearer.{few_first, one_kept, tries_left}
use Rattle.nl_core.proofs.Onward.{cause_stopped, cause_then, goes_more, goes_none}
use Rattle.nl_core.proofs.Reclaiming.{Tries, goes_round, has_line_stays, has_place_stays, lines_round, nearer_then, paid_then, space_stays, tried}
use Rattle.nl_core.proofs.state.Core.program_now.Goals as goal

pub rounds-init : goal.rounds-init
rounds-init g c =
    let G = g.D.Counts in
    let v = c.args.self.now in
    let w = c.place_once-answer.new.self in
    let answer = c.place_once-answer.result in
    let e = c.place_once-answer.ensures in
    let names = c.device_stands.ensures.names in
    let bounds = bounds-of (G.shape v.device) c.device_stands.ensures.volume in
    let few : tries_left answer (names_of G w).space ≤ 771 = few_first (names_of G v).space (names_of G w).space answer (space_stays G v w answer e.none)
    (one_kept (G.shape v.device) (G.next_stamp v.device) (names_of G v) bounds names c.requires.core.space.all)
    (let block = names.block in let pages = bounds.most_pages in omega (arith, block, pages)) in
    record {
      formed = e.core.formed;
      tries = tried G c.args.worker c.args.line c.args.tag c.args.from.now.main v v w answer 0 (goes_none G v c.requires.core) refl c.requires.core c.requires.writes c.requires.known
          e.core e.goes e.no_page.0 e.placed e.none e.faults (omega (arith, few));
      at_once = λ has. (e.at_once, λ is. let full = e.no_page.0 is in omega (arith, has, full));
    }

pub returns-in-Placed-clause-core : goal.returns-in-Placed-clause-core
returns-in-Placed-clause-core g c = c.rounds.invariant.tries.core

pub returns-in-Placed-clause-goes : goal.returns-in-Placed-clause-goes
returns-in-Placed-clause-goes g c =
    let G = g.D.Counts in
    let t = c.rounds.invariant.tries in
    goes_more G t.taken (2 ^ 30) c.args.self.now c.rounds.self (let paid = t.paid in omega (arith, paid)) t.goes

pub returns-in-Fault-clause-core : goal.returns-in-Fault-clause-core
returns-in-Fault-clause-core g c = c.rounds.invariant.tries.core

pub returns-in-Fault-clause-goes : goal.returns-in-Fault-clause-goes
returns-in-Fault-clause-goes g c =
    let G = g.D.Counts in
    let t = c.rounds.invariant.tries in
    goes_more G t.taken (2 ^ 30) c.args.self.now c.rounds.self (let paid = t.paid in omega (arith, paid)) t.goes

pub returns-in-Placed-clause-programs : goal.returns-in-Placed-clause-programs
returns-in-Placed-clause-programs g c =
    let G = g.D.Counts in
    subst (λ (x : Named). IfPlaced x (λ at. PutsInFlight G c.args.worker c.args.line c.args.tag c.args.from.now.main c.args.self.now c.rounds.self)) c.in-Placed.is c.rounds.invariant.tries.placed

pub returns-in-Fault-clause-programs : goal.returns-in-Fault-clause-programs
returns-in-Fault-clause-programs g c = c.rounds.invariant.tries.lines (λ placed. ⊎_elim (λ is. subst (λ (a : Named). IsPlaced a) is placed) (λ is. subst (λ (a : Named). IsPlaced a) is placed) c.in-Fault.is)

pub returns-in-Fault-clause-faults : goal.returns-in-Fault-clause-faults
returns-in-Fault-clause-faults g c is = c.rounds.invariant.tries.cause (⊎_elim (λ fault. fault) (λ other. absurd (c.rounds.invariant.tries.not_live other)) c.in-Fault.is)

pub round-requires-clause-writes : goal.round-requires-clause-writes
round-requires-clause-writes g c = (c.rounds.invariant.tries.no_room c.in-NoPage.is).0

pub returns-in-Lost-clause-goes : goal.returns-in-Lost-clause-goes
returns-in-Lost-clause-goes g c =
    let G = g.D.Counts in
    let v = c.args.self.now in
    let s = c.rounds.self in
    let t : Tries G c.args.worker c.args.line c.args.tag c.args.from.now.main v s named.NoPage = subst (λ (a : Named). Tries G c.args.worker c.args.line c.args.tag c.args.from.now.main v s a) c.in-NoPage.is c.rounds.invariant.tries in
    goes_more G (t.taken + 2 ^ 20) (2 ^ 30) v c.round.new.self (let paid = t.paid in omega (arith, paid))
    (goes_round G c.args.worker c.args.line c.args.tag c.args.from.now.main v s c.round.new.self t c.round.ensures.goes c.round.ensures.lines)

pub returns-in-Lost-clause-programs : goal.returns-in-Lost-clause-programs
returns-in-Lost-clause-programs g c =
    let G = g.D.Counts in
    let v = c.args.self.now in
    let s = c.rounds.self in
    let t : Tries G c.args.worker c.args.line c.args.tag c.args.from.now.main v s named.NoPage = subst (λ (a : Named). Tries G c.args.worker c.args.line c.args.tag c.args.from.now.main v s a) c.in-NoPage.is c.rounds.invariant.tries in
    (lines_round G c.args.worker c.args.line c.args.tag c.args.from.now.main v s c.round.new.self t c.round.ensures.goes c.round.ensures.lines, c.in-Lost.ensures.rounds.0, c.in-Lost.ensures.rounds.1)

pub returns-in-Fault-round-clause-goes : goal.returns-in-Fault-round-clause-goes
returns-in-Fault-round-clause-goes g c =
    let G = g.D.Counts in
    let v = c.args.self.now in
    let s = c.rounds.self in
    let t : Tries G c.args.worker c.args.line c.args.tag c.args.from.now.main v s named.NoPage = subst (λ (a : Named). Tries G c.args.worker c.args.line c.args.tag c.args.from.now.main v s a) c.in-NoPage.is c.rounds.invariant.tries in
    goes_more G (t.taken + 2 ^ 20) (2 ^ 30) v c.round.new.self (let paid = t.paid in omega (arith, paid))
    (goes_round G c.args.worker c.args.line c.args.tag c.args.from.now.main v s c.round.new.self t c.round.ensures.goes c.round.ensures.lines)

pub returns-in-Fault-round-clause-programs : goal.returns-in-Fault-round-clause-programs
returns-in-Fault-round-clause-programs g c =
    let G = g.D.Counts in
    let v = c.args.self.now in
    let s = c.rounds.self in
    let t : Tries G c.args.worker c.args.line c.args.tag c.args.from.now.main v s named.NoPage = subst (λ (a : Named). Tries G c.args.worker c.args.line c.args.tag c.args.from.now.main v s a) c.in-NoPage.is c.rounds.invariant.tries in
    lines_round G c.args.worker c.args.line c.args.tag c.args.from.now.main v s c.round.new.self t c.round.ensures.goes c.round.ensures.lines

pub returns-in-Fault-round-clause-faults : goal.returns-in-Fault-round-clause-faults
returns-in-Fault-round-clause-faults g c is =
    let G = g.D.Counts in
    let t = c.rounds.invariant.tries in
    cause_then G (c.round.result ≡ rounded.Fault) (programmed.Fault ≡ programmed.Fault) c.args.self.now c.rounds.self c.round.new.self t.taken t.goes c.round.ensures.faults (λ f. c.in-Fault-round.is) refl

pub returns-then-self-ne0-clause-goes : goal.returns-then-self-ne0-clause-goes
returns-then-self-ne0-clause-goes g c =
    let G = g.D.Counts in
    let v = c.args.self.now in
    let s = c.rounds.self in
    let t : Tries G c.args.worker c.args.line c.args.tag c.args.from.now.main v s named.NoPage = subst (λ (a : Named). Tries G c.args.worker c.args.line c.args.tag c.args.from.now.main v s a) c.in-NoPage.is c.rounds.invariant.tries in
    goes_more G (t.taken + 2 ^ 20) (2 ^ 30) v c.round.new.self (let paid = t.paid in omega (arith, paid))
    (goes_round G c.args.worker c.args.line c.args.tag c.args.from.now.main v s c.round.new.self t c.round.ensures.goes c.round.ensures.lines)

pub returns-then-self-ne0-clause-programs : goal.returns-then-self-ne0-clause-programs
returns-then-self-ne0-clause-programs g c =
    let G = g.D.Counts in
    let v = c.args.self.now in
    let s = c.rounds.self in
    let t : Tries G c.args.worker c.args.line c.args.tag c.args.from.now.main v s named.NoPage = subst (λ (a : Named). Tries G c.args.worker c.args.line c.args.tag c.args.from.now.main v s a) c.in-NoPage.is c.rounds.invariant.tries in
    lines_round G c.args.worker c.args.line c.args.tag c.args.from.now.main v s c.round.new.self t c.round.ensures.goes c.round.ensures.lines

pub returns-then-self-ne0-clause-faults : goal.returns-then-self-ne0-clause-faults
returns-then-self-ne0-clause-faults g c =
    let G = g.D.Counts in
    cause_stopped G (programmed.Fault ≡ programmed.Fault) c.args.self.now c.round.new.self (2 ^ 30) (returns-then-self-ne0-clause-goes g c) c.requires.writes c.if-self-ne0.true

pub place_once-answer-requires-in-rounds-clause-line : goal.place_once-answer-requires-in-rounds-clause-line
place_once-answer-requires-in-rounds-clause-line g c =
    let G = g.D.Counts in
    let v = c.args.self.now in
    let s = c.rounds.self in
    let t : Tries G c.args.worker c.args.line c.args.tag c.args.from.now.main v s named.NoPage = subst (λ (a : Named). Tries G c.args.worker c.args.line c.args.tag c.args.from.now.main v s a) c.in-NoPage.is c.rounds.invariant.tries in
    has_line_stays v.flight c.round.new.self.flight (lines_round G c.args.worker c.args.line c.args.tag c.args.from.now.main v s c.round.new.self t c.round.ensures.goes c.round.ensures.lines) c.args.worker c.args.line c.requires.line

pub place_once-answer-requires-in-rounds-clause-place : goal.place_once-answer-requires-in-rounds-clause-place
place_once-answer-requires-in-rounds-clause-place g c =
    let G = g.D.Counts in
    let v = c.args.self.now in
    let s = c.rounds.self in
    let t : Tries G c.args.worker c.args.line c.args.tag c.args.from.now.main v s named.NoPage = subst (λ (a : Named). Tries G c.args.worker c.args.line c.args.tag c.args.from.now.main v s a) c.in-NoPage.is c.rounds.invariant.tries in
    has_place_stays v.flight c.round.new.self.flight (lines_round G c.args.worker c.args.line c.args.tag c.args.from.now.main v s c.round.new.self t c.round.ensures.goes c.round.ensures.lines) c.args.worker c.args.line c.requires.place

pub rounds-smaller : goal.rounds-smaller
rounds-smaller g c =
    let G = g.D.Counts in
    let s = c.rounds.self in
    let e = c.place_once-answer-in-rounds.ensures in
    subst (λ (a : Named). tries_left c.place_once-answer-in-rounds.result (names_of G c.place_once-answer-in-rounds.new.self).space < tries_left a (names_of G s).space) (sym c.in-NoPage.is)
    (nearer_then G g.D.MovingPages s c.round.new.self c.place_once-answer-in-rounds.new.self c.place_once-answer-in-rounds.result c.device_stands-in-rounds.ensures.volume c.device_stands-in-rounds.ensures.names
    c.device_stands-in-rounds-2.ensures.names (c.rounds.invariant.tries.no_room c.in-NoPage.is).1 c.in-Done.ensures.rounds e.no_page.0 e.none)

pub rounds-preserved : goal.rounds-preserved
rounds-preserved g c =
    let G = g.D.Counts in
    let v = c.args.self.now in
    let s = c.rounds.self in
    let u = c.round.new.self in
    let w = c.place_once-answer-in-rounds.new.self in
    let answer = c.place_once-answer-in-rounds.result in
    let e = c.place_once-answer-in-rounds.ensures in
    let main = c.args.from.now.main in
    let t : Tries G c.args.worker c.args.line c.args.tag main v s named.NoPage = subst (λ (a : Named). Tries G c.args.worker c.args.line c.args.tag main v s a) c.in-NoPage.is c.rounds.invariant.tries in
    let less = nearer_then G g.D.MovingPages s u w answer c.device_stands-in-rounds.ensures.volume c.device_stands-in-rounds.ensures.names c.device_stands-in-rounds-2.ensures.names
    (c.rounds.invariant.tries.no_room c.in-NoPage.is).1 c.in-Done.ensures.rounds e.no_page.0 e.none in
    record {
      formed = e.core.formed;
      tries = tried G c.args.worker c.args.line c.args.tag main v u w answer (t.taken + 2 ^ 20)
          (goes_round G c.args.worker c.args.line c.args.tag main v s u t c.round.ensures.goes c.round.ensures.lines)
          (lines_round G c.args.worker c.args.line c.args.tag main v s u t c.round.ensures.goes c.round.ensures.lines)
          c.round.ensures.core c.if-self-ne0.false c.requires.known e.core e.goes e.no_page.0 e.placed e.none e.faults
          (paid_then G c.args.worker c.args.line c.args.tag main v s u t c.round.ensures.goes c.round.ensures.lines w answer less);
      at_once = λ has. absurd ((c.rounds.invariant.at_once has).1 c.in-NoPage.is);
    }

-- ---- where there was room

pub returns-in-Placed-clause-at_once : goal.returns-in-Placed-clause-at_once
returns-in-Placed-clause-at_once g c has = (c.rounds.invariant.at_once has).0

pub returns-in-Fault-clause-at_once : goal.returns-in-Fault-clause-at_once
returns-in-Fault-clause-at_once g c has = (c.rounds.invariant.at_once has).0

pub returns-in-Lost-clause-at_once : goal.returns-in-Lost-clause-at_once
returns-in-Lost-clause-at_once g c has = absurd ((c.rounds.invariant.at_once has).1 c.in-NoPage.is)

pub returns-in-Fault-round-clause-at_once : goal.returns-in-Fault-round-clause-at_once
returns-in-Fault-round-clause-at_once g c has = absurd ((c.rounds.invariant.at_once has).1 c.in-NoPage.is)

pub returns-then-self-ne0-clause-at_once : goal.returns-then-self-ne0-clause-at_once
returns-then-self-ne0-clause-at_once g c has = absurd ((c.rounds.invariant.at_once has).1 c.in-NoPage.is)
