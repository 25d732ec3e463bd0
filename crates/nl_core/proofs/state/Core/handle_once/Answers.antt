use Rattle.std.proofs.Common.{◌+◌, subst, refl}
use Rattle.nl_core.specs.Core.{begun_of}
use Rattle.nl_core.specs.Handling.{TriesNumber}
use Rattle.nl_core.proofs.Tried.{tried_cause, tried_core, tried_goes}
use Rattle.nl_core.proofs.state.Core.handle_once.Goals as goal

pub returns-clause-core : goal.returns-clause-core
returns-clause-core g c =
    let G = g.D.Counts in
    let v = c.args.self.now in
    let w = c.try_callback-tried.new.self in
    let answer = c.try_callback-tried.result in
    let number = c.args.number in
    let tries : TriesNumber G (begun_of v + 1) number v w answer = subst (λ n. TriesNumber G n number v w answer) c.mark-mark.ensures.mark c.try_callback-tried.ensures.tries in
    tried_core G v w (begun_of v + 1) number answer tries c.requires.core c.device_stands.ensures.volume refl c.device_stands-2.ensures.pages c.trees_stay.ensures c.device_stands.ensures.names c.device_stands.ensures.table c.try_callback-tried.ensures.formed

pub returns-clause-goes : goal.returns-clause-goes
returns-clause-goes g c =
    let G = g.D.Counts in
    let v = c.args.self.now in
    let w = c.try_callback-tried.new.self in
    let answer = c.try_callback-tried.result in
    let number = c.args.number in
    let tries : TriesNumber G (begun_of v + 1) number v w answer = subst (λ n. TriesNumber G n number v w answer) c.mark-mark.ensures.mark c.try_callback-tried.ensures.tries in
    tried_goes G v w (begun_of v + 1) number answer tries c.requires.core c.device_stands.ensures.volume refl c.device_stands-2.ensures.pages c.trees_stay.ensures c.device_stands.ensures.names c.device_stands.ensures.table

pub returns-clause-tries : goal.returns-clause-tries
returns-clause-tries g c =
    let G = g.D.Counts in
    let v = c.args.self.now in
    let w = c.try_callback-tried.new.self in
    let answer = c.try_callback-tried.result in
    let number = c.args.number in
    let tries : TriesNumber G (begun_of v + 1) number v w answer = subst (λ n. TriesNumber G n number v w answer) c.mark-mark.ensures.mark c.try_callback-tried.ensures.tries in
    tries

pub returns-clause-faults : goal.returns-clause-faults
returns-clause-faults g c =
    let G = g.D.Counts in
    let v = c.args.self.now in
    let w = c.try_callback-tried.new.self in
    let answer = c.try_callback-tried.result in
    let number = c.args.number in
    let tries : TriesNumber G (begun_of v + 1) number v w answer = subst (λ n. TriesNumber G n number v w answer) c.mark-mark.ensures.mark c.try_callback-tried.ensures.tries in
    tried_cause G v w (begun_of v + 1) number answer tries c.requires.core c.device_stands.ensures.volume refl c.device_stands-2.ensures.pages c.trees_stay.ensures c.device_stands.ensures.names c.device_stands.ensures.table
