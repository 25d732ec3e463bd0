use Rattle.std.proofs.Common.{◌≡◌, true, [], Option, Some, None, sym, subst}
use Rattle.nl_core.specs.Core.{running_of}
use Rattle.nl_field.specs.Graph.{Graph}
use Rattle.nl_calls_steps.proofs.ReadCores.{reads-after, reads-then}
use Rattle.nl_volume_list.specs.Next.{GaveAt, nodes_of}
use Rattle.nl_volume_list.specs.Onward.{StepsOnward, LeadsOn, path_to}
use Rattle.nl_volume_list.specs.Walks.{IsItemOfNode, is_path, item_stop}
use Rattle.nl_volume_list.specs.declared.walk.Onward.{Onward}
use Rattle.nl_volume_list.proofs.Giving.{gives-last, gives-next, gives-root}
use Rattle.nl_volume_list.proofs.Walking.{nodes-stay, way-after, way-stays}
use Rattle.nl_volume_list.proofs.next.next_path.Goals as goal

pub returns-then-not-has_begun-clause-way : goal.returns-then-not-has_begun-clause-way
returns-then-not-has_begun-clause-way g c =
    let G = g.D.Counts in
    let v = c.args.core.now in
    let e = c.begin.ensures in
    way-after G v c.begin.new.core c.device_stands.ensures.volume e.same c.args.walk.now c.begin.new.walk [] (is_path c.begin.result) c.requires.way e.gave e.stays

pub returns-then-not-has_begun-clause-gives : goal.returns-then-not-has_begun-clause-gives
returns-then-not-has_begun-clause-gives g c =
    let G = g.D.Counts in
    let v = c.args.core.now in
    let e = c.begin.ensures in
    λ page_of_stamp tree runs. gives-root (G.shape v.device) (running_of G v) page_of_stamp tree runs.runs c.args.walk.now c.begin.new.walk c.begin.result (c.has_begun.ensures.none c.if-not-has_begun.true) e.told e.gave

pub go_to-requires-clause-way : goal.go_to-requires-clause-way
go_to-requires-clause-way g c =
    let G = g.D.Counts in
    let v = c.args.core.now in
    way-stays G v c.place_of.new.core c.device_stands.ensures.volume c.in-Ok-Some.ensures.same c.args.walk.now c.requires.way

pub go_to-requires-clause-leads : goal.go_to-requires-clause-leads
go_to-requires-clause-leads g c =
    let G = g.D.Counts in
    let v = c.args.core.now in
    let w = c.place_of.new.core in
    let on = c.in-Ok-Some.ensures.same in
    let leads : StepsOnward (nodes_of G v) c.args.walk.now (Some c.in-Ok-Some.to) = subst (λ (o : Option Onward). StepsOnward (nodes_of G v) c.args.walk.now o) c.in-Ok-Some.field-0-is c.in-Ok-Some.ensures.place in
    let stay = nodes-stay G v w c.device_stands.ensures.volume on in
    subst (λ (n : Graph). LeadsOn n c.args.walk.now c.in-Ok-Some.to) (sym stay) leads

pub returns-in-Ok-Some-clause-same : goal.returns-in-Ok-Some-clause-same
returns-in-Ok-Some-clause-same g c =
    let G = g.D.Counts in
    let v = c.args.core.now in
    reads-then G v c.place_of.new.core c.device_stands.ensures.volume c.in-Ok-Some.ensures.same c.go_to.new.core c.go_to.ensures.same

pub returns-in-Ok-Some-clause-way : goal.returns-in-Ok-Some-clause-way
returns-in-Ok-Some-clause-way g c =
    let G = g.D.Counts in
    let v = c.args.core.now in
    let w = c.place_of.new.core in
    let on = c.in-Ok-Some.ensures.same in
    let leads : StepsOnward (nodes_of G v) c.args.walk.now (Some c.in-Ok-Some.to) = subst (λ (o : Option Onward). StepsOnward (nodes_of G v) c.args.walk.now o) c.in-Ok-Some.field-0-is c.in-Ok-Some.ensures.place in
    let stay = nodes-stay G v w c.device_stands.ensures.volume on in
    let gave = λ (y : is_path c.go_to.result ≡ true). subst (λ (n : Graph). GaveAt n c.args.walk.now c.go_to.new.walk (path_to c.args.walk.now c.in-Ok-Some.to)) stay (c.go_to.ensures.gave y) in
    way-after G v c.go_to.new.core c.device_stands.ensures.volume (reads-then G v w c.device_stands.ensures.volume on c.go_to.new.core c.go_to.ensures.same) c.args.walk.now c.go_to.new.walk (path_to c.args.walk.now c.in-Ok-Some.to) (is_path c.go_to.result) c.requires.way gave c.go_to.ensures.stays

pub returns-in-Ok-Some-clause-gives : goal.returns-in-Ok-Some-clause-gives
returns-in-Ok-Some-clause-gives g c =
    let G = g.D.Counts in
    let v = c.args.core.now in
    let w = c.place_of.new.core in
    let on = c.in-Ok-Some.ensures.same in
    let leads : StepsOnward (nodes_of G v) c.args.walk.now (Some c.in-Ok-Some.to) = subst (λ (o : Option Onward). StepsOnward (nodes_of G v) c.args.walk.now o) c.in-Ok-Some.field-0-is c.in-Ok-Some.ensures.place in
    let stay = nodes-stay G v w c.device_stands.ensures.volume on in
    let gave = λ (y : is_path c.go_to.result ≡ true). subst (λ (n : Graph). GaveAt n c.args.walk.now c.go_to.new.walk (path_to c.args.walk.now c.in-Ok-Some.to)) stay (c.go_to.ensures.gave y) in
    let told = subst (λ (n : Graph). IsItemOfNode (n c.in-Ok-Some.to.entry.ino).body c.go_to.result) stay c.go_to.ensures.told in
    λ page_of_stamp tree runs. gives-next (G.shape v.device) (running_of G v) page_of_stamp tree runs.runs c.args.walk.now c.go_to.new.walk (path_to c.args.walk.now c.in-Ok-Some.to) c.in-Ok-Some.to.entry.ino c.go_to.result
    (c.has_begun.ensures.some c.if-not-has_begun.false) leads.next leads.reached told gave

pub returns-in-Ok-Some-clause-reads : goal.returns-in-Ok-Some-clause-reads
returns-in-Ok-Some-clause-reads g c =
    let G = g.D.Counts in
    let v = c.args.core.now in
    reads-after G v.device c.place_of.new.core.device c.go_to.new.core.device (item_stop c.go_to.result) c.in-Ok-Some.ensures.same.runs.reads c.in-Ok-Some.ensures.reads c.go_to.ensures.reads

pub returns-in-Ok-None-clause-way : goal.returns-in-Ok-None-clause-way
returns-in-Ok-None-clause-way g c =
    let G = g.D.Counts in
    let v = c.args.core.now in
    way-stays G v c.place_of.new.core c.device_stands.ensures.volume c.in-Ok-None.ensures.same c.args.walk.now c.requires.way

pub returns-in-Ok-None-clause-gives : goal.returns-in-Ok-None-clause-gives
returns-in-Ok-None-clause-gives g c =
    let G = g.D.Counts in
    let v = c.args.core.now in
    let last : StepsOnward (nodes_of G v) c.args.walk.now None = subst (λ (o : Option Onward). StepsOnward (nodes_of G v) c.args.walk.now o) c.in-Ok-None.field-0-is c.in-Ok-None.ensures.place in
    λ page_of_stamp tree runs. gives-last (G.shape v.device) (running_of G v) page_of_stamp tree runs.runs c.args.walk.now c.args.walk.now (c.has_begun.ensures.some c.if-not-has_begun.false) last

pub returns-in-Err-clause-way : goal.returns-in-Err-clause-way
returns-in-Err-clause-way g c =
    let G = g.D.Counts in
    let v = c.args.core.now in
    way-stays G v c.place_of.new.core c.device_stands.ensures.volume c.in-Err.ensures.same c.args.walk.now c.requires.way
