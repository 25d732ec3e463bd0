use Rattle.std.proofs.Common.{⊎_elim, inl, subst}
use Rattle.nl_namespace.specs.Paths.{IfNodeAt, Looks}
use Rattle.nl_namespace.specs.declared.answer.Look.{Look}
use Rattle.nl_meta_running.specs.Running.{IsUsedNode}
use Rattle.nl_calls_steps.specs.Finding.{nodes_of}
use Rattle.nl_calls_steps.proofs.OnlyReads.{still-used}
use Rattle.nl_calls_steps.proofs.ReadCores.{reads-then}
use Rattle.nl_volume_stage.proofs.Nexts.{next_on, none_missing, none_refused}
use Rattle.nl_volume_stage.proofs.Own.{own_page}
use Rattle.nl_volume_stage.proofs.next.next_in.Goals as goal

pub next_at-requires-clause-used : goal.next_at-requires-clause-used
next_at-requires-clause-used g c =
    let G = g.D.Counts in
    let u = c.args.core.now in
    still-used G u c.look_up.new.core c.device_stands.ensures.volume c.look_up.ensures.same c.in-At.ino (subst (λ (r : Look). IfNodeAt r (IsUsedNode G u.device u.meta)) c.in-At.is c.look_up.ensures.used)

pub returns-in-At-clause-same : goal.returns-in-At-clause-same
returns-in-At-clause-same g c =
    let G = g.D.Counts in
    reads-then G c.args.core.now c.look_up.new.core c.device_stands.ensures.volume c.look_up.ensures.same c.next_at.new.core c.next_at.ensures.same

pub returns-in-At-clause-left : goal.returns-in-At-clause-left
returns-in-At-clause-left g c =
    let G = g.D.Counts in
    next_on c.looks_in_tree.ensures G c.args.core.now c.args.path.now c.look_up.new.core c.device_stands.ensures.volume c.look_up.ensures.same c.in-At.ino c.in-At.ensures.answer
    c.args.from c.args.len c.args.place c.next_at.result c.next_at.ensures.left

pub returns-in-Missing-clause-left : goal.returns-in-Missing-clause-left
returns-in-Missing-clause-left g c =
    let G = g.D.Counts in
    let u = c.args.core.now in
    let path = c.args.path.now in
    inl (⊎_elim (λ is. none_missing c.looks_in_tree.ensures G u path (subst (Looks (nodes_of G u) path) is c.look_up.ensures.answer))
    (λ is. none_refused c.looks_in_tree.ensures G u path is.0 (subst (Looks (nodes_of G u) path) is.1 c.look_up.ensures.answer)) c.in-Missing.is)

pub returns-in-At-clause-own : goal.returns-in-At-clause-own
returns-in-At-clause-own g c =
    own_page g.D.Counts c.args.core.now c.look_up.new.core c.args.path.now c.device_stands.ensures.volume c.look_up.ensures.same c.in-At.ino c.in-At.ensures.answer c.next_at.result c.next_at.ensures.own
