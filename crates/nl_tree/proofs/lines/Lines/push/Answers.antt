use Rattle.std.proofs.Common.{◌<◌, ◌≤◌, ◌+◌, ◌^◌, List, length, subst, sym, All}
use Rattle.nl_tree.specs.declared.call.Line.{Line}
use Rattle.nl_tree.proofs.LineProofs.{lines_push}
use Rattle.nl_tree.proofs.lines.Lines.push.Goals as goal

pub invariant_of-self-2 : goal.invariant_of-self-2
invariant_of-self-2 c =
    let lines = c.self.inside.lines.items in
    let line = c.args.line in
    lines_push lines c.push.new.self.items line c.in_ok-push.ensures.items
    (subst (λ (ls : List Line). length ls + 1 < 2 ^ 32) (sym c.self.view_is) c.requires.room) c.requires.line
    (subst (λ (ls : List Line). All (λ (l : Line). (l.line < line.line) × (l.round ≤ line.round)) ls) (sym c.self.view_is) c.requires.rising) c.self.invariant.1
