use Rattle.std.proofs.Common.{◌+◌, ◌<◌, ◌∙◌, ap, subst, sym, ℕ, List, Option, set, length, arith}
use Rattle.nl_blocks.specs.declared.tournament.Entrant.{Entrant}
use Rattle.nl_blocks.specs.Tournament.{HasSameLeaves, entrant_of, keys_of}
use Rattle.nl_blocks.proofs.Tournaments.{key-of, length-keys, place-of, set-keys, set-tournament}
use Rattle.nl_blocks.proofs.tournament.Tournament.set.Goals as goal

pub returns : goal.returns
returns c =
    let tree = c.self.inside.tree.items in
    let count = c.self.inside.count in
    let place = c.args.place in
    let same : HasSameLeaves count (set tree (count + place) (entrant_of place c.args.key)) c.set_leaf.new.tree.items =
    subst (λ (x : Option Entrant). HasSameLeaves count (set tree (count + place) x) c.set_leaf.new.tree.items) c.entrant_of.ensures c.set_leaf.ensures.leaves in
    set-keys count tree c.set_leaf.new.tree.items place (entrant_of place c.args.key) same
    ∙ ap (set (keys_of count tree) place) (key-of place c.args.key)
    ∙ ap (λ (keys : List (Option ℕ)). set keys place c.args.key) c.self.view_is

pub invariant_of-self : goal.invariant_of-self
invariant_of-self c =
    let tree = c.self.inside.tree.items in
    let count = c.self.inside.count in
    let place = c.args.place in
    let n = length-keys count tree c.self.invariant.leaves in
    let size : place < length (keys_of count tree) = subst (λ (keys : List (Option ℕ)). place < length keys) (sym c.self.view_is) c.requires in
    let same : HasSameLeaves count (set tree (count + place) (entrant_of place c.args.key)) c.set_leaf.new.tree.items =
    subst (λ (x : Option Entrant). HasSameLeaves count (set tree (count + place) x) c.set_leaf.new.tree.items) c.entrant_of.ensures c.set_leaf.ensures.leaves in
    set-tournament count tree c.set_leaf.new.tree.items place (entrant_of place c.args.key) c.self.invariant (omega arith) (place-of place c.args.key) same c.set_leaf.ensures.winners
