use Rattle.std.proofs.Common.{◌≡◌, ◌+◌, ◌∷◌, ◌++◌, List, ℕ, drop, refl, ◌∙◌, ap}
use Rattle.nl_print.specs.Texts.{slashed}
use Rattle.nl_print.proofs.Names.{next_name, slashed_split}
use Rattle.nl_print.proofs.path.push_path.Goals as goal

pub names-preserved : goal.names-preserved
names-preserved g c =
    let names = g.P.Names.names c.args.path.now in
    let i = c.names.at in
    let name = c.name_at.result.now in
    let split = next_name names i name c.name_at.ensures in
    let pushed : c.push_name.new.line ≡ c.names.line ++ 47 ∷ name = c.if-not-push_name.ensures.text refl in
    let whole = slashed_split c.names.line (c.args.line.now ++ slashed names) name (drop i names) (drop (i + 1) names) c.names.invariant.front split in
    record { front = ap (λ (t : List ℕ). t ++ slashed (drop (i + 1) names)) pushed ∙ whole; room = c.push_name.ensures.len }
