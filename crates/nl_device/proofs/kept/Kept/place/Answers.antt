use Rattle.std.proofs.Common.{Some, sym, ◌∙◌}
use Rattle.std.proofs.lemmas.Bool.{cond-false, cond-true}
use Rattle.nl_device.specs.Kept.{is_at_name, place_among}
use Rattle.nl_device.proofs.Places.{least}
use Rattle.nl_device.proofs.kept.Kept.place.Goals as goal

pub returns-then-is_at_name : goal.returns-then-is_at_name
unfolding place_among
returns-then-is_at_name c =
    sym (cond-true (is_at_name c.args.self.now c.args.spare c.args.at.now) (Some c.args.at.now.name) (least c.args.self.now.size c.args.spare c.args.self.now.pages c.args.at.now.stamp)
    (sym c.is_at_name.ensures ∙ c.if-is_at_name.true))

pub returns-else-is_at_name : goal.returns-else-is_at_name
unfolding place_among
returns-else-is_at_name c =
    c.least.ensures
    ∙ sym (cond-false (is_at_name c.args.self.now c.args.spare c.args.at.now) (Some c.args.at.now.name) (least c.args.self.now.size c.args.spare c.args.self.now.pages c.args.at.now.stamp)
    (sym c.is_at_name.ensures ∙ c.if-is_at_name.false))
