use Rattle.std.proofs.Common.{ℕ, List, ap, length, ◌∙◌}
use Rattle.nl_device.proofs.FormedLaws.{no_pairs}
use Rattle.nl_device.proofs.moving_pages.DeviceMovingPages.stands.Goals as goal

pub returns : goal.returns
returns g c =
    let s = c.args.self.now in
    record { called = λ none. c.requires.formed.names.pairs ∙ ap (λ (ps : List (ℕ × ℕ)). length ps) (no_pairs s.pseg s.pending c.requires.formed.called none) }
