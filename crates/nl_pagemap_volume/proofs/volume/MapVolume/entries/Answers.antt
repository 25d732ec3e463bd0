use Rattle.std.proofs.Common.{◌≡◌, ◌+◌, ℕ, List, length, ap, arith}
use Rattle.nl_field.specs.declared.pointer.Pointer.{Pointer}
use Rattle.nl_field.specs.declared.pointer.Tag.{Tag}
use Rattle.nl_pagemap_volume.proofs.Made.{none_carried}
use Rattle.nl_pagemap_volume.proofs.volume.MapVolume.entries.Goals as goal

pub returns-clause-charged : goal.returns-clause-charged
returns-clause-charged g c tells tree shows =
    let s = c.requires.stands in
    let v = c.args.self.now.core in
    let counted = s.core.space.counted in
    let charged = c.files_are_charged.ensures v shows.0 tree shows.1 in
    let none = ap (λ (xs : List (Tag × Pointer)). length xs) (none_carried v.flight s.idle) in
    let live = c.entries.ensures in
    omega (arith, counted, charged, none, live)
