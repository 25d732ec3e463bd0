use Rattle.std.proofs.Common.{ap, sym, ◌∙◌, ◌+◌, ◌||◌, drop}
use Rattle.std.specs.Prelude.{◌==◌}
use Rattle.nl_recover_pointers.specs.Copies.{is_stamp_of}
use Rattle.nl_recover_pointers.specs.Held.{held_of}
use Rattle.nl_recover_pointers.specs.Numbers.{has_number}
use Rattle.nl_recover_pointers.proofs.Keys.{swapped}
use Rattle.nl_recover_pointers.proofs.Rests.{drop_got}
use Rattle.nl_recover_pointers.proofs.copies.stamps.Goals as goal

pub held-init : goal.held-init
held-init c stamp = ap (λ x. x || is_stamp_of c.args.held.now stamp) (c.in_ok-stamps.ensures stamp)

pub held-preserved : goal.held-preserved
held-preserved c stamp =
    let held = c.args.held.now in
    let rest = drop (c.held.at + 1) held in
    ap (λ x. x || is_stamp_of rest stamp) (c.in_ok-add.ensures stamp)
    ∙ (swapped (c.get.result.now.pointer.stamp == stamp) (has_number c.held.stamps stamp) (is_stamp_of rest stamp)
    ∙ (ap (λ l. has_number c.held.stamps stamp || is_stamp_of l stamp) (sym (drop_got held c.held.at (held_of c.get.result.now) c.get.ensures))
    ∙ c.held.invariant stamp))
