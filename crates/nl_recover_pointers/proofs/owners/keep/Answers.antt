use Rattle.std.proofs.Common.{ap, arith, length, ◌≡◌, ◌∙◌}
use Rattle.nl_recover_pointers.specs.Numbers.{place_in}
use Rattle.nl_recover_pointers.proofs.Owning.{put_owned}
use Rattle.nl_recover_pointers.proofs.owners.keep.Goals as goal

pub returns-clause-kept : goal.returns-clause-kept
returns-clause-kept c is =
    let count : c.len.result ≡ length c.args.kept.now.items = omega arith in
    put_owned c.args.kept.now.items c.args.owned c.place_of-at.result (c.place_of-at.ensures ∙ ap (λ n. place_in n c.args.owned.stamp) count) (c.is_free.ensures.inside c.if-not-is_free.false) (c.is_free.ensures.free c.if-not-is_free.false)
