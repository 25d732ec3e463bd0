use Rattle.std.proofs.Common.{ℕ, ◌+◌, ◌*◌, ◌/◌, ◌<◌, List, get_or, max, set, take, sym, subst, arith}
use Rattle.std.proofs.lemmas.Nat.{div_below}
use Rattle.std.proofs.lemmas.Option.{get_or_from_slice_get, slice_get_within}
use Rattle.nl_field.specs.SpareRecord.{wear_of}
use Rattle.nl_field.specs.declared.seen.Seen.{Seen}
use Rattle.nl_device.specs.Opening.{Tabulates, wear_in}
use Rattle.nl_device.specs.Spread.{by_key}
use Rattle.nl_device.proofs.Keys.{keys_all, keys_more}
use Rattle.nl_device.proofs.opening.soil.wears.Goals as goal

pub raise-requires : goal.raise-requires
raise-requires c =
    let seen = c.args.tables.now.seen in
    let at = c.loop-at.at in
    let s = c.get-seen.result.now in
    let below = subst (λ (x : Seen). x.page < c.args.count * c.args.pages) (get_or_from_slice_get seen at s s c.get-seen.ensures) (c.requires.below at s (slice_get_within seen at s c.get-seen.ensures)) in
    subst (λ n. s.page / c.args.pages < n) (sym c.loop-at.invariant.count_is) (div_below s.page c.args.pages c.args.count c.requires.some below)

pub loop-at-preserved : goal.loop-at-preserved
loop-at-preserved c =
    let seen = c.args.tables.now.seen in
    let at = c.loop-at.at in
    let s = c.get-seen.result.now in
    let wears = c.loop-at.wears.items in
    let size = c.args.pages in
    let lt = slice_get_within seen at s c.get-seen.ensures in
    let next : List ℕ → Type 0 = λ ys. Tabulates c.args.count 0 (λ block. by_key (λ (x : Seen). x.page / size) (λ worst x. max worst (wear_of x.rec)) 0 block (take (at + 1) seen)) ys in
    subst next (sym c.raise.ensures)
    (subst (λ w. next (set wears (s.page / size) (max (get_or wears (s.page / size) 0) w))) (sym c.wear_on.ensures)
    (subst (λ (x : Seen). next (set wears (x.page / size) (max (get_or wears (x.page / size) 0) (wear_of x.rec)))) (get_or_from_slice_get seen at s s c.get-seen.ensures)
    (keys_more (λ (x : Seen). x.page / size) (λ (worst : ℕ) x. max worst (wear_of x.rec)) (λ block. 0) c.args.count 0 seen at s wears lt c.loop-at.invariant
    (div_below (get_or seen at s).page size c.args.count c.requires.some (c.requires.below at s lt)))))

pub returns : goal.returns
unfolding wear_in
returns c = keys_all (λ (x : Seen). x.page / c.args.pages) (λ (worst : ℕ) x. max worst (wear_of x.rec)) (λ block. 0) c.args.count 0 c.args.tables.now.seen c.loop-at.at c.loop-at.wears.items (omega arith) c.loop-at.invariant
