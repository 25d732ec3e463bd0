use Rattle.std.proofs.Common.{◌≡◌, ℕ, ◌+◌, ◌*◌, ◌<◌, true, sym, ◌∙◌, ap, subst}
use Rattle.nl_field.specs.Numbers.{ShapeBounds}
use Rattle.nl_field.proofs.Bounds.{bounds}
use Rattle.nl_vseg.specs.Layout.{Layout, bound, room, shown}
use Rattle.nl_vseg.specs.Seen.{seen}
use Rattle.nl_vseg.specs.Segment.{SegmentHasUnmapped, is_taken_as_erased, wear_of}
use Rattle.nl_vseg.proofs.Shapes.{new_bound, new_blank, new_spare, new_room, new_wear}
use Rattle.nl_vseg.proofs.Views.{blank_taken, spare_from}
use Rattle.nl_vseg.proofs.vseg.VSeg.new.Goals as goal

pub returns-clause-bound : goal.returns-clause-bound
returns-clause-bound c = ap bound c.in_ok-new.ensures.seen ∙ new_bound c.args.shape.now

pub returns-clause-erased : goal.returns-clause-erased
returns-clause-erased c =
    let roomy = subst ShapeBounds (sym c.requires.numbers) (bounds c.args.shape.now.blocks c.args.shape.now.pages c.requires.legal) in
    subst (λ (s : Layout). (p : ℕ) → p < bound s → is_taken_as_erased (shown s) p ≡ true) (sym c.in_ok-new.ensures.seen) (new_blank c.args.shape.now roomy)

pub returns-clause-wear : goal.returns-clause-wear
returns-clause-wear c = subst (λ (s : Layout). (block : ℕ) → wear_of (shown s) block ≡ 0) (sym c.in_ok-new.ensures.seen) (new_wear c.args.shape.now)

pub returns-clause-spare : goal.returns-clause-spare
returns-clause-spare c =
    let roomy = subst ShapeBounds (sym c.requires.numbers) (bounds c.args.shape.now.blocks c.args.shape.now.pages c.requires.legal) in
    subst (λ (s : Layout). SegmentHasUnmapped (shown s)) (sym c.in_ok-new.ensures.seen) (spare_from (new_spare c.args.shape.now roomy))

pub returns-clause-room : goal.returns-clause-room
returns-clause-room c =
    let roomy = subst ShapeBounds (sym c.requires.numbers) (bounds c.args.shape.now.blocks c.args.shape.now.pages c.requires.legal) in
    subst (λ (s : Layout). room s + c.args.shape.now.pages ≡ c.args.shape.now.vblocks * c.args.shape.now.pages) (sym c.in_ok-new.ensures.seen) (new_room c.args.shape.now roomy)

pub returns-clause-within : goal.returns-clause-within
returns-clause-within c p is = (blank_taken (seen c.in_ok-new.field-0) p is).0
