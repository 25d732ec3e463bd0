use Rattle.std.proofs.Common.{◌≡◌, ◌≢◌, ◌∙◌, ℕ, ◌≤◌, true, sym, ap, subst, arith, get_or}
use Rattle.nl_field.specs.declared.inode.InodeRec.{InodeRec}
use Rattle.nl_meta.specs.Pages.{Pages, has_room, page_of}
use Rattle.nl_test_metadata.specs.Tested.{IsTested}
use Rattle.nl_indirect.specs.Ranges.{HasPointers, HasRange, address_of, range_of, slot_of}
use Rattle.nl_indirect.proofs.Pointing.{address-range}
use Rattle.nl_test_metadata.proofs.indirect.cut.Goals as goal

module _ (rec : InodeRec) (p : Pages) (ready : IsTested 0 rec p) (from : ℕ) (most : from ≤ 264) (slotted : slot_of from ≢ 0) (far : address_of rec from ≢ 0) where
  address : address_of rec from ≡ get_or rec.addresses 0 0
  address = address-range rec from (omega (arith, slotted)) ∙ ap (λ (r : ℕ). get_or rec.addresses r 0) (omega (arith, most, slotted))

  is-71 : address_of rec from ≡ 71
  is-71 = address ∙ (ready.page (λ z. far (address ∙ z))).0

  has : HasPointers (page_of p) (address_of rec from)
  has = subst (λ (v : ℕ). HasPointers (page_of p) v) (sym is-71) (ready.page (λ z. far (address ∙ z))).1

  room : has_room p (address_of rec from) ≡ true
  room = subst (λ (v : ℕ). has_room p v ≡ true) (sym is-71) ready.room

pub truncate-requires-clause-range : goal.truncate-requires-clause-range
truncate-requires-clause-range c = has c.args.rec.now c.args.meta.now c.requires c.args.from c.if-from-le264.true

pub truncate-requires-clause-room : goal.truncate-requires-clause-room
truncate-requires-clause-room c = room c.args.rec.now c.args.meta.now c.requires c.args.from c.if-from-le264.true
