use Rattle.std.proofs.Common.{ℕ, ◌-◌, ◌%◌, ◌∙◌, sym, ap, subst}
use Rattle.nl_meta.specs.Nodes.{bytes_of_place}
use Rattle.nl_meta.specs.Pages.{page_of}
use Rattle.nl_dir.specs.Slots.{PutsSlot}
use Rattle.nl_dir.proofs.PlaceFacts.{shown}
use Rattle.nl_dir.proofs.RemoveProofs.{fills, fills-none, places-filled, puts-place}
use Rattle.nl_dir.proofs.change.fill.Goals as goal

pub returns-then-place-last-clause-filled : goal.returns-then-place-last-clause-filled
returns-then-place-last-clause-filled c =
    let p = c.args.meta.now in
    let rec = c.args.rec.now in
    let size = c.count-last.ensures.value in
    let is = c.bytes_in-bytes.ensures.value ∙ sym (shown (page_of p) rec (c.count-last.result - 1) c.page_at.result.now.main c.page_at.ensures) ∙ ap (λ (k : ℕ). bytes_of_place (page_of p) rec (k - 1)) size in
    fills p c.put_bytes.new.meta rec c.args.place c.bytes_in-bytes.result (λ e. c.if-place-last.true (e ∙ ap (λ (k : ℕ). k - 1) (sym size))) is
    (puts-place p c.put_bytes.new.meta rec c.args.place c.bytes_in-bytes.result c.requires.places c.requires.below c.bytes_in-bytes.ensures.width
    (subst (λ (v : ℕ). PutsSlot v (c.args.place % 64) c.bytes_in-bytes.result p c.put_bytes.new.meta) c.address_at.ensures c.put_bytes.ensures))

pub returns-then-place-last-clause-places : goal.returns-then-place-last-clause-places
returns-then-place-last-clause-places c =
    let p = c.args.meta.now in
    let rec = c.args.rec.now in
    places-filled p c.put_bytes.new.meta rec c.args.place c.bytes_in-bytes.result c.requires.places c.requires.below
    (puts-place p c.put_bytes.new.meta rec c.args.place c.bytes_in-bytes.result c.requires.places c.requires.below c.bytes_in-bytes.ensures.width
    (subst (λ (v : ℕ). PutsSlot v (c.args.place % 64) c.bytes_in-bytes.result p c.put_bytes.new.meta) c.address_at.ensures c.put_bytes.ensures))

pub returns-then-place-last-clause-room : goal.returns-then-place-last-clause-room
returns-then-place-last-clause-room c =
    let p = c.args.meta.now in
    let rec = c.args.rec.now in
    (puts-place p c.put_bytes.new.meta rec c.args.place c.bytes_in-bytes.result c.requires.places c.requires.below c.bytes_in-bytes.ensures.width
    (subst (λ (v : ℕ). PutsSlot v (c.args.place % 64) c.bytes_in-bytes.result p c.put_bytes.new.meta) c.address_at.ensures c.put_bytes.ensures)).room c.requires.room

pub returns-else-place-last-clause-filled : goal.returns-else-place-last-clause-filled
returns-else-place-last-clause-filled c = fills-none c.args.meta.now c.args.rec.now c.args.place (c.if-place-last.false ∙ ap (λ (k : ℕ). k - 1) c.count-last.ensures.value)
