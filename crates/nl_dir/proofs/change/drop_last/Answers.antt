use Rattle.std.proofs.Common.{◌≡◌, ◌≢◌, ℕ, ◌-◌, ◌/◌, ◌%◌, ◌<◌, ◌∙◌, sym, ap, subst, refl, arith, false, true, replicate}
use Rattle.std.proofs.lemmas.Bool.{eq-eqb, ne_eqb}
use Rattle.std.specs.Prelude.{slice_set}
use Rattle.nl_field.specs.Bytes.{zeros}
use Rattle.nl_field.specs.declared.inode.InodeRec.{InodeRec}
use Rattle.nl_meta.specs.Nodes.{address_of_place}
use Rattle.nl_meta.specs.Pages.{Pages, page_of}
use Rattle.nl_dir.specs.Directory.{HasPlaces, last_alone, shorter}
use Rattle.nl_dir.specs.Slots.{DropsLast, PutsSlot}
use Rattle.nl_dir.proofs.PlaceFacts.{zeros-length}
use Rattle.nl_dir.proofs.Records.{alone-addresses, beside-addresses}
use Rattle.nl_dir.proofs.RemoveProofs.{PutsPlace, drops-page, drops-place, puts-place}
use Rattle.nl_dir.proofs.change.drop_last.Goals as goal

-- what the call says of its record
abbrev Drops : InodeRec → InodeRec → Pages → Pages → Type 0
Drops rec after p q = DropsLast rec after p q × HasPlaces (page_of q) after

first-of-page : (p : Pages) (rec : InodeRec) (count : ℕ) → HasPlaces (page_of p) rec → 0 < rec.size → count ≡ rec.size → (count - 1) % 64 ≡ 0
    → Drops rec (record rec { size = rec.size - 1; addresses = slice_set rec.addresses ((count - 1) / 64) 0 }) p p
first-of-page p rec count has some is first = subst (λ (r : InodeRec). DropsLast rec r p p × HasPlaces (page_of p) r) (sym same) (drops-page p p rec has some refl alone)
  where
    alone : last_alone rec ≡ true
    alone = eq-eqb _ _ (ap (λ (k : ℕ). (k - 1) % 64) (sym is) ∙ first)

    addresses : slice_set rec.addresses ((count - 1) / 64) 0 ≡ (shorter rec).addresses
    addresses = ap (λ (k : ℕ). slice_set rec.addresses ((k - 1) / 64) 0) is ∙ sym (alone-addresses rec alone)

    same : record rec { size = rec.size - 1; addresses = slice_set rec.addresses ((count - 1) / 64) 0 } ≡ shorter rec
    same = λ i. record rec { size = rec.size - 1; addresses = addresses i }

behind-others : (p q : Pages) (rec : InodeRec) (count v : ℕ) → HasPlaces (page_of p) rec → 0 < rec.size → count ≡ rec.size → v ≡ address_of_place rec (count - 1) → (count - 1) % 64 ≢ 0
    → PutsSlot v ((count - 1) % 64) (replicate 64 0) p q → Drops rec (record rec { size = rec.size - 1 }) p q
unfolding zeros
behind-others p q rec count v has some is at odd puts = subst (λ (r : InodeRec). DropsLast rec r p q × HasPlaces (page_of q) r) (sym same) (drops-place p q rec has some placed beside)
  where
    beside : last_alone rec ≡ false
    beside = ne_eqb _ _ (λ e. odd (ap (λ (k : ℕ). (k - 1) % 64) is ∙ e))

    same : record rec { size = rec.size - 1 } ≡ shorter rec
    same = λ i. record rec { size = rec.size - 1; addresses = sym (beside-addresses rec beside) i }

    placed : PutsPlace rec (rec.size - 1) (replicate 64 0) p q
    placed =
        puts-place p q rec (rec.size - 1) (replicate 64 0) has (omega (arith, some)) (zeros-length 64)
        (subst (λ (k : ℕ). PutsSlot (address_of_place rec (k - 1)) ((k - 1) % 64) (replicate 64 0) p q) is
        (subst (λ (a : ℕ). PutsSlot a ((count - 1) % 64) (replicate 64 0) p q) at puts))

pub returns-then-last-eq0-clause-dropped : goal.returns-then-last-eq0-clause-dropped
returns-then-last-eq0-clause-dropped c = (first-of-page c.args.meta.now c.args.rec.now c.count-last.result c.requires.places c.requires.some c.count-last.ensures.value c.if-last-eq0.true).0

pub returns-then-last-eq0-clause-places : goal.returns-then-last-eq0-clause-places
returns-then-last-eq0-clause-places c = (first-of-page c.args.meta.now c.args.rec.now c.count-last.result c.requires.places c.requires.some c.count-last.ensures.value c.if-last-eq0.true).1

pub returns-else-last-eq0-clause-dropped : goal.returns-else-last-eq0-clause-dropped
returns-else-last-eq0-clause-dropped c =
    (behind-others c.args.meta.now c.put_bytes.new.meta c.args.rec.now c.count-last.result c.address_at-gone.result c.requires.places c.requires.some c.count-last.ensures.value c.address_at-gone.ensures c.if-last-eq0.false
    c.put_bytes.ensures).0

pub returns-else-last-eq0-clause-places : goal.returns-else-last-eq0-clause-places
returns-else-last-eq0-clause-places c =
    (behind-others c.args.meta.now c.put_bytes.new.meta c.args.rec.now c.count-last.result c.address_at-gone.result c.requires.places c.requires.some c.count-last.ensures.value c.address_at-gone.ensures c.if-last-eq0.false
    c.put_bytes.ensures).1
