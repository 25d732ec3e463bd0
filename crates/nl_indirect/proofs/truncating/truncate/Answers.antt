use Rattle.std.proofs.Common.{◌+◌, ◌∙◌, IsSome, sym, ap, subst, length, unwrap_or, List, [], Option, ℕ}
use Rattle.nl_field.specs.declared.inode.InodeRec.{InodeRec}
use Rattle.nl_field.specs.Pointers.{indirect_of}
use Rattle.nl_meta.specs.Pages.{Pages, page_of}
use Rattle.nl_meta.proofs.Lists.{some_in}
use Rattle.nl_indirect.specs.Ranges.{HasRange, range_of, slot_of}
use Rattle.nl_indirect.specs.Truncating.{CutsSlots, StaysBefore, TruncatesPointers}
use Rattle.nl_indirect.proofs.Pointing.{address-range}
use Rattle.nl_indirect.proofs.Spelled.{Spells, spells}
use Rattle.nl_indirect.proofs.Truncated.{cut-ranges, truncated-node, truncated-whole, truncated-within}
use Rattle.nl_indirect.proofs.truncating.truncate.Goals as goal

pub returns-then-from-lt-DIRECT : goal.returns-then-from-lt-DIRECT
returns-then-from-lt-DIRECT c =
    subst (λ (is : InodeRec). TruncatesPointers c.args.from c.args.rec.now is c.args.meta.now c.args.meta.now)
    (sym (c.drop_ranges.ensures ∙ ap (λ (r : InodeRec). cut-ranges r 0) c.drop_direct.ensures))
    (truncated-node c.args.rec.now c.requires.file c.args.from c.args.meta.now c.if-from-lt-DIRECT.true)

-- the page that stays spells pointers
spelled : (p : Pages) (rec : InodeRec) (from : ℕ) → HasRange (page_of p) rec from → (stays : StaysBefore p rec from) → Spells stays.bytes
spelled p rec from range stays = let has = range stays.not_zero in spells stays.bytes (subst (λ (l : List ℕ). IsSome (indirect_of l)) (some_in _ _ (sym has.there ∙ stays.there)) has.spelled)

pub cut-requires-clause-whole : goal.cut-requires-clause-whole
cut-requires-clause-whole c =
    let both = c.stays.ensures.some c.if-stays.true in
    ap (λ (v : ℕ). length (unwrap_or (page_of c.args.meta.now v) [])) (sym (address-range c.args.rec.now c.args.from c.if-from-lt-DIRECT.false))
    ∙ ap (λ (o : Option (List ℕ)). length (unwrap_or o [])) both.1.there
    ∙ (spelled c.args.meta.now c.args.rec.now c.args.from (c.requires.range both.0) both.1).whole

pub returns-then-stays : goal.returns-then-stays
returns-then-stays c =
    let both = c.stays.ensures.some c.if-stays.true in
    let at = address-range c.args.rec.now c.args.from c.if-from-lt-DIRECT.false in
    let there = ap (page_of c.args.meta.now) (sym at) ∙ both.1.there in
    let cut = c.cut.ensures in
    let bytes-are = ap (λ (o : Option (List ℕ)). unwrap_or o []) there in
    subst (λ (is : InodeRec). TruncatesPointers c.args.from c.args.rec.now is c.args.meta.now c.cut.new.meta) (sym c.drop_ranges-then-stays.ensures)
    (subst (λ (pages : Pages). TruncatesPointers c.args.from c.args.rec.now (cut-ranges c.args.rec.now (range_of c.args.from + 1)) c.args.meta.now pages) (sym cut.2)
    (truncated-within c.args.rec.now c.requires.file c.args.from c.args.meta.now c.if-from-lt-DIRECT.false c.requires.within both.0 (λ z. both.1.not_zero (at ∙ z)) both.1.bytes there
    (spelled c.args.meta.now c.args.rec.now c.args.from (c.requires.range both.0) both.1) both.1.before cut.0 (subst (λ (l : List ℕ). CutsSlots (slot_of c.args.from) l cut.0) bytes-are cut.1)))

pub returns-else-stays : goal.returns-else-stays
returns-else-stays c =
    subst (λ (is : InodeRec). TruncatesPointers c.args.from c.args.rec.now is c.args.meta.now c.args.meta.now) (sym c.drop_ranges-else-stays.ensures)
    (truncated-whole c.args.rec.now c.requires.file c.args.from c.args.meta.now c.if-from-lt-DIRECT.false c.requires.within (c.stays.ensures.none c.if-stays.false))
