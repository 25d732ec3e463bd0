use Rattle.std.proofs.Common.{◌≡◌, ◌≢◌, ◌≤◌, ◌<◌, ◌∙◌, refl, sym, ap, subst, not, is_some, unwrap_or, get_or, length, arith, List, [], Option, Some, None, ℕ, IfSome}
use Rattle.std.proofs.lemmas.Bool.{both_ways}
use Rattle.nl_field.specs.Pointers.{is_none_pointer, is_pointer, pointer_bytes, pointer_of}
use Rattle.nl_field.specs.declared.inode.InodeRec.{InodeRec}
use Rattle.nl_field.specs.declared.pointer.Pointer.{Pointer}
use Rattle.nl_meta.specs.Pages.{Pages, page_of}
use Rattle.nl_meta.specs.SlotLaws.{with_slot}
use Rattle.nl_meta.specs.Steps.{with_dirty}
use Rattle.nl_meta.proofs.Lists.{some_in}
use Rattle.nl_indirect.specs.Ranges.{HasOther, HasPointers, HasRange, IsFileRecord, address_of, range_of, slot_of}
use Rattle.nl_indirect.specs.Storing.{IsForNew, Stores, or_none}
use Rattle.nl_indirect.specs.declared.answer.Stored.TheVariants.{Done, Emptied}
use Rattle.nl_indirect.proofs.Cases.{holds-other, holds-put, no-fresh, stored-begun, stored-emptied, stored-in-node, stored-nothing, stored-written, to-none, to-some, to-spelled}
use Rattle.nl_indirect.proofs.Pointing.{address-range}
use Rattle.nl_indirect.proofs.Records.{with-address, with-pointer}
use Rattle.nl_indirect.proofs.Spelled.{HoldsSome, spells}
use Rattle.nl_indirect.proofs.pointers.store.Goals as goal
use Rattle.nl_indirect.proofs.pointers.store.Goals.{else-is_none-via-then-is_none+else-not-has_other, else-is_none-via-else-is_none}

pub returns-then-index-lt-DIRECT : goal.returns-then-index-lt-DIRECT
returns-then-index-lt-DIRECT c =
    let rec = c.args.rec.now in
    let index = c.args.index in
    let p = c.unwrap_or.result in
    let e : p ≡ or_none c.args.to = c.unwrap_or.ensures in
    subst (λ (q : Pointer). Stores index q c.args.fresh rec (with-pointer rec index p) c.args.meta.now c.args.meta.now Done) e
    (stored-in-node rec c.requires.file index c.requires.within c.args.fresh c.args.meta.now p c.if-index-lt-DIRECT.true (ap is_pointer e ∙ to-spelled c.args.to c.requires.to)
    (no-fresh c.args.fresh (λ some. let h = (c.requires.begins.0 some).in_range in let l = c.if-index-lt-DIRECT.true in absurd (omega (arith, h, l)))))

pub returns-in-Some : goal.returns-in-Some
returns-in-Some c =
    let rec = c.args.rec.now in
    let index = c.args.index in
    let p = c.unwrap_or-in-Some.result in
    let e : p ≡ or_none c.args.to = c.unwrap_or-in-Some.ensures in
    let begins = c.requires.begins.0 (ap is_some c.in-Some.is) in
    let page = c.begin.ensures.page in
    let high = c.if-index-lt-DIRECT.false in
    let free : IsForNew c.args.meta.now rec c.in-Some.new = subst (λ (o : Option ℕ). IfSome o (λ a. IsForNew c.args.meta.now rec a)) c.in-Some.is c.requires.fresh in
    subst (λ (q : Pointer). Stores index q c.args.fresh rec (with-address rec (range_of index) c.in-Some.new) c.args.meta.now c.begin.new.meta Done) e
    (stored-begun rec c.requires.file index c.requires.within c.args.fresh c.args.meta.now high p c.begin.ensures.back c.in-Some.new page.0 c.begin.new.meta
    (sym (address-range rec index high) ∙ begins.no_page) free (ap is_none_pointer e ∙ to-some c.args.to c.requires.to begins.pointer) c.in-Some.is page.1 page.2)

pub returns-then-address-eq0 : goal.returns-then-address-eq0
returns-then-address-eq0 c =
    let rec = c.args.rec.now in
    let index = c.args.index in
    let high = c.if-index-lt-DIRECT.false in
    let none = to-none c.args.to (λ some. both_ways _ (ap is_some c.in_default.is) (c.requires.begins.1 (record { in_range = high; no_page = address-range rec index high ∙ c.if-address-eq0.true; pointer = some }))) in
    subst (λ (q : Pointer). Stores index q c.args.fresh rec rec c.args.meta.now c.args.meta.now Done) (sym none)
    (stored-nothing rec c.requires.file index c.requires.within c.args.fresh c.args.meta.now high c.if-address-eq0.true c.in_default.is)

pub returns-then-not-has_other : goal.returns-then-not-has_other
returns-then-not-has_other c =
    let rec = c.args.rec.now in
    let index = c.args.index in
    let none = to-none c.args.to (λ some. both_ways _ (c.is_none.ensures ∙ ap not c.if-is_none.true) some) in
    subst
    (λ (q : Pointer). Stores index q c.args.fresh rec (with-address rec (range_of index) 0) c.args.meta.now c.args.meta.now (Emptied (get_or rec.addresses (range_of index) 0))) (sym none)
    (stored-emptied rec c.requires.file index c.requires.within c.args.fresh c.args.meta.now c.if-index-lt-DIRECT.false c.page.result.now.main c.if-address-eq0.false c.page.ensures
    (c.if-not-has_other.ensures.none refl) c.in_default.is)

-- the page of the range, which has the pointer in its slot
in-page : (was : InodeRec) → IsFileRecord was → (index : ℕ) → index < 4104 → 8 ≤ index → (fresh : Option ℕ) → fresh ≡ None → (old new : Pages) (to p : Pointer) → p ≡ to
    → pointer_of (pointer_bytes p) ≡ Some p → get_or was.addresses (range_of index) 0 ≢ 0 → HasRange (page_of old) was index
    → ((bytes : List ℕ) → page_of old (get_or was.addresses (range_of index) 0) ≡ Some bytes → length bytes ≡ 4096 → HoldsSome (with_slot 16 (slot_of index) (pointer_bytes p) bytes))
    → new ≡ with_dirty old (get_or was.addresses (range_of index) 0) (with_slot 16 (slot_of index) (pointer_bytes p) (unwrap_or (page_of old (get_or was.addresses (range_of index) 0)) []))
    → Stores index to fresh was was old new Done
in-page was file index within high fresh none old new to p e back far range some is =
    subst (λ (q : Pointer). Stores index q fresh was was old new Done) e
    (subst (λ (pages : Pages). Stores index p fresh was was old pages Done) (sym is)
    (stored-written was file index within fresh old high p back has.bytes far has.there (spells has.bytes has.spelled) (some has.bytes has.there (spells has.bytes has.spelled).whole) none))
  where
    address : address_of was index ≡ get_or was.addresses (range_of index) 0
    address = address-range was index high

    has : HasPointers (page_of old) (get_or was.addresses (range_of index) 0)
    has = subst (λ (v : ℕ). HasPointers (page_of old) v) address (range (λ z. far (sym address ∙ z)))

pub returns : goal.returns
returns c =
    in-page c.args.rec.now c.requires.file c.args.index c.requires.within c.if-index-lt-DIRECT.false c.args.fresh c.in_default.is c.args.meta.now c.put.new.meta (or_none c.args.to)
    c.unwrap_or-2.result c.unwrap_or-2.ensures c.put.ensures.back c.if-address-eq0.false c.requires.range
    (λ bytes there whole.
    elim c.else-is_none.branch [
      | else-is_none-via-then-is_none+else-not-has_other w ↦
          holds-other bytes (slot_of c.args.index) c.unwrap_or-2.result whole (omega arith)
          (subst (λ (l : List ℕ). HasOther l (slot_of c.args.index)) (some_in _ _ (sym w.page.ensures ∙ there)) (w.has_other.ensures.some w.if-not-has_other.false))
      | else-is_none-via-else-is_none w ↦
          holds-put bytes (slot_of c.args.index) c.unwrap_or-2.result whole (omega arith) c.put.ensures.back
          (ap is_none_pointer c.unwrap_or-2.ensures ∙ to-some c.args.to c.requires.to (c.is_none.ensures ∙ ap not w.if-is_none.false))
    ])
    c.put.ensures.page
