-- What is left of the live pages: the spare block, the pages of old names.
use Rattle.std.proofs.Common.{◌≡◌, ◌⊎◌, inl, inr, ⊎_elim, ℕ, ◌*◌, ◌/◌, ◌<◌, ◌≤◌, true, List, [], length, Some, None, refl, sym, ◌∙◌, ap, subst, arith, mul-le-mul_right}
use Rattle.std.specs.Prelude.{Contains}
use Rattle.std.proofs.Math.Nat.{div-mul-le_self}
use Rattle.std.proofs.lemmas.Bool.{cases_eq, true≢false}
use Rattle.std.proofs.lemmas.Option.{none-some}
use Rattle.nl_field.specs.Live.{resolve}
use Rattle.nl_field.specs.Page.{Image, page_at}
use Rattle.nl_field.specs.declared.shape.Shape.{Shape}
use Rattle.nl_nand.specs.Nand.{ImageOf}
use Rattle.nl_nand.specs.declared.geometry.Geometry.{Geometry}
use Rattle.nl_iface.specs.Left.{HeldBeside, HoldsLive, HoldsStamp, LeavesPages}
use Rattle.nl_iface.specs.Names.{Has, LivePage, Names, led}
use Rattle.nl_iface.specs.Stored.{Stored, stored_in}
use Rattle.nl_pseg.specs.Pages.{shown_by}
use Rattle.nl_pseg.specs.Segment.{CanSpareBlock, InVictim, IsDead, KeepsBlock, Physical, held_at, is_kept}
use Rattle.nl_pseg.specs.Space.{IsWhole}
use Rattle.nl_pseg.specs.declared.held.Held.{Held}
use Rattle.nl_vseg.specs.Segment.{Segment}
use Rattle.nl_device.specs.Device.{HasLive, HasSegments, HasSpareBlock}
use Rattle.nl_device.specs.Shown.{live_page, names_of}
use Rattle.nl_device.specs.State.{held_of, led_by, old_or, to_itself}
use Rattle.nl_device.proofs.Forms.{begins, named_from, shape_is}
use Rattle.nl_device.proofs.PhysicalPages.{named_of}

-- A name that leads to a live page names a page that holds its stamp, or nothing; and it holds it but for a few names.
pub record NamesHold (shape : Shape) (names : Names) (c : Stored) : Type 0 where
  pub own : (name : ℕ) (page : LivePage) → names.live (led names name) ≡ Some page → (c.named name ≡ None) ⊎ HoldsStamp c name page.stamp
  pub stale : List ℕ
  pub few : length stale ≤ 3 * shape.pages
  pub at_names : (name : ℕ) (page : LivePage) → names.live (led names name) ≡ Some page → HoldsStamp c name page.stamp ⊎ Has stale name

pub names_in : {shape : Shape} {names : Names} {bytes : ℕ → List ℕ} {c : Stored} → LeavesPages shape names bytes c → NamesHold shape names c
names_in l = record { own = l.own; stale = l.stale; few = l.few; at_names = l.at_names }

-- each such name led there before, and its page is as it was; or it holds its page
pub names_still : {shape : Shape} {old new : Names} {before c : Stored} → NamesHold shape old before
    → ((name : ℕ) (page : LivePage) → new.live (led new name) ≡ Some page → ((old.live (led old name) ≡ Some page) × (c.named name ≡ before.named name)) ⊎ HoldsStamp c name page.stamp) → NamesHold shape new c
names_still {shape} {old} {new} {before} {c} h by = record {
  own = λ name page live. ⊎_elim
      (λ was. ⊎_elim (λ none. inl (was.1 ∙ none)) (λ holds. inr (holds.0, was.1 ∙ holds.1, holds.2)) (h.own name page was.0))
      (λ here. inr here)
      (by name page live);
  stale = h.stale;
  few = h.few;
  at_names = λ name page live. ⊎_elim
      (λ was. ⊎_elim (λ holds. inl (holds.0, was.1 ∙ holds.1, holds.2)) (λ stale. inr stale) (h.at_names name page was.0))
      (λ here. inl here)
      (by name page live);
}

-- with no old name each live page is at its name
pub names_alone : (shape : Shape) (seg : Physical) (bytes : ℕ → List ℕ) (c : Stored) → seg.pairs ≡ [] → HoldsLive (names_of seg).live bytes c → NamesHold shape (names_of seg) c
names_alone shape seg bytes c none holds = record {
  own = λ name page live. inr (there name page live);
  stale = [];
  few = omega arith;
  at_names = λ name page live. inl (there name page live);
}
  where
    there : (name : ℕ) (page : LivePage) → (names_of seg).live (led (names_of seg) name) ≡ Some page → HoldsStamp c name page.stamp
    there name page live =
        let at : (names_of seg).live name ≡ Some page = ap (λ ps. (names_of seg).live (resolve ps name)) (sym none) ∙ live in
        (record { tag = page.tag; stamp = page.stamp; bytes = bytes name }, holds name page at, refl)

-- the victim lies in the segment
pub victim_from : {geometry : Geometry} {shape : Shape} {vseg : Segment} {seg : Physical} → HasSegments geometry shape vseg seg → HasSpareBlock seg → (q : ℕ) → InVictim seg q → shape.vblocks * shape.pages ≤ q
victim_from {geometry} {shape} {vseg} {seg} segments spare q is =
    let from = (spare.in_hand (q / seg.size) is).0 in
    let le = mul-le-mul_right seg.size from in
    let most = div-mul-le_self q seg.size in
    let begin = begins segments in
    omega (arith, le, most, begin)

-- The spare block of the segment can be done without, where the place of each live page holds it.
pub leaves_pages : {geometry : Geometry} {shape : Shape} {vseg : Segment} {seg : Physical} {image : Image} → HasSegments geometry shape vseg seg → ImageOf geometry image → HasLive seg → HasSpareBlock seg → CanSpareBlock image seg → (bytes : ℕ → List ℕ) → HoldsLive (names_of seg).live bytes (stored_in image) → NamesHold shape (names_of seg) (stored_in image)
    → LeavesPages shape (names_of seg) bytes (stored_in image)
leaves_pages {geometry} {shape} {vseg} {seg} {image} segments fit live spare on bytes holds names = record {
  spare = on.block;
  from = subst (λ n. n ≤ on.block) segments.physical_first on.from;
  below = subst (λ n. on.block < n) (segments.physical_blocks ∙ sym segments.split) on.below;
  held = λ p page has. ⊎_elim (λ here. beside p page has here) (λ away. (p, away, holds p page has)) (cases_eq (p / shape.pages) on.block);
  own = names.own;
  stale = names.stale;
  few = names.few;
  at_names = names.at_names;
}
  where
    named : (p : ℕ) → shape.vblocks * shape.pages ≤ p → (stored_in image).named p ≡ named_of (shown_by (page_at image p))
    named p from = named_from shape image (shape_is segments fit) p from

    beside : (p : ℕ) (page : LivePage) → (names_of seg).live p ≡ Some page → p / shape.pages ≡ on.block → HeldBeside shape.pages on.block (stored_in image) page (bytes p)
    beside p page has here =
        let h = held_of (held_at seg p) page has in
        let q = on.copied p h.0 h.1 (ap (λ n. p / n) segments.physical_pages ∙ here) in
        let from : shape.vblocks * shape.pages ≤ p = subst (λ n. n ≤ p) (begins segments) (live.in_segment p h.0 h.1).0 in (
          q.0,
          (λ same. q.2 (ap (λ n. q.0 / n) segments.physical_pages ∙ same)),
          named q.0 (victim_from segments spare q.0 q.1) ∙ (ap named_of q.3 ∙ (sym (named p from) ∙ holds p page has)),
        )

-- the spare block stays, where live pages and those of the victim are as they were
pub spare_kept : (seg : Physical) (old c : Image) → ((p : ℕ) (h : Held) → held_at seg p ≡ Some h → page_at c p ≡ page_at old p) → ((q : ℕ) → InVictim seg q → page_at c q ≡ page_at old q) → CanSpareBlock old seg → CanSpareBlock c seg
spare_kept seg old c live victim s = record {
  block = s.block;
  from = s.from;
  below = s.below;
  idle = s.idle;
  copied = λ p h has here. let q = s.copied p h has here in (q.0, q.1, q.2, ap shown_by (victim q.0 q.1) ∙ (q.3 ∙ sym (ap shown_by (live p h has))));
}

-- pages but dead ones are as they were
module _ (seg : Physical) (old c : Image) (either : (p : ℕ) → (page_at c p ≡ page_at old p) ⊎ IsDead seg p) where
  pub spare_either : CanSpareBlock old seg → CanSpareBlock c seg
  spare_either s = spare_kept seg old c
      (λ p h has. ⊎_elim (λ same. same) (λ dead. absurd (none-some h (sym dead.dead ∙ has))) (either p))
      (λ q is. ⊎_elim (λ same. same) (λ dead. absurd (dead.apart is)) (either q))
      s

  -- the page that a name names which leads to a live page is as it was
  pub named_either : (name : ℕ) (page : LivePage) → (names_of seg).live (led (names_of seg) name) ≡ Some page → page_at c name ≡ page_at old name
  named_either name page live = ⊎_elim
      (λ same. same)
      (λ dead. ⊎_elim
      (λ own. let h = held_of (held_at seg (resolve seg.pairs name)) page live in absurd (none-some h.0 (sym dead.dead ∙ (ap (held_at seg) (sym own) ∙ h.1))))
      (λ pair. absurd (dead.own (resolve seg.pairs name, pair)))
      (old_or seg.pairs name))
      (either name)

-- Where no pair is new, and no live page but new ones, a name leads where it led, or is that of a new page.
module _ (old new : Physical) (was : IsWhole old) (fewer : (n t : ℕ) → Contains new.pairs (n, t) → Contains old.pairs (n, t)) (New : ℕ → Type 0) (fresh : (p : ℕ) → New p → held_at old p ≡ None) (less : (p : ℕ) (h : Held) → held_at new p ≡ Some h → (held_at old p ≡ Some h) ⊎ New p) where
  pub led_before : (name : ℕ) (page : LivePage) → (names_of new).live (led (names_of new) name) ≡ Some page
      → ((names_of old).live (led (names_of old) name) ≡ Some page) ⊎ (New name × ((names_of new).live name ≡ Some page))
  led_before name page live = ⊎_elim own by_pair (old_or new.pairs name)
    where
      h : (h : Held) × (held_at new (resolve new.pairs name) ≡ Some h) × (h.stamp ≡ page.stamp) × (h.tag ≡ page.tag)
      h = held_of (held_at new (resolve new.pairs name)) page live

      told : live_page (Some h.0) ≡ Some page
      told = ap live_page (sym h.1) ∙ live

      own : resolve new.pairs name ≡ name → ((names_of old).live (led (names_of old) name) ≡ Some page) ⊎ (New name × ((names_of new).live name ≡ Some page))
      own is =
          let here : held_at new name ≡ Some h.0 = ap (held_at new) (sym is) ∙ h.1 in
          ⊎_elim
          (λ had. inl (ap (λ n. live_page (held_at old n)) (to_itself old.pairs name (was.pages.own name h.0 had)) ∙ (ap live_page had ∙ told)))
          (λ made. inr (made, ap live_page here ∙ told))
          (less name h.0 here)

      by_pair : Contains new.pairs (name, resolve new.pairs name) → ((names_of old).live (led (names_of old) name) ≡ Some page) ⊎ (New name × ((names_of new).live name ≡ Some page))
      by_pair pair =
          let t = resolve new.pairs name in
          let there = fewer name t pair in
          ⊎_elim
          (λ had. inl (ap (λ n. live_page (held_at old n)) (led_by old.pairs name t was.pages.one_target there) ∙ (ap live_page had ∙ told)))
          (λ made. let x = was.pages.to_live name t there in absurd (none-some x.0 (sym (fresh t made) ∙ x.1)))
          (less t h.0 h.1)

-- a segment that writes to no block, with none in hand, has a block that holds nothing
pub spare_idle : (seg : Physical) (image : Image) → IsWhole seg → KeepsBlock seg → seg.victim ≡ None → seg.left ≡ 0 → CanSpareBlock image seg
spare_idle seg image whole keeps none left =
    let kept : is_kept seg keeps.block ≡ true = ⊎_elim (λ is. is) (λ hand. absurd (none-some keeps.block (sym none ∙ hand))) keeps.kept in
    record {
      block = keeps.block;
      from = keeps.from;
      below = keeps.below;
      idle = λ page next here. omega (arith, next.0, next.1, left);
      copied = λ p h has here. absurd (true≢false (sym kept ∙ (ap (is_kept seg) (sym here) ∙ whole.pages.in_use p h has)));
    }

pub none_in_hand : (seg : Physical) → seg.victim ≡ None → (victim : ℕ) → seg.victim ≡ Some victim → (seg.first ≤ victim) × (victim < seg.blocks)
none_in_hand seg none victim is = absurd (none-some victim (sym none ∙ is))

pub hand_kept : (old new : Physical) → new.first ≡ old.first → new.blocks ≡ old.blocks → new.victim ≡ old.victim → HasSpareBlock old → (victim : ℕ) → new.victim ≡ Some victim → (new.first ≤ victim) × (victim < new.blocks)
hand_kept old new first blocks same has victim is = let w = has.in_hand victim (sym same ∙ is) in (subst (λ n. n ≤ victim) (sym first) w.0, subst (λ n. victim < n) (sym blocks) w.1)
