-- The device after an erase of its victim, whether it was done or failed.
use Rattle.std.proofs.Common.{◌≡◌, ◌⊎◌, inl, inr, ⊎_elim, ℕ, zero, suc, ◌+◌, ◌*◌, ◌/◌, ◌<◌, ◌≤◌, true, cond, is_some, List, [], ◌∷◌, length, map, get_or, Option, Some, None, refl, sym, ◌∙◌, ap, subst, arith}
use Rattle.std.specs.Prelude.{Contains, ◌↔◌}
use Rattle.std.proofs.lemmas.Bool.{cases_eq, true≢false}
use Rattle.std.proofs.lemmas.List.{length-map}
use Rattle.std.proofs.lemmas.Option.{none-some}
use Rattle.nl_callbacks.specs.Pending.{PendingTable}
use Rattle.nl_field.specs.Live.{resolve}
use Rattle.nl_field.specs.Page.{Image, page_at}
use Rattle.nl_field.specs.declared.shape.Shape.{Shape}
use Rattle.nl_iface.specs.Left.{HoldsLive, LeavesPages}
use Rattle.nl_iface.specs.Moves.{LeavesErased}
use Rattle.nl_iface.specs.Names.{Has}
use Rattle.nl_iface.specs.Stored.{NamedPage, stored_in}
use Rattle.nl_nand.specs.Nand.{ImageOf}
use Rattle.nl_nand.specs.declared.geometry.Geometry.{Geometry}
use Rattle.nl_pseg.specs.Cleaning.{KeepsBeside}
use Rattle.nl_pseg.specs.Segment.{CanSpareBlock, InVictim, IsPhysicalOf, KeepsBlock, Physical, held_at}
use Rattle.nl_pseg.specs.Space.{IsWhole, left_in_victim, victims}
use Rattle.nl_pseg.specs.declared.held.Held.{Held}
use Rattle.nl_vseg.specs.Segment.{Segment}
use Rattle.nl_device.specs.Callbacks.{names_with}
use Rattle.nl_device.specs.Device.{HasLive, HasSpareBlock, IsDevice, IsFoundStored}
use Rattle.nl_device.specs.Kept.{KeptPages, forgotten}
use Rattle.nl_device.specs.Laws.{leaves_as}
use Rattle.nl_device.specs.Shown.{bytes_at, live_page, names_of}
use Rattle.nl_device.specs.Space.{space_of}
use Rattle.nl_device.specs.State.{old_or}
use Rattle.nl_device.proofs.Calling.{called_same}
use Rattle.nl_device.proofs.Calls.{device_of, found_after, medium_of, named_in, stored_after}
use Rattle.nl_device.proofs.Forms.{begins}
use Rattle.nl_device.proofs.Leaving.{NamesHold, leaves_pages, names_in, victim_from}
use Rattle.nl_device.proofs.Living.{same_before, same_keeps}
use Rattle.nl_device.proofs.Naming.{addresses_same, firm_kept, holds_live, named_none, named_same}

-- when there is nothing to erase
pub erase_idle : (seg : Physical) {A : Type 0} → A ↔ ((victims seg ≡ 1) × (left_in_victim seg ≡ 0) → ⊥) → A ↔ (((space_of seg).victim ≡ 1) × ((space_of seg).left ≡ 0) → ⊥)
unfolding space_of
erase_idle seg is = is

abbrev hand_count : Option ℕ → ℕ
hand_count o = cond (is_some o) 1 0

hand_of : (o : Option ℕ) → hand_count o ≡ 1 → (block : ℕ) × (o ≡ Some block)
hand_of None one = absurd (omega (arith, one))
hand_of (Some block) one = (block, refl)

-- where an erase finds something to erase, a victim is in hand that has no live page
pub erasable : (seg : Physical) → (((victims seg ≡ 1) × (left_in_victim seg ≡ 0) → ⊥) → ⊥) → (block : ℕ) × (seg.victim ≡ Some block) × (left_in_victim seg ≡ 0)
erasable seg some = ⊎_elim
    (λ one. ⊎_elim
    (λ none. let hand = hand_of seg.victim one in (hand.0, hand.1, none))
    (λ off. absurd (some (λ both. off both.1)))
    (cases_eq (left_in_victim seg) 0))
    (λ off. absurd (some (λ both. off both.0)))
    (cases_eq (victims seg) 1)

-- a victim without a live page can be done without, whatever an image holds of it
pub victim_spare : (seg : Physical) (image : Image) (block : ℕ) → HasSpareBlock seg → seg.victim ≡ Some block → left_in_victim seg ≡ 0 → CanSpareBlock image seg
victim_spare seg image block spare named none = record {
  block = block;
  from = (spare.in_hand block named).0;
  below = (spare.in_hand block named).1;
  idle = λ page next here. spare.whole.pages.victim_idle page next (named ∙ ap (λ b. Some b) (sym here));
  copied = λ p h has here. absurd (spare.whole.numbers.none_left none p h has (named ∙ ap (λ b. Some b) (sym here)));
}

-- the old names of the table
names_among : (ps : List (ℕ × ℕ)) (n t : ℕ) → Contains ps (n, t) → Has (map (λ (p : ℕ × ℕ). p.0) ps) n
names_among [] n t h = let lt = h.1 in absurd (omega (arith, lt))
names_among (x ∷ xs) n t (zero, lt, is) = inl (ap (λ (p : ℕ × ℕ). p.0) is)
names_among (x ∷ xs) n t (suc i, lt, is) = inr (names_among xs n t (i, omega (arith, lt), is))

module _ {geometry : Geometry} {tells : Type 0} {image : Image} {shape : Shape} {vseg : Segment} {old : Physical} {pending : PendingTable} {kept : KeptPages} {next : ℕ} (f : IsDevice geometry tells image shape vseg old pending kept next) (t : tells) (fits : ImageOf geometry image) (block : ℕ) (named : old.victim ≡ Some block)
    (none : left_in_victim old ≡ 0) (c : Image) (c_fits : ImageOf geometry c) (keeps : KeepsBeside old block image c) where
  abbrev bytes : ℕ → List ℕ
  bytes p = bytes_at (shape.vblocks * shape.pages) image p

  in_victim : (p : ℕ) → p / old.size ≡ block → InVictim old p
  in_victim p at = named ∙ ap (λ b. Some b) (sym at)

  -- the live pages are as they were, and so are those of the virtual segment
  pub live_same : (p : ℕ) (h : Held) → held_at old p ≡ Some h → page_at c p ≡ page_at image p
  live_same p h has = ⊎_elim (λ same. same) (λ wiped. absurd (f.spare.whole.numbers.none_left none p h has (in_victim p wiped.0))) (keeps p)

  pub low_same : (p : ℕ) → p < old.first * old.size → page_at c p ≡ page_at image p
  low_same p lt = ⊎_elim
      (λ same. same)
      (λ wiped. let from = victim_from f.segments f.spare p (in_victim p wiped.0) in let b = begins f.segments in absurd (omega (arith, lt, from, b)))
      (keeps p)

  dead : (p : ℕ) → p / old.size ≡ block → (names_of old).live p ≡ None
  dead p at = by (held_at old p) refl
    where
      by : (o : Option Held) → held_at old p ≡ o → live_page (held_at old p) ≡ None
      by None e = ap live_page e
      by (Some h) e = absurd (f.spare.whole.numbers.none_left none p h e (in_victim p at))

  pub wiped_page : (p : ℕ) → ((stored_in c).named p ≡ (stored_in image).named p) ⊎ (((names_of old).live p ≡ None) × ((stored_in c).named p ≡ None))
  wiped_page p = ⊎_elim
      (λ same. inl (named_same geometry shape vseg old image c f.segments fits c_fits f.live (f.medium t).physical_is p same))
      (λ wiped. inr (dead p wiped.0, named_none geometry shape vseg old image c f.segments fits c_fits f.live (f.medium t).physical_is p wiped.1))
      (keeps p)

  holds : HoldsLive (names_of old).live bytes (stored_in c)
  holds = holds_live geometry shape vseg old image c f.segments fits c_fits f.live (f.medium t).physical_is live_same

  -- the names that stand in the victim are old ones, which are few
  pub wiped_names : NamesHold shape (names_of old) (stored_in c)
  wiped_names =
      let was = names_in (f.medium t).pages in
      let one : victims old ≡ 1 = ap (λ (o : Option ℕ). cond (is_some o) 1 0) named in
      record {
        own = λ name page live. ⊎_elim
            (λ same. ⊎_elim (λ empty. inl (same ∙ empty)) (λ h. inr (h.0, same ∙ h.1, h.2)) (was.own name page live))
            (λ gone. inl gone.1)
            (wiped_page name);
        stale = map (λ (p : ℕ × ℕ). p.0) old.pairs;
        few =
            let count : length (map (λ (p : ℕ × ℕ). p.0) old.pairs) ≡ length old.pairs = length-map old.pairs (λ (p : ℕ × ℕ). p.0) in
            let busy = f.spare.whole.numbers.busy one in
            let size = f.segments.physical_pages in
            omega (arith, count, busy, size);
        at_names = λ name page live. ⊎_elim
            (λ own. inl (record { tag = page.tag; stamp = page.stamp; bytes = bytes name }, holds name page (ap (λ n. live_page (held_at old n)) (sym own) ∙ live), refl))
            (λ pair. inr (names_among old.pairs name (resolve old.pairs name) pair))
            (old_or old.pairs name);
      }

  pub wiped_below : (p : ℕ) (page : NamedPage) → (stored_in c).named p ≡ Some page → page.stamp + 1 ≤ next
  wiped_below p page is = ⊎_elim
      (λ same. (f.medium t).named_below p page (sym same ∙ is))
      (λ gone. absurd (none-some page (sym gone.1 ∙ is)))
      (wiped_page p)

  -- what is left of the pages
  pub wiped_left : LeavesErased (names_with old pending) bytes (stored_in image) (stored_in c)
  wiped_left = record {
    same_virtual = record {
      values = addresses_same geometry shape vseg old image c f.segments fits c_fits f.live (f.medium t).physical_is low_same;
      firm = firm_kept geometry shape vseg old image c f.segments fits c_fits f.live (f.medium t).physical_is low_same;
    };
    holds = holds;
    others = wiped_page;
  }

  pub wiped_pages : LeavesPages shape (names_with old pending) bytes (stored_in c)
  wiped_pages = leaves_as old pending (leaves_pages f.segments c_fits f.live f.spare (victim_spare old c block f.spare named none) bytes holds wiped_names)

-- a device stands then
pub wiped_device : {geometry now : Geometry} {tells : Type 0} {image c : Image} {shape : Shape} {vseg : Segment} {old : Physical} {pending : PendingTable} {kept : KeptPages} {next : ℕ} → IsDevice geometry tells image shape vseg old pending kept next → now ≡ geometry → (tells → ImageOf geometry image) → (tells → ImageOf now c)
    → (block : ℕ) → old.victim ≡ Some block → left_in_victim old ≡ 0 → (tells → KeepsBeside old block image c) → (new : Physical) → new.first ≡ old.first → new.blocks ≡ old.blocks → new.size ≡ old.size → new.held ≡ old.held → new.pairs ≡ old.pairs → IsWhole new → KeepsBlock new
    → ((victim : ℕ) → new.victim ≡ Some victim → (new.first ≤ victim) × (victim < new.blocks)) → (tells → IsPhysicalOf c new) → (tells → CanSpareBlock c new) → IsDevice now tells c shape vseg new pending (forgotten kept) next
wiped_device {geometry} {now} {tells} {image} {c} {shape} {vseg} {old} {pending} {kept} {next} f same_geometry old_fits fits block named none keeps new first blocks size held pairs whole kept_block hand segment on =
    let count : length new.held ≡ length old.held = ap (λ (l : List (Option Held)). length l) held in
    let segments = named_in f.segments same_geometry first blocks size count in
    let live : HasLive new = record {
      in_segment = whole.pages.live_within;
      blank_in = whole.pages.erased_within;
      differ = λ p q g h p_has q_has same. f.live.differ p q g h (same_before old new held p g p_has) (same_before old new held q h q_has) same;
    } in
    let spare : HasSpareBlock new = record { whole = whole; block = kept_block; in_hand = hand } in
    let stored : tells → IsFoundStored (forgotten kept) (λ p. bytes_at (shape.vblocks * shape.pages) c p) (stored_in c) = λ t. stored_after kept (forgotten kept) true refl (λ p. bytes_at (shape.vblocks * shape.pages) c p) (stored_in c) (λ un. absurd (true≢false un)) in
    device_of f segments (found_after kept (forgotten kept) true refl shape next next (omega arith) f.found) stored live spare
    (called_same old new pending pending f.called refl f.called.numbers refl pairs size (same_keeps old new held)) (omega arith)
    (λ p h has. f.stamp.live p h (same_before old new held p h has))
    (λ t.
    let fit = subst (λ n. ImageOf n c) same_geometry (fits t) in
    let w = wiped_names f t (old_fits t) block named none c fit (keeps t) in
    let back : (name : ℕ) → live_page (held_at old (resolve old.pairs name)) ≡ live_page (held_at new (resolve new.pairs name)) = λ name i. live_page (get_or (sym held i) (resolve (sym pairs i) name) None) in
    medium_of f t segments (fits t) live (low_same f t (old_fits t) block named none c fit (keeps t)) (segment t) (omega arith) spare (on t)
    (record {
      own = λ name page has. w.own name page (back name ∙ has);
      stale = w.stale;
      few = w.few;
      at_names = λ name page has. w.at_names name page (back name ∙ has);
    })
    (wiped_below f t (old_fits t) block named none c fit (keeps t)))
