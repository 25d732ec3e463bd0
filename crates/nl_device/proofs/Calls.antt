-- The device after a call of the physical segment.
use Rattle.std.proofs.Common.{◌≡◌, ◌⊎◌, inl, inr, ⊎_elim, ℕ, ◌+◌, ◌*◌, ◌<◌, ◌≤◌, Bool, true, false, cond, List, Option, Some, None, length, refl, sym, ◌∙◌, ap, subst, arith, eq-eqb, eqb-true}
use Rattle.std.proofs.lemmas.Bool.{cases_Bool, false≢true}
use Rattle.std.proofs.lemmas.Option.{same_Some, none-some}
use Rattle.nl_field.specs.Page.{Image, page_at}
use Rattle.nl_field.specs.Live.{resolve}
use Rattle.nl_field.specs.declared.pointer.Pointer.{Pointer}
use Rattle.nl_field.specs.declared.shape.Shape.{Shape}
use Rattle.nl_nand.specs.Nand.{ImageOf}
use Rattle.nl_nand.specs.declared.geometry.Geometry.{Geometry}
use Rattle.nl_iface.specs.Names.{has_stamp, leads}
use Rattle.nl_iface.specs.Stored.{NamedPage, Stored, stored_in}
use Rattle.nl_device.specs.Shown.{bytes_at, found_in, live_page, names_of}
use Rattle.nl_pseg.specs.Segment.{CanSpareBlock, InSegment, IsLive, IsPhysicalOf, Physical, SameBlocksAndPages, held_at, stamp_in}
use Rattle.nl_pseg.specs.declared.held.Held.{Held}
use Rattle.nl_vseg.specs.Segment.{Segment}
use Rattle.nl_device.specs.Kept.{KeptPages, forgotten}
use Rattle.nl_device.specs.Device.{HasFound, HasLive, HasSegments, HasSpareBlock, IsDevice, IsFoundStored, IsOnMedium}
use Rattle.nl_device.proofs.Forms.{begins}
use Rattle.nl_device.proofs.Laws.{names_are}
use Rattle.nl_device.specs.Callbacks.{AreCalled}
use Rattle.nl_device.proofs.Leaving.{NamesHold}
use Rattle.nl_device.proofs.Made.{made_medium}
use Rattle.nl_device.proofs.Naming.{map_same, shows_same, shows_still, virtual_kept}
use Rattle.nl_device.proofs.Spacing.{space_is}
use Rattle.nl_callbacks.specs.Pending.{PendingTable}

-- the two segments, after a call of the second
pub named_in : {geometry now : Geometry} {shape : Shape} {vseg : Segment} {old new : Physical} → HasSegments geometry shape vseg old → now ≡ geometry → new.first ≡ old.first → new.blocks ≡ old.blocks → new.size ≡ old.size → length new.held ≡ length old.held → HasSegments now shape vseg new
named_in {geometry} {now} {shape} {vseg} {old} {new} has is first blocks size held = subst (λ n. HasSegments n shape vseg new) (sym is) (record {
  legal = has.legal;
  numbers = has.numbers;
  blocks = has.blocks;
  pages = has.pages;
  some = has.some;
  split = has.split;
  rest = has.rest;
  virtual_pages = has.virtual_pages;
  virtual_bound = has.virtual_bound;
  addresses = has.addresses;
  physical_first = first ∙ has.physical_first;
  physical_blocks = blocks ∙ has.physical_blocks;
  physical_pages = size ∙ has.physical_pages;
  physical_held = held ∙ has.physical_held;
})

pub named_segments : {geometry now : Geometry} {shape : Shape} {vseg : Segment} {old new : Physical} → HasSegments geometry shape vseg old → now ≡ geometry → SameBlocksAndPages old new → length new.held ≡ length old.held → HasSegments now shape vseg new
named_segments has is same held = named_in has is same.same_first same.same_blocks same.same_size held

-- what the scan found stays below a next stamp that rises
pub found_still : {shape : Shape} {kept : KeptPages} {next after : ℕ} → HasFound shape kept next → next ≤ after → HasFound shape kept after
found_still f rises = record { first = f.first; count = f.count; size = f.size; below = λ i d within. let lt = f.below i d within in omega (arith, lt, rises) }

-- nothing is kept of what it found where a page was tried
found_none : (kept : KeptPages) (shape : Shape) (next after : ℕ) → HasFound shape kept next → HasFound shape (forgotten kept) after
found_none kept shape next after f = record { first = f.first; count = f.count; size = f.size; below = λ i d within. absurd (omega (arith, within)) }

none_stored : (kept : KeptPages) (bytes : ℕ → List ℕ) (c : Stored) → IsFoundStored (forgotten kept) bytes c
unfolding found_in
none_stored kept bytes c = record { holds = λ p page has. absurd (none-some page has); only = λ p none. inl refl }

pub found_after : (kept left : KeptPages) (tried : Bool) → left ≡ cond tried (forgotten kept) kept → (shape : Shape) (next after : ℕ) → next ≤ after → HasFound shape kept next → HasFound shape left after
found_after kept left tried is shape next after rises f = subst (λ k. HasFound shape k after) (sym is) (by tried)
  where
    by : (b : Bool) → HasFound shape (cond b (forgotten kept) kept) after
    by true = found_none kept shape next after f
    by false = found_still f rises

pub stored_after : (kept left : KeptPages) (tried : Bool) → left ≡ cond tried (forgotten kept) kept → (bytes : ℕ → List ℕ) (c : Stored) → (tried ≡ false → IsFoundStored kept bytes c) → IsFoundStored left bytes c
stored_after kept left tried is bytes c still = subst (λ k. IsFoundStored k bytes c) (sym is) (by tried refl)
  where
    by : (b : Bool) → tried ≡ b → IsFoundStored (cond b (forgotten kept) kept) bytes c
    by true e = none_stored kept bytes c
    by false e = still e

-- what was found is stored still, where the pages of the physical segment are as before
pub found_beyond : (kept : KeptPages) (shape : Shape) (old new : Image) → ((p : ℕ) → (stored_in new).named p ≡ (stored_in old).named p) → ((p : ℕ) → bytes_at (shape.vblocks * shape.pages) new p ≡ bytes_at (shape.vblocks * shape.pages) old p)
    → IsFoundStored kept (λ p. bytes_at (shape.vblocks * shape.pages) old p) (stored_in old) → IsFoundStored kept (λ p. bytes_at (shape.vblocks * shape.pages) new p) (stored_in new)
found_beyond kept shape old new named bytes stored = record {
  holds = λ p page is. named p ∙ stored.holds p page is ∙ (λ i. Some (record { tag = page.tag; stamp = page.stamp; bytes = sym (bytes p) i }));
  only = λ p none. ⊎_elim (λ empty. inl empty) (λ nothing. inr (named p ∙ nothing)) (stored.only p none);
}

pub device_of : {geometry now : Geometry} {tells : Type 0} {image c : Image} {shape : Shape} {vseg : Segment} {old new : Physical} {pending now_pending : PendingTable} {kept left : KeptPages} {next after : ℕ} → IsDevice geometry tells image shape vseg old pending kept next
    → HasSegments now shape vseg new → HasFound shape left after → (tells → IsFoundStored left (λ p. bytes_at (shape.vblocks * shape.pages) c p) (stored_in c)) → HasLive new → HasSpareBlock new → AreCalled new now_pending → next ≤ after → ((p : ℕ) (h : Held) → held_at new p ≡ Some h → h.stamp < after)
    → (tells → IsOnMedium shape after c vseg new) → IsDevice now tells c shape vseg new now_pending left after
device_of f segments found stored live spare called rises stamps medium = record {
  segments = segments;
  mapped = f.mapped;
  live = live;
  spare = spare;
  called = called;
  stamp = record {
    some = let s = f.stamp.some in omega (arith, s, rises);
    addresses = λ v t has. let lt = f.stamp.addresses v t has in omega (arith, lt, rises);
    live = stamps;
  };
  found = found;
  found_stored = stored;
  legal = f.legal;
  unwritten = f.unwritten;
  names = names_are segments _ live (space_is _ spare) stamps;
  medium = medium;
}

pub device_with : {geometry now : Geometry} {tells : Type 0} {image c : Image} {shape : Shape} {vseg : Segment} {old new : Physical} {pending now_pending : PendingTable} {kept left : KeptPages} {next after : ℕ} → IsDevice geometry tells image shape vseg old pending kept next
    → HasFound shape left after → (tells → IsFoundStored left (λ p. bytes_at (shape.vblocks * shape.pages) c p) (stored_in c)) → now ≡ geometry → SameBlocksAndPages old new → length new.held ≡ length old.held → HasLive new → HasSpareBlock new → AreCalled new now_pending → next ≤ after → ((p : ℕ) (h : Held) → held_at new p ≡ Some h → h.stamp < after)
    → (tells → IsOnMedium shape after c vseg new) → IsDevice now tells c shape vseg new now_pending left after
device_with f found stored is same held live spare called rises stamps medium = device_of f (named_segments f.segments is same held) found stored live spare called rises stamps medium

-- the medium, where the pages of the virtual segment are as before
pub medium_of : {geometry now : Geometry} {image c : Image} {shape : Shape} {vseg : Segment} {old new : Physical} {pending : PendingTable} {kept : KeptPages} {next after : ℕ} {tells : Type 0} → IsDevice geometry tells image shape vseg old pending kept next → tells
    → HasSegments now shape vseg new → ImageOf now c → HasLive new → ((p : ℕ) → p < old.first * old.size → page_at c p ≡ page_at image p) → IsPhysicalOf c new → next ≤ after → HasSpareBlock new → CanSpareBlock c new → NamesHold shape (names_of new) (stored_in c)
    → ((p : ℕ) (page : NamedPage) → (stored_in c).named p ≡ Some page → page.stamp + 1 ≤ after) → IsOnMedium shape after c vseg new
medium_of {geometry} {now} {image} {c} {shape} {vseg} {old} {new} {pending} {kept} {next} {after} f t segments fits live low physical rises spare on names named =
    let below : (p : ℕ) → p < shape.vblocks * shape.pages → page_at c p ≡ page_at image p = λ p lt. low p (subst (λ n. p < n) (sym (begins f.segments)) lt) in
    let under : (p : ℕ) → p < vseg.bound → page_at c p ≡ page_at image p = λ p lt. below p (subst (λ n. p < n) f.segments.virtual_bound lt) in
    made_medium segments fits live
    (virtual_kept image c vseg f.mapped under (f.medium t).virtual_is) physical
    (λ v s main has. shows_still (shape.vblocks * shape.pages) image c below v s main ((f.medium t).there v s main (sym (map_same image c vseg f.mapped under v) ∙ has)))
    (λ v s main shows. let lt = (f.medium t).below v s main (shows_same (shape.vblocks * shape.pages) image c below v s main shows) in omega (arith, lt, rises))
    named spare on names

pub medium_with : {geometry now : Geometry} {image c : Image} {shape : Shape} {vseg : Segment} {old new : Physical} {pending : PendingTable} {kept : KeptPages} {next after : ℕ} {tells : Type 0} → IsDevice geometry tells image shape vseg old pending kept next → tells
    → now ≡ geometry → SameBlocksAndPages old new → length new.held ≡ length old.held → ImageOf now c → HasLive new → ((p : ℕ) → p < old.first * old.size → page_at c p ≡ page_at image p) → IsPhysicalOf c new → next ≤ after → HasSpareBlock new → CanSpareBlock c new → NamesHold shape (names_of new) (stored_in c)
    → ((p : ℕ) (page : NamedPage) → (stored_in c).named p ≡ Some page → page.stamp + 1 ≤ after) → IsOnMedium shape after c vseg new
medium_with f t is same held fits live low physical rises spare on names named = medium_of f t (named_segments f.segments is same held) fits live low physical rises spare on names named

-- what is held where a pointer leads
pub held_from : (o : Option Held) (s : ℕ) → stamp_in o ≡ Some s → (h : Held) × (o ≡ Some h) × (h.stamp ≡ s)
held_from None s is = absurd (none-some s is)
held_from (Some h) s is = (h, refl, same_Some h.stamp s is)

-- pages of the segment are below the end of the medium
pub in_within : {geometry : Geometry} {shape : Shape} {vseg : Segment} {pseg : Physical} → HasSegments geometry shape vseg pseg → (p : ℕ) → InSegment pseg p → p < length pseg.held
in_within has p is = subst (λ n. p < n) ((λ i. has.physical_blocks i * has.physical_pages i) ∙ sym has.physical_held) is.1

leads_from : (o : Option Held) (s : ℕ) → has_stamp (live_page o) s ≡ true → stamp_in o ≡ Some s
leads_from None s is = absurd (false≢true is)
leads_from (Some h) s is = ap (λ n. Some n) (eqb-true h.stamp s is)

leads_to : (o : Option Held) (s : ℕ) → stamp_in o ≡ Some s → has_stamp (live_page o) s ≡ true
leads_to None s is = absurd (none-some s is)
leads_to (Some h) s is = eq-eqb h.stamp s (same_Some h.stamp s is)

-- a pointer leads where it is live
pub leads_is : (seg : Physical) (at : Pointer) → leads (names_of seg) at ≡ true → IsLive seg at
leads_is seg at is = leads_from (held_at seg (resolve seg.pairs at.name)) at.stamp is

pub is_leads : (seg : Physical) (at : Pointer) → IsLive seg at → leads (names_of seg) at ≡ true
is_leads seg at is = leads_to (held_at seg (resolve seg.pairs at.name)) at.stamp is

pub live_or : (seg : Physical) (at : Pointer) → IsLive seg at ⊎ (IsLive seg at → ⊥)
live_or seg at = ⊎_elim (λ is. inl (leads_is seg at is)) (λ fails. inr (λ is. false≢true (sym fails ∙ is_leads seg at is))) (cases_Bool (leads (names_of seg) at))

-- the device with other callbacks
pub device_called : {geometry : Geometry} {tells : Type 0} {image : Image} {shape : Shape} {vseg : Segment} {pseg : Physical} {pending now_pending : PendingTable} {kept : KeptPages} {next : ℕ} → IsDevice geometry tells image shape vseg pseg pending kept next → AreCalled pseg now_pending
    → IsDevice geometry tells image shape vseg pseg now_pending kept next
device_called f called = record {
  segments = f.segments;
  mapped = f.mapped;
  live = f.live;
  spare = f.spare;
  called = called;
  stamp = f.stamp;
  found = f.found;
  found_stored = f.found_stored;
  legal = f.legal;
  unwritten = f.unwritten;
  names = f.names;
  medium = f.medium;
}
