-- Who holds the pages of a volume that is opened: its files, and nobody else.
use Rattle.std.proofs.Common.{◌≡◌, ◌≢◌, inl, inr, ℕ, ◌<◌, ◌≤◌, List, [], ◌∷◌, map, Some, refl, sym, ap, subst, ◌∙◌}
use Rattle.std.specs.Prelude.{AllPairs}
use Rattle.nl_field.specs.Members as members
use Rattle.nl_field.specs.SpareRecord.{stamp_of}
use Rattle.nl_field.specs.declared.pointer.Pointer.{Pointer}
use Rattle.nl_field.specs.declared.pointer.Tag.{Tag}
use Rattle.nl_field.specs.declared.seen.Seen.{Seen}
use Rattle.nl_field.specs.declared.shape.Shape.{Shape}
use Rattle.nl_device.specs.Reopened.{AreTagged}
use Rattle.nl_device.proofs.Reopened.{listed, once, some_time}
use Rattle.nl_spec_holders.specs.Holding.{Holding}
use Rattle.nl_spec_holders.specs.Opening.{OpensHolding}
use Rattle.nl_iface.specs.Holders.{tagged, times}
use Rattle.nl_iface.specs.Moves.{Retains}
use Rattle.nl_iface.specs.Names.{Has, LivePage, led}
use Rattle.nl_meta.specs.Committed.{VirtualMap}
use Rattle.nl_meta.specs.Consistent.{ConsistentOver, tag_on}
use Rattle.nl_meta.specs.Nodes.{Held, held_in}
use Rattle.nl_meta.specs.PointerLists.{tagged_in, with_tag}
use Rattle.nl_meta.proofs.Lists.{some_in}
use Rattle.nl_core_open.specs.Beginning.{HaveOneOwner}
use Rattle.nl_core_open.proofs.Owners.{IsSeenAs}

-- ---- the list of the pointers of files

pub tagged_pointers : (hs : List Held) → map tagged (map with_tag hs) ≡ map (λ (h : Held). h.pointer) hs
tagged_pointers [] = refl
tagged_pointers (h ∷ hs) = ap (λ (ps : List Pointer). h.pointer ∷ ps) (tagged_pointers hs)

held_of : (hs : List Held) (x : Tag × Pointer) → Has (map with_tag hs) x → (h : Held) × members.Has hs h × (with_tag h ≡ x)
held_of [] x has = absurd has
held_of (h ∷ hs) x (inl same) = (h, inl refl, same)
held_of (h ∷ hs) x (inr has) = let k = held_of hs x has in (k.0, inr k.1, k.2)

pub are_tagged : (shape : Shape) (pages : VirtualMap) (seen : List Seen) (place : Pointer → ℕ) (found : List (ℕ × LivePage)) → ConsistentOver shape pages seen → HaveOneOwner shape seen
    → ((p : ℕ) (page : LivePage) → Has found (p, page) → IsSeenAs shape seen page) → AreTagged place found (tagged_in shape pages)
are_tagged shape pages seen place found c owners seen_as x page has at stamp =
    let k = held_of (held_in shape pages) x has in
    let there = c.metadata.tree.pointers.there k.0 k.1 in
    let s = seen_as (place x.1) page at in
    let record_is = there.is_page.record_on in
    let e : tag_on s.of.rec ≡ tag_on there.page.rec = owners s.of there.page s.has there.listed (c.metadata.physical_stamps s.of s.has) (c.metadata.physical_stamps there.page there.listed)
    (s.number ∙ stamp ∙ sym (ap (λ (y : Tag × Pointer). y.1.stamp) k.2) ∙ sym (ap stamp_of record_is)) in
    some_in page.tag x.0 (sym s.owner ∙ e ∙ ap tag_on record_is ∙ ap (λ (y : Tag × Pointer). Some y.0) k.2)

-- ---- an opening

module _ (v : Holding) (kept : List Pointer) (place : Pointer → ℕ) (found : List (ℕ × LivePage)) (listed_is : map tagged v.running ≡ kept) (retains : Retains kept place found v.names)
    (differ : AllPairs (λ (p q : Pointer). p.stamp ≢ q.stamp) kept) (owners : AreTagged place found v.running) where
  kept_has : (h : Tag × Pointer) → Has v.running h → Has kept h.1
  kept_has h has = subst (λ (ps : List Pointer). Has ps h.1) listed_is (listed v.running h has)

  pub are_held : (h : Tag × Pointer) (page : LivePage) → Has v.running h → v.names.live (led v.names h.1.name) ≡ Some page → page.tag ≡ h.0
  are_held h page has live =
      let lives = retains.lives h.1 (kept_has h has) in
      let e : lives.0 ≡ page = some_in lives.0 page (sym lives.1 ∙ sym (ap v.names.live (retains.ways h.1 (kept_has h has))) ∙ live) in
      owners h page has (subst (λ (l : LivePage). Has found (place h.1, l)) e lives.3) (ap (λ (l : LivePage). l.stamp) (sym e) ∙ lives.2)

  pub are_once : (s : ℕ) → times tagged s v.running ≤ 1
  are_once s = once v.running s (subst (λ (ps : List Pointer). AllPairs (λ (p q : Pointer). p.stamp ≢ q.stamp) ps) (sym listed_is) differ)

  pub are_all : (p : Pointer) → Has kept p → 1 ≤ times tagged p.stamp v.running
  are_all p has = some_time v.running p (subst (λ (ps : List Pointer). Has ps p) (sym listed_is) has)

  pub opens : v.committed ≡ map tagged v.running → v.flight ≡ [] → v.freeing ≡ [] → v.due ≡ 0 → v.frozen ≡ [] → v.leaving ≡ 0 → v.number ≡ v.decided → v.decided < v.next → OpensHolding kept v
  opens committed no_flight none_await none_due thawed none_leaves number next = record {
    running = kept_has;
    tags = are_held;
    once = are_once;
    all = are_all;
    committed = λ p has. subst (λ (ps : List Pointer). Has ps p) (committed ∙ listed_is) has;
    no_flight = no_flight;
    none_await = none_await;
    none_due = none_due;
    thawed = thawed;
    none_leaves = none_leaves;
    number = number;
    next = next;
  }
