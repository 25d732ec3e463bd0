-- What is left is sound: from what a device promises, and what its committed map means.
use Rattle.std.proofs.Common.{◌≡◌, ◌≢◌, ℕ, ◌-◌, ◌*◌, ◌≤◌, Bool, true, false, not, ◌&&◌, ◌||◌, List, [], map, refl, sym, ap, subst, ◌∙◌, Option, Some, None, is_some, ◌⊎◌, inl, inr, arith, ◌==◌, ◌/◌, IsTrue, IsSome}
use Rattle.std.proofs.lemmas.Bool.{and_parts, and_from, or_cases, or_left, or_right, eq-eqb, eqb-false, eqb-true, ne_eqb, not_from_false, not-true}
use Rattle.std.proofs.lemmas.Slice.Eq.{bytes_eq-Decides}
use Rattle.std.specs.List.{list_any, list_all, range_with_len}
use Rattle.std.specs.Prelude.{count_by, drop, option_map, unwrap_or}
use Rattle.nl_field.specs.Bytes.{all_zero}
use Rattle.nl_field.specs.Medium.{Readable, stamp_on, shape_of_image, virtual_pages, physical_pages}
use Rattle.nl_field.specs.Members.{Has}
use Rattle.nl_field.specs.Numbers.{shape_for}
use Rattle.nl_field.specs.Page.{Image, is_image}
use Rattle.nl_field.specs.Scan.{agree, without_wear}
use Rattle.nl_field.specs.ScanList.{seen_of, seen_in, physical_seen, is_lost_seen}
use Rattle.nl_field.specs.Space.{holds_stamp, owns_name, virtual_spare, physical_spare, spare_block}
use Rattle.nl_field.specs.SpareRecord.{spare_bytes, stamp_of}
use Rattle.nl_field.specs.declared.seen.Seen.{Seen}
use Rattle.nl_field.specs.declared.spare.SpareRec.TheVariants.{Physical}
use Rattle.nl_field.proofs.Beyond.{map_is_image}
use Rattle.nl_field.proofs.ScanLists.{physical_is, lost, owns, virtual_spare_is, physical_spare_is}
use Rattle.nl_iface.specs.Left.{HoldsStamp, LeavesPages}
use Rattle.nl_iface.specs.Names.{Names, led}
use Rattle.nl_iface.specs.Stored.{NamedAgree, NamedPage, is_firm, stored_in}
use Rattle.nl_meta.specs.Committed.{VirtualMap, committed, committed_of}
use Rattle.nl_meta.specs.Consistent.{IsListed, IsPageOf, MetadataRight, OwnNames, PageOfStamp, SamePage, StampsRight}
use Rattle.nl_meta.specs.Nodes.{Held, held_in}
use Rattle.nl_meta.proofs.ImageProofs.{from_zero, on_page}
use Rattle.nl_meta.proofs.Lists.{true_false, none_some, some_in, find-some, all-each, any_member, member_any, none-any, each-all, member-map, map-member, range-member}
use Rattle.nl_meta.proofs.PointerProofs.{keys_back}
use Rattle.nl_meta.proofs.StampProofs.{same_virtual, same_physical}
use Rattle.nl_tree.specs.Tree.{Tree}
use Rattle.nl_spec_image.specs.CrashConsistency.{MapRepresents, IsLiveFor, CrashStateIsConsistent, committed_in}
use Rattle.nl_spec_image.specs.Stands.{bytes_for, bytes_found, ImageRepresents, ConsistentAs}
use Rattle.nl_spec_image.proofs.Counts.{few_pass}
use Rattle.nl_spec_image.proofs.NamedPages.{IsNamed, named_member, member_named}
use Rattle.nl_spec_image.proofs.Represented.{represents_same}

-- ---- the committed map is read from the values that are stored

map_is : (image : Image) → committed_in (shape_of_image image) (stored_in image) ≡ committed_of image
unfolding stored_in
map_is image = ap (committed (shape_of_image image)) (λ i v. map_is_image image v i)

-- ---- the virtual segment

firm_stamps : (image : Image) → is_firm image ≡ true → StampsRight (virtual_pages image)
unfolding is_firm
firm_stamps image e r q m n same =
    by (or_cases _ _ (all-each (λ q. not (stamp_on r == stamp_on q) || agree r q) (virtual_pages image) (all-each (λ r. list_all (λ q. not (stamp_on r == stamp_on q) || agree r q) (virtual_pages image)) (virtual_pages image) (and_parts _ _ e).0 r m) q n))
  where
    by : (not (stamp_on r == stamp_on q) ≡ true) ⊎ (agree r q ≡ true) → SamePage r q
    by (inl off) = absurd (eqb-false _ _ (not-true _ off) same)
    by (inr is) =
        let p = and_parts _ _ is in
        record { main = (bytes_eq-Decides r.main q.main).0 p.0; rec = (bytes_eq-Decides (spare_bytes (without_wear r.rec)) (spare_bytes (without_wear q.rec))).0 p.1 }

firm_spare : (image : Image) → is_firm image ≡ true → IsSome (virtual_spare image)
unfolding is_firm
firm_spare image e = (and_parts _ _ e).1

firm_here : (image : Image) → (stored_in image).firm ≡ true → is_firm image ≡ true
unfolding stored_in
firm_here image e = e

-- ---- pages by stamp

stored_on : (image : Image) (q : ℕ) (stamp : ℕ) → HoldsStamp (stored_in image) q stamp → (r : Readable) × Has (physical_pages image) r × (r.page ≡ q) × (stamp_on r ≡ stamp)
stored_on image q stamp h =
    let m = member_named image q h.0 h.1 in
    (m.0, m.1, m.2, ap stamp_of m.3.rec ∙ h.2)

holds_stamp_is : (image : Image) (q stamp : ℕ) → HoldsStamp (stored_in image) q stamp → holds_stamp image q stamp ≡ true
unfolding holds_stamp
holds_stamp_is image q stamp h =
    let r = stored_on image q stamp h in
    member_any (λ r. r.page == q && stamp_on r == stamp) (physical_pages image) r.0 r.1 (and_from _ _ (eq-eqb _ _ r.2) (eq-eqb _ _ r.3))

agree_right : (image : Image) → NamedAgree (stored_in image) → StampsRight (physical_pages image)
agree_right image agree r q m n same = record { main = by.0; rec = by.1 }
  where
    a : (x : NamedPage) × ((stored_in image).named r.page ≡ Some x) × IsNamed r x
    a = named_member image r m

    b : (x : NamedPage) × ((stored_in image).named q.page ≡ Some x) × IsNamed q x
    b = named_member image q n

    one : a.0 ≡ b.0
    one = agree r.page q.page a.0 b.0 a.1 b.1 (sym (ap stamp_of a.2.rec) ∙ same ∙ ap stamp_of b.2.rec)

    by : (r.main ≡ q.main) × (spare_bytes (without_wear r.rec) ≡ spare_bytes (without_wear q.rec))
    by = (
      a.2.main ∙ ap (λ (x : NamedPage). x.bytes) one ∙ sym b.2.main,
      ap (λ rec. spare_bytes (without_wear rec)) a.2.rec ∙ ap (λ (x : NamedPage). spare_bytes (Physical x.tag x.stamp 0)) one ∙ sym (ap (λ rec. spare_bytes (without_wear rec)) b.2.rec),
    )

pages_are : (image : Image) → (shape_of_image image).pages ≡ image.pages
unfolding shape_for
pages_are image = refl

-- ---- the whole

module _ (names : Names) (bytes : ℕ → List ℕ) (page_of_stamp : ℕ → Option PageOfStamp) (image : Image) (count : ℕ) (tree : Tree) (whole : IsTrue (is_image image))
    (firm : is_firm image ≡ true) (agreeing : NamedAgree (stored_in image)) (kept : LeavesPages (shape_of_image image) names bytes (stored_in image))
    (means : MapRepresents (shape_of_image image) (committed_of image) page_of_stamp count tree)
    (lead : (h : Held) → Has (held_in (shape_of_image image) (committed_of image)) h → IsLiveFor names bytes page_of_stamp h) where
  abbrev held : List Held
  held = held_in (shape_of_image image) (committed_of image)

  stamps : StampsRight (physical_pages image)
  stamps = agree_right image agreeing

  -- a pointer's page, outside the spare block
  record Page (h : Held) : Type 0 where
    page : Readable
    member : Has (physical_pages image) page
    outside : page.page / image.pages ≢ kept.spare
    wear : ℕ
    rec : page.rec ≡ Physical h.tag h.pointer.stamp wear
    main : page.main ≡ bytes (led names h.pointer.name)

  page_for : (h : Held) → Has held h → Page h
  page_for h m =
      let l = lead h m in
      let q = kept.held (led names h.pointer.name) (record { tag = h.tag; stamp = h.pointer.stamp }) l.leads in
      let r = member_named image q.0 (record { tag = h.tag; stamp = h.pointer.stamp; bytes = bytes (led names h.pointer.name) }) q.2 in
      record { page = r.0; member = r.1; outside = λ e. q.1 ((λ i. sym r.2 i / pages_are image i) ∙ e); wear = r.3.wear; rec = r.3.rec; main = r.3.main }

  stamp_here : (h : Held) (p : Page h) → stamp_on p.page ≡ h.pointer.stamp
  stamp_here h p = ap stamp_of p.rec

  -- behind the size it is zero
  behind : (h : Held) → Has held h → all_zero (drop (h.size - 4096 * h.tag.index) (bytes (led names h.pointer.name))) ≡ true
  behind h m =
      let t = means.right.tree.pointers.there h m in
      let same = some_in (record { tag = h.tag; bytes = t.bytes }) (record { tag = h.tag; bytes = bytes (led names h.pointer.name) }) (sym t.holds ∙ (lead h m).has) in
      ap (λ (x : PageOfStamp). all_zero (drop (h.size - 4096 * h.tag.index) x.bytes)) (sym same) ∙ t.behind

  listed : (h : Held) → Has held h → IsListed (physical_seen (shape_of_image image) (seen_in image)) h
  listed h m = record {
    page = seen_of image p.page;
    listed = subst (λ (ss : List Seen). Has ss (seen_of image p.page)) (sym (physical_is image)) (map-member (seen_of image) (physical_pages image) p.page p.member);
    is_page = record { wear = p.wear; record_on = p.rec };
    behind = λ s n is. short s is (member-map (seen_of image) (physical_pages image) s (subst (λ (ss : List Seen). Has ss s) (physical_is image) n));
  }
    where
      p : Page h
      p = page_for h m

      short : (s : Seen) → IsPageOf h s.rec → (r : Readable) × Has (physical_pages image) r × (seen_of image r ≡ s) → s.zeros ≤ h.size - 4096 * h.tag.index
      short s is q =
          let here : stamp_on q.0 ≡ h.pointer.stamp = ap (λ (z : Seen). stamp_of z.rec) q.2 ∙ ap stamp_of is.record_on in
          let same = stamps q.0 p.page q.1 p.member (here ∙ sym (stamp_here h p)) in
          subst (λ (z : Seen). z.zeros ≤ h.size - 4096 * h.tag.index) q.2
          (from_zero q.0.main (h.size - 4096 * h.tag.index) (ap (λ (l : List ℕ). all_zero (drop (h.size - 4096 * h.tag.index) l)) (same.main ∙ p.main) ∙ behind h m))

  metadata : MetadataRight image
  metadata = record {
    super_rec = means.super_rec;
    numbers = means.numbers;
    virtual_stamps = (same_virtual image).1 (firm_stamps image firm);
    physical_stamps = (same_physical image).1 stamps;
    tree = record {
      nodes = means.right.tree.nodes;
      addresses = means.right.tree.addresses;
      entries = means.right.tree.entries;
      pointers = record { below = means.right.tree.pointers.below; there = listed; stamps_differ = means.right.tree.pointers.stamps_differ; names_differ = means.right.tree.pointers.names_differ };
    };
  }

  same_bytes : (h : Held) → Has held h → bytes_for page_of_stamp h.pointer.stamp ≡ bytes_found image h.pointer.stamp
  unfolding bytes_found
  same_bytes h m =
      let p = page_for h m in
      let x = on_page image stamps p.page p.member h.pointer.stamp (stamp_here h p) in
      ap (λ (o : Option PageOfStamp). unwrap_or (option_map (λ page. page.bytes) o) []) (lead h m).has
      ∙ sym (ap (λ (o : Option PageOfStamp). unwrap_or (option_map (λ page. page.bytes) o) []) x.1 ∙ x.2 ∙ p.main)

  stands : ImageRepresents image count tree
  unfolding metadata
  stands = record {
    pages_whole = whole;
    metadata = metadata;
    count_of_calls = means.count_of_calls;
    is_tree = means.represents.is_tree;
    depicts = represents_same (bytes_for page_of_stamp) (bytes_found image) (shape_of_image image) (committed_of image) same_bytes tree means.represents.depicts;
  }

  own_names : OwnNames image
  own_names h m = owns image h.pointer ∙ by (kept.own h.pointer.name (record { tag = h.tag; stamp = h.pointer.stamp }) (lead h m).leads)
    where
      nothing : ((stored_in image).named h.pointer.name ≡ None) → (r : Readable) → Has (physical_pages image) r → (r.page == h.pointer.name) ≡ false
      nothing none r n = ne_eqb _ _ (λ e. let x = named_member image r n in none_some x.0 (sym none ∙ ap (stored_in image).named (sym e) ∙ x.1))

      by : ((stored_in image).named h.pointer.name ≡ None) ⊎ HoldsStamp (stored_in image) h.pointer.name h.pointer.stamp → owns_name image h.pointer ≡ true
      by (inl none) = or_right (holds_stamp image h.pointer.name h.pointer.stamp) _ (not_from_false _ (none-any (λ (r : Readable). r.page == h.pointer.name) (physical_pages image) (nothing none)))
      by (inr has) = or_left _ _ (holds_stamp_is image h.pointer.name h.pointer.stamp has)

  abbrev needed : List ℕ
  needed = map (λ h. h.pointer.stamp) held

  can_go : (r : Readable) → Has (physical_pages image) r → (not (r.page / image.pages == kept.spare && list_any (λ s. s == stamp_on r) needed) || list_any (λ q. not (q.page / image.pages == kept.spare) && stamp_on q == stamp_on r) (physical_pages image)) ≡ true
  can_go r m = by (list_any (λ s. s == stamp_on r) needed) refl
    where
      copy : (s : ℕ) × Has needed s × ((s == stamp_on r) ≡ true) → list_any (λ q. not (q.page / image.pages == kept.spare) && stamp_on q == stamp_on r) (physical_pages image) ≡ true
      copy s =
          let h = member-map (λ (h : Held). h.pointer.stamp) held s.0 s.1 in
          let p = page_for h.0 h.1 in
          member_any (λ q. not (q.page / image.pages == kept.spare) && stamp_on q == stamp_on r) (physical_pages image) p.page p.member
          (and_from _ _ (not_from_false _ (ne_eqb _ _ p.outside)) (eq-eqb _ _ (ap stamp_of p.rec ∙ h.2 ∙ eqb-true _ _ s.2)))

      by : (b : Bool) → list_any (λ s. s == stamp_on r) needed ≡ b → (not (r.page / image.pages == kept.spare && list_any (λ s. s == stamp_on r) needed) || list_any (λ q. not (q.page / image.pages == kept.spare) && stamp_on q == stamp_on r) (physical_pages image)) ≡ true
      by true e = or_right (not (r.page / image.pages == kept.spare && list_any (λ s. s == stamp_on r) needed)) _ (copy (any_member (λ s. s == stamp_on r) needed e))
      by false e = or_left _ _ (not_from_false _ (off (r.page / image.pages == kept.spare) _ e))
        where
          off : (a b : Bool) → b ≡ false → a && b ≡ false
          off true b e = e
          off false b e = refl

  physical_room : IsSome (physical_spare image needed)
  unfolding physical_spare spare_block
  physical_room =
      let f = find-some (λ block. list_all (λ r. not (r.page / image.pages == block && list_any (λ s. s == stamp_on r) needed) || list_any (λ q. not (q.page / image.pages == block) && stamp_on q == stamp_on r) (physical_pages image)) (physical_pages image))
      (range_with_len (shape_of_image image).vblocks (shape_of_image image).pblocks) kept.spare (range-member kept.spare _ _ kept.from kept.below) (each-all _ (physical_pages image) can_go) in
      ap is_some f.1

  lost_is : (h : Held) → Has held h → is_lost_seen (shape_of_image image) (seen_in image) h.pointer ≡ true → Has kept.stale h.pointer.name
  lost_is h m is = by (kept.at_names h.pointer.name (record { tag = h.tag; stamp = h.pointer.stamp }) (lead h m).leads)
    where
      by : HoldsStamp (stored_in image) h.pointer.name h.pointer.stamp ⊎ Has kept.stale h.pointer.name → Has kept.stale h.pointer.name
      by (inl has) = absurd (true_false (sym (holds_stamp_is image h.pointer.name h.pointer.stamp has) ∙ not-true _ (sym (lost image h.pointer) ∙ is)))
      by (inr stale) = stale

  few_lost : count_by (λ h. is_lost_seen (shape_of_image image) (seen_in image) h.pointer) held ≤ 3 * (shape_of_image image).pages
  few_lost =
      let two = keys_back (shape_of_image image) (committed_of image) (λ h. h.pointer.name) means.right.tree.pointers.names_differ in
      let few = few_pass (λ h. is_lost_seen (shape_of_image image) (seen_in image) h.pointer) (λ h. h.pointer.name) held kept.stale two lost_is in
      omega (arith, few, kept.few)

  pub sound_with : ConsistentAs image count tree
  sound_with = record {
    stands = stands;
    own_names = own_names;
    data_fits = means.data_fits;
    room = record {
      virtual_room = subst IsSome (sym (virtual_spare_is image)) (firm_spare image firm);
      physical_room = subst IsSome (sym (physical_spare_is image needed)) physical_room;
      few_lost = few_lost;
    };
  }

pub crash_leaves_consistent : CrashStateIsConsistent
crash_leaves_consistent names bytes page_of_stamp image count tree whole left =
    let e = map_is image in
    sound_with names bytes page_of_stamp image count tree whole (firm_here image left.firm) left.agree left.pages
    (subst (λ (pages : VirtualMap). MapRepresents (shape_of_image image) pages page_of_stamp count tree) e left.stands)
    (subst (λ (pages : VirtualMap). (h : Held) → Has (held_in (shape_of_image image) pages) h → IsLiveFor names bytes page_of_stamp h) e left.lead)
