-- The entries of a volume by the lists of its directories.
use Rattle.std.proofs.Common.{◌≡◌, ℕ, ◌<◌, ap, subst, Some}
use Rattle.nl_field.specs.EntryRecord.{entry_of}
use Rattle.nl_field.specs.declared.entry.EntryRec.{EntryRec}
use Rattle.nl_field.specs.declared.inode.InodeRec.{InodeRec}
use Rattle.nl_field.specs.declared.inode.Kind.TheVariants.{Dir}
use Rattle.nl_field.specs.declared.shape.Shape.{Shape}
use Rattle.nl_meta.specs.Committed.{VirtualMap}
use Rattle.nl_meta.specs.Consistent.{AddressesRight, EntriesRight, EntryAt, GoodEntry, IsNode, Reached}
use Rattle.nl_meta.specs.Nodes.{bytes_of_place, entries_of_inode}
use Rattle.nl_meta.proofs.NodeProofs.{same_rec}
use Rattle.nl_meta.proofs.PlaceProofs.{same_entry}
use Rattle.nl_dir.specs.Directory.{entry_at}
use Rattle.nl_dir.specs.ListLaws.{EntriesByLists, Lists, ListsRight, ReachedByLists}
use Rattle.nl_dir.proofs.EntryLists.{has-listed, listed-has, some-of}
use Rattle.nl_dir.proofs.LawProofs.{right-directory}

module _ (shape : Shape) (pages : VirtualMap) where
  lists-of : (d i : ℕ) (e : EntryRec) → EntryAt shape pages d i e → Lists shape pages d e
  unfolding entries_of_inode
  lists-of d i e a = record { rec = a.rec; is_node = a.is_node; is_dir = a.is_dir; has = listed-has (entry_at pages a.rec) a.rec.size i e a.below a.spelled }

  place-of : (d : ℕ) (e : EntryRec) → Lists shape pages d e → (i : ℕ) × EntryAt shape pages d i e
  unfolding entries_of_inode
  place-of d e l =
      let p = has-listed (entry_at pages l.rec) l.rec.size e l.has in
      (p.0, record { rec = l.rec; is_node = l.is_node; is_dir = l.is_dir; below = p.1; spelled = p.2 })

  reached-lists : (n : ℕ) → Reached shape pages n → ReachedByLists shape pages n
  reached-lists n Reached.at_root = ReachedByLists.at_root
  reached-lists n (Reached.by_entry d i e a r) = ReachedByLists.by_entry d e (lists-of d i e a) (reached-lists d r)

  reached-places : (n : ℕ) → ReachedByLists shape pages n → Reached shape pages n
  reached-places n ReachedByLists.at_root = Reached.at_root
  reached-places n (ReachedByLists.by_entry d e l r) = let p = place-of d e l in Reached.by_entry d p.0 e p.1 (reached-places d r)

  lists-right : AddressesRight shape pages → EntriesRight shape pages → ListsRight shape pages
  lists-right addresses right = record {
    directories = λ d rec is dir. right-directory shape pages d rec addresses right is dir;
    good = λ d e l.
        let p = place-of d e l in
        let s = right.spelled d p.1.rec p.0 p.1.is_node p.1.is_dir p.1.below in
        subst (GoodEntry shape pages) (same_entry shape pages d p.0 s.0 e s.1 p.1) s.2;
    named = λ n rec is far. let r = right.named n rec is far in (r.0, r.2, lists-of r.0 r.1 r.2 r.3, r.4, r.5);
    one_name = λ d d' e e' l l' same.
        let p = place-of d e l in
        let q = place-of d' e' l' in
        let r = right.one_name d p.0 d' q.0 e e' p.1 q.1 same in
        (r.0, same_entry shape pages d' q.0 e e' (subst (λ (k : ℕ). EntryAt shape pages d' k e) r.1 (subst (λ (k : ℕ). EntryAt shape pages k p.0 e) r.0 p.1)) q.1);
    reached = λ n rec is. reached-lists n (right.reached n rec is);
  }

  module _ (right : ListsRight shape pages) where
    -- what a place of a directory has
    names-differ : (d i i' : ℕ) (e e' : EntryRec) → EntryAt shape pages d i e → EntryAt shape pages d i' e' → e.name ≡ e'.name → i ≡ i'
    names-differ d i i' e e' a b names =
        let same = same_rec shape pages d b.rec a.rec b.is_node a.is_node in
        (right.directories d a.rec a.is_node a.is_dir).names_differ i i' e e' a.below (subst (λ (r : InodeRec). i' < r.size) same b.below) a.spelled
        (subst (λ (r : InodeRec). entry_of (bytes_of_place pages r i') ≡ Some e') same b.spelled) names

    spelled : (d : ℕ) (rec : InodeRec) (i : ℕ) → IsNode shape pages d rec → rec.kind ≡ Dir → i < rec.size → (e : EntryRec) × EntryAt shape pages d i e × GoodEntry shape pages e
    spelled d rec i is dir h =
        let s = some-of (entry_at pages rec i) ((right.directories d rec is dir).entries i h) in
        at s.0 (record { rec = rec; is_node = is; is_dir = dir; below = h; spelled = s.1 })
      where
        at : (e : EntryRec) → EntryAt shape pages d i e → (e : EntryRec) × EntryAt shape pages d i e × GoodEntry shape pages e
        at e a = (e, a, right.good d e (lists-of d i e a))

    entries-right : EntriesRight shape pages
    entries-right = record {
      spelled = spelled;
      rest = λ d rec i is dir h l. (right.directories d rec is dir).places.rest i h l;
      names_differ = names-differ;
      named = λ n rec is far. let r = right.named n rec is far in let p = place-of r.0 r.1 r.2 in (r.0, p.0, r.1, p.1, r.3, r.4);
      one_name = λ d i d' i' e e' a b same.
          let r = right.one_name d d' e e' (lists-of d i e a) (lists-of d' i' e' b) same in
          (r.0, names-differ d' i i' e e' (subst (λ (k : ℕ). EntryAt shape pages k i e) r.0 a) b (ap (λ (x : EntryRec). x.name) r.1));
      reached = λ n rec is. reached-places n (right.reached n rec is);
    }

pub entries_by_lists : EntriesByLists
entries_by_lists shape pages addresses = ((λ right. lists-right shape pages addresses right), (λ right. entries-right shape pages right))
