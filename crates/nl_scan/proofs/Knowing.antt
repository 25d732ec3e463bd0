-- What a pass knows of the readable pages after one more page, and after all of them.
use Rattle.std.proofs.Common.{◌≡◌, ℕ, ◌+◌, ◌<◌, ◌≤◌, Bool, false, not, ◌&&◌, List, [], ◌∷◌, ◌++◌, length, Option, Some, None, sym, ◌∙◌, ap, subst, arith, ⊎_elim, map, cond}
use Rattle.std.specs.Prelude.{filter, fold, MatchBool}
use Rattle.std.specs.List.{AllByRecursion}
use Rattle.std.specs.Ordering.{nat_cmp, is_eq}
use Rattle.std.proofs.lemmas.Bool.Decides.{nat_tests}
use Rattle.std.specs.BTreeMap.{BTreeMap, get, Updates}
use Rattle.std.specs.Map.{lookup}
use Rattle.std.proofs.lemmas.Bool.{cases_Bool, cases_eq, MatchBool-at_true, MatchBool-at_false}
use Rattle.std.proofs.lemmas.List.{map-append, append-nil}
use Rattle.std.proofs.lemmas.List.Sums.{fold-append}
use Rattle.std.proofs.lemmas.List.Elements.{filter-append}
use Rattle.nl_field.specs.Page.{Image, page_at}
use Rattle.nl_field.specs.Medium.{Readable, readable, stamp_on, shape_of_image}
use Rattle.nl_field.specs.Scan.{agrees_below, zeros_from}
use Rattle.nl_scan.specs.declared.firsts.First.{First}
use Rattle.nl_scan.specs.declared.pass.Pass.{Pass}
use Rattle.nl_scan.specs.declared.super_seen.SuperSeen.{SuperSeen}
use Rattle.nl_scan.specs.Firsts.{noted, first_seen}
use Rattle.nl_scan.specs.Supers.{no_super, super_after}
use Rattle.nl_field.specs.ScanList.{seen_of}
use Rattle.nl_scan.specs.Passes.{is_own_virtual, is_own_physical, readable_below, Added, KnowsPages}
use Rattle.nl_scan.proofs.Agreeing.{IsOn, differs_from, verdict, first_here, first_apart}
use Rattle.nl_scan.proofs.Lists.{filter_all, weaken_all}
use Rattle.nl_scan.proofs.Below.{IsBelow, agrees_by_lower}
use Rattle.nl_scan.proofs.Readables.{IsOneOf, below_none, below_more_none, below_more_some, below_on, readable_behind, split_at, behind_above, number_kept}

-- the table of a segment has the first pages of these
abbrev pub Holds : BTreeMap ℕ First → List Readable → Type 0
Holds firsts pages = (stamp : ℕ) → get nat_cmp firsts stamp ≡ first_seen pages stamp

-- another stamp is another key
pub other_stamp : (k stamp : ℕ) → (k ≡ stamp → ⊥) → is_eq (nat_cmp k stamp) ≡ false
other_stamp k stamp apart = grind (arith, nat_tests)

noted_more : (image : Image) (pages : List Readable) (r : Readable) (old new : BTreeMap ℕ First) → AllByRecursion (IsOn image) pages → Holds old pages
    → Updates nat_cmp old new (stamp_on r) (Some (noted image r (get nat_cmp old (stamp_on r)))) → Holds new (pages ++ r ∷ [])
noted_more image pages r old new on holds updates stamp =
    ⊎_elim
    (λ same.
    ap (get nat_cmp new) (sym same) ∙ updates.1 ∙ ap (λ o. Some (noted image r o)) (holds (stamp_on r))
    ∙ sym (first_here image pages r on) ∙ ap (first_seen (pages ++ r ∷ [])) same)
    (λ apart. updates.2 stamp (other_stamp (stamp_on r) stamp apart) ∙ holds stamp ∙ sym (first_apart pages r stamp apart))
    (cases_eq (stamp_on r) stamp)

segment_more : (image : Image) (own : Readable → Bool) (pages : List Readable) (r : Readable) (old new : BTreeMap ℕ First) → AllByRecursion (IsOn image) pages → Holds old (filter own pages)
    → MatchBool (own r) (Updates nat_cmp old new (stamp_on r) (Some (noted image r (get nat_cmp old (stamp_on r))))) (new ≡ old) → Holds new (filter own (pages ++ r ∷ []))
segment_more image own pages r old new on holds matched =
    ⊎_elim
    (λ is.
    subst (Holds new) (sym (filter-append own pages (r ∷ []) ∙ (λ i. filter own pages ++ cond (is i) (r ∷ []) [])))
    (noted_more image (filter own pages) r old new (filter_all (IsOn image) own pages on) holds (MatchBool-at_true _ _ is matched)))
    (λ is.
    subst (Holds new) (sym (filter-append own pages (r ∷ []) ∙ (λ i. filter own pages ++ cond (is i) (r ∷ []) []) ∙ append-nil (filter own pages)))
    (subst (λ firsts. Holds firsts (filter own pages)) (sym (MatchBool-at_false _ _ is matched)) holds))
    (cases_Bool (own r))

pages_on : (image : Image) (at : ℕ) → at ≤ length image.contents → AllByRecursion (IsOn image) (readable_below image at)
pages_on image at le = weaken_all (IsOneOf image.contents at) (IsOn image) (λ q one. one.there) (readable_below image at) (below_on image at le)

-- the comparison in a segment, by the pages below
compared_in : (image : Image) (own : Readable → Bool) (pages : List Readable) (r : Readable) (firsts : BTreeMap ℕ First) → AllByRecursion (IsOn image) pages → Holds firsts (filter own pages)
    → (noted image r (get nat_cmp firsts (stamp_on r))).mixed ≡ differs_from (filter own pages) r
compared_in image own pages r firsts on holds =
    ap (λ (o : Option First). (noted image r o).mixed) (holds (stamp_on r)) ∙ verdict image (filter own pages) r (filter_all (IsOn image) own pages on)

verdict_is : (image : Image) (at : ℕ) (r : Readable) (old new : Pass) → at < length image.contents → readable (at, page_at image at) ≡ Some r → KnowsPages image at old
    → (added : Added image (shape_of_image image) r old new) → added.verdict ≡ agrees_below image r
verdict_is image at r old new below is knows added =
    let number = number_kept at (page_at image at) r is in
    let on = pages_on image at (omega arith) in
    added.compared.verdict
    ∙ (λ i.
    not (is_own_virtual (shape_of_image image) r && compared_in image (is_own_virtual (shape_of_image image)) (readable_below image at) r old.virtuals on knows.virtuals i)
    && not (is_own_physical (shape_of_image image) r && compared_in image (is_own_physical (shape_of_image image)) (readable_below image at) r old.physicals on knows.physicals i))
    ∙ sym (agrees_by_lower image (readable_below image at) (readable_behind image at) r (split_at image at r below is)
    (weaken_all (IsOneOf image.contents at) (IsBelow r.page) (λ q one. let b = one.below in omega arith) (readable_below image at) (below_on image at (omega arith)))
    (weaken_all (λ q. at < q.page) (λ q. r.page < q.page) (λ q l. omega arith) (readable_behind image at) (behind_above image at)))

pub knows_more : (image : Image) (at : ℕ) (r : Readable) (old new : Pass) → at < length image.contents → readable (at, page_at image at) ≡ Some r → KnowsPages image at old
    → Added image (shape_of_image image) r old new → KnowsPages image (at + 1) new
knows_more image at r old new below is knows added =
    let more = below_more_some image at r below is in
    let on = pages_on image at (omega arith) in
    record {
      each_page =
          added.seen
          ∙ (λ i. knows.each_page i ++ record { page = r.page; rec = r.rec; zeros = zeros_from r.main; agrees = verdict_is image at r old new below is knows added i } ∷ [])
          ∙ sym (map-append (seen_of image) (readable_below image at) (r ∷ []))
          ∙ ap (map (seen_of image)) (sym more);
      virtuals = λ stamp. segment_more image (is_own_virtual (shape_of_image image)) (readable_below image at) r old.virtuals new.virtuals on knows.virtuals added.compared.in_virtual stamp
          ∙ ap (λ (l : List Readable). first_seen (filter (is_own_virtual (shape_of_image image)) l) stamp) (sym more);
      physicals = λ stamp. segment_more image (is_own_physical (shape_of_image image)) (readable_below image at) r old.physicals new.physicals on knows.physicals added.compared.in_physical stamp
          ∙ ap (λ (l : List Readable). first_seen (filter (is_own_physical (shape_of_image image)) l) stamp) (sym more);
      newest = added.newest ∙ ap (λ (n : SuperSeen). super_after n r) knows.newest ∙ sym (fold-append super_after no_super (readable_below image at) (r ∷ [])) ∙ ap (fold super_after no_super) (sym more);
    }

pub knows_same : (image : Image) (at : ℕ) (pass : Pass) → at < length image.contents → readable (at, page_at image at) ≡ None → KnowsPages image at pass → KnowsPages image (at + 1) pass
knows_same image at pass below is knows =
    let more = below_more_none image at below is in
    record {
      each_page = knows.each_page ∙ ap (map (seen_of image)) (sym more);
      virtuals = λ stamp. knows.virtuals stamp ∙ ap (λ (l : List Readable). first_seen (filter (is_own_virtual (shape_of_image image)) l) stamp) (sym more);
      physicals = λ stamp. knows.physicals stamp ∙ ap (λ (l : List Readable). first_seen (filter (is_own_physical (shape_of_image image)) l) stamp) (sym more);
      newest = knows.newest ∙ ap (fold super_after no_super) (sym more);
    }

-- before the first page
pub knows_nothing : (image : Image) (pass : Pass) → pass.seen.items ≡ [] → pass.virtuals.entries ≡ [] → pass.physicals.entries ≡ [] → pass.newest ≡ no_super → KnowsPages image 0 pass
unfolding first_seen
knows_nothing image pass seen virtuals physicals newest =
    record {
      each_page = seen ∙ ap (map (seen_of image)) (sym (below_none image));
      virtuals = λ stamp. ap (lookup (λ k. is_eq (nat_cmp stamp k))) virtuals ∙ ap (λ (l : List Readable). first_seen (filter (is_own_virtual (shape_of_image image)) l) stamp) (sym (below_none image));
      physicals = λ stamp. ap (lookup (λ k. is_eq (nat_cmp stamp k))) physicals ∙ ap (λ (l : List Readable). first_seen (filter (is_own_physical (shape_of_image image)) l) stamp) (sym (below_none image));
      newest = newest ∙ ap (fold super_after no_super) (sym (below_none image));
    }
