-- The record that is noted for each stamp of a segment is, but for wear, that of each page there that agrees.
use Rattle.std.proofs.Common.{◌≡◌, inl, inr, ℕ, Bool, true, List, [], ◌∷◌, ◌++◌, Some, None, All, sym, ◌∙◌, ap, subst, ⊎_elim, cond}
use Rattle.std.specs.Prelude.{filter, nat_le, nat_lt, ◌&&◌, MatchBool, option_map}
use Rattle.std.specs.BTreeMap.{BTreeMap, get, Updates}
use Rattle.std.specs.Ordering.{nat_cmp}
use Rattle.std.proofs.lemmas.Bool.{cases_Bool, cases_eq, MatchBool-at_true, MatchBool-at_false}
use Rattle.std.proofs.lemmas.List.{append-nil}
use Rattle.std.proofs.lemmas.List.Elements.{All-nil, All-push, All-weaker, All-head, All-tail, filter-append}
use Rattle.nl_field.specs.Medium.{first_physical, is_virtual_rec, is_physical_rec}
use Rattle.nl_field.specs.Members.{Has}
use Rattle.nl_field.specs.Scan.{without_wear}
use Rattle.nl_field.specs.ScanList.{virtual_seen, physical_seen}
use Rattle.nl_field.specs.SpareRecord.{stamp_of}
use Rattle.nl_field.specs.declared.seen.Seen.{Seen}
use Rattle.nl_field.specs.declared.shape.Shape.{Shape}
use Rattle.nl_field.specs.declared.spare.SpareRec.{SpareRec}
use Rattle.nl_scan.specs.declared.firsts.First.{First}
use Rattle.nl_scan.specs.Passes.{FirstsAreNoted, Notes, record_for, is_own_virtual, is_own_physical}
use Rattle.nl_scan.specs.Tables.{HaveOneRecord}
use Rattle.nl_scan.proofs.Agreeing.{some_or_none}
use Rattle.nl_scan.proofs.Knowing.{other_stamp}
use Rattle.nl_scan.proofs.Lists.{same_some}

abbrev HasRecord : BTreeMap ℕ First → Seen → Type 0
HasRecord firsts s = s.agrees ≡ true → record_for firsts (stamp_of s.rec) ≡ Some (without_wear s.rec)

-- a page more, noted in its segment
noted_more : (own : Seen → Bool) (pages : List Seen) (s : Seen) (old new : BTreeMap ℕ First) → FirstsAreNoted old (filter own pages) → MatchBool (own s) (Notes s.rec s.agrees old new) (new ≡ old)
    → FirstsAreNoted new (filter own (pages ++ s ∷ []))
noted_more own pages s old new noted matched =
    ⊎_elim
    (λ is.
    let note : Notes s.rec s.agrees old new = MatchBool-at_true _ _ is matched in
    subst (FirstsAreNoted new) (sym (filter-append own pages (s ∷ []) ∙ (λ i. filter own pages ++ cond (is i) (s ∷ []) [])))
    (All-push (HasRecord new) (filter own pages) s
    (All-weaker (HasRecord old) (HasRecord new) (λ x was agrees. note.stays (stamp_of x.rec) (without_wear x.rec) (was agrees)) (filter own pages) noted) note.same))
    (λ is.
    subst (FirstsAreNoted new) (sym (filter-append own pages (s ∷ []) ∙ (λ i. filter own pages ++ cond (is i) (s ∷ []) []) ∙ append-nil (filter own pages)))
    (subst (λ firsts. FirstsAreNoted firsts (filter own pages)) (sym (MatchBool-at_false _ _ is matched)) noted))
    (cases_Bool (own s))

pub virtuals_more : (shape : Shape) (pages : List Seen) (s : Seen) (main : List ℕ) (old new : BTreeMap ℕ First) → FirstsAreNoted old (virtual_seen shape pages)
    → MatchBool (is_own_virtual shape (record { page = s.page; rec = s.rec; main = main })) (Notes s.rec s.agrees old new) (new ≡ old) → FirstsAreNoted new (virtual_seen shape (pages ++ s ∷ []))
unfolding virtual_seen
virtuals_more shape pages s main old new noted matched = noted_more (λ q. nat_lt q.page (first_physical shape) && is_virtual_rec shape q.rec) pages s old new noted matched

pub physicals_more : (shape : Shape) (pages : List Seen) (s : Seen) (main : List ℕ) (old new : BTreeMap ℕ First) → FirstsAreNoted old (physical_seen shape pages)
    → MatchBool (is_own_physical shape (record { page = s.page; rec = s.rec; main = main })) (Notes s.rec s.agrees old new) (new ≡ old) → FirstsAreNoted new (physical_seen shape (pages ++ s ∷ []))
unfolding physical_seen
physicals_more shape pages s main old new noted matched = noted_more (λ q. nat_le (first_physical shape) q.page && is_physical_rec q.rec) pages s old new noted matched

pub no_virtuals : (shape : Shape) (firsts : BTreeMap ℕ First) → FirstsAreNoted firsts (virtual_seen shape [])
unfolding virtual_seen
no_virtuals shape firsts = All-nil (HasRecord firsts)

pub no_physicals : (shape : Shape) (firsts : BTreeMap ℕ First) → FirstsAreNoted firsts (physical_seen shape [])
unfolding physical_seen
no_physicals shape firsts = All-nil (HasRecord firsts)

known_for : (firsts : BTreeMap ℕ First) (stamp : ℕ) (first : First) → get nat_cmp firsts stamp ≡ Some first → record_for firsts stamp ≡ Some (without_wear first.rec)
known_for firsts stamp first is = ap (option_map (λ (f : First). without_wear f.rec)) is

-- what is noted for a stamp has the record that is known for it
updated : (rec : SpareRec) (agrees : Bool) (old new : BTreeMap ℕ First) (first : First) → Updates nat_cmp old new (stamp_of rec) (Some first)
    → ((known : SpareRec) → record_for old (stamp_of rec) ≡ Some known → without_wear first.rec ≡ known) → (agrees ≡ true → without_wear first.rec ≡ without_wear rec) → Notes rec agrees old new
updated rec agrees old new first updates kept same =
    record {
      stays = λ stamp known was.
          ⊎_elim
          (λ here. subst (λ (k : ℕ). record_for new k ≡ Some known) here (known_for new (stamp_of rec) first updates.1 ∙ ap Some (kept known (ap (record_for old) here ∙ was))))
          (λ apart. ap (option_map (λ (f : First). without_wear f.rec)) (updates.2 stamp (other_stamp (stamp_of rec) stamp apart)) ∙ was)
          (cases_eq (stamp_of rec) stamp);
      same = λ is. known_for new (stamp_of rec) first updates.1 ∙ ap Some (same is);
    }

-- the first page of a stamp
pub notes_first : (rec : SpareRec) (agrees : Bool) (old new : BTreeMap ℕ First) (first : First) → get nat_cmp old (stamp_of rec) ≡ None → Updates nat_cmp old new (stamp_of rec) (Some first)
    → first.rec ≡ rec → Notes rec agrees old new
notes_first rec agrees old new first none updates is =
    updated rec agrees old new first updates
    (λ known was. absurd (some_or_none known (sym was ∙ ap (option_map (λ (f : First). without_wear f.rec)) none)))
    (λ agreed. ap without_wear is)

-- a later one
pub notes_later : (rec : SpareRec) (agrees : Bool) (old new : BTreeMap ℕ First) (found first : First) → get nat_cmp old (stamp_of rec) ≡ Some found → Updates nat_cmp old new (stamp_of rec) (Some first)
    → first.rec ≡ found.rec → (agrees ≡ true → without_wear found.rec ≡ without_wear rec) → Notes rec agrees old new
notes_later rec agrees old new found first some updates is same =
    updated rec agrees old new first updates
    (λ known was. ap without_wear is ∙ same_some (without_wear found.rec) known (sym (known_for old (stamp_of rec) found some) ∙ was))
    (λ agreed. ap without_wear is ∙ same agreed)

all_has : {X : Type 0} (P : X → Type 0) (xs : List X) (x : X) → All P xs → Has xs x → P x
all_has P [] x all has = absurd has
all_has P (y ∷ xs) x all (inl is) = subst P is (All-head P y xs all)
all_has P (y ∷ xs) x all (inr has) = all_has P xs x (All-tail P y xs all) has

pub one_record : (firsts : BTreeMap ℕ First) (pages : List Seen) → FirstsAreNoted firsts pages → HaveOneRecord pages
one_record firsts pages noted s q is_in is_in' agrees agrees' same =
    same_some (without_wear s.rec) (without_wear q.rec)
    (sym (all_has (HasRecord firsts) pages s noted is_in agrees) ∙ ap (record_for firsts) same ∙ all_has (HasRecord firsts) pages q noted is_in' agrees')

pub none_virtual : (shape : Shape) → HaveOneRecord (virtual_seen shape [])
unfolding virtual_seen
none_virtual shape s q is_in is_in' agrees agrees' same = absurd is_in

pub none_physical : (shape : Shape) → HaveOneRecord (physical_seen shape [])
unfolding physical_seen
none_physical shape s q is_in is_in' agrees agrees' same = absurd is_in
