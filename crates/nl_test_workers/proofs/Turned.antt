-- What one turn adds to the history, and to the entries of its seat.
use Rattle.std.proofs.Common.{◌≡◌, ◌==◌, ℕ, Bool, true, cond, List, [], ◌∷◌, ◌++◌, filter, refl, ap, ◌∙◌, eq-eqb}
use Rattle.std.proofs.lemmas.List.Elements.{filter-append}
use mathlib.Core.List.{map-append, IsPrefix}
use Rattle.nl_turns.proofs.Histories.{prefix_more}
use Rattle.nl_turns.specs.Seat.{Passed, by_seat, entries, passed_by}
use Rattle.nl_turns.specs.declared.entry.Entry.{Entry}
use Rattle.nl_test_workers.specs.Work.{entries_of}

by_seat_more : (n : ℕ) (old mid : List Passed) (e : Entry) → by_seat n mid ≡ by_seat n old → by_seat n (mid ++ passed_by n e ∷ []) ≡ by_seat n old ++ passed_by n e ∷ []
by_seat_more n old mid e same =
    let f : Passed → Bool = λ q. q.seat == n in
    let so : f (passed_by n e) ≡ true = eq-eqb n n refl in
    let last : filter f (passed_by n e ∷ []) ≡ passed_by n e ∷ [] = ap (λ (b : Bool). cond b (passed_by n e ∷ []) []) so in
    filter-append f mid (passed_by n e ∷ []) ∙ (λ i. same i ++ last i)

pub own_more : (n : ℕ) (old mid : List Passed) (e : Entry) → by_seat n mid ≡ by_seat n old → entries_of n (mid ++ passed_by n e ∷ []) ≡ entries_of n old ++ e ∷ []
own_more n old mid e same = ap entries (by_seat_more n old mid e same) ∙ map-append (λ (p : Passed). p.entry) (by_seat n old) (passed_by n e ∷ [])

pub entries_more : (n : ℕ) (mid : List Passed) (e : Entry) → entries (mid ++ passed_by n e ∷ []) ≡ entries mid ++ e ∷ []
entries_more n mid e = map-append (λ (p : Passed). p.entry) mid (passed_by n e ∷ [])

pub prefix_push : {A : Type 0} (xs ys : List A) (p : A) → IsPrefix xs ys → IsPrefix xs (ys ++ p ∷ [])
prefix_push xs ys p h = prefix_more xs ys (p ∷ []) h
