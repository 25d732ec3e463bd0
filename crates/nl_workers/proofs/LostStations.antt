-- Whether one of the stations has lost a page, looked at one by one.
use Rattle.std.proofs.Common.{◌≡◌, ◌||◌, ℕ, zero, suc, ◌+◌, ◌<◌, ◌≤◌, Bool, true, false, List, [], ◌∷◌, length, get_or, Some, refl, sym, ap, ◌∙◌, arith}
use Rattle.std.specs.Prelude.{slice_get, take}
use Rattle.nl_workers.specs.Crew.{any_lost}
use Rattle.nl_workers.specs.declared.station.Station.{Station}
use Rattle.nl_workers.proofs.Losing.{any_push}
use Rattle.nl_workers.proofs.Serving.{none_either}
use Rattle.nl_workers.proofs.Working.{take_snoc}

found : (ss : List Station) (i : ℕ) (s : Station) → i < length ss → s ≡ get_or ss i s → slice_get ss i ≡ Some s
found [] i s lt is = absurd (omega arith)
found (x ∷ xs) zero s lt is = ap Some (sym is)
found (x ∷ xs) (suc i) s lt is = found xs i s (omega arith) is

or_true : (b : Bool) → true ≡ (b || true)
or_true true = refl
or_true false = refl

one_of : (ss : List Station) (i : ℕ) (s : Station) → slice_get ss i ≡ Some s → s.lost ≡ true → true ≡ any_lost ss
one_of [] i s e lost = absurd (cc e)
one_of (x ∷ xs) zero s e lost = let h : x ≡ s = cc e in sym (ap (λ b. b || any_lost xs) (ap (λ (z : Station). z.lost) h ∙ lost))
one_of (x ∷ xs) (suc i) s e lost = or_true x.lost ∙ ap (λ b. x.lost || b) (one_of xs i s e lost)

pub one_lost : (ss : List Station) (i : ℕ) (s : Station) → i < length ss → s ≡ get_or ss i s → s.lost ≡ true → true ≡ any_lost ss
one_lost ss i s lt is lost = one_of ss i s (found ss i s lt is) lost

pub none_more : (ss : List Station) (i : ℕ) (s : Station) → i < length ss → s ≡ get_or ss i s → any_lost (take i ss) ≡ false → s.lost ≡ false → any_lost (take (i + 1) ss) ≡ false
none_more ss i s lt is none kept =
    ap any_lost (take_snoc ss i s (found ss i s lt is)) ∙ (any_push (take i ss) s ∙ none_either (any_lost (take i ss)) s.lost none kept)

whole : (ss : List Station) (i : ℕ) → length ss ≤ i → take i ss ≡ ss
whole [] zero h = refl
whole [] (suc i) h = refl
whole (x ∷ xs) zero h = absurd (omega arith)
whole (x ∷ xs) (suc i) h = ap (λ z. x ∷ z) (whole xs i (omega arith))

pub none_at_end : (ss : List Station) (i : ℕ) → length ss ≤ i → any_lost (take i ss) ≡ false → false ≡ any_lost ss
none_at_end ss i h none = sym (sym (ap any_lost (whole ss i h)) ∙ none)
