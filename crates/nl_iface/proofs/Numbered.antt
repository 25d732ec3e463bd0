-- The numbers of pending callbacks.
use Rattle.std.proofs.Common.{◌≡◌, ⊎_elim, ℕ, ◌+◌, List, [], ◌∷◌, length, refl, sym, ◌∙◌, ap, subst, arith}
use Rattle.nl_field.specs.Live.{resolve}
use Rattle.nl_iface.specs.Names.{Has}
use Rattle.nl_iface.specs.Numbered.{IsNumberedAbove, NumbersRise}
use Rattle.nl_iface.specs.declared.Callback.{Callback}

-- with no pair a name leads to itself
pub to_itself : (pairs : List (ℕ × ℕ)) (n : ℕ) → length pairs ≡ 0 → resolve pairs n ≡ n
to_itself [] n none = refl
to_itself (x ∷ xs) n none = absurd (omega (arith, none))

pub numbers_rise : NumbersRise
numbers_rise = record {
  unpaired = λ shape next n s names table none least. record {
    above = λ c has. absurd (table.away c has (to_itself s.pairs c.before (sym names.pairs ∙ none)));
    posted = least;
  };
  moved = λ c n s t copies below is.
      let numbered = copies.numbered below in
      let least = is.posted in
      let number : c.number ≡ s.posted + 1 = numbered.0 in
      let posted : t.posted ≡ s.posted + 1 = numbered.1 in
      record {
        above = λ d has. ⊎_elim
            (λ (same : d ≡ c). let e : d.number ≡ c.number = ap (λ (x : Callback). x.number) same in omega (arith, e, number, least))
            (λ old. is.above d old)
            (copies.only d has);
        posted = omega (arith, posted, least);
      };
  same = λ n s t k is. let least = is.posted in let posted = k.posted in record {
    above = λ c has. is.above c (subst (λ (l : List Callback). Has l c) k.pending has);
    posted = omega (arith, posted, least);
  };
  placed = λ p page n s t k is. let least = is.posted in let posted = k.posted in record {
    above = λ c has. is.above c (subst (λ (l : List Callback). Has l c) k.pending has);
    posted = omega (arith, posted, least);
  };
  handled = λ c transaction n s t k is. let least = is.posted in let posted = k.posted in record {
    above = λ d has. is.above d (subst (λ (l : List Callback). Has l d) k.pending has);
    posted = omega (arith, posted, least);
  };
  acknowledged = λ upto n s t k is. let least = is.posted in let posted = k.posted in record {
    above = λ c has. is.above c (k.only c has).0;
    posted = omega (arith, posted, least);
  };
}
