use Rattle.std.proofs.Common.{◌≡◌, ℕ, ◌+◌, ◌-◌, ◌≤◌, ◌<◌, ◌∙◌, ◌⊎◌, inl, inr, List, length, take, drop, get_or, ap, sym, arith, length-drop}
use Rattle.std.proofs.lemmas.Bool.{cases_lt}
use Rattle.std.proofs.lemmas.List.{take_all}
use Rattle.std.specs.Prelude.{min}
use Rattle.nl_field.specs.EntryRecord.{entry_fields}
use Rattle.nl_dir.proofs.page.name_in.Goals as goal

-- no more is taken than there is
take-min : (n a : ℕ) (xs : List ℕ) → length xs ≤ n → take (min a n) xs ≡ take a xs
take-min n a xs h = by (cases_lt a n)
  where
    by : (a < n) ⊎ (n ≤ a) → take (min a n) xs ≡ take a xs
    by (inl l) = ap (λ (k : ℕ). take k xs) (least l)
      where
        least : a < n → min a n ≡ a
        least l = omega (arith, l)
    by (inr l) = take_all (min a n) xs (omega (arith, l, h)) ∙ sym (take_all a xs (omega (arith, l, h)))

pub returns : goal.returns
unfolding entry_fields
returns c =
    let bytes = c.args.bytes.now in
    let whole = c.requires in
    let rest = length-drop 9 bytes in
    let start : 9 + c.min-len.result - 9 ≡ c.min-len.result = omega arith in
    ap (λ (k : ℕ). take k (drop 9 bytes)) (start ∙ c.min-len.ensures) ∙ take-min 55 (get_or bytes 8 0) (drop 9 bytes) (omega (arith, rest, whole))
