use Rattle.std.proofs.Common.{◌≡◌, ◌≢◌, ℕ, ◌≤◌, [], ◌∷◌, Some, None, refl, sym, ap, subst, ◌∙◌, ◌⊎◌, inl, inr, arith}
use Rattle.std.proofs.lemmas.Option.{none-some, same_Some}
use Rattle.nl_iface.specs.Examples.{some_tag, pointer}
use Rattle.nl_spec_holders.specs.Examples.{page_of, callback}
use Rattle.nl_spec_holders.proofs.rows.is_in_order.Goals as goal
use Rattle.std.proofs.Common.{◌==◌, ◌+◌}
use Rattle.std.specs.Prelude.{if◌then◌else◌}
use Rattle.std.proofs.lemmas.Bool.{cases_eq}
use Rattle.nl_iface.specs.declared.Callback.{Callback}
use Rattle.nl_field.specs.declared.pointer.Tag.{Tag}
use Rattle.nl_field.specs.declared.pointer.Pointer.{Pointer}
use Rattle.nl_iface.specs.Holders.{IsRef, always, held, one, wants, wants_tagged}
use Rattle.nl_iface.specs.Names.{Has, LivePage, led}
use Rattle.nl_spec_holders.specs.Examples.{in_order}
use Rattle.nl_spec_holders.specs.Holding.{holders_of}
use Rattle.nl_spec_holders.proofs.Lists.{one_yes, one_no}
use Rattle.nl_spec_holders.proofs.Choices.{if_yes, if_no}
use Rattle.nl_spec_holders.proofs.FreeLists.{at_tail}

place : (p : ℕ) (d : LivePage) → (if p == 300 then Some (page_of 7) else None) ≡ Some d → (p ≡ 300) × (page_of 7 ≡ d)
place p d is = by (cases_eq p 300)
  where
    by : (p ≡ 300) ⊎ (p ≢ 300) → (p ≡ 300) × (page_of 7 ≡ d)
    by (inl e) = (e, same_Some (page_of 7) d (sym (if_yes p 300 (Some (page_of 7)) None e) ∙ is))
    by (inr far) = absurd (none-some d (sym (if_no p 300 (Some (page_of 7)) None far) ∙ is))

alone : (c : Callback) → Has (callback 1 40 300 7 ∷ []) c → callback 1 40 300 7 ≡ c
alone c (inl e) = e
alone c (inr h) = absurd h

one_only : (c d : Callback) → Has (callback 1 40 300 7 ∷ []) c → Has (callback 1 40 300 7 ∷ []) d → c ≡ d
one_only c d x y = sym (alone c x) ∙ alone d y

far : ◌≢◌ {A = ℕ} 300 40
far e = omega (arith, e)

told : (n : ℕ) → led in_order.names n ≢ n → (c : Callback) × Has (callback 1 40 300 7 ∷ []) c × (c.before ≡ n)
told n off = by (cases_eq 40 n)
  where
    by : (40 ≡ n) ⊎ (40 ≢ n) → (c : Callback) × Has (callback 1 40 300 7 ∷ []) c × (c.before ≡ n)
    by (inl e) = (callback 1 40 300 7, inl refl, e)
    by (inr x) = absurd (off (at_tail (40, 300) [] n x))

ref : (due : ℕ → Type 0) (want : LivePage → Type 0) → want (page_of 7) → IsRef in_order.names due want 300
ref due want w = record { leads = (page_of 7, refl, w); safe = λ c n has m k e. far (e ∙ ap (λ (x : Callback). x.before) (sym (alone c has))) }

-- the old name is safe up to transaction 2
old_ref : (top : ℕ) → top ≤ 2 → (want : LivePage → Type 0) → want (page_of 7) → IsRef in_order.names (λ n. n ≤ top) want 40
old_ref top le want w = record {
  leads = (page_of 7, refl, w);
  safe = λ c n has m k e. no n (same_Some 3 n (ap (λ (x : Callback). in_order.names.handled x.number) (alone c has) ∙ m)) k;
}
  where
    no : (n : ℕ) → 3 ≡ n → n ≤ top → ⊥
    no n e k = omega (arith, e, k, le)

pub returns-clause-held : goal.returns-clause-held
returns-clause-held c = record {
  table = record {
    stamps_differ = λ p q d e x y same. (place p d x).0 ∙ sym (place q e y).0;
    own = λ p d is. subst (λ (n : ℕ). led in_order.names n ≡ n) (sym (place p d is).0) refl;
    called = λ d has. subst (λ (x : Callback). in_order.names.live (led in_order.names x.before) ≡ Some (record { tag = x.tag; stamp = x.stamp })) (alone d has) refl;
    away = λ d has. subst (λ (x : Callback). led in_order.names x.before ≢ x.before) (alone d has) far;
    told = told;
    one_number = λ d e x y same. one_only d e x y;
    one_name = λ d e x y same. one_only d e x y;
  };
  held = record {
    running = λ h has. running h has;
    flight = λ h has. absurd has;
    freeing = λ h has. absurd has;
    once = λ s. few s (cases_eq 7 s);
    each = λ q d is. some d.stamp (ap (λ (l : LivePage). l.stamp) (place q d is).1);
  };
}
  where
    running : (h : Tag × Pointer) → Has ((some_tag, pointer 300 7) ∷ []) h → IsRef in_order.names always (wants_tagged h) h.1.name
    running h (inl e) = subst (λ (x : Tag × Pointer). IsRef in_order.names always (wants_tagged x) x.1.name) e (ref always (wants_tagged (some_tag, pointer 300 7)) (refl, refl))
    running h (inr x) = absurd x

    few : (s : ℕ) → (7 ≡ s) ⊎ (7 ≢ s) → held (holders_of in_order) s ≤ 1
    few s (inl e) = let n = one_yes 7 s e in omega (arith, n)
    few s (inr e) = let n = one_no 7 s e in omega (arith, n)

    some : (s : ℕ) → 7 ≡ s → 1 ≤ held (holders_of in_order) s
    some s e = let n = one_yes 7 s e in omega (arith, n)

pub returns-clause-safe : goal.returns-clause-safe
returns-clause-safe c = record {
  committed = λ p has. old p has 1 (omega arith);
  committed_kept = λ p has. kept p has;
  frozen = λ p has. old p has 2 (omega arith);
  frozen_kept = λ p has. kept p has;
  decided_first = omega arith;
  next_later = omega arith;
  leaving_awaits = omega arith;
  due_awaits = omega arith;
}
  where
    old : (p : Pointer) → Has (pointer 40 7 ∷ []) p → (top : ℕ) → top ≤ 2 → IsRef in_order.names (λ n. n ≤ top) (wants p) p.name
    old p (inl e) top le = subst (λ (x : Pointer). IsRef in_order.names (λ n. n ≤ top) (wants x) x.name) e (old_ref top le (wants (pointer 40 7)) refl)
    old p (inr x) top le = absurd x

    kept : (p : Pointer) → Has (pointer 40 7 ∷ []) p → 1 ≤ (one 7 p.stamp + 0) + 0
    kept p (inl e) = let n = one_yes 7 p.stamp (ap (λ (x : Pointer). x.stamp) e) in omega (arith, n)
    kept p (inr x) = absurd x
