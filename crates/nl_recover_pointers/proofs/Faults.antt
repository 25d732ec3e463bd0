-- The first pointer at fault, one pointer on.
use Rattle.std.proofs.Common.{◌≡◌, ℕ, ◌-◌, ◌*◌, Bool, true, false, not, ◌||◌, cond, List, [], ◌∷◌, Some, option_map, refl, sym, ◌∙◌, ap}
use Rattle.std.specs.Prelude.{◌==◌, nat_lt}
use Rattle.std.specs.Int.{div_ceil}
use Rattle.std.specs.List.{list_any}
use Rattle.nl_field.specs.declared.seen.Seen.{Seen}
use Rattle.nl_meta.specs.Nodes.{Held}
use Rattle.nl_meta.specs.Walk.{first_after, is_bad_pointer, pointer_fault, has_page}
use Rattle.nl_recover_pointers.specs.Numbers.{AddsNumber, HasNone, has_number}
use Rattle.nl_recover_pointers.specs.Owners.{AreOwned, is_zero_from, zeros_at}
use Rattle.nl_recover_pointers.specs.declared.earlier.Earlier.{Earlier}
use Rattle.nl_recover_pointers.specs.declared.owners.Zeros.{Zeros}
use Rattle.nl_recover_pointers.proofs.Owning.{has_page_by_key}

-- No pointer before the rest is at fault, and their numbers and names are those known as earlier.
pub record HasPassed (physicals : List Seen) (held rest : List Held) (earlier : Earlier) : Type 0 where
  pub before : List Held
  pub fault : option_map (λ h. h.tag.ino) (first_after (is_bad_pointer physicals) before rest) ≡ pointer_fault physicals held
  pub stamps : (stamp : ℕ) → has_number earlier.stamps stamp ≡ list_any (λ e. e.pointer.stamp == stamp) before
  pub names : (name : ℕ) → has_number earlier.names name ≡ list_any (λ e. e.pointer.name == name) before

pub passed_none : (physicals : List Seen) (held : List Held) (earlier : Earlier) → HasNone earlier.stamps → HasNone earlier.names → HasPassed physicals held held earlier
unfolding pointer_fault
passed_none physicals held earlier stamps names = record {
  before = [];
  fault = refl;
  stamps = stamps;
  names = names;
}

either : (p q : Held → Bool) (xs : List Held) → list_any (λ e. p e || q e) xs ≡ (list_any p xs || list_any q xs)
either p q [] = refl
either p q (x ∷ xs) = ap (λ r. (p x || q x) || r) (either p q xs) ∙ by (p x) (q x) (list_any p xs) (list_any q xs)
  where
    by : (a b c d : Bool) → ((a || b) || (c || d)) ≡ ((a || c) || (b || d))
    by true b c d = refl
    by false true true d = refl
    by false true false d = refl
    by false false c d = refl

-- what the code tests, of what it knows
abbrev pub is_found_bad : Zeros → Earlier → Held → Bool
is_found_bad zeros earlier h =
    not (nat_lt h.tag.index (div_ceil h.size 4096)) || (has_number earlier.stamps h.pointer.stamp || has_number earlier.names h.pointer.name)
    || not (is_zero_from (h.size - 4096 * h.tag.index) (zeros_at zeros h.pointer.stamp h.tag))

pub found_bad : (physicals : List Seen) (held rest : List Held) (zeros : Zeros) (earlier : Earlier) (h : Held) → AreOwned physicals zeros → (p : HasPassed physicals held rest earlier)
    → is_found_bad zeros earlier h ≡ is_bad_pointer physicals p.before h
found_bad physicals held rest zeros earlier h owned p =
    let seen : (has_number earlier.stamps h.pointer.stamp || has_number earlier.names h.pointer.name) ≡ list_any (λ e. e.pointer.stamp == h.pointer.stamp || e.pointer.name == h.pointer.name) p.before =
    (λ i. p.stamps h.pointer.stamp i || p.names h.pointer.name i) ∙ sym (either (λ e. e.pointer.stamp == h.pointer.stamp) (λ e. e.pointer.name == h.pointer.name) p.before) in
    let page : is_zero_from (h.size - 4096 * h.tag.index) (zeros_at zeros h.pointer.stamp h.tag) ≡ has_page physicals h =
    ap (is_zero_from (h.size - 4096 * h.tag.index)) (owned h.pointer.stamp h.tag) ∙ has_page_by_key physicals h in
    λ i. not (nat_lt h.tag.index (div_ceil h.size 4096)) || seen i || not (page i)

pub passed_fault : (physicals : List Seen) (held rest : List Held) (earlier : Earlier) (h : Held) → (p : HasPassed physicals held (h ∷ rest) earlier) → is_bad_pointer physicals p.before h ≡ true
    → Some h.tag.ino ≡ pointer_fault physicals held
passed_fault physicals held rest earlier h p bad = sym (ap (λ b. option_map (λ e. e.tag.ino) (cond b (Some h) (first_after (is_bad_pointer physicals) (h ∷ p.before) rest))) bad) ∙ p.fault

pub passed_more : (physicals : List Seen) (held rest : List Held) (old new : Earlier) (h : Held) → (p : HasPassed physicals held (h ∷ rest) old) → is_bad_pointer physicals p.before h ≡ false
    → AddsNumber old.stamps new.stamps h.pointer.stamp → AddsNumber old.names new.names h.pointer.name → HasPassed physicals held rest new
passed_more physicals held rest old new h p good stamps names = record {
  before = h ∷ p.before;
  fault = sym (ap (λ b. option_map (λ e. e.tag.ino) (cond b (Some h) (first_after (is_bad_pointer physicals) (h ∷ p.before) rest))) good) ∙ p.fault;
  stamps = λ stamp. stamps stamp ∙ ap (λ x. h.pointer.stamp == stamp || x) (p.stamps stamp);
  names = λ name. names name ∙ ap (λ x. h.pointer.name == name || x) (p.names name);
}
