-- What stands in the table after one number was given an entry, or released.
use Rattle.std.proofs.Common.{◌≡◌, inl, inr, ℕ, ◌<◌, ◌==◌, if◌then◌else◌, Bool, true, false, cond, List, Option, Some, None, length, sym, ◌∙◌, ap, subst, eq-eqb, ne_eqb, get_or, set}
use Rattle.std.proofs.lemmas.Bool.{cases_eq, cond-false, cond-true}
use Rattle.std.proofs.lemmas.List.{get_or-set_same, get_or-set_other, length-set}
use Rattle.std.proofs.lemmas.Option.{none-some}
use Rattle.nl_pagemap_names.specs.Table.{IsTable, Table, entry_at, entry_in, given, live_at, live_in, released}
use Rattle.nl_pagemap_names.specs.declared.entry.Entry.{Entry}

-- an entry that is in use is what the number was last given
pub live_entry : (entries : List (Option Entry)) (used : List Bool) (n : ℕ) (e : Entry) → live_in entries used n ≡ Some e → entry_in entries n ≡ Some e
live_entry entries used n e is = by (get_or used n false) is
  where
    by : (b : Bool) → cond b (entry_in entries n) None ≡ Some e → entry_in entries n ≡ Some e
    by true live = live
    by false live = absurd (none-some e live)

module _ (t : Table) (f : IsTable t) (n : ℕ) (within : n < length t.entries) where
  within_used : n < length t.used
  within_used = subst (λ k. n < k) (sym f.same) within

  pub given_entry : (e : Entry) (q : ℕ) → entry_at (given n e t) q ≡ (if q == n then Some e else entry_at t q)
  given_entry e q = elim (cases_eq q n) [
    | inl is ↦ ap (λ k. entry_in (set t.entries n (Some e)) k) is
        ∙ (get_or-set_same t.entries n (Some e) None within ∙ sym (cond-true (q == n) (Some e) (entry_at t q) (eq-eqb q n is)))
    | inr ne ↦ get_or-set_other t.entries n q (Some e) None ne ∙ sym (cond-false (q == n) (Some e) (entry_at t q) (ne_eqb q n ne))
  ]

  pub given_live : (e : Entry) (q : ℕ) → live_at (given n e t) q ≡ (if q == n then Some e else live_at t q)
  given_live e q = elim (cases_eq q n) [
    | inl is ↦ ap (λ k. live_in (set t.entries n (Some e)) (set t.used n true) k) is
        ∙ (ap (λ b. cond b (entry_in (set t.entries n (Some e)) n) None) (get_or-set_same t.used n true false within_used)
        ∙ (get_or-set_same t.entries n (Some e) None within ∙ sym (cond-true (q == n) (Some e) (live_at t q) (eq-eqb q n is))))
    | inr ne ↦ ap (λ b. cond b (entry_in (set t.entries n (Some e)) q) None) (get_or-set_other t.used n q true false ne)
        ∙ (ap (λ o. cond (get_or t.used q false) o None) (get_or-set_other t.entries n q (Some e) None ne)
        ∙ sym (cond-false (q == n) (Some e) (live_at t q) (ne_eqb q n ne)))
  ]

  pub released_live : (q : ℕ) → live_at (released n t) q ≡ (if q == n then None else live_at t q)
  released_live q = elim (cases_eq q n) [
    | inl is ↦ ap (λ k. live_in t.entries (set t.used n false) k) is
        ∙ (ap (λ b. cond b (entry_in t.entries n) None) (get_or-set_same t.used n false false within_used)
        ∙ sym (cond-true (q == n) None (live_at t q) (eq-eqb q n is)))
    | inr ne ↦ ap (λ b. cond b (entry_in t.entries q) None) (get_or-set_other t.used n q false false ne)
        ∙ sym (cond-false (q == n) None (live_at t q) (ne_eqb q n ne))
  ]

  -- the table is one still
  pub given_table : (e : Entry) → IsTable (given n e t)
  given_table e = record { same = length-set t.used n true ∙ (f.same ∙ sym (length-set t.entries n (Some e))) }

  pub released_table : IsTable (released n t)
  released_table = record { same = length-set t.used n false ∙ f.same }
