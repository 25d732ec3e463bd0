-- The laws of a store in memory.
use Rattle.std.proofs.Common.{◌≡◌, ◌⊎◌, inl, inr, ℕ, ◌≤◌, nat_le, List, [], ◌∷◌, Bool, ◌&&◌, IsTrue, refl, le_trans}
use Rattle.std.proofs.Common.{le_of_eq, rules}
use Rattle.std.proofs.Math.Nat.{le_refl}
use Rattle.nl_store.specs.PastBytes.{WasLeft, none_later}
use Rattle.nl_store.specs.declared.past.Past.{Past}

both_left : (a b : Bool) → IsTrue (a && b) → IsTrue a
both_left a b h = search rules

both_right : (a b : Bool) → IsTrue (a && b) → IsTrue b
both_right a b h = search rules

order_from : (a b : ℕ) → IsTrue (nat_le a b) → a ≤ b
order_from a b le = search rules

first_ends : (now : ℕ) (p : Past) (past : List Past) → IsTrue (none_later now (p ∷ past)) → p.moment ≤ now
first_ends now p past ends = order_from p.moment now (both_left (nat_le p.moment now) (none_later now past) ends)

pub was_no_later : (now : ℕ) (past : List Past) (m : ℕ) (b : List ℕ) → IsTrue (none_later now past) → WasLeft past m b → m ≤ now
was_no_later now [] m b ends l = absurd l
was_no_later now (p ∷ past) m b ends (inl (inl before)) = le_trans before.1 (first_ends now p past ends)
was_no_later now (p ∷ past) m b ends (inl (inr within)) = le_trans (le_of_eq within.0) (first_ends now p past ends)
was_no_later now (p ∷ past) m b ends (inr older) = was_no_later now past m b (both_right (nat_le p.moment now) (none_later now past) ends) older

pub no_later : (now since : ℕ) (bytes : List ℕ) (past : List Past) (m : ℕ) (b : List ℕ) → IsTrue (none_later now past)
    → ((since ≤ m) × (m ≤ now) × (b ≡ bytes)) ⊎ WasLeft past m b → m ≤ now
no_later now since bytes past m b ends (inl here) = here.1
no_later now since bytes past m b ends (inr was) = was_no_later now past m b ends was

pub now_left : (now since : ℕ) (bytes : List ℕ) (past : List Past) → since ≤ now
    → ((since ≤ now) × (now ≤ now) × (bytes ≡ bytes)) ⊎ WasLeft past now bytes
now_left now since bytes past began = inl (began, le_refl now, refl)
