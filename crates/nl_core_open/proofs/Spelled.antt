-- No super page spells a count of 2^63 calls or more, and no page a write sequence number of 2^63 or more.
use Rattle.std.proofs.Common.{◌≡◌, ◌^◌, ℕ, suc, ◌+◌, ◌<◌, ◌≤◌, Bool, true, false, List, [], ◌∷◌, Option, Some, None, max, All, ap, sym, subst, ◌∙◌, refl, arith}
use Rattle.std.proofs.lemmas.Bool.{and_parts, ltb-true}
use Rattle.std.specs.Prelude.{IsTrue, ◌&&◌, ◌==◌, bytes_eq, fold, if◌then◌else◌, nat_le, nat_lt, option_and_then}
use Rattle.nl_field.specs.SpareRecord.{is_spare, stamp_of}
use Rattle.nl_field.specs.SuperPage.{is_super, super_bytes, super_fields, super_of}
use Rattle.nl_field.specs.declared.seen.Seen.{Seen}
use Rattle.nl_field.specs.declared.super_page.SuperRec.{SuperRec}
use Rattle.nl_meta.specs.Committed.{VirtualMap}
use Rattle.nl_meta.specs.Nodes.{super_of_pages}
use Rattle.nl_scan.specs.Tables.{IsSeen, greatest_stamp}

-- ---- the count of calls

few_so : (value rec : SuperRec) (a b : Bool) → IsTrue ((value.version == 1 && a) && b) → nat_lt value.count (2 ^ 63) ≡ a → value ≡ rec → rec.count < 2 ^ 63
few_so value rec a b is low same =
    let sure : a ≡ true = (and_parts (value.version == 1) a (and_parts (value.version == 1 && a) b is).0).1 in
    subst (λ (r : SuperRec). r.count < 2 ^ 63) same (ltb-true value.count (2 ^ 63) (low ∙ sure))

few_if : (value rec : SuperRec) (b : Bool) (c : Bool) → ((value.version == 1 && nat_lt value.count (2 ^ 63)) && b) ≡ c → (if c then Some value else None) ≡ Some rec → rec.count < 2 ^ 63
few_if value rec b true is spelled = few_so value rec (nat_lt value.count (2 ^ 63)) b is refl (cc spelled)
few_if value rec b false is spelled = absurd (cc spelled)

few_spelled : (bytes : List ℕ) (rec : SuperRec) → super_of bytes ≡ Some rec → rec.count < 2 ^ 63
unfolding super_of
few_spelled bytes rec spelled = few_if (super_fields bytes) rec (bytes_eq (super_bytes (super_fields bytes)) bytes) (is_super (super_fields bytes) && bytes_eq (super_bytes (super_fields bytes)) bytes) refl spelled

few_on : (page : Option (List ℕ)) (rec : SuperRec) → option_and_then super_of page ≡ Some rec → rec.count < 2 ^ 63
few_on None rec spelled = absurd (cc spelled)
few_on (Some bytes) rec spelled = few_spelled bytes rec spelled

pub few_calls : (pages : VirtualMap) (rec : SuperRec) → super_of_pages pages ≡ Some rec → rec.count < 2 ^ 63
unfolding super_of_pages
few_calls pages rec spelled = few_on (pages 0) rec spelled

-- ---- the write sequence numbers

stamp_small : (s : Seen) → IsTrue (is_spare s.rec) → stamp_of s.rec < 2 ^ 63
stamp_small s spelled = ltb-true (stamp_of s.rec) (2 ^ 63) (and_parts (nat_le 1 (stamp_of s.rec)) (nat_lt (stamp_of s.rec) (2 ^ 63)) spelled).1

greatest_small : (pages best : ℕ) (seen : List Seen) → best < 2 ^ 63 → All (IsSeen pages) seen → fold (λ best (s : Seen). max best (stamp_of s.rec)) best seen < 2 ^ 63
greatest_small pages best [] low each = low
greatest_small pages best (s ∷ rest) low each =
    let here = stamp_small s (each 0 s (omega arith)).spelled in
    greatest_small pages (max best (stamp_of s.rec)) rest (omega (arith, low, here)) (λ i d lt. each (suc i) d (omega (arith, lt)))

pub next_small : (pages : ℕ) (seen : List Seen) → All (IsSeen pages) seen → 1 + greatest_stamp seen ≤ 2 ^ 63
unfolding greatest_stamp
next_small pages seen each = let low = greatest_small pages 0 seen (omega arith) each in omega (arith, low)
