-- The readable pages of the virtual segment.
use Rattle.std.proofs.Common.{◌≡◌, inl, inr, ℕ, zero, suc, ◌+◌, ◌<◌, ◌==◌, ◌∙◌, nat_lt, Bool, true, cond, List, [], ◌∷◌, ◌++◌, take, get_or, Some, None, refl, sym, ap, subst, arith}
use Rattle.std.specs.Prelude.{All, filter, slice_get}
use Rattle.std.specs.List.{cons_option}
use Rattle.std.proofs.lemmas.Bool.{cases_Bool, cond-true, cond-false, ltb-true}
use Rattle.std.proofs.lemmas.List.{take_more}
use Rattle.std.proofs.lemmas.List.Elements.{filter_map-append}
use Rattle.std.proofs.lemmas.Option.{get_or_from_slice_get, none-some, same_Some, slice_get_within}
use Rattle.nl_field.specs.Medium.{address_of, first_physical, is_virtual_rec}
use Rattle.nl_field.specs.SpareRecord.{stamp_of}
use Rattle.nl_field.specs.declared.shape.Shape.{Shape}
use Rattle.nl_field.specs.declared.spare.SpareRec.{SpareRec}
use Rattle.nl_field.specs.declared.spare.SpareRec.TheVariants.{Virtual, Physical}
use Rattle.nl_field.specs.declared.seen.Seen.{Seen}
use Rattle.nl_vseg.proofs.Members.{In, filter_to, filter_map_to}
use Rattle.nl_device.specs.Opening.{greatest_of, newest_of, own_in, own_of, owns_of}
use Rattle.nl_device.specs.declared.opening.own.Own.{Own}

-- the page of the virtual segment that a seen page is
pub record IsOwn (shape : Shape) (page : ℕ) (rec : SpareRec) (o : Own) : Type 0 where
  pub same_page : o.page ≡ page
  pub same_address : o.vaddr ≡ address_of rec
  pub same_stamp : o.stamp ≡ stamp_of rec
  pub below : o.vaddr < shape.vaddrs
  pub virtual : is_virtual_rec shape rec ≡ true

own_in_is : (shape : Shape) (page : ℕ) (rec : SpareRec) (o : Own) → own_in shape page rec ≡ Some o → IsOwn shape page rec o
own_in_is shape page (Physical tag s w) o is = absurd (none-some o is)
own_in_is shape page (Virtual v s w) o is = elim (cases_Bool (nat_lt v shape.vaddrs)) [
  | inr fails ↦ absurd (none-some o (sym (cond-false (nat_lt v shape.vaddrs) (Some (record { page = page; vaddr = v; stamp = s })) None fails) ∙ is))
  | inl holds ↦
      let e = same_Some (record { page = page; vaddr = v; stamp = s }) o (sym (cond-true (nat_lt v shape.vaddrs) (Some (record { page = page; vaddr = v; stamp = s })) None holds) ∙ is) in
      record {
        same_page = sym (ap (λ (x : Own). x.page) e);
        same_address = sym (ap (λ (x : Own). x.vaddr) e);
        same_stamp = sym (ap (λ (x : Own). x.stamp) e);
        below = subst (λ (x : Own). x.vaddr < shape.vaddrs) e (ltb-true v shape.vaddrs holds);
        virtual = holds;
      }
]

pub own_is : (shape : Shape) (s : Seen) (o : Own) → own_of shape s ≡ Some o → (s.page < first_physical shape) × IsOwn shape s.page s.rec o
own_is shape s o is = elim (cases_Bool (nat_lt s.page (first_physical shape))) [
  | inr fails ↦ absurd (none-some o (sym (cond-false (nat_lt s.page (first_physical shape)) (own_in shape s.page s.rec) None fails) ∙ is))
  | inl holds ↦ (ltb-true s.page (first_physical shape) holds, own_in_is shape s.page s.rec o (sym (cond-true (nat_lt s.page (first_physical shape)) (own_in shape s.page s.rec) None holds) ∙ is))
]

pub all_in : {X : Type 0} (P : X → Type 0) (xs : List X) → ((x : X) → In x xs → P x) → All P xs
all_in P [] each k d below = absurd (omega (arith, below))
all_in P (x ∷ xs) each zero d below = each x (inl refl)
all_in P (x ∷ xs) each (suc k) d below = all_in P xs (λ y is. each y (inr is)) k d (omega (arith, below))

-- each is a page of the virtual segment
pub owns_is : (shape : Shape) (seen : List Seen) (o : Own) → In o (owns_of shape seen) → (s : Seen) × In s seen × (s.page < first_physical shape) × IsOwn shape s.page s.rec o
owns_is shape seen o is = let m = filter_map_to (own_of shape) o seen is in let h = own_is shape m.0 o m.2 in (m.0, m.1, h.0, h.1)

pub owns_below : (shape : Shape) (seen : List Seen) → All (λ (o : Own). o.vaddr < shape.vaddrs) (owns_of shape seen)
owns_below shape seen = all_in (λ (o : Own). o.vaddr < shape.vaddrs) (owns_of shape seen) (λ o is. (owns_is shape seen o is).3.below)

-- one page more
pub owns_more : (shape : Shape) (seen : List Seen) (at : ℕ) (s : Seen) → slice_get seen at ≡ Some s → owns_of shape (take (at + 1) seen) ≡ owns_of shape (take at seen) ++ cons_option (own_of shape s) []
owns_more shape seen at s is =
    ap (owns_of shape) (take_more seen at s (slice_get_within seen at s is))
    ∙ (filter_map-append (own_of shape) (take at seen) (get_or seen at s ∷ [])
    ∙ ap (λ x. owns_of shape (take at seen) ++ cons_option (own_of shape x) []) (get_or_from_slice_get seen at s s is))

filter_same : {X : Type 0} (p q : X → Bool) (xs : List X) → ((x : X) → In x xs → p x ≡ q x) → filter p xs ≡ filter q xs
filter_same p q [] same = refl
filter_same p q (x ∷ xs) same = let rest = filter_same p q xs (λ y is. same y (inr is)) in λ i. cond (same x (inl refl) i) (x ∷ rest i) (rest i)

-- those whose stamp is the greatest of the table
pub newest_filter : (greatest : List ℕ) (owns : List Own) → ((o : Own) → In o owns → get_or greatest o.vaddr 0 ≡ greatest_of owns o.vaddr) → filter (λ o. o.stamp == get_or greatest o.vaddr 0) owns ≡ newest_of owns
unfolding newest_of
newest_filter greatest owns same = filter_same (λ o. o.stamp == get_or greatest o.vaddr 0) (λ o. o.stamp == greatest_of owns o.vaddr) owns (λ o is. ap (λ n. o.stamp == n) (same o is))

pub needed_in : (owns : List Own) (o : Own) → In o (newest_of owns) → In o owns × ((o.stamp == greatest_of owns o.vaddr) ≡ true)
unfolding newest_of
needed_in owns o is = filter_to (λ o. o.stamp == greatest_of owns o.vaddr) o owns is
