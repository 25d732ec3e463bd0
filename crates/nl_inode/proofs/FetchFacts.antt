-- Pages that are fetched.
use Rattle.std.proofs.Common.{◌≡◌, ℕ, ◌<◌, true, false, cond, List, ◌==◌, ap, ◌∙◌, refl, Option, Some, None, option_map, is_some, ◌⊎◌, inl, inr}
use Rattle.std.proofs.lemmas.Bool.{both_ways, cases_Bool, cond-true, eqb-true, lt-ltb}
use Rattle.nl_field.specs.Bytes.{zeros}
use Rattle.nl_field.specs.Virtual.{is_inode_address, map_bytes, or_zeros}
use Rattle.nl_field.specs.declared.shape.Shape.{Shape}
use Rattle.nl_iface.specs.Stored.{Value}
use Rattle.nl_meta.specs.Pages.{IsPages, Pages, is_dirty, page_of}
use Rattle.nl_meta.proofs.Lists.{any_member}

pub none-of : {X : Type 0} (o : Option X) → is_some o ≡ false → o ≡ None
none-of None e = refl
none-of (Some x) e = absurd (both_ways true e refl)

-- a page that is not resident is not dirty
pub not-dirty : (p : Pages) (v : ℕ) → IsPages p → page_of p v ≡ None → is_dirty p v ≡ false
not-dirty p v is gone = by (cases_Bool (is_dirty p v))
  where
    by : (is_dirty p v ≡ true) ⊎ (is_dirty p v ≡ false) → is_dirty p v ≡ false
    by (inr e) = e
    by (inl e) =
        let m = any_member (λ a. a == v) p.dirty e in
        absurd (both_ways _ (ap (λ (w : ℕ). is_some (page_of p w)) (eqb-true m.0 v m.2) ∙ ap is_some gone) (is.dirty_there m.0 m.1))

or-zeros-some : (shape : Shape) (v : ℕ) (bytes : List ℕ) → or_zeros shape v (Some bytes) ≡ Some bytes
or-zeros-some shape v bytes = elim (is_inode_address shape v) as (λ b. cond b (Some bytes) (Some bytes) ≡ Some bytes) [ true ↦ refl | false ↦ refl ]

pub read-bytes : (shape : Shape) (map : ℕ → Option Value) (v stamp : ℕ) (bytes : List ℕ) → v < shape.vaddrs → map v ≡ Some (stamp, bytes) → map_bytes shape map v ≡ Some bytes
unfolding map_bytes
read-bytes shape map v stamp bytes below is =
    cond-true _ _ _ (lt-ltb v shape.vaddrs below) ∙ ap (λ (o : Option Value). or_zeros shape v (option_map (λ x. x.1) o)) is ∙ or-zeros-some shape v bytes

pub unread-bytes : (shape : Shape) (map : ℕ → Option Value) (v : ℕ) → v < shape.vaddrs → map v ≡ None → is_inode_address shape v ≡ true → map_bytes shape map v ≡ Some (zeros 4096)
unfolding map_bytes
unread-bytes shape map v below is inode =
    cond-true _ _ _ (lt-ltb v shape.vaddrs below) ∙ ap (λ (o : Option Value). or_zeros shape v (option_map (λ x. x.1) o)) is ∙ cond-true (is_inode_address shape v) _ _ inode
