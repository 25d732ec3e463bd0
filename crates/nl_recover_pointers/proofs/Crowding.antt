-- The three tests of a crowded volume, and the stale pointers, one pointer on.
use Rattle.std.proofs.Common.{◌≡◌, ℕ, ◌+◌, ◌*◌, Bool, true, false, not, cond, List, ◌∷◌, Option, Some, None, is_some, refl, sym, ◌∙◌, ap}
use Rattle.std.specs.Prelude.{count_by, is_none, nat_lt}
use Rattle.std.proofs.lemmas.List.Sums.{sum_by-cons}
use Rattle.nl_field.specs.ScanList.{holds_seen, is_lost_seen, virtual_spare_seen}
use Rattle.nl_field.specs.declared.seen.Seen.{Seen}
use Rattle.nl_field.specs.declared.shape.Shape.{Shape}
use Rattle.nl_meta.specs.Nodes.{Held}
use Rattle.nl_meta.specs.Walk.{crowded_fault, spare_beside}

none_is : {X : Type 0} (o : Option X) → is_none o ≡ not (is_some o)
none_is None = refl
none_is (Some x) = refl

-- what a volume is crowded by, of what is known of its spare blocks and its stale pointers
abbrev pub crowded_by : ℕ → Bool → Bool → ℕ → Option ℕ
crowded_by pages has_virtual has_physical lost = cond (not has_virtual) (Some 0) (cond (not has_physical) (Some 1) (cond (nat_lt (3 * pages) lost) (Some 2) None))

abbrev pub count_lost : Shape → List Seen → List Held → ℕ
count_lost shape seen held = count_by (λ h. is_lost_seen shape seen h.pointer) held

pub crowded_is : (shape : Shape) (seen : List Seen) (held : List Held)
    → crowded_by shape.pages (is_some (virtual_spare_seen shape seen)) (is_some (spare_beside shape seen held)) (count_lost shape seen held) ≡ crowded_fault shape seen held
unfolding crowded_fault
crowded_is shape seen held =
    sym (λ i. cond (none_is (virtual_spare_seen shape seen) i) (Some 0) (cond (none_is (spare_beside shape seen held) i) (Some 1) (cond (nat_lt (3 * shape.pages) (count_lost shape seen held)) (Some 2) None)))

-- ---- stale pointers

counted : (p : Held → Bool) (h : Held) (rest : List Held) → count_by p (h ∷ rest) ≡ cond (p h) 1 0 + count_by p rest
counted p h rest = sum_by-cons (λ x. cond (p x) 1 0) h rest

pub lost_more : (shape : Shape) (seen : List Seen) (h : Held) (rest : List Held) → holds_seen shape seen h.pointer.name h.pointer.stamp ≡ false → count_lost shape seen (h ∷ rest) ≡ 1 + count_lost shape seen rest
lost_more shape seen h rest is = counted (λ e. is_lost_seen shape seen e.pointer) h rest ∙ ap (λ b. cond (not b) 1 0 + count_lost shape seen rest) is

pub lost_same : (shape : Shape) (seen : List Seen) (h : Held) (rest : List Held) → holds_seen shape seen h.pointer.name h.pointer.stamp ≡ true → count_lost shape seen (h ∷ rest) ≡ 0 + count_lost shape seen rest
lost_same shape seen h rest is = counted (λ e. is_lost_seen shape seen e.pointer) h rest ∙ ap (λ b. cond (not b) 1 0 + count_lost shape seen rest) is
