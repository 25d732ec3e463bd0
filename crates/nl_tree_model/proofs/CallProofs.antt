-- What a call that is not refused keeps within its bounds.
use Rattle.std.proofs.Common.{◌≡◌, ◌<◌, ◌≤◌, ◌+◌, ℕ, Bool, true, false, ◌&&◌, List, [], ◌∷◌, length, nat_lt, subst, refl, arith, Option, Some, None, is_none}
use Rattle.std.proofs.lemmas.Bool.Decides.{nat_tests}
use Rattle.nl_field.specs.Numbers.{max_file_size}
use Rattle.nl_tree.specs.declared.call.Call.{Call}
use Rattle.nl_tree.specs.declared.call.Call.TheVariants.{Write, Fill, Truncate, Stat, List as ListCall}
use Rattle.nl_tree.specs.declared.reply.Refusal.{Refusal}
use Rattle.nl_tree.specs.declared.reply.Refusal.TheVariants.{Enoent, Enotdir, Efbig}
use Rattle.nl_tree.specs.Tree.{Tree, node_at, is_file}
use Rattle.nl_tree.specs.Step.{when, first_of, own_refusal, prefix_refusal, refusal_of_file}

last_not : (r : Option Refusal) (b : Bool) (x : Refusal) → first_of (r ∷ when b x ∷ []) ≡ None → b ≡ false
last_not (Some y) b x h = cc
last_not None true x h = cc
last_not None false x h = refl

middle_not : (r s : Option Refusal) (b : Bool) (x : Refusal) → first_of (r ∷ when b x ∷ s ∷ []) ≡ None → b ≡ false
middle_not (Some y) s b x h = cc
middle_not None s true x h = cc
middle_not None s false x h = refl

ends : (from len : ℕ) → (nat_lt 0 len && nat_lt max_file_size (from + len)) ≡ false → 0 < len → from + len ≤ max_file_size
ends from len h some = grind (arith, nat_tests)

pub write_end : (tree : Tree) (call : Call) (path : List (List ℕ)) (from : ℕ) (bytes : List ℕ) → own_refusal tree call ≡ None → call ≡ Write path from bytes → 0 < length bytes → from + length bytes ≤ max_file_size
unfolding own_refusal
write_end tree call path from bytes h is =
    let passes : own_refusal tree (Write path from bytes) ≡ None = subst (λ (x : Call). own_refusal tree x ≡ None) is h in
    ends from (length bytes) (last_not (refusal_of_file tree path) (nat_lt 0 (length bytes) && nat_lt max_file_size (from + length bytes)) Efbig passes)

pub fill_end : (tree : Tree) (call : Call) (path : List (List ℕ)) (from len byte : ℕ) → own_refusal tree call ≡ None → call ≡ Fill path from len byte → 0 < len → from + len ≤ max_file_size
unfolding own_refusal
fill_end tree call path from len byte h is =
    let passes : own_refusal tree (Fill path from len byte) ≡ None = subst (λ (x : Call). own_refusal tree x ≡ None) is h in
    ends from len (last_not (refusal_of_file tree path) (nat_lt 0 len && nat_lt max_file_size (from + len)) Efbig passes)

pub truncate_end : (tree : Tree) (call : Call) (path : List (List ℕ)) (size : ℕ) → own_refusal tree call ≡ None → call ≡ Truncate path size → size ≤ max_file_size
unfolding own_refusal
truncate_end tree call path size h is =
    let passes : own_refusal tree (Truncate path size) ≡ None = subst (λ (x : Call). own_refusal tree x ≡ None) is h in
    let not : nat_lt max_file_size size ≡ false = last_not (refusal_of_file tree path) (nat_lt max_file_size size) Efbig passes in
    grind (arith, nat_tests, not)

pub stat_there : (tree : Tree) (call : Call) (path : List (List ℕ)) → own_refusal tree call ≡ None → call ≡ Stat path → is_none (node_at tree path) ≡ false
unfolding own_refusal
stat_there tree call path h is =
    last_not (prefix_refusal tree path) (is_none (node_at tree path)) Enoent (subst (λ (x : Call). own_refusal tree x ≡ None) is h)

pub list_there : (tree : Tree) (call : Call) (path : List (List ℕ)) → own_refusal tree call ≡ None → call ≡ ListCall path → is_none (node_at tree path) ≡ false
unfolding own_refusal
list_there tree call path h is =
    middle_not (prefix_refusal tree path) (when (is_file (node_at tree path)) Enotdir) (is_none (node_at tree path)) Enoent (subst (λ (x : Call). own_refusal tree x ≡ None) is h)
