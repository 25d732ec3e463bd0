-- Steps of the loops over the entries of a tree.
use Rattle.std.proofs.Common.{◌≡◌, ◌<◌, ◌+◌, ℕ, Bool, true, false, cond, if◌then◌else◌, List, [], ◌∷◌, ◌++◌, length, drop, get_or, ap, sym, refl, ◌∙◌}
use Rattle.std.proofs.lemmas.List.{drop_more, append_assoc}
use Rattle.std.specs.FinMap.Entries.{where_key}
use Rattle.nl_tree.specs.Tree.{Tree, Node, path_cmp}

-- one more entry of a filter
pub where_key_more : (test : List (List ℕ) → Bool) (kept tree : Tree) (i : ℕ) (d : List (List ℕ) × Node) → i < length tree
    → (kept ++ (if test (get_or tree i d).0 then get_or tree i d ∷ [] else [])) ++ where_key path_cmp test (drop (i + 1) tree) ≡ kept ++ where_key path_cmp test (drop i tree)
where_key_more test kept tree i d lt =
    append_assoc kept _ _
    ∙ ap (λ (x : Tree). kept ++ x) (at_head (get_or tree i d) (drop (i + 1) tree))
    ∙ ap (λ (x : Tree). kept ++ where_key path_cmp test x) (sym (drop_more tree i d lt))
  where
    at_head : (e : List (List ℕ) × Node) (es : Tree) → (if test e.0 then e ∷ [] else []) ++ where_key path_cmp test es ≡ where_key path_cmp test (e ∷ es)
    at_head e es = elim (test e.0) as (λ b. (if b then e ∷ [] else []) ++ where_key path_cmp test es ≡ cond b (e ∷ where_key path_cmp test es) (where_key path_cmp test es)) [ true ↦ refl | false ↦ refl ]

-- a step of a loop that keeps what passes a test
pub where_key_step : (test : List (List ℕ) → Bool) (kept next tree all : Tree) (i : ℕ) (keep : Bool) (entry : List (List ℕ) × Node) → i < length tree
    → next ≡ kept ++ (if keep then entry ∷ [] else []) → keep ≡ test entry.0 → entry ≡ get_or tree i entry
    → kept ++ where_key path_cmp test (drop i tree) ≡ all → next ++ where_key path_cmp test (drop (i + 1) tree) ≡ all
where_key_step test kept next tree all i keep entry lt grown kept_if read before =
    ap (λ (x : Tree). x ++ where_key path_cmp test (drop (i + 1) tree))
    (grown ∙ ap (λ b. kept ++ (if b then entry ∷ [] else [])) kept_if ∙ ap (λ (e : List (List ℕ) × Node). kept ++ (if test e.0 then e ∷ [] else [])) read)
    ∙ where_key_more test kept tree i entry lt ∙ before
