-- The text of a directory's names, as it is put together.
use Rattle.std.proofs.Common.{◌≡◌, ◌<◌, ◌≤◌, ◌+◌, ◌*◌, ℕ, Bool, true, false, if◌then◌else◌, List, [], ◌∷◌, ◌++◌, length, drop, get_or, ap, sym, refl, arith, ◌∙◌, Some, cond}
use Rattle.std.proofs.lemmas.List.{append_assoc, append-nil, length-append, drop_all}
use Rattle.std.proofs.lemmas.Grind.{flat_map-append}
use Rattle.std.specs.FinMap.Entries.{where_key}
use Rattle.nl_tree.specs.Tree.{Tree, Node, path_cmp, last_name, is_directory}
use Rattle.nl_tree.specs.Step.{listing}
use Rattle.nl_tree.specs.KeptSums.{is_entry_of}
use Rattle.nl_tree_entries.specs.Entries.{HasShortNames}
use Rattle.nl_tree_entries.proofs.EntriesSteps.{where_key_more}

abbrev E : Type 0
E = List (List ℕ) × Node

abbrev mark : Node → List ℕ
mark node = if is_directory (Some node) then 47 ∷ [] else []

listing-append : (a b : Tree) → listing (a ++ b) ≡ listing a ++ listing b
unfolding listing
listing-append a b = flat_map-append (λ x. (32 ∷ last_name x.0) ++ mark x.1) a b

listing_one : (e : E) → listing (e ∷ []) ≡ 32 ∷ last_name e.0 ++ mark e.1
unfolding listing
listing_one e = append-nil _

pub entry_text : (e : E) (out first second third name end : List ℕ) → first ≡ out ++ 32 ∷ [] → second ≡ first ++ name → third ≡ second ++ end → name ≡ last_name e.0 → end ≡ mark e.1
    → third ≡ out ++ listing (e ∷ [])
entry_text e out first second third name end a b c is_name is_end =
    c ∙ (λ i. (b ∙ (λ j. a j ++ name)) i ++ end)
    ∙ (λ i. (out ++ 32 ∷ []) ++ is_name i ++ is_end i)
    ∙ append_assoc (out ++ 32 ∷ []) (last_name e.0) (mark e.1)
    ∙ append_assoc out (32 ∷ []) (last_name e.0 ++ mark e.1)
    ∙ ap (λ (x : List ℕ). out ++ x) (sym (listing_one e))

pub entry_length : (e : E) (name end : List ℕ) → name ≡ last_name e.0 → end ≡ mark e.1 → length (listing (e ∷ [])) ≡ 1 + length name + length end
entry_length e name end is_name is_end =
    let text : listing (e ∷ []) ≡ (32 ∷ name) ++ end = listing_one e ∙ (λ i. (32 ∷ sym is_name i) ++ sym is_end i) in
    let sum : length ((32 ∷ name) ++ end) ≡ length (32 ∷ name) + length end = length-append (32 ∷ name) end in
    omega (arith, ap length text, sum)

pub no_entry : (p : List (List ℕ)) (e : E) (out : List ℕ) → false ≡ is_entry_of p e.0 → out ≡ out ++ listing (if is_entry_of p e.0 then e ∷ [] else [])
unfolding listing
no_entry p e out not = sym (append-nil out) ∙ (λ i. out ++ listing (if not i then e ∷ [] else []))

pub names_step : (p : List (List ℕ)) (tree : Tree) (i : ℕ) (e : E) (out next all : List ℕ) → i < length tree → e ≡ get_or tree i e
    → next ≡ out ++ listing (if is_entry_of p e.0 then e ∷ [] else []) → out ++ listing (where_key path_cmp (is_entry_of p) (drop i tree)) ≡ all
    → next ++ listing (where_key path_cmp (is_entry_of p) (drop (i + 1) tree)) ≡ all
names_step p tree i e out next all lt read grown before =
    let rest : Tree = where_key path_cmp (is_entry_of p) (drop (i + 1) tree) in
    let here : Tree = if is_entry_of p e.0 then e ∷ [] else [] in
    let joined : here ++ rest ≡ where_key path_cmp (is_entry_of p) (drop i tree) =
    ap (λ (x : E). (if is_entry_of p x.0 then x ∷ [] else []) ++ rest) read ∙ where_key_more (is_entry_of p) [] tree i e lt in
    ap (λ (x : List ℕ). x ++ listing rest) grown ∙ append_assoc out (listing here) (listing rest)
    ∙ ap (λ (x : List ℕ). out ++ x) (sym (listing-append here rest) ∙ ap listing joined) ∙ before

pub names_room : (p : List (List ℕ)) (tree : Tree) (i : ℕ) (e : E) (out all : List ℕ) → i < length tree → e ≡ get_or tree i e
    → out ++ listing (where_key path_cmp (is_entry_of p) (drop i tree)) ≡ all → length out + length (listing (if is_entry_of p e.0 then e ∷ [] else [])) ≤ length all
names_room p tree i e out all lt read before =
    let here : List ℕ = listing (if is_entry_of p e.0 then e ∷ [] else []) in
    let rest : List ℕ = listing (where_key path_cmp (is_entry_of p) (drop (i + 1) tree)) in
    let whole : (out ++ here) ++ rest ≡ all = names_step p tree i e out (out ++ here) all lt read refl before in
    omega (arith, ap length whole, length-append (out ++ here) rest, length-append out here)

pub names_end : (p : List (List ℕ)) (tree : Tree) (i : ℕ) (out all : List ℕ) → length tree ≤ i → out ++ listing (where_key path_cmp (is_entry_of p) (drop i tree)) ≡ all → out ≡ all
unfolding listing
names_end p tree i out all le before =
    sym (append-nil out) ∙ ap (λ (x : Tree). out ++ listing (where_key path_cmp (is_entry_of p) x)) (sym (drop_all i tree le)) ∙ before

mark_short : (node : Node) → length (mark node) ≤ 1
mark_short node = elim (is_directory (Some node)) as (λ b. length {A = ℕ} (if b then 47 ∷ [] else []) ≤ 1) [ true ↦ omega arith | false ↦ omega arith ]

listing_none : length (listing []) ≤ 57 * 0
unfolding listing
listing_none = omega arith

pub listing_short : (es : Tree) → HasShortNames es → length (listing es) ≤ 57 * length es
listing_short [] h = listing_none
listing_short (e ∷ es) h =
    let rest : length (listing es) ≤ 57 * length es = listing_short es h.1 in
    let one : length (listing (e ∷ [])) ≡ 1 + length (last_name e.0) + length (mark e.1) = entry_length e (last_name e.0) (mark e.1) refl refl in
    let both : listing (e ∷ es) ≡ listing (e ∷ []) ++ listing es = listing-append (e ∷ []) es in
    let short : length (last_name e.0) ≤ 55 = h.0 in
    omega (arith, ap length both, length-append (listing (e ∷ [])) (listing es), one, mark_short e.1, short, rest)

pub short-where : (test : List (List ℕ) → Bool) (es : Tree) → HasShortNames es → HasShortNames (where_key path_cmp test es)
short-where test [] h = h
short-where test (e ∷ es) h =
    elim (test e.0) as (λ b. HasShortNames (cond b (e ∷ where_key path_cmp test es) (where_key path_cmp test es))) [ true ↦ (h.0, short-where test es h.1) | false ↦ short-where test es h.1 ]
