-- What a call that changes names does to the nodes, once the node that lost its name is unused.
use Rattle.std.proofs.Common.{◌≡◌, ◌≢◌, ℕ, Bool, true, false, List, [], ◌∷◌, Option, Some, None, option_and_then, refl, sym, ap, subst, ◌∙◌, ◌⊎◌, inl, inr}
use Rattle.std.proofs.lemmas.Bool.{cases_eq}
use Rattle.std.specs.Prelude.{MatchBool}
use Rattle.nl_field.specs.Graph.{Graph, GraphNode, NodeBody, directory_node, file_node, unused}
use Rattle.nl_meta.proofs.Lists.{none_some, some_in}
use Rattle.nl_tree.specs.GraphChanges.{MovesEntry, RemovesEntry}
use Rattle.nl_tree.specs.GraphLaws.{NamedOnce, entry_at}
use Rattle.nl_tree.specs.Represents.{entries_in, node_named, node_of, node_reached}
use Rattle.nl_tree.specs.Tree.{paths_eq}
use Rattle.nl_tree.specs.declared.call.Call.{Call}
use Rattle.nl_tree.specs.declared.call.Call.TheVariants as call
use Rattle.nl_tree.specs.declared.reply.Refusal.{Refusal}
use Rattle.nl_tree.proofs.ChangeProofs.{at_end}
use Rattle.nl_inode.specs.Nodes.{Spaces}
use Rattle.nl_namespace.specs.Calls.{ChangesNames}
use Rattle.nl_namespace.specs.Moving.{MovesName}
use Rattle.nl_namespace.specs.Naming.{LosesName, NameIn}
use Rattle.nl_namespace.specs.Paths.{onward, walk_refusal, within}
use Rattle.nl_namespace.specs.declared.answer.Change.TheVariants as change
use Rattle.nl_calls_names.specs.Gathering.{node_lost}

abbrev no_bytes : ℕ → List ℕ
no_bytes stamp = []

-- a walk that is refused reaches no node
pub refused_none : (graph : Graph) (n : ℕ) (path : List (List ℕ)) (refusal : Refusal) → walk_refusal graph n path ≡ Some refusal → node_reached graph n path ≡ None
unfolding walk_refusal node_reached
refused_none graph n [] refusal e = absurd (none_some refusal e)
refused_none graph n (name ∷ names) refusal e = by (λ m. refused_none graph m names refusal) (graph n).body e
  where
    on : ((m : ℕ) → walk_refusal graph m names ≡ Some refusal → node_reached graph m names ≡ None) → (o : Option ℕ) → onward o names (λ m. walk_refusal graph m names) ≡ Some refusal
        → option_and_then (λ m. node_reached graph m names) o ≡ None
    on rest None e = refl
    on rest (Some m) e = rest m e

    by : ((m : ℕ) → walk_refusal graph m names ≡ Some refusal → node_reached graph m names ≡ None) → (body : NodeBody) → within body name names (λ m. walk_refusal graph m names) ≡ Some refusal → option_and_then (λ m. node_reached graph m names) (node_named name (entries_in body)) ≡ None
    by rest unused e = refl
    by rest (file_node size pointers) e = refl
    by rest (directory_node entries) e = on rest (node_named name entries) e

-- what a name leads to
module _ (graph : Graph) (path : List (List ℕ)) (n m : ℕ) (name : List ℕ) (place : NameIn graph path n name) (at : entry_at graph n name ≡ Some m) where
  pub leads_to : node_reached graph 0 path ≡ Some m
  leads_to = ap (node_reached graph 0) place.split ∙ at_end graph place.parent name n place.leads ∙ at

-- ---- the node that loses its name

module _ (free : Spaces) (old mid : Graph) (n : ℕ) where
  none_gone : Some n ≡ None → ⊥
  none_gone e = none_some n (sym e)

  lost_entry : (path : List (List ℕ)) (l : LosesName old mid path n) → entry_at old l.n l.name ≡ Some n
  lost_entry path l = (l.removes no_bytes).was

  loses_as : (path : List (List ℕ)) (m : ℕ) → Some n ≡ Some m → LosesName old mid path m → LosesName old mid path n
  loses_as path m e l = subst (λ (k : ℕ). LosesName old mid path k) (sym (some_in n m e)) l

  moves_at_all : (from to : List (List ℕ)) (b : Bool) → MatchBool b ((Some n ≡ None) × (mid ≡ old)) (MovesName old mid from to (Some n)) → MovesName old mid from to (Some n)
  moves_at_all from to true x = absurd (none_gone x.0)
  moves_at_all from to false x = x

  lost_by : (path : List (List ℕ)) → LosesName old mid path n → node_reached old 0 path ≡ Some n
  lost_by path l = leads_to old path l.n n l.name l.place (lost_entry path l)

  -- the node at the path loses its name
  pub is_lost : (c : Call) → ChangesNames free old mid c (change.Changed (Some n)) → node_lost old c ≡ Some n
  is_lost (call.Mkdir path) h = absurd (none_gone h.1)
  is_lost (call.Rmdir path) h = lost_by path (loses_as path h.1.0 h.1.1 h.1.2)
  is_lost (call.Create path) h = absurd (none_gone h.1)
  is_lost (call.Unlink path) h = lost_by path (loses_as path h.1.0 h.1.1 h.1.2)
  is_lost (call.Rename from to) h = let m = moves_at_all from to (paths_eq from to) h.1 in leads_to old to m.l n m.name_to m.place_to (sym m.stood)
  is_lost (call.Write path from bytes) h = absurd h
  is_lost (call.Fill path from len byte) h = absurd h
  is_lost (call.Read path from len) h = absurd h
  is_lost (call.Truncate path size) h = absurd h
  is_lost (call.Stat path) h = absurd h
  is_lost (call.List path) h = absurd h
  is_lost call.Sync h = absurd h
  is_lost call.Clean h = absurd h

  -- which is not the root
  pub not_root : (c : Call) → NamedOnce old → ChangesNames free old mid c (change.Changed (Some n)) → n ≢ 0
  not_root (call.Mkdir path) once h e = none_gone h.1
  not_root (call.Rmdir path) once h e = let l = loses_as path h.1.0 h.1.1 h.1.2 in once.not_root l.n l.name (lost_entry path l ∙ ap (λ (k : ℕ). Some k) e)
  not_root (call.Create path) once h e = none_gone h.1
  not_root (call.Unlink path) once h e = let l = loses_as path h.1.0 h.1.1 h.1.2 in once.not_root l.n l.name (lost_entry path l ∙ ap (λ (k : ℕ). Some k) e)
  not_root (call.Rename from to) once h e = let m = moves_at_all from to (paths_eq from to) h.1 in once.not_root m.l m.name_to (sym m.stood ∙ ap (λ (k : ℕ). Some k) e)
  not_root (call.Write path from bytes) once h e = h
  not_root (call.Fill path from len byte) once h e = h
  not_root (call.Read path from len) once h e = h
  not_root (call.Truncate path size) once h e = h
  not_root (call.Stat path) once h e = h
  not_root (call.List path) once h e = h
  not_root call.Sync once h e = h
  not_root call.Clean once h e = h

-- ---- once it is unused

module _ (free : Spaces) (old mid new : Graph) (n : ℕ) (others : (k : ℕ) → k ≢ n → new k ≡ mid k) (gone : (new n).body ≡ unused) where
  childless_now : (x : List ℕ) → entry_at new n x ≡ None
  childless_now x = ap (λ (b : NodeBody). node_named x (entries_in b)) gone

  entry_same : (k : ℕ) (x : List ℕ) → k ≢ n → entry_at new k x ≡ entry_at mid k x
  entry_same k x far = ap (λ (z : GraphNode). node_named x (entries_in z.body)) (others k far)

  body_same : (bytes : ℕ → List ℕ) (k : ℕ) → k ≢ n → node_of bytes (new k).body ≡ node_of bytes (mid k).body
  body_same bytes k far = ap (λ (z : GraphNode). node_of bytes z.body) (others k far)

  -- ---- a name less

  module _ (path : List (List ℕ)) (l : LosesName old mid path n) where
    removed : (bytes : ℕ → List ℕ) → RemovesEntry bytes bytes old new l.n n l.name
    removed bytes = record {
      was = r.was;
      was_childless = r.was_childless;
      there = λ x. entry_same l.n x apart ∙ r.there x;
      childless = childless_now;
      others = λ k x far off. entry_same k x off ∙ r.others k x far off;
      bodies_stay = λ k off. body_same bytes k off ∙ r.bodies_stay k off;
    }
      where
        r : RemovesEntry bytes bytes old mid l.n n l.name
        r = l.removes bytes

        apart : l.n ≢ n
        apart e = none_some n (sym (r.was_childless l.name) ∙ ap (λ (k : ℕ). entry_at old k l.name) (sym e) ∙ r.was)

    loses : LosesName old new path n
    loses = record { n = l.n; name = l.name; place = l.place; removes = removed }

  -- ---- a name that is moved

  module _ (from to : List (List ℕ)) (m : MovesName old mid from to (Some n)) where
    moved : (bytes : ℕ → List ℕ) → MovesEntry bytes bytes old new m.n m.m m.l m.name m.name_to
    moved bytes = record {
      was = r.was;
      now = entry_same m.l m.name_to apart ∙ r.now;
      gone = at (cases_eq m.n n);
      others = λ k x a b c. entry_same k x (off k c) ∙ r.others k x a b c;
      over_childless = r.over_childless;
      childless = λ k x e. subst (λ (i : ℕ). entry_at new i x ≡ None) (some_in n k (m.stood ∙ e)) (childless_now x);
      bodies_stay = λ k c. body_same bytes k (off k c) ∙ r.bodies_stay k c;
    }
      where
        r : MovesEntry bytes bytes old mid m.n m.m m.l m.name m.name_to
        r = m.moves bytes

        apart : m.l ≢ n
        apart e = none_some n (sym (r.over_childless n m.name_to (sym m.stood)) ∙ ap (λ (k : ℕ). entry_at old k m.name_to) (sym e) ∙ sym m.stood)

        off : (k : ℕ) → entry_at old m.l m.name_to ≢ Some k → k ≢ n
        off k c e = c (sym m.stood ∙ ap (λ (i : ℕ). Some i) (sym e))

        at : (m.n ≡ n) ⊎ (m.n ≡ n → ⊥) → entry_at new m.n m.name ≡ None
        at (inl e) = ap (λ (k : ℕ). entry_at new k m.name) e ∙ childless_now m.name
        at (inr far) = entry_same m.n m.name far ∙ r.gone

    moves : MovesName old new from to (Some n)
    moves = record { n = m.n; m = m.m; l = m.l; name = m.name; name_to = m.name_to; place = m.place; place_to = m.place_to; apart = m.apart; stood = m.stood; moves = moved }

  moves_or_stays : (from to : List (List ℕ)) (b : Bool) → MatchBool b ((Some n ≡ None) × (mid ≡ old)) (MovesName old mid from to (Some n)) → MatchBool b ((Some n ≡ None) × (new ≡ old)) (MovesName old new from to (Some n))
  moves_or_stays from to true x = absurd (none_gone free old mid n x.0)
  moves_or_stays from to false x = moves from to x

  pub changes_names : (c : Call) → ChangesNames free old mid c (change.Changed (Some n)) → ChangesNames free old new c (change.Changed (Some n))
  changes_names (call.Mkdir path) h = absurd (none_gone free old mid n h.1)
  changes_names (call.Rmdir path) h = (h.0, (n, refl, loses path (loses_as free old mid n path h.1.0 h.1.1 h.1.2)))
  changes_names (call.Create path) h = absurd (none_gone free old mid n h.1)
  changes_names (call.Unlink path) h = (h.0, (n, refl, loses path (loses_as free old mid n path h.1.0 h.1.1 h.1.2)))
  changes_names (call.Rename from to) h = (h.0, moves_or_stays from to (paths_eq from to) h.1, h.2)
  changes_names (call.Write path from bytes) h = absurd h
  changes_names (call.Fill path from len byte) h = absurd h
  changes_names (call.Read path from len) h = absurd h
  changes_names (call.Truncate path size) h = absurd h
  changes_names (call.Stat path) h = absurd h
  changes_names (call.List path) h = absurd h
  changes_names call.Sync h = absurd h
  changes_names call.Clean h = absurd h
