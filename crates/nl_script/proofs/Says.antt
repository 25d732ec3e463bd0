-- What a line of these words says.
use Rattle.std.proofs.Common.{◌≡◌, ◌<◌, ◌≤◌, ℕ, ◌+◌, Bool, true, false, cond, List, [], ◌∷◌, length, refl, ◌∙◌, ap, arith}
use Rattle.std.specs.Prelude.{◌==◌, nat_lt, Option, Result, Ok, position, codes, bytes_eq, slice_index}
use Rattle.std.specs.List.{AllByRecursion, list_all}
use Rattle.std.proofs.lemmas.Bool.Decides.{nat_tests}
use Rattle.nl_tree.specs.declared.call.Call.{Call}
use Rattle.nl_tree.specs.declared.call.Call.TheVariants as call
use Rattle.nl_script.specs.declared.command.Command.{Command}
use Rattle.nl_script.specs.declared.command.Command.TheVariants.{Mkdir, Create, Unlink, Stat, Rename, Write, Fill, Read, Truncate, Sync}
use Rattle.nl_script.specs.declared.fault.Fault.{Fault}
use Rattle.nl_script.specs.declared.said.Said.TheVariants.{Nothing, CallOf}
use Rattle.nl_script.specs.declared.why.Why.{Why}
use Rattle.nl_script.specs.declared.why.Why.TheVariants.{Long}
use Rattle.nl_script.specs.Grammar.{at_column, read, no_more, lone_path, rename_of, write_of, fill_of, read_of, truncate_of, path_call, bare_call, call_of, worker_call, words_say, is_comment, is_control, control_or, max_line, bytes_say, line_says, refused, barrier}
use Rattle.nl_script.specs.Spellings.{◌>>=◌, worker_of, command_of, path_of, number_of, length_of, data_of, byte_of}
use Rattle.nl_script.specs.Words.{Word, words_from}
use Rattle.nl_script.proofs.Tokens.{IsToken, is_plain, plain_literal, joined, at, words_joined, no_control, no_return}

-- ---- the words behind a command

spelled : {T : Type 0} (after column : ℕ) (spells : List ℕ → Result T Why) (t : List ℕ) (ts : List (List ℕ)) (v : T) → spells t ≡ Ok v → read after spells (at column (t ∷ ts)) ≡ Ok v
unfolding read
spelled after column spells t ts v e = ap (at_column column) e

pub path_says : (after column : ℕ) (make : List (List ℕ) → Call) (t : List ℕ) (path : List (List ℕ)) → path_of t ≡ Ok path → path_call make after (at column (t ∷ [])) ≡ Ok (make path)
unfolding lone_path no_more
path_says after column make t path e =
    ap (λ (x : Result (List (List ℕ)) Fault). (x >>= (λ p. Ok p)) >>= (λ p. Ok (make p))) (spelled after column path_of t [] path e)

pub rename_says : (after column : ℕ) (t u : List ℕ) (from to : List (List ℕ)) → path_of t ≡ Ok from → path_of u ≡ Ok to → rename_of after (at column (t ∷ u ∷ [])) ≡ Ok (call.Rename from to)
unfolding rename_of lone_path no_more
rename_says after column t u from to e f =
    ap (λ (x : Result (List (List ℕ)) Fault). x >>= (λ p. (read after path_of (at (column + length t + 1) (u ∷ [])) >>= (λ q. Ok q)) >>= (λ q. Ok (call.Rename p q)))) (spelled after column path_of t (u ∷ []) from e)
    ∙ ap (λ (x : Result (List (List ℕ)) Fault). (x >>= (λ q. Ok q)) >>= (λ q. Ok (call.Rename from q))) (spelled after (column + length t + 1) path_of u [] to f)

pub read_says : (after column : ℕ) (t u v : List ℕ) (path : List (List ℕ)) (from count : ℕ) → path_of t ≡ Ok path → number_of u ≡ Ok from → length_of v ≡ Ok count
    → read_of after (at column (t ∷ u ∷ v ∷ [])) ≡ Ok (call.Read path from count)
unfolding read_of no_more
read_says after column t u v path from count e f g =
    let c2 = column + length t + 1 in
    let c3 = c2 + length u + 1 in
    ap (λ (x : Result (List (List ℕ)) Fault). x >>= (λ p. read after number_of (at c2 (u ∷ v ∷ [])) >>= (λ n. read after length_of (at c3 (v ∷ [])) >>= (λ m. Ok (call.Read p n m))))) (spelled after column path_of t (u ∷ v ∷ []) path e)
    ∙ ap (λ (x : Result ℕ Fault). x >>= (λ n. read after length_of (at c3 (v ∷ [])) >>= (λ m. Ok (call.Read path n m)))) (spelled after c2 number_of u (v ∷ []) from f)
    ∙ ap (λ (x : Result ℕ Fault). x >>= (λ m. Ok (call.Read path from m))) (spelled after c3 length_of v [] count g)

pub write_says : (after column : ℕ) (t u v : List ℕ) (path : List (List ℕ)) (from : ℕ) (bytes : List ℕ) → path_of t ≡ Ok path → number_of u ≡ Ok from → data_of v ≡ Ok bytes
    → write_of after (at column (t ∷ u ∷ v ∷ [])) ≡ Ok (call.Write path from bytes)
unfolding write_of no_more
write_says after column t u v path from bytes e f g =
    let c2 = column + length t + 1 in
    let c3 = c2 + length u + 1 in
    ap (λ (x : Result (List (List ℕ)) Fault). x >>= (λ p. read after number_of (at c2 (u ∷ v ∷ [])) >>= (λ n. read after data_of (at c3 (v ∷ [])) >>= (λ m. Ok (call.Write p n m))))) (spelled after column path_of t (u ∷ v ∷ []) path e)
    ∙ ap (λ (x : Result ℕ Fault). x >>= (λ n. read after data_of (at c3 (v ∷ [])) >>= (λ m. Ok (call.Write path n m)))) (spelled after c2 number_of u (v ∷ []) from f)
    ∙ ap (λ (x : Result (List ℕ) Fault). x >>= (λ m. Ok (call.Write path from m))) (spelled after c3 data_of v [] bytes g)

pub fill_says : (after column : ℕ) (t u v z : List ℕ) (path : List (List ℕ)) (from count byte : ℕ) → path_of t ≡ Ok path → number_of u ≡ Ok from → length_of v ≡ Ok count → byte_of z ≡ Ok byte
    → fill_of after (at column (t ∷ u ∷ v ∷ z ∷ [])) ≡ Ok (call.Fill path from count byte)
unfolding fill_of no_more
fill_says after column t u v z path from count byte e f g h =
    let c2 = column + length t + 1 in
    let c3 = c2 + length u + 1 in
    let c4 = c3 + length v + 1 in
    ap (λ (x : Result (List (List ℕ)) Fault). x >>= (λ p. read after number_of (at c2 (u ∷ v ∷ z ∷ [])) >>= (λ n. read after length_of (at c3 (v ∷ z ∷ [])) >>= (λ m. read after byte_of (at c4 (z ∷ [])) >>= (λ b. Ok (call.Fill p n m b)))))) (spelled after column path_of t (u ∷ v ∷ z ∷ []) path e)
    ∙ ap (λ (x : Result ℕ Fault). x >>= (λ n. read after length_of (at c3 (v ∷ z ∷ [])) >>= (λ m. read after byte_of (at c4 (z ∷ [])) >>= (λ b. Ok (call.Fill path n m b))))) (spelled after c2 number_of u (v ∷ z ∷ []) from f)
    ∙ ap (λ (x : Result ℕ Fault). x >>= (λ m. read after byte_of (at c4 (z ∷ [])) >>= (λ b. Ok (call.Fill path from m b)))) (spelled after c3 length_of v (z ∷ []) count g)
    ∙ ap (λ (x : Result ℕ Fault). x >>= (λ b. Ok (call.Fill path from count b))) (spelled after c4 byte_of z [] byte h)

pub truncate_says : (after column : ℕ) (t u : List ℕ) (path : List (List ℕ)) (size : ℕ) → path_of t ≡ Ok path → number_of u ≡ Ok size → truncate_of after (at column (t ∷ u ∷ [])) ≡ Ok (call.Truncate path size)
unfolding truncate_of no_more
truncate_says after column t u path size e f =
    let c2 = column + length t + 1 in
    ap (λ (x : Result (List (List ℕ)) Fault). x >>= (λ p. read after number_of (at c2 (u ∷ [])) >>= (λ n. Ok (call.Truncate p n)))) (spelled after column path_of t (u ∷ []) path e)
    ∙ ap (λ (x : Result ℕ Fault). x >>= (λ n. Ok (call.Truncate path n))) (spelled after c2 number_of u [] size f)

pub sync_says : (column : ℕ) → bare_call call.Sync (at column []) ≡ Ok call.Sync
unfolding no_more
sync_says column = refl

-- ---- a line

-- a first word that spells a worker
pub record IsWorker (t : List ℕ) (w : ℕ) : Type 0 where
  pub token : IsToken t
  pub spells : worker_of t ≡ Ok w
  pub no_barrier : bytes_eq t (codes "barrier") ≡ false
  pub no_comment : (slice_index t 0 == 35) ≡ false

-- a line that says a call of a worker
abbrev pub IsCallLine : List ℕ → ℕ → Call → Type 0
IsCallLine raw w made = line_says raw ≡ Ok (CallOf w made)

of_worker : (after : ℕ) (t : List ℕ) (w : ℕ) (command : Command) (made : Call) (name : List ℕ) (args : List (List ℕ)) → IsWorker t w → command_of name ≡ Ok command
    → ((column : ℕ) → call_of after command (at column args) ≡ Ok made) → words_say after (at 1 (t ∷ name ∷ args)) ≡ Ok (CallOf w made)
unfolding words_say worker_call
of_worker after t w command made name args worker is says =
    let c2 = 1 + length t + 1 in
    let c3 = c2 + length name + 1 in
    ap (λ (b : Bool). cond b (barrier (at c2 (name ∷ args))) (worker_call after (at 1 (t ∷ name ∷ args)))) worker.no_barrier
    ∙ ap (λ (x : Result ℕ Fault). x >>= (λ k. read after command_of (at c2 (name ∷ args)) >>= (λ o. call_of after o (at c3 args) >>= (λ m. Ok (CallOf k m))))) (spelled after 1 worker_of t (name ∷ args) w worker.spells)
    ∙ ap (λ (x : Result Command Fault). x >>= (λ o. call_of after o (at c3 args) >>= (λ m. Ok (CallOf w m)))) (spelled after c2 command_of name args command is)
    ∙ ap (λ (x : Result Call Fault). x >>= (λ m. Ok (CallOf w m))) (says c3)

line_of_words : (t : List ℕ) (w : ℕ) (command : Command) (made : Call) (name : List ℕ) (args : List (List ℕ)) → IsWorker t w → IsToken name → AllByRecursion IsToken args → command_of name ≡ Ok command
    → length (joined (t ∷ name ∷ args)) ≤ 140000 → ((after column : ℕ) → call_of after command (at column args) ≡ Ok made) → IsCallLine (joined (t ∷ name ∷ args)) w made
unfolding line_says bytes_say
line_of_words t w command made name args worker name_is args_are is short says =
    let ts : List (List ℕ) = t ∷ name ∷ args in
    let tokens : AllByRecursion IsToken ts = (worker.token, (name_is, args_are)) in
    let line = joined ts in
    let long : nat_lt max_line (length line) ≡ false = grind (arith, nat_tests) in
    ap bytes_say (no_return ts tokens)
    ∙ ap (λ (b : Bool). cond b (refused (max_line + 1) Long) (cond (is_comment (words_from 1 line)) (Ok Nothing) (control_or (position is_control line) (words_say (length line + 1) (words_from 1 line))))) long
    ∙ ap (λ (ws : List Word). cond (is_comment ws) (Ok Nothing) (control_or (position is_control line) (words_say (length line + 1) ws))) (words_joined 1 ts tokens)
    ∙ ap (λ (b : Bool). cond b (Ok Nothing) (control_or (position is_control line) (words_say (length line + 1) (at 1 ts)))) worker.no_comment
    ∙ ap (λ (o : Option ℕ). control_or o (words_say (length line + 1) (at 1 ts))) (no_control ts tokens)
    ∙ of_worker (length line + 1) t w command made name args worker is (says (length line + 1))

-- ---- each command

word : (bs : List ℕ) → 0 < length bs → list_all is_plain bs ≡ true → IsToken bs
word bs some e = (some, plain_literal bs e)

module _ (t : List ℕ) (w : ℕ) (worker : IsWorker t w) where
  pub mkdir_line : (u : List ℕ) (path : List (List ℕ)) → IsToken u → path_of u ≡ Ok path → length (joined (t ∷ codes "mkdir" ∷ u ∷ [])) ≤ 140000 → IsCallLine (joined (t ∷ codes "mkdir" ∷ u ∷ [])) w (call.Mkdir path)
  unfolding command_of call_of
  mkdir_line u path is e short = line_of_words t w Mkdir (call.Mkdir path) (codes "mkdir") (u ∷ []) worker (word (codes "mkdir") (omega arith) refl) (is, tt) refl short (λ after column. path_says after column call.Mkdir u path e)

  pub create_line : (u : List ℕ) (path : List (List ℕ)) → IsToken u → path_of u ≡ Ok path → length (joined (t ∷ codes "create" ∷ u ∷ [])) ≤ 140000 → IsCallLine (joined (t ∷ codes "create" ∷ u ∷ [])) w (call.Create path)
  unfolding command_of call_of
  create_line u path is e short = line_of_words t w Create (call.Create path) (codes "create") (u ∷ []) worker (word (codes "create") (omega arith) refl) (is, tt) refl short (λ after column. path_says after column call.Create u path e)

  pub unlink_line : (u : List ℕ) (path : List (List ℕ)) → IsToken u → path_of u ≡ Ok path → length (joined (t ∷ codes "unlink" ∷ u ∷ [])) ≤ 140000 → IsCallLine (joined (t ∷ codes "unlink" ∷ u ∷ [])) w (call.Unlink path)
  unfolding command_of call_of
  unlink_line u path is e short = line_of_words t w Unlink (call.Unlink path) (codes "unlink") (u ∷ []) worker (word (codes "unlink") (omega arith) refl) (is, tt) refl short (λ after column. path_says after column call.Unlink u path e)

  pub stat_line : (u : List ℕ) (path : List (List ℕ)) → IsToken u → path_of u ≡ Ok path → length (joined (t ∷ codes "stat" ∷ u ∷ [])) ≤ 140000 → IsCallLine (joined (t ∷ codes "stat" ∷ u ∷ [])) w (call.Stat path)
  unfolding command_of call_of
  stat_line u path is e short = line_of_words t w Stat (call.Stat path) (codes "stat") (u ∷ []) worker (word (codes "stat") (omega arith) refl) (is, tt) refl short (λ after column. path_says after column call.Stat u path e)

  pub sync_line : length (joined (t ∷ codes "sync" ∷ [])) ≤ 140000 → IsCallLine (joined (t ∷ codes "sync" ∷ [])) w call.Sync
  unfolding command_of call_of
  sync_line short = line_of_words t w Sync call.Sync (codes "sync") [] worker (word (codes "sync") (omega arith) refl) tt refl short (λ after column. sync_says column)

  pub rename_line : (u v : List ℕ) (from to : List (List ℕ)) → IsToken u → IsToken v → path_of u ≡ Ok from → path_of v ≡ Ok to → length (joined (t ∷ codes "rename" ∷ u ∷ v ∷ [])) ≤ 140000
      → IsCallLine (joined (t ∷ codes "rename" ∷ u ∷ v ∷ [])) w (call.Rename from to)
  unfolding command_of call_of
  rename_line u v from to is is' e f short =
      line_of_words t w Rename (call.Rename from to) (codes "rename") (u ∷ v ∷ []) worker (word (codes "rename") (omega arith) refl) (is, (is', tt)) refl short (λ after column. rename_says after column u v from to e f)

  pub truncate_line : (u v : List ℕ) (path : List (List ℕ)) (size : ℕ) → IsToken u → IsToken v → path_of u ≡ Ok path → number_of v ≡ Ok size → length (joined (t ∷ codes "truncate" ∷ u ∷ v ∷ [])) ≤ 140000
      → IsCallLine (joined (t ∷ codes "truncate" ∷ u ∷ v ∷ [])) w (call.Truncate path size)
  unfolding command_of call_of
  truncate_line u v path size is is' e f short =
      line_of_words t w Truncate (call.Truncate path size) (codes "truncate") (u ∷ v ∷ []) worker (word (codes "truncate") (omega arith) refl) (is, (is', tt)) refl short (λ after column. truncate_says after column u v path size e f)

  pub read_line : (u v x : List ℕ) (path : List (List ℕ)) (from count : ℕ) → IsToken u → IsToken v → IsToken x → path_of u ≡ Ok path → number_of v ≡ Ok from → length_of x ≡ Ok count
      → length (joined (t ∷ codes "read" ∷ u ∷ v ∷ x ∷ [])) ≤ 140000 → IsCallLine (joined (t ∷ codes "read" ∷ u ∷ v ∷ x ∷ [])) w (call.Read path from count)
  unfolding command_of call_of
  read_line u v x path from count a b c e f g short =
      line_of_words t w Read (call.Read path from count) (codes "read") (u ∷ v ∷ x ∷ []) worker (word (codes "read") (omega arith) refl) (a, (b, (c, tt))) refl short (λ after column. read_says after column u v x path from count e f g)

  pub write_line : (u v x : List ℕ) (path : List (List ℕ)) (from : ℕ) (bytes : List ℕ) → IsToken u → IsToken v → IsToken x → path_of u ≡ Ok path → number_of v ≡ Ok from → data_of x ≡ Ok bytes
      → length (joined (t ∷ codes "write" ∷ u ∷ v ∷ x ∷ [])) ≤ 140000 → IsCallLine (joined (t ∷ codes "write" ∷ u ∷ v ∷ x ∷ [])) w (call.Write path from bytes)
  unfolding command_of call_of
  write_line u v x path from bytes a b c e f g short =
      line_of_words t w Write (call.Write path from bytes) (codes "write") (u ∷ v ∷ x ∷ []) worker (word (codes "write") (omega arith) refl) (a, (b, (c, tt))) refl short (λ after column. write_says after column u v x path from bytes e f g)

  pub fill_line : (u v x z : List ℕ) (path : List (List ℕ)) (from count byte : ℕ) → IsToken u → IsToken v → IsToken x → IsToken z → path_of u ≡ Ok path → number_of v ≡ Ok from → length_of x ≡ Ok count → byte_of z ≡ Ok byte
      → length (joined (t ∷ codes "fill" ∷ u ∷ v ∷ x ∷ z ∷ [])) ≤ 140000 → IsCallLine (joined (t ∷ codes "fill" ∷ u ∷ v ∷ x ∷ z ∷ [])) w (call.Fill path from count byte)
  unfolding command_of call_of
  fill_line u v x z path from count byte a b c d e f g h short =
      line_of_words t w Fill (call.Fill path from count byte) (codes "fill") (u ∷ v ∷ x ∷ z ∷ []) worker (word (codes "fill") (omega arith) refl) (a, (b, (c, (d, tt)))) refl short (λ after column. fill_says after column u v x z path from count byte e f g h)
