-- A put goes on by one call: what its reply makes of it.
use Rattle.std.proofs.Common.{◌≡◌, ◌≢◌, ◌⊎◌, ◌||◌, ◌<◌, ◌^◌, ℕ, zero, suc, ◌+◌, ◌==◌, get_or, Bool, true, false, List, [], ◌∷◌, ◌++◌, length, take, Option, None, refl, sym, ap, subst, ◌∙◌, inl, inr, arith}
use Rattle.std.specs.Prelude.{⊤}
use Rattle.std.proofs.lemmas.Bool.{eqb-false}
use Rattle.std.specs.List.{list_any, remove}
use Rattle.nl_field.specs.declared.shape.Shape.{Shape}
use Rattle.nl_tree.specs.Causes.{fault_in}
use Rattle.nl_tree.specs.Replay.{replay, step_marked}
use Rattle.nl_tree.specs.Step.{space_refusal, step}
use Rattle.nl_tree.specs.Tree.{Tree}
use Rattle.nl_tree.specs.declared.call.Call.{Call}
use Rattle.nl_tree.specs.declared.call.Call.TheVariants.{Create, Rename, Sync, Write}
use Rattle.nl_tree.specs.declared.reply.FaultReply.{FaultReply}
use Rattle.nl_tree.specs.declared.reply.Refusal.{Refusal}
use Rattle.nl_tree.specs.declared.reply.Refusal.TheVariants.{Enoent, Eexist, Enotdir, Eisdir, Enotempty, Einval, Enametoolong, Efbig, Enospc}
use Rattle.nl_tree.specs.declared.reply.Reply.{Reply}
use Rattle.nl_tree.specs.declared.reply.Reply.TheVariants.{Done, Count, Content, Names, File, Dir, Synced, No, Fault}
use Rattle.nl_turns.specs.History.{Opening}
use Rattle.nl_turns.specs.declared.entry.Entry.{Entry}
use Rattle.nl_put_tree.specs.Putting.{FitsVolume, IsBeside, IsDue, IsPut, IsUnderWay, IsWriting, Path, Refuses, after, is_fault, no_name, no_room, not_renamed}
use Rattle.nl_put_tree.proofs.Steps.{after_fault}
use Rattle.nl_put_tree.proofs.Whole.{put_laws}
use Rattle.nl_cmd_put.specs.Asking.{MetFault}
use Rattle.nl_cmd_course.specs.Asking.{Asked, FromEachAsked, HasAsked, MayAsk, marked, tree_after}
use Rattle.nl_cmd_put.specs.Phases.{EndsTried, HasPut, HasStopped, HasTried, IsEnd, IsPutting, RenamesOwn, StandsAt, TriesOwn, WritesPiece, end_of_sync, is_count, is_done, tried_by}
use Rattle.nl_cmd_put.specs.declared.ending.End.{End}
use Rattle.nl_cmd_put.specs.declared.ending.End.TheVariants as ends
use Rattle.nl_cmd_course.proofs.Asked.{due_last, length_more}

-- ---- the first piece, and the rest

pub split_first : (items rest : List (List ℕ)) (piece : List ℕ) (n : ℕ) → n ≡ length items → (n == 0) ≡ false → rest ≡ remove items 0 → piece ≡ get_or items 0 piece → items ≡ piece ∷ rest
split_first [] rest piece n many some rest_is piece_is = absurd (eqb-false n 0 some many)
split_first (x ∷ items) rest piece n many some rest_is piece_is = (λ i. sym piece_is i ∷ sym rest_is i)

-- ---- trees after prefixes

take_none : {A : Type 0} (n : ℕ) → take {A = A} n [] ≡ []
take_none zero = refl
take_none (suc n) = refl

take_whole : {A : Type 0} (xs : List A) → take (length xs) xs ≡ xs
take_whole [] = refl
take_whole (x ∷ xs) = (λ i. x ∷ take_whole xs i)

every : (shape : Shape) (P : Tree → Type 0) (tree : Tree) (calls : List (Call × Option FaultReply)) (x : Call × Option FaultReply) → ((n : ℕ) → P (replay shape tree (take n calls))) → P (replay shape tree (calls ++ x ∷ []))
    → (n : ℕ) → P (replay shape tree (take n (calls ++ x ∷ [])))
unfolding replay
every shape P tree [] x before last zero = before 0
every shape P tree [] x before last (suc n) = subst (λ (xs : List (Call × Option FaultReply)). P (replay shape tree (x ∷ xs))) (sym (take_none n)) last
every shape P tree (y ∷ calls) x before last zero = before 0
every shape P tree (y ∷ calls) x before last (suc n) = every shape P (step_marked shape tree y).tree calls x (λ m. before (suc m)) last n

marked_more : (asked : Asked) (call : Call) (reply : Reply) → marked (asked ++ (call, reply) ∷ []) ≡ marked asked ++ (call, fault_in reply) ∷ []
marked_more [] call reply = refl
marked_more (x ∷ asked) call reply = (λ i. (x.0, fault_in x.1) ∷ marked_more asked call reply i)

replay_last : (shape : Shape) (tree : Tree) (calls : List (Call × Option FaultReply)) (x : Call × Option FaultReply) → replay shape tree (calls ++ x ∷ []) ≡ (step_marked shape (replay shape tree calls) x).tree
unfolding replay
replay_last shape tree [] x = refl
replay_last shape tree (y ∷ calls) x = replay_last shape (step_marked shape tree y).tree calls x

pub tree_more : (o : Opening) (asked : Asked) (call : Call) (reply : Reply) → tree_after o (asked ++ (call, reply) ∷ []) ≡ after o.shape (tree_after o asked) call reply
tree_more o asked call reply = ap (replay o.shape o.tree) (marked_more asked call reply) ∙ replay_last o.shape o.tree (marked asked) (call, fault_in reply)

replayed_none : (shape : Shape) (tree : Tree) → replay shape tree [] ≡ tree
unfolding replay
replayed_none shape tree = refl

-- ---- faults

or_right : (b : Bool) → (b || true) ≡ true
or_right true = refl
or_right false = refl

pub fault_last : (asked : Asked) (call : Call) (reply : Reply) → is_fault reply ≡ true → MetFault (asked ++ (call, reply) ∷ [])
fault_last [] call reply e = (λ i. e i || false)
fault_last (x ∷ asked) call reply e = (λ i. is_fault x.1 || fault_last asked call reply e i) ∙ or_right (is_fault x.1)

pub fault_kept : (asked : Asked) (call : Call) (reply : Reply) → MetFault asked → MetFault (asked ++ (call, reply) ∷ [])
fault_kept [] call reply h = absurd (cc h)
fault_kept (x ∷ asked) call reply h = go (fault_kept asked call reply) (is_fault x.1) refl
  where
    go : (MetFault asked → MetFault (asked ++ (call, reply) ∷ [])) → (b : Bool) → is_fault x.1 ≡ b → MetFault (x ∷ asked ++ (call, reply) ∷ [])
    go on true e = (λ i. e i || list_any (λ (y : Call × Reply). is_fault y.1) (asked ++ (call, reply) ∷ []))
    go on false e =
        let rest : MetFault asked = sym (λ i. e i || list_any (λ (y : Call × Reply). is_fault y.1) asked) ∙ h in
        (λ i. e i || on rest i)

-- ---- one call further

-- a value that was asked may be asked the next
pub may_more : {V : Type 0} (stands : V → Opening → List Entry → V → Type 0) (tells : Type 0) (v v' : V) (number : ℕ) (call : Call) (reply : Reply) → MayAsk stands tells number v
    → FromEachAsked stands tells number v (λ origin o asked. HasAsked stands tells origin o (asked ++ (call, reply) ∷ []) v') → MayAsk stands tells (number + 1) v'
may_more stands tells v v' number call reply may each =
    (may.0, may.1, may.2 ++ (call, reply) ∷ [], each may.0 may.1 may.2 may.3 may.4, (let l = length_more may.2 call reply in let n = may.4 in omega (arith, l, n)))

module _ {V : Type 0} (stands : V → Opening → List Entry → V → Type 0) (tells : Type 0) (origin : V) (o : Opening) where
  pub putting_more : (own path : Path) (bytes : List ℕ) (asked : Asked) (v v' : V) (P Q : Tree → Type 0) (call : Call) (reply : Reply)
      → IsPutting stands tells origin o own path bytes asked v P → HasAsked stands tells origin o (asked ++ (call, reply) ∷ []) v'
      → (tells → P (tree_after o asked) → IsDue o.shape (tree_after o asked) call reply
      → IsUnderWay o.tree own path bytes (after o.shape (tree_after o asked) call reply) × Q (after o.shape (tree_after o asked) call reply))
      → IsPutting stands tells origin o own path bytes (asked ++ (call, reply) ∷ []) v' Q
  putting_more own path bytes asked v v' P Q call reply p has next =
      let now : tells → IsUnderWay o.tree own path bytes (after o.shape (tree_after o asked) call reply) × Q (after o.shape (tree_after o asked) call reply) =
      λ t. next t (p.now_is t) (due_last o.shape o.tree asked call reply (has.due t)) in
      record {
        so_far = has;
        under_way = λ t n. subst (λ (calls : List (Call × Option FaultReply)). IsUnderWay o.tree own path bytes (replay o.shape o.tree (take n calls))) (sym (marked_more asked call reply))
            (every o.shape (IsUnderWay o.tree own path bytes) o.tree (marked asked) (call, fault_in reply) (p.under_way t)
            (subst (IsUnderWay o.tree own path bytes) (sym (replay_last o.shape o.tree (marked asked) (call, fault_in reply))) (now t).0) n);
        now_is = λ t. subst Q (sym (tree_more o asked call reply)) (now t).1;
      }

  pub next_more : (asked : Asked) (call : Call) (reply : Reply) (number : ℕ) → length asked + 1 ≡ number → length (asked ++ (call, reply) ∷ []) + 1 ≡ number + 1
  next_more asked call reply number e = let l = length_more asked call reply in omega (arith, l, e)

  -- ---- a name is tried

  module _ (path own : Path) (bytes : List ℕ) (number : ℕ) (v v' : V) (low : number < 2 ^ 32) (t : HasTried stands tells origin o number v) (beside : IsBeside path own) (fits : tells → FitsVolume o.shape o.tree) where
    pub same_now : tells → tree_after o t.asked ≡ o.tree
    same_now told = ap (replay o.shape o.tree) (sym (take_whole (marked t.asked))) ∙ t.same told (length (marked t.asked))

    few_asked : (reply : Reply) → length (t.asked ++ (Create own, reply) ∷ []) < 2 ^ 32
    few_asked reply = let l = length_more t.asked (Create own) reply in let n = t.next in omega (arith, l, n, low)

    pub as_putting : IsPutting stands tells origin o own path bytes t.asked v (λ tree. tree ≡ o.tree)
    as_putting = record {
      so_far = t.so_far;
      under_way = λ told n. subst (IsUnderWay o.tree own path bytes) (sym (t.same told n)) (put_laws.begins o.tree own path bytes);
      now_is = same_now;
    }

    -- the put ends with the tree as it is
    pub tried_end : (end : End) → IsEnd tells o own path bytes t.asked end → HasPut stands tells origin o path bytes end v
    tried_end end is = record {
      own = own;
      beside = beside;
      asked = t.asked;
      few = (let n = t.next in omega (arith, n, low));
      putting = record { so_far = t.so_far; under_way = as_putting.under_way; now_is = λ told. tt };
      is_end = is;
    }

    module _ (reply : Reply) (has : HasAsked stands tells origin o (t.asked ++ (Create own, reply) ∷ []) v') where
      due_so : tells → IsDue o.shape o.tree (Create own) reply
      due_so told = subst (λ (x : Tree). IsDue o.shape x (Create own) reply) (same_now told) (due_last o.shape o.tree t.asked (Create own) reply (has.due told))

      -- a call that leaves the tree
      stays_so : (tells → after o.shape o.tree (Create own) reply ≡ o.tree) → IsPutting stands tells origin o own path bytes (t.asked ++ (Create own, reply) ∷ []) v' (λ tree. tree ≡ o.tree)
      stays_so stays =
          putting_more own path bytes t.asked v v' (λ tree. tree ≡ o.tree) (λ tree. tree ≡ o.tree) (Create own) reply as_putting has
          (λ told same due.
          let is : after o.shape (tree_after o t.asked) (Create own) reply ≡ o.tree = ap (λ (x : Tree). after o.shape x (Create own) reply) same ∙ stays told in
          (subst (IsUnderWay o.tree own path bytes) (sym is) (put_laws.begins o.tree own path bytes), is))

      any_tree : (P : Tree → Type 0) → IsPutting stands tells origin o own path bytes (t.asked ++ (Create own, reply) ∷ []) v' P → IsPutting stands tells origin o own path bytes (t.asked ++ (Create own, reply) ∷ []) v' (λ tree. ⊤)
      any_tree P p = record { so_far = p.so_far; under_way = p.under_way; now_is = λ told. tt }

      faulty : reply ≢ Done → ((r : Refusal) → reply ≢ No r) → HasPut stands tells origin o path bytes ends.Fault v'
      faulty not_done not_no =
          let fault : tells → is_fault reply ≡ true = λ told. by (put_laws.create_answers o.shape o.tree own reply (due_so told)) in
          record {
            own = own;
            beside = beside;
            asked = t.asked ++ (Create own, reply) ∷ [];
            few = few_asked reply;
            putting = any_tree (λ tree. tree ≡ o.tree) (stays_so (λ told. after_fault o.shape o.tree (Create own) reply (fault told)));
            is_end = λ told. fault_last t.asked (Create own) reply (fault told);
          }
        where
          by : (reply ≡ Done) ⊎ (((r : Refusal) × (reply ≡ No r)) ⊎ (is_fault reply ≡ true)) → is_fault reply ≡ true
          by (inl e) = absurd (not_done e)
          by (inr (inl (r, e))) = absurd (not_no r e)
          by (inr (inr e)) = e

    module _ (r : Refusal) (has : HasAsked stands tells origin o (t.asked ++ (Create own, No r) ∷ []) v') where
      left_so : tells → (after o.shape o.tree (Create own) (No r) ≡ o.tree) × ((step o.shape o.tree (Create own)).reply ≡ No r)
      left_so told = put_laws.refused o.shape o.tree (Create own) r (due_so (No r) has told)

      left_putting : IsPutting stands tells origin o own path bytes (t.asked ++ (Create own, No r) ∷ []) v' (λ tree. tree ≡ o.tree)
      left_putting = stays_so (No r) has (λ told. (left_so told).0)

      refuses_so : tells → Refuses o.shape o.tree own path bytes r
      refuses_so told = no_name (left_so told).1

      refused_end : HasPut stands tells origin o path bytes (ends.Refused r) v'
      refused_end = record {
        own = own;
        beside = beside;
        asked = t.asked ++ (Create own, No r) ∷ [];
        few = few_asked (No r);
        putting = any_tree (No r) has (λ tree. tree ≡ o.tree) left_putting;
        is_end = λ told. (left_putting.now_is told, refuses_so told);
      }

      tried_so : HasTried stands tells origin o (number + 1) v'
      tried_so = record {
        asked = t.asked ++ (Create own, No r) ∷ [];
        so_far = has;
        same = λ told n. subst (λ (calls : List (Call × Option FaultReply)). replay o.shape o.tree (take n calls) ≡ o.tree) (sym (marked_more t.asked (Create own) (No r)))
            (every o.shape (λ (x : Tree). x ≡ o.tree) o.tree (marked t.asked) (Create own, None) (t.same told)
            (ap (replay o.shape o.tree) (sym (marked_more t.asked (Create own) (No r))) ∙ left_putting.now_is told) n);
        next = next_more t.asked (Create own) (No r) number t.next;
      }

    pub tries_own : (reply : Reply) → HasAsked stands tells origin o (t.asked ++ (Create own, reply) ∷ []) v' → TriesOwn stands tells origin o path bytes own number v' (tried_by own reply)
    tries_own Done has = (
      refl,
      record {
        asked = t.asked ++ (Create own, Done) ∷ [];
        putting = putting_more own path bytes t.asked v v' (λ tree. tree ≡ o.tree) (IsWriting o.tree own []) (Create own) Done as_putting has
            (λ told same due.
            let made : IsWriting o.tree own [] (after o.shape o.tree (Create own) Done) = put_laws.created o.shape o.tree own (fits told) (due_so Done has told) in
            subst (λ (x : Tree). IsUnderWay o.tree own path bytes (after o.shape x (Create own) Done) × IsWriting o.tree own [] (after o.shape x (Create own) Done)) (sym same)
            (put_laws.writes o.tree (after o.shape o.tree (Create own) Done) own path [] bytes beside made, made));
        next = next_more t.asked (Create own) Done number t.next;
      },
    )
    tries_own (No Eexist) has = (tried_so Eexist has, refuses_so Eexist has)
    tries_own (No Enoent) has = refused_end Enoent has
    tries_own (No Enotdir) has = refused_end Enotdir has
    tries_own (No Eisdir) has = refused_end Eisdir has
    tries_own (No Enotempty) has = refused_end Enotempty has
    tries_own (No Einval) has = refused_end Einval has
    tries_own (No Enametoolong) has = refused_end Enametoolong has
    tries_own (No Efbig) has = refused_end Efbig has
    tries_own (No (Enospc space)) has = refused_end (Enospc space) has
    tries_own (Count n) has = faulty (Count n) has (λ e. cc e) (λ r e. cc e)
    tries_own Content has = faulty Content has (λ e. cc e) (λ r e. cc e)
    tries_own (Names n) has = faulty (Names n) has (λ e. cc e) (λ r e. cc e)
    tries_own (File s n) has = faulty (File s n) has (λ e. cc e) (λ r e. cc e)
    tries_own (Dir n) has = faulty (Dir n) has (λ e. cc e) (λ r e. cc e)
    tries_own (Synced u m) has = faulty (Synced u m) has (λ e. cc e) (λ r e. cc e)
    tries_own (Fault f) has = faulty (Fault f) has (λ e. cc e) (λ r e. cc e)

  -- ---- a piece is written, or not; the file is renamed, or not

  module _ (path own : Path) (bytes written : List ℕ) (number : ℕ) (v v' : V) (beside : IsBeside path own) (s : StandsAt stands tells origin o own path bytes number v (IsWriting o.tree own written)) where
    abbrev now : Tree
    now = tree_after o s.asked

    -- a call that was refused, or met a fault
    stopped : (call : Call) (reply : Reply) → HasAsked stands tells origin o (s.asked ++ (call, reply) ∷ []) v'
        → (tells → IsDue o.shape now call reply → ((r : Refusal) × (reply ≡ No r)) ⊎ (is_fault reply ≡ true))
        → ((r : Refusal) → tells → (step o.shape now call).reply ≡ No r → Refuses o.shape o.tree own path bytes r)
        → HasStopped stands tells origin o own path bytes (number + 1) v' reply
    stopped call reply has which refuses = record {
      asked = s.asked ++ (call, reply) ∷ [];
      written = written;
      putting = putting_more own path bytes s.asked v v' (IsWriting o.tree own written) (IsWriting o.tree own written) call reply s.putting has
          (λ told w due.
          let same : after o.shape now call reply ≡ now = stays due (which told due) in
          subst (λ (x : Tree). IsUnderWay o.tree own path bytes x × IsWriting o.tree own written x) (sym same) (put_laws.writes o.tree now own path written bytes beside w, w));
      next = next_more s.asked call reply number s.next;
      why = record {
        refused = λ told r is. refuses r told (put_laws.refused o.shape now call r (subst (λ (x : Reply). IsDue o.shape now call x) is (due_of told))).1;
        fault = λ told not_no. fault_last s.asked call reply (only not_no (which told (due_of told)));
      };
    }
      where
        due_of : tells → IsDue o.shape now call reply
        due_of told = due_last o.shape o.tree s.asked call reply (has.due told)

        stays : IsDue o.shape now call reply → ((r : Refusal) × (reply ≡ No r)) ⊎ (is_fault reply ≡ true) → after o.shape now call reply ≡ now
        stays due (inl (r, is)) = ap (λ (x : Reply). after o.shape now call x) is ∙ (put_laws.refused o.shape now call r (subst (λ (x : Reply). IsDue o.shape now call x) is due)).0
        stays due (inr fault) = after_fault o.shape now call reply fault

        only : ((r : Refusal) → reply ≢ No r) → ((r : Refusal) × (reply ≡ No r)) ⊎ (is_fault reply ≡ true) → is_fault reply ≡ true
        only not_no (inl (r, is)) = absurd (not_no r is)
        only not_no (inr fault) = fault

    -- ---- a piece

    module _ (piece left : List ℕ) (all : bytes ≡ written ++ (piece ++ left)) where
      abbrev call : Call
      call = Write own (length written) piece

      not_written : (reply : Reply) → ((n : ℕ) → reply ≢ Count n) → HasAsked stands tells origin o (s.asked ++ (call, reply) ∷ []) v' → HasStopped stands tells origin o own path bytes (number + 1) v' reply
      not_written reply none has =
          stopped call reply has (λ told due. by (put_laws.write_answers o.shape now own (length written) piece reply due))
          (λ r told is. no_room written piece left now all (s.putting.now_is told) is)
        where
          by : ((n : ℕ) × (reply ≡ Count n)) ⊎ (((r : Refusal) × (reply ≡ No r)) ⊎ (is_fault reply ≡ true)) → ((r : Refusal) × (reply ≡ No r)) ⊎ (is_fault reply ≡ true)
          by (inl (n, e)) = absurd (none n e)
          by (inr other) = other

      pub writes_piece : (reply : Reply) → HasAsked stands tells origin o (s.asked ++ (call, reply) ∷ []) v' → WritesPiece stands tells origin o own path bytes (written ++ piece) (number + 1) v' reply
      writes_piece (Count n) has = record {
        asked = s.asked ++ (call, Count n) ∷ [];
        putting = putting_more own path bytes s.asked v v' (IsWriting o.tree own written) (IsWriting o.tree own (written ++ piece)) call (Count n) s.putting has
            (λ told w due.
            let more = put_laws.written o.shape o.tree now own written piece n w due in
            (put_laws.writes o.tree (after o.shape now call (Count n)) own path (written ++ piece) bytes beside more, more));
        next = next_more s.asked call (Count n) number s.next;
      }
      writes_piece Done has = not_written Done (λ n e. cc e) has
      writes_piece (No r) has = not_written (No r) (λ n e. cc e) has
      writes_piece Content has = not_written Content (λ n e. cc e) has
      writes_piece (Names k) has = not_written (Names k) (λ n e. cc e) has
      writes_piece (File z k) has = not_written (File z k) (λ n e. cc e) has
      writes_piece (Dir k) has = not_written (Dir k) (λ n e. cc e) has
      writes_piece (Synced u m) has = not_written (Synced u m) (λ n e. cc e) has
      writes_piece (Fault f) has = not_written (Fault f) (λ n e. cc e) has

  -- ---- by what the code tests

  pub counted : (own path : Path) (bytes written : List ℕ) (number : ℕ) (v : V) (reply : Reply) → is_count reply ≡ true → WritesPiece stands tells origin o own path bytes written number v reply
      → StandsAt stands tells origin o own path bytes number v (IsWriting o.tree own written)
  counted own path bytes written number v (Count n) e w = w
  counted own path bytes written number v Done e w = absurd (cc e)
  counted own path bytes written number v (No r) e w = absurd (cc e)
  counted own path bytes written number v Content e w = absurd (cc e)
  counted own path bytes written number v (Names k) e w = absurd (cc e)
  counted own path bytes written number v (File z k) e w = absurd (cc e)
  counted own path bytes written number v (Dir k) e w = absurd (cc e)
  counted own path bytes written number v (Synced u m) e w = absurd (cc e)
  counted own path bytes written number v (Fault f) e w = absurd (cc e)

  pub uncounted : (own path : Path) (bytes written : List ℕ) (number : ℕ) (v : V) (reply : Reply) → is_count reply ≡ false → WritesPiece stands tells origin o own path bytes written number v reply
      → HasStopped stands tells origin o own path bytes number v reply
  uncounted own path bytes written number v (Count n) e w = absurd (cc e)
  uncounted own path bytes written number v Done e w = w
  uncounted own path bytes written number v (No r) e w = w
  uncounted own path bytes written number v Content e w = w
  uncounted own path bytes written number v (Names k) e w = w
  uncounted own path bytes written number v (File z k) e w = w
  uncounted own path bytes written number v (Dir k) e w = w
  uncounted own path bytes written number v (Synced u m) e w = w
  uncounted own path bytes written number v (Fault f) e w = w

  -- ---- the file is renamed

  module _ (path own : Path) (bytes : List ℕ) (number : ℕ) (v v' : V) (beside : IsBeside path own) (fits : tells → FitsVolume o.shape o.tree) (s : StandsAt stands tells origin o own path bytes number v (IsWriting o.tree own bytes)) where
    not_moved : (reply : Reply) → reply ≢ Done → HasAsked stands tells origin o (s.asked ++ (Rename own path, reply) ∷ []) v' → HasStopped stands tells origin o own path bytes (number + 1) v' reply
    not_moved reply none has =
        stopped path own bytes bytes number v v' beside s (Rename own path) reply has (λ told due. by (put_laws.rename_answers o.shape (tree_after o s.asked) own path reply due))
        (λ r told is. not_renamed (tree_after o s.asked) (s.putting.now_is told) is)
      where
        by : (reply ≡ Done) ⊎ (((r : Refusal) × (reply ≡ No r)) ⊎ (is_fault reply ≡ true)) → ((r : Refusal) × (reply ≡ No r)) ⊎ (is_fault reply ≡ true)
        by (inl e) = absurd (none e)
        by (inr other) = other

    pub renames_own : (reply : Reply) → HasAsked stands tells origin o (s.asked ++ (Rename own path, reply) ∷ []) v' → RenamesOwn stands tells origin o own path bytes (number + 1) v' reply (is_done reply)
    renames_own Done has = record {
      asked = s.asked ++ (Rename own path, Done) ∷ [];
      putting = putting_more own path bytes s.asked v v' (IsWriting o.tree own bytes) (λ tree. IsPut o.tree path bytes tree × (space_refusal o.shape tree ≡ None)) (Rename own path) Done s.putting has
          (λ told w due.
          let moved = put_laws.renamed o.shape o.tree (tree_after o s.asked) own path bytes (fits told).is_tree beside w due in
          (put_laws.puts o.tree (after o.shape (tree_after o s.asked) (Rename own path) Done) own path bytes moved.0, moved));
      next = next_more s.asked (Rename own path) Done number s.next;
    }
    renames_own (Count n) has = not_moved (Count n) (λ e. cc e) has
    renames_own (No r) has = not_moved (No r) (λ e. cc e) has
    renames_own Content has = not_moved Content (λ e. cc e) has
    renames_own (Names k) has = not_moved (Names k) (λ e. cc e) has
    renames_own (File z k) has = not_moved (File z k) (λ e. cc e) has
    renames_own (Dir k) has = not_moved (Dir k) (λ e. cc e) has
    renames_own (Synced u m) has = not_moved (Synced u m) (λ e. cc e) has
    renames_own (Fault f) has = not_moved (Fault f) (λ e. cc e) has

  -- ---- and synced

  module _ (path own : Path) (bytes : List ℕ) (number count : ℕ) (v v' : V) (low : number < 2 ^ 32) (beside : IsBeside path own) (many : count ≡ length bytes)
      (s : StandsAt stands tells origin o own path bytes number v (λ tree. IsPut o.tree path bytes tree × (space_refusal o.shape tree ≡ None))) (reply : Reply)
      (has : HasAsked stands tells origin o (s.asked ++ (Sync, reply) ∷ []) v') where
    synced_putting : IsPutting stands tells origin o own path bytes (s.asked ++ (Sync, reply) ∷ []) v' (IsPut o.tree path bytes)
    synced_putting =
        putting_more own path bytes s.asked v v' (λ tree. IsPut o.tree path bytes tree × (space_refusal o.shape tree ≡ None)) (IsPut o.tree path bytes) Sync reply s.putting has
        (λ told w due. subst (λ (x : Tree). IsUnderWay o.tree own path bytes x × IsPut o.tree path bytes x) (sym (put_laws.synced o.shape (tree_after o s.asked) reply due).0) (put_laws.puts o.tree (tree_after o s.asked) own path bytes w.0, w.0))

    synced_or : tells → ((u : ℕ) × (m : ℕ) × (reply ≡ Synced u m)) ⊎ (is_fault reply ≡ true)
    synced_or told = (put_laws.synced o.shape (tree_after o s.asked) reply (due_last o.shape o.tree s.asked Sync reply (has.due told))).1 (s.putting.now_is told).1

    ended_by : (end : End) → IsEnd tells o own path bytes (s.asked ++ (Sync, reply) ∷ []) end → HasPut stands tells origin o path bytes end v'
    ended_by end is = record {
      own = own;
      beside = beside;
      asked = s.asked ++ (Sync, reply) ∷ [];
      few = (let l = length_more s.asked Sync reply in let n = s.next in omega (arith, l, n, low));
      putting = record { so_far = synced_putting.so_far; under_way = synced_putting.under_way; now_is = λ told. tt };
      is_end = is;
    }

    pub syncs : HasPut stands tells origin o path bytes (end_of_sync count reply) v'
    syncs = by reply refl
      where
        not_synced : (x : Reply) → reply ≡ x → ((u m : ℕ) → x ≢ Synced u m) → HasPut stands tells origin o path bytes ends.Fault v'
        not_synced x e none = ended_by ends.Fault (λ told. fault_last s.asked Sync reply (only (synced_or told)))
          where
            only : ((u : ℕ) × (m : ℕ) × (reply ≡ Synced u m)) ⊎ (is_fault reply ≡ true) → is_fault reply ≡ true
            only (inl (u, m, is)) = absurd (none u m (sym e ∙ is))
            only (inr fault) = fault

        by : (x : Reply) → reply ≡ x → HasPut stands tells origin o path bytes (end_of_sync count x) v'
        by (Synced u m) e =
            ended_by (ends.Put count) (many, record { before = s.asked; upto = u; moment = m; is = (λ i. s.asked ++ (Sync, e i) ∷ []) }, synced_putting.now_is)
        by Done e = not_synced Done e (λ u m is. cc is)
        by (Count n) e = not_synced (Count n) e (λ u m is. cc is)
        by (No r) e = not_synced (No r) e (λ u m is. cc is)
        by Content e = not_synced Content e (λ u m is. cc is)
        by (Names k) e = not_synced (Names k) e (λ u m is. cc is)
        by (File z k) e = not_synced (File z k) e (λ u m is. cc is)
        by (Dir k) e = not_synced (Dir k) e (λ u m is. cc is)
        by (Fault f) e = not_synced (Fault f) e (λ u m is. cc is)

  -- ---- no name is left

  module _ (path : Path) (bytes : List ℕ) (number : ℕ) (v : V) (low : number < 2 ^ 32) (t : HasTried stands tells origin o number v) (fits : tells → FitsVolume o.shape o.tree) (spare : (own : Path) × IsBeside path own) where
    pub memory_ends : HasPut stands tells origin o path bytes ends.Memory v
    memory_ends = tried_end path spare.0 bytes number v v low t spare.1 fits ends.Memory (same_now path spare.0 bytes number v v low t spare.1 fits)

    pub no_name_left : (end : End) → EndsTried tells o path bytes end → HasPut stands tells origin o path bytes end v
    no_name_left (ends.Refused r) (own, beside, refuses) =
        tried_end path own bytes number v v low t beside fits (ends.Refused r) (λ told. (same_now path own bytes number v v low t beside fits told, refuses told))
    no_name_left ends.Memory none = memory_ends
    no_name_left (ends.Put count) none = absurd none
    no_name_left ends.Fault none = absurd none

  pub fresh_tried : (v : V) → HasAsked stands tells origin o [] v → HasTried stands tells origin o 1 v
  fresh_tried v has = record {
    asked = [];
    so_far = has;
    same = λ told n. ap (replay o.shape o.tree) (take_none n) ∙ replayed_none o.shape o.tree;
    next = omega arith;
  }
