-- What a step of the tree is that is not refused, and what creates, writes, takes back and syncs.
use Rattle.std.proofs.Common.{◌≡◌, ◌≢◌, ◌⊎◌, ℕ, not, Bool, true, false, cond, List, [], ◌∷◌, ◌++◌, length, refl, sym, ap, subst, ◌∙◌, Option, Some, None, inl, inr, arith}
use Rattle.std.specs.Prelude.{is_some, is_none}
use Rattle.std.specs.List.{list_any}
use Rattle.std.proofs.lemmas.List.{length-append, append_assoc}
use Rattle.nl_field.specs.FileContent.{FileContent, empty_file, written_over}
use Rattle.nl_field.specs.declared.shape.Shape.{Shape}
use Rattle.nl_tree.specs.Causes.{fault_in}
use Rattle.nl_tree.specs.Replay.{ReplyFits, step_marked}
use Rattle.nl_tree.specs.Step.{Outcome, done_with, effect_of, first_of, is_too_long, outcome_unless, own_refusal, paths_of, prefix_refusal, prefix_refusal_from, refusal_of_file, refusal_of_new, space_refusal, step, when}
use Rattle.nl_tree.specs.Tree.{Node, Tree, content_of, file, is_directory, is_file, is_root, node_at, paths_eq, without}
use Rattle.nl_tree.specs.declared.call.Call.{Call}
use Rattle.nl_tree.specs.declared.call.Call.TheVariants.{Mkdir, Rmdir, Create, Unlink, Rename, Write, Fill, Read, Truncate, Stat, List as ListCall, Sync, Clean}
use Rattle.nl_tree.specs.declared.reply.FaultReply.{FaultReply}
use Rattle.nl_tree.specs.declared.reply.Refusal.{Refusal}
use Rattle.nl_tree.specs.declared.reply.Refusal.TheVariants.{Eexist, Eisdir, Enametoolong, Enoent, Enotdir}
use Rattle.nl_tree.specs.declared.reply.Reply.{Reply}
use Rattle.nl_tree.specs.declared.reply.Reply.TheVariants.{Done, Count, Content, Names, File as FileReply, Dir, Synced, No, Fault}
use Rattle.nl_tree.proofs.StepProofs.{order_after, performed}
use Rattle.nl_tree.proofs.TreeProofs.{eq_path, not_true, path_eq, tree_laws}
use Rattle.nl_put_tree.specs.Putting.{FitsVolume, IsContentOf, IsDue, IsWriting, Path, after, is_fault}
use Rattle.nl_put_tree.proofs.Contents.{empty_holds, piece_holds}

-- ---- paths that differ

pub differ : (p q : Path) → (p ≡ q → ⊥) → paths_eq p q ≡ false
differ p q ne = not_true (paths_eq p q) (λ t. absurd (ne (eq_path p q t)))

-- ---- the first of refusals

pub none_first : (a : Option Refusal) (rest : List (Option Refusal)) → first_of (a ∷ rest) ≡ None → (a ≡ None) × (first_of rest ≡ None)
none_first None rest e = (refl, e)
none_first (Some r) rest e = absurd (cc e)

pub unless : (b : Bool) (r : Refusal) → when b r ≡ None → b ≡ false
unless false r e = refl
unless true r e = absurd (cc e)

-- ---- a step that is not refused

abbrev pub is_no : Reply → Bool
is_no (No r) = true
is_no _ = false

pub record Performs (shape : Shape) (tree : Tree) (call : Call) : Type 0 where
  pub short : list_any is_too_long (paths_of call) ≡ false
  pub own : own_refusal tree call ≡ None
  pub room : space_refusal shape (effect_of tree call).tree ≡ None
  pub is : step shape tree call ≡ effect_of tree call

module _ (shape : Shape) (tree : Tree) (call : Call) where
  step_by : (a b c : Option Refusal) → when (list_any is_too_long (paths_of call)) Enametoolong ≡ a → own_refusal tree call ≡ b → space_refusal shape (effect_of tree call).tree ≡ c
      → step shape tree call ≡ outcome_unless tree (effect_of tree call) (first_of (a ∷ b ∷ c ∷ []))
  unfolding step
  step_by a b c ea eb ec = λ k. outcome_unless tree (effect_of tree call) (first_of (ea k ∷ eb k ∷ ec k ∷ []))

  -- refused, and the tree stays; or performed
  pub either : ((r : Refusal) × (step shape tree call ≡ record { reply = No r; bytes = []; tree = tree })) ⊎ Performs shape tree call
  either = by (when (list_any is_too_long (paths_of call)) Enametoolong) (own_refusal tree call) (space_refusal shape (effect_of tree call).tree) refl refl refl
    where
      by : (a b c : Option Refusal) → when (list_any is_too_long (paths_of call)) Enametoolong ≡ a → own_refusal tree call ≡ b → space_refusal shape (effect_of tree call).tree ≡ c
          → ((r : Refusal) × (step shape tree call ≡ record { reply = No r; bytes = []; tree = tree })) ⊎ Performs shape tree call
      by (Some r) b c ea eb ec = inl (r, step_by (Some r) b c ea eb ec)
      by None (Some r) c ea eb ec = inl (r, step_by None (Some r) c ea eb ec)
      by None None (Some r) ea eb ec = inl (r, step_by None None (Some r) ea eb ec)
      by None None None ea eb ec = inr (record { short = unless _ _ ea; own = eb; room = ec; is = step_by None None None ea eb ec })

  pub performs : (reply : Reply) → is_no reply ≡ false → (step shape tree call).reply ≡ reply → Performs shape tree call
  performs reply not_no e = by either
    where
      by : ((r : Refusal) × (step shape tree call ≡ record { reply = No r; bytes = []; tree = tree })) ⊎ Performs shape tree call → Performs shape tree call
      by (inl (r, refused)) =
          let same : No r ≡ reply = sym (ap (λ (o : Outcome). o.reply) refused) ∙ e in
          absurd (cc (ap is_no same, not_no))
      by (inr p) = p

  of_effect : (r : Refusal) (c : Call) → (effect_of tree c).reply ≡ No r → (effect_of tree c).tree ≡ tree
  unfolding effect_of
  of_effect r (Mkdir path) h = absurd (cc h)
  of_effect r (Rmdir path) h = absurd (cc h)
  of_effect r (Create path) h = absurd (cc h)
  of_effect r (Unlink path) h = absurd (cc h)
  of_effect r (Rename from to) h = absurd (cc h)
  of_effect r (Write path from bytes) h = absurd (cc h)
  of_effect r (Fill path from len byte) h = absurd (cc h)
  of_effect r (Read path from len) h = refl
  of_effect r (Truncate path size) h = absurd (cc h)
  of_effect r (Stat path) h = refl
  of_effect r (ListCall path) h = refl
  of_effect r Sync h = refl
  of_effect r Clean h = refl

  -- a refusal leaves the tree
  pub stays : (r : Refusal) → (step shape tree call).reply ≡ No r → (step shape tree call).tree ≡ tree
  stays r e = by either
    where
      by : ((x : Refusal) × (step shape tree call ≡ record { reply = No x; bytes = []; tree = tree })) ⊎ Performs shape tree call → (step shape tree call).tree ≡ tree
      by (inl (x, refused)) = ap (λ (o : Outcome). o.tree) refused
      by (inr p) = ap (λ (o : Outcome). o.tree) p.is ∙ of_effect r call (sym (ap (λ (o : Outcome). o.reply) p.is) ∙ e)

-- ---- replies that are due

-- what is due is the reply itself, where it is none of a sync
pub due_is : (due : Outcome) (reply : Reply) → ReplyFits due.reply reply → ((u m : ℕ) → reply ≢ Synced u m) → due.reply ≡ reply
due_is due reply fits none = by due.reply fits
  where
    by : (x : Reply) → ReplyFits x reply → x ≡ reply
    by Done f = sym f
    by (Count n) f = sym f
    by Content f = sym f
    by (Names n) f = sym f
    by (FileReply s p) f = sym f
    by (Dir n) f = sym f
    by (Synced u m) f = absurd (none f.0 f.1 f.2)
    by (No r) f = sym f
    by (Fault f') f = sym f

-- a reply is no fault, or one
pub fault_or : (reply : Reply) → (fault_in reply ≡ None) ⊎ (is_fault reply ≡ true)
fault_or Done = inl refl
fault_or (Count n) = inl refl
fault_or Content = inl refl
fault_or (Names n) = inl refl
fault_or (FileReply s p) = inl refl
fault_or (Dir n) = inl refl
fault_or (Synced u m) = inl refl
fault_or (No r) = inl refl
fault_or (Fault f) = inr refl

module _ (shape : Shape) (tree : Tree) (call : Call) where
  -- without a fault it is the step that is due
  pub stepped : (reply : Reply) → fault_in reply ≡ None → IsDue shape tree call reply → ReplyFits (step shape tree call).reply reply
  stepped reply none due = subst (λ (f : Option FaultReply). ReplyFits (step_marked shape tree (call, f)).reply reply) none due

  pub after_step : (reply : Reply) → fault_in reply ≡ None → after shape tree call reply ≡ (step shape tree call).tree
  after_step reply none = ap (λ (f : Option FaultReply). (step_marked shape tree (call, f)).tree) none

  -- a fault reply leaves the tree
  pub after_fault : (reply : Reply) → is_fault reply ≡ true → after shape tree call reply ≡ tree
  after_fault (Fault f) e = refl
  after_fault Done e = absurd (cc e)
  after_fault (Count n) e = absurd (cc e)
  after_fault Content e = absurd (cc e)
  after_fault (Names n) e = absurd (cc e)
  after_fault (FileReply s p) e = absurd (cc e)
  after_fault (Dir n) e = absurd (cc e)
  after_fault (Synced u m) e = absurd (cc e)
  after_fault (No r) e = absurd (cc e)

  -- a call whose effect replies in one way is answered so, or refused, or met a fault
  pub answered : (due reply : Reply) → (effect_of tree call).reply ≡ due → IsDue shape tree call reply → ReplyFits due reply ⊎ (((r : Refusal) × (reply ≡ No r)) ⊎ (is_fault reply ≡ true))
  answered due reply is fits = by (fault_or reply)
    where
      by_step : fault_in reply ≡ None → ((r : Refusal) × (step shape tree call ≡ record { reply = No r; bytes = []; tree = tree })) ⊎ Performs shape tree call → ReplyFits due reply ⊎ (((r : Refusal) × (reply ≡ No r)) ⊎ (is_fault reply ≡ true))
      by_step none (inl (r, refused)) = inr (inl (r, subst (λ (o : Outcome). ReplyFits o.reply reply) refused (stepped reply none fits)))
      by_step none (inr p) = inl (subst (λ (x : Reply). ReplyFits x reply) (ap (λ (o : Outcome). o.reply) p.is ∙ is) (stepped reply none fits))

      by : (fault_in reply ≡ None) ⊎ (is_fault reply ≡ true) → ReplyFits due reply ⊎ (((r : Refusal) × (reply ≡ No r)) ⊎ (is_fault reply ≡ true))
      by (inl none) = by_step none (either shape tree call)
      by (inr fault) = inr (inr fault)

-- ---- a refusal

pub refused : (shape : Shape) (now : Tree) (call : Call) (r : Refusal) → IsDue shape now call (No r) → (after shape now call (No r) ≡ now) × ((step shape now call).reply ≡ No r)
refused shape now call r due =
    let is : (step shape now call).reply ≡ No r = due_is (step shape now call) (No r) due (λ u m e. cc e) in
    (stays shape now call r is, is)

-- ---- the file of its own is made

pub created : (shape : Shape) (tree : Tree) (own : Path) → FitsVolume shape tree → IsDue shape tree (Create own) Done → IsWriting tree own [] (after shape tree (Create own) Done)
unfolding own_refusal refusal_of_new effect_of
created shape tree own fits due =
    let is : (step shape tree (Create own)).reply ≡ Done = due_is (step shape tree (Create own)) Done due (λ u m e. cc e) in
    let p = performs shape tree (Create own) Done refl is in
    let one = none_first (when (is_root own) Eexist) (prefix_refusal tree own ∷ when (is_some (node_at tree own)) Eexist ∷ []) p.own in
    let two = none_first (prefix_refusal tree own) (when (is_some (node_at tree own)) Eexist ∷ []) one.1 in
    let three = none_first (when (is_some (node_at tree own)) Eexist) [] two.1 in
    subst (IsWriting tree own []) (sym (ap (λ (o : Outcome). o.tree) p.is)) (record {
      in_order = tree_laws.order_new tree own (file empty_file) fits.is_tree.in_order;
      named = record { none = not_some (node_at tree own) (unless _ _ three.0); short = p.short; not_root = unless _ _ one.0; leads = two.0 };
      holds = record { content = empty_file; is_file = tree_laws.at_new tree own own (file empty_file) ∙ ap (λ (b : Bool). cond b (Some (file empty_file)) (node_at tree own)) (path_eq own own refl); holds = empty_holds };
      others = λ q ne. tree_laws.at_new tree own q (file empty_file) ∙ ap (λ (b : Bool). cond b (Some (file empty_file)) (node_at tree q)) (differ q own ne);
    })
  where
    not_some : (o : Option Node) → is_some o ≡ false → o ≡ None
    not_some None e = refl
    not_some (Some x) e = absurd (cc e)

-- ---- a piece is written

pub written_so : (shape : Shape) (tree now : Tree) (own : Path) (written bytes : List ℕ) (n : ℕ) → IsWriting tree own written now → IsDue shape now (Write own (length written) bytes) (Count n)
    → IsWriting tree own (written ++ bytes) (after shape now (Write own (length written) bytes) (Count n))
unfolding effect_of
written_so shape tree now own written bytes n w due =
    let is : (step shape now (Write own (length written) bytes)).reply ≡ Count n = due_is (step shape now (Write own (length written) bytes)) (Count n) due (λ u m e. cc e) in
    let p = performs shape now (Write own (length written) bytes) (Count n) refl is in
    let here : content_of (node_at now own) ≡ w.holds.content = ap content_of w.holds.is_file in
    let content = written_over (content_of (node_at now own)) (length written) bytes in
    subst (IsWriting tree own (written ++ bytes)) (sym (ap (λ (o : Outcome). o.tree) p.is)) (record {
      in_order = order_after now (Write own (length written) bytes) w.in_order;
      named = w.named;
      holds = record {
        content = content;
        is_file = tree_laws.at_content now own own content ∙ ap (λ (b : Bool). cond b (Some (file content)) (node_at now own)) (path_eq own own refl);
        holds = subst (λ (c : FileContent). IsContentOf (written_over c (length written) bytes) (written ++ bytes)) (sym here) (piece_holds w.holds.content written bytes w.holds.holds);
      };
      others = λ q ne. tree_laws.at_content now own q content ∙ ap (λ (b : Bool). cond b (Some (file content)) (node_at now q)) (differ q own ne) ∙ w.others q ne;
    })

-- ---- and taken back

-- the directories above a path are looked up alike in trees that differ at the path alone
same_way : (tree now : Tree) (own : Path) → ((q : Path) → q ≢ own → node_at now q ≡ node_at tree q) → (at names : Path) → at ++ names ≡ own → prefix_refusal_from now at names ≡ prefix_refusal_from tree at names
unfolding prefix_refusal_from
same_way tree now own others at [] e = refl
same_way tree now own others at (name ∷ []) e = refl
same_way tree now own others at (name ∷ next ∷ names) e =
    let joined : (at ++ name ∷ []) ++ next ∷ names ≡ own = append_assoc at (name ∷ []) (next ∷ names) ∙ e in
    let shorter : at ++ name ∷ [] ≢ own = λ same. let a = length-append (at ++ name ∷ []) (next ∷ names) in let b = ap length joined in let d = ap length same in absurd (omega (arith, a, b, d)) in
    let here = others (at ++ name ∷ []) shorter in
    let onward = same_way tree now own others (at ++ name ∷ []) (next ∷ names) joined in
    (λ k. first_of (when (is_none (here k)) Enoent ∷ when (is_file (here k)) Enotdir ∷ onward k ∷ []))

module _ (shape : Shape) (tree now : Tree) (own : Path) (bytes : List ℕ) (fits : FitsVolume shape tree) (w : IsWriting tree own bytes now) where
  back : without now own ≡ tree
  back = tree_laws.same_tree (without now own) tree (tree_laws.order_without now own w.in_order) fits.is_tree.in_order (λ q. tree_laws.at_without now own q ∙ by q (paths_eq own q) refl)
    where
      by : (q : Path) (b : Bool) → paths_eq own q ≡ b → cond (not (paths_eq own q)) (node_at now q) None ≡ node_at tree q
      by q true e = ap (λ (b : Bool). cond (not b) (node_at now q) None) e ∙ sym (ap (node_at tree) (sym (eq_path own q e)) ∙ w.named.none)
      by q false e = ap (λ (b : Bool). cond (not b) (node_at now q) None) e ∙ w.others q (λ same. cc (e, path_eq own q (sym same)))

  may_go : None ≡ first_of (when (list_any is_too_long (own ∷ [])) Enametoolong ∷ refusal_of_file now own ∷ [])
  unfolding refusal_of_file
  may_go =
      let there = w.holds.is_file in
      let leads : prefix_refusal now own ≡ None = same_way tree now own w.others [] own refl ∙ w.named.leads in
      sym (λ k. first_of (when (w.named.short k) Enametoolong
      ∷ first_of (when (w.named.not_root k) Eisdir ∷ leads k ∷ when (is_none (there k)) Enoent ∷ when (is_directory (there k)) Eisdir ∷ []) ∷ []))

  unlinks : step shape now (Unlink own) ≡ done_with tree
  unfolding own_refusal effect_of
  unlinks = performed shape now (without now own) (Unlink own) may_go refl (sym (ap (space_refusal shape) back ∙ fits.room)) ∙ ap done_with back

  pub unlinked : (reply : Reply) → IsDue shape now (Unlink own) reply → ((reply ≡ Done) × (after shape now (Unlink own) reply ≡ tree)) ⊎ ((is_fault reply ≡ true) × (after shape now (Unlink own) reply ≡ now))
  unlinked reply due = by (fault_or reply)
    where
      by : (fault_in reply ≡ None) ⊎ (is_fault reply ≡ true) → ((reply ≡ Done) × (after shape now (Unlink own) reply ≡ tree)) ⊎ ((is_fault reply ≡ true) × (after shape now (Unlink own) reply ≡ now))
      by (inl none) =
          let fits' : ReplyFits (step shape now (Unlink own)).reply reply = stepped shape now (Unlink own) reply none due in
          inl (subst (λ (o : Outcome). ReplyFits o.reply reply) unlinks fits', after_step shape now (Unlink own) reply none ∙ ap (λ (o : Outcome). o.tree) unlinks)
      by (inr fault) = inr (fault, after_fault shape now (Unlink own) reply fault)

-- ---- a sync

pub synced : (shape : Shape) (now : Tree) (reply : Reply) → IsDue shape now Sync reply
    → (after shape now Sync reply ≡ now) × (space_refusal shape now ≡ None → ((upto : ℕ) × (moment : ℕ) × (reply ≡ Synced upto moment)) ⊎ (is_fault reply ≡ true))
unfolding own_refusal effect_of
synced shape now reply due = by (fault_or reply)
  where
    still : ((r : Refusal) × (step shape now Sync ≡ record { reply = No r; bytes = []; tree = now })) ⊎ Performs shape now Sync → (step shape now Sync).tree ≡ now
    still (inl (r, refused)) = ap (λ (o : Outcome). o.tree) refused
    still (inr p) = ap (λ (o : Outcome). o.tree) p.is

    by : (fault_in reply ≡ None) ⊎ (is_fault reply ≡ true) → (after shape now Sync reply ≡ now) × (space_refusal shape now ≡ None → ((upto : ℕ) × (moment : ℕ) × (reply ≡ Synced upto moment)) ⊎ (is_fault reply ≡ true))
    by (inl none) = (
      after_step shape now Sync reply none ∙ still (either shape now Sync),
      λ room. inl (subst (λ (o : Outcome). ReplyFits o.reply reply) (performed shape now now Sync refl refl (sym room)) (stepped shape now Sync reply none due)),
    )
    by (inr fault) = (after_fault shape now Sync reply fault, λ room. inr fault)
