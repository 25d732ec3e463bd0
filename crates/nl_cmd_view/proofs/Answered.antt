-- What an answer of a read says of a piece.
use Rattle.std.proofs.Common.{◌≡◌, ◌<◌, ℕ, Bool, true, false, List, [], length, inl, inr, refl, sym, ap, subst, ◌∙◌, Option, Some, None, arith}
use Rattle.std.specs.Prelude.{◌⊎◌, ◌==◌}
use Rattle.std.proofs.lemmas.Bool.{eqb-true, eqb-false}
use Rattle.nl_calls_read.specs.Due.{AnswersStep}
use Rattle.nl_calls_read.specs.Looking.{IfReplied, IsLostReply}
use Rattle.nl_calls_read.specs.declared.answer.Looked.{Looked}
use Rattle.nl_calls_read.specs.declared.answer.Looked.TheVariants as looked
use Rattle.nl_core.specs.Core.{running_of}
use Rattle.nl_core.specs.Trees.{CoreRepresentsTree}
use Rattle.nl_core.specs.declared.state.Core.{Core}
use Rattle.nl_iface.specs.Calls.{ReadsCounted}
use Rattle.nl_iface.specs.declared.counts.Counts.{Ghosts}
use Rattle.nl_io.specs.Streams.{WritesStream}
use Rattle.nl_meta.specs.Consistent.{PageOfStamp}
use Rattle.nl_tree.specs.Replay.{Answers}
use Rattle.nl_tree.specs.Step.{step}
use Rattle.nl_tree.specs.Tree.{Node, Tree, content_of, node_at}
use Rattle.nl_field.specs.FileContent.{bytes_read}
use Rattle.nl_tree.specs.declared.call.Call.TheVariants.{Read}
use Rattle.nl_tree.specs.declared.reply.Refusal.{Refusal}
use Rattle.nl_tree.specs.declared.reply.Reply.{Reply}
use Rattle.nl_tree.specs.declared.reply.Reply.TheVariants.{Content, Count, Dir, Done, Fault, File, Names, No, Synced}
use Rattle.nl_cmd_view.specs.Getting.{refusal_of_read}
use Rattle.nl_cmd_view.specs.Pieces.{IfPieceRefused, IfRefused, IsPiece, IsPieceOfFile, IsTaken, ReadsFor, ReadsUntil, ends_at, piece_length, taken_so}
use Rattle.nl_cmd_view.specs.declared.printing.Got.{Got}
use Rattle.nl_cmd_view.specs.declared.printing.Got.TheVariants as got
use Rattle.nl_cmd_view.proofs.Printed.{took_nothing}
use Rattle.nl_cmd_view.proofs.Reading.{answer_is, file_there}

-- bytes come with content alone
pub content_goes_on : (answer : Looked) (first : Bool) → ends_at answer first ≡ None → answer ≡ looked.Replied Content
content_goes_on (looked.Replied Content) first e = refl
content_goes_on (looked.Replied (No refusal)) true e = absurd (cc e)
content_goes_on (looked.Replied (No refusal)) false e = absurd (cc e)
content_goes_on (looked.Replied Done) first e = absurd (cc e)
content_goes_on (looked.Replied (Count n)) first e = absurd (cc e)
content_goes_on (looked.Replied (Names n)) first e = absurd (cc e)
content_goes_on (looked.Replied (File size pages)) first e = absurd (cc e)
content_goes_on (looked.Replied (Dir entries)) first e = absurd (cc e)
content_goes_on (looked.Replied (Synced upto moment)) first e = absurd (cc e)
content_goes_on (looked.Replied (Fault fault)) first e = absurd (cc e)
content_goes_on (looked.Lost w f) first e = absurd (cc e)
content_goes_on looked.Fault first e = absurd (cc e)

-- ---- a piece that was printed, or not taken

pub piece_printed : (result : Option Got) (tree : Tree) (path : List (List ℕ)) (at : ℕ) (bytes : List ℕ) → IsTaken result (length bytes) → IsPieceOfFile tree path at bytes → IsPiece result tree path at bytes
piece_printed None tree path at bytes n p = (p, n)
piece_printed (Some got.All) tree path at bytes n p = (p, n)
piece_printed (Some got.NotTaken) tree path at bytes n p = p
piece_printed (Some (got.Refused refusal)) tree path at bytes n p = absurd n
piece_printed (Some got.Fault) tree path at bytes n p = absurd n
piece_printed (Some got.Lost) tree path at bytes n p = absurd n

pub taken_not_refused : (result : Option Got) (n : ℕ) (P : Type 0) → IsTaken result n → IfPieceRefused result P
taken_not_refused None n P t = tt
taken_not_refused (Some got.All) n P t = tt
taken_not_refused (Some got.NotTaken) n P t = tt
taken_not_refused (Some (got.Refused refusal)) n P t = absurd t
taken_not_refused (Some got.Fault) n P t = tt
taken_not_refused (Some got.Lost) n P t = tt

pub taken_reads : {D : Type 0} (g : Ghosts D) (s t : D) (result : Option Got) (n : ℕ) → IsTaken result n → g.read_faults t ≡ g.read_faults s → ReadsUntil g s t result
taken_reads g s t None n taken same = same
taken_reads g s t (Some got.All) n taken same = same
taken_reads g s t (Some got.NotTaken) n taken same = same
taken_reads g s t (Some (got.Refused refusal)) n taken same = absurd taken
taken_reads g s t (Some got.Fault) n taken same = absurd taken
taken_reads g s t (Some got.Lost) n taken same = absurd taken

-- ---- the tree's answer

module _ {D : Type 0} (g : Ghosts D) (v : Core D) (path : List (List ℕ)) (at : ℕ) (bytes : List ℕ) (answer : Looked) (answers : AnswersStep g v (Read path at piece_length) bytes answer) where
  module _ (tells : g.tells) (page_of_stamp : ℕ → Option PageOfStamp) (tree : Tree) (runs : CoreRepresentsTree g v page_of_stamp tree) where
    -- the reply is content, or the refusal
    abbrev Due : Reply → Type 0
    Due reply =
        ((refusal_of_read tree path ≡ None) × (reply ≡ Content) × (bytes ≡ bytes_read (content_of (node_at tree path)) at piece_length))
        ⊎ ((r : Refusal) × (refusal_of_read tree path ≡ Some r) × (reply ≡ No r))

    due : (reply : Reply) → answer ≡ looked.Replied reply → Due reply
    due reply is =
        answer_is (g.shape v.device) (running_of g v) page_of_stamp tree runs.runs path at piece_length reply bytes
        (subst (λ (a : Looked). IfReplied a (λ reply. Answers (step (g.shape v.device) tree (Read path at piece_length)) reply bytes)) is (answers tells page_of_stamp tree runs))

    pub piece_of_file : answer ≡ looked.Replied Content → IsPieceOfFile tree path at bytes
    piece_of_file is = by (due Content is)
      where
        by : Due Content → IsPieceOfFile tree path at bytes
        by (inl (none, same, are)) =
            let there = file_there tree path none in
            record { may_read = none; content = there.0; is_file = there.1; piece_is = are ∙ ap (λ (o : Option Node). bytes_read (content_of o) at piece_length) there.1 }
        by (inr (r, some, same)) = absurd (cc same)

    -- a refusal
    refused_there : (refusal : Refusal) → answer ≡ looked.Replied (No refusal) → refusal_of_read tree path ≡ Some refusal
    refused_there refusal is = by (due (No refusal) is)
      where
        by : Due (No refusal) → refusal_of_read tree path ≡ Some refusal
        by (inl (none, same, are)) = absurd (cc same)
        by (inr (r, some, same)) = some ∙ ap (λ (x : Refusal). Some x) (the_same r same)
          where
            the_same : (r : Refusal) → (let x : Reply = No refusal in x) ≡ No r → r ≡ refusal
            the_same r e = cc e

    not_none : (refusal : Refusal) → refusal_of_read tree path ≡ Some refusal → refusal_of_read tree path ≡ None → ⊥
    not_none refusal some none = cc (some, none)

    no_other : (reply : Reply) → answer ≡ looked.Replied reply → (reply ≡ Content → ⊥) → ((r : Refusal) → reply ≡ No r → ⊥) → ⊥
    no_other reply is a b = by (due reply is)
      where
        by : Due reply → ⊥
        by (inl (none, same, are)) = a same
        by (inr (r, some, same)) = b r same

    -- what ends the printing without bytes
    pub ended_piece : (first : Bool) → first ≡ (at == 0) → (g.tells → IsLostReply answer → ⊥) → (result : Got) → ends_at answer first ≡ Some result → IsPiece (Some result) tree path at []
    ended_piece first is_first told result e = by answer refl (e_of answer refl)
      where
        e_of : (a : Looked) → answer ≡ a → ends_at a first ≡ Some result
        e_of a is = ap (λ (x : Looked). ends_at x first) (sym is) ∙ e

        other : (reply : Reply) → answer ≡ looked.Replied reply → (reply ≡ Content → ⊥) → ((r : Refusal) → reply ≡ No r → ⊥) → IsPiece (Some result) tree path at []
        other reply is a b = absurd (no_other reply is a b)

        result_is : (o : Option Got) (x : Got) → o ≡ Some x → o ≡ Some result → x ≡ result
        result_is o x a b = cc (a, b)

        of_refusal : (refusal : Refusal) → answer ≡ looked.Replied (No refusal) → (b : Bool) → first ≡ b → ends_at (looked.Replied (No refusal)) b ≡ Some result → IsPiece (Some result) tree path at []
        of_refusal refusal is true at_first ends =
            subst (λ (x : Got). IsPiece (Some x) tree path at []) (result_is (Some (got.Refused refusal)) (got.Refused refusal) refl ends) (refused_there refusal is, refl)
        of_refusal refusal is false later ends =
            subst (λ (x : Got). IsPiece (Some x) tree path at []) (result_is (Some got.Lost) got.Lost refl ends)
            (behind_first (eqb-false at 0 (sym is_first ∙ later)), not_none refusal (refused_there refusal is))
          where
            behind_first : (at ≡ 0 → ⊥) → 0 < at
            behind_first not = grind (arith, not)

        by : (a : Looked) → answer ≡ a → ends_at a first ≡ Some result → IsPiece (Some result) tree path at []
        by (looked.Replied Content) is ends = absurd (cc ends)
        by (looked.Replied (No refusal)) is ends = of_refusal refusal is first refl ends
        by (looked.Replied Done) is ends = other Done is (λ x. cc x) (λ r x. cc x)
        by (looked.Replied (Count n)) is ends = other (Count n) is (λ x. cc x) (λ r x. cc x)
        by (looked.Replied (Names n)) is ends = other (Names n) is (λ x. cc x) (λ r x. cc x)
        by (looked.Replied (File size pages)) is ends = other (File size pages) is (λ x. cc x) (λ r x. cc x)
        by (looked.Replied (Dir entries)) is ends = other (Dir entries) is (λ x. cc x) (λ r x. cc x)
        by (looked.Replied (Synced upto moment)) is ends = other (Synced upto moment) is (λ x. cc x) (λ r x. cc x)
        by (looked.Replied (Fault fault)) is ends = other (Fault fault) is (λ x. cc x) (λ r x. cc x)
        by (looked.Lost w f) is ends = absurd (told tells (subst IsLostReply (sym is) tt))
        by looked.Fault is ends = subst (λ (x : Got). IsPiece (Some x) tree path at []) (result_is (Some got.Fault) got.Fault refl ends) refl

-- ---- without a tree

-- by how an answer without bytes ends the printing
pub by_ending : (answer : Looked) (first : Bool) (result : Got) (P : Got → Type 0) → ends_at answer first ≡ Some result → ((refusal : Refusal) → first ≡ true → (answer ≡ looked.Fault → ⊥) → P (got.Refused refusal))
    → ((answer ≡ looked.Fault → ⊥) → P got.Lost) → (answer ≡ looked.Fault → P got.Fault) → P result
by_ending answer first result P e refused lost fault = by answer refl first refl (ap (λ (a : Looked). ends_at a first) refl ∙ e)
  where
    is_it : (o : Option Got) (x : Got) → o ≡ Some x → o ≡ Some result → x ≡ result
    is_it o x a b = cc (a, b)

    lost_so : (a : Looked) → answer ≡ a → (a ≡ looked.Fault → ⊥) → (let o : Option Got = Some got.Lost in o) ≡ Some result → P result
    lost_so a is not ends = subst P (is_it (Some got.Lost) got.Lost refl ends) (lost (λ f. not (sym is ∙ f)))

    by : (a : Looked) → answer ≡ a → (b : Bool) → first ≡ b → ends_at a b ≡ Some result → P result
    by (looked.Replied Content) is b at ends = absurd (cc ends)
    by (looked.Replied (No refusal)) is true at ends = subst P (is_it (Some (got.Refused refusal)) (got.Refused refusal) refl ends) (refused refusal at (λ f. let off : ⊥ = cc (is, f) in off))
    by (looked.Replied (No refusal)) is false at ends = lost_so _ is (λ f. cc f) ends
    by (looked.Replied Done) is b at ends = lost_so _ is (λ f. cc f) ends
    by (looked.Replied (Count n)) is b at ends = lost_so _ is (λ f. cc f) ends
    by (looked.Replied (Names n)) is b at ends = lost_so _ is (λ f. cc f) ends
    by (looked.Replied (File size pages)) is b at ends = lost_so _ is (λ f. cc f) ends
    by (looked.Replied (Dir entries)) is b at ends = lost_so _ is (λ f. cc f) ends
    by (looked.Replied (Synced upto moment)) is b at ends = lost_so _ is (λ f. cc f) ends
    by (looked.Replied (Fault fault)) is b at ends = lost_so _ is (λ f. cc f) ends
    by (looked.Lost w f) is b at ends = lost_so _ is (λ f. cc f) ends
    by looked.Fault is b at ends = subst P (is_it (Some got.Fault) got.Fault refl ends) (fault is)

pub nothing_taken : (answer : Looked) (first : Bool) (result : Got) (old : Option (List ℕ)) → ends_at answer first ≡ Some result → WritesStream old old (taken_so result) []
nothing_taken answer first result old e = by_ending answer first result (λ x. WritesStream old old (taken_so x) []) e (λ r f n. took_nothing old) (λ n. took_nothing old) (λ f. took_nothing old)

pub ended_reads : {D : Type 0} (g : Ghosts D) (s t : D) (answer : Looked) (first : Bool) (result : Got) → ends_at answer first ≡ Some result → ReadsCounted g (answer ≡ looked.Fault) s t → ReadsFor g s t result
ended_reads g s t answer first result e counted = by_ending answer first result (λ x. ReadsFor g s t x) e (λ r f n. counted.stays tt n) (λ n. counted.stays tt n) (λ f. counted.cause f)

pub refused_first : (answer : Looked) (first : Bool) (result : Got) (at : ℕ) (P : Type 0) → first ≡ (at == 0) → P → ends_at answer first ≡ Some result → IfRefused result ((at ≡ 0) × P)
refused_first answer first result at P is p e = by_ending answer first result (λ x. IfRefused x ((at ≡ 0) × P)) e (λ r f n. (eqb-true at 0 (sym is ∙ f), p)) (λ n. tt) (λ f. tt)

pub not_not_taken : (answer : Looked) (first : Bool) (result : Got) → ends_at answer first ≡ Some result → result ≡ got.NotTaken → ⊥
not_not_taken answer first result e = by_ending answer first result (λ x. x ≡ got.NotTaken → ⊥) e (λ r f n x. cc x) (λ n x. cc x) (λ f x. cc x)
