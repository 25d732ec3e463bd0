-- Each step of a queue of notices keeps its rule.
use Rattle.std.proofs.Common.{◌≡◌, ◌≢◌, ℕ, zero, suc, true, false, true≢false, List, [], ◌∷◌, ◌++◌, length, set, sym, refl, ap, ◌∙◌, subst, ⊎_elim, append_assoc}
use mathlib.Core.Option.{some, some-ne-none}
use lib.ListN.{get_elem?}
use Rattle.crossbeam_queue.specs.Fifo.{Pushes, Pops, Forks, Merges, Learns}
use Rattle.crossbeam_queue.proofs.Lists.{at_set, at_snoc}
use Rattle.nl_callbacks.specs.declared.notices.NoticeLog.{NoticeLog}
use Rattle.nl_callbacks.specs.Notices.{log, IsFront, IsBack, FitsNoticeLog, Relayed}

at_end : (l : List NoticeLog) (a b : NoticeLog) (j : ℕ) → get_elem? l j ≢ some b → get_elem? (l ++ a ∷ []) j ≡ some b → j ≡ length l
at_end [] a b zero n e = refl
at_end [] a b (suc j) n e = absurd (some-ne-none b (sym e))
at_end (x ∷ xs) a b zero n e = absurd (n e)
at_end (x ∷ xs) a b (suc j) n e = ap suc (at_end xs a b j n e)

abbrev EachView : (ℕ → NoticeLog → Type 0) → List NoticeLog → Type 0
EachView F views = (port : ℕ) (v : NoticeLog) → get_elem? views port ≡ some v → F port v

each_set : (F : ℕ → NoticeLog → Type 0) (views : List NoticeLog) (port : ℕ) (w : NoticeLog) → F port w
    → ((j : ℕ) (u : NoticeLog) → j ≢ port → get_elem? views j ≡ some u → F j u) → EachView F (set views port w)
each_set F views port w mine others j u e =
    ⊎_elim (λ (x : (j ≡ port) × (w ≡ u)). subst (λ (y : ℕ × NoticeLog). F y.0 y.1) (λ i. (sym x.0 i, x.1 i)) mine)
    (λ (x : (j ≢ port) × (get_elem? views j ≡ some u)). others j u x.0 x.1) (at_set views port j w u e)

front_more : {front list : List ℕ} (x : ℕ) → IsFront front list → IsFront front (list ++ x ∷ [])
front_more {front} {list} x is = record { rest = is.rest ++ x ∷ []; splits = ap (λ l. l ++ x ∷ []) is.splits ∙ append_assoc front is.rest (x ∷ []) }

front_all : (list : List ℕ) → IsFront list list
front_all list = record { rest = []; splits = sym (append_nil list) }
  where
    append_nil : (xs : List ℕ) → xs ++ [] ≡ xs
    append_nil [] = refl
    append_nil (x ∷ xs) = ap (λ l. x ∷ l) (append_nil xs)

front_none : (list : List ℕ) → IsFront [] list
front_none list = record { rest = list; splits = refl }

pub begins : Relayed [] (log true true [] [] [] ∷ [])
begins = record {
  writer = 0;
  reader = 0;
  all_sent = [];
  all_taken = [];
  in_order = refl;
  each = each_set (FitsNoticeLog 0 0 [] []) (log true true [] [] [] ∷ []) 0 (log true true [] [] []) (record { sends = λ _. (refl, refl); takes = λ _. (refl, refl); knows = front_none [] })
      (λ j u other e. absurd (other (at_end [] _ u j (λ x. some-ne-none u (sym x)) e)));
}

pub sends : (n port : ℕ) (v : NoticeLog) (x : ℕ) → v.sends ≡ true → Pushes Relayed n port v x (λ w. w ≡ log v.sends v.takes (v.sent ++ x ∷ []) v.taken v.known)
sends n port v x may items views _ h at =
    let w : NoticeLog = log v.sends v.takes (v.sent ++ x ∷ []) v.taken v.known in
    let mine = h.each port v at in
    let all_sent = h.all_sent ++ x ∷ [] in (
      w,
      record {
        writer = h.writer;
        reader = h.reader;
        all_sent = all_sent;
        all_taken = h.all_taken;
        in_order = ap (λ l. l ++ x ∷ []) h.in_order ∙ append_assoc h.all_taken items (x ∷ []);
        each = each_set (FitsNoticeLog h.writer h.reader all_sent h.all_taken) views port w
            (record { sends = λ _. ((mine.sends may).0, ap (λ l. l ++ x ∷ []) (mine.sends may).1); takes = mine.takes; knows = front_more x mine.knows })
            (λ j u other e. let theirs = h.each j u e in
            record { sends = λ p. absurd (other ((theirs.sends p).0 ∙ sym (mine.sends may).0)); takes = theirs.takes; knows = front_more x theirs.knows });
      },
      refl,
    )

pub takes : (port : ℕ) (v : NoticeLog) → v.takes ≡ true → Pops Relayed port v (λ x w. w ≡ log v.sends v.takes v.sent (v.taken ++ x ∷ []) v.known)
takes port v may x items views h at =
    let w : NoticeLog = log v.sends v.takes v.sent (v.taken ++ x ∷ []) v.known in
    let mine = h.each port v at in
    let all_taken = h.all_taken ++ x ∷ [] in (
      w,
      record {
        writer = h.writer;
        reader = h.reader;
        all_sent = h.all_sent;
        all_taken = all_taken;
        in_order = h.in_order ∙ sym (append_assoc h.all_taken (x ∷ []) items);
        each = each_set (FitsNoticeLog h.writer h.reader h.all_sent all_taken) views port w
            (record { sends = mine.sends; takes = λ _. ((mine.takes may).0, ap (λ l. l ++ x ∷ []) (mine.takes may).1); knows = mine.knows })
            (λ j u other e. let theirs = h.each j u e in
            record { sends = theirs.sends; takes = λ p. absurd (other ((theirs.takes p).0 ∙ sym (mine.takes may).0)); knows = theirs.knows });
      },
      refl,
    )

pub forks : (port : ℕ) (v : NoticeLog) → v.sends ≡ true → v.takes ≡ true → Forks Relayed port v (log true false v.sent [] []) (log false true [] v.taken v.sent)
forks port v a b items views h at =
    let l : NoticeLog = log true false v.sent [] [] in
    let r : NoticeLog = log false true [] v.taken v.sent in
    let mine = h.each port v at in
    let vs : List NoticeLog = set views port l in
    let Old : ℕ → NoticeLog → Type 0 = λ j u. (u.sends ≡ true → (j ≡ h.writer) × (u.sent ≡ h.all_sent)) × (u.takes ≢ true) × IsFront u.known h.all_sent in
    let old : EachView Old vs = each_set Old views port l ((λ _. mine.sends a), (λ p. true≢false (sym p)), front_none h.all_sent)
    (λ j u other e. let theirs = h.each j u e in (theirs.sends, (λ p. other ((theirs.takes p).0 ∙ sym (mine.takes b).0)), theirs.knows)) in
    record {
      writer = h.writer;
      reader = length vs;
      all_sent = h.all_sent;
      all_taken = h.all_taken;
      in_order = h.in_order;
      each = λ j u e. ⊎_elim
          (λ x. let was = old j u x in record { sends = was.0; takes = λ p. absurd (was.1 p); knows = was.2 })
          (λ (is : r ≡ u). record {
            sends = λ p. absurd (true≢false (sym (ap (λ (y : NoticeLog). y.sends) is ∙ p)));
            takes = λ p. (at_end vs r u j (λ x. (old j u x).1 p) e, ap (λ (y : NoticeLog). y.taken) (sym is) ∙ (mine.takes b).1);
            knows = subst (λ (y : NoticeLog). IsFront y.known h.all_sent) is (subst (λ front. IsFront front h.all_sent) (sym (mine.sends a).1) (front_all h.all_sent));
          })
          (at_snoc vs r u j e);
    }

pub merges : (port : ℕ) (v : NoticeLog) (other : ℕ) (u : NoticeLog) → v.sends ≡ true → u.takes ≡ true → Merges Relayed port v other u (log true true v.sent u.taken []) (log false false [] [] [])
merges port v other u a b items views h at two at' =
    let both : NoticeLog = log true true v.sent u.taken [] in
    let mine = h.each port v at in
    let vs : List NoticeLog = set views port both in
    let was : get_elem? views other ≡ some u = ⊎_elim (λ x. absurd (two x.0)) (λ x. x.1) (at_set views port other both u at') in
    let theirs = (h.each other u was).takes b in
    let Now : ℕ → NoticeLog → Type 0 = λ j y. j ≢ other → FitsNoticeLog h.writer port h.all_sent h.all_taken j y in
    let now : EachView Now vs = each_set Now views port both (λ _. record { sends = λ _. mine.sends a; takes = λ _. (refl, theirs.1); knows = front_none h.all_sent })
    (λ j y _ e apart. let t = h.each j y e in record { sends = t.sends; takes = λ p. absurd (apart ((t.takes p).0 ∙ sym theirs.0)); knows = t.knows }) in
    record {
      writer = h.writer;
      reader = port;
      all_sent = h.all_sent;
      all_taken = h.all_taken;
      in_order = h.in_order;
      each = each_set (FitsNoticeLog h.writer port h.all_sent h.all_taken) vs other (log false false [] [] [])
          (record { sends = λ p. absurd (true≢false (sym p)); takes = λ p. absurd (true≢false (sym p)); knows = front_none h.all_sent })
          (λ j y apart e. now j y e apart);
    }

pub between : (port : ℕ) (v : NoticeLog) → v.sends ≡ true → v.takes ≡ true → Learns Relayed port v (λ items. v.sent ≡ v.taken ++ items)
between port v a b items views h at = let mine = h.each port v at in (mine.sends a).1 ∙ h.in_order ∙ ap (λ l. l ++ items) (sym (mine.takes b).1)

-- what a sender learns of the queue: it holds the last of what was sent
pub back : (port : ℕ) (v : NoticeLog) → v.sends ≡ true → Learns Relayed port v (λ items. IsBack items v.sent)
back port v a items views h at = let mine = h.each port v at in record { before = h.all_taken; splits = (mine.sends a).1 ∙ h.in_order }

-- what a taker learns: what it knows to be sent was taken, or is in the queue
pub front : (port : ℕ) (v : NoticeLog) → v.takes ≡ true → Learns Relayed port v (λ items. IsFront v.known (v.taken ++ items))
front port v b items views h at =
    let mine = h.each port v at in
    record { rest = mine.knows.rest; splits = ap (λ l. l ++ items) (mine.takes b).1 ∙ (sym h.in_order ∙ mine.knows.splits) }
