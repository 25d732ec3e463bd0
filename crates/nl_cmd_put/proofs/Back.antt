-- The file of its own is taken back, and that is synced.
use Rattle.std.proofs.Common.{◌≡◌, ◌≢◌, ◌⊎◌, ◌&&◌, ◌<◌, ◌^◌, ℕ, ◌+◌, Bool, true, false, if◌then◌else◌, List, [], ◌∷◌, ◌++◌, refl, sym, ap, subst, ◌∙◌, inl, inr, arith}
use Rattle.nl_tree.specs.Step.{space_refusal}
use Rattle.nl_tree.specs.Tree.{Tree}
use Rattle.nl_tree.specs.declared.call.Call.TheVariants.{Sync, Unlink}
use Rattle.nl_tree.specs.declared.reply.Refusal.{Refusal}
use Rattle.nl_tree.specs.declared.reply.Reply.{Reply}
use Rattle.nl_tree.specs.declared.reply.Reply.TheVariants.{Done, Count, Content, Names, File, Dir, Synced, No, Fault}
use Rattle.nl_turns.specs.History.{Opening}
use Rattle.nl_turns.specs.declared.entry.Entry.{Entry}
use Rattle.nl_put_tree.specs.Putting.{FitsVolume, IsBeside, IsUnderWay, IsWriting, Path, after, is_fault}
use Rattle.nl_put_tree.proofs.Whole.{put_laws}
use Rattle.nl_cmd_put.specs.Asking.{MetFault}
use Rattle.nl_cmd_course.specs.Asking.{Asked, HasAsked, tree_after}
use Rattle.nl_cmd_put.specs.Phases.{HasPut, HasStopped, IsEnd, IsPutting, end_of_back, end_of_refusal, is_done, is_synced}
use Rattle.nl_cmd_put.specs.declared.ending.End.{End}
use Rattle.nl_cmd_put.specs.declared.ending.End.TheVariants as ends
use Rattle.nl_cmd_course.proofs.Asked.{due_last, length_more}
use Rattle.nl_cmd_put.proofs.Phases.{fault_kept, fault_last, putting_more, tree_more}

-- the file is there, or was taken back where the call was done
abbrev IsBack : Opening → Path → List ℕ → Reply → Tree → Type 0
IsBack o own written gone tree = ((gone ≡ Done) × (tree ≡ o.tree)) ⊎ ((is_fault gone ≡ true) × IsWriting o.tree own written tree)

module _ {V : Type 0} (stands : V → Opening → List Entry → V → Type 0) (tells : Type 0) (origin : V) (o : Opening) (path own : Path) (bytes : List ℕ) (number : ℕ) (v between v' : V) (why gone synced : Reply) (low : number + 1 < 2 ^ 32)
    (beside : IsBeside path own) (fits : tells → FitsVolume o.shape o.tree) (s : HasStopped stands tells origin o own path bytes number v why)
    (first : HasAsked stands tells origin o (s.asked ++ (Unlink own, gone) ∷ []) between) (second : HasAsked stands tells origin o ((s.asked ++ (Unlink own, gone) ∷ []) ++ (Sync, synced) ∷ []) v') where
  abbrev asked : Asked
  asked = s.asked ++ (Unlink own, gone) ∷ []

  abbrev all : Asked
  all = asked ++ (Sync, synced) ∷ []

  way : (tree : Tree) → IsBack o own s.written gone tree → IsUnderWay o.tree own path bytes tree
  way tree (inl (e, same)) = subst (IsUnderWay o.tree own path bytes) (sym same) (put_laws.begins o.tree own path bytes)
  way tree (inr (e, w)) = put_laws.writes o.tree tree own path s.written bytes beside w

  gone_so : IsPutting stands tells origin o own path bytes asked between (IsBack o own s.written gone)
  gone_so =
      putting_more stands tells origin o own path bytes s.asked v between (IsWriting o.tree own s.written) (IsBack o own s.written gone) (Unlink own) gone s.putting first
      (λ told w due. let back = by told w (put_laws.unlinked o.shape o.tree (tree_after o s.asked) own s.written gone (fits told) w due) in (way (after o.shape (tree_after o s.asked) (Unlink own) gone) back, back))
    where
      by : tells → IsWriting o.tree own s.written (tree_after o s.asked)
          → ((gone ≡ Done) × (after o.shape (tree_after o s.asked) (Unlink own) gone ≡ o.tree)) ⊎ ((is_fault gone ≡ true) × (after o.shape (tree_after o s.asked) (Unlink own) gone ≡ tree_after o s.asked))
          → IsBack o own s.written gone (after o.shape (tree_after o s.asked) (Unlink own) gone)
      by told w (inl is) = inl is
      by told w (inr (fault, same)) = inr (fault, subst (IsWriting o.tree own s.written) (sym same) w)

  synced_so : IsPutting stands tells origin o own path bytes all v' (IsBack o own s.written gone)
  synced_so =
      putting_more stands tells origin o own path bytes asked between v' (IsBack o own s.written gone) (IsBack o own s.written gone) Sync synced gone_so second
      (λ told back due.
      let same = (put_laws.synced o.shape (tree_after o asked) synced due).0 in
      subst (λ (x : Tree). IsUnderWay o.tree own path bytes x × IsBack o own s.written gone x) (sym same) (way (tree_after o asked) back, back))

  ended_by : (end : End) → IsEnd tells o own path bytes all end → HasPut stands tells origin o path bytes end v'
  ended_by end is = record {
    own = own;
    beside = beside;
    asked = all;
    few = (let l = length_more s.asked (Unlink own) gone in let k = length_more asked Sync synced in let n = s.next in omega (arith, l, k, n, low));
    putting = record { so_far = second; under_way = synced_so.under_way; now_is = λ told. tt };
    is_end = is;
  }

  -- ---- where it was not taken back, or not synced, a fault was met

  done_is : (r : Reply) → is_done r ≡ true → r ≡ Done
  done_is Done e = refl
  done_is (Count n) e = absurd (cc e)
  done_is (No r) e = absurd (cc e)
  done_is Content e = absurd (cc e)
  done_is (Names k) e = absurd (cc e)
  done_is (File z k) e = absurd (cc e)
  done_is (Dir k) e = absurd (cc e)
  done_is (Synced u m) e = absurd (cc e)
  done_is (Fault f) e = absurd (cc e)

  not_done : is_done gone ≡ false → tells → MetFault all
  not_done off told = fault_kept asked Sync synced (fault_last s.asked (Unlink own) gone (by (gone_so.now_is told)))
    where
      by : IsBack o own s.written gone (tree_after o asked) → is_fault gone ≡ true
      by (inl (e, same)) = absurd (cc (off, ap is_done e))
      by (inr (fault, w)) = fault

  is_back : is_done gone ≡ true → tells → tree_after o asked ≡ o.tree
  is_back on told = by (gone_so.now_is told)
    where
      by : IsBack o own s.written gone (tree_after o asked) → tree_after o asked ≡ o.tree
      by (inl (e, same)) = same
      by (inr (fault, w)) = absurd (cc (sym fault ∙ ap is_fault (done_is gone on)))

  not_synced : is_done gone ≡ true → is_synced synced ≡ false → tells → MetFault all
  not_synced on off told =
      let due = due_last o.shape o.tree asked Sync synced (second.due told) in
      fault_last asked Sync synced (by ((put_laws.synced o.shape (tree_after o asked) synced due).1 (ap (space_refusal o.shape) (is_back on told) ∙ (fits told).room)))
    where
      by : ((u : ℕ) × (m : ℕ) × (synced ≡ Synced u m)) ⊎ (is_fault synced ≡ true) → is_fault synced ≡ true
      by (inl (u, m, e)) = absurd (cc (off, ap is_synced e))
      by (inr fault) = fault

  at_end : is_done gone ≡ true → tells → tree_after o all ≡ o.tree
  at_end on told =
      let due = due_last o.shape o.tree asked Sync synced (second.due told) in
      tree_more o asked Sync synced ∙ (put_laws.synced o.shape (tree_after o asked) synced due).0 ∙ is_back on told

  -- ---- the end

  kept_fault : ((r : Refusal) → why ≢ No r) → tells → MetFault all
  kept_fault not_no told = fault_kept asked Sync synced (fault_kept s.asked (Unlink own) gone (first_fault not_no told))
    where
      first_fault : ((r : Refusal) → why ≢ No r) → tells → MetFault s.asked
      first_fault not_no told = s.why.fault told not_no

  both : is_done gone ≡ true → (x : Reply) → why ≡ x → HasPut stands tells origin o path bytes (end_of_refusal x) v'
  both on (No r) e = ended_by (ends.Refused r) (λ told. (at_end on told, s.why.refused told r e))
  both on Done e = ended_by ends.Fault (kept_fault (λ r is. cc (sym e ∙ is)))
  both on (Count n) e = ended_by ends.Fault (kept_fault (λ r is. cc (sym e ∙ is)))
  both on Content e = ended_by ends.Fault (kept_fault (λ r is. cc (sym e ∙ is)))
  both on (Names k) e = ended_by ends.Fault (kept_fault (λ r is. cc (sym e ∙ is)))
  both on (File z k) e = ended_by ends.Fault (kept_fault (λ r is. cc (sym e ∙ is)))
  both on (Dir k) e = ended_by ends.Fault (kept_fault (λ r is. cc (sym e ∙ is)))
  both on (Synced u m) e = ended_by ends.Fault (kept_fault (λ r is. cc (sym e ∙ is)))
  both on (Fault f) e = ended_by ends.Fault (kept_fault (λ r is. cc (sym e ∙ is)))

  pub takes_back : HasPut stands tells origin o path bytes (end_of_back why gone synced) v'
  takes_back = by (is_done gone) refl (is_synced synced) refl
    where
      by : (a : Bool) → is_done gone ≡ a → (b : Bool) → is_synced synced ≡ b → HasPut stands tells origin o path bytes (end_of_back why gone synced) v'
      by true ea true eb = subst (λ (x : Bool × Bool). HasPut stands tells origin o path bytes (if x.0 && x.1 then end_of_refusal why else ends.Fault) v') (λ k. (sym ea k, sym eb k)) (both ea why refl)
      by true ea false eb = subst (λ (x : Bool × Bool). HasPut stands tells origin o path bytes (if x.0 && x.1 then end_of_refusal why else ends.Fault) v') (λ k. (sym ea k, sym eb k)) (ended_by ends.Fault (not_synced ea eb))
      by false ea b eb = subst (λ (x : Bool). HasPut stands tells origin o path bytes (if x && is_synced synced then end_of_refusal why else ends.Fault) v') (sym ea) (ended_by ends.Fault (not_done ea))
