-- One more call joins those that a store in memory has noted.
use Rattle.std.proofs.Common.{◌≡◌, ◌⊎◌, inl, inr, ⊎_elim, ℕ, ◌≤◌, nat_le, List, [], ◌∷◌, ◌++◌, Bool, ◌&&◌, IsTrue, refl, sym, ◌∙◌, ap, subst, arith, rules}
use Rattle.nl_store.specs.PastBytes.{MayLeave, LeftByCall, WasLeft, none_later}
use Rattle.nl_store.specs.declared.past.Past.{Past}
use Rattle.nl_store.specs.declared.past.Change.{Change}
use Rattle.nl_store.specs.declared.mem_store.MemStore.{MemStore}
use Rattle.nl_store.specs.Memory.{left_of, moment_of}
use Rattle.nl_store.specs.Store.{KillLeaves}

pub keeps : (past : List Past) (p : Past) (m : ℕ) (b : List ℕ) → WasLeft past m b → WasLeft (past ++ p ∷ []) m b
keeps [] p m b was = absurd was
keeps (q ∷ past) p m b (inl here) = inl here
keeps (q ∷ past) p m b (inr older) = inr (keeps past p m b older)

pub adds : (past : List Past) (p : Past) (m : ℕ) (b : List ℕ) → WasLeft (past ++ p ∷ []) m b → WasLeft past m b ⊎ LeftByCall p m b
adds [] p m b (inl here) = inr here
adds [] p m b (inr none) = absurd none
adds (q ∷ past) p m b (inl here) = inl (inl here)
adds (q ∷ past) p m b (inr older) = ⊎_elim (λ was. inl (inr was)) (λ new. inr new) (adds past p m b older)

pub newest : (past : List Past) (p : Past) (m : ℕ) (b : List ℕ) → LeftByCall p m b → WasLeft (past ++ p ∷ []) m b
newest [] p m b here = inl here
newest (q ∷ past) p m b here = inr (newest past p m b here)

both : (a b : Bool) → IsTrue a → IsTrue b → IsTrue (a && b)
both a b h k = search rules

left_of_both : (a b : Bool) → IsTrue (a && b) → IsTrue a
left_of_both a b h = search rules

right_of_both : (a b : Bool) → IsTrue (a && b) → IsTrue b
right_of_both a b h = search rules

order : (a b : ℕ) → IsTrue (nat_le a b) → a ≤ b
order a b le = search rules

is_order : (a b : ℕ) → a ≤ b → IsTrue (nat_le a b)
is_order a b le = search rules

pub ends_push : (now : ℕ) (past : List Past) (p : Past) → IsTrue (none_later now past) → p.moment ≤ now → IsTrue (none_later now (past ++ p ∷ []))
ends_push now [] p ends le = both (nat_le p.moment now) (none_later now []) (is_order p.moment now le) refl
ends_push now (q ∷ past) p ends le =
    both (nat_le q.moment now) (none_later now (past ++ p ∷ [])) (left_of_both (nat_le q.moment now) (none_later now past) ends)
    (ends_push now past p (right_of_both (nat_le q.moment now) (none_later now past) ends) le)

pub ends_later : (now later : ℕ) (past : List Past) → now ≤ later → IsTrue (none_later now past) → IsTrue (none_later later past)
ends_later now later [] le ends = refl
ends_later now later (q ∷ past) le ends =
    let first : q.moment ≤ now = order q.moment now (left_of_both (nat_le q.moment now) (none_later now past) ends) in
    both (nat_le q.moment later) (none_later later past) (is_order q.moment later (omega arith))
    (ends_later now later past le (right_of_both (nat_le q.moment now) (none_later now past) ends))

-- a call was noted
pub record Noted (call : Change) (old new : MemStore) : Type 0 where
  pub p : Past
  pub call_is : p.call ≡ call
  pub moment_is : p.moment ≡ old.moment
  pub bytes_is : p.bytes.items ≡ old.bytes.items
  pub since_is : p.since ≡ old.since
  pub past_is : new.past.items ≡ old.past.items ++ p ∷ []
  pub same_moment : new.moment ≡ old.moment
  pub since_now : new.since ≡ old.moment

module _ (call : Change) (old new : MemStore) (noted : Noted call old new) where
  within : (b : List ℕ) → MayLeave noted.p.call noted.p.bytes.items b → MayLeave call old.bytes.items b
  within b may = subst (λ k. MayLeave k old.bytes.items b) noted.call_is (subst (λ o. MayLeave noted.p.call o b) noted.bytes_is may)

  back : (b : List ℕ) → MayLeave call old.bytes.items b → MayLeave noted.p.call noted.p.bytes.items b
  back b may = subst (λ o. MayLeave noted.p.call o b) (sym noted.bytes_is) (subst (λ k. MayLeave k old.bytes.items b) (sym noted.call_is) may)

  pub reaches : (b : List ℕ) → MayLeave call old.bytes.items b → WasLeft new.past.items old.moment b
  reaches b may = subst (λ (l : List Past). WasLeft l old.moment b) (sym noted.past_is) (newest old.past.items noted.p old.moment b (inr (sym noted.moment_is, back b may)))

  pub continues : (P : List ℕ → Type 0) → ((b : List ℕ) → MayLeave call old.bytes.items b → P b) → P new.bytes.items ⊎ (new.bytes.items ≡ old.bytes.items) → KillLeaves moment_of left_of P old new
  continues P by now = record {
    same_moment = noted.same_moment;
    each = each;
    keeps = kept;
  }
    where
      here : (m : ℕ) (b : List ℕ) → m ≡ old.moment → b ≡ new.bytes.items → P new.bytes.items ⊎ (new.bytes.items ≡ old.bytes.items) → left_of old m b ⊎ ((m ≡ old.moment) × P b)
      here m b at is (inl p) = inr (at, subst P (sym is) p)
      here m b at is (inr same) = let began : old.since ≤ old.moment = old.began in inl (inl (omega (arith, at, began), omega (arith, at), is ∙ same))

      each : (m : ℕ) (b : List ℕ) → left_of new m b → left_of old m b ⊎ ((m ≡ old.moment) × P b)
      each m b (inl stands) =
          let since : new.since ≤ m = stands.0 in
          let until : m ≤ new.moment = stands.1 in
          let at : m ≡ old.moment = omega (arith, since, until, noted.since_now, noted.same_moment) in
          here m b at stands.2 now
      each m b (inr was) = elim (adds old.past.items noted.p m b (subst (λ (l : List Past). WasLeft l m b) noted.past_is was)) [
        | inl older ↦ inl (inr older)
        | inr this ↦ elim this [
          | inl before ↦
              let since : noted.p.since ≤ m = before.0 in
              let until : m ≤ noted.p.moment = before.1 in
              inl (inl (omega (arith, since, noted.since_is), omega (arith, until, noted.moment_is), before.2 ∙ noted.bytes_is))
          | inr cut ↦ inr (cut.0 ∙ noted.moment_is, by b (within b cut.1))
        ]
      ]

      kept : (m : ℕ) (b : List ℕ) → left_of old m b → left_of new m b
      kept m b (inl stands) =
          let since : old.since ≤ m = stands.0 in
          let until : m ≤ old.moment = stands.1 in
          inr (subst (λ (l : List Past). WasLeft l m b) (sym noted.past_is) (newest old.past.items noted.p m b
          (inl (omega (arith, since, noted.since_is), omega (arith, until, noted.moment_is), stands.2 ∙ sym noted.bytes_is))))
      kept m b (inr was) = inr (subst (λ (l : List Past). WasLeft l m b) (sym noted.past_is) (keeps old.past.items noted.p m b was))

-- nothing was noted, and nothing written
pub untouched : (P : List ℕ → Type 0) (old new : MemStore) → new.bytes.items ≡ old.bytes.items → new.past.items ≡ old.past.items → new.moment ≡ old.moment → new.since ≡ old.since → KillLeaves moment_of left_of P old new
untouched P old new bytes past moment since = record {
  same_moment = moment;
  each = λ m b l. inl (⊎_elim (λ s. let from : new.since ≤ m = s.0 in let until : m ≤ new.moment = s.1 in inl (omega (arith, from, since), omega (arith, until, moment), s.2 ∙ bytes)) (λ w. inr (subst (λ (l : List Past). WasLeft l m b) past w)) l);
  keeps = λ m b l. ⊎_elim (λ s. let from : old.since ≤ m = s.0 in let until : m ≤ old.moment = s.1 in inl (omega (arith, from, since), omega (arith, until, moment), s.2 ∙ sym bytes)) (λ w. inr (subst (λ (l : List Past). WasLeft l m b) (sym past) w)) l;
}

-- A call was noted, after the plan said what becomes of it, and bytes were written after it.
pub noted_by : (call : Change) (old mid after new : MemStore) → mid.bytes.items ≡ old.bytes.items → mid.past.items ≡ old.past.items → mid.moment ≡ old.moment → mid.since ≡ old.since
    → (p : Past) × (p.call ≡ call) × (p.moment ≡ mid.moment) × (p.bytes.items ≡ mid.bytes.items) × (p.since ≡ mid.since) × (after.past.items ≡ mid.past.items ++ p ∷ [])
    → after.moment ≡ mid.moment → after.since ≡ mid.moment
    → new.past.items ≡ after.past.items → new.moment ≡ after.moment → new.since ≡ after.since
    → Noted call old new
noted_by call old mid after new bytes past moment since noted after_moment after_since new_past new_moment new_since = record {
  p = noted.0;
  call_is = noted.1;
  moment_is = noted.2 ∙ moment;
  bytes_is = noted.3 ∙ bytes;
  since_is = noted.4 ∙ since;
  past_is = new_past ∙ noted.5 ∙ ap (λ (l : List Past). l ++ noted.0 ∷ []) past;
  same_moment = new_moment ∙ after_moment ∙ moment;
  since_now = new_since ∙ after_since ∙ moment;
}
