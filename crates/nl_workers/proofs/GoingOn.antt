-- Seats that go on.
use Rattle.std.proofs.Common.{◌≡◌, [], ◌∷◌, ◌++◌, refl, sym, ap, ◌∙◌, subst}
use Rattle.std.proofs.lemmas.List.{append-nil}
use Rattle.std.specs.Prelude.{Contains}
use Rattle.nl_turns.proofs.Histories.{prefix_trans}
use Rattle.nl_turns.specs.Seat.{SeatState, passed_by, NoNumberBeyond}
use Rattle.nl_turns.specs.declared.entry.Entry.{Entry}
use Rattle.nl_workers.specs.Placed.{HasPassed, SeatAdvances}

pub goes_self : (seat : SeatState) → SeatAdvances seat seat
goes_self seat = record { same = refl; grows = ([], append-nil seat.seen); joined = λ n h. refl; numbers = λ z h. h }

pub goes_trans : (a b c : SeatState) → SeatAdvances a b → SeatAdvances b c → SeatAdvances a c
goes_trans a b c p q = record {
  same = q.same ∙ (λ i. record (p.same i) { seen = c.seen });
  grows = prefix_trans a.seen b.seen c.seen p.grows q.grows;
  joined = λ n h. q.joined n (subst (λ (z : SeatState). Contains z.joined n) (sym p.same) h) ∙ p.joined n h;
  numbers = λ z h.
      let zero : b.number ≡ 0 = ap (λ (y : SeatState). y.number) p.same ∙ z in
      let next : b.next ≡ a.next = ap (λ (y : SeatState). y.next) p.same in
      let mid : NoNumberBeyond b.next b.seen = subst (λ n. NoNumberBeyond n b.seen) (sym next) (p.numbers z h) in
      subst (λ n. NoNumberBeyond n c.seen) next (q.numbers zero mid);
}

pub passed_seen : (s s' : SeatState) (e : Entry) (p : HasPassed s e s') → s'.seen ≡ p.mid ++ passed_by s.number e ∷ []
passed_seen s s' e p = ap (λ (z : SeatState). z.seen) p.same

pub passed_goes : (s s' : SeatState) (e : Entry) → HasPassed s e s' → SeatAdvances s s'
passed_goes s s' e p =
    let seen_is = passed_seen s s' e p in
    record {
      same = p.same ∙ (λ k. record s { seen = sym seen_is k });
      grows = prefix_trans s.seen p.mid s'.seen p.grows (passed_by s.number e ∷ [], sym seen_is);
      joined = p.joined;
      numbers = λ z _. p.numbers z;
    }
