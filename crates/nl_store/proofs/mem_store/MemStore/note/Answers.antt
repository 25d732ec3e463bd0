use Rattle.std.proofs.Common.{◌≡◌, List, IsTrue, sym, subst, refl, rules}
use Rattle.std.proofs.Math.Nat.{le_refl}
use Rattle.nl_store.specs.PastBytes.{none_later}
use Rattle.nl_store.specs.declared.past.Past.{Past}
use Rattle.nl_store.proofs.Kept.{ends_push}
use Rattle.nl_store.proofs.mem_store.MemStore.note.Goals as goal

pub invariant_of-self-2 : goal.invariant_of-self-2
invariant_of-self-2 c =
    let s = c.args.self.now in
    let p : Past = record { call = c.args.call; moment = s.moment; bytes = c.in_ok-bytes.bytes; since = s.since } in
    record {
      began = le_refl s.moment;
      ends = subst (λ (l : List Past). IsTrue (none_later s.moment l)) (sym c.in_ok-push.ensures.items) (ends_push s.moment s.past.items p s.ends (le_refl s.moment));
    }

pub returns-clause-past : goal.returns-clause-past
returns-clause-past c =
    let s = c.args.self.now in
    let p : Past = record { call = c.args.call; moment = s.moment; bytes = c.in_ok-bytes.bytes; since = s.since } in
    let same : p.bytes.items ≡ s.bytes.items = search rules in
    (p, refl, refl, same, refl, c.in_ok-push.ensures.items)
