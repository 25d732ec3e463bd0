use Rattle.std.proofs.Common.{◌≡◌, ℕ, ◌+◌, length, take, drop, refl, sym, ap, subst, ◌∙◌, List}
use Rattle.std.specs.Prelude.{min}
use Rattle.std.proofs.lemmas.List.{length-take, take_min}
use Rattle.nl_journal_commit.specs.Freeing.{FreesEach}
use Rattle.nl_field.specs.declared.pointer.Pointer.{Pointer}
use Rattle.nl_core.proofs.Freed.{drop_min}
use Rattle.nl_core.proofs.state.Core.settle.Goals as goal

pub returns-clause-settled : goal.returns-clause-settled
returns-clause-settled g c =
    let G = g.D.Counts in
    let s = c.args.self.now.device in
    let m = c.free_first.new.device in
    let items = c.args.self.now.freeing.items in
    let f = c.free_first.ensures in
    let a = c.acknowledge.ensures in
    let count : c.min-due.result ≡ min c.args.due (length items) = c.min-due.ensures ∙ ap (λ n. min c.args.due n) c.len.ensures.count in
    let taken : take c.min-due.result items ≡ take c.args.due items = ap (λ n. take n items) count ∙ take_min c.args.due items in
    record {
      between = m;
      frees = subst (λ (xs : List Pointer). FreesEach xs (G.names s) (G.names m)) taken f.freed;
      first_kept = f.kept;
      acknowledges = a.acknowledged;
      then_kept = a.kept;
      read_faults = a.read_faults ∙ f.read_faults;
      items = f.items ∙ ap (λ n. drop n items) count ∙ drop_min c.args.due items;
      room = f.room ∙ ap (λ n. c.args.self.now.freeing.room + n) (count ∙ sym (length-take c.args.due items));
      others = refl;
    }
