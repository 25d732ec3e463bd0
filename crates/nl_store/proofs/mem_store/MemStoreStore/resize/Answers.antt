use Rattle.std.proofs.Common.{inl, inr, refl, ◌∙◌, subst}
use Rattle.nl_store.specs.Store.{Resized}
use Rattle.nl_store.specs.declared.past.Change.TheVariants as call
use Rattle.nl_store.proofs.Kept.{noted_by, continues}
use Rattle.nl_store.proofs.mem_store.MemStoreStore.resize.Goals as goal

pub returns-in_default-size_to-clause-crash : goal.returns-in_default-size_to-clause-crash
returns-in_default-size_to-clause-crash c =
    let s = c.args.self.now in
    let t = c.taken-done.ensures in
    let n = c.in-Ok.ensures in
    continues (call.Resize c.args.size) s _ (noted_by (call.Resize c.args.size) s c.taken-done.new.self c.note.new.self _ t.bytes t.past t.moment t.since n.past n.moment n.since refl refl refl)
    (Resized c.args.size s.bytes.items) (λ b may. may) (inr (c.in_default-size_to.ensures.err ∙ n.bytes ∙ t.bytes))

pub returns-clause-crash : goal.returns-clause-crash
returns-clause-crash c =
    let s = c.args.self.now in
    let t = c.taken-done.ensures in
    let n = c.in-Ok.ensures in
    continues (call.Resize c.args.size) s _ (noted_by (call.Resize c.args.size) s c.taken-done.new.self c.note.new.self _ t.bytes t.past t.moment t.since n.past n.moment n.since refl refl refl)
    (Resized c.args.size s.bytes.items) (λ b may. may) (inl (subst (λ o. Resized c.args.size o c.size_to.new.bytes.items) (n.bytes ∙ t.bytes) c.in-Ok-size_to.ensures.ok))
