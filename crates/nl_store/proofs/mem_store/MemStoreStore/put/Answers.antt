use Rattle.std.proofs.Common.{◌≡◌, List, ℕ, inl, inr, refl, sym, ◌∙◌, subst, rules}
use Rattle.nl_store.specs.Store.{BytesPut, FrontPut}
use Rattle.nl_store.specs.declared.past.Change.TheVariants as call
use Rattle.nl_store.proofs.Laying.{put_front}
use Rattle.nl_store.proofs.Kept.{noted_by, continues, reaches}
use Rattle.nl_store.proofs.mem_store.MemStoreStore.put.Goals as goal

pub returns-in_default-put_over-clause-crash : goal.returns-in_default-put_over-clause-crash
returns-in_default-put_over-clause-crash c =
    let s = c.args.self.now in
    let t = c.taken-count.ensures in
    let n = c.in-Ok-note.ensures in
    let copied : c.in-Ok.copy.items ≡ c.args.from.now = search rules in
    let same : c.put_over.new.bytes.items ≡ s.bytes.items = c.in_default-put_over.ensures.err ∙ n.bytes ∙ t.bytes in
    continues (call.Put c.args.at c.in-Ok.copy) s _ (noted_by (call.Put c.args.at c.in-Ok.copy) s c.taken-count.new.self c.note.new.self _ t.bytes t.past t.moment t.since n.past n.moment n.since refl refl refl)
    (FrontPut c.args.at c.args.from.now s.bytes.items) (λ b may. subst (λ (l : List ℕ). FrontPut c.args.at l s.bytes.items b) copied may) (inr same)

pub returns-then-done-clause-crash : goal.returns-then-done-clause-crash
returns-then-done-clause-crash c =
    let s = c.args.self.now in
    let t = c.taken-count.ensures in
    let n = c.in-Ok-note.ensures in
    let copied : c.in-Ok.copy.items ≡ c.args.from.now = search rules in
    let put = put_front c.args.at c.taken-count.result.0 c.args.from.now c.note.new.self.bytes.items c.put_over.new.bytes.items t.within c.in-Ok-put_over.ensures.ok in
    let over = subst (λ (o : List ℕ). BytesPut c.args.at c.taken-count.result.0 c.args.from.now o c.put_over.new.bytes.items) (n.bytes ∙ t.bytes) put in
    continues (call.Put c.args.at c.in-Ok.copy) s _ (noted_by (call.Put c.args.at c.in-Ok.copy) s c.taken-count.new.self c.note.new.self _ t.bytes t.past t.moment t.since n.past n.moment n.since refl refl refl)
    (FrontPut c.args.at c.args.from.now s.bytes.items) (λ b may. subst (λ (l : List ℕ). FrontPut c.args.at l s.bytes.items b) copied may) (inl (c.taken-count.result.0, t.within, over))

pub returns-then-done-clause-reached : goal.returns-then-done-clause-reached
returns-then-done-clause-reached c tells done b may =
    let s = c.args.self.now in
    let t = c.taken-count.ensures in
    let n = c.in-Ok-note.ensures in
    let copied : c.in-Ok.copy.items ≡ c.args.from.now = search rules in
    inr (reaches (call.Put c.args.at c.in-Ok.copy) s c.note.new.self (noted_by (call.Put c.args.at c.in-Ok.copy) s c.taken-count.new.self c.note.new.self c.note.new.self t.bytes t.past t.moment t.since n.past n.moment n.since refl refl refl)
    b (subst (λ (l : List ℕ). FrontPut c.args.at l s.bytes.items b) (sym copied) may))

pub returns-else-done-clause-crash : goal.returns-else-done-clause-crash
returns-else-done-clause-crash c =
    let s = c.args.self.now in
    let t = c.taken-count.ensures in
    let n = c.in-Ok-note.ensures in
    let copied : c.in-Ok.copy.items ≡ c.args.from.now = search rules in
    let put = put_front c.args.at c.taken-count.result.0 c.args.from.now c.note.new.self.bytes.items c.put_over.new.bytes.items t.within c.in-Ok-put_over.ensures.ok in
    let over = subst (λ (o : List ℕ). BytesPut c.args.at c.taken-count.result.0 c.args.from.now o c.put_over.new.bytes.items) (n.bytes ∙ t.bytes) put in
    continues (call.Put c.args.at c.in-Ok.copy) s _ (noted_by (call.Put c.args.at c.in-Ok.copy) s c.taken-count.new.self c.note.new.self _ t.bytes t.past t.moment t.since n.past n.moment n.since refl refl refl)
    (FrontPut c.args.at c.args.from.now s.bytes.items) (λ b may. subst (λ (l : List ℕ). FrontPut c.args.at l s.bytes.items b) copied may) (inl (c.taken-count.result.0, t.within, over))
