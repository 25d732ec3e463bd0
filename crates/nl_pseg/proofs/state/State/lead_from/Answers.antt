use Rattle.std.proofs.Common.{◌≡◌, ◌⊎◌, ℕ, ◌-◌, ◌/◌, ◌==◌, if◌then◌else◌, length, map, insert, ap, subst, arith}
use Rattle.nl_blocks.specs.Table.{HasBlock, block_at}
use Rattle.nl_remap.specs.Table.{led, led_on, pair, place_of}
use Rattle.nl_pseg_names.specs.OldNames.{NameTable}
use Rattle.nl_pseg.specs.Steps.{IsAside}
use Rattle.nl_pseg.specs.Kept.{Kept, kept}
use Rattle.nl_pseg.proofs.LedFrom.{SetAside, from_formed, from_leads, from_tied, names_most, set_aside_is}
use Rattle.nl_pseg_names.proofs.Named.{few_names}
use Rattle.nl_pseg.proofs.state.State.lead_from.Goals as goal

pub set_aside-requires-clause-few : goal.set_aside-requires-clause-few
set_aside-requires-clause-few c has =
    let s = kept c.args.self.now in
    let b = c.args.name / c.pages.result in
    let most = names_most (block_at s.blocks b).state (length s.names.pairs) (λ j is. let e = c.requires.tied.named.waits b j has is in let f = few_names s.blocks.size b s.names.pairs in omega (arith, e, f)) in
    let few = c.len.ensures.table.few in
    let room = c.requires.room in
    omega (arith, most, few, room)

pub returns-clause-tied : goal.returns-clause-tied
returns-clause-tied c =
    let s = kept c.args.self.now in
    let m = kept c.set_aside.new.self in
    let r = c.requires in
    let at : c.args.name / c.pages.result ≡ c.args.name / s.blocks.size = ap (λ k. c.args.name / k) c.pages.ensures in
    let a : SetAside (c.args.name / s.blocks.size) s m = set_aside_is s r.formed r.tied r.none (c.args.name / s.blocks.size) m
    (subst (λ b. ((HasBlock s.blocks b → ⊥) × (m ≡ s)) ⊎ (HasBlock s.blocks b × IsAside b s m)) at c.set_aside.ensures.aside) in
    let e : m.names ≡ s.names = ap (λ (q : Kept). q.names) a.same in
    from_tied s r.formed r.tied c.args.name c.args.page r.fresh r.dead r.there m a c.add.new.self
    (subst (λ (q : NameTable). c.add.new.self ≡ record q { pairs = insert (map (led_on c.args.name c.args.page) q.pairs) (place_of (map (led_on c.args.name c.args.page) q.pairs) c.args.name) (pair c.args.name c.args.page); room = q.room - 1 }) e c.add.ensures.added)
    c.add.ensures.table r.room

pub returns-clause-led : goal.returns-clause-led
returns-clause-led c =
    let s = kept c.args.self.now in
    let m = kept c.set_aside.new.self in
    let r = c.requires in
    let at : c.args.name / c.pages.result ≡ c.args.name / s.blocks.size = ap (λ k. c.args.name / k) c.pages.ensures in
    let a : SetAside (c.args.name / s.blocks.size) s m = set_aside_is s r.formed r.tied r.none (c.args.name / s.blocks.size) m
    (subst (λ b. ((HasBlock s.blocks b → ⊥) × (m ≡ s)) ⊎ (HasBlock s.blocks b × IsAside b s m)) at c.set_aside.ensures.aside) in
    let e : m.names ≡ s.names = ap (λ (q : Kept). q.names) a.same in
    from_leads s r.formed r.tied c.args.name c.args.page r.fresh r.dead r.there m a c.add.new.self
    (subst (λ (q : NameTable). c.add.new.self ≡ record q { pairs = insert (map (led_on c.args.name c.args.page) q.pairs) (place_of (map (led_on c.args.name c.args.page) q.pairs) c.args.name) (pair c.args.name c.args.page); room = q.room - 1 }) e c.add.ensures.added)
    c.add.ensures.table r.room
    (subst (λ (q : NameTable). (other : ℕ) → led c.add.new.self.pairs other ≡ (if led q.pairs other == c.args.name then c.args.page else led q.pairs other)) e c.add.ensures.ways)

pub returns-clause-formed : goal.returns-clause-formed
returns-clause-formed c =
    let s = kept c.args.self.now in
    let m = kept c.set_aside.new.self in
    let r = c.requires in
    let at : c.args.name / c.pages.result ≡ c.args.name / s.blocks.size = ap (λ k. c.args.name / k) c.pages.ensures in
    let a : SetAside (c.args.name / s.blocks.size) s m = set_aside_is s r.formed r.tied r.none (c.args.name / s.blocks.size) m
    (subst (λ b. ((HasBlock s.blocks b → ⊥) × (m ≡ s)) ⊎ (HasBlock s.blocks b × IsAside b s m)) at c.set_aside.ensures.aside) in
    let e : m.names ≡ s.names = ap (λ (q : Kept). q.names) a.same in
    from_formed s r.formed r.tied c.args.name c.args.page r.fresh r.dead r.there m a c.add.new.self
    (subst (λ (q : NameTable). c.add.new.self ≡ record q { pairs = insert (map (led_on c.args.name c.args.page) q.pairs) (place_of (map (led_on c.args.name c.args.page) q.pairs) c.args.name) (pair c.args.name c.args.page); room = q.room - 1 }) e c.add.ensures.added)
    c.add.ensures.table r.room c.set_aside.ensures.formed
