use Rattle.nl_pseg.proofs.Closed.{same_counted}
use Rattle.nl_pseg.specs.Steps.{NamesGoneFromSegment}
use Rattle.std.proofs.Common.{rules, ◌≡◌, inl, inr, ⊎_elim, ◌+◌, ◌-◌, ◌/◌, refl, sym, ◌∙◌, ap, subst, remove, length, arith}
use Rattle.std.proofs.lemmas.Bool.{cases_eq, true≢false}
use Rattle.nl_blocks.specs.Table.{HasBlock, after_erase, block_at, is_retired_state, names_of}
use Rattle.nl_remap.specs.Table.{IsOld, place_of}
use Rattle.nl_pseg_names.specs.OldNames.{NameTable}
use Rattle.nl_pseg.specs.Seen.{IsTied, IsPhysicalFormed, seen}
use Rattle.nl_remap.proofs.TableProofs.{IsOld-remove_back}
use Rattle.nl_pseg_blocks.specs.Uses.{use_in, Use}
use Rattle.nl_pseg.proofs.Dropped.{dropped_tied, formed_names, not_free_state}
use Rattle.nl_pseg.proofs.Dropping.{one_fewer}
use Rattle.nl_pseg.proofs.Gone.{gone_names}
use Rattle.nl_pseg_names.proofs.Named.{old_within}
use Rattle.nl_pseg_blocks.proofs.Tables.{use_here}
use Rattle.nl_pseg.specs.Kept.{kept, Kept}
use Rattle.nl_pseg.proofs.state.State.drop_name.Goals as goal

pub returns-then-not-drop_name-clause-tied : goal.returns-then-not-drop_name-clause-tied
returns-then-not-drop_name-clause-tied c =
    let s = kept c.args.self.now in
    let e : c.drop_name.new.self ≡ s.names = search rules in
    subst (λ (t : NameTable). IsTied (record s { names = t })) (sym e) c.requires.tied

pub returns-then-is_waiting-clause-formed : goal.returns-then-is_waiting-clause-formed
returns-then-is_waiting-clause-formed c =
    let s = kept c.args.self.now in
    let is = c.requires.formed in
    let retired = (c.is_waiting.ensures.yes c.if-is_waiting.true).1 in
    subst (λ (k : Kept). IsPhysicalFormed (record k { blocks = c.end_name.new.blocks; names = c.drop_name.new.self })) (same_counted c.args.self.now c.requires.formed c.requires.tied c.end_name.new.blocks c.end_name.ensures.fill)
    (formed_names s is c.end_name.new.blocks c.drop_name.new.self c.end_name.ensures.numbers c.end_name.ensures.kept c.end_name.ensures.marks
    (λ room. c.end_name.ensures.others s.active is.active_in (λ e. true≢false (sym retired ∙ (ap (λ b. is_retired_state (block_at s.blocks b).state) (sym e) ∙ ap is_retired_state (is.taken room)))) ∙ is.taken room))

pub returns-else-is_waiting-clause-formed : goal.returns-else-is_waiting-clause-formed
returns-else-is_waiting-clause-formed c =
    let s = kept c.args.self.now in
    let is = c.requires.formed in
    formed_names s is s.blocks c.drop_name.new.self (record { same_first = refl; same_size = refl; same_count = refl }) (λ b. refl) (record { same = λ p has. refl; rises = λ rising. rising }) is.taken

pub returns-then-is_waiting-clause-tied : goal.returns-then-is_waiting-clause-tied
returns-then-is_waiting-clause-tied c =
    let s = kept c.args.self.now in
    let is = c.requires.formed in
    let yes = c.is_waiting.ensures.yes c.if-is_waiting.true in
    let at : c.args.name / c.pages.result ≡ c.args.name / s.blocks.size = ap (λ n. c.args.name / n) c.pages.ensures in
    let old : IsOld s.names.pairs c.args.name = search rules in
    let taken : c.drop_name.new.self ≡ record s.names { pairs = remove s.names.pairs (place_of s.names.pairs c.args.name); room = s.names.room + 1 } = search rules in
    subst (λ (k : Kept). IsTied (record k { blocks = c.end_name.new.blocks; names = c.drop_name.new.self })) (same_counted c.args.self.now c.requires.formed c.requires.tied c.end_name.new.blocks c.end_name.ensures.fill)
    (dropped_tied s _ c.requires.tied c.args.name old is.some taken c.drop_name.ensures.table refl c.end_name.ensures.numbers (refl, refl) (refl, refl, refl)
    (λ b ne. c.end_name.ensures.uses b (λ e. ne (e ∙ at)))
    (λ b has. ⊎_elim
    (λ e. inr (e ∙ at, ap (λ k. is_retired_state (block_at s.blocks k).state) e ∙ yes.1, ap (λ k. (block_at c.end_name.new.blocks k).state) e ∙ (c.end_name.ensures.here ∙ ap (λ k. after_erase (names_of (block_at s.blocks k).state - 1)) (sym e))))
    (λ ne. inl (c.end_name.ensures.others b has ne, λ e. absurd (ne (e ∙ sym at))))
    (cases_eq b (c.args.name / c.pages.result)))
    (inr (subst (HasBlock s.blocks) at yes.0, ap (λ k. is_retired_state (block_at s.blocks k).state) (sym at) ∙ yes.1)))

pub returns-else-is_waiting-clause-tied : goal.returns-else-is_waiting-clause-tied
returns-else-is_waiting-clause-tied c =
    let s = kept c.args.self.now in
    let is = c.requires.formed in
    let at : c.args.name / c.pages.result ≡ c.args.name / s.blocks.size = ap (λ n. c.args.name / n) c.pages.ensures in
    let old : IsOld s.names.pairs c.args.name = search rules in
    let taken : c.drop_name.new.self ≡ record s.names { pairs = remove s.names.pairs (place_of s.names.pairs c.args.name); room = s.names.room + 1 } = search rules in
    dropped_tied s _ c.requires.tied c.args.name old is.some taken c.drop_name.ensures.table refl (record { same_first = refl; same_size = refl; same_count = refl }) (refl, refl) (refl, refl, refl)
    (λ b ne. refl)
    (λ b has. inl (refl, λ e. ap (λ k. is_retired_state (block_at s.blocks k).state) (e ∙ sym at) ∙ c.is_waiting.ensures.no c.if-is_waiting.false (subst (HasBlock s.blocks) (e ∙ sym at) has)))
    (inl (λ b. refl))

pub returns-then-not-drop_name-clause-gone : goal.returns-then-not-drop_name-clause-gone
returns-then-not-drop_name-clause-gone c =
    let s = kept c.args.self.now in
    let e : c.drop_name.new.self ≡ s.names = search rules in
    gone_names s s.blocks c.drop_name.new.self (record { same_first = refl; same_size = refl; same_count = refl }) (λ b. refl) (λ b. refl) (λ b free. free)
    (λ m old. subst (λ (t : NameTable). IsOld t.pairs m) e old)
    (let n = ap (λ (t : NameTable). length t.pairs) e in omega (arith, n))

pub returns-else-is_waiting-clause-gone : goal.returns-else-is_waiting-clause-gone
returns-else-is_waiting-clause-gone c =
    let s = kept c.args.self.now in
    let old : IsOld s.names.pairs c.args.name = search rules in
    let taken : c.drop_name.new.self ≡ record s.names { pairs = remove s.names.pairs (place_of s.names.pairs c.args.name); room = s.names.room + 1 } = search rules in
    gone_names s s.blocks c.drop_name.new.self (record { same_first = refl; same_size = refl; same_count = refl }) (λ b. refl) (λ b. refl) (λ b free. free)
    (λ m is. IsOld-remove_back s.names.pairs (place_of s.names.pairs c.args.name) m (old_within s.names.pairs c.args.name c.requires.tied.named.remap old) (subst (λ (t : NameTable). IsOld t.pairs m) taken is))
    (let n = one_fewer s.names.pairs c.drop_name.new.self.pairs c.args.name c.requires.tied.named.remap old (ap (λ (t : NameTable). t.pairs) taken) in omega (arith, n))

pub returns-then-is_waiting-clause-gone : goal.returns-then-is_waiting-clause-gone
returns-then-is_waiting-clause-gone c =
    let s = kept c.args.self.now in
    let block = c.args.name / c.pages.result in
    let yes = c.is_waiting.ensures.yes c.if-is_waiting.true in
    let old : IsOld s.names.pairs c.args.name = search rules in
    let taken : c.drop_name.new.self ≡ record s.names { pairs = remove s.names.pairs (place_of s.names.pairs c.args.name); room = s.names.room + 1 } = search rules in
    subst (λ (k : Kept). NamesGoneFromSegment (seen s) (seen (record k { blocks = c.end_name.new.blocks; names = c.drop_name.new.self }))) (same_counted c.args.self.now c.requires.formed c.requires.tied c.end_name.new.blocks c.end_name.ensures.fill)
    (gone_names s c.end_name.new.blocks c.drop_name.new.self c.end_name.ensures.numbers c.end_name.ensures.kept c.end_name.ensures.wears
    (λ b free. ⊎_elim
    (λ e. absurd (true≢false (sym (ap (λ k. (use_in s.blocks k).is_free) (sym e) ∙ free) ∙ (ap (λ (u : Use). u.is_free) (use_here s.blocks block yes.0) ∙ not_free_state (block_at s.blocks block).state yes.1))))
    (λ ne. ap (λ (u : Use). u.is_free) (c.end_name.ensures.uses b ne) ∙ free)
    (cases_eq b block))
    (λ m is. IsOld-remove_back s.names.pairs (place_of s.names.pairs c.args.name) m (old_within s.names.pairs c.args.name c.requires.tied.named.remap old) (subst (λ (t : NameTable). IsOld t.pairs m) taken is))
    (let n = one_fewer s.names.pairs c.drop_name.new.self.pairs c.args.name c.requires.tied.named.remap old (ap (λ (t : NameTable). t.pairs) taken) in omega (arith, n)))
