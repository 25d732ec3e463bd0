use Rattle.std.proofs.Common.{◌≡◌, ⊎_elim, refl, sym, ◌∙◌, ap, subst}
use Rattle.std.proofs.lemmas.Bool.{OnTrue_at, cases_Bool, true≢false}
use Rattle.nl_remap.specs.Table.{IsOld, beside, led}
use Rattle.nl_remap.specs.declared.links.Link.{Link}
use Rattle.nl_remap.proofs.Ways.{led_has}
use Rattle.nl_pseg.specs.Seen.{seen}
use Rattle.nl_pseg_blocks.specs.Uses.{use_in}
use Rattle.nl_pseg.proofs.Ended.{gone_none, gone_then}
use Rattle.nl_pseg_blocks.proofs.Tables.{free_kept}
use Rattle.nl_pseg.specs.Kept.{kept}
use Rattle.nl_pseg.proofs.state.State.drop_names.Goals as goal

pub loop-name-init : goal.loop-name-init
loop-name-init c =
    let s = kept c.args.self.now in
    record {
      formed = c.requires.formed;
      tied = c.requires.tied;
      beside = refl;
      held = refl;
      gone = gone_none (seen s) (λ b used. ⊎_elim (λ free. absurd (true≢false (sym (free_kept s.blocks b free) ∙ used))) (λ no. no) (cases_Bool (use_in s.blocks b).is_free));
    }

pub loop-name-preserved : goal.loop-name-preserved
loop-name-preserved c =
    let s = c.loop-name.self in
    let inv = c.loop-name.invariant in
    let has = c.in-Some.ensures.some in
    let old : IsOld s.names.pairs c.in-Some.name = (has.0, has.1, ap (λ (l : Link). l.from) has.2) in
    let d = c.drop_name.ensures in
    let to : led s.names.pairs c.in-Some.name ≡ c.args.target = led_has s.names.pairs c.in-Some.name c.args.target inv.tied.named.remap has in
    record {
      formed = d.formed;
      tied = d.tied;
      beside = subst (λ t. beside (kept c.drop_name.new.self).names.pairs t ≡ beside s.names.pairs t) to (OnTrue_at (d.found.1 old) d.beside) ∙ inv.beside;
      held = d.held ∙ inv.held;
      gone = gone_then inv.gone d.gone;
    }
