use Rattle.std.proofs.Common.{◌≡◌, ◌+◌, length, sym, subst}
use Rattle.std.specs.Int.{div_ceil}
use Rattle.std.specs.Prelude.{IsTrue}
use Rattle.nl_tree.specs.Event.{is_whole}
use Rattle.std.proofs.Common.{inr}
use Rattle.nl_calls_bytes.specs.Ranges.{from_of, len_of, path_of}
use Rattle.nl_volume_stage.specs.StagedPages.{IsTagOfCall}
use Rattle.nl_volume_stage.specs.Staging.{IfPage, IsNextTag, IsNextIn}
use Rattle.nl_volume_stage.proofs.Left.{none_whole}
use Rattle.nl_volume_stage.proofs.Given.{if_page, next_fill, next_write}
use Rattle.nl_calls_steps.proofs.ReadCores.{reads-none}
use Rattle.nl_volume_stage.proofs.next.next_of.Goals as goal

pub returns-in-Write-clause-page : goal.returns-in-Write-clause-page
returns-in-Write-clause-page g c =
    let w = c.in-Write in
    if_page c.next_in.result (λ tag. (tag.index ≡ div_ceil w.from 4096 + c.args.place) × IsTrue (is_whole w.from (length w.bytes) tag.index)) (IsNextTag c.args.call.now c.args.place)
    (λ tag at. next_write c.args.call.now w.path w.from w.bytes c.args.place tag w.is at)
    (subst (λ bytes. IfPage c.next_in.result (λ tag. (tag.index ≡ div_ceil w.from 4096 + c.args.place) × IsTrue (is_whole w.from (length bytes) tag.index))) c.bytes.ensures c.next_in.ensures.page)

pub returns-in-Fill-clause-page : goal.returns-in-Fill-clause-page
returns-in-Fill-clause-page g c =
    let w = c.in-Fill in
    if_page c.next_in-in-Fill.result (λ tag. (tag.index ≡ div_ceil w.from 4096 + c.args.place) × IsTrue (is_whole w.from w.len tag.index)) (IsNextTag c.args.call.now c.args.place)
    (λ tag at. next_fill c.args.call.now w.path w.from w.len w.field-3 c.args.place tag w.is at)
    (subst (λ len. IfPage c.next_in-in-Fill.result (λ tag. (tag.index ≡ div_ceil w.from 4096 + c.args.place) × IsTrue (is_whole w.from len tag.index))) c.from.ensures c.next_in-in-Fill.ensures.page)

pub returns-in_default : goal.returns-in_default
returns-in_default g c =
    let G = g.D.Counts in
    record {
      core = c.requires.core;
      same = reads-none G c.args.core.now c.requires.core;
      page = tt;
      own = tt;
      left = inr (inr (none_whole c.args.call.now c.args.place c.in_default.not-Write c.in_default.not-Fill));
      fault = λ no. absurd (cc no);
      lost = λ w f no. absurd (cc no);
    }

pub returns-in-Write-clause-left : goal.returns-in-Write-clause-left
returns-in-Write-clause-left g c =
    let G = g.D.Counts in
    let w = c.in-Write in
    subst (λ call. IsNextIn G c.args.core.now (path_of call) (from_of call) (len_of call) c.args.place c.next_in.result) (sym w.is)
    (subst (λ bytes. IsNextIn G c.args.core.now w.path w.from (length bytes) c.args.place c.next_in.result) c.bytes.ensures c.next_in.ensures.left)

pub returns-in-Fill-clause-left : goal.returns-in-Fill-clause-left
returns-in-Fill-clause-left g c =
    let G = g.D.Counts in
    let w = c.in-Fill in
    subst (λ call. IsNextIn G c.args.core.now (path_of call) (from_of call) (len_of call) c.args.place c.next_in-in-Fill.result) (sym w.is)
    (subst (λ len. IsNextIn G c.args.core.now w.path w.from len c.args.place c.next_in-in-Fill.result) c.from.ensures c.next_in-in-Fill.ensures.left)

pub returns-in-Write-clause-own : goal.returns-in-Write-clause-own
returns-in-Write-clause-own g c = subst (λ call. IfPage c.next_in.result (IsTagOfCall g.D.Counts c.args.core.now call)) (sym c.in-Write.is) c.next_in.ensures.own

pub returns-in-Fill-clause-own : goal.returns-in-Fill-clause-own
returns-in-Fill-clause-own g c = subst (λ call. IfPage c.next_in-in-Fill.result (IsTagOfCall g.D.Counts c.args.core.now call)) (sym c.in-Fill.is) c.next_in-in-Fill.ensures.own
