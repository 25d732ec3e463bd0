use Rattle.nl_blocks.specs.Table.{block_at, dead_count}
use Rattle.nl_pseg.proofs.Small.{left_some, left_zero, lands_some}
use Rattle.nl_pseg.proofs.MoveAnswers.{moves_copied, moves_copied_on, nothing_copied, nothing_copied_on}
use Rattle.std.proofs.Common.{◌≡◌, inr, Some, refl, sym, ◌∙◌, ap, arith}
use Rattle.nl_pseg.specs.Segment.{InVictim, held_at}
use Rattle.nl_pseg.specs.Seen.{seen}
use Rattle.nl_pseg.proofs.Left.{left_is, none_live, some_live}
use Rattle.nl_pseg.proofs.Looked.{formed_looked, tied_looked}
use Rattle.nl_pseg.proofs.MoveSteps.{nothing_counts}
use Rattle.nl_pseg.specs.Kept.{kept}
use Rattle.nl_pseg.proofs.Tries.{still_spends}
use Rattle.nl_pseg.specs.declared.cleaned.Copied.TheVariants.{Nothing}
use Rattle.nl_pseg.proofs.state.State.copy_one.Goals as goal

pub first_live-requires-clause-has : goal.first_live-requires-clause-has
first_live-requires-clause-has g c = (c.requires.consistent.tied.phases.victim_in c.in-Some.victim c.in-Some.is).0

pub returns-in_default-first_live-clause-nothing : goal.returns-in_default-first_live-clause-nothing
returns-in_default-first_live-clause-nothing g c =
    let s = kept c.args.self.now in
    let block = c.in-Some.victim in
    let has = (c.requires.consistent.tied.phases.victim_in block c.in-Some.is).0 in
    let all = none_live s c.requires.consistent.formed c.count.ensures.table block has c.in_default-first_live.ensures.none in
    let left = left_is s block has c.in-Some.is in (λ e. left_zero all left, λ none. refl)

pub move_page-requires-clause-room : goal.move_page-requires-clause-room
move_page-requires-clause-room g c =
    let s = kept c.args.self.now in
    let block = c.in-Some.victim in
    let has = (c.requires.consistent.tied.phases.victim_in block c.in-Some.is).0 in
    let before = c.in-Some-first_live.before in
    let at = c.in-Some-first_live.ensures.some.0 in
    let live : held_at (seen s) before ≡ Some c.in-Some-live_on.held = sym c.live_on.ensures ∙ c.in-Some-live_on.is in
    let few = some_live s c.requires.consistent.formed c.count.ensures.table block has before c.in-Some-live_on.held at live in
    let left = left_is s block has c.in-Some.is in
    lands_some (dead_count (block_at s.blocks block)) few left c.requires.lands

pub returns-clause-nothing : goal.returns-clause-nothing
returns-clause-nothing g c =
    let s = kept c.args.self.now in
    let block = c.in-Some.victim in
    let has = (c.requires.consistent.tied.phases.victim_in block c.in-Some.is).0 in
    let before = c.in-Some-first_live.before in
    let at = c.in-Some-first_live.ensures.some.0 in
    let live : held_at (seen s) before ≡ Some c.in-Some-live_on.held = sym c.live_on.ensures ∙ c.in-Some-live_on.is in
    let few = some_live s c.requires.consistent.formed c.count.ensures.table block has before c.in-Some-live_on.held at live in
    let left = left_is s block has c.in-Some.is in
    (λ e. absurd (c.move_page.ensures.nothing e), λ none. absurd (left_some (dead_count (block_at s.blocks block)) few left none))

pub first_live-requires-clause-formed : goal.first_live-requires-clause-formed
first_live-requires-clause-formed g c = c.requires.consistent.formed

pub move_page-requires-clause-fits : goal.move_page-requires-clause-fits
move_page-requires-clause-fits g c = c.requires.fits

pub move_page-requires-clause-victim : goal.move_page-requires-clause-victim
move_page-requires-clause-victim g c = c.in-Some.is ∙ ap (λ b. Some b) (sym c.in-Some-first_live.ensures.some.0)

pub move_page-requires-clause-live : goal.move_page-requires-clause-live
move_page-requires-clause-live g c = sym c.live_on.ensures ∙ c.in-Some-live_on.is

pub move_page-requires-clause-segment : goal.move_page-requires-clause-segment
move_page-requires-clause-segment g c t = c.requires.segment t

pub returns-in_default-clause-refused : goal.returns-in_default-clause-refused
returns-in_default-clause-refused g c e = (refl, refl)

pub returns-in_default-clause-lands : goal.returns-in_default-clause-lands
returns-in_default-clause-lands g c = inr c.requires.lands

pub returns-in_default-clause-geometry : goal.returns-in_default-clause-geometry
returns-in_default-clause-geometry g c = refl

pub returns-in_default-clause-counts : goal.returns-in_default-clause-counts
returns-in_default-clause-counts g c = nothing_counts c.args.media.now

pub returns-in_default-first_live-clause-refused : goal.returns-in_default-first_live-clause-refused
returns-in_default-first_live-clause-refused g c e = (refl, refl)

pub returns-in_default-first_live-clause-lands : goal.returns-in_default-first_live-clause-lands
returns-in_default-first_live-clause-lands g c = inr c.requires.lands

pub returns-in_default-first_live-clause-geometry : goal.returns-in_default-first_live-clause-geometry
returns-in_default-first_live-clause-geometry g c = refl

pub returns-in_default-first_live-clause-counts : goal.returns-in_default-first_live-clause-counts
returns-in_default-first_live-clause-counts g c = nothing_counts c.args.media.now

pub returns-in_default-live_on-clause-refused : goal.returns-in_default-live_on-clause-refused
returns-in_default-live_on-clause-refused g c e = (refl, refl)

pub returns-in_default-live_on-clause-lands : goal.returns-in_default-live_on-clause-lands
returns-in_default-live_on-clause-lands g c = inr c.requires.lands

pub returns-in_default-live_on-clause-geometry : goal.returns-in_default-live_on-clause-geometry
returns-in_default-live_on-clause-geometry g c = refl

pub returns-in_default-live_on-clause-counts : goal.returns-in_default-live_on-clause-counts
returns-in_default-live_on-clause-counts g c = nothing_counts c.args.media.now

pub returns-clause-refused : goal.returns-clause-refused
returns-clause-refused g c e = absurd (c.move_page.ensures.nothing e)

pub returns-clause-lands : goal.returns-clause-lands
returns-clause-lands g c = c.move_page.ensures.lands c.requires.lands

pub returns-clause-geometry : goal.returns-clause-geometry
returns-clause-geometry g c = c.move_page.ensures.geometry

pub returns-clause-counts : goal.returns-clause-counts
returns-clause-counts g c = c.move_page.ensures.counts

pub move_page-requires-clause-consistent : goal.move_page-requires-clause-consistent
move_page-requires-clause-consistent g c =
    record { formed = formed_looked (kept c.args.self.now) _ c.requires.consistent.formed; tied = tied_looked (kept c.args.self.now) _ c.requires.consistent.tied; few = c.requires.consistent.few }

pub returns-in_default-clause-consistent : goal.returns-in_default-clause-consistent
returns-in_default-clause-consistent g c =
    c.requires.consistent

pub returns-in_default-clause-copies : goal.returns-in_default-clause-copies
returns-in_default-clause-copies g c =
    nothing_copied (seen (kept c.args.self.now))

pub returns-in_default-clause-medium : goal.returns-in_default-clause-medium
returns-in_default-clause-medium g c t =
    nothing_copied_on c.args.media.now (c.requires.segment t)

pub returns-in_default-first_live-clause-consistent : goal.returns-in_default-first_live-clause-consistent
returns-in_default-first_live-clause-consistent g c =
    c.requires.consistent

pub returns-in_default-first_live-clause-copies : goal.returns-in_default-first_live-clause-copies
returns-in_default-first_live-clause-copies g c =
    nothing_copied (seen (kept c.args.self.now))

pub returns-in_default-first_live-clause-medium : goal.returns-in_default-first_live-clause-medium
returns-in_default-first_live-clause-medium g c t =
    nothing_copied_on c.args.media.now (c.requires.segment t)

pub returns-in_default-live_on-clause-consistent : goal.returns-in_default-live_on-clause-consistent
returns-in_default-live_on-clause-consistent g c =
    c.requires.consistent

pub returns-in_default-live_on-clause-copies : goal.returns-in_default-live_on-clause-copies
returns-in_default-live_on-clause-copies g c =
    nothing_copied (seen (kept c.args.self.now))

pub returns-in_default-live_on-clause-medium : goal.returns-in_default-live_on-clause-medium
returns-in_default-live_on-clause-medium g c t =
    nothing_copied_on c.args.media.now (c.requires.segment t)

pub returns-clause-consistent : goal.returns-clause-consistent
returns-clause-consistent g c =
    c.move_page.ensures.consistent

pub returns-clause-copies : goal.returns-clause-copies
returns-clause-copies g c =
    let at = c.in-Some-first_live.ensures.some.0 in
    let victim : InVictim (seen (kept c.args.self.now)) c.in-Some-first_live.before = c.in-Some.is ∙ ap (λ b. Some b) (sym at) in
    let live = sym c.live_on.ensures ∙ c.in-Some-live_on.is in
    let m = c.move_page.ensures in
    moves_copied (kept c.move_page.new.self) c.in-Some-first_live.before c.in-Some-live_on.held c.move_page.result m.consistent.tied victim live m.moves

pub returns-clause-medium : goal.returns-clause-medium
returns-clause-medium g c t =
    let at = c.in-Some-first_live.ensures.some.0 in
    let victim : InVictim (seen (kept c.args.self.now)) c.in-Some-first_live.before = c.in-Some.is ∙ ap (λ b. Some b) (sym at) in
    let live = sym c.live_on.ensures ∙ c.in-Some-live_on.is in
    let m = c.move_page.ensures in
    moves_copied_on c.in-Some-first_live.before c.in-Some-live_on.held c.move_page.result victim live m.moves (m.medium t)

pub returns-in_default-clause-tried : goal.returns-in_default-clause-tried
returns-in_default-clause-tried g c = still_spends Nothing _ (seen (kept c.args.self.now)) (λ more. omega (arith, more)) tt

pub returns-in_default-first_live-clause-tried : goal.returns-in_default-first_live-clause-tried
returns-in_default-first_live-clause-tried g c = still_spends Nothing _ (seen (kept c.args.self.now)) (λ more. omega (arith, more)) tt

pub returns-in_default-live_on-clause-tried : goal.returns-in_default-live_on-clause-tried
returns-in_default-live_on-clause-tried g c = still_spends Nothing _ (seen (kept c.args.self.now)) (λ more. omega (arith, more)) tt

pub returns-clause-tried : goal.returns-clause-tried
returns-clause-tried g c = c.move_page.ensures.tried
