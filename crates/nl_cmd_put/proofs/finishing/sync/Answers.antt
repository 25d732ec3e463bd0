use Rattle.std.proofs.Common.{◌≡◌, ◌^◌, ◌<◌, Bool, true, false, if◌then◌else◌, sym, subst, ◌∙◌, arith}
use Rattle.nl_volume.specs.contracts.volume.VolumeKept.TheImpl.{ghosts}
use Rattle.nl_cmd_put.specs.Phases.{HasPut}
use Rattle.nl_cmd_put.specs.declared.ending.End.TheVariants as ends
use Rattle.nl_cmd_put.proofs.Phases.{syncs}
use Rattle.nl_cmd_put.proofs.finishing.sync.Goals as goal

pub returns-then-is_synced : goal.returns-then-is_synced
returns-then-is_synced g c = record {
  ended = λ own path bytes beside many origin o s.
      let S = (ghosts g.row.M g.M.Nand g.M.Nand-dict).stands in
      let low : c.args.number < 2 ^ 32 = (let f = c.ranges.number.fits in omega (arith, f)) in
      let v' = c.ask-synced.new.volume in
      let test : _ ≡ true = sym c.is_synced.ensures ∙ c.if-is_synced.true in
      subst (λ (b : Bool). HasPut S g.M.Nand.tells origin o path bytes (if b then ends.Put c.args.count else ends.Fault) v') test
      (syncs S g.M.Nand.tells origin o path own bytes c.args.number c.args.count c.args.volume.now v' low beside many s c.ask-synced.result
      (c.ask-synced.ensures.asked origin o s.asked s.putting.so_far s.next));
}

pub returns-else-is_synced : goal.returns-else-is_synced
returns-else-is_synced g c = record {
  ended = λ own path bytes beside many origin o s.
      let S = (ghosts g.row.M g.M.Nand g.M.Nand-dict).stands in
      let low : c.args.number < 2 ^ 32 = (let f = c.ranges.number.fits in omega (arith, f)) in
      let v' = c.ask-synced.new.volume in
      let test : _ ≡ false = sym c.is_synced.ensures ∙ c.if-is_synced.false in
      subst (λ (b : Bool). HasPut S g.M.Nand.tells origin o path bytes (if b then ends.Put c.args.count else ends.Fault) v') test
      (syncs S g.M.Nand.tells origin o path own bytes c.args.number c.args.count c.args.volume.now v' low beside many s c.ask-synced.result
      (c.ask-synced.ensures.asked origin o s.asked s.putting.so_far s.next));
}
