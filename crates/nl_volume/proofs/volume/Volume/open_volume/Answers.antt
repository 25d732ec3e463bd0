use Rattle.std.proofs.Common.{◌≤◌, arith, subst}
use Rattle.nl_device.specs.contracts.counts.DeviceCounts.TheImpl.{ghosts}
use Rattle.nl_field.specs.CrashStates.{top}
use Rattle.nl_meta.specs.Consistent.{page_on}
use Rattle.nl_spec_commits.specs.Trees.{all_at}
use Rattle.nl_core.specs.Trees.{CoreRepresents}
use Rattle.nl_spec_image.proofs.SoundProofs.{represents_one}
use Rattle.nl_volume.proofs.Begins.{opening_stands}
use Rattle.nl_volume.proofs.volume.Volume.open_volume.Goals as goal

pub returns-in-Ready-clause-stands : goal.returns-in-Ready-clause-stands
returns-in-Ready-clause-stands g c tree lines are sound =
    let G = ghosts g.row.M g.M.Nand g.M.Nand-dict in
    let v = c.in-Ready.core in
    let image = g.M.Nand.contents c.args.media in
    let e = c.in-Ready.ensures in
    let calls = c.calls-calls.type_inv in
    let same = c.calls-calls.ensures in
    let few : v.count ≤ top = omega (arith, calls, same) in (
      opening_stands G v tree lines e.core e.opened few are c.counts.ensures.write_faults
          (λ tells.
          let k = e.stands tells in
          let one = (represents_one image v.count v.count k.0 tree k.1.stands (sound tells).stands).1 in
          (page_on image, subst (λ t. CoreRepresents G v (page_on image) (all_at v.count t)) one k.2)),
      e.files,
    )

pub returns-in-Ready-clause-sound : goal.returns-in-Ready-clause-sound
returns-in-Ready-clause-sound g c tells = let k = c.in-Ready.ensures.stands tells in (k.0, k.1)

pub returns-in-Ready-clause-told : goal.returns-in-Ready-clause-told
returns-in-Ready-clause-told g c tells = let k = c.in-Ready.ensures.told tells in (k.0, k.1)

pub returns-in-Ready-clause-next_stamp : goal.returns-in-Ready-clause-next_stamp
returns-in-Ready-clause-next_stamp g c tells = c.in-Ready.ensures.next_stamp tells

pub returns-in-Ready-clause-number : goal.returns-in-Ready-clause-number
returns-in-Ready-clause-number g c tells = c.in-Ready.ensures.number tells

pub returns-in-Ready-clause-few : goal.returns-in-Ready-clause-few
returns-in-Ready-clause-few g c = c.in-Ready.ensures.few

pub returns-in-Ready-clause-behind : goal.returns-in-Ready-clause-behind
returns-in-Ready-clause-behind g c = c.in-Ready.ensures.behind

pub returns-in-Ready-clause-pairs : goal.returns-in-Ready-clause-pairs
returns-in-Ready-clause-pairs g c tells = c.in-Ready.ensures.pairs tells

pub returns-in-Ready-clause-wear : goal.returns-in-Ready-clause-wear
returns-in-Ready-clause-wear g c tells = c.in-Ready.ensures.wear tells
