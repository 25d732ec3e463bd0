use Rattle.std.proofs.Common.{◌≡◌, sym, ap, subst}
use Rattle.nl_pagemap.specs.contracts.counts.PagemapCounts.TheImpl.{ghosts}
use Rattle.nl_pagemap_volume.proofs.Doing.{does_behind, frees_all, serves_goes}
use Rattle.nl_pagemap_volume.proofs.volume.MapVolume.step.Goals as goal

pub returns-clause-stands : goal.returns-clause-stands
returns-clause-stands g c =
    let G = ghosts g.row.M g.M.Nand g.M.Nand-dict in
    let a = c.answer-reply in
    let f = c.free_due in
    serves_goes G 512 a.result.files a.new.core f.new.core a.ensures.serves f.ensures.goes f.ensures.core f.ensures.flight

pub returns-clause-answers : goal.returns-clause-answers
returns-clause-answers g c tells tree shows = c.answer-reply.ensures.does.answers tells shows.0 tree shows.1

pub returns-clause-goes_on : goal.returns-clause-goes_on
returns-clause-goes_on g c tells tree shows =
    let G = ghosts g.row.M g.M.Nand g.M.Nand-dict in
    let a = c.answer-reply in
    let f = c.free_due in
    let d = does_behind G c.args.call.now c.args.self.now.core a.new.core f.new.core a.result.reply a.new.out 512 a.ensures.does f.ensures.goes f.ensures.faulty in
    let k = d.steps tells shows.0 tree shows.1 in
    (k.pages, k.runs)

pub returns-clause-cause : goal.returns-clause-cause
returns-clause-cause g c =
    let G = ghosts g.row.M g.M.Nand g.M.Nand-dict in
    let a = c.answer-reply in
    let f = c.free_due in
    (does_behind G c.args.call.now c.args.self.now.core a.new.core f.new.core a.result.reply a.new.out 512 a.ensures.does f.ensures.goes f.ensures.faulty).cause

pub returns-clause-synced : goal.returns-clause-synced
returns-clause-synced g c = c.answer-reply.ensures.does.synced

pub returns-clause-upto : goal.returns-clause-upto
returns-clause-upto g c = c.answer-reply.ensures.does.upto

pub returns-clause-calls : goal.returns-clause-calls
returns-clause-calls g c =
    let G = ghosts g.row.M g.M.Nand g.M.Nand-dict in
    let a = c.answer-reply in
    let f = c.free_due in
    (does_behind G c.args.call.now c.args.self.now.core a.new.core f.new.core a.result.reply a.new.out 512 a.ensures.does f.ensures.goes f.ensures.faulty).counted

pub returns-clause-freed : goal.returns-clause-freed
returns-clause-freed g c =
    let G = ghosts g.row.M g.M.Nand g.M.Nand-dict in
    let a = c.answer-reply in
    let f = c.free_due in
    frees_all G c.args.call.now c.args.self.now.core a.new.core f.new.core a.result.reply a.new.out 512 a.ensures.does f.ensures.goes f.ensures.freed

pub returns-clause-counts : goal.returns-clause-counts
returns-clause-counts g c =
    let G = ghosts g.row.M g.M.Nand g.M.Nand-dict in
    let a = c.answer-reply in
    let f = c.free_due in
    (does_behind G c.args.call.now c.args.self.now.core a.new.core f.new.core a.result.reply a.new.out 512 a.ensures.does f.ensures.goes f.ensures.faulty).counts

pub returns-clause-same_shape : goal.returns-clause-same_shape
returns-clause-same_shape g c =
    let G = ghosts g.row.M g.M.Nand g.M.Nand-dict in
    let a = c.answer-reply in
    let f = c.free_due in
    (does_behind G c.args.call.now c.args.self.now.core a.new.core f.new.core a.result.reply a.new.out 512 a.ensures.does f.ensures.goes f.ensures.faulty).same_shape

pub returns-clause-stops : goal.returns-clause-stops
returns-clause-stops g c =
    let G = ghosts g.row.M g.M.Nand g.M.Nand-dict in
    let a = c.answer-reply in
    let f = c.free_due in
    (does_behind G c.args.call.now c.args.self.now.core a.new.core f.new.core a.result.reply a.new.out 512 a.ensures.does f.ensures.goes f.ensures.faulty).stops

pub returns-clause-stamps : goal.returns-clause-stamps
returns-clause-stamps g c =
    let G = ghosts g.row.M g.M.Nand g.M.Nand-dict in
    let a = c.answer-reply in
    let f = c.free_due in
    (does_behind G c.args.call.now c.args.self.now.core a.new.core f.new.core a.result.reply a.new.out 512 a.ensures.does f.ensures.goes f.ensures.faulty).stamps
