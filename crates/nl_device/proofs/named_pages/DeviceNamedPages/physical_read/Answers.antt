use Rattle.std.proofs.Common.{◌*◌, ◌≤◌, ◌∙◌, Option, ap, refl, subst, sym}
use Rattle.std.proofs.lemmas.Option.{same_Some}
use Rattle.nl_field.specs.Live.{resolve}
use Rattle.nl_field.specs.Page.{Image, page_at}
use Rattle.nl_iface.specs.Names.{has_tag}
use Rattle.nl_iface.specs.Stored.{NamedPage, stored_in}
use Rattle.nl_pseg.specs.Pages.{main_of, stamp_at}
use Rattle.nl_pseg.specs.Segment.{Physical, held_at}
use Rattle.nl_pseg.specs.declared.held.Held.{Held}
use Rattle.nl_device.specs.Device.{IsDevice}
use Rattle.nl_device.specs.Shown.{bytes_at, live_page}
use Rattle.nl_device.proofs.Finding.{finds_page, finds_under, shown_stamp}
use Rattle.nl_device.proofs.Forms.{begins}
use Rattle.nl_device.proofs.Made.{bytes_from}
use Rattle.nl_device.proofs.NamedReads.{reads_lost, reads_not_live, reads_owner, reads_told}
use Rattle.nl_device.proofs.named_pages.DeviceNamedPages.physical_read.Goals as goal

pub returns-clause-answer : goal.returns-clause-answer
returns-clause-answer g c =
    let d = c.args.self.now in
    let f = c.requires.formed in
    let e = c.physical_read.ensures in
    let place = resolve d.pseg.pairs c.args.at.name in
    let held = held_at d.pseg place in
    let stamp = c.args.at.stamp in
    let answer = c.physical_read.result in
    let buf = c.physical_read.new.buf in
    record {
      not_live = reads_not_live held c.args.tag stamp buf answer e.answer;
      lost = reads_lost held c.args.tag stamp buf answer e.answer;
      owner = λ is. subst (λ (o : Option Held). has_tag (live_page o) c.args.tag) (sym (reads_owner held c.args.tag stamp buf answer e.answer is)) refl;
      bytes = λ t is.
          let from = f.live.in_segment place (record { tag = c.args.tag; stamp = stamp }) (reads_owner held c.args.tag stamp buf answer e.answer is) in
          sym (bytes_from (d.shape.vblocks * d.shape.pages) (g.M.Nand.contents d.media) place (subst (λ n. n ≤ place) (begins f.segments) from.0) ∙ ap main_of (e.value t is));
      told = λ t owned lost. reads_told held c.args.tag stamp buf answer e.answer (e.kept t) owned lost;
    }

pub returns-clause-found : goal.returns-clause-found
returns-clause-found g c = finds_page c.physical_read.new.buf c.physical_read.result c.physical_read.ensures.found

pub returns-clause-told : goal.returns-clause-told
returns-clause-told g c t =
    let d = c.args.self.now in
    let e = c.physical_read.ensures in
    let m = c.requires.formed.medium t in
    let image = g.M.Nand.contents d.media in
    let place = resolve d.pseg.pairs c.args.at.name in
    let page = page_at image place in
    let bytes = bytes_at (d.shape.vblocks * d.shape.pages) image place in
    finds_under ((stored_in image).named place) (stamp_at page) (held_at d.pseg place) c.args.tag c.args.at.stamp c.physical_read.new.buf c.physical_read.result e.answer (e.told t) (e.kept t)
    (λ (h : Held) here. (
      shown_stamp page h.tag h.stamp (main_of page) (m.physical_is.holds place h here),
      λ n is. sym (ap (λ (x : NamedPage). x.tag) (same_Some (record { tag = h.tag; stamp = h.stamp; bytes = bytes }) n (sym (m.holds place (record { tag = h.tag; stamp = h.stamp }) (ap live_page here)) ∙ is))),
    ))

pub returns-clause-formed : goal.returns-clause-formed
returns-clause-formed g c =
    let d = c.args.self.now in
    let e = c.physical_read.ensures in
    let m = c.physical_read.new.media in
    subst (λ (i : Image). IsDevice (g.M.Nand.geometry m) g.M.Nand.tells i d.shape d.vseg c.physical_read.new.self d.pending d.kept d.next) (sym e.contents)
    (subst (λ n. IsDevice n g.M.Nand.tells (g.M.Nand.contents d.media) d.shape d.vseg c.physical_read.new.self d.pending d.kept d.next) (sym e.geometry)
    (subst (λ (s : Physical). IsDevice (g.M.Nand.geometry d.media) g.M.Nand.tells (g.M.Nand.contents d.media) d.shape d.vseg s d.pending d.kept d.next) (sym e.segment) c.requires.formed))
