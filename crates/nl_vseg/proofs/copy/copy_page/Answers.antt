use Rattle.std.proofs.Common.{◌≡◌, ℕ, ◌+◌, inl, refl, sym, ◌∙◌, ap, subst}
use Rattle.nl_field.specs.Page.{Image, Page, PageBytes, page_at, written}
use Rattle.nl_field.specs.declared.answers.VirtualRead.TheVariants as read
use Rattle.nl_field.specs.declared.answers.VirtualWrite.TheVariants as write
use Rattle.nl_field.specs.declared.spare.SpareRec.TheVariants.{Virtual}
use Rattle.nl_field.proofs.SpareRecord.{spare-spelled}
use Rattle.nl_nand.specs.Nand.{Cut, OperationLeaves}
use Rattle.nl_nand.specs.declared.answers.WriteAnswer.{WriteAnswer}
use Rattle.nl_nand.proofs.Crashes.{leaves_cut, leaves_done, operation, still, then}
use Rattle.nl_vseg.specs.Answers.{ReadsPage}
use Rattle.nl_vseg.specs.Copying.{copy_of}
use Rattle.nl_vseg.specs.Pages.{fact_with, main_of, page_with}
use Rattle.nl_vseg.proofs.Counts.{counted_as, counted_read, counted_then, counted_write}
use Rattle.nl_vseg.proofs.ReadPlaces.{shown_stamp}
use Rattle.nl_vseg.proofs.Small.{done_fault, done_lost, fault_done, fault_lost, lost_fault, page_done_failed}
use Rattle.nl_vseg.proofs.Operating.{operates_both, operates_page, operates_still}
use Rattle.nl_vseg.proofs.Records.{fits_virtual}
use Rattle.nl_vseg.proofs.copy.copy_page.Goals as goal

same_lost : (a b w f : ℕ) → write.Lost a b ≡ write.Lost w f → (a ≡ w) × (b ≡ f)
same_lost a b w f is = (cc, cc)

read_lost_fault : (w f : ℕ) → read.Lost w f ≡ read.Fault → ⊥
read_lost_fault w f e = cc

read_done_fault : read.Done ≡ read.Fault → ⊥
read_done_fault e = cc

-- nothing was programmed
cut_none : (low high : ℕ) (value : Page) (old new : Image) → new ≡ old → Cut low high value old new
cut_none low high value old new is = subst (λ (x : Image). Cut low high value old x) (sym is) (record { shape = record { same_blocks = refl; same_pages = refl; same_length = refl }; each = λ p. inl refl })

-- the page that was read is programmed
copied_leaves : (to v s w : ℕ) (page : Page) (buf : PageBytes) (old read new : Image) (answer : WriteAnswer) → page ≡ written buf → read ≡ old
    → OperationLeaves to (to + 1) (written (page_with buf.main v s w)) read answer new → OperationLeaves to (to + 1) (copy_of page v s w) old answer new
copied_leaves to v s w page buf old read new answer is same leaves =
    subst (λ (x : Page). OperationLeaves to (to + 1) (copy_of x v s w) old answer new) (sym is) (subst (λ (x : Image). OperationLeaves to (to + 1) (written (page_with buf.main v s w)) x answer new) same leaves)

copied_cut : (to v s w : ℕ) (page : Page) (buf : PageBytes) (old read : Image) → page ≡ written buf → read ≡ old
    → (new : Image) → Cut to (to + 1) (written (page_with buf.main v s w)) read new → Cut to (to + 1) (copy_of page v s w) old new
copied_cut to v s w page buf old read is same new cut =
    subst (λ (x : Page). Cut to (to + 1) (copy_of x v s w) old new) (sym is) (subst (λ (x : Image). Cut to (to + 1) (written (page_with buf.main v s w)) x new) same cut)

pub returns-in-Lost : goal.returns-in-Lost
returns-in-Lost g c =
    let page = page_at (g.M.Nand.contents c.args.media.now) c.args.place.page in
    let r = c.read_page.ensures in
    let never : g.M.Nand.tells → ⊥ = (λ t. (r.lost c.in-Lost.wanted c.in-Lost.found c.in-Lost.is).1 (sym (subst (ReadsPage page c.args.place.stamp c.read_page.new.buf) c.in-Lost.is (r.answer t)) ∙ shown_stamp page _ (c.requires.shows t))) in
    record {
      filled = λ t. absurd (never t);
      cut = λ t. absurd (never t);
      crash = λ t. absurd (never t);
      copied = λ t. absurd (never t);
      lost = λ w f is. let l = r.lost c.in-Lost.wanted c.in-Lost.found c.in-Lost.is in let same = same_lost c.in-Lost.wanted c.in-Lost.found w f is in (sym same.0 ∙ l.0, λ found. l.1 (same.1 ∙ found));
      kept = λ t is. never t;
      operates = λ pages wears is. operates_still wears wears _ _ _ _ refl c.read_page.ensures.only_reads.same_clock c.read_page.ensures.only_reads.same_contents;
      geometry = r.only_reads.same_geometry;
      counts = counted_as (λ failed. absurd (read_lost_fault _ _ (sym c.in-Lost.is ∙ failed))) (λ failed. absurd (lost_fault _ _ failed)) (counted_read r.only_reads.same_clock r.read_faults r.only_reads.same_write_faults);
    }

pub returns-in-Fault : goal.returns-in-Fault
returns-in-Fault g c =
    let r = c.read_page.ensures in
    record {
      filled = λ t done. absurd (fault_done done);
      cut = λ t. cut_none c.args.to (c.args.to + 1) _ _ _ r.only_reads.same_contents;
      crash = λ t. still _ r.only_reads.same_clock r.only_reads.same_left.no_more;
      copied = λ t.
          ap (λ rec. fact_with rec (main_of (page_at (g.M.Nand.contents c.args.media.now) c.args.place.page)))
          (spare-spelled (Virtual c.args.vaddr c.args.place.stamp c.args.wear) (fits_virtual c.args.vaddr c.args.place.stamp c.args.wear c.ranges.vaddr.fits c.ranges.wear.fits) c.requires.spelled)
          ∙ sym (c.requires.shows t);
      lost = λ w f is. absurd (fault_lost w f is);
      kept = λ t is. is;
      operates = λ pages wears is. operates_still wears wears _ _ _ _ refl c.read_page.ensures.only_reads.same_clock c.read_page.ensures.only_reads.same_contents;
      geometry = r.only_reads.same_geometry;
      counts = counted_as (λ failed. refl) (λ failed. c.in-Fault.is) (counted_read r.only_reads.same_clock r.read_faults r.only_reads.same_write_faults);
    }

pub returns-in-Done-program_page : goal.returns-in-Done-program_page
returns-in-Done-program_page g c =
    let page = page_at (g.M.Nand.contents c.args.media.now) c.args.place.page in
    let r = c.read_page.ensures in
    let w = c.program_page.ensures in
    let leaves : (t : g.M.Nand.tells) → OperationLeaves c.args.to (c.args.to + 1) (copy_of page c.args.vaddr c.args.place.stamp c.args.wear) (g.M.Nand.contents c.args.media.now) c.program_page.result (g.M.Nand.contents c.program_page.new.media) = (λ t.
    copied_leaves c.args.to c.args.vaddr c.args.place.stamp c.args.wear page c.read_page.new.buf _ _ _ c.program_page.result (subst (ReadsPage page c.args.place.stamp c.read_page.new.buf) c.in-Done.is (r.answer t)) r.only_reads.same_contents (w.effect t)) in
    record {
      filled = λ t done. leaves_done c.args.to (c.args.to + 1) _ _ c.program_page.result _ c.in-Done-program_page.is (leaves t);
      cut = λ t. leaves_cut c.args.to (c.args.to + 1) _ _ c.program_page.result _ (leaves t);
      crash = λ t.
          then _ (still _ r.only_reads.same_clock r.only_reads.same_left.no_more) (operation c.program_page.result _ w.crash (w.effect t)
          (copied_cut c.args.to c.args.vaddr c.args.place.stamp c.args.wear page c.read_page.new.buf _ _ (subst (ReadsPage page c.args.place.stamp c.read_page.new.buf) c.in-Done.is (r.answer t)) r.only_reads.same_contents));
      copied = λ t.
          ap (λ rec. fact_with rec (main_of (page_at (g.M.Nand.contents c.args.media.now) c.args.place.page)))
          (spare-spelled (Virtual c.args.vaddr c.args.place.stamp c.args.wear) (fits_virtual c.args.vaddr c.args.place.stamp c.args.wear c.ranges.vaddr.fits c.ranges.wear.fits) c.requires.spelled)
          ∙ sym (c.requires.shows t);
      lost = λ w f is. absurd (done_lost w f is);
      kept = λ t is. is;
      operates = λ pages wears is. operates_both (operates_still wears wears _ _ _ _ refl c.read_page.ensures.only_reads.same_clock c.read_page.ensures.only_reads.same_contents)
          (operates_page pages c.args.to c.args.vaddr c.args.place.stamp c.args.wear c.read_page.new.buf.main c.program_page.result wears _ _ _ _ is c.program_page.ensures.counted.ticks c.program_page.ensures.effect);
      geometry = w.counted.same_geometry ∙ r.only_reads.same_geometry;
      counts = counted_as (λ failed. absurd (page_done_failed (sym c.in-Done-program_page.is ∙ failed))) (λ failed. absurd (done_fault failed)) (counted_then (λ failed. read_done_fault (sym c.in-Done.is ∙ failed)) (counted_read r.only_reads.same_clock r.read_faults r.only_reads.same_write_faults) (counted_write c.program_page.result w.crash.later w.counted.same_read_faults w.counted.failures));
    }

pub returns-in-Failed : goal.returns-in-Failed
returns-in-Failed g c =
    let page = page_at (g.M.Nand.contents c.args.media.now) c.args.place.page in
    let r = c.read_page.ensures in
    let w = c.program_page.ensures in
    let leaves : (t : g.M.Nand.tells) → OperationLeaves c.args.to (c.args.to + 1) (copy_of page c.args.vaddr c.args.place.stamp c.args.wear) (g.M.Nand.contents c.args.media.now) c.program_page.result (g.M.Nand.contents c.program_page.new.media) = (λ t.
    copied_leaves c.args.to c.args.vaddr c.args.place.stamp c.args.wear page c.read_page.new.buf _ _ _ c.program_page.result (subst (ReadsPage page c.args.place.stamp c.read_page.new.buf) c.in-Done.is (r.answer t)) r.only_reads.same_contents (w.effect t)) in
    record {
      filled = λ t done. absurd (fault_done done);
      cut = λ t. leaves_cut c.args.to (c.args.to + 1) _ _ c.program_page.result _ (leaves t);
      crash = λ t.
          then _ (still _ r.only_reads.same_clock r.only_reads.same_left.no_more) (operation c.program_page.result _ w.crash (w.effect t)
          (copied_cut c.args.to c.args.vaddr c.args.place.stamp c.args.wear page c.read_page.new.buf _ _ (subst (ReadsPage page c.args.place.stamp c.read_page.new.buf) c.in-Done.is (r.answer t)) r.only_reads.same_contents));
      copied = λ t.
          ap (λ rec. fact_with rec (main_of (page_at (g.M.Nand.contents c.args.media.now) c.args.place.page)))
          (spare-spelled (Virtual c.args.vaddr c.args.place.stamp c.args.wear) (fits_virtual c.args.vaddr c.args.place.stamp c.args.wear c.ranges.vaddr.fits c.ranges.wear.fits) c.requires.spelled)
          ∙ sym (c.requires.shows t);
      lost = λ w f is. absurd (fault_lost w f is);
      kept = λ t is. is;
      operates = λ pages wears is. operates_both (operates_still wears wears _ _ _ _ refl c.read_page.ensures.only_reads.same_clock c.read_page.ensures.only_reads.same_contents)
          (operates_page pages c.args.to c.args.vaddr c.args.place.stamp c.args.wear c.read_page.new.buf.main c.program_page.result wears _ _ _ _ is c.program_page.ensures.counted.ticks c.program_page.ensures.effect);
      geometry = w.counted.same_geometry ∙ r.only_reads.same_geometry;
      counts = counted_as (λ failed. refl) (λ failed. c.in-Failed.is) (counted_then (λ failed. read_done_fault (sym c.in-Done.is ∙ failed)) (counted_read r.only_reads.same_clock r.read_faults r.only_reads.same_write_faults) (counted_write c.program_page.result w.crash.later w.counted.same_read_faults w.counted.failures));
    }
