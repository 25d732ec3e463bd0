use Rattle.std.proofs.Common.{◌≡◌, ◌<◌, ◌^◌, Option, Some, None, option_map, ◌∙◌, ap, sym, subst}
use Rattle.std.specs.Prelude.{IfSome}
use Rattle.nl_field.specs.declared.header.HeaderRec.{HeaderRec}
use Rattle.nl_iface.specs.Stored.{Value}
use Rattle.nl_journal.specs.Opening.{counted_in, deciding}
use Rattle.nl_journal.specs.Outcomes.{bytes_of}
use Rattle.nl_journal.specs.Restoring.{IsVolumeHeader}
use Rattle.nl_journal.specs.Transaction.{head, mark}
use Rattle.nl_journal.proofs.Openings.{counting_decides, deciding_has, number_is, some_of}
use Rattle.nl_journal.proofs.journal.Journal.read_ends.Goals as goal

pub judge-requires-clause-header : goal.judge-requires-clause-header
judge-requires-clause-header g c = number-of c.in-Some.header c.in-Some.ensures.spelled
  where
    number-of : (o : Option HeaderRec) → IfSome o (λ h. (h.number < 2 ^ 63) × IsVolumeHeader c.args.shape.now h) → IfSome o (λ h. h.number < 2 ^ 63)
    number-of None h = tt
    number-of (Some x) h = h.0

pub returns-in-Some-commit_page-clause-listing : goal.returns-in-Some-commit_page-clause-listing
returns-in-Some-commit_page-clause-listing g c =
    subst (λ (o : Option HeaderRec). IfSome o (IsVolumeHeader c.args.shape.now)) (sym c.judge.ensures.decides)
    (deciding_has (IsVolumeHeader c.args.shape.now) c.in-Some.header c.in-Some-commit_page.commit (listing-of c.in-Some.header c.in-Some.ensures.spelled))
  where
    listing-of : (o : Option HeaderRec) → IfSome o (λ h. (h.number < 2 ^ 63) × IsVolumeHeader c.args.shape.now h) → IfSome o (IsVolumeHeader c.args.shape.now)
    listing-of None h = tt
    listing-of (Some x) h = h.1

pub returns-in-Some-commit_page-clause-header : goal.returns-in-Some-commit_page-clause-header
returns-in-Some-commit_page-clause-header g c t =
    let G = g.D.Counts in
    let old = c.args.device.now in
    subst (λ (o : Option HeaderRec). IfSome o (λ h. head (G.shape old) (bytes_of (G.map old) 1) ≡ Some h)) (sym c.judge.ensures.decides)
    (deciding_has (λ h. head (G.shape old) (bytes_of (G.map old) 1) ≡ Some h) c.in-Some.header c.in-Some-commit_page.commit
    (subst (λ (o : Option HeaderRec). IfSome c.in-Some.header (λ h. o ≡ Some h)) (c.in-Some.ensures.header t) (some_of c.in-Some.header)))

pub returns-in-Some-commit_page-clause-decides : goal.returns-in-Some-commit_page-clause-decides
returns-in-Some-commit_page-clause-decides g c t =
    let G = g.D.Counts in
    let old = c.args.device.now in
    let f = bytes_of (G.map old) in
    let begins : c.in-Some.header ≡ head (G.shape old) (f 1) = c.in-Some.ensures.header t in
    let ends : c.in-Some-commit_page.commit ≡ mark (f 66) = c.in-Some-commit_page.ensures.mark t ∙ ap (λ (o : Option Value). mark (option_map (λ (x : Value). x.1) o)) (c.header.ensures.kept.medium.virtual.same_map t 66) in
    counting_decides (G.shape old) f ∙ ap (counted_in f) (sym (c.judge.ensures.decides ∙ (λ i. deciding (begins i) (ends i))))

pub returns-in-Some-commit_page-clause-number : goal.returns-in-Some-commit_page-clause-number
returns-in-Some-commit_page-clause-number g c t =
    let G = g.D.Counts in
    let old = c.args.device.now in
    number_is (G.shape old) (bytes_of (G.map old)) c.judge.new.self.number c.in-Some.header c.in-Some-commit_page.commit c.judge.ensures.number (c.in-Some.ensures.header t)
    (c.in-Some-commit_page.ensures.mark t ∙ ap (λ (o : Option Value). mark (option_map (λ (x : Value). x.1) o)) (c.header.ensures.kept.medium.virtual.same_map t 66))
