use Rattle.std.proofs.Common.{◌∙◌, sym, ap, Option, List, ℕ, None}
use Rattle.std.proofs.lemmas.List.{set-get_or}
use Rattle.nl_meta.specs.Pages.{page_of, touched}
use Rattle.std.proofs.Math.ListN.{set}
use Rattle.nl_dir.proofs.EntryLists.{some-of}
use Rattle.nl_dir.proofs.page.hold.Goals as goal

pub returns-then-resident : goal.returns-then-resident
returns-then-resident c =
    let p = c.args.meta.now in
    let v = c.args.vaddr in
    let s = some-of (page_of p v) (sym c.resident.ensures ∙ c.if-resident.true) in
    record {
      bytes = s.0;
      page = c.touch.ensures ∙ ap (λ (r : List (Option (List ℕ))). record p { running = r; recent = touched v p.recent })
          (sym (set-get_or p.running v None) ∙ ap (λ (o : Option (List ℕ)). set p.running v o) s.1);
    }
