use Rattle.std.proofs.Common.{◌≡◌, ◌++◌, ℕ, List, [], ◌∷◌, sym, ap, subst, ◌∙◌, Some}
use Rattle.std.proofs.lemmas.List.{append_assoc}
use Rattle.std.specs.Prelude.{slice_get}
use Rattle.nl_field.specs.Members.{Has}
use Rattle.nl_field.specs.declared.entry.EntryRec.{EntryRec}
use Rattle.nl_field.specs.declared.inode.Kind.{Kind}
use Rattle.nl_namespace.specs.Listing.{kind_mark, text_of}
use Rattle.nl_namespace.proofs.Graphs.{graph}
use Rattle.nl_namespace.proofs.Placing.{at-has}
use Rattle.nl_namespace.proofs.Texts.{listed-used, one-text}
use Rattle.nl_namespace.proofs.names.print_place.Goals as goal

pub node_kind-requires-clause-used : goal.node_kind-requires-clause-used
node_kind-requires-clause-used g c =
    let d = c.requires.directory in
    let has = subst (λ (es : List EntryRec). Has es c.entry_at-entry.result) c.requires.held.entries (at-has _ c.args.place c.entry_at-entry.result c.entry_at-entry.ensures) in
    listed-used g.D.Counts c.args.device.now c.args.meta.now c.requires.runs d.0 c.args.rec.now d.1 d.2 c.entry_at-entry.result has

pub returns-clause-printed : goal.returns-clause-printed
returns-clause-printed g c =
    let is = c.in_ok-kind.ensures.kind in
    let one : text_of (graph g.D.Counts c.args.device.now c.args.meta.now) (c.entry_at-entry.result ∷ []) ≡ 32 ∷ c.entry_at-entry.result.name ++ kind_mark c.in_ok-kind.kind =
    one-text g.D.Counts c.args.device.now c.args.meta.now c.entry_at-entry.result is.0 is.1 ∙ ap (λ (k : Kind). 32 ∷ c.entry_at-entry.result.name ++ kind_mark k) is.2 in
    let all : c.args.out.now ++ 32 ∷ c.entry_at-entry.result.name ++ kind_mark c.in_ok-kind.kind ≡ c.args.out.now ++ text_of (graph g.D.Counts c.args.device.now c.args.meta.now) (c.entry_at-entry.result ∷ []) =
    append_assoc c.args.out.now (32 ∷ c.entry_at-entry.result.name) (kind_mark c.in_ok-kind.kind) ∙ ap (λ (t : List ℕ). c.args.out.now ++ t) (sym one) in
    let first : c.print.new.out ≡ c.args.out.now ++ 32 ∷ c.entry_at-entry.result.name ++ kind_mark c.in_ok-kind.kind = c.print.ensures.printed in
    record {
      entry = c.entry_at-entry.result;
      at = subst (λ (es : List EntryRec). slice_get es c.args.place ≡ Some c.entry_at-entry.result) c.requires.held.entries c.entry_at-entry.ensures;
      printed = first ∙ all;
    }
