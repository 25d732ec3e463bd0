use Rattle.std.proofs.Common.{◌≡◌, List, [], ◌∷◌, length, refl, sym, ◌∙◌, arith}
use Rattle.nl_meta_running.proofs.Holds.{bounds-of}
use Rattle.nl_core_new.proofs.Root.{root_spelled, root_there}
use Rattle.nl_core_new.proofs.beginning.begun.Goals as goal

empty : {X : Type 0} (xs : List X) → length xs ≡ 0 → xs ≡ []
empty [] e = refl
empty (x ∷ xs) e = absurd (omega (arith, e))

pub begin-requires-clause-kept : goal.begin-requires-clause-kept
begin-requires-clause-kept g c = empty c.args.walked.kept.items (sym c.len.ensures.count ∙ c.if-len-ne0.false)

pub entries_of_root-requires-clause-there : goal.entries_of_root-requires-clause-there
entries_of_root-requires-clause-there g c =
    let G = g.D.Counts in
    let s = c.args.device in
    root_there G s c.args.scan.now.seen c.args.walked (bounds-of (G.shape s) c.device_stands.ensures.volume) c.requires.walked

pub entries_of_root-requires-clause-spelled : goal.entries_of_root-requires-clause-spelled
entries_of_root-requires-clause-spelled g c =
    let G = g.D.Counts in
    let s = c.args.device in
    root_spelled G s c.args.scan.now.seen c.args.walked (bounds-of (G.shape s) c.device_stands.ensures.volume) c.requires.walked

pub begin-requires-clause-root : goal.begin-requires-clause-root
begin-requires-clause-root g c rec at = c.entries_of_root.ensures rec at ∙ c.if-entries_of_root-ne0.false
