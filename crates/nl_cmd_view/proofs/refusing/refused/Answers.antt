use Rattle.std.proofs.Common.{◌≡◌, refl, subst, ℕ}
use Rattle.nl_cmd_words.specs.Ends.{damaged}
use Rattle.nl_cmd_words.specs.Others.{IsDamaged}
use Rattle.nl_print.specs.Texts.{damaged_text}
use Rattle.nl_volume.specs.Opened.{IsReason}
use Rattle.nl_cmd_view.proofs.refusing.refused.Goals as goal

pub returns-in-Damaged-clause-ended : goal.returns-in-Damaged-clause-ended
returns-in-Damaged-clause-ended g c = λ before reason.
    let known = subst (IsReason g.M.Nand.tells g.M.Nand.contents g.M.Nand.read_faults before) c.in-Damaged.is reason in
    let why : g.M.Nand.tells → IsDamaged (g.M.Nand.contents before) c.in-Damaged.place = λ told. record { readable = (known told).0; first = (known told).1; not_sound = (known told).2 } in (
      damaged_text c.in-Damaged.place,
      damaged c.in-Damaged.place c.without_lines.ensures.status refl why,
      record {
        answer = c.damaged_line.result;
        taken = c.damaged_line.ensures.text;
        never_falls = c.damaged_line.ensures.never_falls;
        cause = c.damaged_line.ensures.cause;
      },
    )
