use Rattle.std.proofs.Common.{rules, ◌≡◌, ◌∷◌, ◌++◌, [], ◌∙◌, refl}
use Rattle.nl_tree.specs.Calls.{read_length}
use Rattle.nl_workers.specs.Filing.{rows_of}
use Rattle.nl_workers.specs.Table.{kept_bytes}
use Rattle.nl_workers.proofs.Filings.{rows_more, files_more}
use Rattle.nl_workers.proofs.desk.Desk.add.Goals as goal

pub invariant_of-self : goal.invariant_of-self
invariant_of-self c =
    files_more c.self.inside.filed.items c.push_reserved.new.self.items _ _ c.self.inside.bytes.items c.keep_bytes.new.bytes.items (kept_bytes c.room_of-room.result c.bytes.result.now) _ _ c.self.inside.lines_left c.self.inside.bytes_left c.room_of-room.result
    c.args.line c.args.answered _ c.self.invariant c.keep_bytes.ensures.bytes c.keep_bytes.ensures.few refl refl (search rules) (search rules) c.push_reserved.ensures.items (search rules) (search rules) (search rules) c.keep_bytes.ensures.capacity

pub returns-clause-rows : goal.returns-clause-rows
returns-clause-rows c =
    let tail : rows_of c.self.inside.bytes.items c.self.inside.filed.items ++ record { line = c.args.line; answered = c.args.answered; bytes = kept_bytes c.room_of-room.result c.bytes.result.now } ∷ []
    ≡ c.args.self.now.rows ++ record { line = c.args.line; answered = c.args.answered; bytes = kept_bytes (read_length c.args.call.now) c.args.out.now } ∷ [] = search rules in
    rows_more c.self.inside.filed.items c.push_reserved.new.self.items _ 0 c.self.inside.bytes.items c.keep_bytes.new.bytes.items (kept_bytes c.room_of-room.result c.bytes.result.now) _ 0 c.self.inside.lines_left c.self.inside.bytes_left c.room_of-room.result
    c.args.line c.args.answered _ c.self.invariant c.keep_bytes.ensures.bytes c.keep_bytes.ensures.few refl refl (search rules) (search rules) c.push_reserved.ensures.items ∙ tail
