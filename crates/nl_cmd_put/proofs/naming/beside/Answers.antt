use Rattle.std.proofs.Common.{◌∙◌, arith}
use Rattle.std.specs.Prelude.{bytes_eq}
use Rattle.nl_cmd_put.proofs.Named.{are_names, is_beside, same_bytes}
use Rattle.nl_cmd_put.proofs.naming.beside.Goals as goal

pub returns-clause-beside : goal.returns-clause-beside
returns-clause-beside c =
    let path = c.args.path.now in
    let some = c.requires.path in
    let many = c.len.ensures.count in
    is_beside path c.push.new.self c.in_ok-own.own c.len.result c.get.result.now c.in_ok-name.name c.in_ok-name.ensures.name many (omega (arith, some, many)) c.get.ensures
    (λ same. same_bytes c.in_ok-name.name c.get.result.now c.eq.result same (c.eq.ensures ∙ (λ i. bytes_eq (c.bytes.ensures i) (c.bytes-2.ensures i))) c.if-eq.false)
    c.in_ok-push.ensures.ok c.in_ok-own.ensures.above

pub returns-clause-names : goal.returns-clause-names
returns-clause-names c =
    are_names c.args.path.now c.push.new.self c.in_ok-own.own c.in_ok-name.name c.requires.names c.in_ok-name.ensures.name c.in_ok-push.ensures.ok c.in_ok-own.ensures.above
