use Rattle.std.proofs.Common.{◌≡◌, ◌∷◌, ◌++◌, ◌+◌, true, false, List, ℕ, sym, subst, ◌∙◌, arith}
use Rattle.std.proofs.lemmas.List.{append_assoc, length-append}
use Rattle.nl_volume.specs.contracts.volume.VolumeKept.TheImpl.{ghosts}
use Rattle.nl_put_tree.specs.Putting.{IsBeside, IsWriting, Path}
use Rattle.nl_cmd_put.specs.Phases.{HasStopped, StandsAt, WritesAll, is_count, joined}
use Rattle.nl_cmd_put.proofs.Phases.{counted, split_first, uncounted}
use Rattle.nl_cmd_put.proofs.writing.+write_all.Goals as goal

pub returns-then-is_count-clause-written : goal.returns-then-is_count-clause-written
returns-then-is_count-clause-written g t c = λ path written beside at origin o s.
    let S = (ghosts g.row.M g.M.Nand g.M.Nand-dict).stands in
    let T = g.M.Nand.tells in
    let own = c.args.own in
    let items = c.args.pieces.items in
    let rest = c.remove-piece.new.self.items in
    let piece = c.remove-piece.result in
    let split : items ≡ piece ∷ rest = split_first items rest piece c.args.pieces.len (let k = c.args.pieces.ok in omega (arith, k)) (sym c.is_empty.ensures ∙ c.if-is_empty.false) c.remove-piece.ensures.items c.remove-piece.ensures.value in
    let reply = c.write_piece-own.result.1 in
    let v1 = c.write_piece-own.new.volume in
    let n = c.args.number + 1 in
    let same : written ++ joined items ≡ written ++ (piece ++ joined rest) = (λ i. written ++ joined (split i)) in
    let one = c.write_piece-own.ensures.written path written (joined rest) beside at origin o (subst (λ (b : List ℕ). StandsAt S T origin o own path b c.args.number c.args.volume.now (IsWriting o.tree own written)) same s) in
    let test : is_count reply ≡ true = sym c.is_count.ensures ∙ c.if-is_count.true in
    let stood = counted S T origin o own path (written ++ (piece ++ joined rest)) (written ++ piece) n v1 reply test one in
    let assoc : (written ++ piece) ++ joined rest ≡ written ++ (piece ++ joined rest) = append_assoc written piece (joined rest) in
    let e = c.write_piece-own.ensures.own in
    let next = c.write_all.ensures.written path (written ++ piece) (subst (IsBeside path) (sym e) beside)
    (let l = c.len-len.ensures in let a = length-append written piece in omega (arith, at, l, a)) origin o
    (subst (λ (x : Path × List ℕ). StandsAt S T origin o x.0 path x.1 n v1 (IsWriting o.tree x.0 (written ++ piece))) (λ k. (sym e k, sym assoc k)) stood) in
    subst (λ (x : Path × List ℕ). WritesAll S T origin o x.0 path x.1 c.write_all.result.number c.write_all.new.volume c.write_all.result.stopped) (λ k. (e k, (assoc ∙ sym same) k)) next

pub returns-clause-written : goal.returns-clause-written
returns-clause-written g t c = λ path written beside at origin o s.
    let S = (ghosts g.row.M g.M.Nand g.M.Nand-dict).stands in
    let T = g.M.Nand.tells in
    let own = c.args.own in
    let items = c.args.pieces.items in
    let rest = c.remove-piece.new.self.items in
    let piece = c.remove-piece.result in
    let split : items ≡ piece ∷ rest = split_first items rest piece c.args.pieces.len (let k = c.args.pieces.ok in omega (arith, k)) (sym c.is_empty.ensures ∙ c.if-is_empty.false) c.remove-piece.ensures.items c.remove-piece.ensures.value in
    let reply = c.write_piece-own.result.1 in
    let v1 = c.write_piece-own.new.volume in
    let n = c.args.number + 1 in
    let same : written ++ joined items ≡ written ++ (piece ++ joined rest) = (λ i. written ++ joined (split i)) in
    let one = c.write_piece-own.ensures.written path written (joined rest) beside at origin o (subst (λ (b : List ℕ). StandsAt S T origin o own path b c.args.number c.args.volume.now (IsWriting o.tree own written)) same s) in
    let test : is_count reply ≡ false = sym c.is_count.ensures ∙ c.if-is_count.false in
    let stopped = uncounted S T origin o own path (written ++ (piece ++ joined rest)) (written ++ piece) n v1 reply test one in
    subst (λ (b : List ℕ). HasStopped S T origin o own path b n v1 reply) (sym same) stopped
