use Rattle.std.proofs.Common.{arith, sym, ap, length, ◌∙◌, ◌≡◌, ◌-◌, ◌*◌, ◌+◌, min, take, drop, replicate, length-take, length-drop, List, ℕ}
use Rattle.std.proofs.lemmas.List.{length-replicate}
use Rattle.nl_field.specs.FileContent.{overlaid}
use Rattle.nl_tree.specs.declared.call.Call.{Call}
use Rattle.nl_calls_bytes.proofs.laying.lay_over.Goals as goal
use Rattle.nl_calls_bytes.specs.Ranges.{data_of, from_of, len_of}
use Rattle.nl_calls_bytes.proofs.Laid.{in-page, laid, piece, piece-fill, piece-write}
use Rattle.nl_calls_bytes.proofs.laying.lay_over.Goals.{else-rest-room, then-rest-room}

pub returns-in-Write : goal.returns-in-Write
returns-in-Write c =
    let index = c.args.index in
    let from = from_of c.args.call.now in
    let b = c.saturating_sub-before.result in
    let s = c.saturating_sub-skipped.result in
    let k = c.if-rest-room.count in
    let bytes = c.in-Write.bytes in
    let new = c.copy_from_slice.new.self in
    let inside = in-page index from (len_of c.args.call.now) c.requires.written in
    let len : len_of c.args.call.now ≡ length bytes = ap len_of c.in-Write.is in
    let at : b ≡ from - 4096 * index = omega arith in
    let skip : s ≡ 4096 * index - from = omega arith in
    let count : k ≡ min (length bytes - s) (4096 - b) = elim c.if-rest-room.branch [ then-rest-room w ↦ omega arith | else-rest-room w ↦ omega arith ] in
    let is : new ≡ take (s + k - s) (drop s bytes) = c.copy_from_slice.ensures.after ∙ ap (λ (xs : List ℕ). take (s + k - s) (drop s xs)) c.bytes.ensures in
    let made : new ≡ piece index from bytes = piece-write index from b s k bytes new at skip count is in
    let long = ap length is ∙ length-take (s + k - s) (drop s bytes) in
    let rest = length-drop s bytes in
    laid c.args.page.now new bytes index from b (b + k - b) at made (omega (arith, long, rest, count)) ∙ ap (λ (x : Call). overlaid c.args.page.now index from (data_of x)) (sym c.in-Write.is)

pub returns-in-Fill : goal.returns-in-Fill
returns-in-Fill c =
    let index = c.args.index in
    let from = from_of c.args.call.now in
    let b = c.saturating_sub-before.result in
    let s = c.saturating_sub-skipped.result in
    let k = c.if-rest-room.count in
    let new = c.fill.new.self in
    let byte = c.in-Fill.byte in
    let many = len_of c.args.call.now in
    let inside = in-page index from many c.requires.written in
    let at : b ≡ from - 4096 * index = omega arith in
    let skip : s ≡ 4096 * index - from = omega arith in
    let count : k ≡ min (many - s) (4096 - b) = elim c.if-rest-room.branch [ then-rest-room w ↦ omega arith | else-rest-room w ↦ omega arith ] in
    let len = length-take (b + k - b) (drop b c.args.page.now) in
    let rest = length-drop b c.args.page.now in
    let whole = c.requires.whole in
    let all : length (take (b + k - b) (drop b c.args.page.now)) ≡ k = omega (arith, len, rest, whole, count, inside.1) in
    let is : new ≡ replicate k byte = c.fill.ensures.after (λ y e. e) ∙ ap (λ (n : ℕ). replicate n byte) all in
    let made : new ≡ piece index from (replicate many byte) = piece-fill index from b s k many byte new at skip count is in
    let long = ap length is ∙ length-replicate k byte in
    laid c.args.page.now new (replicate many byte) index from b (b + k - b) at made (omega (arith, long))
    ∙ (λ i. overlaid c.args.page.now index from (replicate (ap len_of c.in-Fill.is i) byte)) ∙ ap (λ (x : Call). overlaid c.args.page.now index from (data_of x)) (sym c.in-Fill.is)
