use Rattle.std.proofs.Common.{List, ap, arith, drop, length, map, refl, ◌++◌, ◌+◌, ◌∙◌}
use Rattle.std.proofs.lemmas.List.{length_push}
use Rattle.nl_field.specs.declared.pointer.Pointer.{Pointer}
use Rattle.nl_meta.specs.Nodes.{Held}
use Rattle.nl_recover_pointers.specs.Held.{held_of}
use Rattle.nl_recover_pointers.proofs.Rests.{drop_got, mapped_more}
use Rattle.nl_recover_pointers.proofs.held.HeldList.pointers.Goals as goal

pub held-preserved : goal.held-preserved
held-preserved c =
    let pointer : Held → Pointer = λ h. h.pointer in
    let list = c.args.self.now in
    let one = held_of c.get.result.now in
    let count = ap length c.in_ok-push.ensures.ok ∙ length_push c.held.pointers.items c.get.result.now.pointer in
    record {
      count = omega (arith, count, c.held.invariant.count);
      rest = ap (λ (l : List Pointer). l ++ map pointer (drop (c.held.at + 1) list)) c.in_ok-push.ensures.ok
          ∙ mapped_more pointer list c.held.at one one.pointer c.held.pointers.items (map pointer list) (drop_got list c.held.at one c.get.ensures) refl c.held.invariant.rest;
    }
