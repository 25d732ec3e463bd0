use Rattle.std.proofs.Common.{◌≡◌, ◌*◌, ◌+◌, arith, refl}
use Rattle.std.proofs.lemmas.List.Folds.{list_all_more}
use Rattle.byteorder.proofs.Slices.{write_step}
use Rattle.nl_field.specs.Pointers.{no_pointer, pointer_bytes, fits_pointer}
use Rattle.nl_field.proofs.Widths.{length-pointer_bytes}
use Rattle.nl_field.proofs.numbers.fill_pointers.Goals as goal

pub loop-i-preserved : goal.loop-i-preserved
loop-i-preserved c =
    let e : 16 * (c.loop-i.i + 1) ≡ 16 * c.loop-i.i + 16 = omega arith in
    let len = c.loop-i.auto.out in (
      rw (e, c.put_pointer.ensures.bytes)
          (write_step pointer_bytes 16 c.args.from.now no_pointer c.loop-i.out _ _ _ c.loop-i.i (omega arith) (omega arith) (length-pointer_bytes _) refl c.loop-i.invariant.0),
      rw (list_all_more fits_pointer c.args.from.now c.loop-i.i no_pointer (omega arith), c.loop-i.invariant.1) c.put_pointer.ensures.fits,
    )
