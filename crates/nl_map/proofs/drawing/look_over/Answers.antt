use Rattle.std.proofs.Common.{◌≡◌, ℕ, ◌*◌, ◌∙◌, length, refl, sym, ap}
use Rattle.nl_field.specs.Numbers.{shape_for}
use Rattle.nl_field.specs.declared.shape.Shape.{Shape}
use Rattle.nl_map.proofs.drawing.look_over.Goals as goal

size_of : (blocks pages : ℕ) → (shape_for blocks pages).blocks * (shape_for blocks pages).pages ≡ blocks * pages
unfolding shape_for
size_of blocks pages = refl

pub drawn-requires : goal.drawn-requires
drawn-requires g c =
    let size = c.geometry-geometry.result in
    ap length c.deref.ensures.value ∙ c.in-Ok.ensures.len ∙ sym (ap (λ (s : Shape). s.blocks * s.pages) c.in-Some.ensures.numbers ∙ size_of size.blocks size.pages)
