-- As what a map is drawn: as lines of text, or as a picture.
use Rattle.std.specs.Prelude.{ℕ, List, ◌++◌}
use Rattle.nl_field.specs.Medium.{shape_of_image}
use Rattle.nl_field.specs.Page.{Image}
use Rattle.nl_field.specs.declared.shape.Shape.{Shape}
use Rattle.nl_meta.specs.Walk.{opening_answer}
use Rattle.nl_map_pages.specs.Marks.{looks_of}
use Rattle.nl_map_pages.specs.declared.look.Look.{Look}
use Rattle.nl_map.specs.Svg.{svg_text}
use Rattle.nl_map.specs.Text.{body_text, heading_of}
use Rattle.nl_map.specs.declared.form.Form.{Form}
use Rattle.nl_map.specs.declared.form.Form.TheVariants.{Text, Svg}

-- with this first line
abbrev pub drawn_text : Form → List ℕ → Shape → List Look → List ℕ
drawn_text Text line shape looks = line ++ body_text shape looks
drawn_text Svg line shape looks = svg_text line shape looks

-- The map of an image in a form: `map_text`, or `map_svg`.
abbrev pub map_in : Form → Image → List ℕ
map_in form image = drawn_text form (heading_of image (opening_answer image)) (shape_of_image image) (looks_of image)
