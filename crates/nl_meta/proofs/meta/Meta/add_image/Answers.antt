use Rattle.std.proofs.Common.{◌≡◌, ◌<◌, ◌+◌, ◌++◌, ◌∷◌, [], List, ℕ, ap, ◌∙◌, length, map, take, arith, length-append}
use Rattle.std.proofs.Math.ListN.{set}
use Rattle.std.proofs.lemmas.List.{map-append, take_more_set}
use Rattle.nl_field.specs.Page.{PageBytes}
use Rattle.nl_meta.specs.Inside.{slots}
use Rattle.nl_meta.specs.Pages.{Pages, with_image}
use Rattle.nl_meta.proofs.meta.Meta.add_image.Goals as goal

abbrev main_of : PageBytes → List ℕ
main_of page = page.main

imaged : (images all : List PageBytes) (frozen now : List ℕ) (v n : ℕ) (page : PageBytes) → now ≡ frozen ++ v ∷ [] → all ≡ set images n page → n ≡ length frozen → length frozen < length images
    → map main_of (take (length now) all) ≡ map main_of (take (length frozen) images) ++ page.main ∷ []
imaged images all frozen now v n page e a c lt =
    (λ i. map main_of (take ((ap length e ∙ length-append frozen (v ∷ [])) i) (a i)))
    ∙ ap (λ (k : ℕ). map main_of (take (length frozen + 1) (set images k page))) c
    ∙ ap (map main_of) (take_more_set images (length frozen) page lt)
    ∙ map-append main_of (take (length frozen) images) (page ∷ [])

pub returns : goal.returns
returns c =
    let lt : length c.self.inside.frozen < length c.self.inside.images.items = (let a = c.self.invariant.images_room in let b = ap (λ (p : Pages). length p.frozen.addresses) c.self.view_is in let f = c.requires.few in omega (arith, a, b, f)) in
    (λ i. record {
      running = slots c.self.inside.resident.items c.self.inside.pages.items;
      dirty = c.self.inside.dirty;
      recent = c.self.inside.recent;
      frozen = record {
        addresses = c.push.ensures i;
        images = imaged c.self.inside.images.items c.copy_page.new.images.items c.self.inside.frozen c.push.new.self c.args.vaddr c.len.result c.args.from.now c.push.ensures c.copy_page.ensures c.len.ensures.count lt i;
      };
    }) ∙ ap (λ (p : Pages). record p { frozen = with_image p.frozen c.args.vaddr c.args.from.now.main }) c.self.view_is
