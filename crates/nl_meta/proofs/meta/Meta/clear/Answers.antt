use Rattle.std.proofs.Common.{◌≡◌, ◌<◌, ◌^◌, [], List, Bool, ℕ, ap, subst, sym, ◌∙◌, length, map, take, replicate, false, vec_len, rules}
use Rattle.nl_meta.specs.Inside.{IsMetaState, slots}
use Rattle.nl_meta.specs.Pages.{Pages, no_pages}
use Rattle.nl_meta.proofs.Kept.{blank, slots-length, slots-none}
use Rattle.nl_meta.proofs.meta.Meta.clear.Goals as goal

pub invariant_of-self : goal.invariant_of-self
invariant_of-self c =
    let n = vec_len c.self.inside.resident in
    let e : n ≡ length c.self.inside.resident.items = search rules in
    let pages : length c.self.inside.pages.items ≡ n = sym (e ∙ c.self.invariant.each) in
    subst (λ (bs : List Bool). IsMetaState c.self.inside.pages.items bs 0 c.new-self-inside.result c.new-self-inside-2.result c.new-self-inside-3.result c.self.inside.images.items) (sym (c.fill.ensures.items (λ y e. e)))
    (subst (λ (xs : List ℕ). IsMetaState c.self.inside.pages.items (replicate n false) 0 xs c.new-self-inside-2.result c.new-self-inside-3.result c.self.inside.images.items) (sym c.new-self-inside.ensures)
    (subst (λ (xs : List ℕ). IsMetaState c.self.inside.pages.items (replicate n false) 0 [] xs c.new-self-inside-3.result c.self.inside.images.items) (sym c.new-self-inside-2.ensures)
    (subst (λ (xs : List ℕ). IsMetaState c.self.inside.pages.items (replicate n false) 0 [] [] xs c.self.inside.images.items) (sym c.new-self-inside-3.ensures)
    (blank c.self.inside.pages.items c.self.inside.images.items n pages (subst (λ k. k < 2 ^ 32) pages c.self.invariant.room) c.self.invariant.images_room))))

pub returns : goal.returns
unfolding no_pages
returns c =
    let n = vec_len c.self.inside.resident in
    let e : n ≡ length c.self.inside.resident.items = search rules in
    let count : length c.args.self.now.running ≡ n = ap (λ (p : Pages). length p.running) (sym c.self.view_is) ∙ slots-length c.self.inside.resident.items c.self.inside.pages.items c.self.invariant.each ∙ sym e in
    (λ i. record {
      running = (ap (λ (bs : List Bool). slots bs c.self.inside.pages.items) (c.fill.ensures.items (λ y e. e)) ∙ slots-none n c.self.inside.pages.items (e ∙ c.self.invariant.each)) i;
      dirty = c.new-self-inside.ensures i;
      recent = c.new-self-inside-2.ensures i;
      frozen = record { addresses = c.new-self-inside-3.ensures i; images = ap (λ (xs : List ℕ). map (λ page. page.main) (take (length xs) c.self.inside.images.items)) c.new-self-inside-3.ensures i };
    }) ∙ ap no_pages (sym count)
