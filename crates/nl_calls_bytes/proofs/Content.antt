-- The content of a file whose pages are put one after the other, as a call that writes makes them.
use Rattle.std.proofs.Common.{◌≡◌, ℕ, ◌+◌, ◌<◌, ◌==◌, max, nat_lt, Bool, true, false, ◌||◌, cond, List, [], ◌∷◌, length, fold, refl, sym, ap, ◌∙◌, Some, IsTrue, inl, inr}
use Rattle.std.specs.Bool.{passes}
use Rattle.std.specs.List.{list_any}
use Rattle.std.specs.Ordering.{nat_cmp}
use Rattle.std.specs.Cmp.{both_ways, nat_cmp_total, unsigned_tied}
use Rattle.std.specs.FinMap.{nat_cmp-IsAntisymmetric}
use Rattle.std.specs.FinMap.Entries.{find, find-put, is_sorted, is_sorted-put, put, same_entries}
use Rattle.std.proofs.lemmas.Bool.{and_parts, cond-true, eq-eqb, eqb-true, lt-ltb}
use Rattle.nl_tree_content.specs.ContentLaws.{is_touched}
use Rattle.nl_field.specs.FileContent.{FileContent, is_content, overlaid, page_bytes, written_over}
use Rattle.nl_field.specs.Members.{Has}
use Rattle.nl_tree_content.proofs.ContentPages.{is_true}
use Rattle.nl_tree_content.proofs.ContentProofs.{write_laws}
use Rattle.nl_calls_bytes.specs.Contents.{IsWholeWrite}
use Rattle.nl_calls_files.specs.LineNeeds.{with_pages}

abbrev Pages : Type 0
Pages = List (ℕ × List ℕ)

abbrev put_all : Pages → Pages → Pages
put_all entries pages = fold (λ entries page. put nat_cmp page.0 page.1 entries) entries pages

abbrev at_index : ℕ → ℕ × List ℕ → Bool
at_index q page = q == page.0

found-put : (f : ℕ → List ℕ) (pages entries : Pages) (q : ℕ) → ((p : ℕ × List ℕ) → Has pages p → p.1 ≡ f p.0) → find nat_cmp q (put_all entries pages) ≡ cond (list_any (at_index q) pages) (Some (f q)) (find nat_cmp q entries)
found-put f [] entries q each = refl
found-put f (p ∷ pages) entries q each =
    found-put f pages (put nat_cmp p.0 p.1 entries) q (λ r has. each r (inr has))
    ∙ ap (cond (list_any (at_index q) pages) (Some (f q))) (find-put nat_cmp nat_cmp_total q p.0 p.1 entries ∙ ap (λ b. cond b (Some p.1) (find nat_cmp q entries)) (unsigned_tied q p.0))
    ∙ by (q == p.0) (list_any (at_index q) pages) refl
  where
    same : (q == p.0) ≡ true → Some p.1 ≡ Some (f q)
    same e = ap Some (each p (inl refl) ∙ ap f (sym (eqb-true q p.0 e)))

    by : (a b : Bool) → (q == p.0) ≡ a → cond b (Some (f q)) (cond a (Some p.1) (find nat_cmp q entries)) ≡ cond (a || b) (Some (f q)) (find nat_cmp q entries)
    by true true e = refl
    by true false e = same e
    by false b e = refl

sorted-put : (pages entries : Pages) → is_sorted nat_cmp entries ≡ true → is_sorted nat_cmp (put_all entries pages) ≡ true
sorted-put [] entries h = h
sorted-put (p ∷ pages) entries h = sorted-put pages (put nat_cmp p.0 p.1 entries) (is_true _ (is_sorted-put nat_cmp nat_cmp_total p.0 p.1 entries (passes _ h)))

any-has : (q : ℕ) (pages : Pages) → list_any (at_index q) pages ≡ true → (p : ℕ × List ℕ) × Has pages p × (q ≡ p.0)
any-has q [] e = absurd (cc e)
any-has q (p ∷ pages) e = by (q == p.0) refl e (any-has q pages)
  where
    by : (b : Bool) → (q == p.0) ≡ b → (b || list_any (at_index q) pages) ≡ true → (list_any (at_index q) pages ≡ true → (p : ℕ × List ℕ) × Has pages p × (q ≡ p.0)) → (r : ℕ × List ℕ) × Has (p ∷ pages) r × (q ≡ r.0)
    by true is e rest = (p, inl refl, eqb-true q p.0 is)
    by false is e rest = let r = rest e in (r.0, inr r.1, r.2)

pub has-any : (q : ℕ) (pages : Pages) (p : ℕ × List ℕ) → Has pages p → q ≡ p.0 → list_any (at_index q) pages ≡ true
has-any q [] p none e = absurd none
has-any q (r ∷ pages) p (inl is) e = ap (λ (b : Bool). b || list_any (at_index q) pages) (eq-eqb q r.0 (e ∙ ap (λ (x : ℕ × List ℕ). x.0) (sym is)))
has-any q (r ∷ pages) p (inr has) e = ap (λ (b : Bool). (q == r.0) || b) (has-any q pages p has e) ∙ by (q == r.0)
  where
    by : (b : Bool) → (b || true) ≡ true
    by true = refl
    by false = refl

pub sorted-of : (file : FileContent) → IsTrue (is_content file) → is_sorted nat_cmp file.pages ≡ true
unfolding is_content
sorted-of file h = (and_parts (is_sorted nat_cmp file.pages) _ h).0

module _ (content : FileContent) (from : ℕ) (bytes : List ℕ) (pages : List (ℕ × List ℕ)) (right : IsTrue (is_content content)) (some : 0 < length bytes) (are : IsWholeWrite content from bytes pages) where
  laid : ℕ → List ℕ
  laid i = overlaid (page_bytes content i) i from bytes

  any-touched : (q : ℕ) → list_any (at_index q) pages ≡ is_touched from (length bytes) q
  any-touched q = both_ways _ _
      (λ e. let r = any-has q pages e in ap (is_touched from (length bytes)) r.2 ∙ are.touched r.0 r.1)
      (λ e. let r = are.all q e in has-any q pages r.0 r.1 r.2)

  same-pages : put_all content.pages pages ≡ (written_over content from bytes).pages
  unfolding laid
  same-pages =
      same_entries nat_cmp nat_cmp_total nat_cmp-IsAntisymmetric (put_all content.pages pages) (written_over content from bytes).pages
      (passes _ (sorted-put pages content.pages (sorted-of content right))) (passes _ (sorted-of (written_over content from bytes) (write_laws.is_content_still content from bytes right)))
      (λ q. found-put laid pages content.pages q are.made ∙ ap (λ b. cond b (Some (laid q)) (find nat_cmp q content.pages)) (any-touched q) ∙ sym (write_laws.page content from bytes q))

  pub is-written : (size : ℕ) → size ≡ max content.size (from + length bytes) → with_pages pages size content ≡ written_over content from bytes
  is-written size is = λ i. record { size = sizes i; pages = same-pages i }
    where
      sizes : size ≡ (written_over content from bytes).size
      sizes = is ∙ sym (write_laws.size content from bytes ∙ cond-true (nat_lt 0 (length bytes)) _ _ (lt-ltb 0 (length bytes) some))
