-- The script of a soak is accepted.
use Rattle.std.proofs.Common.{◌≡◌, ◌<◌, ◌≤◌, ℕ, zero, suc, ◌+◌, ◌*◌, List, [], ◌∷◌, ◌++◌, length, refl, sym, ◌∙◌, ap, arith, length-append}
use Rattle.std.specs.Prelude.{Result, Ok, Err, IfOk, flat_map, map}
use Rattle.std.specs.List.{AllByRecursion, range_with_len}
use Rattle.std.proofs.Math.Nat.{mul-le-mul_left}
use Rattle.std.proofs.lemmas.Grind.{flat_map-append}
use Rattle.std.proofs.lemmas.List.FromFn.{length-map-range_with_len}
use Rattle.nl_tree.specs.declared.call.Line.{Line}
use Rattle.nl_script.specs.Script.{script}
use Rattle.nl_script.proofs.Tokens.{joined}
use Rattle.nl_script.proofs.Accepted.{IsCallOf, ended, HasNoEnd, script_of_lines}
use Rattle.nl_gen.specs.declared.drawn.Drawn.{Drawn}
use Rattle.nl_gen.specs.Soak.{first_word, after_word, generator, drawn_of, soak_line, mkdir_text, round_text, soak_text}
use Rattle.nl_gen.proofs.SoakLines.{tokens, mkdir_tokens, text_is, mkdir_is, IsGood, line_good, mkdir_good, drawn_in_range}

abbrev drawn_at : ℕ → ℕ → ℕ → Drawn
drawn_at seed round worker =
    let g = generator seed worker round in
    drawn_of (first_word g) (first_word (after_word g)) (first_word (after_word (after_word g)))

raw_at : ℕ → ℕ → ℕ → List ℕ
raw_at seed round worker = joined (tokens worker (drawn_at seed round worker))

mkdir_raw : ℕ → List ℕ
mkdir_raw worker = joined (mkdir_tokens worker)

line_is : (seed round worker : ℕ) → soak_line seed round worker ≡ ended (raw_at seed round worker)
unfolding raw_at
line_is seed round worker = text_is worker (drawn_at seed round worker)

directory_line_is : (worker : ℕ) → mkdir_text worker ≡ ended (mkdir_raw worker)
unfolding mkdir_raw
directory_line_is worker = mkdir_is worker

good_at : (seed round worker : ℕ) → worker < 8 → IsGood (raw_at seed round worker)
unfolding raw_at
good_at seed round worker h = line_good worker (drawn_at seed round worker) h (drawn_in_range _ _ _)

good_directory : (worker : ℕ) → worker < 8 → IsGood (mkdir_raw worker)
unfolding mkdir_raw
good_directory worker h = mkdir_good worker h

of_map : (g h : ℕ → List ℕ) → ((k : ℕ) → g k ≡ ended (h k)) → (ks : List ℕ) → flat_map g ks ≡ flat_map ended (map h ks)
of_map g h e [] = refl
of_map g h e (k ∷ ks) = ap (λ (t : List ℕ). t ++ flat_map g ks) (e k) ∙ ap (λ (t : List ℕ). ended (h k) ++ t) (of_map g h e ks)

round_raws : ℕ → ℕ → ℕ → List (List ℕ)
round_raws seed workers round = map (raw_at seed round) (range_with_len 0 workers)

raws : ℕ → ℕ → List ℕ → List (List ℕ)
raws seed workers [] = []
raws seed workers (i ∷ is) = round_raws seed workers i ++ raws seed workers is

of_rounds : (seed workers : ℕ) (is : List ℕ) → flat_map (round_text seed workers) is ≡ flat_map ended (raws seed workers is)
unfolding raws round_raws
of_rounds seed workers [] = refl
of_rounds seed workers (i ∷ is) =
    ap (λ (t : List ℕ). t ++ flat_map (round_text seed workers) is) (of_map (soak_line seed i) (raw_at seed i) (line_is seed i) (range_with_len 0 workers))
    ∙ ap (λ (t : List ℕ). flat_map ended (map (raw_at seed i) (range_with_len 0 workers)) ++ t) (of_rounds seed workers is)
    ∙ sym (flat_map-append ended (map (raw_at seed i) (range_with_len 0 workers)) (raws seed workers is))

all_both : (P : List ℕ → Type 0) (xs ys : List (List ℕ)) → AllByRecursion P xs → AllByRecursion P ys → AllByRecursion P (xs ++ ys)
all_both P [] ys h k = k
all_both P (x ∷ xs) ys h k = (h.0, all_both P xs ys h.1 k)

all_map : (P : List ℕ → Type 0) (h : ℕ → List ℕ) (a n : ℕ) → ((k : ℕ) → k < a + n → P (h k)) → AllByRecursion P (map h (range_with_len a n))
all_map P h a zero each = tt
all_map P h a (suc n) each = (each a (omega arith), all_map P h (a + 1) n (λ k lt. each k (omega arith)))

all_raws : (seed workers : ℕ) → workers ≤ 8 → (is : List ℕ) → AllByRecursion IsGood (raws seed workers is)
unfolding raws round_raws
all_raws seed workers few [] = tt
all_raws seed workers few (i ∷ is) =
    all_both IsGood (map (raw_at seed i) (range_with_len 0 workers)) (raws seed workers is) (all_map IsGood (raw_at seed i) 0 workers (λ k lt. good_at seed i k (omega arith))) (all_raws seed workers few is)

count_raws : (seed workers : ℕ) (is : List ℕ) → length (raws seed workers is) ≡ length is * workers
unfolding raws round_raws
count_raws seed workers [] = omega arith
count_raws seed workers (i ∷ is) =
    let rest = count_raws seed workers is in
    let one = length-map-range_with_len (raw_at seed i) 0 workers in
    omega (arith, length-append (map (raw_at seed i) (range_with_len 0 workers)) (raws seed workers is))

calls_of : (rs : List (List ℕ)) → AllByRecursion IsGood rs → AllByRecursion (λ r. IsCallOf 256 r) rs
calls_of [] h = tt
calls_of (r ∷ rs) h = (h.0.call_of, calls_of rs h.1)

ends_of : (rs : List (List ℕ)) → AllByRecursion IsGood rs → AllByRecursion HasNoEnd rs
ends_of [] h = tt
ends_of (r ∷ rs) h = (h.0.no_end, ends_of rs h.1)

size_of : (rs : List (List ℕ)) → AllByRecursion IsGood rs → length (flat_map ended rs) ≤ 79 * length rs
size_of [] h = omega arith
size_of (r ∷ rs) h =
    let one = h.0.short in
    let rest = size_of rs h.1 in
    omega (arith, length-append r (10 ∷ []), length-append (ended r) (flat_map ended rs))

length_range : (a n : ℕ) → length (range_with_len a n) ≡ n
length_range a zero = refl
length_range a (suc n) = ap suc (length_range (a + 1) n)

pub soak_accepted : (seed lines workers : ℕ) → lines ≤ 20000 → workers ≤ 8 → (made : List Line) × (script (soak_text seed lines workers) ≡ Ok made) × (length made ≡ workers * (lines + 1))
unfolding soak_text
soak_accepted seed lines workers few small =
    let is = range_with_len 0 lines in
    let first = map mkdir_raw (range_with_len 0 workers) in
    let rest = raws seed workers is in
    let all = first ++ rest in
    let text : soak_text seed lines workers ≡ flat_map ended all =
    ap (λ (t : List ℕ). t ++ flat_map (round_text seed workers) is) (of_map mkdir_text mkdir_raw directory_line_is (range_with_len 0 workers))
    ∙ ap (λ (t : List ℕ). flat_map ended first ++ t) (of_rounds seed workers is) ∙ sym (flat_map-append ended first rest) in
    let good : AllByRecursion IsGood all = all_both IsGood first rest (all_map IsGood mkdir_raw 0 workers (λ k lt. good_directory k (omega arith))) (all_raws seed workers small is) in
    let products : lines * workers ≤ lines * 8 = mul-le-mul_left lines small in
    let rounds : length is ≡ lines = length_range 0 lines in
    let many : length rest ≡ lines * workers = count_raws seed workers is ∙ ap (λ n. n * workers) rounds in
    let count : length all ≡ workers * (lines + 1) = omega (arith, length-append first rest, length-map-range_with_len mkdir_raw 0 workers) in
    let most : length all ≤ 160008 = omega (arith, length-append first rest, length-map-range_with_len mkdir_raw 0 workers) in
    let size = size_of all good in
    let made = script_of_lines 256 all (ends_of all good) (calls_of all good) (omega arith) (omega arith) (omega arith) in
    (made.0, ap script text ∙ made.1, made.2 ∙ count)

pub accepted_if : {E : Type 0} (r : Result (List ℕ) E) (s : List ℕ) (m : ℕ) → (made : List Line) × (script s ≡ Ok made) × (length made ≡ m) → IfOk r (λ t. t ≡ s) → IfOk r (λ t. (made : List Line) × (script t ≡ Ok made) × (length made ≡ m))
accepted_if (Ok t) s m a e = (a.0, ap script e ∙ a.1, a.2)
accepted_if (Err x) s m a e = tt
