-- Small facts on numbers.
use Rattle.std.proofs.Common.{◌≡◌, ℕ, ◌+◌, ◌-◌, ◌*◌, ◌<◌, ◌≤◌, ap, arith}
use Rattle.nl_field.specs.CrashStates.{Earlier, Rose, saturated}
use Rattle.nl_field.specs.Page.{Image, erased, page_at}
use Rattle.nl_nand.specs.Nand.{CanProgram}

pub same_most : {n : ℕ} → n ≤ n
same_most = omega arith

pub some_none : {n : ℕ} → 0 < n → n ≡ 0 → ⊥
some_none some none = omega (arith, some, none)

pub not_full : {used size : ℕ} → size ≤ used → used < size → ⊥
not_full full room = omega (arith, full, room)

pub not_left : {used size : ℕ} → size ≤ used → 0 < size - used → ⊥
not_left full some = omega (arith, full, some)

pub room_left : {used size : ℕ} → used < size → 0 < size - used
room_left room = omega (arith, room)

pub none_used : {used now mid size : ℕ} → used ≡ 0 → now ≡ mid → mid ≡ size → 0 < size → used < now
none_used none a b some = omega (arith, none, a, b, some)

pub below_count : {n m count : ℕ} → n < m → count ≡ m → n < count
below_count less same = omega (arith, less, same)

pub below_more : {n m more : ℕ} → n < m → m ≤ more → n < more
below_more less most = omega (arith, less, most)

pub clock_same : {n : ℕ} → (n ≤ n) × (n ≤ n + 1)
clock_same = (omega arith, omega arith)

pub clock_ticks : (a : ℕ) {b : ℕ} → b ≡ saturated (a + 1) → b ≤ a + 1
clock_ticks a tick = omega (arith, tick)

pub clock_stays : {a b : ℕ} → b ≡ a → b ≤ a + 1
clock_stays same = omega (arith, same)

pub earlier : (a : ℕ) {b : ℕ} → b ≡ saturated (a + 1) → Earlier a b
earlier a tick below = omega (arith, tick, below)

pub rose_by : (a : ℕ) {b : ℕ} → b ≡ saturated (a + 1) → Rose a b
rose_by a rose = omega (arith, rose)

pub one_page : {n : ℕ} → (n ≤ n) × (n < n + 1)
one_page = (omega arith, omega arith)

pub left_some : (dead : ℕ) {size left : ℕ} → dead + 1 ≤ size → left ≡ size - dead → left ≡ 0 → ⊥
left_some dead few is none = omega (arith, few, is, none)

pub left_zero : {dead size left : ℕ} → dead ≡ size → left ≡ size - dead → left ≡ 0
left_zero all is = omega (arith, all, is)

pub lands_some : (dead : ℕ) {size left landing : ℕ} → dead + 1 ≤ size → left ≡ size - dead → left ≤ landing → 0 < landing
lands_some dead few is most = omega (arith, few, is, most)

-- with three pairs for each page of a block there is room for more
pub some_room : (left : ℕ) {pairs room told size now : ℕ} → pairs + room ≡ 4 * size → told + left ≤ 3 * size → told ≡ pairs → 0 < size → now ≡ room → 0 < now
some_room left all few told some same = omega (arith, all, few, told, some, same)

pub fewer_with : {now mid old here was : ℕ} → now ≡ mid → mid + here ≡ old + 0 → was ≡ here → now + was ≡ old
fewer_with same fewer at = omega (arith, same, fewer, at)

-- the next page of a block can be programmed
pub can_program : {image : Image} {size used page : ℕ} (block : ℕ) → image.pages ≡ size → used < size → page ≡ block * size + used
    → ((p : ℕ) → block * size + used ≤ p → p < block * size + used + (size - used) → page_at image p ≡ erased) → CanProgram image page
can_program {image} {size} {used} {page} block pages room at blank =
    let same : block * image.pages ≡ block * size = ap (λ n. block * n) pages in
    record {
      block = block;
      from = omega (arith, at, same);
      below = omega (arith, at, same, pages, room);
      rest_erased = λ p from below. blank p (omega (arith, at, from)) (omega (arith, at, same, pages, room, below));
    }
