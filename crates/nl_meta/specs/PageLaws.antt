-- What a change of the pages is, call by call.
use Rattle.std.specs.Prelude.{◌≡◌, ◌⊎◌, ℕ, ◌≤◌, List, None, IsSome}
use Rattle.nl_meta.specs.Pages.{Pages, page_of, touched}
use Rattle.nl_meta.specs.Steps.{Admits, ChangesRunningPages, Freshens, Misses, with_dirty}

-- The address is none of the journal's.
abbrev pub IsApart : ℕ → Type 0
IsApart v = (v ≡ 0) ⊎ (67 ≤ v)

-- Each resident page stays as it is, and one that became resident is none of the journal's.
pub record LoadsPages (old new : Pages) : Type 0 where
  pub dirty : new.dirty ≡ old.dirty
  pub frozen : new.frozen ≡ old.frozen
  pub stays : (v : ℕ) → IsSome (page_of old v) → page_of new v ≡ page_of old v
  pub apart : (v : ℕ) → IsSome (page_of new v) → IsSome (page_of old v) ⊎ IsApart v

-- All of these are changes of the pages, and so is one after the other.
pub record PagesChange (p : Pages) : Type 0 where
  pub none : ChangesRunningPages p p
  pub both : (q r : Pages) → ChangesRunningPages p q → ChangesRunningPages q r → ChangesRunningPages p r
  pub loaded : (new : Pages) → LoadsPages p new → ChangesRunningPages p new
  pub changed : (v : ℕ) (bytes : List ℕ) → IsSome (page_of p v) ⊎ IsApart v → ChangesRunningPages p (with_dirty p v bytes)
  pub freshened : (v : ℕ) (new : Pages) → IsSome (page_of p v) ⊎ IsApart v → Freshens v p new → ChangesRunningPages p new
  pub admitted : (v : ℕ) (bytes : List ℕ) (new : Pages) → IsApart v → page_of p v ≡ None → Admits v bytes p new → ChangesRunningPages p new
  pub missed : (v : ℕ) (new : Pages) → page_of p v ≡ None → Misses v p new → ChangesRunningPages p new
  pub touched : (v : ℕ) → ChangesRunningPages p (record p { recent = touched v p.recent })

abbrev pub CallsChangePages : Type 0
CallsChangePages = (p : Pages) → PagesChange p
