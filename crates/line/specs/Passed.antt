-- Internal: what the fast forms of a search promise one another: which places a search has passed.
use Rattle.std.specs.Prelude.{ℕ, ◌≤◌, ◌<◌, ◌≡◌, Bool, true, false, List, get_or}
use Rattle.line.specs.Line.{is_start}

-- a search from one place came to another, not past its end, and each place between is such that it could be passed
pub record Passed (P : ℕ → Type 0) (from to end : ℕ) : Type 0 where
  pub forth : from ≤ to
  pub within : to ≤ end
  pub each : (k : ℕ) → from ≤ k → k < to → P k

-- the same, and the search stopped there because what it looks for is there, or at its end
pub record Stopped (P Q : ℕ → Type 0) (from to end : ℕ) : Type 0 where
  pub passed : Passed P from to end
  pub here : to < end → Q to

-- the octet, or the mark, at a place is v, or another
abbrev pub Has : List ℕ → ℕ → ℕ → Type 0
Has l v k = get_or l k 0 ≡ v

abbrev pub Lacks : List ℕ → ℕ → ℕ → Type 0
Lacks l v k = get_or l k 0 ≡ v → ⊥

-- whether the symbol at a place of the two buffers is a Start
abbrev pub start_at : List ℕ → List ℕ → ℕ → Bool
start_at os ms k = is_start (record { octet = get_or os k 0; mark = get_or ms k 0 })

abbrev pub NoStart : List ℕ → List ℕ → ℕ → Type 0
NoStart os ms k = start_at os ms k ≡ false

abbrev pub Start : List ℕ → List ℕ → ℕ → Type 0
Start os ms k = start_at os ms k ≡ true
