-- Where a span's pin entry stands among the n entries of four columns from place a on, or where it goes in. Assumes nothing.
use Rattle.std.specs.Prelude.{ℕ, ◌+◌, ◌≤◌, ◌<◌, ◌≡◌, Bool, true, false, length, Result, MatchResult}
use Rattle.model.specs.declared.Span.{Span}
use Rattle.model.specs.State.{Pins, at}
use Rattle.model.specs.Pins.{pin_of, same_span, pin_ahead}

-- each column has a store's 32 places from a on
pub record PinsFrom (a : ℕ) (c : Pins) : Type 0 where
  pub node : a + 32 ≤ length c.node
  pub start : a + 32 ≤ length c.start
  pub end : a + 32 ≤ length c.end
  pub count : a + 32 ≤ length c.count

-- the span at place i
abbrev pub span_at : Pins → ℕ → Span
span_at c i = record { node = at c.node i; start = at c.start i; end = at c.end i }

-- the two spans are one; the first stands before the second
abbrev pub same : Span → Span → Bool
same a b = same_span (pin_of a 1) (pin_of b 1)

abbrev pub before : Span → Span → Bool
before a b = pin_ahead (pin_of a 1) (pin_of b 1)

-- where n spans stand, one after another: sp is behind the first i of them
abbrev pub Passed : (ℕ → Span) → Span → ℕ → Type 0
Passed spans sp i = (k : ℕ) → k < i → (same sp (spans k) ≡ false) × (before sp (spans k) ≡ false)

-- the i-th is sp, and the first such
pub record Stands (spans : ℕ → Span) (n : ℕ) (sp : Span) (i : ℕ) : Type 0 where
  pub high : i < n
  pub passed : Passed spans sp i
  pub found : same sp (spans i) ≡ true

-- none up to there is sp, and it goes in before the i-th
pub record GoesIn (spans : ℕ → Span) (n : ℕ) (sp : Span) (i : ℕ) : Type 0 where
  pub high : i ≤ n
  pub passed : Passed spans sp i
  pub next : i < n → (same sp (spans i) ≡ false) × (before sp (spans i) ≡ true)

-- what a search answers
abbrev pub Placed : (ℕ → Span) → ℕ → Span → Result ℕ ℕ → Type 0
Placed spans n sp r = MatchResult r (Stands spans n sp) (GoesIn spans n sp)

-- the spans of the entries from place a on
abbrev pub spans_from : Pins → ℕ → ℕ → Span
spans_from c a i = span_at c (a + i)
