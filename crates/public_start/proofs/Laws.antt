-- What the test said of the state, with what was made of it. Assumes nothing.
use Prim.Native.Nat.{ℕ, ◌≤◌}
use mathlib.Core.Path.{◌≡◌, sym, ◌∙◌}
use mathlib.Core.Bool.{Bool, true, false, true≢false}
use mathlib.Core.List.{List}
use lib.ListN.{length}
use lib.Ieee.{Float}
use Rattle.model.specs.Words.{Says}
use Rattle.model.specs.Sizes.{max_stores, max_numbers}
use Rattle.model.specs.State.{State, stores_of}
use Rattle.model.specs.Sound.{Sound}
use Rattle.theory_refuse.proofs.Says.{says_true}
use Rattle.call_touch_span.specs.declared.Turn.{Turn}
use Rattle.call_touch_span.specs.Turn.{Begun}
use Rattle.public_start.specs.Started.{Stopped, Started}

-- a sound state's small numbers can be read
pub begin_asks : (st : State) {b : Bool} → Says b (Sound st) → b ≡ true → (max_numbers ≤ length st.books) × (stores_of st ≤ max_stores)
begin_asks st h e = let v = says_true e h in (v.lent.books, v.counts.stores)

-- what the test said of the state, with what was made of it
pub started-begun : {st : State} {x : List ℕ} {s n : ℕ} {time : Float} {counted : Bool} {y : Turn} {b : Bool} → Says b (Sound st) → b ≡ true → Begun x s n time counted y → Started st x s n time counted y
started-begun {b = b} h e g = record { tested = b; says = h; begun = λ _. g; stopped = λ f. absurd (true≢false (sym e ∙ f)) }

pub started-stopped : {st : State} {x : List ℕ} {s n : ℕ} {time : Float} {counted : Bool} {y : Turn} {b : Bool} → Says b (Sound st) → b ≡ false → Stopped y → Started st x s n time counted y
started-stopped {b = b} h e g = record { tested = b; says = h; begun = λ f. absurd (true≢false (sym f ∙ e)); stopped = λ _. g }
