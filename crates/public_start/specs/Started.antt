-- A touch of store s with n spans, before the first is looked at: begun where the state st is sound; else refused, 1, and with no node, so that no span is looked up. Assumes nothing.
use Rattle.std.specs.Prelude.{ℕ, ◌≡◌, Bool, true, false, List, Float}
use Rattle.model.specs.State.{State}
use Rattle.model.specs.Sound.{Sound}
use Rattle.model.specs.Words.{Says}
use Rattle.call_touch_span.specs.declared.Turn.{Turn}
use Rattle.call_touch_span.specs.Turn.{Begun}

pub record Stopped (y : Turn) : Type 0 where
  pub number : y.run.number ≡ 1
  pub nodes : y.nodes ≡ 0

pub record Started (st : State) (x : List ℕ) (s n : ℕ) (time : Float) (counted : Bool) (y : Turn) : Type 0 where
  pub tested : Bool
  pub says : Says tested (Sound st)
  pub begun : tested ≡ true → Begun x s n time counted y
  pub stopped : tested ≡ false → Stopped y
