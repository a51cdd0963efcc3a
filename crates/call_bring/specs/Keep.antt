-- A bring-in's conditions of its arguments, once the state is sound and the answer list long enough, in 01's order; and what holds of a store with a
-- capacity when only those of its need are left. Assumes nothing.
use Rattle.std.specs.Prelude.{ℕ, ◌<◌, ◌≡◌, List, [], ◌∷◌, Float}
use Rattle.model.specs.declared.Span.{Span}
use Rattle.model.specs.State.{State, stores_of, capacity_of}
use Rattle.model.specs.Sound.{Sound, Finite}
use Rattle.model.specs.Refusals.{Condition, OutList, OutFits, SpanIn, no_store, bad_span, bad_time}

-- 2, 4 and 5
abbrev pub argument_refusals : State → ℕ → Span → Float → List Condition
argument_refusals st s sp time = no_store st s ∷ bad_span st sp ∷ bad_time time ∷ []

pub record KeepReady (st : State) (l : OutList) (s : ℕ) (sp : Span) (time : Float) : Type 0 where
  pub sound : Sound st
  pub fits : OutFits l
  pub store : s < stores_of st
  pub span : SpanIn st.tree sp
  pub finite : Finite time
  pub some : capacity_of st s ≡ 0 → ⊥
