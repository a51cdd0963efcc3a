-- A bring-in into store s of a sound state, capacity above 0, once its gaps are known: what it needs, and what comes of it. Assumes nothing.
use Rattle.std.specs.Prelude.{ℕ, ◌+◌, ◌≤◌, ◌<◌, ◌≡◌, length, Float}
use Rattle.model.specs.declared.Span.{Span}
use Rattle.model.specs.Sizes.{store_records, max_stamp}
use Rattle.model.specs.State.{State, stores_of, next_id_of, capacity_of, records_of, stamp_of}
use Rattle.model.specs.Sound.{Sound, Finite}
use Rattle.model.specs.Store.{store_of}
use Rattle.model.specs.Bring.{gaps, bring_blocks}
use Rattle.model.specs.Refusals.{SpanIn, OutList, OutFits}
use Rattle.model.specs.Calls.{brought, bring_in, lay_outs}
use Rattle.rule_fill.specs.declared.Gaps.{Gaps}
use Rattle.rule_fill.specs.Gaps.{gaps_of}

pub record InsertReady (st : State) (l : OutList) (s : ℕ) (sp : Span) (g : Gaps) (time : Float) : Type 0 where
  pub sound : Sound st
  pub fits : OutFits l
  pub store : s < stores_of st
  pub span : SpanIn st.tree sp
  pub finite : Finite time
  pub some : capacity_of st s ≡ 0 → ⊥
  pub gaps : gaps_of g ≡ gaps sp.node (store_of st s).ranges sp.start sp.end
  pub records : records_of st s + g.n ≤ store_records
  pub stamps : stamp_of st s + g.n ≤ max_stamp
  pub ids : next_id_of st + g.n ≤ max_stamp

-- state and answer lists became stʹ and lʹ, o spans were given out, and b blocks came in
pub record BroughtIn (st : State) (l : OutList) (s : ℕ) (sp : Span) (time : Float) (w : ℕ) (stʹ : State) (lʹ : OutList) (o b : ℕ) : Type 0 where
  pub state : stʹ ≡ bring_in st s sp time w
  pub lists : lʹ ≡ lay_outs (brought st s sp time w).outs l
  pub outs : o ≡ length (brought st s sp time w).outs
  pub blocks : b ≡ bring_blocks (store_of st s) sp
