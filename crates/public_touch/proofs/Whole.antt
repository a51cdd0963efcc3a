-- The whole call over variables: what `start_touch`, `look_spans`, `touch_spans` and `finish` say one after another is the model's `store_used`, whether the state is sound or not. Assumes nothing.
use Prim.Native.Nat.{ℕ, ◌≤◌}
use mathlib.Core.Path.{◌≡◌, refl, sym, ap, ◌∙◌}
use mathlib.Core.Bool.{Bool, true, false}
use mathlib.Core.List.{List}
use mathlib.Core.Logic.{inl}
use native.Mathlib.Omega.{arith}
use lib.ListN.{length}
use lib.Ieee.{Float}
use Rattle.model.specs.declared.Span.{Span}
use Rattle.model.specs.Words.{any}
use Rattle.model.specs.State.{Tree, Ranges, State}
use Rattle.model.specs.Sound.{Sound}
use Rattle.model.specs.Refusals.{store_used_refusals}
use Rattle.model.specs.Calls.{store_used}
use Rattle.theory_refuse.proofs.Says.{says_true, says_false}
use Rattle.theory_refuse.proofs.Refusals.{first-is, store_used_exact}
use Rattle.shape_state.specs.Lent.{ranges_of}
use Rattle.shape_answer.specs.declared.StoreUsed.{StoreUsed}
use Rattle.shape_answer.specs.Answers.{outcome, store_used_of}
use Rattle.call_touch_span.specs.declared.Turn.{Turn}
use Rattle.call_touch_span.specs.Turn.{Others, whole, Writes, Finished}
use Rattle.call_touch.specs.Looking.{bad, looked_at, Looks}
use Rattle.call_touch.specs.Going.{number, Going, AtFirst, Turns}
use Rattle.call_touch.proofs.Laws.{list-looks, list-first, going-writes, going_end}
use Rattle.public_start.specs.Started.{Started}

-- a state that is not sound is refused, 1
unsound-first : (st : State) (s : ℕ) (sps : List Span) (time : Float) (counted : Bool) → (Sound st → ⊥) → number st s sps time counted ≡ 1
unsound-first st s sps time counted n = first-is (store_used_refusals st s sps time counted) (store_used_exact st s sps time counted) 1 (inl (n, refl))

still_one : (b : Bool) (y : Turn) → y.run.number ≡ 1 → (looked_at b y).run.number ≡ 1
still_one true y e = rw e refl
still_one false y e = e

module _ (o : Others) (depth bytes : List ℕ) (c₀ : Ranges) (ms₀ x : List ℕ) (s : ℕ) (sps : List Span) (time : Float) (counted : Bool) where
  abbrev began : State
  began = whole o depth bytes c₀ ms₀ x

  module _ (y₀ : Turn) (b : Started began x s (length sps) time counted y₀) where
    pub start-looks : y₀.nodes ≤ length o.len
    start-looks = go b.tested refl
      where
        go : (t : Bool) → b.tested ≡ t → y₀.nodes ≤ length o.len
        go true e = list-looks o depth bytes c₀ ms₀ x s sps time counted (says_true e b.says) y₀ (b.begun e)
        go false e = omega (arith, (b.stopped e).nodes)

    module _ (y : Turn) (v : Looks sps o.len y₀ (length sps) y) where
      -- a touch that was stopped: no turn is taken, and the pools are as they were
      stopped-first : b.tested ≡ false → Going o depth bytes c₀ ms₀ x s sps time counted 0 c₀ ms₀ y
      stopped-first e =
          let t : Tree = record { parent = o.parent; depth = depth; len = o.len; run = o.run; words = o.words; nodes = y₀.nodes; used = 0 } in
          let k : y.run.number ≡ 1 = ap (λ (q : Turn). q.run.number) (v t refl refl).is ∙ still_one (any (length sps) (bad t sps)) y₀ (b.stopped e).number in
          record {
            high = omega arith;
            carries = λ z. absurd (omega arith);
            on = λ z. absurd (omega arith);
            off = λ z. record { first = k ∙ sym (unsound-first began s sps time counted (says_false e b.says)); ranges = refl; marks = refl };
          }

      first-turn : Going o depth bytes c₀ ms₀ x s sps time counted 0 c₀ ms₀ y
      first-turn = go b.tested refl
        where
          go : (t : Bool) → b.tested ≡ t → Going o depth bytes c₀ ms₀ x s sps time counted 0 c₀ ms₀ y
          go true e = list-first o depth bytes c₀ ms₀ x s sps time counted (says_true e b.says) y₀ (b.begun e) y v
          go false e = stopped-first e

      pub start-turns : AtFirst sps depth bytes c₀ ms₀ y
      start-turns = record { others = o; books = x; store = s; time = time; counted = counted; going = first-turn }

      module _ (c : Ranges) (ms : List ℕ) (z : Turn) (t : Turns sps depth bytes c₀ ms₀ y (length sps) c ms z) where
        last_turn : Going o depth bytes c₀ ms₀ x s sps time counted (length sps) c ms z
        last_turn = t o x s time counted first-turn

        pub start-writes : Writes x z
        start-writes = going-writes o depth bytes c₀ ms₀ x s sps time counted (length sps) c ms z last_turn

        pub start-outcome : (x' : List ℕ) (r : StoreUsed) → Finished x z x' r
            → outcome (whole o depth bytes c ms x') tt (store_used_of r) ≡ store_used began s sps time counted
        start-outcome x' r f = going_end o depth bytes c₀ ms₀ x s sps time counted (length sps) c ms z last_turn x' r (omega arith) f

-- the same where the lists at the turns are equal to those before, as the start leaves them
pub same_ranges : {a a' b b' c c' d d' e e' : List ℕ} {f f' : List Float} {g g' : List ℕ}
    → a ≡ a' → b ≡ b' → c ≡ c' → d ≡ d' → e ≡ e' → f ≡ f' → g ≡ g' → ranges_of a b c d e f g ≡ ranges_of a' b' c' d' e' f' g'
same_ranges p q r s t u v = cc

module _ (o : Others) (depth bytes : List ℕ) (c₀ : Ranges) (ms₀ x : List ℕ) (s : ℕ) (sps : List Span) (time : Float) (counted : Bool)
    (c₁ : Ranges) (ms₁ x₁ : List ℕ) (e : c₁ ≡ c₀) (f : ms₁ ≡ ms₀) (g : x₁ ≡ x)
    (y₀ : Turn) (b : Started (began o depth bytes c₀ ms₀ x s sps time counted) x s (length sps) time counted y₀)
    (y : Turn) (v : Looks sps o.len y₀ (length sps) y) where
  pub kept-turns : AtFirst sps depth bytes c₁ ms₁ y
  kept-turns = rw (e, f) (start-turns o depth bytes c₀ ms₀ x s sps time counted y₀ b y v)

  module _ (c : Ranges) (ms : List ℕ) (z : Turn) (t : Turns sps depth bytes c₁ ms₁ y (length sps) c ms z) where
    as-first : Turns sps depth bytes c₀ ms₀ y (length sps) c ms z
    as-first = rw (← e, ← f) t

    pub kept-writes : Writes x₁ z
    kept-writes = rw g (start-writes o depth bytes c₀ ms₀ x s sps time counted y₀ b y v c ms z as-first)

    pub kept-outcome : (x' : List ℕ) (r : StoreUsed) → Finished x₁ z x' r
        → outcome (whole o depth bytes c ms x') tt (store_used_of r) ≡ store_used (began o depth bytes c₀ ms₀ x s sps time counted) s sps time counted
    kept-outcome x' r h = start-outcome o depth bytes c₀ ms₀ x s sps time counted y₀ b y v c ms z as-first x' r (rw g at h)
