-- The list of spans: a pass that only looks at them, and a pass of turns. What is left to do gives the same as all of it, and what was kept of the store's part still
-- gives the state that the touch began with; so a refused turn leaves no trace. Assumes nothing.
use Prim.Native.Nat.{ℕ, zero, suc, ◌+◌, ◌*◌, ◌≤◌, ◌<◌}
use mathlib.Core.Path.{◌≡◌, refl, sym, ap, subst, ◌∙◌}
use mathlib.Core.Bool.{Bool, true, false, not, ◌||◌}
use mathlib.Core.List.{List, [], ◌∷◌}
use native.Mathlib.Numerals.{add-one}
use native.Mathlib.Omega.{arith}
use lib.ListN.{length, take, drop, get_or, length-take}
use lib.Seq.{drop-cons, drop-length}
use lib.Dec.{ltb, leb, eqb}
use lib.Ieee.{Float}
use borrow.Author.Tests.{ltb-false, leb-false}
use Rattle.model.specs.declared.Span.{Span}
use Rattle.model.specs.declared.TouchAnswer.{TouchAnswer}
use Rattle.model.specs.Sizes.{max_stamp, max_bytes, max_spans}
use Rattle.model.specs.Words.{any, pick}
use Rattle.model.specs.State.{Tree, Ranges, State, stores_of, next_id_of, records_of, stamp_of}
use Rattle.model.specs.Sound.{Sound, Finite}
use Rattle.model.specs.SoundTest
use Rattle.model.specs.Store.{store_of, lay, lay_ranges}
use Rattle.model.specs.Touch.{Touched}
use Rattle.model.specs.Refusals.{first_of, SpanIn, span_in, no_span, touched_by, touch_span, turn_refusals}
use Rattle.model.specs.Calls.{Outcome, refused, done, unless, touch_spans, bytes_touched, store_used}
use Rattle.theory_refuse.proofs.Says.{says_true, says_false, true_says}
use Rattle.theory_refuse.proofs.Sound.{sound-says, finite_sure}
use Rattle.theory_refuse.proofs.Refusals.{store_used_exact}
use Rattle.theory_refuse.proofs.Unless.{unless-none, unless-some}
use Rattle.theory_touch.proofs.Touch.{touch_length}
use Rattle.theory_calls.proofs.Accepted.{span_in_lem}
use Rattle.theory_calls.proofs.Stores.{store-sound, touch_span-sound}
use Rattle.theory_lay.proofs.Store.{records_length}
use Rattle.shape_state.specs.Lent.{tree_of}
use Rattle.pool_part.specs.Parts.{mid, back, back_ranges}
use Rattle.pool_part.proofs.Parts.{mid-long}
use Rattle.rule_resolve.proofs.Sound.{sound-priced}
use Rattle.shape_answer.specs.declared.StoreUsed.{StoreUsed}
use Rattle.shape_answer.specs.Answers.{outcome, store_used_of}
use Rattle.pool_undo.specs.declared.Old.{Old}
use Rattle.pool_undo.specs.Old.{old_ranges}
use Rattle.pool_undo.proofs.Undone.{back-mid, back-over, ranges-over, ranges-mid}
use Rattle.call_touch_span.specs.declared.Turn.{Turn}
use Rattle.call_touch_span.specs.declared.Run.{Run}
use Rattle.call_touch_span.specs.Turn.{Others, whole, books_with, Stands, first_number, Begun, four, refusing, looked, RunAt, kept_old, TurnAt, Ready, Gone, Turned, Writes, read, Finished}
use Rattle.call_touch.specs.Going.{number, On, Off, Carries, Going, AtFirst, Turns}
use Rattle.call_touch.specs.Looking.{bad, looked_at, refused_by, Looking, Looks}
use Rattle.test_arguments.specs.Need.{need_number}
use Rattle.test_arguments.proofs.Need.{number_fits}
use Rattle.call_touch_span.proofs.Laws.{touch-marks-long, touch-bytes-most}
use Rattle.call_touch.proofs.Books.{books-same, books-over, stands_on}

-- ---- the pass that looks at the spans

four_twice : (n : ℕ) → four n ≡ four (four n)
four_twice n = go (eqb n 0 || eqb n 5) refl
  where
    go : (b : Bool) → (eqb n 0 || eqb n 5) ≡ b → four n ≡ four (four n)
    go true e = let f : four n ≡ 4 = simp e in f ∙ sym (ap four f)
    go false e = let f : four n ≡ n = simp e in sym (ap four f)

look_turn : (g a : Bool) (y : Turn) → looked g (looked_at a y) ≡ looked_at (not g || a) y
look_turn true a y = refl
look_turn false true y = ap (λ (n : ℕ). refusing n y) (sym (four_twice y.run.number))
look_turn false false y = refl

pub look_start : (t : Tree) (sps : List Span) (y₀ : Turn) → Looking t sps y₀ 0 y₀
unfolding any
look_start t sps y₀ = record { high = omega arith; is = refl }

pub look_next : (t : Tree) (sps : List Span) (y₀ : Turn) (i : ℕ) (y r : Turn) → Looking t sps y₀ i y → i < length sps
    → r ≡ looked (span_in t (get_or sps i no_span)) y → Looking t sps y₀ (i + 1) r
unfolding any
look_next t sps y₀ i y r o less e =
    record {
      high = omega arith;
      is = e ∙ ap (looked (span_in t (get_or sps i no_span))) o.is ∙ look_turn (span_in t (get_or sps i no_span)) (any i (bad t sps)) y₀ ∙ ap (λ (b : Bool). looked_at b y₀) one_more_lem;
    }
  where
    one_more_lem : (not (span_in t (get_or sps i no_span)) || any i (bad t sps)) ≡ any (i + 1) (bad t sps)
    one_more_lem = ap (λ (n : ℕ). any n (bad t sps)) (sym (add-one i))

looked-nodes : (b : Bool) (y : Turn) → (looked_at b y).nodes ≡ y.nodes
looked-nodes true y = refl
looked-nodes false y = refl

look_nodes : {t : Tree} {sps : List Span} {y₀ : Turn} {i : ℕ} {y : Turn} → Looking t sps y₀ i y → y.nodes ≡ y₀.nodes
look_nodes {t} {sps} {y₀} {i} {y} o = ap (λ (z : Turn). z.nodes) o.is ∙ looked-nodes (any i (bad t sps)) y₀

-- ---- the pass of turns

-- the first number that is not 0
abbrev pub next : ℕ → ℕ → ℕ
next zero m = m
next (suc k) m = suc k

first-turn : (a b : Bool) (m : ℕ) → (elim a [ true ↦ 8 | false ↦ elim b [ true ↦ 11 | false ↦ m ] ]) ≡ next (pick a 8 (pick b 11 0)) m
first-turn true b m = refl
first-turn false true m = refl
first-turn false false m = refl

next-some : (k m : ℕ) → (k ≡ 0 → ⊥) → k ≡ next k m
next-some zero m n = absurd (n refl)
next-some (suc k) m n = refl

pub next-none : (k m : ℕ) → k ≡ 0 → m ≡ next k m
next-none k m e = ap (λ (j : ℕ). next j m) (sym e)

split-list : (sps : List Span) (i : ℕ) → i < length sps → drop i sps ≡ get_or sps i no_span ∷ drop (i + 1) sps
split-list sps i h = drop-cons sps i no_span h ∙ ap (λ (k : ℕ). get_or sps i no_span ∷ drop k sps) (sym (add-one i))

module _ (st : State) (s : ℕ) (sp : Span) (rest : List Span) (time : Float) (counted : Bool) where
  abbrev w : Touched
  w = touched_by st s sp time counted

  pub turn-first : first_of (turn_refusals st s (sp ∷ rest) time counted)
      ≡ next (need_number (records_of st s) w.need (stamp_of st s) w.stamps (next_id_of st))
      (first_of (turn_refusals (touch_span st s sp time counted) s rest time counted))
  turn-first =
      first-turn (ltb 128 (records_of st s + w.need))
      (ltb max_stamp (stamp_of st s + w.stamps) || ltb max_stamp (next_id_of st + w.need))
      (first_of (turn_refusals (touch_span st s sp time counted) s rest time counted))

  turn-states : touch_spans st s (sp ∷ rest) time counted ≡ touch_spans (touch_span st s sp time counted) s rest time counted
  unfolding touch_spans
  turn-states = refl

  turn-bytes : bytes_touched st s (sp ∷ rest) time counted ≡ w.bytes + bytes_touched (touch_span st s sp time counted) s rest time counted
  unfolding bytes_touched
  turn-bytes = refl

-- what a taken turn changes
module _ (st : State) (s : ℕ) (sp : Span) (time : Float) (counted : Bool) where
  pub touched-tree : (touch_span st s sp time counted).tree ≡ st.tree
  unfolding touch_span
  touched-tree = refl

  pub touched-stores : stores_of (touch_span st s sp time counted) ≡ stores_of st
  unfolding touch_span
  touched-stores = refl

  touched-ranges : (touch_span st s sp time counted).ranges
      ≡ lay_ranges (128 * s) (records_of st s + (touched_by st s sp time counted).need) (touched_by st s sp time counted).store.ranges st.ranges
  unfolding touch_span
  touched-ranges = refl

  touched-marks : (touch_span st s sp time counted).marks ≡ lay 0 (256 * s) 256 (touched_by st s sp time counted).store.marks st.marks
  unfolding touch_span
  touched-marks = refl

store-marks : (st : State) (s : ℕ) → (store_of st s).marks ≡ mid (256 * s) 256 st.marks
unfolding store_of
store-marks st s = refl

-- a taken turn, put back: as if it had not been
module _ (st : State) (s : ℕ) (sp : Span) (time : Float) (counted : Bool) (h : Sound st) (less : s < stores_of st) (inside : SpanIn st.tree sp) (f : Finite time)
    (room : records_of st s + (touched_by st s sp time counted).need ≤ 128) (old : Old) where
  low : s < 8
  low = omega (arith, h.counts.stores)

  over-ranges : back_ranges (128 * s) 128 (old_ranges old) (touch_span st s sp time counted).ranges ≡ back_ranges (128 * s) 128 (old_ranges old) st.ranges
  over-ranges =
      let few = touch_length st.tree st.bytes (store_of st s) (next_id_of st) sp time counted (store-sound st s h less) inside f h.counts.first_id in
      ap (back_ranges (128 * s) 128 (old_ranges old)) (touched-ranges st s sp time counted)
      ∙ ranges-over (128 * s) (records_of st s + (touched_by st s sp time counted).need) (touched_by st s sp time counted).store.ranges (old_ranges old) st.ranges
      h.lent.ranges (omega (arith, low)) (omega (arith, few, records_length st s)) room

  over-marks : back (256 * s) 256 old.marks (touch_span st s sp time counted).marks ≡ back (256 * s) 256 old.marks st.marks
  over-marks =
      let long = touch-marks-long st.tree st.bytes (store_of st s) (next_id_of st) sp time counted in
      let m = ap (λ (l : List ℕ). length l) (store-marks st s) ∙ mid-long (256 * s) 256 st.marks (omega (arith, low, h.lent.marks)) in
      ap (back (256 * s) 256 old.marks) (touched-marks st s sp time counted)
      ∙ back-over 0 (256 * s) 256 256 (touched_by st s sp time counted).store.marks old.marks st.marks (omega (arith, low, h.lent.marks)) (omega (arith, long, m)) (omega arith)

-- one more turn, where none was refused before: r has its numbers
module _ (o : Others) (depth bytes : List ℕ) (c₀ : Ranges) (ms₀ x : List ℕ) (s : ℕ) (sps : List Span) (time : Float) (counted : Bool) (i : ℕ) (less : i < length sps)
    (c : Ranges) (ms : List ℕ) (refreshes : Bool) (old : Old) (z : Run)
    (v : On (whole o depth bytes c₀ ms₀ x) s sps time counted i (whole o depth bytes c ms (books_with s z x)) refreshes old z) where
  abbrev st₀ : State
  st₀ = whole o depth bytes c₀ ms₀ x

  abbrev st : State
  st = whole o depth bytes c ms (books_with s z x)

  abbrev sp : Span
  sp = get_or sps i no_span

  abbrev v₁ : Touched
  v₁ = touched_by st s sp time counted

  in_stores : s < 8
  in_stores = omega (arith, v.less, v.sound.counts.stores)

  in_here : SpanIn st.tree sp
  in_here = subst (λ (t : Tree). SpanIn t sp) (sym v.tree) (v.inside i less)

  -- what a turn asks for
  pub on-at : RunAt o (books_with s z x) sp depth bytes c ms s refreshes z
  on-at = record { stands = v.stands; sound = v.sound; store = v.less; span = in_here; sum = omega (arith, v.sum, v.few) }

  module _ (r : Run) (num : r.number ≡ need_number (records_of st s) v₁.need (stamp_of st s) v₁.stamps (next_id_of st)) where
    firsts : next r.number (first_of (turn_refusals (touch_span st s sp time counted) s (drop (i + 1) sps) time counted)) ≡ number st₀ s sps time counted
    firsts =
        ap (λ (k : ℕ). next k (first_of (turn_refusals (touch_span st s sp time counted) s (drop (i + 1) sps) time counted))) num
        ∙ sym (turn-first st s sp (drop (i + 1) sps) time counted)
        ∙ ap (λ (l : List Span). first_of (turn_refusals st s l time counted)) (sym (split-list sps i less))
        ∙ v.first

    -- the first turn that is refused gives the number
    pub first-stop : (r.number ≡ 0 → ⊥) → r.number ≡ number st₀ s sps time counted
    first-stop n = next-some r.number _ n ∙ firsts

    module _ (none : r.number ≡ 0) (c' : Ranges) (ms' : List ℕ)
        (taken : whole o depth bytes c' ms' (books_with s r (books_with s z x)) ≡ touch_span st s sp time counted) (sums : r.sum ≡ z.sum + v₁.bytes) where
      abbrev st' : State
      st' = whole o depth bytes c' ms' (books_with s r x)

      state-is : st' ≡ touch_span st s sp time counted
      state-is = ap (λ (l : List ℕ). whole o depth bytes c' ms' l) (sym (books-over s x in_stores v.long z r)) ∙ taken

      fits : (records_of st s + v₁.need ≤ 128) × (stamp_of st s + v₁.stamps ≤ max_stamp) × (next_id_of st + v₁.need ≤ max_stamp)
      fits = number_fits (records_of st s) v₁.need (stamp_of st s) v₁.stamps (next_id_of st) (sym none ∙ num)

      bytes_most : v₁.bytes ≤ 128 * max_bytes
      bytes_most =
          touch-bytes-most st.tree st.bytes (store_of st s) (next_id_of st) sp time counted
          (sound-priced st v.sound sp in_here.node (omega (arith, in_here.filled)) in_here.ends) (store-sound st s v.sound v.less).few

      pub on-next : (old' : Old) → kept_old (i + 1) old' s c' ms' ≡ kept_old i old s c ms → On st₀ s sps time counted (i + 1) st' refreshes old' r
      on-next old' old-is =
          let kept = kept_old i old s c ms in
          let b = bytes_most in
          let q = ap (λ (l : List Span). bytes_touched st s l time counted) (split-list sps i less) ∙ turn-bytes st s sp (drop (i + 1) sps) time counted in
          let d = ap (λ (a : State). bytes_touched a s (drop (i + 1) sps) time counted) state-is in
          record {
            stands = stands_on s x in_stores v.long refreshes z r v.stands;
            long = v.long;
            sound =
                subst Sound (sym state-is)
                (touch_span-sound st s v.sound v.less sp time counted in_here v.finite fits.0 fits.1 fits.2);
            less = omega (arith, v.less, ap (λ (a : State). stores_of a) state-is ∙ touched-stores st s sp time counted);
            tree = ap (λ (a : State). a.tree) state-is ∙ touched-tree st s sp time counted ∙ v.tree;
            inside = v.inside;
            finite = v.finite;
            few = v.few;
            sum = omega (arith, v.sum, sums, b);
            first =
                ap (λ (a : State). first_of (turn_refusals a s (drop (i + 1) sps) time counted)) state-is
                ∙ next-none r.number (first_of (turn_refusals (touch_span st s sp time counted) s (drop (i + 1) sps) time counted)) none ∙ firsts;
            states =
                ap (λ (a : State). touch_spans a s (drop (i + 1) sps) time counted) state-is
                ∙ sym (turn-states st s sp (drop (i + 1) sps) time counted)
                ∙ ap (λ (l : List Span). touch_spans st s l time counted) (sym (split-list sps i less)) ∙ v.states;
            bytes = omega (arith, v.bytes, sums, q, d);
            ranges =
                ap (λ (a : Old). back_ranges (128 * s) 128 (old_ranges a) c') old-is
                ∙ ap (λ (a : State). back_ranges (128 * s) 128 (old_ranges kept) a.ranges) state-is
                ∙ over-ranges st s sp time counted v.sound v.less in_here v.finite fits.0 kept ∙ v.ranges;
            marks =
                ap (λ (a : Old). back (256 * s) 256 a.marks ms') old-is
                ∙ ap (λ (a : State). back (256 * s) 256 kept.marks a.marks) state-is
                ∙ over-marks st s sp time counted v.sound v.less in_here v.finite fits.0 kept ∙ v.marks;
          }

-- the same of the turns of a list
module _ (o : Others) (depth bytes : List ℕ) (c₀ : Ranges) (ms₀ x : List ℕ) (s : ℕ) (sps : List Span) (time : Float) (counted : Bool) (i : ℕ) (less : i < length sps)
    (c : Ranges) (ms : List ℕ) (y : Turn) (g : Going o depth bytes c₀ ms₀ x s sps time counted i c ms y) where
  abbrev books₁ : List ℕ
  books₁ = books_with s y.run x

  pub going-at : y.run.number ≡ 0 → TurnAt o books₁ (get_or sps i no_span) depth bytes c ms y
  going-at e =
      let k = g.carries e in
      let v = g.on e in
      record {
        run =
            subst (λ (n : ℕ). RunAt o books₁ (get_or sps i no_span) depth bytes c ms n y.refreshes y.run) (sym k.store)
            (on-at o depth bytes c₀ ms₀ x s sps time counted i less c ms y.refreshes y.old y.run v);
        turns = omega (arith, k.turns, v.few);
      }

  module _ (c' : Ranges) (ms' : List ℕ) (r : Turn) where
    module _ (e : y.run.number ≡ 0)
        (u : Gone (get_or sps i no_span) (whole o depth bytes c ms books₁) y (whole o depth bytes c' ms' (books_with y.s r.run books₁)) r) where
      abbrev here : State
      here = whole o depth bytes c ms books₁

      k : Carries s time counted i y
      k = g.carries e

      v : On (whole o depth bytes c₀ ms₀ x) s sps time counted i here y.refreshes y.old y.run
      v = g.on e

      num : r.run.number
          ≡ need_number (records_of here s) (touched_by here s (get_or sps i no_span) time counted).need (stamp_of here s) (touched_by here s (get_or sps i no_span) time counted).stamps (next_id_of here)
      num = rw (k.store, k.when, k.counts) at u.number

      old-is : r.old ≡ kept_old i y.old s c ms
      old-is = u.old ∙ (λ j. kept_old (k.turns j) y.old (k.store j) c ms)

      turn-off : (r.run.number ≡ 0 → ⊥) → Off (whole o depth bytes c₀ ms₀ x) s sps time counted c' ms' r.run.number
      turn-off n =
          let a : 1 ≤ r.run.number = omega arith in
          record {
            first = first-stop o depth bytes c₀ ms₀ x s sps time counted i less c ms y.refreshes y.old y.run v r.run num n;
            ranges = (u.stopped a).0 ∙ (λ j. back_ranges (128 * k.store j) 128 (old_ranges (old-is j)) c) ∙ v.ranges;
            marks = (u.stopped a).1 ∙ (λ j. back (256 * k.store j) 256 (old-is j).marks ms) ∙ v.marks;
          }

      turn_on : r.run.number ≡ 0 → On (whole o depth bytes c₀ ms₀ x) s sps time counted (i + 1) (whole o depth bytes c' ms' (books_with s r.run x)) r.refreshes r.old r.run
      turn_on n =
          subst (λ (b : Bool). On (whole o depth bytes c₀ ms₀ x) s sps time counted (i + 1) (whole o depth bytes c' ms' (books_with s r.run x)) b r.old r.run) (sym u.on)
          (on-next o depth bytes c₀ ms₀ x s sps time counted i less c ms y.refreshes y.old y.run v r.run num n c' ms'
          ((λ j. whole o depth bytes c' ms' (books_with (sym k.store j) r.run books₁)) ∙ u.taken n ∙ (λ j. touch_span here (k.store j) (get_or sps i no_span) (k.when j) (k.counts j)))
          (u.sum n ∙ (λ j. y.run.sum + (touched_by here (k.store j) (get_or sps i no_span) (k.when j) (k.counts j)).bytes))
          r.old (ap (λ (n : ℕ). kept_old n r.old s c' ms') (add-one i) ∙ old-is))

      turn-carries : Carries s time counted (i + 1) r
      turn-carries =
          record { store = u.store ∙ k.store; when = u.when ∙ k.when; counts = u.counts ∙ k.counts; turns = u.turns ∙ ap (λ (n : ℕ). n + 1) k.turns }

    pub going_next : Turned (get_or sps i no_span) (whole o depth bytes c ms books₁) y (whole o depth bytes c' ms' (books_with y.s r.run books₁)) r
        → Going o depth bytes c₀ ms₀ x s sps time counted (i + 1) c' ms' r
    going_next u = go y.run.number refl
      where
        go : (n : ℕ) → y.run.number ≡ n → Going o depth bytes c₀ ms₀ x s sps time counted (i + 1) c' ms' r
        go zero e = record { high = omega arith; carries = λ a. turn-carries e (u.gone e); on = turn_on e (u.gone e); off = turn-off e (u.gone e) }
        go (suc n) e =
            let q = u.idle (omega arith) in
            let m = ap (λ (a : Turn). a.run.number) q.2 in
            let f = g.off (λ (a : y.run.number ≡ 0). omega arith) in
            record {
              high = omega arith;
              carries = λ a. absurd (omega (arith, m));
              on = λ a. absurd (omega (arith, m));
              off = λ a. record { first = m ∙ f.first; ranges = q.0 ∙ f.ranges; marks = q.1 ∙ f.marks };
            }

-- ---- before the first turn

looked-number : (b : Bool) (y : Turn) → (looked_at b y).run.number ≡ refused_by b y.run.number
looked-number true y = refl
looked-number false y = refl

start-number : (a m b f : Bool) (k : ℕ)
    → (elim a [ true ↦ 2 | false ↦ elim m [ true ↦ 3 | false ↦ elim b [ true ↦ 4 | false ↦ elim (not f) [ true ↦ 5 | false ↦ k ] ] ] ])
    ≡ next (refused_by b (pick a 2 (pick m 3 (pick f 0 5)))) k
start-number true m true f k = refl
start-number true m false f k = refl
start-number false true true f k = refl
start-number false true false f k = refl
start-number false false true true k = refl
start-number false false true false k = refl
start-number false false false true k = refl
start-number false false false false k = refl

record AllFine (a m b f : Bool) : Type 0 where
  store : a ≡ false
  many : m ≡ false
  spans : b ≡ false
  time : f ≡ true

start_none : (a m b f : Bool) → refused_by b (pick a 2 (pick m 3 (pick f 0 5))) ≡ 0 → AllFine a m b f
start_none true m true f e = absurd (omega arith)
start_none true m false f e = absurd (omega arith)
start_none false true true f e = absurd (omega arith)
start_none false true false f e = absurd (omega arith)
start_none false false true true e = absurd (omega arith)
start_none false false true false e = absurd (omega arith)
start_none false false false true e = record { store = refl; many = refl; spans = refl; time = refl }
start_none false false false false e = absurd (omega arith)

module _ (st₀ : State) (s : ℕ) (sps : List Span) (time : Float) (counted : Bool) (h : Sound st₀) where
  sound-first : number st₀ s sps time counted
      ≡ (elim (leb (stores_of st₀) s) [ true ↦ 2 | false ↦ elim (ltb max_spans (length sps)) [ true ↦ 3 | false ↦ elim (any (length sps) (bad st₀.tree sps)) [ true ↦ 4 | false ↦ elim (not (SoundTest.finite time)) [ true ↦ 5 | false ↦ first_of (turn_refusals st₀ s sps time counted) ] ] ] ])
  sound-first =
      ap (λ (q : Bool). elim (not q) [ true ↦ 1 | false ↦ elim (leb (stores_of st₀) s) [ true ↦ 2 | false ↦ elim (ltb max_spans (length sps)) [ true ↦ 3 | false ↦ elim (any (length sps) (bad st₀.tree sps)) [ true ↦ 4 | false ↦ elim (not (SoundTest.finite time)) [ true ↦ 5 | false ↦ first_of (turn_refusals st₀ s sps time counted) ] ] ] ] ])
      (true_says (SoundTest.sound st₀) (sound-says st₀) h)

  abbrev some : Bool
  some = any (length sps) (bad st₀.tree sps)

  module _ (k : ℕ) (is : k ≡ refused_by some (first_number (stores_of st₀) s (length sps) time)) where
    first-is : next k (first_of (turn_refusals st₀ s sps time counted)) ≡ number st₀ s sps time counted
    first-is =
        ap (λ (n : ℕ). next n (first_of (turn_refusals st₀ s sps time counted))) is
        ∙ sym (start-number (leb (stores_of st₀) s) (ltb max_spans (length sps)) some (SoundTest.finite time) (first_of (turn_refusals st₀ s sps time counted)))
        ∙ sym sound-first

    pub start-off : (k ≡ 0 → ⊥) → k ≡ number st₀ s sps time counted
    start-off n = next-some k _ n ∙ first-is

    module _ (none : k ≡ 0) where
      fine : AllFine (leb (stores_of st₀) s) (ltb max_spans (length sps)) some (SoundTest.finite time)
      fine = start_none (leb (stores_of st₀) s) (ltb max_spans (length sps)) some (SoundTest.finite time) (sym is ∙ none)

      pub start-less : s < stores_of st₀
      start-less = leb-false (stores_of st₀) s fine.store

      pub start-spans : some ≡ false
      start-spans = fine.spans

      pub start-on : (refreshes : Bool) (old : Old) (z : Run) → Stands s refreshes st₀.books z → z.sum ≡ 0 → On st₀ s sps time counted 0 st₀ refreshes old z
      start-on refreshes old z stands zero-sum =
          record {
            stands = stands;
            long = h.lent.books;
            sound = h;
            less = start-less;
            tree = refl;
            inside = λ j l. span_in_lem st₀.tree (get_or sps j no_span)
                (λ (n : SpanIn st₀.tree (get_or sps j no_span) → ⊥). says_false start-spans (store_used_exact st₀ s sps time counted).1.1.1.0 (j, l, n));
            finite = says_true fine.time (finite_sure time).says;
            few = ltb-false max_spans (length sps) fine.many;
            sum = omega arith;
            first = next-none k (first_of (turn_refusals st₀ s sps time counted)) none ∙ first-is;
            states = refl;
            bytes = omega arith;
            ranges = ranges-mid s st₀.ranges st₀.marks;
            marks = back-mid (256 * s) 256 st₀.marks;
          }

-- the first of the turns of a list
module _ (o : Others) (depth bytes : List ℕ) (c : Ranges) (ms x : List ℕ) (s : ℕ) (sps : List Span) (time : Float) (counted : Bool) (h : Sound (whole o depth bytes c ms x))
    (y₀ y : Turn) (b : Begun x s (length sps) time counted y₀) (e : y ≡ looked_at (any (length sps) (bad (whole o depth bytes c ms x).tree sps)) y₀) where
  abbrev first₀ : State
  first₀ = whole o depth bytes c ms x

  abbrev bad₀ : Bool
  bad₀ = any (length sps) (bad first₀.tree sps)

  number_is : y.run.number ≡ refused_by bad₀ (first_number (stores_of first₀) s (length sps) time)
  number_is = ap (λ (q : Turn). q.run.number) e ∙ looked-number bad₀ y₀ ∙ ap (refused_by bad₀) b.number

  module _ (z : y.run.number ≡ 0) where
    same_turn : y ≡ y₀
    same_turn = e ∙ ap (λ (q : Bool). looked_at q y₀) (start-spans first₀ s sps time counted h y.run.number number_is z)

    stands-first : Stands s y.refreshes x y.run
    stands-first =
        subst (λ (q : Turn). Stands s q.refreshes x q.run) (sym same_turn) (b.stands (sym (ap (λ (q : Turn). q.run.number) same_turn) ∙ z))

    less-first : s < 8
    less-first = omega (arith, start-less first₀ s sps time counted h y.run.number number_is z, h.counts.stores)

    on-first : On first₀ s sps time counted 0 (whole o depth bytes c ms (books_with s y.run x)) y.refreshes y.old y.run
    on-first =
        subst (λ (l : List ℕ). On first₀ s sps time counted 0 (whole o depth bytes c ms l) y.refreshes y.old y.run)
        (sym (books-same s x less-first h.lent.books y.refreshes y.run stands-first))
        (start-on first₀ s sps time counted h y.run.number number_is z y.refreshes y.old y.run stands-first
        (ap (λ (q : Turn). q.run.sum) same_turn ∙ b.sum))

    carries-first : Carries s time counted 0 y
    carries-first =
        record {
          store = ap (λ (q : Turn). q.s) same_turn ∙ b.store;
          when = ap (λ (q : Turn). q.time) same_turn ∙ b.when;
          counts = ap (λ (q : Turn). q.counted) same_turn ∙ b.counts;
          turns = ap (λ (q : Turn). q.turns) same_turn ∙ b.turns;
        }

  pub going_start : Going o depth bytes c ms x s sps time counted 0 c ms y
  going_start =
      record {
        high = omega arith;
        carries = carries-first;
        on = on-first;
        off = λ n. record { first = start-off first₀ s sps time counted h y.run.number number_is n; ranges = refl; marks = refl };
      }

-- ---- after the last turn

pub outcome-done : (n : ℕ) (st st' : State) (a a' : ℕ) → n ≡ 0 → st' ≡ st → a ≡ a' → (st₀ : State) (o : Outcome (Unit {0}) TouchAnswer)
    → o ≡ record { state = st; lists = tt; answer = done (read a') } → ◌≡◌ {A = Outcome (Unit {0}) TouchAnswer} (outcome st' tt (done (read a))) (unless n st₀ tt o)
outcome-done n _ _ a a' e f g st₀ o h = (λ i. outcome (f i) tt (done (read (g i)))) ∙ sym h ∙ sym (unless-none st₀ tt o n e)

pub none_left : (sps : List Span) (i : ℕ) → length sps ≤ i → i ≤ length sps → drop i sps ≡ []
none_left sps i a b = let e : i ≡ length sps = omega arith in ap (λ (k : ℕ). drop k sps) e ∙ drop-length sps

pub no_bytes : (st : State) (s : ℕ) (time : Float) (counted : Bool) → bytes_touched st s [] time counted ≡ 0
unfolding bytes_touched
no_bytes _ s time counted = refl

pub no_spans : (st : State) (s : ℕ) (time : Float) (counted : Bool) → touch_spans st s [] time counted ≡ st
unfolding touch_spans
no_spans _ s time counted = refl

module _ (o : Others) (depth bytes : List ℕ) (c₀ : Ranges) (ms₀ x : List ℕ) (s : ℕ) (sps : List Span) (time : Float) (counted : Bool) (i : ℕ) (c : Ranges) (ms : List ℕ) (y : Turn)
    (g : Going o depth bytes c₀ ms₀ x s sps time counted i c ms y) where
  abbrev began : State
  began = whole o depth bytes c₀ ms₀ x

  -- there is a place for what is written
  pub going-writes : Writes x y
  going-writes e =
      let v = g.on e in
      (omega (arith, (g.carries e).store, v.less, v.sound.counts.stores), v.long)

  module _ (x' : List ℕ) (r : StoreUsed) (over : length sps ≤ i) (f : Finished x y x' r) where
    abbrev all : Outcome (Unit {0}) TouchAnswer
    all = record { state = touch_spans began s sps time counted; lists = tt; answer = done (read (bytes_touched began s sps time counted)) }

    pub going_end : outcome (whole o depth bytes c ms x') tt (store_used_of r) ≡ store_used began s sps time counted
    unfolding store_used
    going_end = go y.run.number refl
      where
        go : (n : ℕ) → y.run.number ≡ n
            → outcome (whole o depth bytes c ms x') tt (store_used_of r) ≡ unless (number began s sps time counted) began tt all
        go zero e =
            let v = g.on e in
            let l = none_left sps i over g.high in
            let st = whole o depth bytes c ms (books_with s y.run x) in
            let k = ap (λ (q : List Span). first_of (turn_refusals st s q time counted)) l in
            let m = ap (λ (q : List Span). bytes_touched st s q time counted) l ∙ no_bytes st s time counted in
            let sums : y.run.sum ≡ bytes_touched began s sps time counted = omega (arith, v.bytes, m) in
            let w = f.done e in
            let l' : x' ≡ books_with s y.run x = w.0 ∙ ap (λ (q : ℕ). books_with q y.run x) (g.carries e).store in
            (λ j. outcome (whole o depth bytes c ms (l' j)) tt (store_used_of (w.1 j)))
            ∙ outcome-done (number began s sps time counted) (touch_spans began s sps time counted) st y.run.sum (bytes_touched began s sps time counted)
            (sym v.first ∙ k) (sym (no_spans st s time counted) ∙ ap (λ (q : List Span). touch_spans st s q time counted) (sym l) ∙ v.states) sums began all refl
        go (suc n) e =
            let some : y.run.number ≡ 0 → ⊥ = λ (a : y.run.number ≡ 0). omega arith in
            let v = g.off some in
            let w = f.refused some in
            (λ j. outcome (whole o depth bytes c ms (w.0 j)) tt (store_used_of (w.1 j)))
            ∙ (λ j. outcome (whole o depth bytes (v.ranges j) (v.marks j) x) tt (refused (v.first j)))
            ∙ sym (unless-some began tt all (number began s sps time counted) _ refl (λ (a : number began s sps time counted ≡ 0). omega (arith, v.first)))

-- ---- the first spans of an array

module _ (l : List Span) (count : ℕ) (long : length l ≡ 64) (few : count ≤ 64) where
  pub array_long : length (take count l) ≡ count
  array_long = length-take count l ∙ omega arith

abbrev pub others : List ℕ → List ℕ → List ℕ → List ℕ → List ℕ → List ℕ → List ℕ → List ℕ → Others
others parent len run words pin_node pin_start pin_end pin_count =
    record { parent = parent; len = len; run = run; words = words; pin_node = pin_node; pin_start = pin_start; pin_end = pin_end; pin_count = pin_count }

-- ---- the turns of a list, one more

module _ (sps : List Span) (depth bytes : List ℕ) (c₀ : Ranges) (ms₀ : List ℕ) (y₀ : Turn) (i : ℕ) (c : Ranges) (ms : List ℕ) (y : Turn)
    (t : Turns sps depth bytes c₀ ms₀ y₀ i c ms y) (less : i < length sps) where
  pub list_asks : AtFirst sps depth bytes c₀ ms₀ y₀ → Ready (get_or sps i no_span) depth bytes c ms y
  list_asks f =
      record {
        others = f.others;
        books = books_with f.store y.run f.books;
        ready =
            going-at f.others depth bytes c₀ ms₀ f.books f.store sps f.time f.counted i less c ms y
            (t f.others f.books f.store f.time f.counted f.going);
      }

  pub list-more : (c' : Ranges) (ms' : List ℕ) (r : Turn)
      → ((q : Others) (l : List ℕ) → (y.run.number ≡ 0 → TurnAt q l (get_or sps i no_span) depth bytes c ms y)
      → Turned (get_or sps i no_span) (whole q depth bytes c ms l) y (whole q depth bytes c' ms' (books_with y.s r.run l)) r)
      → Turns sps depth bytes c₀ ms₀ y₀ (i + 1) c' ms' r
  list-more c' ms' r f o x s time counted g₀ =
      let g = t o x s time counted g₀ in
      going_next o depth bytes c₀ ms₀ x s sps time counted i less c ms y g c' ms' r
      (f o (books_with s y.run x) (going-at o depth bytes c₀ ms₀ x s sps time counted i less c ms y g))

pub list-end : {sps : List Span} {depth bytes : List ℕ} {c₀ : Ranges} {ms₀ : List ℕ} {y₀ : Turn} {i : ℕ} {c : Ranges} {ms : List ℕ} {y : Turn} → i ≤ length sps → length sps ≤ i
    → Turns sps depth bytes c₀ ms₀ y₀ i c ms y → Turns sps depth bytes c₀ ms₀ y₀ (length sps) c ms y
list-end {sps} {depth} {bytes} {c₀} {ms₀} {y₀} {i} {c} {ms} {y} a b t =
    let e : i ≡ length sps = omega arith in
    subst (λ (k : ℕ). Turns sps depth bytes c₀ ms₀ y₀ k c ms y) e t

-- ---- the spans of a list looked at, one more

module _ (sps : List Span) (len : List ℕ) (y₀ : Turn) (i : ℕ) (y : Turn) (v : Looks sps len y₀ i y) where
  pub looks_ask : y₀.nodes ≤ length len → y.nodes ≤ length len
  looks_ask h = omega (arith, look_nodes (v (tree_of [] [] len [] [] y₀.nodes 0) refl refl))

  pub looks-more : i < length sps → (r : Turn) → ((t : Tree) → t.len ≡ len → t.nodes ≡ y.nodes → r ≡ looked (span_in t (get_or sps i no_span)) y)
      → Looks sps len y₀ (i + 1) r
  looks-more less r f t l n =
      let o = v t l n in
      look_next t sps y₀ i y r o less (f t l (n ∙ sym (look_nodes o)))

pub looks-start : (sps : List Span) (len : List ℕ) (y : Turn) → Looks sps len y 0 y
looks-start sps len y t l n = look_start t sps y

-- ---- the whole call: `begin`, `look_spans` and `touch_spans`, one after another

module _ (o : Others) (depth bytes : List ℕ) (c₀ : Ranges) (ms₀ x : List ℕ) (s : ℕ) (sps : List Span) (time : Float) (counted : Bool)
    (h : Sound (whole o depth bytes c₀ ms₀ x)) (y₀ : Turn) (b : Begun x s (length sps) time counted y₀) where
  pub list-looks : y₀.nodes ≤ length o.len
  list-looks = rw b.nodes (omega (arith, h.counts.nodes, h.lent.tree.len))

  pub list-first : (y : Turn) → Looks sps o.len y₀ (length sps) y → Going o depth bytes c₀ ms₀ x s sps time counted 0 c₀ ms₀ y
  list-first y v =
      going_start o depth bytes c₀ ms₀ x s sps time counted h y₀ y b (v (whole o depth bytes c₀ ms₀ x).tree refl (sym b.nodes)).is
