-- The turns with no part kept, as the turns of a list: what the store's part was stands beside them, so that a refused turn can be put back. Assumes nothing.
use Prim.Native.Nat.{ℕ, zero, suc, ◌+◌, ◌*◌, ◌≤◌, ◌<◌}
use mathlib.Core.Path.{◌≡◌, refl, sym, ap, subst, ◌∙◌}
use mathlib.Core.Bool.{Bool, true, false, not, ◌||◌}
use mathlib.Core.List.{List}
use mathlib.Core.Logic.{⊎_elim}
use native.Mathlib.Nat.{eq-or-lt_of_le, le_of_suc-le-suc}
use native.Mathlib.Numerals.{add-one}
use native.Mathlib.Omega.{arith}
use lib.ListN.{length, take, get_or, length-take}
use lib.Ieee.{Float}
use Rattle.model.specs.declared.Span.{Span}
use Rattle.model.specs.declared.Book.{Book}
use Rattle.model.specs.declared.TouchAnswer.{TouchAnswer}
use Rattle.model.specs.Sizes.{max_numbers}
use Rattle.model.specs.Words.{any}
use Rattle.model.specs.State.{Tree, Ranges, State, nodes_in, stores_in, next_id_in, book_in}
use Rattle.model.specs.Sound.{Sound}
use Rattle.model.specs.Refusals.{first_of, span_in, no_span, turn_refusals}
use Rattle.model.specs.Calls.{Outcome, done, refused, touch_spans, bytes_touched, store_used}
use Rattle.theory_refuse.proofs.Unless.{unless-some}
use Rattle.pool_part.specs.Parts.{back, back_ranges}
use Rattle.shape_answer.specs.declared.StoreUsed.TheVariants.{Refused, Done}
use Rattle.shape_answer.specs.Answers.{outcome}
use Rattle.pool_undo.specs.declared.Old.{Old}
use Rattle.pool_undo.specs.Old.{old_ranges, old_from}
use Rattle.call_touch_span.specs.declared.Run.{Run}
use Rattle.call_touch_span.specs.Turn.{Others, whole, books_with, Stands, first_number, four, RunAt, Ran, kept_old, read}
use Rattle.call_touch.specs.Looking.{bad, refused_by}
use Rattle.call_touch.specs.Going.{number, On}
use Rattle.test_arguments.specs.Room.{Roomy}
use Rattle.call_touch.specs.Running.{Starts, Went, Outcomes}
use Rattle.call_touch.proofs.Books.{books-same}
use Rattle.call_touch.proofs.Laws.{on-at, first-stop, on-next, start-off, start-less, start-on, none_left, no_bytes, no_spans, outcome-done}
use Rattle.call_touch.proofs.Room.{turns_fine}

-- before span i, with no turn refused
pub record Running (o : Others) (x : List ℕ) (sps : List Span) (depth bytes : List ℕ) (c₀ : Ranges) (ms₀ : List ℕ) (s : ℕ) (refreshes : Bool) (time : Float) (counted : Bool) (i : ℕ) (c : Ranges) (ms : List ℕ) (z : Run) : Type 0 where
  pub on : On (whole o depth bytes c₀ ms₀ x) s sps time counted i (whole o depth bytes c ms (books_with s z x)) refreshes (old_from s c₀ ms₀) z
  pub kept : kept_old i (old_from s c₀ ms₀) s c ms ≡ old_from s c₀ ms₀

module _ (o : Others) (x : List ℕ) (sps : List Span) (depth bytes : List ℕ) (c₀ : Ranges) (ms₀ : List ℕ) (s : ℕ) (refreshes : Bool) (time : Float) (counted : Bool) (y : Run)
    (q : Starts o x sps depth bytes c₀ ms₀ s refreshes time counted y) where
  abbrev began : State
  began = whole o depth bytes c₀ ms₀ x

  abbrev old : Old
  old = old_from s c₀ ms₀

  pub low : s < 8
  low = omega (arith, q.on.less, q.on.sound.counts.stores)

  pub running_start : Running o x sps depth bytes c₀ ms₀ s refreshes time counted 0 c₀ ms₀ y
  running_start =
      record {
        on =
            subst (λ (l : List ℕ). On began s sps time counted 0 (whole o depth bytes c₀ ms₀ l) refreshes old y)
            (sym (books-same s x low q.on.long refreshes y q.on.stands)) q.on;
        kept = refl;
      }

  module _ (i : ℕ) (c : Ranges) (ms : List ℕ) (z : Run) (v : Running o x sps depth bytes c₀ ms₀ s refreshes time counted i c ms z) where
    abbrev here : State
    here = whole o depth bytes c ms (books_with s z x)

    module _ (sp : Span) (less : i < length sps) (e : sp ≡ get_or sps i no_span) where
      pub running_at : RunAt o (books_with s z x) sp depth bytes c ms s refreshes z
      running_at =
          subst (λ (a : Span). RunAt o (books_with s z x) a depth bytes c ms s refreshes z) (sym e)
          (on-at o depth bytes c₀ ms₀ x s sps time counted i less c ms refreshes old z v.on)

      module _ (c' : Ranges) (ms' : List ℕ) (r : Run)
          (w : Ran sp s time counted here z (whole o depth bytes c' ms' (books_with s r (books_with s z x))) r) where
        abbrev there : State
        there = whole o depth bytes c' ms' (books_with s r x)

        ran : Ran (get_or sps i no_span) s time counted here z (whole o depth bytes c' ms' (books_with s r (books_with s z x))) r
        ran = subst (λ (a : Span). Ran a s time counted here z (whole o depth bytes c' ms' (books_with s r (books_with s z x))) r) e w

        pub running_next : r.number ≡ 0 → Running o x sps depth bytes c₀ ms₀ s refreshes time counted (i + 1) c' ms' r
        running_next n =
            let k = ap (λ (a : ℕ). kept_old a old s c' ms') (add-one i) in
            record {
              on =
                  on-next o depth bytes c₀ ms₀ x s sps time counted i less c ms refreshes old z v.on r ran.number n c' ms' (ran.taken n) (ran.sum n)
                  old (k ∙ sym v.kept);
              kept = k;
            }

        pub running_stop : (r.number ≡ 0 → ⊥) → Went began s sps time counted there r
        running_stop n =
            let l : 1 ≤ r.number = omega arith in
            let k = ran.stopped l in
            record {
              first = first-stop o depth bytes c₀ ms₀ x s sps time counted i less c ms refreshes old z v.on r ran.number n;
              states = λ a. absurd (n a);
              bytes = λ a. absurd (n a);
              ranges = (λ j. back_ranges (128 * s) 128 (old_ranges (sym v.kept j)) (k.0 j)) ∙ v.on.ranges;
              marks = (λ j. back (256 * s) 256 (sym v.kept j).marks (k.1 j)) ∙ v.on.marks;
            }

    pub running_end : length sps ≤ i → i ≤ length sps → z.number ≡ 0 → Went began s sps time counted here z
    running_end over high n =
        let l = none_left sps i over high in
        let k = ap (λ (a : List Span). first_of (turn_refusals here s a time counted)) l in
        let m = ap (λ (a : List Span). bytes_touched here s a time counted) l ∙ no_bytes here s time counted in
        record {
          first = n ∙ sym k ∙ v.on.first;
          states = λ a. sym (no_spans here s time counted) ∙ ap (λ (b : List Span). touch_spans here s b time counted) (sym l) ∙ v.on.states;
          bytes = λ a. omega (arith, v.on.bytes, m);
          ranges = (λ j. back_ranges (128 * s) 128 (old_ranges (sym v.kept j)) c) ∙ v.on.ranges;
          marks = (λ j. back (256 * s) 256 (sym v.kept j).marks ms) ∙ v.on.marks;
        }

  -- ---- the answer

  abbrev all : Outcome (Unit {0}) TouchAnswer
  all = record { state = touch_spans began s sps time counted; lists = tt; answer = done (read (bytes_touched began s sps time counted)) }

  module _ (c : Ranges) (ms : List ℕ) (r : Run) (w : Went began s sps time counted (whole o depth bytes c ms (books_with s r x)) r) where
    pub went_done : (x' : List ℕ) → x' ≡ books_with s r x → r.number ≡ 0 → Outcomes began s sps time counted (whole o depth bytes c ms x') (Done (read r.sum))
    unfolding store_used
    went_done x' is n =
        ap (λ (l : List ℕ). outcome (whole o depth bytes c ms l) tt (done (read r.sum))) is
        ∙ outcome-done (number began s sps time counted) (touch_spans began s sps time counted) (whole o depth bytes c ms (books_with s r x)) r.sum (bytes_touched began s sps time counted)
        (sym w.first ∙ n) (w.states n) (w.bytes n) began all refl

    pub went_refused : (kept : Old) (c' : Ranges) (ms' : List ℕ) → (r.number ≡ 0 → ⊥) → kept ≡ old
        → c' ≡ back_ranges (128 * s) 128 (old_ranges kept) c → ms' ≡ back (256 * s) 256 kept.marks ms
        → Outcomes began s sps time counted (whole o depth bytes c' ms' x) (Refused r.number)
    unfolding store_used
    went_refused kept c' ms' n k ec em =
        let b = em ∙ ap (λ (p : Old). back (256 * s) 256 p.marks ms) k ∙ w.marks in
        (λ j. outcome (whole o depth bytes ((ec ∙ ap (λ (p : Old). back_ranges (128 * s) 128 (old_ranges p) c) k ∙ w.ranges) j) (b j) x) tt (refused (w.first j)))
        ∙ sym (unless-some began tt all (number began s sps time counted) _ refl (λ (e : number began s sps time counted ≡ 0). n (w.first ∙ e)))

    -- with room for all, none is refused
    pub roomy-none : Roomy y.n y.top y.next (length sps) → r.number ≡ 0
    roomy-none room =
        let v = q.on.stands in
        w.first ∙ sym q.on.first
        ∙ turns_fine began s sps time counted q.on.sound q.on.less q.on.inside q.on.finite
        (rw (v.records, v.stamp, v.next) at room)

pub room_array : {n top next count : ℕ} (l : List Span) → Roomy n top next count → Roomy n top next (length (take count l))
room_array {n} {top} {next} {count} l r =
    let e = length-take count l in
    record { records = omega (arith, e, r.records); stamps = omega (arith, e, r.stamps); ids = omega (arith, e, r.ids) }

-- ---- a look at the spans, with nothing kept of it

-- the first i spans are of every tree with these lengths
abbrev pub Fine : List ℕ → ℕ → List Span → ℕ → Type 0
Fine len nodes sps i = (t : Tree) → t.len ≡ len → t.nodes ≡ nodes → any i (bad t sps) ≡ false

some_at : (n : ℕ) (p : ℕ → Bool) (i : ℕ) → i < n → p i ≡ true → any n p ≡ true
unfolding any
some_at zero p i h e = absurd (omega arith)
some_at (suc n) p i h e =
    ⊎_elim (λ (f : i ≡ n). ap (λ (b : Bool). b || any n p) (ap p (sym f) ∙ e)) (λ (l : i < n). go (p n) (some_at n p i l e)) (eq-or-lt_of_le (le_of_suc-le-suc h))
  where
    go : (b : Bool) → any n p ≡ true → (b || any n p) ≡ true
    go true g = refl
    go false g = g

module _ (len : List ℕ) (nodes : ℕ) (sps : List Span) where
  pub fine_none : Fine len nodes sps 0
  unfolding any
  fine_none t l n = refl

  module _ (i : ℕ) (r : Bool) (sp : Span) (e : sp ≡ get_or sps i no_span) (f : (t : Tree) → t.len ≡ len → t.nodes ≡ nodes → r ≡ span_in t sp) where
    bad-is : (t : Tree) → t.len ≡ len → t.nodes ≡ nodes → bad t sps i ≡ not r
    bad-is t l n = ap (λ (q : Span). not (span_in t q)) (sym e) ∙ ap not (sym (f t l n))

    pub fine_more : r ≡ true → Fine len nodes sps i → Fine len nodes sps (i + 1)
    unfolding any
    fine_more g h t l n = ap (λ (k : ℕ). any k (bad t sps)) (add-one i) ∙ rw (bad-is t l n, g, h t l n) refl

    pub fine_not : i < length sps → r ≡ false → (k a b : ℕ) → a ≡ b → k ≡ four a
        → (t : Tree) → t.len ≡ len → t.nodes ≡ nodes → k ≡ refused_by (any (length sps) (bad t sps)) b
    fine_not less g k a b ab h t l n =
        h ∙ ap four ab ∙ ap (λ (q : Bool). refused_by q b) (sym (some_at (length sps) (bad t sps) i less (bad-is t l n ∙ ap not g)))

  pub fine_all : (i : ℕ) → length sps ≤ i → i ≤ length sps → Fine len nodes sps i → (a b : ℕ) → a ≡ b
      → (t : Tree) → t.len ≡ len → t.nodes ≡ nodes → a ≡ refused_by (any (length sps) (bad t sps)) b
  fine_all i over high h a b ab t l n =
      let e : i ≡ length sps = omega arith in
      ab ∙ ap (λ (q : Bool). refused_by q b) (sym (ap (λ (k : ℕ). any k (bad t sps)) (sym e) ∙ h t l n))

-- ---- before the turns

module _ (o : Others) (x : List ℕ) (sps : List Span) (depth bytes : List ℕ) (c : Ranges) (ms : List ℕ) (s : ℕ) (time : Float) (counted : Bool) (k : ℕ)
    (h : Sound (whole o depth bytes c ms x)) (f : (t : Tree) → t.len ≡ o.len → t.nodes ≡ nodes_in x → k ≡ refused_by (any (length sps) (bad t sps)) (first_number (stores_in x) s (length sps) time)) where
  abbrev st₀ : State
  st₀ = whole o depth bytes c ms x

  number_is : k ≡ refused_by (any (length sps) (bad st₀.tree sps)) (first_number (stores_in x) s (length sps) time)
  number_is = f st₀.tree refl refl

  pub start-refused : (k ≡ 0 → ⊥) → Outcomes st₀ s sps time counted st₀ (Refused k)
  unfolding store_used
  start-refused n =
      sym (unless-some st₀ tt _ (number st₀ s sps time counted) k (sym (start-off st₀ s sps time counted h k number_is n)) n)

  module _ (none : k ≡ 0) where
    less : s < stores_in x
    less = start-less st₀ s sps time counted h k number_is none

    pub start-long : (s < 8) × (max_numbers ≤ length x)
    start-long = (omega (arith, less, h.counts.stores), h.lent.books)

    pub start-counts : (b : Book) → b ≡ book_in x s → (b.records ≤ 128) × (b.stamp ≤ 281474976710655) × (next_id_in x ≤ 281474976710655)
    start-counts b is =
        let e = h.counts.each s (omega arith) less in
        subst (λ (q : Book). (q.records ≤ 128) × (q.stamp ≤ 281474976710655) × (next_id_in x ≤ 281474976710655)) (sym is)
        (e.records, e.stamp, h.counts.next_id)

    pub start-runs : (refreshes : Bool) (y : Run) → Stands s refreshes x y → y.sum ≡ 0 → y.number ≡ 0
        → Starts o x sps depth bytes c ms s refreshes time counted y
    start-runs refreshes y a b d = record { number = d; on = start-on st₀ s sps time counted h k number_is none refreshes (old_from s c ms) y a b }
