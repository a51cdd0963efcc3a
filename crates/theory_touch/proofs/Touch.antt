-- A touch of one span keeps the store sound; its ids are old or new ones, and it holds the same blocks as before. Assumes nothing.
use Prim.Native.Nat.{ℕ, suc, ◌+◌, ◌≤◌}
use mathlib.Core.Bool.{Bool, true, false}
use mathlib.Core.Path.{◌≡◌, refl, sym, ◌∙◌}
use mathlib.Core.Logic.{◌↔◌}
use mathlib.Core.List.{List, [], ◌∷◌}
use native.Mathlib.Omega.{arith}
use native.Mathlib.Nat.{le_refl, le_of_eq}
use lib.ListN.{length}
use lib.Ieee.{Float}
use Rattle.model.specs.declared.Span.{Span}
use Rattle.model.specs.Sizes.{store_records, max_stamp}
use Rattle.model.specs.State.{Tree, Range, refreshes}
use Rattle.model.specs.Sound.{Finite}
use Rattle.model.specs.Store.{Store, total}
use Rattle.model.specs.Touch.{Touched, overlapped, one_inside, mark_read, bytes_read, reranged, renew, split, only_read, refresh, touch_hits, touch}
use Rattle.model.specs.Refusals.{SpanIn}
use Rattle.theory_sound.specs.Facts.{All, IdsFrom}
use Rattle.theory_sound.specs.StoreSound.{MarksSound, StoreSound}
use Rattle.theory_bring.proofs.Facts.{all_map, ids-same, ranges_later, Steady}
use Rattle.model.specs.Blocks.{Filled, Holds}
use Rattle.theory_touch.proofs.Marks.{no_node, marks_carry, read-marks, steady-sound}
use Rattle.theory_touch.proofs.Recut.{hit-node, cut_to, Retold, cut_retold, join_retold, restamp-cut, recut-cut}

-- w is what a touch makes of x, whatever x is
record Turned (x : Store) (w : Touched) : Type 0 where
  steady : Steady x w.store
  counted : w.store.book.records ≡ length w.store.ranges
  held : w.store.book.held ≡ x.book.held
  version : w.store.book.version ≡ x.book.version
  stamp : w.store.book.stamp ≡ x.book.stamp + w.stamps

-- and where x is sound
record TurnedSound (t : Tree) (next : ℕ) (x : Store) (w : Touched) : Type 0 where
  ranges : Retold t next (next + w.need) w.store.book.stamp x.ranges w.store.ranges
  marks : MarksSound t w.store.ranges w.store.marks

-- ---- the cases of a touch

module _ (x : Store) (next : ℕ) (sp : Span) (time : Float) where
  turn : (rs : List Range) (ms : List ℕ) (stamp need stamps read : ℕ) → stamp ≡ x.book.stamp + stamps
      → Turned x (record { store = reranged x rs stamp ms; need = need; stamps = stamps; bytes = read })
  turn rs ms stamp need stamps read e =
      record { steady = record { book = refl; pins = refl }; counted = refl; held = refl; version = refl; stamp = e }

  refreshed : (on one : Bool) (ms : List ℕ) (read : ℕ) → Turned x (refresh on one x next sp time ms read)
  unfolding renew split
  refreshed false one ms read = turn _ _ _ _ _ _ (omega arith)
  refreshed true true ms read = turn _ _ _ _ _ _ (omega arith)
  refreshed true false ms read = turn _ _ _ _ _ _ (omega arith)

  turned : (t : Tree) (table : List ℕ) (counted : Bool) → Turned x (touch t table x next sp time counted)
  unfolding touch
  turned t table counted = go (overlapped sp.node sp.start sp.end x.ranges)
    where
      go : (hits : List Range) → Turned x (touch_hits hits t table x next sp time counted)
      go [] = turn _ _ _ _ _ _ (omega arith)
      go (r ∷ rs) = refreshed (refreshes x.book) _ _ _

module _ {t : Tree} {next : ℕ} {x : Store} (h : StoreSound t next x) where
  filled : All Filled x.ranges
  filled = all_map (λ r i. i.filled) x.ranges h.ranges.inside

  -- marks of the old ranges are marks of ranges that hold the same blocks
  sound_as : (w : Touched) → Retold t next (next + w.need) w.store.book.stamp x.ranges w.store.ranges
      → MarksSound t x.ranges w.store.marks → TurnedSound t next x w
  sound_as w k m =
      record { ranges = k; marks = marks_carry (λ v. no_node x.ranges w.store.ranges v filled (λ o. (k.holds v o).1)) m }

  only-sound : (ms : List ℕ) (read : ℕ) → MarksSound t x.ranges ms → TurnedSound t next x (only_read x ms read)
  only-sound ms read =
      sound_as (only_read x ms read)
      (record {
        sound = ranges_later (omega arith) (le_refl x.book.stamp) h.ranges;
        ids = ids-same next x.ranges;
        few = omega arith;
        total = refl;
        holds = λ n o. (λ z. z, λ z. z);
      })

  module _ {sp : Span} (s : SpanIn t sp) (time : Float) (f : Finite time) (l : 1 ≤ next) where
    refreshed_sound : (on one : Bool) (ms : List ℕ) (read : ℕ) → MarksSound t x.ranges ms → TurnedSound t next x (refresh on one x next sp time ms read)
    unfolding renew split
    refreshed_sound false one ms read = only-sound ms read
    refreshed_sound true true ms read =
        sound_as (renew x sp time ms read)
        (cut_retold (cut_to (restamp-cut (suc x.book.stamp) time sp.node sp.start sp.end x.ranges next filled) (omega arith)) l (omega arith)
        (omega arith) f h.ranges)
    refreshed_sound true false ms read =
        sound_as (split x next sp time ms read)
        (join_retold sp.node
        (cut_retold (recut-cut (suc x.book.stamp) time sp.node sp.start sp.end s.filled x.ranges next filled) l (omega arith) (omega arith) f
        h.ranges))

    turned-sound : (table : List ℕ) (counted : Bool) → TurnedSound t next x (touch t table x next sp time counted)
    unfolding touch
    turned-sound table counted = go (overlapped sp.node sp.start sp.end x.ranges) refl
      where
        go : (hits : List Range) → overlapped sp.node sp.start sp.end x.ranges ≡ hits
            → TurnedSound t next x (touch_hits hits t table x next sp time counted)
        go [] e = only-sound x.marks 0 h.marks
        go (r ∷ rs) e =
            refreshed_sound (refreshes x.book) (one_inside sp.start sp.end (r ∷ rs)) (mark_read counted sp x.marks)
            (bytes_read counted t table sp (r ∷ rs))
            (read-marks counted s (hit-node sp.node sp.start sp.end x.ranges r rs e) h.marks)

-- ---- the theorems

module _ (t : Tree) (table : List ℕ) (x : Store) (next : ℕ) (sp : Span) (time : Float) (counted : Bool) where
  abbrev w : Touched
  w = touch t table x next sp time counted

  pub touch-steady : Steady x w.store
  touch-steady = (turned x next sp time t table counted).steady

  pub touch-counted : w.store.book.records ≡ length w.store.ranges
  touch-counted = (turned x next sp time t table counted).counted

  pub touch-held : w.store.book.held ≡ x.book.held
  touch-held = (turned x next sp time t table counted).held

  pub touch-version : w.store.book.version ≡ x.book.version
  touch-version = (turned x next sp time t table counted).version

  pub touch-stamp : w.store.book.stamp ≡ x.book.stamp + w.stamps
  touch-stamp = (turned x next sp time t table counted).stamp

  module _ (h : StoreSound t next x) (s : SpanIn t sp) (f : Finite time) (l : 1 ≤ next) where
    -- the same blocks are held, and as many
    pub touch-holds : (n o : ℕ) → Holds w.store.ranges n o ↔ Holds x.ranges n o
    touch-holds = (turned-sound h s time f l table counted).ranges.holds

    pub touch-total : total w.store.ranges ≡ total x.ranges
    touch-total = (turned-sound h s time f l table counted).ranges.total

    pub touch-ids : IdsFrom x.ranges next w.store.ranges
    touch-ids = (turned-sound h s time f l table counted).ranges.ids

    pub touch_length : length w.store.ranges ≤ length x.ranges + w.need
    touch_length = omega (arith, (turned-sound h s time f l table counted).ranges.few)

    pub touch-sound : length x.ranges + w.need ≤ store_records → x.book.stamp + w.stamps ≤ max_stamp → StoreSound t (next + w.need) w.store
    touch-sound a b =
        let k = turned-sound h s time f l table counted in
        steady-sound h touch-steady touch-counted (omega (arith, touch_length)) (rw touch-stamp b) k.ranges.sound
        (touch-held ∙ h.held ∙ sym touch-total) (le_of_eq touch-held) k.marks
