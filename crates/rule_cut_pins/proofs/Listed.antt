-- An entry added to an array of them, at the place that was found. Assumes nothing.
use Prim.Native.Nat.{ℕ, ◌+◌, ◌^◌, ◌≤◌, ◌<◌}
use mathlib.Core.Path.{◌≡◌, sym, ap, ◌∙◌}
use mathlib.Core.Bool.{true}
use mathlib.Core.List.{List, map}
use native.Mathlib.Nat.{le_of_lt}
use native.Mathlib.Omega.{arith}
use lib.ListN.{length, get_or, set, take, drop, length-map, take-append-drop}
use lib.Seq.{take_at, take-set-lt, length-take-le}
use Rattle.std.proofs.lemmas.List.{get_or-map, get_or-take}
use Rattle.model.specs.State.{Pin}
use Rattle.model.specs.Pins.{same_span, pin_ahead, counted, add_pin}
use Rattle.pool_range.specs.Cols.{put_at, insert_at}
use Rattle.pool_range.proofs.Laid.{lay-full, put-lay, length_insert_at}
use Rattle.pool_range.proofs.Records.{map_insert_at, map_set}
use Rattle.pool_pin.specs.EntryPlace.{Passed, Stands, GoesIn}
use Rattle.pool_pin.proofs.Entries.{Behind, add-there, add-new}
use Rattle.rule_cut_pins.specs.Entries.{pin_from, pins_in, no_entry, spans_in, Small}
use Rattle.rule_cut_pins.specs.declared.Entry.{Entry}
use Rattle.rule_cut_pins.specs.declared.Entries.{Entries}
use Rattle.rule_cut_pins.proofs.Fewer.{adds, count-least}

-- the first n of an array with one more put in
module _ {A : Type 0} where
  front-put : (blank : A) (i n : ℕ) (x : A) (l : List A) → i ≤ n → n < length l → take (n + 1) (put_at i x n l) ≡ insert_at i x (take n l)
  front-put blank i n x l h k =
      let front = take n l in
      let long : length front ≡ n = length-take-le n l (omega arith) in
      let one : length (insert_at i x front) ≡ n + 1 = length_insert_at blank i x front (omega arith) ∙ ap (λ (j : ℕ). j + 1) long in
      ap (λ (t : List A). take (n + 1) (put_at i x n t)) (sym (lay-full blank n front l long ∙ take-append-drop n l))
      ∙ ap (λ (t : List A). take (n + 1) t) (put-lay blank i n x front l long h ∙ lay-full blank (n + 1) (insert_at i x front) l one)
      ∙ take_at (insert_at i x front) (drop (n + 1) l) (n + 1) one

module _ (l : Entries) (few : l.n ≤ 32) (long : length l.list ≡ 32) (p : Entry) (i : ℕ) where
  abbrev ps : List Pin
  ps = pins_in l

  all-long : length ps ≡ l.n
  all-long = length-map (take l.n l.list) pin_from ∙ length-take-le l.n l.list (omega arith)

  read : (j : ℕ) → j < l.n → get_or ps j (pin_from p) ≡ pin_from (get_or l.list j no_entry)
  read j h =
      let k : j < length (take l.n l.list) = omega (arith, length-take-le l.n l.list (omega arith)) in
      get_or-map pin_from (take l.n l.list) j no_entry (pin_from p) k ∙ ap pin_from (get_or-take l.n l.list j no_entry h)

  behind : Passed (spans_in l) p.span i → i ≤ l.n → Behind (pin_from p) ps i
  behind passed high j h =
      let e = read j (omega arith) in
      (ap (same_span (pin_from p)) e ∙ (passed j h).0, ap (pin_ahead (pin_from p)) e ∙ (passed j h).1)

  -- on its entry
  module _ (here : Stands (spans_in l) l.n p.span i) where
    in-list : i < length ps
    in-list = omega (arith, all-long, here.high)

    pub sum-fits : Small (add_pin (pin_from p) ps) → (get_or l.list i no_entry).count + p.count < 2 ^ 64
    sum-fits s =
        omega (arith, s.low, (adds (pin_from p) ps).sum, count-least ps i (pin_from p) in-list, ap (λ (q : Pin). q.count) (read i here.high))

    pub added-there : pins_in (record {
      list = set l.list i (record { span = (get_or l.list i no_entry).span; count = (get_or l.list i no_entry).count + p.count });
      n = l.n;
    })
        ≡ add_pin (pin_from p) ps
    added-there =
        let more : Entry = record { span = (get_or l.list i no_entry).span; count = (get_or l.list i no_entry).count + p.count } in
        let same : same_span (pin_from p) (get_or ps i (pin_from p)) ≡ true = ap (same_span (pin_from p)) (read i here.high) ∙ here.found in
        ap (map pin_from) (take-set-lt l.n l.list i more here.high)
        ∙ map_set pin_from (take l.n l.list) i more
        ∙ ap (λ (q : Pin). set ps i (counted q (q.count + p.count))) (sym (read i here.high))
        ∙ sym (add-there (pin_from p) ps i (behind here.passed (le_of_lt here.high)) in-list same)

  -- or put in
  module _ (new : GoesIn (spans_in l) l.n p.span i) where
    added-is : add_pin (pin_from p) ps ≡ insert_at i (pin_from p) ps
    added-is =
        add-new (pin_from p) ps i (behind new.passed new.high) (omega (arith, all-long, new.high))
        (λ h.
        let k : i < l.n = omega (arith, all-long) in
        let e = read i k in
        (ap (same_span (pin_from p)) e ∙ (new.next k).0, ap (pin_ahead (pin_from p)) e ∙ (new.next k).1))

    pub one-more : Small (add_pin (pin_from p) ps) → l.n + 1 ≤ 32
    one-more s =
        omega (arith, s.few, ap length added-is, length_insert_at (pin_from p) i (pin_from p) ps (omega (arith, all-long, new.high)), all-long)

    pub added-new : Small (add_pin (pin_from p) ps) → pins_in (record { list = put_at i p l.n l.list; n = l.n + 1 }) ≡ add_pin (pin_from p) ps
    added-new s =
        ap (map pin_from) (front-put p i l.n p l.list new.high (omega (arith, one-more s)))
        ∙ map_insert_at pin_from i p (take l.n l.list)
        ∙ sym added-is
