-- A store's pin entries by value: the list that they make, and whether a cut moves them. Assumes nothing.
use Rattle.std.specs.Prelude.{ℕ, ◌+◌, ◌^◌, ◌<◌, ◌≤◌, ◌≡◌, Bool, true, false, not, ◌&&◌, List, [], ◌∷◌, map, take, get_or, length, ltb, eqb}
use Rattle.model.specs.declared.Span.{Span}
use Rattle.model.specs.State.{Pins, Pin, at}
use Rattle.model.specs.Store.{pins, lay_pins}
use Rattle.model.specs.Insert.{cut_pins, pins_across}
use Rattle.model.specs.Pins.{pin_of, pin_ahead}
use Rattle.pool_pin.specs.EntryPlace.{span_at, before}
use Rattle.rule_cut_pins.specs.declared.Entry.{Entry}
use Rattle.rule_cut_pins.specs.declared.Entries.{Entries}

-- an entry by value is a pin
abbrev pub pin_from : Entry → Pin
pin_from e = pin_of e.span e.count

-- what stands past the last entry
abbrev pub no_pin : Pin
no_pin = record { node = 0; start = 0; end = 0; count = 0 }

-- the first n
abbrev pub pins_in : Entries → List Pin
pins_in l = map pin_from (take l.n l.list)

-- their spans; `no_entry` is what is read past the list's end
abbrev pub no_entry : Entry
no_entry = record { span = record { node = 0; start = 0; end = 0 }; count = 0 }

abbrev pub spans_in : Entries → ℕ → Span
spans_in l i = (get_or l.list i no_entry).span

-- each column has k elements
pub record PinsSized (k : ℕ) (c : Pins) : Type 0 where
  pub node : length c.node ≡ k
  pub start : length c.start ≡ k
  pub end : length c.end ≡ k
  pub count : length c.count ≡ k

-- the counts added up
unfoldable pub counts : List Pin → ℕ
counts [] = 0
counts (p ∷ ps) = p.count + counts ps

-- a list that the entries by value can hold
pub record Small (ps : List Pin) : Type 0 where
  pub few : length ps ≤ 32
  pub low : counts ps < 2 ^ 64

-- how many of the first n entries are across k on node j
abbrev pub pins_across_in : ℕ → ℕ → ℕ → Pins → ℕ
pins_across_in j k n c = pins_across j k (pins c 0 n)

-- p stands ahead of the next entry, where there is one
abbrev pub leads : Pin → List Pin → Bool
leads p [] = true
leads p (q ∷ qs) = pin_ahead p q

-- no entry is on node j, and each stands ahead of the next: a cut of node j leaves them as they are
unfoldable pub unmoved : ℕ → List Pin → Bool
unmoved j [] = true
unmoved j (p ∷ ps) = (not (eqb p.node j) && leads p ps) && unmoved j ps

-- the same of one place of the columns, of which n are used
abbrev pub leads_if : Bool → Span → Span → Bool
leads_if true p q = before p q
leads_if false p q = true

abbrev pub stays_at : ℕ → Pins → ℕ → ℕ → Bool
stays_at j c n i = not (eqb (at c.node i) j) && leads_if (ltb (i + 1) n) (span_at c i) (span_at c (i + 1))

-- the columns with the first n entries cut; m is the new node
abbrev pub cut_entries : ℕ → ℕ → ℕ → ℕ → Pins → Pins
cut_entries j k m n c = lay_pins 0 (n + pins_across_in j k n c) (cut_pins j k m (pins c 0 n)) c
