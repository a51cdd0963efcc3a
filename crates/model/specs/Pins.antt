-- Document 01, "Pin adds 1 to the entry of exactly that span, held or not; unpin takes 1 off and never trims." Assumes nothing.
use Rattle.std.specs.Prelude.{ℕ, zero, suc, ◌+◌, ◌-◌, ◌*◌, Bool, true, false, not, ◌&&◌, ◌||◌, List, [], ◌∷◌, length, ltb, eqb}
use Rattle.model.specs.declared.Span.{Span}
use Rattle.model.specs.State.{Pin}
use Rattle.model.specs.Store.{Store, pinning, plus}

abbrev pub pin_of : Span → ℕ → Pin
pin_of sp count = record { node = sp.node; start = sp.start; end = sp.end; count = count }

abbrev pub same_span : Pin → Pin → Bool
same_span p q = eqb p.node q.node && (eqb p.start q.start && eqb p.end q.end)

-- by node, start, end
abbrev pub pin_ahead : Pin → Pin → Bool
pin_ahead p q =
    ltb p.node q.node
    || (eqb p.node q.node && (ltb p.start q.start || (eqb p.start q.start && ltb p.end q.end)))

abbrev pub counted : Pin → ℕ → Pin
counted p count = record { node = p.node; start = p.start; end = p.end; count = count }

-- an entry put in at its place; "equal entries add up"
unfoldable pub add_pin : Pin → List Pin → List Pin
add_pin p [] = p ∷ []
add_pin p (q ∷ qs) =
    elim (same_span p q) [
      | true ↦ counted q (q.count + p.count) ∷ qs
      | false ↦ elim (pin_ahead p q) [ true ↦ p ∷ q ∷ qs | false ↦ q ∷ add_pin p qs ]
    ]

-- q with one less, in front of qs; it goes with its last
abbrev pub one_less : ℕ → Pin → List Pin → List Pin
one_less zero q qs = qs
one_less (suc zero) q qs = qs
one_less (suc (suc n)) q qs = counted q (suc n) ∷ qs

unfoldable pub take_pin : Pin → List Pin → List Pin
take_pin p [] = []
take_pin p (q ∷ qs) = elim (same_span p q) [ true ↦ one_less q.count q qs | false ↦ q ∷ take_pin p qs ]

-- is there an entry of exactly that span?
unfoldable pub has_pin : Pin → List Pin → Bool
has_pin p [] = false
has_pin p (q ∷ qs) = same_span p q || has_pin p qs

-- "the sum of length times count"
unfoldable pub pinned_in : List Pin → ℕ
pinned_in [] = 0
pinned_in (p ∷ ps) = (p.end - p.start) * p.count + pinned_in ps

abbrev pub repinned : Store → List Pin → Store
repinned x ps =
    record {
      book = pinning x.book (length ps) (pinned_in ps);
      ranges = x.ranges;
      pins = ps;
      marks = x.marks;
    }

unfoldable pub pin : Store → Span → Store
unfolding add_pin pinned_in
pin x sp = repinned x (add_pin (pin_of sp 1) x.pins)

-- how many entries a pin needs
unfoldable pub pin_need : Store → Span → ℕ
unfolding has_pin
pin_need x sp = plus (not (has_pin (pin_of sp 1) x.pins)) 0

unfoldable pub unpin : Store → Span → Store
unfolding take_pin pinned_in
unpin x sp = repinned x (take_pin (pin_of sp 1) x.pins)
