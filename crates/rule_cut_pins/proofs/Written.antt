-- Columns that are written from the front: a list, and 0 up to place k. Each is a copy of its list with the zeros behind it. Assumes nothing.
use Prim.Native.Nat.{ℕ, zero, suc, ◌+◌, ◌-◌, ◌≤◌, ◌<◌}
use mathlib.Core.Path.{◌≡◌, refl, sym, ap, ◌∙◌}
use mathlib.Core.List.{List, [], ◌∷◌, ◌++◌, map, append_assoc}
use native.Mathlib.Nat.{zero-add}
use native.Mathlib.Omega.{arith}
use lib.ListN.{length, get_or, get_or-map, set, drop, replicate, take, length-append, length-map, length-take, length-replicate}
use lib.Seq.{paste, take_all}
use Rattle.model.specs.State.{Pins, Pin}
use Rattle.model.specs.Store.{lay, lay_pins}
use Rattle.shape_state.specs.Lent.{pins_of}
use Rattle.pool_range.proofs.Laid.{lay-front}
use Rattle.pool_range.proofs.Copied.{Copying, copy_start, copy_turn, copy_end}
use Rattle.rule_cut_pins.specs.Entries.{pin_from, pins_in, no_pin}
use Rattle.rule_cut_pins.specs.declared.Entries.{Entries}

abbrev padded : List ℕ → ℕ → List ℕ
padded xs k = xs ++ replicate (k - length xs) 0

pub record Writing (l xs : List ℕ) (k : ℕ) (c : List ℕ) (i : ℕ) : Type 0 where
  pub copying : Copying l 0 (padded xs k) k c i

zeros : (n i : ℕ) → get_or (replicate {A = ℕ} n 0) i 0 ≡ 0
zeros zero i = refl
zeros (suc n) zero = refl
zeros (suc n) (suc i) = zeros n i

padded-at : (xs : List ℕ) (n i : ℕ) → get_or (xs ++ replicate {A = ℕ} n 0) i 0 ≡ get_or xs i 0
padded-at [] n i = zeros n i
padded-at (x ∷ xs) n zero = refl
padded-at (x ∷ xs) n (suc i) = padded-at xs n i

module _ (l xs : List ℕ) (k : ℕ) where
  pub write-start : k ≤ length l → Writing l xs k l 0
  write-start h = record { copying = copy_start (omega arith) }

  module _ (few : length xs ≤ k) where
    long : length (padded xs k) ≡ k
    long = omega (arith, length-append xs (replicate (k - length xs) 0), length-replicate {A = ℕ} (k - length xs) 0)

    pub write-turn : {c : List ℕ} {i : ℕ} (v : ℕ) → Writing l xs k c i → i < k → v ≡ get_or xs i 0 → Writing l xs k (set c i v) (i + 1)
    write-turn {c} {i} v o h e =
        let t = copy_turn 0 o.copying h (omega (arith, long)) in
        record { copying = rw (e, ← padded-at xs (k - length xs) i) (rw zero-add at t) }

    pub write-end : {c : List ℕ} {i : ℕ} → Writing l xs k c i → k ≤ i → c ≡ lay 0 0 k xs l
    write-end {c} {i} o h =
        let p : paste l 0 (padded xs k) k ≡ xs ++ (replicate (k - length xs) 0 ++ drop k l) =
        rw (zero-add, take_all k (padded xs k) (omega (arith, long)), append_assoc) in
        copy_end o.copying h ∙ p ∙ sym (lay-front 0 k xs l)

-- the four columns of entries
abbrev pub column : (Pin → ℕ) → List Pin → List ℕ
column f ps = map f ps

pub all-few : (f : Pin → ℕ) (l : Entries) (k : ℕ) → l.n ≤ k → length (column f (pins_in l)) ≤ k
all-few f l k h = omega (arith, length-map (pins_in l) f, length-map (take l.n l.list) pin_from, length-take l.n l.list)

-- what is read of an entry is what its column has there
pub entry-at : (f : Pin → ℕ) (ps : List Pin) (i : ℕ) (q : Pin) → f no_pin ≡ 0 → q ≡ get_or ps i no_pin → f q ≡ get_or (map f ps) i 0
entry-at f ps i q z e = ap f e ∙ sym (rw z at (get_or-map f ps i no_pin))

pub laid-is : (ps : List Pin) (k : ℕ) (c : Pins) (a b d e : List ℕ) → a ≡ lay 0 0 k (map (λ p. p.node) ps) c.node
    → b ≡ lay 0 0 k (map (λ p. p.start) ps) c.start → d ≡ lay 0 0 k (map (λ p. p.end) ps) c.end
    → e ≡ lay 0 0 k (map (λ p. p.count) ps) c.count → pins_of a b d e ≡ lay_pins 0 k ps c
unfolding lay_pins
laid-is ps k c a b d e pa pb pd pe = rw (pa, pb, pd, pe)
