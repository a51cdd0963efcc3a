-- Document 01, "Rules of a store": bytes, what is dead, one eviction, trim. Assumes nothing.
use Rattle.std.specs.Prelude.{ℕ, zero, suc, ◌+◌, ◌-◌, ◌%◌, min, max, Bool, true, false, not, ◌&&◌, ◌||◌, List, [], ◌∷◌, length, get_or, ltb, leb, eqb, Option, None, Some}
use Rattle.model.specs.Sizes.{max_stalls, versions}
use Rattle.model.specs.State.{Tree, Range, Pin, at}
use Rattle.model.specs.Store.{length_of, total, unmark, part, no_time}

-- a given-out span; a write of 0 is none
pub record Out : Type 0 where
  pub node : ℕ
  pub start : ℕ
  pub end : ℕ
  pub write : ℕ
  pub bytes : ℕ
  pub dead : ℕ

-- the blocks of given-out spans together
unfoldable pub out_blocks : List Out → ℕ
out_blocks [] = 0
out_blocks (o ∷ os) = o.end - o.start + out_blocks os

-- ---- bytes

-- "Bytes of a span are the byte table at depth + end minus at depth + start"
abbrev pub bytes_of : Tree → List ℕ → ℕ → ℕ → ℕ → ℕ
bytes_of t table n start end = at table (at t.depth n + end) - at table (at t.depth n + start)

-- where the dead part of a span begins: "the part at or above the read mark" (the place that request P5 changes)
abbrev pub dead_from : ℕ → ℕ → ℕ → ℕ
dead_from mark start end = max start (min mark end)

-- "Dead bytes are those of the part at or above the read mark"
abbrev pub dead_bytes : Tree → List ℕ → List ℕ → ℕ → ℕ → ℕ → ℕ
dead_bytes t table marks n start end = bytes_of t table n (dead_from (at marks n) start end) end

-- what is told of a range's part that goes
abbrev pub told : Tree → List ℕ → List ℕ → Range → ℕ → ℕ → Out
told t table marks r start end =
    record {
      node = r.node;
      start = start;
      end = end;
      write = r.write;
      bytes = bytes_of t table r.node start end;
      dead = dead_bytes t table marks r.node start end;
    }

-- ---- "the first range by stamp, then id, that no pin of this store overlaps"

abbrev pub overlaps : Range → Pin → Bool
overlaps r p = eqb r.node p.node && (ltb r.start p.end && ltb p.start r.end)

unfoldable pub is_pinned : List Pin → Range → Bool
is_pinned [] r = false
is_pinned (p ∷ ps) r = overlaps r p || is_pinned ps r

-- by stamp, then id
abbrev pub sooner : Range → Range → Bool
sooner r q = ltb r.stamp q.stamp || (eqb r.stamp q.stamp && ltb r.id q.id)

abbrev pub no_range : Range
no_range = record { node = 0; start = 0; end = 0; id = 0; stamp = 0; touched = no_time; write = 0 }

abbrev pub nth : List Range → ℕ → Range
nth rs i = get_or rs i no_range

-- the place of the sooner of r, if it may go, and of the range at the place found behind it
abbrev pub better : Bool → Range → List Range → Option ℕ → Option ℕ
better true r rs None = Some 0
better true r rs (Some i) = elim (sooner (nth rs i) r) [ true ↦ Some (suc i) | false ↦ Some 0 ]
better false r rs None = None
better false r rs (Some i) = Some (suc i)

-- the place of the first, by stamp, then id, of the ranges that may go
unfoldable pub first : (Range → Bool) → List Range → Option ℕ
first may [] = None
first may (r ∷ rs) = better (may r) r rs (first may rs)

-- ---- one eviction: "its last .. blocks are given out"

-- r without its last k blocks, in front of rs
abbrev pub shortened : Bool → Range → ℕ → List Range → List Range
shortened true r k rs = rs
shortened false r k rs = part r r.node r.start (r.end - k) r.id ∷ rs

-- the last k blocks of the range at place i go
unfoldable pub evict : List Range → ℕ → ℕ → List Range
evict [] i k = []
evict (r ∷ rs) zero k = shortened (leb (length_of r) k) r k rs
evict (r ∷ rs) (suc i) k = r ∷ evict rs i k

-- ---- trim

-- how many blocks an excess asks for (the place that request P3 changes)
abbrev pub asked : ℕ → ℕ
asked excess = excess

-- ranges and marks after spans were given out, the spans in order, and whether it ended in a stall
pub record Trimmed : Type 0 where
  pub ranges : List Range
  pub marks : List ℕ
  pub outs : List Out
  pub stalled : Bool

abbrev pub also : Out → Trimmed → Trimmed
also o t = record { ranges = t.ranges; marks = t.marks; outs = o ∷ t.outs; stalled = t.stalled }

-- where there is an excess, the range that goes next
unfoldable pub chosen : List Pin → ℕ → List Range → Option ℕ
unfolding first is_pinned
chosen ps zero rs = None
chosen ps (suc e) rs = first (λ r. not (is_pinned ps r)) rs

-- "its last min(length, excess) blocks"
abbrev pub amount : (ℕ → ℕ) → ℕ → Range → ℕ
amount asks e r = min (length_of r) (asks e)

-- e is the excess, c the place chosen for it, and n bounds the turns: each but the last takes a range away
unfoldable pub trim_by : (ℕ → ℕ) → Tree → List ℕ → List Pin → ℕ → ℕ → Option ℕ → List Range → List ℕ → Trimmed
unfolding chosen evict
trim_by asks t table ps zero e c rs ms = record { ranges = rs; marks = ms; outs = []; stalled = ltb 0 e }
trim_by asks t table ps (suc n) e None rs ms = record { ranges = rs; marks = ms; outs = []; stalled = ltb 0 e }
trim_by asks t table ps (suc n) e (Some i) rs ms =
    let r = nth rs i in
    let k = amount asks e r in
    let rest = evict rs i k in
    also (told t table ms r (r.end - k) r.end) (trim_by asks t table ps n (e - k) (chosen ps (e - k) rest) rest (unmark r.node rest ms))

-- "while held > capacity"
unfoldable pub trim : Tree → List ℕ → List Pin → ℕ → List Range → List ℕ → Trimmed
unfolding trim_by chosen total
trim t table ps capacity rs ms =
    let e = total rs - capacity in
    trim_by asked t table ps (length rs) e (chosen ps e rs) rs ms

-- "rises by 1 for each span given out and goes from 2^64 - 1 to 0"
abbrev pub version_after : ℕ → List Out → ℕ
version_after v outs = (v + length outs) % versions

-- "the stall count rises by 1 (it stays at 2^48)"
abbrev pub stalls_after : Bool → ℕ → ℕ
stalls_after true n = min (suc n) max_stalls
stalls_after false n = n
