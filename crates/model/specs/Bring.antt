-- Document 01, "Bring in". Assumes nothing.
use Rattle.std.specs.Prelude.{ℕ, zero, suc, ◌+◌, ◌-◌, min, max, Bool, true, false, List, [], ◌∷◌, length, ltb, eqb, Float}
use Rattle.model.specs.declared.Span.{Span}
use Rattle.model.specs.State.{Tree, Range}
use Rattle.model.specs.Store.{Store, ranged, total, insert}
use Rattle.model.specs.Trim.{Out, bytes_of, trim, version_after}

-- ---- gaps

pub record Gap : Type 0 where
  pub from : ℕ
  pub upto : ℕ

-- a to b in front of gs, where it has a block
abbrev pub piece : Bool → ℕ → ℕ → List Gap → List Gap
piece true a b gs = record { from = a; upto = b } ∷ gs
piece false a b gs = gs

-- where a gap from a ends in front of a range that starts at s, if the range is on the node
abbrev pub gap_end : Bool → ℕ → ℕ → ℕ → ℕ
gap_end true a s z = min s z
gap_end false a s z = a

-- where the search goes on behind a range that ends at e
abbrev pub behind : Bool → ℕ → ℕ → ℕ
behind true a e = max a e
behind false a e = a

-- the parts of node n from a up to z that the ranges don't hold, lowest first
unfoldable pub gaps : ℕ → List Range → ℕ → ℕ → List Gap
gaps n [] a z = piece (ltb a z) a z []
gaps n (r ∷ rs) a z =
    let here = eqb r.node n in
    let b = gap_end here a r.start z in
    piece (ltb a b) a b (gaps n rs (behind here a r.end) z)

-- the blocks of gaps together
unfoldable pub gap_blocks : List Gap → ℕ
gap_blocks [] = 0
gap_blocks (g ∷ gs) = g.upto - g.from + gap_blocks gs

-- ---- "each gap of the span gets a range, lowest first, with the next stamp, the next id, time and write"

abbrev pub fresh : ℕ → Gap → ℕ → ℕ → Float → ℕ → Range
fresh n g stamp id time write =
    record { node = n; start = g.from; end = g.upto; id = id; stamp = stamp; touched = time; write = write }

-- the last stamp given is `stamp`, the next id `id`
unfoldable pub fill : ℕ → List Gap → ℕ → ℕ → Float → ℕ → List Range → List Range
unfolding insert
fill n [] stamp id time write rs = rs
fill n (g ∷ gs) stamp id time write rs = fill n gs (suc stamp) (suc id) time write (insert (fresh n g (suc stamp) id time write) rs)

-- ---- the whole

-- the store afterwards, what it gave out, and whether it stalled
pub record Brought : Type 0 where
  pub store : Store
  pub outs : List Out
  pub stalled : Bool

-- "with capacity 0, the whole span is given out at once, dead bytes 0, nothing else changes"
unfoldable pub give_back : Tree → List ℕ → Store → Span → ℕ → Brought
give_back t table x sp write =
    record {
      store = x;
      outs =
          record {
            node = sp.node;
            start = sp.start;
            end = sp.end;
            write = write;
            bytes = bytes_of t table sp.node sp.start sp.end;
            dead = 0;
          }
          ∷ [];
      stalled = false;
    }

-- "Else each gap .. then trim, even if there was no gap"
unfoldable pub keep : Tree → List ℕ → Store → ℕ → Span → Float → ℕ → Brought
unfolding gaps fill trim total
keep t table x next sp time write =
    let b = x.book in
    let gs = gaps sp.node x.ranges sp.start sp.end in
    let w = trim t table x.pins b.capacity (fill sp.node gs b.stamp next time write x.ranges) x.marks in
    record {
      store = record {
        book = ranged b (length w.ranges) (total w.ranges) (b.stamp + length gs) (version_after b.version w.outs);
        ranges = w.ranges;
        pins = x.pins;
        marks = w.marks;
      };
      outs = w.outs;
      stalled = w.stalled;
    }

unfoldable pub bring : Tree → List ℕ → Store → ℕ → Span → Float → ℕ → Brought
unfolding give_back keep
bring t table x next sp time write = elim x.book.capacity [ zero ↦ give_back t table x sp write | suc c ↦ keep t table x next sp time write ]

-- how many records, stamps and ids it needs: one of each for a gap, none at capacity 0
unfoldable pub bring_need : Store → Span → ℕ
unfolding gaps
bring_need x sp = elim x.book.capacity [ zero ↦ 0 | suc c ↦ length (gaps sp.node x.ranges sp.start sp.end) ]

-- document 02, P1: "the number of blocks of its gaps, 0 at capacity 0"
unfoldable pub bring_blocks : Store → Span → ℕ
unfolding gaps gap_blocks
bring_blocks x sp = elim x.book.capacity [ zero ↦ 0 | suc c ↦ gap_blocks (gaps sp.node x.ranges sp.start sp.end) ]
