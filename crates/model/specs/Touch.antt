-- Document 01, "Touch": one span. Assumes nothing.
use Rattle.std.specs.Prelude.{ℕ, suc, ◌+◌, min, max, Bool, true, false, not, ◌&&◌, List, [], ◌∷◌, length, set, ltb, leb, eqb, Float}
use Rattle.model.specs.declared.Span.{Span}
use Rattle.model.specs.State.{Tree, Range, at, refreshes}
use Rattle.model.specs.Store.{Store, ranged, meets, part, put, plus}
use Rattle.model.specs.Trim.{bytes_of}

-- ---- what the span overlaps

unfoldable pub overlapped : ℕ → ℕ → ℕ → List Range → List Range
overlapped n a z [] = []
overlapped n a z (r ∷ rs) = put (meets n a z r) r (overlapped n a z rs)

-- "bytes of the held part"
unfoldable pub held_bytes : Tree → List ℕ → ℕ → ℕ → ℕ → List Range → ℕ
held_bytes t table n a z [] = 0
held_bytes t table n a z (r ∷ rs) = bytes_of t table n (max a r.start) (min z r.end) + held_bytes t table n a z rs

-- "If one range only overlaps and lies wholly inside"
abbrev pub one_inside : ℕ → ℕ → List Range → Bool
one_inside a z [] = false
one_inside a z (r ∷ []) = leb a r.start && leb r.end z
one_inside a z (r ∷ q ∷ rs) = false

-- ---- refreshing

abbrev pub renewed : Range → ℕ → ℕ → ℕ → ℕ → Float → Range
renewed r start end i stamp time =
    record { node = r.node; start = start; end = end; id = i; stamp = stamp; touched = time; write = r.write }

-- "it gets the next stamp and the time"
unfoldable pub restamp : ℕ → ℕ → ℕ → ℕ → Float → List Range → List Range
restamp n a z stamp time [] = []
restamp n a z stamp time (r ∷ rs) =
    elim (meets n a z r) [ true ↦ renewed r r.start r.end r.id stamp time | false ↦ r ] ∷ restamp n a z stamp time rs

-- the middle of a range that the span overlaps; any other range as it is
abbrev pub middle : Bool → Range → ℕ → ℕ → ℕ → ℕ → Float → Range
middle true r a z i stamp time = renewed r (max a r.start) (min z r.end) i stamp time
middle false r a z i stamp time = r

-- has the range a head before a, a tail from z on
abbrev pub has_head : ℕ → ℕ → ℕ → Range → Bool
has_head n a z r = meets n a z r && ltb r.start a

abbrev pub has_tail : ℕ → ℕ → ℕ → Range → Bool
has_tail n a z r = meets n a z r && ltb z r.end

-- head, middle and tail in front of the rest; "the leftmost piece keeps the id, others get new ids from left to right"
abbrev pub pieces : ℕ → ℕ → ℕ → ℕ → Float → ℕ → Range → List Range → List Range
pieces n a z stamp time next r rest =
    let h = has_head n a z r in
    put h (part r r.node r.start a r.id)
    (middle (meets n a z r) r a z (elim h [ true ↦ next | false ↦ r.id ]) stamp time
    ∷ put (has_tail n a z r) (part r r.node z r.end (plus h next)) rest)

-- "each overlapped range is cut into head, middle, tail; the middle gets stamp and time"
unfoldable pub recut : ℕ → ℕ → ℕ → ℕ → Float → ℕ → List Range → List Range
recut n a z stamp time next [] = []
recut n a z stamp time next (r ∷ rs) =
    pieces n a z stamp time next r (recut n a z stamp time (plus (has_tail n a z r) (plus (has_head n a z r) next)) rs)

-- how many pieces are new
unfoldable pub new_pieces : ℕ → ℕ → ℕ → List Range → ℕ
new_pieces n a z [] = 0
new_pieces n a z (r ∷ rs) = plus (has_tail n a z r) (plus (has_head n a z r) (new_pieces n a z rs))

-- "touching neighbours on that node with equal stamp and write"
abbrev pub joins : ℕ → Range → Range → Bool
joins n r q = eqb r.node n && (eqb q.node n && (eqb r.end q.start && (eqb r.stamp q.stamp && eqb r.write q.write)))

-- "are joined, the left id and time staying"; r is what is joined so far
unfoldable pub join_from : ℕ → Range → List Range → List Range
join_from n r [] = r ∷ []
join_from n r (q ∷ rs) =
    let j = joins n r q in
    put (not j) r (join_from n (elim j [ true ↦ part r r.node r.start q.end r.id | false ↦ q ]) rs)

unfoldable pub join : ℕ → List Range → List Range
unfolding join_from
join n [] = []
join n (r ∷ rs) = join_from n r rs

-- ---- the whole

-- the store afterwards, how many records (and ids) and how many stamps it needed, and the bytes read
pub record Touched : Type 0 where
  pub store : Store
  pub need : ℕ
  pub stamps : ℕ
  pub bytes : ℕ

-- the store with these ranges, this stamp and these marks: a touch moves no block
abbrev pub reranged : Store → List Range → ℕ → List ℕ → Store
reranged x rs stamp ms =
    record {
      book = ranged x.book (length rs) x.book.held stamp x.book.version;
      ranges = rs;
      pins = x.pins;
      marks = ms;
    }

-- "the mark becomes the larger of itself and the span's end"
abbrev pub mark_read : Bool → Span → List ℕ → List ℕ
mark_read true sp ms = set ms sp.node (max (at ms sp.node) sp.end)
mark_read false sp ms = ms

abbrev pub bytes_read : Bool → Tree → List ℕ → Span → List Range → ℕ
bytes_read true t table sp hits = held_bytes t table sp.node sp.start sp.end hits
bytes_read false t table sp hits = 0

-- "Otherwise one new stamp for the span: .. then .. joined"
unfoldable pub split : Store → ℕ → Span → Float → List ℕ → ℕ → Touched
unfolding recut join new_pieces
split x next sp time ms read =
    record {
      store = reranged x (join sp.node (recut sp.node sp.start sp.end (suc x.book.stamp) time next x.ranges)) (suc x.book.stamp) ms;
      need = new_pieces sp.node sp.start sp.end x.ranges;
      stamps = 1;
      bytes = read;
    }

unfoldable pub renew : Store → Span → Float → List ℕ → ℕ → Touched
unfolding restamp
renew x sp time ms read =
    record {
      store = reranged x (restamp sp.node sp.start sp.end (suc x.book.stamp) time x.ranges) (suc x.book.stamp) ms;
      need = 0;
      stamps = 1;
      bytes = read;
    }

-- the ranges stay as they are: "Under `Fifo` nothing else happens"
abbrev pub only_read : Store → List ℕ → ℕ → Touched
only_read x ms read = record { store = reranged x x.ranges x.book.stamp ms; need = 0; stamps = 0; bytes = read }

abbrev pub refresh : Bool → Bool → Store → ℕ → Span → Float → List ℕ → ℕ → Touched
refresh false one x next sp time ms read = only_read x ms read
refresh true true x next sp time ms read = renew x sp time ms read
refresh true false x next sp time ms read = split x next sp time ms read

-- "Spans that overlap nothing held are passed over"
abbrev pub touch_hits : List Range → Tree → List ℕ → Store → ℕ → Span → Float → Bool → Touched
touch_hits [] t table x next sp time counted = only_read x x.marks 0
touch_hits (r ∷ rs) t table x next sp time counted =
    refresh (refreshes x.book) (one_inside sp.start sp.end (r ∷ rs)) x next sp time (mark_read counted sp x.marks)
    (bytes_read counted t table sp (r ∷ rs))

unfoldable pub touch : Tree → List ℕ → Store → ℕ → Span → Float → Bool → Touched
unfolding overlapped held_bytes renew split
touch t table x next sp time counted = touch_hits (overlapped sp.node sp.start sp.end x.ranges) t table x next sp time counted
