-- Document 01, "Remove". Assumes nothing.
use Rattle.std.specs.Prelude.{ℕ, zero, suc, ◌+◌, ◌-◌, ◌%◌, min, max, Bool, true, false, ◌&&◌, List, [], ◌∷◌, length}
use Rattle.model.specs.declared.Span.{Span}
use Rattle.model.specs.Sizes.{versions}
use Rattle.model.specs.State.{Range}
use Rattle.model.specs.Store.{Store, ranged, total, meets, part, put, plus, unmark}
use Rattle.model.specs.Touch.{overlapped, has_head, has_tail}

-- "a middle cut's tail gets a new id": the range reaches past both ends of the span
abbrev pub middle_cut : ℕ → ℕ → ℕ → Range → Bool
middle_cut n a z r = has_head n a z r && has_tail n a z r

-- "other pieces keep theirs"
abbrev pub tail_id : Bool → ℕ → Range → ℕ
tail_id true next r = next
tail_id false next r = r.id

-- a range without the span, in front of the rest
abbrev pub remains : Bool → ℕ → ℕ → ℕ → ℕ → Range → List Range → List Range
remains true n a z next r rest =
    put (has_head n a z r) (part r r.node r.start a r.id)
    (put (has_tail n a z r) (part r r.node z r.end (tail_id (middle_cut n a z r) next r)) rest)
remains false n a z next r rest = r ∷ rest

-- "cut the span out, pinned or not"
unfoldable pub cut_out : ℕ → ℕ → ℕ → ℕ → List Range → List Range
cut_out n a z next [] = []
cut_out n a z next (r ∷ rs) = remains (meets n a z r) n a z next r (cut_out n a z (plus (middle_cut n a z r) next) rs)

unfoldable pub middle_cuts : ℕ → ℕ → ℕ → List Range → ℕ
middle_cuts n a z [] = 0
middle_cuts n a z (r ∷ rs) = plus (middle_cut n a z r) (middle_cuts n a z rs)

-- "Write numbers of overlapped ranges are listed by start, repeats too"; a range without a write adds nothing
abbrev pub listed : ℕ → List ℕ → List ℕ
listed zero ws = ws
listed (suc w) ws = suc w ∷ ws

unfoldable pub writes : List Range → List ℕ
writes [] = []
writes (r ∷ rs) = listed r.write (writes rs)

-- the blocks from a up to z that overlapped ranges have: these go
unfoldable pub gone_blocks : ℕ → ℕ → List Range → ℕ
gone_blocks a z [] = 0
gone_blocks a z (r ∷ rs) = min z r.end - max a r.start + gone_blocks a z rs

-- "The version rises by 1 if a block went"
abbrev pub version_past : ℕ → ℕ → ℕ
version_past zero v = v
version_past (suc k) v = suc v % versions

-- the store afterwards, how many records and ids it needed, the writes, and the blocks that went
pub record Removed : Type 0 where
  pub store : Store
  pub need : ℕ
  pub writes : List ℕ
  pub blocks : ℕ

-- a span that overlaps no range changes nothing
abbrev pub remove_hits : List Range → Store → ℕ → Span → Removed
remove_hits [] x next sp = record { store = x; need = 0; writes = []; blocks = 0 }
remove_hits (r ∷ rs) x next sp =
    let left = cut_out sp.node sp.start sp.end next x.ranges in
    let k = gone_blocks sp.start sp.end (r ∷ rs) in
    record {
      store = record {
        book = ranged x.book (length left) (total left) x.book.stamp (version_past k x.book.version);
        ranges = left;
        pins = x.pins;
        marks = unmark sp.node left x.marks;
      };
      need = middle_cuts sp.node sp.start sp.end x.ranges;
      writes = writes (r ∷ rs);
      blocks = k;
    }

unfoldable pub remove : Store → ℕ → Span → Removed
unfolding overlapped cut_out middle_cuts writes gone_blocks total
remove x next sp = remove_hits (overlapped sp.node sp.start sp.end x.ranges) x next sp
