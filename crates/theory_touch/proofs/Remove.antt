-- A removal keeps the store sound; its ids are old or new ones, and of the blocks it leaves those that aren't in the span. Those that stay and the
-- number that it answers are all that were held. Assumes nothing.
use Prim.Native.Nat.{ℕ, ◌+◌, ◌≤◌}
use mathlib.Core.Path.{◌≡◌, refl, sym}
use mathlib.Core.Logic.{◌↔◌}
use mathlib.Core.List.{List, [], ◌∷◌}
use native.Mathlib.Omega.{arith}
use native.Mathlib.Nat.{le_refl, le_trans}
use lib.ListN.{length}
use Rattle.model.specs.declared.Span.{Span}
use Rattle.model.specs.Sizes.{store_records, out_places}
use Rattle.model.specs.State.{Tree, Range}
use Rattle.model.specs.Sound.{StampBetween, Finite}
use Rattle.model.specs.Store.{Store, total}
use Rattle.model.specs.Touch.{overlapped}
use Rattle.model.specs.Remove.{cut_out, version_past, Removed, remove_hits, remove}
use Rattle.model.specs.Refusals.{SpanIn}
use Rattle.theory_sound.specs.Facts.{All, IdsFrom}
use Rattle.theory_sound.specs.StoreSound.{RangesSound, MarksSound, StoreSound}
use Rattle.theory_bring.proofs.Facts.{all_map, ids-same, ranges_later, Steady, steady-same}
use Rattle.theory_bring.proofs.Evict.{unmark-sound}
use Rattle.model.specs.Blocks.{Filled, Holds, InSpan}
use Rattle.theory_touch.proofs.Pieces.{parted_inside, parted_sorted, parted_all, cut_parted, cut_length, cut-ids, cut_below, cut-distinct}
use Rattle.theory_touch.proofs.Marks.{no_node, steady-sound}
use Rattle.theory_touch.proofs.CutOut.{Told, out-cut, out-holds, out-total, no_hit, one-middle, few-hits, few-writes}

-- w is what a removal makes of x
record Freed (t : Tree) (next : ℕ) (x : Store) (sp : Span) (w : Removed) : Type 0 where
  counted : w.store.book.records ≡ length w.store.ranges
  held : w.store.book.held ≡ total w.store.ranges
  blocks : w.store.book.held + w.blocks ≡ x.book.held
  ranges : RangesSound t (next + w.need) x.book.stamp w.store.ranges
  marks : MarksSound t w.store.ranges w.store.marks
  ids : IdsFrom x.ranges next w.store.ranges
  few : length w.store.ranges ≤ length x.ranges + w.need
  holds : (n o : ℕ) → Holds w.store.ranges n o ↔ (Holds x.ranges n o × (InSpan sp n o → ⊥))
  writes : length w.writes ≤ length x.ranges
  need : w.need ≤ 1

module _ {t : Tree} {next : ℕ} {x : Store} {sp : Span} (h : StoreSound t next x) (s : SpanIn t sp) (l : 1 ≤ next) where
  freed : Freed t next x sp (remove x next sp)
  unfolding remove
  freed = go (overlapped sp.node sp.start sp.end x.ranges) refl
    where
      rs : List Range
      rs = x.ranges

      filled : All Filled rs
      filled = all_map (λ r i. i.filled) rs h.ranges.inside

      go : (hits : List Range) → overlapped sp.node sp.start sp.end rs ≡ hits → Freed t next x sp (remove_hits hits x next sp)
      go [] e =
          record {
            counted = h.records;
            held = h.held;
            blocks = omega arith;
            ranges = ranges_later (omega arith) (le_refl x.book.stamp) h.ranges;
            marks = h.marks;
            ids = ids-same next rs;
            few = omega arith;
            holds = λ n o. (λ y. (y, no_hit sp rs e n o y), λ y. y.0);
            writes = omega arith;
            need = omega arith;
          }
      go (r ∷ hits) e =
          let qs = cut_out sp.node sp.start sp.end next rs in
          let c = out-cut sp s.filled rs next filled in
          let p = cut_parted c in
          record {
            counted = refl;
            held = refl;
            blocks = omega (arith, rw e at (out-total sp.node sp.start sp.end s.filled rs filled next), h.held);
            ranges = record {
              sorted = parted_sorted (λ r ps f. f.pieces) p h.ranges.sorted;
              inside = parted_inside (λ r ps f. f.pieces) t p h.ranges.inside;
              distinct = cut-distinct c h.ranges.ids h.ranges.distinct;
              ids = cut_below c l h.ranges.ids;
              stamps = parted_all (StampBetween x.book.stamp) (λ r ps f (b : StampBetween x.book.stamp r). all_map (λ q (e : Told r q). omega arith) ps f.timed) p
                  h.ranges.stamps;
              times = parted_all (λ r. Finite r.touched) (λ r ps f b. all_map (λ q e. rw e.1 b) ps f.timed) p h.ranges.times;
            };
            marks = unmark-sound sp.node rs qs x.marks
                (λ v d. no_node rs qs v filled (λ o y. (out-holds sp p v o).1 (y, λ i. d (sym i.node)))) h.marks;
            ids = cut-ids c;
            few = omega (arith, cut_length c);
            holds = out-holds sp p;
            writes = le_trans (few-writes (r ∷ hits)) (rw e at (few-hits sp.node sp.start sp.end rs));
            need = one-middle sp.node sp.start sp.end s.filled rs h.ranges.sorted;
          }

-- ---- the theorems

module _ (x : Store) (next : ℕ) (sp : Span) where
  abbrev w : Removed
  w = remove x next sp

  pub remove-steady : Steady x w.store
  unfolding remove
  remove-steady = go (overlapped sp.node sp.start sp.end x.ranges)
    where
      go : (hits : List Range) → Steady x (remove_hits hits x next sp).store
      go [] = steady-same x
      go (r ∷ hits) = record { book = refl; pins = refl }

  pub remove-stamp : w.store.book.stamp ≡ x.book.stamp
  unfolding remove
  remove-stamp = go (overlapped sp.node sp.start sp.end x.ranges)
    where
      go : (hits : List Range) → (remove_hits hits x next sp).store.book.stamp ≡ x.book.stamp
      go [] = refl
      go (r ∷ hits) = refl

  -- "The version rises by 1 if a block went"
  pub remove-version : w.store.book.version ≡ version_past w.blocks x.book.version
  unfolding remove
  remove-version = go (overlapped sp.node sp.start sp.end x.ranges)
    where
      go : (hits : List Range) → (remove_hits hits x next sp).store.book.version ≡ version_past (remove_hits hits x next sp).blocks x.book.version
      go [] = refl
      go (r ∷ hits) = refl

  module _ {t : Tree} (h : StoreSound t next x) (s : SpanIn t sp) (l : 1 ≤ next) where
    -- a block is held afterwards exactly if it was held before and isn't in the span
    pub remove-holds : (n o : ℕ) → Holds w.store.ranges n o ↔ (Holds x.ranges n o × (InSpan sp n o → ⊥))
    remove-holds = (freed h s l).holds

    -- what is held before is what is held after and the blocks that went
    pub remove-blocks : w.store.book.held + w.blocks ≡ x.book.held
    remove-blocks = (freed h s l).blocks

    pub remove-ids : IdsFrom x.ranges next w.store.ranges
    remove-ids = (freed h s l).ids

    pub remove_length : length w.store.ranges ≤ length x.ranges + w.need
    remove_length = (freed h s l).few

    -- one range at most is cut in two
    pub remove-need : w.need ≤ 1
    remove-need = (freed h s l).need

    pub remove-writes : length w.writes ≤ out_places
    remove-writes = le_trans (freed h s l).writes h.few

    pub remove-sound : length x.ranges + w.need ≤ store_records → StoreSound t (next + w.need) w.store
    remove-sound a =
        let k = freed h s l in
        steady-sound h remove-steady k.counted (le_trans k.few a) (rw remove-stamp h.stamp) (rw remove-stamp k.ranges) k.held (omega (arith, k.blocks)) k.marks
