-- What the tests find is what the model says, fact by fact: the same numbers at the same places of the pools. Assumes nothing.
use Prim.Native.Nat.{ℕ, zero, suc, ◌*◌, ◌≤◌}
use mathlib.Core.Path.{◌≡◌, refl, sym, ◌∙◌}
use mathlib.Core.Bool.{Bool, true, false}
use lib.ListN.{length}
use native.Mathlib.Omega.{arith}
use Rattle.model.specs.Words.{Each, Says}
use Rattle.model.specs.Sizes.{store_records, store_pins, max_marks, max_numbers}
use Rattle.model.specs.State.{State, at, range_at, pin_at, stores_of, next_id_of, records_of, stamp_of, entries_of}
use Rattle.model.specs.Sound.{Sound, RangesLent, PinsLent, Inside, Before, IdBetween, StampBetween, PinInside, PinBefore, held_by, pinned_by}
use Rattle.model.specs.Sound.{RecordsStand, RecordsInside, HeldIsSum, HeldNoneAtZero, IdsBelowNext, StampsUpToStores, TimesFinite}
use Rattle.model.specs.Sound.{PinsStand, PinsInside, PinnedIsSum, MarksNone, MarksWithin}
use Rattle.test_store.specs.Records.{InsideAt, BeforeAt, NumberedAt, FiniteAt, held_from}
use Rattle.test_store.specs.Pins.{PinBeforeAt, CountedAt, pinned_from}
use Rattle.test_state.specs.Stores.{NumbersFit, CountsFit, StoreRecords, StorePins, StoreMarks, Tested}
use Rattle.test_tree.specs.Nodes.{Table}
use Rattle.test_tree.specs.Tree.{TreeSound}
use Rattle.test_state.specs.Ids.{Differ}
use Rattle.test_state.proofs.Places.{each_of, each_at, pairs_of, pairs-at}
use Rattle.test_state.proofs.Ids.{ids-of, ids_at}

-- the tests' facts of the places of a state's pools
abbrev RangeIn : State → ℕ → Type 0
RangeIn st i = InsideAt st.tree.len st.ranges.node st.ranges.start st.ranges.end st.tree.nodes i

abbrev RangeBefore : State → ℕ → ℕ → Type 0
RangeBefore st j k = BeforeAt st.ranges.node st.ranges.start st.ranges.end j k

abbrev Numbered : State → ℕ → ℕ → Type 0
Numbered st top i = NumberedAt st.ranges.id st.ranges.stamp (next_id_of st) top i

abbrev PinIn : State → ℕ → Type 0
PinIn st i = InsideAt st.tree.len st.pins.node st.pins.start st.pins.end st.tree.nodes i

abbrev PinOrder : State → ℕ → ℕ → Type 0
PinOrder st j k = PinBeforeAt st.pins.node st.pins.start st.pins.end j k

module _ (st : State) where
  held_same : (s n : ℕ) → held_from st.ranges.start st.ranges.end (store_records * s) n ≡ held_by st s n
  unfolding held_from held_by
  held_same s zero = refl
  held_same s (suc n) = rw (held_same s n)

  pinned-same : (s n : ℕ) → pinned_from st.pins.start st.pins.end st.pins.count (store_pins * s) n ≡ pinned_by st s n
  unfolding pinned_from pinned_by
  pinned-same s zero = refl
  pinned-same s (suc n) = rw (pinned-same s n)

  in_of_lem : (i : ℕ) → RangeIn st i → Inside st.tree (range_at st.ranges i)
  in_of_lem i h = record { in_use = h.in_use; filled = h.filled; ends = h.ends }

  in_at : (i : ℕ) → Inside st.tree (range_at st.ranges i) → RangeIn st i
  in_at i h = record { in_use = h.in_use; filled = h.filled; ends = h.ends }

  before_of : (j k : ℕ) → RangeBefore st j k → Before (range_at st.ranges j) (range_at st.ranges k)
  before_of j k h = record { by_node = h.by_node; apart = h.apart }

  before_at : (j k : ℕ) → Before (range_at st.ranges j) (range_at st.ranges k) → RangeBefore st j k
  before_at j k h = record { by_node = h.by_node; apart = h.apart }

  numbered-at : (top i : ℕ) → IdBetween (next_id_of st) (range_at st.ranges i) → StampBetween top (range_at st.ranges i) → Numbered st top i
  numbered-at top i d t = record { id_low = d.low; id_high = d.high; stamp_low = t.low; stamp_high = t.high }

  id-of : (top i : ℕ) → Numbered st top i → IdBetween (next_id_of st) (range_at st.ranges i)
  id-of top i h = record { low = h.id_low; high = h.id_high }

  stamp-of : (top i : ℕ) → Numbered st top i → StampBetween top (range_at st.ranges i)
  stamp-of top i h = record { low = h.stamp_low; high = h.stamp_high }

  pin_of : (i : ℕ) → PinIn st i → CountedAt st.pins.count i → PinInside st.tree (pin_at st.pins i)
  pin_of i h n = record { in_use = h.in_use; filled = h.filled; ends = h.ends; counted = n }

  pin_at_lem : (i : ℕ) → PinInside st.tree (pin_at st.pins i) → PinIn st i
  pin_at_lem i h = record { in_use = h.in_use; filled = h.filled; ends = h.ends }

  order-of : (j k : ℕ) → PinOrder st j k → PinBefore (pin_at st.pins j) (pin_at st.pins k)
  order-of j k h = record { by_node = h.by_node; by_start = h.by_start; by_end = h.by_end }

  order-at : (j k : ℕ) → PinBefore (pin_at st.pins j) (pin_at st.pins k) → PinOrder st j k
  order-at j k h = record { by_node = h.by_node; by_start = h.by_start; by_end = h.by_end }

  -- ---- a sound state passes each test

  pub records-at : Sound st
      → Each 0 (stores_of st) (StoreRecords st.tree.len st.ranges.node st.ranges.start st.ranges.end st.ranges.id st.ranges.stamp st.ranges.touched st.tree.nodes st.books)
  unfolding RecordsInside RecordsStand IdsBelowNext StampsUpToStores TimesFinite HeldIsSum HeldNoneAtZero
  records-at h s f l = record {
    inside = each_at (RangeIn st) (λ k g m. in_at _ (h.inside s f l k g m));
    stand = pairs-at (RangeBefore st) (λ j k g m. before_at _ _ (h.stand s f l j k g m));
    numbered = each_at (Numbered st (stamp_of st s)) (λ k g m. numbered-at _ _ (h.ids_below s f l k g m) (h.stamps s f l k g m));
    finite = each_at (FiniteAt st.ranges.touched) (h.times s f l);
    sum = h.held s f l ∙ sym (held_same s (records_of st s));
    empty = h.held_none s f l;
  }

  pub entries_at : Sound st
      → Each 0 (stores_of st) (StorePins st.tree.len st.pins.node st.pins.start st.pins.end st.pins.count st.tree.nodes st.books)
  unfolding PinsInside PinsStand PinnedIsSum
  entries_at h s f l = record {
    inside = each_at (PinIn st) (λ k g m. pin_at_lem _ (h.pins_inside s f l k g m));
    counted = each_at (CountedAt st.pins.count) (λ k g m. (h.pins_inside s f l k g m).counted);
    stand = pairs-at (PinOrder st) (λ j k g m. order-at _ _ (h.pins_stand s f l j k g m));
    sum = h.pinned s f l ∙ sym (pinned-same s (entries_of st s));
  }

  pub marked-at : Sound st → Each 0 (stores_of st) (StoreMarks st.tree.len st.ranges.node st.marks st.tree.nodes st.books)
  unfolding MarksNone MarksWithin
  marked-at h s f l v g m = record {
    none = λ n. h.marks_none s f l v g m (each_of (λ (i : ℕ). at st.ranges.node i ≡ v → ⊥) n);
    within = λ u. h.marks_within s f l v g u;
  }

  pub tested-of : Sound st → Tested st
  tested-of h = record {
    ranges = h.lent.ranges;
    pins = h.lent.pins;
    marks = h.lent.marks;
    books = h.lent.books;
    numbers = record {
      some_store = h.counts.some_store;
      stores = h.counts.stores;
      first_id = h.counts.first_id;
      next_id = h.counts.next_id;
      stalls = h.counts.stalls;
    };
    counts = h.counts.each;
    table = record { long = h.lent.bytes; rising = h.table };
    tree = record {
      sized = record { lent = h.lent.tree; low = h.counts.root; high = h.counts.nodes; used = h.counts.used; root = h.root };
      parents = h.parents;
      depths = h.depths;
      ends = h.ends;
      filled = h.filled;
      runs_below = h.runs_below;
      runs_apart = h.runs_apart;
      siblings = h.siblings;
    };
    records = records-at h;
    entries = entries_at h;
    marked = marked-at h;
    ids = ids_at st h.ids;
  }

  -- ---- a state that passes each test is sound

  stand_of : Tested st → RecordsStand st
  unfolding RecordsStand
  stand_of t s f l j k g m = before_of _ _ (pairs_of (RangeBefore st) (t.records s f l).stand j k g m)

  inside_of : Tested st → RecordsInside st
  unfolding RecordsInside
  inside_of t s f l k g m = in_of_lem _ (each_of (RangeIn st) (t.records s f l).inside k g m)

  held_of : Tested st → HeldIsSum st
  unfolding HeldIsSum
  held_of t s f l = (t.records s f l).sum ∙ held_same s (records_of st s)

  held-none-of : Tested st → HeldNoneAtZero st
  unfolding HeldNoneAtZero
  held-none-of t s f l = (t.records s f l).empty

  ids-below-of : Tested st → IdsBelowNext st
  unfolding IdsBelowNext
  ids-below-of t s f l k g m = id-of _ _ (each_of (Numbered st (stamp_of st s)) (t.records s f l).numbered k g m)

  stamps-of : Tested st → StampsUpToStores st
  unfolding StampsUpToStores
  stamps-of t s f l k g m = stamp-of _ _ (each_of (Numbered st (stamp_of st s)) (t.records s f l).numbered k g m)

  times-of : Tested st → TimesFinite st
  unfolding TimesFinite
  times-of t s f l = each_of (FiniteAt st.ranges.touched) (t.records s f l).finite

  pins-stand-of : Tested st → PinsStand st
  unfolding PinsStand
  pins-stand-of t s f l j k g m = order-of _ _ (pairs_of (PinOrder st) (t.entries s f l).stand j k g m)

  pins-inside-of : Tested st → PinsInside st
  unfolding PinsInside
  pins-inside-of t s f l k g m =
      pin_of _ (each_of (PinIn st) (t.entries s f l).inside k g m) (each_of (CountedAt st.pins.count) (t.entries s f l).counted k g m)

  pinned-of : Tested st → PinnedIsSum st
  unfolding PinnedIsSum
  pinned-of t s f l = (t.entries s f l).sum ∙ pinned-same s (entries_of st s)

  marks-none-of : Tested st → MarksNone st
  unfolding MarksNone
  marks-none-of t s f l v g m n = (t.marked s f l v g m).none (each_at (λ (i : ℕ). at st.ranges.node i ≡ v → ⊥) n)

  marks-within-of : Tested st → MarksWithin st
  unfolding MarksWithin
  marks-within-of t s f l v g m = (t.marked s f l v g (omega (arith, t.tree.sized.high))).within m

  pub sound-of : Tested st → Sound st
  sound-of t = record {
    lent = record {
      tree = t.tree.sized.lent;
      ranges = t.ranges;
      pins = t.pins;
      marks = t.marks;
      bytes = t.table.long;
      books = t.books;
    };
    counts = record {
      root = t.tree.sized.low;
      nodes = t.tree.sized.high;
      used = t.tree.sized.used;
      some_store = t.numbers.some_store;
      stores = t.numbers.stores;
      first_id = t.numbers.first_id;
      next_id = t.numbers.next_id;
      stalls = t.numbers.stalls;
      each = t.counts;
    };
    table = t.table.rising;
    root = t.tree.sized.root;
    parents = t.tree.parents;
    depths = t.tree.depths;
    ends = t.tree.ends;
    filled = t.tree.filled;
    runs_below = t.tree.runs_below;
    runs_apart = t.tree.runs_apart;
    siblings = t.tree.siblings;
    stand = stand_of t;
    inside = inside_of t;
    held = held_of t;
    held_none = held-none-of t;
    ids = ids-of st t.counts t.ids;
    ids_below = ids-below-of t;
    stamps = stamps-of t;
    times = times-of t;
    pins_stand = pins-stand-of t;
    pins_inside = pins-inside-of t;
    pinned = pinned-of t;
    marks_none = marks-none-of t;
    marks_within = marks-within-of t;
  }

  -- the last test says whether the state is sound, where the others passed
  pub sound_says : (r : Bool) → RangesLent st.ranges → PinsLent st.pins → max_marks ≤ length st.marks → max_numbers ≤ length st.books → NumbersFit st.books
      → Each 0 (stores_of st) (CountsFit st.books) → Table st.bytes → TreeSound st.tree
      → Each 0 (stores_of st) (StoreRecords st.tree.len st.ranges.node st.ranges.start st.ranges.end st.ranges.id st.ranges.stamp st.ranges.touched st.tree.nodes st.books)
      → Each 0 (stores_of st) (StorePins st.tree.len st.pins.node st.pins.start st.pins.end st.pins.count st.tree.nodes st.books)
      → Each 0 (stores_of st) (StoreMarks st.tree.len st.ranges.node st.marks st.tree.nodes st.books)
      → Says r (Differ st.ranges.id st.books (store_records * stores_of st)) → Says r (Sound st)
  sound_says true a b c d e f g h i j k l =
      sound-of (record { ranges = a; pins = b; marks = c; books = d; numbers = e; counts = f; table = g; tree = h; records = i; entries = j; marked = k; ids = l })
  sound_says false a b c d e f g h i j k l = λ s. l (tested-of s).ids
