-- The sound state by positions and the sound state store by store are the same. Assumes nothing.
use Prim.Native.Nat.{ℕ, ◌<◌, zero-le}
use mathlib.Core.Path.{◌≡◌, sym, ◌∙◌}
use native.Mathlib.Omega.{arith}
use native.Mathlib.Decide.{ℕ_discrete, dec_lt}
use Rattle.model.specs.Words.{Pairs}
use Rattle.model.specs.State.{State, record_of, entry_of, stores_of, next_id_of, book_of, records_of, stamp_of, entries_of}
use Rattle.model.specs.Sound
use Rattle.model.specs.Sound.{Sound, Inside, Before, Finite, IdBetween, StampBetween, PinBefore, PinInside, OneRecord}
use Rattle.model.specs.Store.{store_of}
use Rattle.theory_lay.proofs.Store.{records_length, record_at, entries_length, entry_at, marks_length, mark_at, held-store, pinned-store, holds-off, off-holds}
use Rattle.theory_sound.specs.Facts.{All, Distinct, IdApart, ApartFrom}
use Rattle.theory_sound.specs.StoreSound.{TreeSound, RangesSound, PinsSound, MarksSound, StoreSound, Parts}
use Rattle.theory_calls.proofs.Lists.{Reads, each_all, all-each, pairs-order, order-pairs}

-- a store's lists read its used places
module _ (st : State) (s : ℕ) where
  pub reads-ranges : Reads (record_of st s) (records_of st s) (store_of st s).ranges
  reads-ranges = record { long = records_length st s; place = λ k h. record_at st s k (record_of st s 0) h }

  pub reads-pins : Reads (entry_of st s) (entries_of st s) (store_of st s).pins
  reads-pins = record { long = entries_length st s; place = λ k h. entry_at st s k (entry_of st s 0) h }

-- ---- from the positions

module _ (st : State) (h : Sound st) where
  tree-sound : TreeSound st.tree
  tree-sound =
      record {
        lent = h.lent.tree;
        some = h.counts.root;
        nodes = h.counts.nodes;
        used = h.counts.used;
        root = h.root;
        parents = h.parents;
        depths = h.depths;
        ends = h.ends;
        filled = h.filled;
        runs_below = h.runs_below;
        runs_apart = h.runs_apart;
        siblings = h.siblings;
      }

  module _ (s : ℕ) (less : s < stores_of st) where
    ids-distinct : Distinct (store_of st s).ranges
    unfolding Sound.IdsDiffer
    ids-distinct =
        pairs-order (reads-ranges st s) IdApart
        (λ j k l m e. omega (arith, l, (h.ids s zero-le less j zero-le (omega arith) s zero-le less k zero-le m e).place))

    ranges-sound : RangesSound st.tree (next_id_of st) (stamp_of st s) (store_of st s).ranges
    unfolding Sound.RecordsStand Sound.RecordsInside Sound.IdsBelowNext Sound.StampsUpToStores Sound.TimesFinite
    ranges-sound =
        let rs = reads-ranges st s in
        record {
          sorted = pairs-order rs Before (h.stand s zero-le less);
          inside = each_all rs (Inside st.tree) (h.inside s zero-le less);
          distinct = ids-distinct;
          ids = each_all rs (IdBetween (next_id_of st)) (h.ids_below s zero-le less);
          stamps = each_all rs (StampBetween (stamp_of st s)) (h.stamps s zero-le less);
          times = each_all rs (λ r. Finite r.touched) (h.times s zero-le less);
        }

    pins-sound : PinsSound st.tree (store_of st s).pins
    unfolding Sound.PinsStand Sound.PinsInside
    pins-sound =
        let ps = reads-pins st s in
        record {
          sorted = pairs-order ps PinBefore (h.pins_stand s zero-le less);
          inside = each_all ps (PinInside st.tree) (h.pins_inside s zero-le less);
        }

    marks-sound : MarksSound st.tree (store_of st s).ranges (store_of st s).marks
    unfolding Sound.MarksNone Sound.MarksWithin
    marks-sound =
        record {
          long = marks_length st s h.lent.marks (omega (arith, h.counts.stores));
          none = λ v l off. mark_at st s v l ∙ h.marks_none s zero-le less v zero-le l (off-holds st s v off);
          within = λ v l. rw (mark_at st s v (omega (arith, h.counts.nodes))) (h.marks_within s zero-le less v zero-le l);
        }

    store-sound : StoreSound st.tree (next_id_of st) (store_of st s)
    unfolding store_of Sound.HeldIsSum Sound.HeldNoneAtZero Sound.PinnedIsSum
    store-sound =
        let own = h.counts.each s zero-le less in
        record {
          capacity = own.capacity;
          policy = own.policy;
          records = sym (records_length st s);
          few = rw (records_length st s) own.records;
          stamp = own.stamp;
          ranges = ranges-sound;
          held = h.held s zero-le less ∙ held-store st s;
          held_none = h.held_none s zero-le less;
          entries = sym (entries_length st s);
          few_pins = rw (entries_length st s) own.entries;
          pins = pins-sound;
          pinned = h.pinned s zero-le less ∙ pinned-store st s;
          pinned_most = own.pinned;
          marks = marks-sound;
        }

  ids-apart : (s q : ℕ) → s < stores_of st → q < stores_of st → (s ≡ q → ⊥) → ApartFrom (store_of st s).ranges (store_of st q).ranges
  unfolding Sound.IdsDiffer
  ids-apart s q l m other =
      each_all (reads-ranges st s) (λ r. All (IdApart r) (store_of st q).ranges)
      (λ j low high. each_all (reads-ranges st q) (IdApart (record_of st s j))
      (λ k below above e. other (h.ids s zero-le l j low high q zero-le m k below above e).store))

pub sound-parts : (st : State) → Sound st → Parts st
sound-parts st h =
    record {
      lent = h.lent;
      table = h.table;
      tree = tree-sound st h;
      some = h.counts.some_store;
      stores = h.counts.stores;
      first_id = h.counts.first_id;
      next_id = h.counts.next_id;
      stalls = h.counts.stalls;
      each = λ s low less. store-sound st h s less;
      apart = ids-apart st h;
    }

-- ---- from the stores

module _ (st : State) (h : Parts st) where
  store-counts : (s : ℕ) → s < stores_of st → Sound.StoreCounts (book_of st s)
  unfolding store_of
  store-counts s less =
      let own = h.each s zero-le less in
      record {
        capacity = own.capacity;
        policy = own.policy;
        records = rw (records_length st s) at own.few;
        entries = rw (entries_length st s) at own.few_pins;
        pinned = own.pinned_most;
        stamp = own.stamp;
      }

  counts : Sound.Counts st
  counts =
      record {
        root = h.tree.some;
        nodes = h.tree.nodes;
        used = h.tree.used;
        some_store = h.some;
        stores = h.stores;
        first_id = h.first_id;
        next_id = h.next_id;
        stalls = h.stalls;
        each = λ s low less. store-counts s less;
      }

  -- one id: one place in the store, and one store
  one_place : (s : ℕ) → s < stores_of st → (j k : ℕ) → j < records_of st s → k < records_of st s
      → (record_of st s j).id ≡ (record_of st s k).id → j ≡ k
  one_place s less j k l m e = go (dec_lt j k) (dec_lt k j)
    where
      pair : Pairs (records_of st s) (λ i n. IdApart (record_of st s i) (record_of st s n))
      pair = order-pairs (reads-ranges st s) IdApart (h.each s zero-le less).ranges.distinct

      go : Dec (j < k) → Dec (k < j) → j ≡ k
      go (yes g) d = absurd (pair j k g m e)
      go (no f) (yes g) = absurd (pair k j g l (sym e))
      go (no f) (no g) = omega arith

  ids-differ : Sound.IdsDiffer st
  unfolding Sound.IdsDiffer
  ids-differ s a l j b m q c n k d o e = go (ℕ_discrete s q)
    where
      go : Dec (s ≡ q) → OneRecord s j q k
      go (yes same) = record { store = same; place = one_place s l j k m (rw (← same) at o) (rw (← same) at e) }
      go (no other) =
          absurd (all-each (reads-ranges st q) (IdApart (record_of st s j))
          (all-each (reads-ranges st s) (λ r. All (IdApart r) (store_of st q).ranges) (h.apart s q l n other) j b m) k d o e)

pub parts-sound : (st : State) → Parts st → Sound st
unfolding store_of Sound.RecordsStand Sound.RecordsInside Sound.IdsBelowNext Sound.StampsUpToStores Sound.TimesFinite Sound.HeldIsSum Sound.HeldNoneAtZero Sound.PinsStand Sound.PinsInside Sound.PinnedIsSum Sound.MarksNone Sound.MarksWithin
parts-sound st h =
    record {
      lent = h.lent;
      counts = counts st h;
      table = h.table;
      root = h.tree.root;
      parents = h.tree.parents;
      depths = h.tree.depths;
      ends = h.tree.ends;
      filled = h.tree.filled;
      runs_below = h.tree.runs_below;
      runs_apart = h.tree.runs_apart;
      siblings = h.tree.siblings;
      stand = λ s low less. order-pairs (reads-ranges st s) Before (h.each s low less).ranges.sorted;
      inside = λ s low less. all-each (reads-ranges st s) (Inside st.tree) (h.each s low less).ranges.inside;
      held = λ s low less. (h.each s low less).held ∙ sym (held-store st s);
      held_none = λ s low less. (h.each s low less).held_none;
      ids = ids-differ st h;
      ids_below = λ s low less. all-each (reads-ranges st s) (IdBetween (next_id_of st)) (h.each s low less).ranges.ids;
      stamps = λ s low less. all-each (reads-ranges st s) (StampBetween (stamp_of st s)) (h.each s low less).ranges.stamps;
      times = λ s low less. all-each (reads-ranges st s) (λ r. Finite r.touched) (h.each s low less).ranges.times;
      pins_stand = λ s low less. order-pairs (reads-pins st s) PinBefore (h.each s low less).pins.sorted;
      pins_inside = λ s low less. all-each (reads-pins st s) (PinInside st.tree) (h.each s low less).pins.inside;
      pinned = λ s low less. (h.each s low less).pinned ∙ sym (pinned-store st s);
      marks_none = λ s low less v below l none. sym (mark_at st s v l) ∙ (h.each s low less).marks.none v l (holds-off st s v none);
      marks_within = λ s low less v below l. rw (mark_at st s v (omega (arith, h.tree.nodes))) at ((h.each s low less).marks.within v l);
    }
