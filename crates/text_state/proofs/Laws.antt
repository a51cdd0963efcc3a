-- What a sound state has for each of the state's printers. Assumes nothing.
use Prim.Native.Nat.{ℕ, zero, suc, ◌≤◌, ◌<◌}
use native.Mathlib.Omega.{arith}
use Rattle.model.specs.State.{State, at, record_of, entry_of, stores_of, records_of, entries_of}
use Rattle.model.specs.Sound.{Sound, EndsWithin, NodesFilled, RunsBelow, RecordsInside, PinsInside}
use Rattle.text_state.specs.Columns.{Nodes, Spot, Spots}

module _ (st : State) (h : Sound st) where
  -- a nonempty range inside a node: the node is not the root, so it has an end and a run
  spot : (node start end : ℕ) → node < st.tree.nodes → start < end → end ≤ at st.tree.len node
      → Spot st.tree.depth st.tree.run st.tree.words node start end
  unfolding EndsWithin RunsBelow
  spot node start end in_use filled ends =
      let low : 1 ≤ node = from-root node ends in
      record {
        has_depth = omega (arith, h.counts.nodes, h.lent.tree.depth);
        has_run = omega (arith, h.counts.nodes, h.lent.tree.run);
        filled = filled;
        ends = omega (arith, h.ends node low in_use);
        last = omega (arith, h.runs_below node low in_use, h.counts.used, h.lent.tree.words);
      }
    where
      from-root : (n : ℕ) → end ≤ at st.tree.len n → 1 ≤ n
      from-root zero e = absurd (omega (arith, h.root.len))
      from-root (suc n) e = omega arith

  pub nodes-of : Nodes st.tree.parent st.tree.depth st.tree.len st.tree.run st.tree.words st.tree.nodes
  unfolding NodesFilled RunsBelow
  nodes-of =
      record {
        few = h.counts.nodes;
        runs =
            λ k low less.
            record {
              has_parent = omega (arith, h.counts.nodes, h.lent.tree.parent);
              has_depth = omega (arith, h.counts.nodes, h.lent.tree.depth);
              has_len = omega (arith, h.counts.nodes, h.lent.tree.len);
              has_run = omega (arith, h.counts.nodes, h.lent.tree.run);
              filled = h.filled k low less;
              below = omega (arith, h.runs_below k low less, h.counts.used, h.lent.tree.words);
            };
      }

  pub record_spots : (s : ℕ) → s < stores_of st
      → Spots 128 s (records_of st s) st.tree.depth st.tree.run st.tree.words st.ranges.node st.ranges.start st.ranges.end
  unfolding RecordsInside
  record_spots s less k low few =
      let i = h.inside s (omega arith) less k low few in
      let n = (h.counts.each s (omega arith) less).records in
      let z = h.counts.stores in
      record {
        has_node = omega (arith, h.lent.ranges.node);
        has_start = omega (arith, h.lent.ranges.start);
        has_end = omega (arith, h.lent.ranges.end);
        spot = spot (record_of st s k).node (record_of st s k).start (record_of st s k).end i.in_use i.filled i.ends;
      }

  pub pin_spots : (s : ℕ) → s < stores_of st
      → Spots 32 s (entries_of st s) st.tree.depth st.tree.run st.tree.words st.pins.node st.pins.start st.pins.end
  unfolding PinsInside
  pin_spots s less k low few =
      let i = h.pins_inside s (omega arith) less k low few in
      let n = (h.counts.each s (omega arith) less).entries in
      let z = h.counts.stores in
      record {
        has_node = omega (arith, h.lent.pins.node);
        has_start = omega (arith, h.lent.pins.start);
        has_end = omega (arith, h.lent.pins.end);
        spot = spot (entry_of st s k).node (entry_of st s k).start (entry_of st s k).end i.in_use i.filled i.ends;
      }
