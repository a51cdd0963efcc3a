-- What a cut of node j at k goes through; and one range of a store's part, cut: its tail goes behind the others. Assumes nothing.
use Rattle.std.specs.Prelude.{ℕ, zero, suc, ◌+◌, ◌-◌, Bool, true, false, ◌&&◌, List, get_or, set, ltb, eqb}
use Rattle.std.specs.Float.{nan}
use Rattle.model.specs.State.{Ranges, at}
use Rattle.model.specs.Store.{plus}
use Rattle.shape_state.specs.Lent.{ranges_of}
use Rattle.pool_range.specs.Cols.{cut_at}
use Rattle.rule_cut.specs.declared.Progress.{Progress}

-- `across` and `pin_across` of what stands on this node, with this start and end
abbrev pub is_across : ℕ → ℕ → ℕ → ℕ → ℕ → Bool
is_across j k node start end = eqb node j && (ltb start k && ltb k end)

module _ (j k : ℕ) (node start end : List ℕ) where
  -- how many before place i are across
  unfoldable pub across_before : ℕ → ℕ
  across_before zero = 0
  across_before (suc i) = plus (is_across j k (at node i) (at start i) (at end i)) (across_before i)

-- the range at place p of n in two: what is below k stays, and what is from k on stands behind all, on node m
unfoldable pub split_range : ℕ → ℕ → ℕ → ℕ → ℕ → Ranges → Ranges
split_range n p k m id c =
    ranges_of
    (set c.node n m)
    (set c.start n 0)
    (set (set c.end p k) n (at c.end p - k))
    (set c.id n id)
    (set c.stamp n (at c.stamp p))
    (set c.touched n (get_or c.touched p nan))
    (set c.write n (at c.write p))

-- the range at place p of n behind the others, on node m, counted from k on
unfoldable pub move_range : ℕ → ℕ → ℕ → ℕ → Ranges → Ranges
move_range n p k m c =
    ranges_of
    (cut_at m p n c.node)
    (cut_at (at c.start p - k) p n c.start)
    (cut_at (at c.end p - k) p n c.end)
    (cut_at (at c.id p) p n c.id)
    (cut_at (at c.stamp p) p n c.stamp)
    (cut_at (get_or c.touched p nan) p n c.touched)
    (cut_at (at c.write p) p n c.write)

-- `beyond` of a range on this node, with this end
abbrev pub is_beyond : ℕ → ℕ → ℕ → ℕ → Bool
is_beyond j k node end = eqb node j && ltb k end

-- by whether the range at hand has blocks beyond, and whether it begins below: it stays, it is in two, or it moves
abbrev pub step_ranges : Bool → Bool → Progress → ℕ → ℕ → Ranges → Ranges
step_ranges false below s k m c = c
step_ranges true true s k m c = split_range s.n s.at k m s.next c
step_ranges true false s k m c = move_range s.n s.at k m c

abbrev pub step_progress : Bool → Bool → Progress → Progress
step_progress false below s = record { at = s.at + 1; top = s.top; n = s.n; next = s.next }
step_progress true true s = record { at = s.at + 1; top = s.top; n = s.n + 1; next = s.next + 1 }
step_progress true false s = record { at = s.at; top = s.top - 1; n = s.n; next = s.next }
