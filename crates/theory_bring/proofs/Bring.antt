-- A bring-in keeps a store sound: at capacity 0 the store stays as it is, else the gaps are filled and the store is trimmed. Assumes nothing.
use Prim.Native.Nat.{ℕ, zero, suc, ◌+◌, ◌≤◌}
use mathlib.Core.Path.{◌≡◌, refl}
use mathlib.Core.List.{List}
use native.Mathlib.Omega.{arith}
use native.Mathlib.Nat.{le_refl, add-zero}
use lib.ListN.{length}
use lib.Ieee.{Float}
use Rattle.model.specs.declared.Span.{Span}
use Rattle.model.specs.Sizes.{store_records, max_stamp, out_places}
use Rattle.model.specs.State.{Tree, Range}
use Rattle.model.specs.Sound.{Finite}
use Rattle.model.specs.Store.{Store, total}
use Rattle.model.specs.Trim.{Trimmed, out_blocks, trim}
use Rattle.model.specs.Bring.{Gap, gaps, fill, Brought, give_back, keep, bring, bring_need, gap_blocks, bring_blocks}
use Rattle.model.specs.Refusals.{SpanIn}
use Rattle.model.proofs.Conserved.{trim-total, fill-total}
use Rattle.theory_sound.specs.Facts.{IdsFrom}
use Rattle.theory_sound.specs.StoreSound.{RangesSound, StoreSound}
use Rattle.theory_bring.proofs.Facts.{thin_length, ids-same, ids_trans, Steady, steady-same}
use Rattle.theory_bring.proofs.Evict.{cut-sound, cut-ids, Evicted, evicted_cut, evicted_marks, evicted_few}
use Rattle.theory_bring.proofs.Trim.{trim_evicted}
use Rattle.theory_bring.proofs.Fill.{gaps-rising, gaps_clear, fill_length, fill-ids, fill-marks, fill-sound}

module _ (t : Tree) (table : List ℕ) (next : ℕ) (x : Store) (sp : Span) (time : Float) (write : ℕ) where
  -- the gaps, the ranges with those of the gaps, and what a trim makes of them
  abbrev gs : List Gap
  gs = gaps sp.node x.ranges sp.start sp.end

  abbrev filled : List Range
  filled = fill sp.node gs x.book.stamp next time write x.ranges

  abbrev w : Trimmed
  w = trim t table x.pins x.book.capacity filled x.marks

  row : Evicted (length filled) filled x.marks w
  row = trim_evicted t table x.pins x.book.capacity filled x.marks

  long : length filled ≡ length x.ranges + length gs
  long = fill_length sp.node time write gs x.book.stamp next x.ranges

  -- what holds of both cases, of what is needed and of what comes of it
  pub bring_cases : (P : ℕ → Brought → Type 0) → (x.book.capacity ≡ 0 → P 0 (give_back t table x sp write))
      → ((x.book.capacity ≡ 0 → ⊥) → P (length gs) (keep t table x next sp time write)) → P (bring_need x sp) (bring t table x next sp time write)
  unfolding bring bring_need
  bring_cases P f g = go x.book.capacity refl
    where
      go : (c : ℕ) → x.book.capacity ≡ c
          → P (elim c [ zero ↦ 0 | suc d ↦ length gs ]) (elim c [ zero ↦ give_back t table x sp write | suc d ↦ keep t table x next sp time write ])
      go zero e = f e
      go (suc c) e = g (λ z. omega arith)

  -- ---- at a capacity above 0

  filled-sound : RangesSound t next x.book.stamp x.ranges → SpanIn t sp → Finite time → 1 ≤ next
      → RangesSound t (next + length gs) (x.book.stamp + length gs) filled
  filled-sound h i f l =
      fill-sound sp.node time write t sp.end i.node i.ends f gs sp.start x.book.stamp next x.ranges
      (gaps-rising t sp.node sp.end x.ranges sp.start h.inside)
      (gaps_clear t sp.node sp.end x.ranges sp.start h.inside h.sorted) l h

  keep-sound : StoreSound t next x → SpanIn t sp → Finite time → 1 ≤ next → (x.book.capacity ≡ 0 → ⊥) → length x.ranges + length gs ≤ store_records
      → x.book.stamp + length gs ≤ max_stamp → StoreSound t (next + length gs) (keep t table x next sp time write).store
  unfolding keep
  keep-sound h i f l c room top =
      record {
        capacity = h.capacity;
        policy = h.policy;
        records = refl;
        few = omega (arith, thin_length (evicted_cut row), long);
        stamp = top;
        ranges = cut-sound (evicted_cut row) (filled-sound h.ranges i f l);
        held = refl;
        held_none = λ e. absurd (c e);
        entries = h.entries;
        few_pins = h.few_pins;
        pins = h.pins;
        pinned = h.pinned;
        pinned_most = h.pinned_most;
        marks = evicted_marks row (fill-marks sp.node time write gs x.book.stamp next x.ranges x.marks h.marks);
      }

  -- ---- the whole

  pub bring-sound : StoreSound t next x → SpanIn t sp → Finite time → 1 ≤ next → length x.ranges + bring_need x sp ≤ store_records
      → x.book.stamp + bring_need x sp ≤ max_stamp → StoreSound t (next + bring_need x sp) (bring t table x next sp time write).store
  unfolding give_back
  bring-sound h i f l =
      bring_cases (λ k b. length x.ranges + k ≤ store_records → x.book.stamp + k ≤ max_stamp → StoreSound t (next + k) b.store)
      (λ e room top. rw (add-zero next) h) (keep-sound h i f l)

  pub bring-ids : IdsFrom x.ranges next (bring t table x next sp time write).store.ranges
  unfolding give_back keep
  bring-ids =
      bring_cases (λ k b. IdsFrom x.ranges next b.store.ranges) (λ e. ids-same next x.ranges)
      (λ c. ids_trans x.ranges filled w.ranges next next (le_refl next) (fill-ids sp.node time write gs x.book.stamp next x.ranges)
      (cut-ids next (evicted_cut row)))

  pub bring_length : length (bring t table x next sp time write).store.ranges ≤ length x.ranges + bring_need x sp
  unfolding give_back keep
  bring_length =
      bring_cases (λ k b. length b.store.ranges ≤ length x.ranges + k) (λ e. omega arith) (λ c. omega (arith, thin_length (evicted_cut row), long))

  pub bring-outs : length x.ranges + bring_need x sp ≤ store_records → length (bring t table x next sp time write).outs ≤ out_places
  unfolding give_back keep
  bring-outs =
      bring_cases (λ k b. length x.ranges + k ≤ store_records → length b.outs ≤ out_places) (λ e room. omega arith)
      (λ c room. omega (arith, evicted_few row, long))

  pub bring-steady : Steady x (bring t table x next sp time write).store
  unfolding give_back keep
  bring-steady =
      bring_cases (λ k b. Steady x b.store) (λ e. steady-same x) (λ c. record { book = refl; pins = refl })

  -- ---- how many blocks

  pub bring-blocks : (x.book.capacity ≡ 0 → ⊥) → x.book.held ≡ total x.ranges
      → (bring t table x next sp time write).store.book.held + out_blocks (bring t table x next sp time write).outs ≡ x.book.held + bring_blocks x sp
  unfolding bring bring_blocks keep
  bring-blocks c h = go x.book.capacity refl
    where
      go : (n : ℕ) → x.book.capacity ≡ n
          → (elim n as (λ z. Brought) [ zero ↦ give_back t table x sp write | suc d ↦ keep t table x next sp time write ]).store.book.held
          + out_blocks (elim n as (λ z. Brought) [ zero ↦ give_back t table x sp write | suc d ↦ keep t table x next sp time write ]).outs
          ≡ x.book.held + elim n as (λ z. ℕ) [ zero ↦ 0 | suc d ↦ gap_blocks gs ]
      go zero e = absurd (c e)
      go (suc d) e =
          omega (arith, trim-total t table x.pins x.book.capacity filled x.marks, fill-total sp.node gs x.book.stamp next time write x.ranges)

  pub bring-none : x.book.capacity ≡ 0 → bring_blocks x sp ≡ 0
  unfolding bring_blocks
  bring-none e = rw e refl
