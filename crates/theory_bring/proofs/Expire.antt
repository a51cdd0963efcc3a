-- An expiry keeps a store sound: it is a row of evictions. Assumes nothing.
use Prim.Native.Nat.{ℕ, zero, suc, ◌≤◌, ◌<◌}
use mathlib.Core.Bool.{Bool, true, false}
use mathlib.Core.Path.{◌≡◌, refl}
use mathlib.Core.List.{List, [], ◌∷◌}
use Rattle.std.specs.Prelude.{Option, None, Some}
use Rattle.std.proofs.lemmas.Option.{none-some}
use native.Mathlib.Omega.{arith}
use native.Mathlib.Nat.{le_refl}
use lib.ListN.{length}
use lib.Ieee.{Float}
use Rattle.model.specs.Sizes.{out_places}
use Rattle.model.specs.State.{Tree, Range}
use Rattle.model.specs.Store.{Store, length_of, unmark}
use Rattle.model.specs.Trim.{told, nth, first, evict, Trimmed}
use Rattle.model.specs.Expire.{aged, if_aged, oldest, expire_by, expire}
use Rattle.model.proofs.Conserved.{expire-total}
use Rattle.theory_sound.specs.Facts.{IdsFrom}
use Rattle.theory_sound.specs.StoreSound.{StoreSound}
use Rattle.theory_bring.proofs.Facts.{thin_length, Steady}
use Rattle.theory_bring.proofs.Evict.{Evicted, stop, turn, cut-sound, cut-ids, evicted_cut, evicted_marks, evicted_few, evict-whole, first_some}

module _ (t : Tree) (table : List ℕ) (now seconds : Float) where
  pub expire_by_evicted : (n : ℕ) (c : Option ℕ) (rs : List Range) (ms : List ℕ) → Evicted n rs ms (expire_by t table now seconds n c rs ms)
  unfolding expire_by
  expire_by_evicted zero c rs ms = stop
  expire_by_evicted (suc n) None rs ms = stop
  expire_by_evicted (suc n) (Some i) rs ms =
      let r = nth rs i in
      let rest = evict rs i (length_of r) in
      turn {rs = rs} i (length_of r) (told t table ms r r.start r.end)
      (expire_by_evicted n (oldest now seconds rest) rest (unmark r.node rest ms))

  -- ---- where it ends

  if_aged-some : (rs : List Range) (c : Option ℕ) (i : ℕ) → if_aged now seconds rs c ≡ Some i → c ≡ Some i
  if_aged-some rs None i q = q
  if_aged-some rs (Some j) i q = go (aged now seconds (nth rs j)) q
    where
      go : (b : Bool) → elim b [ true ↦ Some j | false ↦ None ] ≡ Some i → Some j ≡ Some i
      go true e = e
      go false e = absurd (none-some i e)

  oldest-some : (rs : List Range) (i : ℕ) → oldest now seconds rs ≡ Some i → i < length rs
  unfolding oldest
  oldest-some rs i q = (first_some (λ r. true) rs i (if_aged-some rs (first (λ r. true) rs) i q)).0

  -- each turn takes a range away, so the turns are enough: the oldest range left, if there is one, hasn't aged
  pub expire_by-ends : (n : ℕ) (rs : List Range) (ms : List ℕ) → length rs ≤ n
      → oldest now seconds (expire_by t table now seconds n (oldest now seconds rs) rs ms).ranges ≡ None
  unfolding expire_by oldest first
  expire_by-ends zero [] ms l = refl
  expire_by-ends zero (r ∷ rs) ms l = absurd (omega arith)
  expire_by-ends (suc n) rs ms l = go (oldest now seconds rs) refl (expire_by-ends n)
    where
      go : (c : Option ℕ) → oldest now seconds rs ≡ c
          → ((qs : List Range) (vs : List ℕ) → length qs ≤ n
          → oldest now seconds (expire_by t table now seconds n (oldest now seconds qs) qs vs).ranges ≡ None)
          → oldest now seconds (expire_by t table now seconds (suc n) c rs ms).ranges ≡ None
      go None q ih = q
      go (Some i) q ih =
          let k = length_of (nth rs i) in
          ih (evict rs i k) _ (omega (arith, evict-whole rs i k (oldest-some rs i q) (le_refl k)))

module _ (t : Tree) (table : List ℕ) (x : Store) (now seconds : Float) where
  abbrev w : Trimmed
  w = expire_by t table now seconds (length x.ranges) (oldest now seconds x.ranges) x.ranges x.marks

  row : Evicted (length x.ranges) x.ranges x.marks w
  row = expire_by_evicted t table now seconds (length x.ranges) (oldest now seconds x.ranges) x.ranges x.marks

  pub expire-sound : (next : ℕ) → StoreSound t next x → StoreSound t next (expire t table x now seconds).store
  unfolding expire
  expire-sound next h =
      record {
        capacity = h.capacity;
        policy = h.policy;
        records = refl;
        few = omega (arith, thin_length (evicted_cut row), h.few);
        stamp = h.stamp;
        ranges = cut-sound (evicted_cut row) h.ranges;
        held = refl;
        held_none = λ e. omega (arith, expire-total t table x now seconds, h.held, h.held_none e);
        entries = h.entries;
        few_pins = h.few_pins;
        pins = h.pins;
        pinned = h.pinned;
        pinned_most = h.pinned_most;
        marks = evicted_marks row h.marks;
      }

  pub expire-ids : (next : ℕ) → IdsFrom x.ranges next (expire t table x now seconds).store.ranges
  unfolding expire
  expire-ids next = cut-ids next (evicted_cut row)

  pub expire_length : length (expire t table x now seconds).store.ranges ≤ length x.ranges
  unfolding expire
  expire_length = thin_length (evicted_cut row)

  pub expire-outs : {next : ℕ} → StoreSound t next x → length (expire t table x now seconds).outs ≤ out_places
  unfolding expire
  expire-outs h = omega (arith, evicted_few row, h.few)

  pub expire-steady : Steady x (expire t table x now seconds).store
  unfolding expire
  expire-steady = record { book = refl; pins = refl }

  pub expire-ends : oldest now seconds (expire t table x now seconds).store.ranges ≡ None
  unfolding expire
  expire-ends = expire_by-ends t table now seconds (length x.ranges) x.ranges x.marks (le_refl (length x.ranges))
