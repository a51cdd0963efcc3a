-- An expiry on the columns is a row of evictions of whole ranges: what is left to do gives what was to be done.
use Prim.Native.Nat.{ℕ, zero, suc, ◌+◌, ◌-◌, ◌≤◌, ◌<◌}
use mathlib.Core.Path.{◌≡◌, refl, sym, ap, subst, ◌∙◌}
use mathlib.Core.Bool.{Bool, true, false}
use mathlib.Core.List.{List, [], ◌∷◌, ◌++◌}
use Rattle.std.specs.Prelude.{Option, None, Some}
use Rattle.std.specs.Bool.{then_some}
use Rattle.std.proofs.lemmas.Option.{none-some}
use native.Mathlib.Omega.{arith}
use lib.ListN.{length}
use lib.Ieee.{Float, binary64, sub, lt}
use Rattle.model.specs.Sizes.{store_records, versions}
use Rattle.model.specs.State.{Tree, Ranges, Range, range_at}
use Rattle.model.specs.Store.{Store, ranges, length_of, total, unmark}
use Rattle.model.specs.Trim.{Out, told, nth, first, evict, Trimmed, also, asked, amount}
use Rattle.model.specs.Expire.{aged, if_aged, oldest, expire_by, expire}
use Rattle.model.specs.Refusals.{OutList}
use Rattle.theory_bring.proofs.Evict.{first_some}
use Rattle.theory_lay.proofs.Rows.{ranges_length}
use Rattle.rule_resolve.specs.Span.{only_depth}
use Rattle.pool_out.specs.Evicted.{out_of, set_out}
use Rattle.rule_evict.specs.declared.Gone.{Gone}
use Rattle.rule_evict.specs.Evict.{Reach, EntryGone}
use Rattle.rule_evict.specs.Given.{Ready, GivenOut}
use Rattle.rule_evict.proofs.Laws.{record_is}
use Rattle.rule_trim.proofs.Trim.{Going, told_at, before, before-also, before-none, going_start, going-read, going-at, going-reach, going-least, going_end, going-turn, going-marks, going-whole}
use Rattle.rule_expire.specs.Expire.{expired}

-- ---- the choice

module _ (now seconds : Float) (c : Ranges) (n : ℕ) where
  place_in : {p : Option ℕ} {i : ℕ} → p ≡ first (λ r. true) (ranges c 0 n) → p ≡ Some i → first (λ r. true) (ranges c 0 n) ≡ Some i
  place_in e q = sym e ∙ q

  pub place-less : {p : Option ℕ} {i : ℕ} → p ≡ first (λ r. true) (ranges c 0 n) → p ≡ Some i → i < n
  place-less {i = i} e q = omega (arith, (first_some (λ r. true) (ranges c 0 n) i (place_in e q)).0, ranges_length c 0 n)

  pub aged-none : {p : Option ℕ} → p ≡ first (λ r. true) (ranges c 0 n) → p ≡ None → None ≡ oldest now seconds (ranges c 0 n)
  unfolding oldest
  aged-none e q = sym (ap (if_aged now seconds (ranges c 0 n)) (sym e ∙ q))

  module _ {p : Option ℕ} {i : ℕ} (e : p ≡ first (λ r. true) (ranges c 0 n)) (q : p ≡ Some i) where
    aged-is : oldest now seconds (ranges c 0 n) ≡ elim (lt seconds (sub binary64 now (range_at c i).touched)) [ true ↦ Some i | false ↦ None ]
    unfolding oldest aged
    aged-is =
        ap (if_aged now seconds (ranges c 0 n)) (place_in e q)
        ∙ ap (λ (r : Range). elim (lt seconds (sub binary64 now r.touched)) [ true ↦ Some i | false ↦ None ])
        (sym (record_is c n i (ranges c 0 n) refl (place-less e q)))

    pub aged_then : (b : Bool) → b ≡ lt seconds (sub binary64 now (range_at c i).touched) → then_some b i ≡ oldest now seconds (ranges c 0 n)
    aged_then true t = sym (aged-is ∙ ap (λ (b : Bool). elim b [ true ↦ Some i | false ↦ None ]) (sym t))
    aged_then false t = sym (aged-is ∙ ap (λ (b : Bool). elim b [ true ↦ Some i | false ↦ None ]) (sym t))

-- the place is one there is
if_some : (now seconds : Float) (rs : List Range) (c : Option ℕ) (i : ℕ) → if_aged now seconds rs c ≡ Some i → c ≡ Some i
if_some now seconds rs None i q = q
if_some now seconds rs (Some j) i q = go (aged now seconds (nth rs j)) q
  where
    go : (b : Bool) → elim b [ true ↦ Some j | false ↦ None ] ≡ Some i → Some j ≡ Some i
    go true e = e
    go false e = absurd (none-some i e)

oldest-less : (now seconds : Float) (rs : List Range) (i : ℕ) → oldest now seconds rs ≡ Some i → i < length rs
unfolding oldest
oldest-less now seconds rs i q = (first_some (λ r. true) rs i (if_some now seconds rs (first (λ r. true) rs) i q)).0

-- ---- the row

-- more than any range has
abbrev pub all : ℕ
all = 18446744073709551615

pub record Expiring (depth table : List ℕ) (now seconds : Float) (n₀ v₀ : ℕ) (c₀ : Ranges) (ms₀ : List ℕ) (l₀ : OutList) (k : ℕ) (c : Ranges) (ms : List ℕ) (l : OutList) (h o v : ℕ) : Type 0 where
  pub rs : List Range
  pub os : List Out
  pub going : Going depth n₀ v₀ c₀ l₀ rs os k c ms l h o v
  pub room : k + o ≤ n₀
  pub todo :
      before os (expire_by (only_depth depth) table now seconds (n₀ - o) (oldest now seconds rs) rs ms)
      ≡ expired (only_depth depth) table now seconds (ranges c₀ 0 n₀) ms₀

by-none : (t : Tree) (table : List ℕ) (now seconds : Float) (n : ℕ) (rs : List Range) (ms : List ℕ)
    → expire_by t table now seconds n None rs ms ≡ record { ranges = rs; marks = ms; outs = []; stalled = false }
unfolding expire_by
by-none t table now seconds zero rs ms = refl
by-none t table now seconds (suc n) rs ms = refl

by-some : (t : Tree) (table : List ℕ) (now seconds : Float) (n i k : ℕ) (rs : List Range) (ms : List ℕ) → k ≡ length_of (nth rs i) → (nth rs i).end - k ≡ (nth rs i).start
    → expire_by t table now seconds (suc n) (Some i) rs ms
    ≡ also (told t table ms (nth rs i) ((nth rs i).end - k) (nth rs i).end) (expire_by t table now seconds n (oldest now seconds (evict rs i k)) (evict rs i k) (unmark (nth rs i).node (evict rs i k) ms))
unfolding expire_by
by-some t table now seconds n i k rs ms q s = rw (s, q)

module _ {depth table : List ℕ} {n₀ h₀ : ℕ} {c₀ : Ranges} {ms₀ : List ℕ} {l₀ : OutList} (ready : Ready depth table n₀ h₀ c₀ ms₀ l₀) (now seconds : Float) where
  begin : expire_by (only_depth depth) table now seconds (n₀ - 0) (oldest now seconds (ranges c₀ 0 n₀)) (ranges c₀ 0 n₀) ms₀
      ≡ expired (only_depth depth) table now seconds (ranges c₀ 0 n₀) ms₀
  unfolding expired
  begin = let z : n₀ - 0 ≡ length (ranges c₀ 0 n₀) = omega (arith, ranges_length c₀ 0 n₀) in rw z

  pub expire-start : {v₀ : ℕ} → v₀ < versions → Expiring depth table now seconds n₀ v₀ c₀ ms₀ l₀ n₀ c₀ ms₀ l₀ h₀ 0 v₀
  expire-start less = record { rs = ranges c₀ 0 n₀; os = []; going = going_start ready less; room = omega arith; todo = begin }

  module _ {v₀ k : ℕ} {c : Ranges} {ms : List ℕ} {l : OutList} {h o v : ℕ} (s : Expiring depth table now seconds n₀ v₀ c₀ ms₀ l₀ k c ms l h o v) (p : Option ℕ)
      (choice : p ≡ oldest now seconds (ranges c 0 k)) where
    found : (x : Option ℕ) → p ≡ x → oldest now seconds s.rs ≡ x
    found x e = ap (oldest now seconds) (sym (going-read ready s.going)) ∙ sym choice ∙ e

    -- the oldest hasn't aged, or there is none
    pub expire-end : p ≡ None → GivenOut (expired (only_depth depth) table now seconds (ranges c₀ 0 n₀) ms₀) n₀ v₀ c₀ l₀ c ms l k h o v false
    expire-end q =
        let e = rw (found None q, by-none (only_depth depth) table now seconds (n₀ - o) s.rs ms) at s.todo in
        subst (λ (w : Trimmed). GivenOut w n₀ v₀ c₀ l₀ c ms l k h o v false) (before-none s.os s.rs ms false ∙ e) (going_end ready s.going false)

    module _ {i : ℕ} (here : p ≡ Some i) where
      pub expire-place : i < k
      expire-place = omega (arith, oldest-less now seconds s.rs i (found (Some i) here), s.going.count)

      pub expire-room : o < store_records
      expire-room = omega (arith, expire-place, s.room, ready.few)

      -- the range goes whole
      reached : Reach depth (nth s.rs i)
      reached = subst (Reach depth) (going-at ready s.going i expire-place) (going-reach ready s.going i expire-place)

      whole : amount asked all (nth s.rs i) ≡ length_of (nth s.rs i)
      whole = omega (arith, reached.ends)

      pub expire-taken : {b : ℕ} → b ≡ amount asked all (range_at c i) → b ≤ h
      expire-taken e = going-least ready s.going i all (e ∙ ap (amount asked all) (going-at ready s.going i expire-place))

      module _ {cʹ : Ranges} {msʹ : List ℕ} {e : Gone} (gone : EntryGone depth table k i all v c ms cʹ msʹ e) where
        a : ℕ
        a = amount asked all (nth s.rs i)

        pub expire-less : e.n < k
        expire-less = omega (arith, going-whole ready s.going expire-place expire-room refl gone refl whole)

        pub expire-turn : {lʹ : OutList} → lʹ ≡ set_out o (out_of e.out) l → Expiring depth table now seconds n₀ v₀ c₀ ms₀ l₀ e.n cʹ msʹ lʹ (h - e.taken) (o + 1) e.version
        unfolding a
        expire-turn {lʹ} put =
            record {
              rs = evict s.rs i a;
              os = s.os ++ (told_at depth table ms s.rs i a ∷ []);
              going = going-turn ready s.going expire-place expire-room refl gone put;
              room = omega (arith, s.room, expire-less);
              todo = again;
            }
          where
            again : before (s.os ++ (told_at depth table ms s.rs i a ∷ []))
                (expire_by (only_depth depth) table now seconds (n₀ - (o + 1)) (oldest now seconds (evict s.rs i a)) (evict s.rs i a) msʹ)
                ≡ expired (only_depth depth) table now seconds (ranges c₀ 0 n₀) ms₀
            again =
                let f : n₀ - o ≡ suc (n₀ - (o + 1)) = omega (arith, s.room, expire-place) in
                let z : (nth s.rs i).end - a ≡ (nth s.rs i).start = omega (arith, whole, reached.filled) in
                rw (before-also, going-marks ready s.going expire-place expire-room refl gone put)
                (ap (before s.os) (sym (by-some (only_depth depth) table now seconds (n₀ - (o + 1)) i a s.rs ms whole z))
                ∙ (rw (found (Some i) here, f) at s.todo))

-- ---- bytes look at the depths of a tree alone, so an expiry does

by-depth : (t : Tree) (table : List ℕ) (now seconds : Float) (n : ℕ) (c : Option ℕ) (rs : List Range) (ms : List ℕ)
    → expire_by (only_depth t.depth) table now seconds n c rs ms ≡ expire_by t table now seconds n c rs ms
unfolding expire_by
by-depth t table now seconds zero c rs ms = refl
by-depth t table now seconds (suc n) None rs ms = refl
by-depth t table now seconds (suc n) (Some i) rs ms =
    let r = nth rs i in
    let rest = evict rs i (length_of r) in
    ap (also (told t table ms r r.start r.end)) (by-depth t table now seconds n (oldest now seconds rest) rest (unmark r.node rest ms))

pub expired-depth : (t : Tree) (table : List ℕ) (now seconds : Float) (rs : List Range) (ms : List ℕ)
    → expired (only_depth t.depth) table now seconds rs ms ≡ expired t table now seconds rs ms
unfolding expired
expired-depth t table now seconds rs ms = by-depth t table now seconds (length rs) (oldest now seconds rs) rs ms

-- what `expire` makes of a store
pub record Expires (y : Store) (outs : List Out) (w : Trimmed) : Type 0 where
  pub ranges : y.ranges ≡ w.ranges
  pub marks : y.marks ≡ w.marks
  pub held : y.book.held ≡ total w.ranges
  pub given : outs ≡ w.outs

pub expire-is : (t : Tree) (table : List ℕ) (x : Store) (now seconds : Float)
    → Expires (expire t table x now seconds).store (expire t table x now seconds).outs (expired t table now seconds x.ranges x.marks)
unfolding expire expired
expire-is t table x now seconds = record { ranges = refl; marks = refl; held = refl; given = refl }
