-- A trim on the columns: after each turn the columns, marks and answer lists are laid from the list of ranges that the definition has then, and what is
-- left to do gives what was to be done.
use Prim.Native.Nat.{ℕ, zero, suc, ◌+◌, ◌-◌, ◌%◌, ◌≤◌, ◌<◌}
use mathlib.Core.Path.{◌≡◌, refl, sym, ap, subst, ◌∙◌}
use mathlib.Core.Bool.{Bool, true, false, not}
use mathlib.Core.List.{List, [], ◌∷◌, ◌++◌, append_assoc, append-nil}
use Rattle.std.specs.Prelude.{Option, None, Some}
use native.Mathlib.Nat.{le_refl}
use native.Mathlib.Omega.{arith}
use lib.ListN.{length, length-set, length-append}
use lib.Dec.{ltb}
use borrow.Author.Tests.{lt-ltb}
use Rattle.model.specs.Sizes.{store_records, store_marks, versions}
use Rattle.model.specs.State.{Tree, Ranges, Range, Pin, range_at}
use Rattle.model.specs.Store.{ranges, lay_ranges, total, length_of, unmark}
use Rattle.model.specs.Trim.{Out, told, is_pinned, nth, first, evict, Trimmed, also, chosen, asked, amount, trim_by, trim, version_after}
use Rattle.model.specs.Refusals.{OutList, OutFits}
use Rattle.model.specs.Calls.{lay_outs}
use Rattle.theory_sound.specs.Facts.{All}
use Rattle.theory_bring.proofs.Facts.{all-at, thin_length}
use Rattle.model.proofs.Conserved.{evict-total}
use Rattle.theory_bring.proofs.Evict.{evict-cut, evict-whole, first_some}
use Rattle.theory_lay.proofs.Rows.{ranges_length}
use Rattle.rule_resolve.specs.Span.{only_depth}
use Rattle.pool_range.specs.Part.{Sized}
use Rattle.pool_out.specs.Evicted.{out_of, set_out}
use Rattle.pool_out.proofs.Laws.{out-more}
use Rattle.rule_evict.specs.declared.Gone.{Gone}
use Rattle.rule_evict.specs.Evict.{Left, left, evict_cols, Reach, Tabled, EntryGone}
use Rattle.rule_evict.specs.Given.{Ready, GivenOut}
use Rattle.rule_evict.proofs.Laws.{raise_none, raise_more, laid-sized, laid-read, laid-back, record_is, evict-laid, evict-reach, unmark-long}

-- ---- answer lists

pub record AsLong (k l : OutList) : Type 0 where
  pub node : length l.node ≡ length k.node
  pub start : length l.start ≡ length k.start
  pub end : length l.end ≡ length k.end
  pub write : length l.write ≡ length k.write
  pub bytes : length l.bytes ≡ length k.bytes
  pub dead : length l.dead ≡ length k.dead

set_long : (k l : OutList) (i : ℕ) (o : Out) → AsLong k l → AsLong k (set_out i o l)
unfolding set_out
set_long k l i o h =
    record {
      node = length-set l.node i o.node ∙ h.node;
      start = length-set l.start i o.start ∙ h.start;
      end = length-set l.end i o.end ∙ h.end;
      write = length-set l.write i o.write ∙ h.write;
      bytes = length-set l.bytes i o.bytes ∙ h.bytes;
      dead = length-set l.dead i o.dead ∙ h.dead;
    }

pub long-fits : {k l : OutList} → AsLong k l → OutFits k → OutFits l
long-fits h f =
    record {
      node = omega (arith, h.node, f.node);
      start = omega (arith, h.start, f.start);
      end = omega (arith, h.end, f.end);
      write = omega (arith, h.write, f.write);
      bytes = omega (arith, h.bytes, f.bytes);
      dead = omega (arith, h.dead, f.dead);
    }

-- ---- a row of evictions on the columns

-- n₀ records of c₀ became rs, and os were given out; k records are left that hold h blocks, o spans are given out, and the version v₀ is v
pub record Going (depth : List ℕ) (n₀ v₀ : ℕ) (c₀ : Ranges) (l₀ : OutList) (rs : List Range) (os : List Out) (k : ℕ) (c : Ranges) (ms : List ℕ) (l : OutList) (h o v : ℕ) : Type 0 where
  pub cols : c ≡ lay_ranges 0 n₀ rs c₀
  pub lists : l ≡ lay_outs os l₀
  pub count : length rs ≡ k
  pub given : length os ≡ o
  pub version : v ≡ version_after v₀ os
  pub few : k ≤ n₀
  pub held : h ≡ total rs
  pub reach : All (Reach depth) rs
  pub long : length ms ≡ store_marks
  pub sized : Sized store_records c
  pub same : AsLong l₀ l

-- what is told of the last k blocks of the range at i
abbrev pub told_at : List ℕ → List ℕ → List ℕ → List Range → ℕ → ℕ → Out
told_at depth table ms rs i k = let r = nth rs i in told (only_depth depth) table ms r (r.end - k) r.end

module _ {depth table : List ℕ} {n₀ h₀ : ℕ} {c₀ : Ranges} {ms₀ : List ℕ} {l₀ : OutList} (ready : Ready depth table n₀ h₀ c₀ ms₀ l₀) where
  pub going_start : {v₀ : ℕ} → v₀ < versions → Going depth n₀ v₀ c₀ l₀ (ranges c₀ 0 n₀) [] n₀ c₀ ms₀ l₀ h₀ 0 v₀
  going_start less =
      record {
        cols = sym (laid-back ready.cols n₀ ready.few);
        lists = refl;
        count = ranges_length c₀ 0 n₀;
        given = refl;
        version = raise_none less;
        few = le_refl n₀;
        held = ready.held;
        reach = ready.reach;
        long = ready.tables.long;
        sized = ready.cols;
        same = record { node = refl; start = refl; end = refl; write = refl; bytes = refl; dead = refl };
      }

  module _ {v₀ : ℕ} {rs : List Range} {os : List Out} {k : ℕ} {c : Ranges} {ms : List ℕ} {l : OutList} {h o v : ℕ} (g : Going depth n₀ v₀ c₀ l₀ rs os k c ms l h o v) where
    -- the records are read back
    pub going-read : ranges c 0 k ≡ rs
    going-read =
        ap (λ (x : Ranges). ranges x 0 k) g.cols ∙ ap (λ (x : ℕ). ranges (lay_ranges 0 n₀ rs c₀) 0 x) (sym g.count)
        ∙ laid-read ready.cols n₀ rs (omega (arith, g.count, g.few)) ready.few

    pub going-at : (i : ℕ) → i < k → range_at c i ≡ nth rs i
    going-at i l = record_is c k i rs going-read l

    pub going-reach : (i : ℕ) → i < k → Reach depth (range_at c i)
    going-reach i l = subst (Reach depth) (sym (going-at i l)) (all-at (Reach depth) _ rs g.reach i (omega (arith, g.count)))

    pub going-tables : Tabled depth table ms
    going-tables = record { depths = ready.tables.depths; table = ready.tables.table; rising = ready.tables.rising; long = g.long }

    pub going-few : k ≤ store_records
    going-few = omega (arith, g.few, ready.few)

    -- no more goes than is held
    pub going-least : (i x : ℕ) {a : ℕ} → a ≡ amount asked x (nth rs i) → a ≤ h
    going-least i x {a} e = omega (arith, g.held, evict-total rs i a)

    -- an end of it
    pub going_end : (b : Bool) → GivenOut (record { ranges = rs; marks = ms; outs = os; stalled = b }) n₀ v₀ c₀ l₀ c ms l k h o v b
    going_end b =
        record { cols = g.cols; marks = refl; lists = g.lists; records = sym g.count; held = g.held; outs = sym g.given; version = g.version; stalled = refl }

    -- one more
    module _ {i x a : ℕ} {cʹ : Ranges} {msʹ : List ℕ} {lʹ : OutList} {e : Gone} (less : i < k) (room : o < store_records) (is : a ≡ amount asked x (nth rs i))
        (gone : EntryGone depth table k i x v c ms cʹ msʹ e) (put : lʹ ≡ set_out o (out_of e.out) l) where
      pub taken_is : e.taken ≡ a
      taken_is = gone.taken ∙ ap (λ (r : Range). amount asked x r) (going-at i less) ∙ sym is

      in_list : i < length rs
      in_list = omega (arith, g.count)

      laid-left : left cʹ e.n ≡ left (lay_ranges 0 n₀ (evict rs i a) c₀) (length (evict rs i a))
      laid-left =
          gone.cols ∙ ap (λ (z : ℕ). evict_cols k i z c) taken_is ∙ ap (λ (z : Ranges). evict_cols k i a z) g.cols
          ∙ ap (λ (z : ℕ). evict_cols z i a (lay_ranges 0 n₀ rs c₀)) (sym g.count)
          ∙ evict-laid ready.cols n₀ i a rs (omega (arith, g.count, g.few)) ready.few in_list

      shorter : length (evict rs i a) ≤ length rs
      shorter = thin_length (evict-cut rs i a)

      cols-are : cʹ ≡ lay_ranges 0 n₀ (evict rs i a) c₀
      cols-are = ap (λ (z : Left). z.cols) laid-left

      count-is : length (evict rs i a) ≡ e.n
      count-is = sym (ap (λ (z : Left). z.n) laid-left)

      fits : length (evict rs i a) ≤ n₀
      fits = omega (arith, shorter, g.count, g.few)

      read_left : ranges cʹ 0 e.n ≡ evict rs i a
      read_left =
          ap (λ (z : Ranges). ranges z 0 e.n) cols-are ∙ ap (λ (z : ℕ). ranges (lay_ranges 0 n₀ (evict rs i a) c₀) 0 z) (sym count-is)
          ∙ laid-read ready.cols n₀ (evict rs i a) fits ready.few

      out-is : out_of e.out ≡ told_at depth table ms rs i a
      out-is = gone.out ∙ cong2 (going-at i less) taken_is
        where
          cong2 : {r q : Range} {y z : ℕ} → r ≡ q → y ≡ z
              → told (only_depth depth) table ms r (r.end - y) r.end ≡ told (only_depth depth) table ms q (q.end - z) q.end
          cong2 p q = λ j. told (only_depth depth) table ms (p j) ((p j).end - q j) (p j).end

      pub going-marks : msʹ ≡ unmark (nth rs i).node (evict rs i a) ms
      going-marks =
          gone.marks ∙ ap (λ (z : List Range). unmark (range_at c i).node z ms) read_left ∙ ap (λ (r : Range). unmark r.node (evict rs i a) ms) (going-at i less)

      pub going-held : h - e.taken ≡ total (evict rs i a)
      going-held = omega (arith, taken_is, is, g.held, evict-total rs i a)

      pub going-whole : a ≡ length_of (nth rs i) → suc e.n ≡ k
      going-whole q = omega (arith, count-is, g.count, evict-whole rs i a in_list (omega arith))

      -- one span more, and the version is 1 higher
      more-out : length (os ++ (told_at depth table ms rs i a ∷ [])) ≡ length os + 1
      more-out = length-append os (told_at depth table ms rs i a ∷ [])

      raised : e.version ≡ version_after v₀ (os ++ (told_at depth table ms rs i a ∷ []))
      raised =
          gone.version ∙ ap (λ (z : ℕ). (z + 1) % versions) g.version ∙ raise_more v₀ (length os)
          ∙ ap (λ (z : ℕ). (v₀ + z) % versions) (sym more-out)

      pub going-turn : Going depth n₀ v₀ c₀ l₀ (evict rs i a) (os ++ (told_at depth table ms rs i a ∷ [])) e.n cʹ msʹ lʹ (h - e.taken) (o + 1) e.version
      going-turn =
          record {
            cols = cols-are;
            lists =
                put ∙ ap (λ (z : Out). set_out o z l) out-is ∙ ap (λ (z : OutList). set_out o (told_at depth table ms rs i a) z) g.lists
                ∙ ap (λ (z : ℕ). set_out z (told_at depth table ms rs i a) (lay_outs os l₀)) (sym g.given)
                ∙ out-more os (told_at depth table ms rs i a) l₀ (omega (arith, g.given)) ready.fits;
            count = count-is;
            given = more-out ∙ ap (λ (z : ℕ). z + 1) g.given;
            version = raised;
            few = omega (arith, count-is, fits);
            held = going-held;
            reach = evict-reach depth rs i a g.reach;
            long = ap length going-marks ∙ unmark-long (nth rs i).node (evict rs i a) ms ∙ g.long;
            sized = subst (Sized store_records) (sym cols-are) (laid-sized ready.cols n₀ (evict rs i a) fits ready.few);
            same = subst (AsLong l₀) (sym put) (set_long l₀ l o (out_of e.out) g.same);
          }

-- ---- trim

-- spans given out before
abbrev pub before : List Out → Trimmed → Trimmed
before os w = record { ranges = w.ranges; marks = w.marks; outs = os ++ w.outs; stalled = w.stalled }

pub before-also : (os : List Out) (o : Out) (w : Trimmed) → before (os ++ (o ∷ [])) w ≡ before os (also o w)
before-also os o w = ap (λ (x : List Out). record { ranges = w.ranges; marks = w.marks; outs = x; stalled = w.stalled }) (append_assoc os (o ∷ []) w.outs)

pub before-none : (os : List Out) (rs : List Range) (ms : List ℕ) (b : Bool)
    → record { ranges = rs; marks = ms; outs = os; stalled = b } ≡ before os (record { ranges = rs; marks = ms; outs = []; stalled = b })
before-none os rs ms b = ap (λ (x : List Out). record { ranges = rs; marks = ms; outs = x; stalled = b }) (sym (append-nil os))

pub record Trimming (depth table : List ℕ) (ps : List Pin) (capacity n₀ v₀ : ℕ) (c₀ : Ranges) (ms₀ : List ℕ) (l₀ : OutList) (k : ℕ) (c : Ranges) (ms : List ℕ) (l : OutList) (h o v : ℕ) : Type 0 where
  pub rs : List Range
  pub os : List Out
  pub going : Going depth n₀ v₀ c₀ l₀ rs os k c ms l h o v
  pub room : capacity < h → k + o ≤ n₀
  pub todo :
      before os (trim_by asked (only_depth depth) table ps (n₀ - o) (h - capacity) (chosen ps (h - capacity) rs) rs ms)
      ≡ trim (only_depth depth) table ps capacity (ranges c₀ 0 n₀) ms₀

chosen-now : (ps : List Pin) (e : ℕ) (rs : List Range) → 0 < e → chosen ps e rs ≡ first (λ r. not (is_pinned ps r)) rs
unfolding chosen
chosen-now ps zero rs h = absurd (omega arith)
chosen-now ps (suc e) rs h = refl

chosen-zero : (ps : List Pin) (rs : List Range) → chosen ps 0 rs ≡ None
unfolding chosen
chosen-zero ps rs = refl

by-none : (t : Tree) (table : List ℕ) (ps : List Pin) (n e : ℕ) (rs : List Range) (ms : List ℕ)
    → trim_by asked t table ps n e None rs ms ≡ record { ranges = rs; marks = ms; outs = []; stalled = ltb 0 e }
unfolding trim_by
by-none t table ps zero e rs ms = refl
by-none t table ps (suc n) e rs ms = refl

by-some : (t : Tree) (table : List ℕ) (ps : List Pin) (n e i k : ℕ) (rs : List Range) (ms : List ℕ) → k ≡ amount asked e (nth rs i)
    → trim_by asked t table ps (suc n) e (Some i) rs ms
    ≡ also (told t table ms (nth rs i) ((nth rs i).end - k) (nth rs i).end) (trim_by asked t table ps n (e - k) (chosen ps (e - k) (evict rs i k)) (evict rs i k) (unmark (nth rs i).node (evict rs i k) ms))
unfolding trim_by
by-some t table ps n e i k rs ms q = rw q

module _ {depth table : List ℕ} {n₀ h₀ : ℕ} {c₀ : Ranges} {ms₀ : List ℕ} {l₀ : OutList} (ready : Ready depth table n₀ h₀ c₀ ms₀ l₀) (ps : List Pin) (capacity : ℕ) where
  begin : trim_by asked (only_depth depth) table ps (n₀ - 0) (h₀ - capacity) (chosen ps (h₀ - capacity) (ranges c₀ 0 n₀)) (ranges c₀ 0 n₀) ms₀
      ≡ trim (only_depth depth) table ps capacity (ranges c₀ 0 n₀) ms₀
  unfolding trim
  begin =
      let z : n₀ - 0 ≡ length (ranges c₀ 0 n₀) = omega (arith, ranges_length c₀ 0 n₀) in
      rw (z, ready.held)

  pub trim_start : {v₀ : ℕ} → v₀ < versions → Trimming depth table ps capacity n₀ v₀ c₀ ms₀ l₀ n₀ c₀ ms₀ l₀ h₀ 0 v₀
  trim_start less = record { rs = ranges c₀ 0 n₀; os = []; going = going_start ready less; room = λ (l : capacity < h₀). omega arith; todo = begin }

  module _ {v₀ k : ℕ} {c : Ranges} {ms : List ℕ} {l : OutList} {h o v : ℕ} (s : Trimming depth table ps capacity n₀ v₀ c₀ ms₀ l₀ k c ms l h o v) where
    -- not more is held than the capacity
    pub trim-fits : h ≤ capacity → GivenOut (trim (only_depth depth) table ps capacity (ranges c₀ 0 n₀) ms₀) n₀ v₀ c₀ l₀ c ms l k h o v false
    trim-fits q =
        let z : h - capacity ≡ 0 = omega arith in
        let e = rw (z, chosen-zero ps s.rs, by-none (only_depth depth) table ps (n₀ - o) 0 s.rs ms) at s.todo in
        subst (λ (w : Trimmed). GivenOut w n₀ v₀ c₀ l₀ c ms l k h o v false) (before-none s.os s.rs ms false ∙ e) (going_end ready s.going false)

    module _ (over : capacity < h) where
      found : (p : Option ℕ) → p ≡ first (λ r. not (is_pinned ps r)) (ranges c 0 k) → chosen ps (h - capacity) s.rs ≡ p
      found p e = chosen-now ps (h - capacity) s.rs (omega arith) ∙ ap (first (λ r. not (is_pinned ps r))) (sym (going-read ready s.going)) ∙ sym e

      -- all is pinned
      pub trim_stuck : {p : Option ℕ} → p ≡ first (λ r. not (is_pinned ps r)) (ranges c 0 k) → p ≡ None
          → GivenOut (trim (only_depth depth) table ps capacity (ranges c₀ 0 n₀) ms₀) n₀ v₀ c₀ l₀ c ms l k h o v true
      trim_stuck q here =
          let z : ltb 0 (h - capacity) ≡ true = lt-ltb 0 (h - capacity) (omega arith) in
          let e = rw (found None (sym here ∙ q), by-none (only_depth depth) table ps (n₀ - o) (h - capacity) s.rs ms, z) at s.todo in
          subst (λ (w : Trimmed). GivenOut w n₀ v₀ c₀ l₀ c ms l k h o v true) (before-none s.os s.rs ms true ∙ e) (going_end ready s.going true)

      module _ {p : Option ℕ} {i : ℕ} (choice : p ≡ first (λ r. not (is_pinned ps r)) (ranges c 0 k)) (here : p ≡ Some i) where
        some_first : Some i ≡ first (λ r. not (is_pinned ps r)) (ranges c 0 k)
        some_first = sym here ∙ choice

        pub trim-place : i < k
        trim-place = omega (arith, (first_some (λ r. not (is_pinned ps r)) (ranges c 0 k) i (sym some_first)).0, ranges_length c 0 k)

        pub trim-room : o < store_records
        trim-room = omega (arith, trim-place, s.room over, ready.few)

        pub trim-taken : {b : ℕ} → b ≡ amount asked (h - capacity) (range_at c i) → (0 < b) × (b ≤ h)
        trim-taken {b} e =
            let r = going-at ready s.going i trim-place in
            (omega (arith, (going-reach ready s.going i trim-place).filled), going-least ready s.going i (h - capacity) (e ∙ ap (amount asked (h - capacity)) r))

        module _ {cʹ : Ranges} {msʹ : List ℕ} {e : Gone} (gone : EntryGone depth table k i (h - capacity) v c ms cʹ msʹ e) where
          pub trim-turn : {lʹ : OutList} → lʹ ≡ set_out o (out_of e.out) l → Trimming depth table ps capacity n₀ v₀ c₀ ms₀ l₀ e.n cʹ msʹ lʹ (h - e.taken) (o + 1) e.version
          trim-turn {lʹ} put =
              record {
                rs = evict s.rs i a;
                os = s.os ++ (told_at depth table ms s.rs i a ∷ []);
                going = going-turn ready s.going trim-place trim-room refl gone put;
                room = λ (q : capacity < h - e.taken).
                    omega (arith, s.room over, taken, going-whole ready s.going trim-place trim-room refl gone put (omega (arith, taken)));
                todo = again;
              }
            where
              a : ℕ
              a = amount asked (h - capacity) (nth s.rs i)

              taken : e.taken ≡ a
              taken = taken_is ready s.going trim-place trim-room refl gone put

              again : before (s.os ++ (told_at depth table ms s.rs i a ∷ []))
                  (trim_by asked (only_depth depth) table ps (n₀ - (o + 1)) (h - e.taken - capacity) (chosen ps (h - e.taken - capacity) (evict s.rs i a)) (evict s.rs i a) msʹ)
                  ≡ trim (only_depth depth) table ps capacity (ranges c₀ 0 n₀) ms₀
              again =
                  let f : n₀ - o ≡ suc (n₀ - (o + 1)) = omega (arith, s.room over, trim-place) in
                  let d : h - e.taken - capacity ≡ h - capacity - a = omega (arith, taken) in
                  rw (before-also, d, going-marks ready s.going trim-place trim-room refl gone put)
                  (ap (before s.os) (sym (by-some (only_depth depth) table ps (n₀ - (o + 1)) (h - capacity) i a s.rs ms refl))
                  ∙ (rw (found (Some i) some_first, f) at s.todo))

-- ---- bytes look at the depths of a tree alone, so a trim does

by-depth : (t : Tree) (table : List ℕ) (ps : List Pin) (n e : ℕ) (c : Option ℕ) (rs : List Range) (ms : List ℕ)
    → trim_by asked (only_depth t.depth) table ps n e c rs ms ≡ trim_by asked t table ps n e c rs ms
unfolding trim_by
by-depth t table ps zero e c rs ms = refl
by-depth t table ps (suc n) e None rs ms = refl
by-depth t table ps (suc n) e (Some i) rs ms =
    let r = nth rs i in
    let k = amount asked e r in
    let rest = evict rs i k in
    ap (also (told t table ms r (r.end - k) r.end)) (by-depth t table ps n (e - k) (chosen ps (e - k) rest) rest (unmark r.node rest ms))

pub trim-depth : (t : Tree) (table : List ℕ) (ps : List Pin) (capacity : ℕ) (rs : List Range) (ms : List ℕ)
    → trim (only_depth t.depth) table ps capacity rs ms ≡ trim t table ps capacity rs ms
unfolding trim
trim-depth t table ps capacity rs ms = by-depth t table ps (length rs) (total rs - capacity) (chosen ps (total rs - capacity) rs) rs ms
