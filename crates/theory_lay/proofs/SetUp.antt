-- Set-up leaves a sound state: no record, no pin entry and no node but the root is in use, and every mark is 0. So only the sizes, the capacities and the
-- byte table are to be shown. Assumes nothing.
use Prim.Native.Nat.{ℕ, zero, suc, ◌+◌, ◌*◌, ◌≤◌, ◌<◌}
use mathlib.Core.Path.{◌≡◌, refl, sym, ap, subst, ◌∙◌}
use mathlib.Core.Bool.{Bool, true, false}
use mathlib.Core.List.{List, ◌++◌}
use native.Mathlib.Omega.{arith}
use native.Mathlib.Nat.{add-zero, zero-add}
use lib.ListN.{length, get_or, take, drop, replicate, length-append, length-replicate, length-set, get_or-append}
use lib.Seq.{get_or-set_same, drop-drop}
use Rattle.model.specs.Words.{Each, Pairs}
use Rattle.model.specs.declared.Book.{Book}
use Rattle.model.specs.Sizes.{max_stores, max_marks, max_numbers, table_length, store_marks, store_numbers}
use Rattle.model.specs.State.{Tree, State, at, mark_of, parts_in, numbers, book_from, book_in, book_of, records_of, held_of, entries_of, pinned_of}
use Rattle.model.specs.Sound.{Sound, TreeLent, StoreCounts, Rising, Root}
use Rattle.model.specs.Sound.{ParentsInUse, DepthsAdd, EndsWithin, NodesFilled, RunsBelow, RunsApart, SiblingsDiffer, RecordsStand, RecordsInside, HeldIsSum, HeldNoneAtZero, IdsDiffer, IdsBelowNext, StampsUpToStores, TimesFinite, PinsStand, PinsInside, PinnedIsSum, MarksNone, MarksWithin, held_by, pinned_by}
use Rattle.theory_lay.proofs.Lay.{blank_at}
use Rattle.model.specs.SetUp.{SetUpFits, set_up_state, root_only, policy, new_book, new_numbers}

-- ---- lists

-- n times a has a at each place, also past the end where a is the default
same_at : {A : Type 0} (n i : ℕ) (a : A) → get_or (replicate n a) i a ≡ a
same_at zero i a = refl
same_at (suc n) zero a = refl
same_at (suc n) (suc i) a = same_at n i a

-- the numbers of a store, among those of the stores from r on
new-part : (capacity : List ℕ) (refreshes : List Bool) (rest : List ℕ) (n r s : ℕ) → s < n
    → take store_numbers (drop (store_numbers * s) (new_numbers capacity refreshes r n ++ rest)) ≡ numbers (new_book capacity refreshes (r + s))
unfolding new_numbers
new-part capacity refreshes rest zero r s less = absurd (omega arith)
new-part capacity refreshes rest (suc n) r zero less = rw add-zero
new-part capacity refreshes rest (suc n) r (suc s) less =
    let e : store_numbers * suc s ≡ store_numbers + store_numbers * s = omega arith in
    let f : suc r + s ≡ r + suc s = omega arith in
    ap (λ (k : ℕ). take store_numbers (drop k (new_numbers capacity refreshes r (suc n) ++ rest))) e
    ∙ ap (λ (l : List ℕ). take store_numbers l) (sym (drop-drop (store_numbers * s) store_numbers (new_numbers capacity refreshes r (suc n) ++ rest)))
    ∙ new-part capacity refreshes rest n (suc r) s (omega arith)
    ∙ ap (λ (k : ℕ). numbers (new_book capacity refreshes k)) f

pub new_length : (capacity : List ℕ) (refreshes : List Bool) (r n : ℕ) → length (new_numbers capacity refreshes r n) ≡ store_numbers * n
unfolding new_numbers
new_length capacity refreshes r zero = refl
new_length capacity refreshes r (suc n) = omega (arith, new_length capacity refreshes (suc r) n)

blanks-long : (n : ℕ) (rest : List ℕ) → n ≤ length (replicate n 0 ++ rest)
blanks-long n rest = simp (length-append, length-replicate) (omega arith)

-- ---- nothing is in use

no_node : (P : ℕ → Type 0) → Each 1 1 P
no_node P k low high = absurd (omega arith)

no_place : (P : ℕ → Type 0) (n : ℕ) → n ≡ 0 → Each 0 n P
no_place P n e k low high = absurd (omega arith)

no_pair : (R : ℕ → ℕ → Type 0) (n : ℕ) → n ≡ 0 → Pairs n R
no_pair R n e j k less high = absurd (omega arith)

-- ---- the sizes

root-lent : (t : Tree) → TreeLent t → TreeLent (root_only t)
root-lent t h =
    record {
      parent = rw length-set h.parent;
      depth = rw length-set h.depth;
      len = rw length-set h.len;
      run = rw length-set h.run;
      words = h.words;
    }

root_alone : (t : Tree) → TreeLent t → Root (root_only t)
root_alone t h = record { len = get_or-set_same t.len 0 0 0 (omega arith); depth = get_or-set_same t.depth 0 0 0 (omega arith) }

table-rises : (table rest : List ℕ) → length table ≡ table_length → Rising table → Rising (table ++ rest)
table-rises table rest e h =
    record {
      steps = λ k low high. rw (same k (omega arith), same (suc k) (omega arith)) (h.steps k low high);
      small = λ k low high. rw (same k (omega arith)) (h.small k low high);
    }
  where
    same : (k : ℕ) → k < table_length → at (table ++ rest) k ≡ at table k
    same k l = get_or-append table rest 0 k (omega arith)

module _ (pools : State) (table capacity : List ℕ) (refreshes : List Bool) (h : SetUpFits pools table capacity refreshes) where
  books-lent : max_numbers ≤ length (set_up_state pools table capacity refreshes).books
  unfolding set_up_state
  books-lent = rw length-append (omega (arith, new_length capacity refreshes 0 max_stores))

  pub new-book : (s : ℕ) → s < max_stores → book_of (set_up_state pools table capacity refreshes) s ≡ new_book capacity refreshes s
  unfolding set_up_state book_in
  new-book s less =
      ap book_from (new-part capacity refreshes (drop (store_numbers * max_stores) (parts_in pools.books)) max_stores 0 s less)
      ∙ ap (new_book capacity refreshes) (zero-add s)

pub set_up-sound : (pools : State) (table capacity : List ℕ) (refreshes : List Bool) → SetUpFits pools table capacity refreshes
    → Sound (set_up_state pools table capacity refreshes)
unfolding set_up_state ParentsInUse DepthsAdd EndsWithin NodesFilled RunsBelow RunsApart SiblingsDiffer RecordsStand RecordsInside HeldIsSum HeldNoneAtZero IdsDiffer IdsBelowNext StampsUpToStores TimesFinite PinsStand PinsInside PinnedIsSum MarksNone MarksWithin held_by pinned_by
set_up-sound pools table capacity refreshes h =
    record {
      lent = record {
        tree = root-lent pools.tree h.tree;
        ranges = h.ranges;
        pins = h.pins;
        marks = blanks-long max_marks (drop max_marks pools.marks);
        bytes = rw length-append (omega arith);
        books = books-lent pools table capacity refreshes h;
      };
      counts = record {
        root = omega arith;
        nodes = omega arith;
        used = omega arith;
        some_store = h.some_store;
        stores = h.stores;
        first_id = omega arith;
        next_id = omega arith;
        stalls = omega arith;
        each = λ s low high. subst StoreCounts (sym (book s high)) (new-counts s low high);
      };
      table = table-rises table _ h.table_long h.rises;
      root = root_alone pools.tree h.tree;
      parents = no_node _;
      depths = no_node _;
      ends = no_node _;
      filled = no_node _;
      runs_below = no_node _;
      runs_apart = λ w. no_node _;
      siblings = no_node _;
      stand = λ s low high. no_pair _ _ (records s high);
      inside = λ s low high. no_place _ _ (records s high);
      held = λ s low high. none-held s high;
      held_none = λ s low high none. held s high;
      ids = λ s low high. no_place _ _ (records s high);
      ids_below = λ s low high. no_place _ _ (records s high);
      stamps = λ s low high. no_place _ _ (records s high);
      times = λ s low high. no_place _ _ (records s high);
      pins_stand = λ s low high. no_pair _ _ (entries s high);
      pins_inside = λ s low high. no_place _ _ (entries s high);
      pinned = λ s low high. none-pinned s high;
      marks_none = λ s low high v l less none. clear s v (omega arith);
      marks_within = λ s low high v l less. rw (clear s v (omega arith)) (omega arith);
    }
  where
    st : State
    st = set_up_state pools table capacity refreshes

    book : (s : ℕ) → s < length capacity → book_of st s ≡ new_book capacity refreshes s
    book s high = new-book pools table capacity refreshes h s (omega (arith, h.stores))

    records : (s : ℕ) → s < length capacity → records_of st s ≡ 0
    records s high = ap (λ (b : Book). b.records) (book s high)

    entries : (s : ℕ) → s < length capacity → entries_of st s ≡ 0
    entries s high = ap (λ (b : Book). b.entries) (book s high)

    held : (s : ℕ) → s < length capacity → held_of st s ≡ 0
    held s high = ap (λ (b : Book). b.held) (book s high)

    new-counts : (s : ℕ) → 0 ≤ s → s < length capacity → StoreCounts (new_book capacity refreshes s)
    new-counts s low high =
        record {
          capacity = h.capacities s low high;
          policy = one_of_two (get_or refreshes s false);
          records = omega arith;
          entries = omega arith;
          pinned = omega arith;
          stamp = omega arith;
        }
      where
        one_of_two : (b : Bool) → policy b ≤ 1
        one_of_two true = omega arith
        one_of_two false = omega arith

    none-held : (s : ℕ) → s < length capacity → held_of st s ≡ held_by st s (records_of st s)
    none-held s high = held s high ∙ sym (ap (held_by st s) (records s high))

    none-pinned : (s : ℕ) → s < length capacity → pinned_of st s ≡ pinned_by st s (entries_of st s)
    none-pinned s high = ap (λ (b : Book). b.pinned) (book s high) ∙ sym (ap (pinned_by st s) (entries s high))

    clear : (s v : ℕ) → store_marks * s + v < max_marks → mark_of st s v ≡ 0
    clear s v l = blank_at max_marks (store_marks * s + v) 0 0 (drop max_marks pools.marks) l
