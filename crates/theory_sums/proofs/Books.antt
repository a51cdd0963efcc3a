-- What a call leaves of each store's capacity and of the blocks it holds: a call lays the book of its store, and an insert the book of every store in turn,
-- with the capacity that stood there; and only a bring-in, an expiry and a removal change what their own store holds. Assumes nothing.
use Rattle.std.specs.Prelude.{Option}
use Prim.Native.Nat.{ℕ, zero, suc, ◌+◌, ◌≤◌, ◌<◌}
use mathlib.Core.Path.{◌≡◌, refl, sym, ap, ◌∙◌}
use mathlib.Core.Logic.{◌≢◌}
use mathlib.Core.Bool.{Bool, true, false}
use mathlib.Core.List.{List, [], ◌∷◌}
use native.Mathlib.Omega.{arith}
use native.Mathlib.Decide.{ℕ_discrete}
use lib.ListN.{length, drop}
use lib.Ieee.{Float}
use Rattle.model.specs.declared.Span.{Span}
use Rattle.model.specs.declared.Book.{Book}
use Rattle.model.specs.declared.Cut.{Cut}
use Rattle.model.specs.Sizes.{max_stores, max_numbers}
use Rattle.model.specs.State.{Tree, State, Pin, book_in, stores_in, stores_of, next_id_of, stalls_of, capacity_of}
use Rattle.model.specs.Sound.{Sound}
use Rattle.model.specs.Tree.{Seg, resolve, blocks}
use Rattle.model.specs.Store.{Store, store_of, lay_book, lay_next, lay_counts, with_ranges, with_pins, with_next}
use Rattle.model.specs.Trim.{stalls_after}
use Rattle.model.specs.Bring.{Brought, bring_need}
use Rattle.model.specs.Expire.{expire}
use Rattle.model.specs.Pins.{pin_of, add_pin, take_pin, repinned, pin, pin_need, unpin}
use Rattle.model.specs.Insert.{adds, ends_inside, match_end, next_node, ranges_across, ranges_from, cut_store, cut_store_in, cut_stores, cut_tree, add_leaf, with_tree, with_leaf, cut, cut_first, grow, insert_path}
use Rattle.model.specs.Refusals.{PathList, OutList, touched_by, touch_span}
use Rattle.model.specs.Calls.{brought, bring_in, store_insert, store_remove, store_expire, store_used, touch_spans, pin_source, unpin_source, insert}
use Rattle.theory_refuse.proofs.Refused.{store_insert-kept, store_remove-kept, store_expire-kept, store_used-kept, pin-kept, unpin-kept, insert-kept}
use Rattle.theory_lay.proofs.Books.{book-read, book-other, book_length, next-book, next_length, counts_length}
use Rattle.theory_bring.proofs.Facts.{Steady, steady-capacity}
use Rattle.theory_bring.proofs.Bring.{bring-steady}
use Rattle.theory_bring.proofs.Expire.{expire-steady}
use Rattle.theory_touch.proofs.Touch.{touch-steady, touch-held}
use Rattle.theory_touch.proofs.Remove.{remove-steady}
use Rattle.theory_calls.proofs.Accepted.{unless_holds}
use Rattle.theory_calls.proofs.Stores.{removed_by}

-- ---- the books: every store has its capacity, and those of P hold as many blocks

pub record SameFor (P : ℕ → Type 0) (l l' : List ℕ) : Type 0 where
  pub stores : stores_in l' ≡ stores_in l
  pub long : max_numbers ≤ length l'
  pub capacity : (q : ℕ) → (book_in l' q).capacity ≡ (book_in l q).capacity
  pub held : (q : ℕ) → P q → (book_in l' q).held ≡ (book_in l q).held

laid-stores : (s : ℕ) (c : Book) (l : List ℕ) → stores_in (lay_book s c l) ≡ stores_in l
unfolding lay_book
laid-stores s c l = refl

module _ {P : ℕ → Type 0} where
  pub same_start : (l : List ℕ) → max_numbers ≤ length l → SameFor P l l
  same_start l long = record { stores = refl; long = long; capacity = λ q. refl; held = λ q p. refl }

  same_then : {l m n : List ℕ} → SameFor P l m → SameFor P m n → SameFor P l n
  same_then h k =
      record {
        stores = k.stores ∙ h.stores;
        long = k.long;
        capacity = λ q. k.capacity q ∙ h.capacity q;
        held = λ q p. k.held q p ∙ h.held q p;
      }

  same_next : {l m : List ℕ} (a b : ℕ) → SameFor P l m → SameFor P l (lay_next a b m)
  unfolding lay_next
  same_next {l} {m} a b h =
      record {
        stores = h.stores;
        long = rw (next_length m h.long) h.long;
        capacity = λ q. ap (λ (c : Book). c.capacity) (next-book a b m q) ∙ h.capacity q;
        held = λ q p. ap (λ (c : Book). c.held) (next-book a b m q) ∙ h.held q p;
      }

  same-counts : {l m : List ℕ} (a b : ℕ) → SameFor P l m → SameFor P l (lay_counts a b m)
  unfolding lay_counts book_in
  same-counts {l} {m} a b h =
      record { stores = h.stores; long = rw (counts_length m h.long) h.long; capacity = h.capacity; held = h.held }

  -- a book with the store's capacity, which holds as many where P asks it
  same-book : {l m : List ℕ} (s : ℕ) (c : Book) → s < max_stores → SameFor P l m → c.capacity ≡ (book_in l s).capacity
      → (P s → c.held ≡ (book_in l s).held) → SameFor P l (lay_book s c m)
  same-book {l} {m} s c less h capacity held = same_then h laid
    where
      each : (f : Book → ℕ) (q : ℕ) → Dec (q ≡ s) → (q ≡ s → f c ≡ f (book_in m s)) → f (book_in (lay_book s c m) q) ≡ f (book_in m q)
      each f q (yes e) same = rw e (ap f (book-read s m less h.long c) ∙ same e)
      each f q (no other) same = ap f (book-other s m less h.long c q other)

      laid : SameFor P m (lay_book s c m)
      laid =
          record {
            stores = laid-stores s c m;
            long = rw (book_length s m less h.long c) h.long;
            capacity = λ q. each (λ (x : Book). x.capacity) q (ℕ_discrete q s) (λ e. capacity ∙ sym (h.capacity s));
            held =
                λ q p.
                each (λ (x : Book). x.held) q (ℕ_discrete q s) (λ e. let r : P s = rw e at p in held r ∙ sym (h.held s r));
          }

-- ---- of states

abbrev pub Same : (ℕ → Type 0) → State → State → Type 0
Same P a b = SameFor P a.books b.books

-- every store, and every one but s
abbrev pub Every : ℕ → Type 0
Every q = Unit {0}

abbrev pub But : ℕ → ℕ → Type 0
But s q = q ≢ s

book-is : (st : State) (s : ℕ) → (store_of st s).book ≡ book_in st.books s
unfolding store_of
book-is st s = refl

-- y for the ranges of store s
ranges-same : {P : ℕ → Type 0} (st : State) (s need : ℕ) (y : Store) → s < max_stores → max_numbers ≤ length st.books → Steady (store_of st s) y
    → (P s → y.book.held ≡ (store_of st s).book.held) → Same P st (with_ranges s need y st)
unfolding with_ranges
ranges-same st s need y less long steady held =
    same-book s y.book less (same_start st.books long) (steady-capacity steady ∙ ap (λ (b : Book). b.capacity) (book-is st s))
    (λ p. held p ∙ ap (λ (b : Book). b.held) (book-is st s))

next-same : {P : ℕ → Type 0} (st st' : State) (next stalls : ℕ) → Same P st st' → Same P st (with_next next stalls st')
unfolding with_next
next-same st st' next stalls h = same_next next stalls h

brought-steady : (st : State) (s : ℕ) (sp : Span) (time : Float) (write : ℕ) → Steady (store_of st s) (brought st s sp time write).store
unfolding brought
brought-steady st s sp time write = bring-steady st.tree st.bytes (next_id_of st) (store_of st s) sp time write

module _ (st : State) (h : Sound st) where
  long-books : max_numbers ≤ length st.books
  long-books = h.lent.books

  below : (s : ℕ) → s < stores_of st → s < max_stores
  below s l = omega (arith, h.counts.stores)

  start : {P : ℕ → Type 0} → Same P st st
  start = same_start st.books long-books

  -- ---- the calls that are counted

  bring_in-same : (s : ℕ) (sp : Span) (time : Float) (write : ℕ) → s < stores_of st → Same (But s) st (bring_in st s sp time write)
  unfolding bring_in
  bring_in-same s sp time write less = go (capacity_of st s)
    where
      need : ℕ
      need = bring_need (store_of st s) sp

      w : Brought
      w = brought st s sp time write

      after : State
      after = with_next (next_id_of st + need) (stalls_after w.stalled (stalls_of st)) (with_ranges s need w.store st)

      go : (c : ℕ) → Same (But s) st (elim c [ zero ↦ st | suc d ↦ after ])
      go zero = start
      go (suc c) =
          next-same st (with_ranges s need w.store st) (next_id_of st + need) (stalls_after w.stalled (stalls_of st))
          (ranges-same st s need w.store (below s less) long-books (brought-steady st s sp time write) (λ other. absurd (other refl)))

  pub store_insert-same : (l : OutList) (s : ℕ) (sp : Span) (time : Float) (write : ℕ) → Same (But s) st (store_insert st l s sp time write).state
  unfolding store_insert
  store_insert-same l s sp time write =
      unless_holds _ _ _ (λ x. Same (But s) st x) (store_insert-kept st l s sp time write) start
      (λ (unsound, (short, (no_store, rest))). bring_in-same s sp time write (omega arith))

  pub store_expire-same : (l : OutList) (s : ℕ) (now seconds : Float) → Same (But s) st (store_expire st l s now seconds).state
  unfolding store_expire
  store_expire-same l s now seconds =
      unless_holds _ _ _ (λ x. Same (But s) st x) (store_expire-kept st l s now seconds) start
      (λ (unsound, (short, (no_store, rest))).
      ranges-same st s 0 (expire st.tree st.bytes (store_of st s) now seconds).store (below s (omega arith)) long-books
      (expire-steady st.tree st.bytes (store_of st s) now seconds) (λ other. absurd (other refl)))

  pub store_remove-same : (l : List ℕ) (s : ℕ) (sp : Span) → Same (But s) st (store_remove st l s sp).state
  unfolding store_remove
  store_remove-same l s sp =
      unless_holds _ _ _ (λ x. Same (But s) st x) (store_remove-kept st l s sp) start
      (λ (unsound, (short, (no_store, rest))).
      let w = removed_by st s sp in
      next-same st (with_ranges s w.need w.store st) (next_id_of st + w.need) (stalls_of st)
      (ranges-same st s w.need w.store (below s (omega arith)) long-books (remove-steady (store_of st s) (next_id_of st) sp)
      (λ other. absurd (other refl))))

  -- ---- pins: a store's own numbers but for the pinned ones

  pins-same : (s need : ℕ) (ps : List Pin) → s < stores_of st → Same Every st (with_pins s need (repinned (store_of st s) ps) st)
  unfolding with_pins store_of
  pins-same s need ps less = same-book s (repinned (store_of st s) ps).book (below s less) (same_start st.books long-books) refl (λ p. refl)

  pub pin-same : (s : ℕ) (sp : Span) → Same Every st (pin_source st s sp).state
  unfolding pin_source pin
  pin-same s sp =
      unless_holds _ _ _ (λ x. Same Every st x) (pin-kept st s sp) start
      (λ (unsound, (no_store, rest)). pins-same s (pin_need (store_of st s) sp) (add_pin (pin_of sp 1) (store_of st s).pins) (omega arith))

  pub unpin-same : (s : ℕ) (sp : Span) → Same Every st (unpin_source st s sp).state
  unfolding unpin_source unpin
  unpin-same s sp =
      unless_holds _ _ _ (λ x. Same Every st x) (unpin-kept st s sp) start
      (λ (unsound, (no_store, rest)). pins-same s 0 (take_pin (pin_of sp 1) (store_of st s).pins) (omega arith))

-- ---- a touch: span after span, the store holds what it held

touch_span-same : (st : State) (s : ℕ) (sp : Span) (time : Float) (counted : Bool) → s < max_stores → max_numbers ≤ length st.books
    → Same Every st (touch_span st s sp time counted)
unfolding touch_span
touch_span-same st s sp time counted less long =
    let w = touched_by st s sp time counted in
    next-same st (with_ranges s w.need w.store st) (next_id_of st + w.need) (stalls_of st)
    (ranges-same st s w.need w.store less long (touch-steady st.tree st.bytes (store_of st s) (next_id_of st) sp time counted)
    (λ p. touch-held st.tree st.bytes (store_of st s) (next_id_of st) sp time counted))

touch_spans-same : (st : State) (s : ℕ) (sps : List Span) (time : Float) (counted : Bool) → s < max_stores → max_numbers ≤ length st.books
    → Same Every st (touch_spans st s sps time counted)
unfolding touch_spans
touch_spans-same st s [] time counted less long = same_start st.books long
touch_spans-same st s (sp ∷ sps) time counted less long =
    let h = touch_span-same st s sp time counted less long in
    same_then h (touch_spans-same (touch_span st s sp time counted) s sps time counted less h.long)

pub store_used-same : (st : State) → Sound st → (s : ℕ) (sps : List Span) (time : Float) (counted : Bool)
    → Same Every st (store_used st s sps time counted).state
unfolding store_used
store_used-same st h s sps time counted =
    unless_holds _ _ _ (λ x. Same Every st x) (store_used-kept st s sps time counted) (start st h)
    (λ (unsound, (no_store, rest)). touch_spans-same st s sps time counted (below st h s (omega arith)) (long-books st h))

-- ---- an insert: the cut lays the book of every store, the leaf none

tree-same : (t : Tree) (st st' : State) → Same Every st st' → Same Every st (with_tree t st')
unfolding with_tree
tree-same t st st' h = same-counts t.nodes t.used h

module _ (j k m : ℕ) where
  cut_store_in-same : (s : ℕ) (st : State) → s < max_stores → max_numbers ≤ length st.books → Same Every st (cut_store_in j k m s st)
  unfolding cut_store_in with_next with_pins with_ranges cut_store store_of
  cut_store_in-same s st less long =
      let x = store_of st s in
      let y = cut_store j k m (next_id_of st) x in
      same_next (next_id_of st + ranges_across j k x.ranges) (stalls_of st)
      (same-book s y.book less (same-book s (ranges_from y x).book less (same_start st.books long) refl (λ p. refl)) refl (λ p. refl))

  cut_stores-same : (n s : ℕ) (st : State) → s + n ≤ max_stores → max_numbers ≤ length st.books → Same Every st (cut_stores j k m s n st)
  unfolding cut_stores
  cut_stores-same zero s st few long = same_start st.books long
  cut_stores-same (suc n) s st few long =
      let h = cut_store_in-same s st (omega arith) long in
      same_then h (cut_stores-same n (suc s) (cut_store_in j k m s st) (omega arith) h.long)

cut-same : (j k : ℕ) (st : State) → stores_of st ≤ max_stores → max_numbers ≤ length st.books → Same Every st (cut j k st)
unfolding cut
cut-same j k st few long =
    let t = cut_tree j k st.tree in
    let h = tree-same t st st (same_start st.books long) in
    same_then h (cut_stores-same j k (next_node st.tree) (stores_of st) 0 (with_tree t st) (omega arith) h.long)

leaf_same : (hs : List ℕ) (path : List Seg) (split : Option Cut) (st st' : State) → Same Every st st' → Same Every st (with_leaf hs path split st').state
unfolding with_leaf
leaf_same hs path split st st' h =
    tree-same (add_leaf (match_end path).node (blocks path) (drop (blocks path) hs) st'.tree) st st' h

cut_first-same : (b : Bool) (hs : List ℕ) (path : List Seg) (st : State) → Sound st → Same Every st (cut_first b hs path st).state
cut_first-same true hs path st h =
    leaf_same hs path _ st (cut (match_end path).node (match_end path).len st) (cut-same _ _ st h.counts.stores (long-books st h))
cut_first-same false hs path st h = leaf_same hs path _ st st (start st h)

insert_path-same : (hs : List ℕ) (path : List Seg) (st : State) → Sound st → Same Every st (insert_path hs path st).state
unfolding insert_path
insert_path-same hs path st h = go (adds hs path)
  where
    go : (a : Bool) → Same Every st (grow a hs path st).state
    go true = cut_first-same (ends_inside st.tree path) hs path st h
    go false = start st h

pub insert-same : (st : State) → Sound st → (l : PathList) (hs : List ℕ) → Same Every st (insert st l hs).state
unfolding insert
insert-same st h l hs =
    unless_holds _ _ _ (λ x. Same Every st x) (insert-kept st l hs) (start st h) (λ none. insert_path-same hs (resolve st.tree hs) st h)
