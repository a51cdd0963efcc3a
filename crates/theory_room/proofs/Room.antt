-- Demand 3 of the definitions. A bring-in tests nothing that the capacity changes, so two capacities refuse alike; the trim to the larger one keeps what
-- the trim to the smaller keeps; and where every tier holds at least as much, a lookup reads at least as far. Assumes nothing.
use Prim.Native.Nat.{ℕ, zero, suc, ◌*◌, ◌≤◌, ◌<◌, zero-le}
use mathlib.Core.Path.{◌≡◌, refl, sym, ap, subst, ◌∙◌}
use mathlib.Core.Bool.{true}
use mathlib.Core.List.{List, [], ◌∷◌}
use native.Mathlib.Omega.{arith}
use native.Mathlib.Decide.{ℕ_discrete}
use lib.ListN.{length}
use lib.Ieee.{Float}
use Rattle.model.specs.declared.Span.{Span}
use Rattle.model.specs.declared.Book.{Book}
use Rattle.model.specs.declared.BringAnswer.{BringAnswer}
use Rattle.model.specs.declared.LookupAnswer.{LookupAnswer}
use Rattle.model.specs.Sizes.{max_stores, max_tiers, max_numbers, store_records, store_pins}
use Rattle.model.specs.State.{Tree, State, at, stores_of, next_id_of, book_of, capacity_of, records_of}
use Rattle.model.specs.Sound.{Sound}
use Rattle.model.specs.SoundTest.{sound}
use Rattle.model.specs.Tree.{Seg, resolve}
use Rattle.model.specs.Store.{Store, ranges, pins, store_of, lay_book}
use Rattle.model.specs.Trim.{trim}
use Rattle.model.specs.Bring.{gaps, fill, keep, bring, bring_need, bring_blocks}
use Rattle.model.specs.Refusals.{first_of, OutList, store_insert_refusals, lookup_refusals}
use Rattle.model.specs.Calls.{done, unless, brought, bring_in, store_insert, LookupLists, lookup, path_of, lay_path, lay_tiers}
use Rattle.model.specs.Lookup.{lookup_path, tier_sums, span_blocks, span_bytes, each_tier}
use Rattle.theory_refuse.proofs.Says.{true_says}
use Rattle.theory_refuse.proofs.Sound.{sound-says}
use Rattle.theory_refuse.proofs.Refused.{store_insert-kept, lookup-kept}
use Rattle.theory_refuse.proofs.Unless.{unless-none, unless-zero}
use Rattle.theory_sound.specs.Facts.{All}
use Rattle.theory_bring.proofs.Bring.{bring_cases}
use Rattle.theory_calls.proofs.Accepted.{NoneHolds, unless-done, span_in_lem, is_finite, neither, none_where}
use Rattle.theory_calls.proofs.Calls.{store_insert-sound}
use Rattle.theory_lay.proofs.Books.{book-read, book-other}
use Rattle.theory_room.specs.Room.{resized, with_capacity, ButCapacity, Alike, sum_of, blocks_in, MoreRoom}
use Rattle.theory_room.proofs.Trim.{Sub, trim-room}
use Rattle.theory_room.proofs.Lookup.{Richer, path-more, path-sums}
use Rattle.theory_room.proofs.After.{Taken, own, others, tree-stays, stores_stay}

-- ---- one store

module _ (t : Tree) (table : List ℕ) (next : ℕ) (sp : Span) (time : Float) (write : ℕ) where
  need-is : (x : Store) → (x.book.capacity ≡ 0 → ⊥) → bring_need x sp ≡ length (gaps sp.node x.ranges sp.start sp.end)
  need-is x c =
      bring_cases t table next x sp time write (λ k b. k ≡ length (gaps sp.node x.ranges sp.start sp.end)) (λ z. absurd (c z)) (λ z. refl)

  ranges-are : (x : Store) → (x.book.capacity ≡ 0 → ⊥)
      → (bring t table x next sp time write).store.ranges
      ≡ (trim t table x.pins x.book.capacity
      (fill sp.node (gaps sp.node x.ranges sp.start sp.end) x.book.stamp next time write x.ranges) x.marks
      ).ranges
  unfolding keep
  ranges-are x c =
      bring_cases t table next x sp time write
      (λ k b.
      b.store.ranges
      ≡ (trim t table x.pins x.book.capacity
      (fill sp.node (gaps sp.node x.ranges sp.start sp.end) x.book.stamp next time write x.ranges) x.marks
      ).ranges)
      (λ z. absurd (c z)) (λ z. refl)

  bring-room : (x y : Store) → (x.book.capacity ≡ 0 → ⊥) → (y.book.capacity ≡ 0 → ⊥) → x.book.capacity ≤ y.book.capacity → y.ranges ≡ x.ranges → y.pins ≡ x.pins
      → y.marks ≡ x.marks → y.book.stamp ≡ x.book.stamp
      → Sub (bring t table x next sp time write).store.ranges (bring t table y next sp time write).store.ranges
  bring-room x y c d le er ep em es n o =
      rw (ranges-are x c, ranges-are y d, er, ep, em, es)
      (trim-room t table x.pins (fill sp.node (gaps sp.node x.ranges sp.start sp.end) x.book.stamp next time write x.ranges) x.marks
      x.book.capacity y.book.capacity le n o)

-- ---- outcomes

unless-alike : {L A : Type 0} (n : ℕ) (x y p q : State) (k l k' l' : L) (u v : A)
    → Alike (unless n x k (record { state = p; lists = k'; answer = done u })).answer (unless n y l (record { state = q; lists = l'; answer = done v })).answer
unless-alike zero x y p q k l k' l' u v = tt
unless-alike (suc n) x y p q k l k' l' u v = refl

-- ---- the bring-in under two capacities

module _ (a : State) (s D : ℕ) (less : s < max_stores) (long : max_numbers ≤ length a.books) (l : OutList) (sp : Span) (time : Float) (write : ℕ) where
  abbrev b : State
  b = with_capacity s D a

  own-book : book_of b s ≡ resized D (book_of a s)
  unfolding with_capacity
  own-book = book-read s a.books less long (resized D (book_of a s))

  -- what the capacity does not change is one in both
  same_number : (f : Book → ℕ) → ((c : ℕ) (x : Book) → f (resized c x) ≡ f x) → (q : ℕ) → f (book_of b q) ≡ f (book_of a q)
  unfolding with_capacity
  same_number f same q = go (ℕ_discrete q s)
    where
      go : Dec (q ≡ s) → f (book_of b q) ≡ f (book_of a q)
      go (yes e) = rw e (ap f own-book ∙ same D (book_of a s))
      go (no other) = ap f (book-other s a.books less long (resized D (book_of a s)) q other)

  same-records : (q : ℕ) → records_of b q ≡ records_of a q
  same-records = same_number (λ x. x.records) (λ c x. refl)

  same-ranges : (q : ℕ) → (store_of b q).ranges ≡ (store_of a q).ranges
  unfolding with_capacity store_of
  same-ranges q = ap (ranges a.ranges (store_records * q)) (same-records q)

  same-pins : (store_of b s).pins ≡ (store_of a s).pins
  unfolding with_capacity store_of
  same-pins = ap (pins a.pins (store_pins * s)) (same_number (λ x. x.entries) (λ c x. refl) s)

  same-marks : (store_of b s).marks ≡ (store_of a s).marks
  unfolding with_capacity store_of
  same-marks = refl

  same-stamp : (store_of b s).book.stamp ≡ (store_of a s).book.stamp
  unfolding store_of
  same-stamp = same_number (λ x. x.stamp) (λ c x. refl) s

  small : (store_of a s).book.capacity ≡ capacity_of a s
  unfolding store_of
  small = refl

  large : (store_of b s).book.capacity ≡ D
  unfolding store_of
  large = ap (λ (x : Book). x.capacity) own-book

  need-same : ((store_of a s).book.capacity ≡ 0 → ⊥) → ((store_of b s).book.capacity ≡ 0 → ⊥) → bring_need (store_of a s) sp ≡ bring_need (store_of b s) sp
  need-same c d =
      need-is a.tree a.bytes 0 sp time write (store_of a s) c
      ∙ (ap (λ rs. length (gaps sp.node rs sp.start sp.end)) (sym (same-ranges s)) ∙ sym (need-is a.tree a.bytes 0 sp time write (store_of b s) d))

  refused-alike : sound a ≡ true → sound b ≡ true → bring_need (store_of a s) sp ≡ bring_need (store_of b s) sp
      → first_of (store_insert_refusals a l s sp time) ≡ first_of (store_insert_refusals b l s sp time)
  unfolding with_capacity lay_book store_of
  refused-alike ha hb e = rw (ha, hb, e, same-records s, same-stamp) refl

pub taken : (st : State) (l : OutList) (s : ℕ) (sp : Span) (time : Float) → Sound st → NoneHolds (store_insert_refusals st l s sp time) → Taken st s sp time
taken st l s sp time h (unsound, (short, (no_store, (bad_span, (bad_time, (few_records, (late, end))))))) =
    record {
      sound = h;
      store = omega arith;
      span = span_in_lem st.tree sp bad_span;
      finite = is_finite time bad_time;
      records = omega arith;
      stamps = (neither late).0;
    }

-- an accepted bring-in: what it asked, and the state that it left
pub record Brings (st : State) (l : OutList) (s : ℕ) (sp : Span) (time : Float) (write : ℕ) : Type 0 where
  pub took : Taken st s sp time
  pub left : (store_insert st l s sp time write).state ≡ bring_in st s sp time write

pub brings : (st : State) (l : OutList) (s : ℕ) (sp : Span) (time : Float) (write : ℕ) (v : BringAnswer) → Sound st
    → (store_insert st l s sp time write).answer ≡ done v → Brings st l s sp time write
unfolding store_insert
brings st l s sp time write v h e =
    let d = unless-done _ _ _ (store_insert-kept st l s sp time write) v e in record { took = taken st l s sp time h d.none; left = d.state }

-- ---- the lookup afterwards

-- two sound states with one tree and one number of stores, and every store of the second holds what it holds in the first
pub record Beside (x y : State) : Type 0 where
  pub first : Sound x
  pub second : Sound y
  pub tree : x.tree ≡ y.tree
  pub stores : stores_of x ≡ stores_of y
  pub richer : (q : ℕ) → q < stores_of x → Richer x y q

all-each : (P : ℕ → Type 0) (ts : List ℕ) → ((i : ℕ) → i < length ts → P (at ts i)) → All P ts
unfolding All
all-each P [] f = tt
all-each P (t ∷ ts) f = (f 0 (omega arith), all-each P ts (λ i h. f (suc i) (omega arith)))

module _ (x y : State) (h : Beside x y) (l : LookupLists) (ts hs : List ℕ) where
  look_alike : first_of (lookup_refusals x l.path l.spans ts hs) ≡ first_of (lookup_refusals y l.path l.spans ts hs)
  look_alike =
      rw (true_says (sound x) (sound-says x) h.first, true_says (sound y) (sound-says y) h.second, h.stores) refl

  pub reads-alike : Alike (lookup x l ts hs).answer (lookup y l ts hs).answer
  unfolding lookup
  reads-alike = rw look_alike (unless-alike (first_of (lookup_refusals y l.path l.spans ts hs)) x y _ _ l l _ _ _ _)

  tiers : NoneHolds (lookup_refusals x l.path l.spans ts hs) → All (Richer x y) ts
  tiers (unsound, (short, (short_tiers, (no_tier, rest)))) =
      all-each (Richer x y) ts (λ i less. h.richer (at ts i) (let g : stores_of x ≤ at ts i → ⊥ = λ k. no_tier (i, less, k) in omega arith))

  few_tiers : NoneHolds (lookup_refusals x l.path l.spans ts hs) → length ts ≤ max_tiers
  few_tiers (unsound, (short, (short_tiers, (no_tier, (many_hashes, (many_tiers, end)))))) = omega arith

  none-held : first_of (lookup_refusals x l.path l.spans ts hs) ≡ 0 → NoneHolds (lookup_refusals x l.path l.spans ts hs)
  unfolding lookup
  none-held e = none_where _ _ _ (lookup-kept x l ts hs) e

  sums-over : All (Richer x y) ts → length ts ≤ max_tiers → (path : List Seg)
      → sum_of (tier_sums span_blocks 0 max_tiers (lookup_path x ts path)) ≤ sum_of (tier_sums span_blocks 0 max_tiers (lookup_path y ts path))
  sums-over r few path = rw (path-sums x ts max_tiers few path, path-sums y ts max_tiers few path) (path-more x y ts r path)

  sums-more : All (Richer x y) ts → length ts ≤ max_tiers
      → sum_of (tier_sums span_blocks 0 max_tiers (lookup_path x ts (resolve x.tree hs)))
      ≤ sum_of (tier_sums span_blocks 0 max_tiers (lookup_path y ts (resolve y.tree hs)))
  sums-more r few =
      subst
      (λ t.
      sum_of (tier_sums span_blocks 0 max_tiers (lookup_path x ts (resolve x.tree hs)))
      ≤ sum_of (tier_sums span_blocks 0 max_tiers (lookup_path y ts (resolve t hs))))
      h.tree (sums-over r few (resolve x.tree hs))

  pub reads : blocks_in (lookup x l ts hs).answer ≤ blocks_in (lookup y l ts hs).answer
  unfolding lookup tier_sums
  reads = go (first_of (lookup_refusals x l.path l.spans ts hs)) (first_of (lookup_refusals y l.path l.spans ts hs)) refl look_alike
    where
      path : State → List Seg
      path st = resolve st.tree hs

      answer : State → LookupAnswer
      answer st =
          record {
            path = path_of (path st);
            spans = length (lookup_path st ts (path st));
            blocks = each_tier (tier_sums span_blocks 0 max_tiers (lookup_path st ts (path st)));
            bytes = each_tier (tier_sums (span_bytes st) 0 max_tiers (lookup_path st ts (path st)));
          }

      lists : State → LookupLists
      lists st = record { path = lay_path (path st) l.path; spans = lay_tiers (lookup_path st ts (path st)) l.spans }

      go : (n m : ℕ) → first_of (lookup_refusals x l.path l.spans ts hs) ≡ n → n ≡ m
          → blocks_in (unless n x l (record { state = x; lists = lists x; answer = done (answer x) })).answer
          ≤ blocks_in (unless m y l (record { state = y; lists = lists y; answer = done (answer y) })).answer
      go zero zero e f = sums-more (tiers (none-held e)) (few_tiers (none-held e))
      go zero (suc m) e f = absurd (omega arith)
      go (suc n) zero e f = absurd (omega arith)
      go (suc n) (suc m) e f = zero-le

-- ---- the demand

module _ (a : State) (s D : ℕ) (l : OutList) (sp : Span) (time : Float) (write : ℕ) (ha : Sound a) (hb : Sound (with_capacity s D a))
    (less : s < stores_of a) (some : 0 < capacity_of a s) (le : capacity_of a s ≤ D) where
  abbrev c : State
  c = with_capacity s D a

  in_eight : s < max_stores
  in_eight = omega (arith, ha.counts.stores)

  room-a : (store_of a s).book.capacity ≡ 0 → ⊥
  room-a e = omega (arith, small a s D in_eight ha.lent.books l sp time write)

  room-is : (store_of c s).book.capacity ≡ D
  room-is = large a s D in_eight ha.lent.books l sp time write

  room_c : (store_of c s).book.capacity ≡ 0 → ⊥
  room_c e = omega (arith, room-is)

  first_alike : first_of (store_insert_refusals a l s sp time) ≡ first_of (store_insert_refusals c l s sp time)
  first_alike =
      refused-alike a s D in_eight ha.lent.books l sp time write (true_says (sound a) (sound-says a) ha) (true_says (sound c) (sound-says c) hb)
      (need-same a s D in_eight ha.lent.books l sp time write room-a room_c)

  pub answers_alike : Alike (store_insert a l s sp time write).answer (store_insert c l s sp time write).answer
  unfolding store_insert
  answers_alike = rw first_alike (unless-alike (first_of (store_insert_refusals c l s sp time)) a c _ _ l l _ _ _ _)

  module _ (v : BringAnswer) (e : (store_insert a l s sp time write).answer ≡ done v) where
    brings-a : Brings a l s sp time write
    brings-a = brings a l s sp time write v ha e

    abbrev told : BringAnswer
    told = record { outs = length (brought c s sp time write).outs; blocks = bring_blocks (store_of c s) sp }

    second : (store_insert c l s sp time write).answer ≡ done told
    unfolding store_insert
    second =
        ap (λ o. o.answer)
        (unless-none c l _ (first_of (store_insert_refusals c l s sp time)) (sym first_alike ∙ unless-zero a l _ (first_of (store_insert_refusals a l s sp time)) e))

    brings_c : Brings c l s sp time write
    brings_c = brings c l s sp time write told hb second

    own-more : Sub (brought a s sp time write).store.ranges (brought c s sp time write).store.ranges
    unfolding brought with_capacity lay_book
    own-more =
        bring-room a.tree a.bytes (next_id_of a) sp time write (store_of a s) (store_of c s) room-a room_c
        (omega (arith, room-is, small a s D in_eight ha.lent.books l sp time write)) (same-ranges a s D in_eight ha.lent.books l sp time write s) (same-pins a s D in_eight ha.lent.books l sp time write)
        (same-marks a s D in_eight ha.lent.books l sp time write) (same-stamp a s D in_eight ha.lent.books l sp time write)

    richer : (q : ℕ) → q < stores_of a → Richer (bring_in a s sp time write) (bring_in c s sp time write) q
    unfolding with_capacity lay_book
    richer q below = go (ℕ_discrete q s)
      where
        go : Dec (q ≡ s) → Richer (bring_in a s sp time write) (bring_in c s sp time write) q
        go (yes i) = λ n o. rw (i, own a s sp time write brings-a.took, own c s sp time write brings_c.took) (own-more n o)
        go (no i) =
            λ n o.
            rw (others a s sp time write brings-a.took q i below, others c s sp time write brings_c.took q i below, same-ranges a s D in_eight ha.lent.books l sp time write q)
            (λ h. h)

    beside : Beside (store_insert a l s sp time write).state (store_insert c l s sp time write).state
    unfolding with_capacity lay_book
    beside =
        record {
          first = store_insert-sound a l s sp time write ha;
          second = store_insert-sound c l s sp time write hb;
          tree =
              ap (λ x. x.tree) brings-a.left ∙ (tree-stays a s sp time write brings-a.took
              ∙ sym (ap (λ x. x.tree) brings_c.left ∙ tree-stays c s sp time write brings_c.took));
          stores =
              ap (λ x. stores_of x) brings-a.left ∙ (stores_stay a s sp time write brings-a.took
              ∙ sym (ap (λ x. stores_of x) brings_c.left ∙ stores_stay c s sp time write brings_c.took));
          richer = rw (brings-a.left, brings_c.left) (λ q below. richer q (rw (stores_stay a s sp time write brings-a.took) at below));
        }

  -- both capacities side by side
  pub more-room-of : MoreRoom a c l s sp time write
  more-room-of =
      record {
        alike = answers_alike;
        kept =
            λ v e n o.
            rw ((brings-a v e).left, (brings_c v e).left, own a s sp time write (brings-a v e).took, own c s sp time write (brings_c v e).took)
            (own-more v e n o);
        reads_alike = λ v e k ts hs. reads-alike (store_insert a l s sp time write).state (store_insert c l s sp time write).state (beside v e) k ts hs;
        reads = λ v e k ts hs. reads (store_insert a l s sp time write).state (store_insert c l s sp time write).state (beside v e) k ts hs;
      }

-- "More room never shortens a reading"
pub more_room : (a b : State) (s C D : ℕ) → Sound a → Sound b → ButCapacity s C D a b → s < stores_of a → 0 < C → C ≤ D
    → (l : OutList) (sp : Span) (time : Float) (write : ℕ) → MoreRoom a b l s sp time write
more_room a b s C D ha hb but less some le l sp time write =
    subst (λ x. MoreRoom a x l s sp time write) (sym but.same)
    (more-room-of a s D l sp time write ha (subst Sound but.same hb) less (omega (arith, but.small)) (omega (arith, but.small)))
