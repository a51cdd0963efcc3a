-- Demand 3, as it is stated: two states that are equal but for one store's capacity, and what a lookup gives in all. Assumes nothing.
use Rattle.std.specs.Prelude.{ℕ, ◌+◌, ◌≤◌, ◌≡◌, List, [], ◌∷◌, drop, Float}
use Rattle.model.specs.declared.Span.{Span}
use Rattle.model.specs.declared.Book.{Book}
use Rattle.model.specs.declared.BringAnswer.{BringAnswer}
use Rattle.model.specs.declared.LookupAnswer.{LookupAnswer}
use Rattle.model.specs.State.{State, numbers, book_from, book_of, capacity_of}
use Rattle.model.specs.Store.{store_of, lay_book}
use Rattle.model.specs.Lookup.{sums_in}
use Rattle.model.specs.Refusals.{OutList}
use Rattle.model.specs.Calls.{Outcome, Answer, refused, done, store_insert, LookupLists, lookup}
use Rattle.model.specs.Blocks.{Holds}

-- a store's own numbers with capacity c, and all else as it is
abbrev pub resized : ℕ → Book → Book
resized c b = book_from (c ∷ drop 1 (numbers b))

-- the state with capacity c for store s, and all else as it is
unfoldable pub with_capacity : ℕ → ℕ → State → State
unfolding lay_book
with_capacity s c st =
    record {
      tree = st.tree;
      ranges = st.ranges;
      pins = st.pins;
      marks = st.marks;
      bytes = st.bytes;
      books = lay_book s (resized c (book_of st s)) st.books;
    }

-- "two equal .. states but for one store's capacity, C in one and D in the other"
pub record ButCapacity (s C D : ℕ) (a b : State) : Type 0 where
  pub small : capacity_of a s ≡ C
  pub large : capacity_of b s ≡ D
  pub same : b ≡ with_capacity s D a

-- a rule of how much an excess asks for: what it asks for is at least the excess, and grows with it
pub record Lawful (asks : ℕ → ℕ) : Type 0 where
  pub enough : (e : ℕ) → e ≤ asks e
  pub grows : (d e : ℕ) → d ≤ e → asks d ≤ asks e

-- "Both accept or both refuse alike"
abbrev pub Alike : {A : Type 0} → Answer A → Answer A → Type 0
Alike (refused n) (refused m) = n ≡ m
Alike (refused n) (done b) = ⊥
Alike (done a) (refused m) = ⊥
Alike (done a) (done b) = Unit {0}

-- "blocks in all": the sum over the tiers, 0 where the call was refused
unfoldable pub sum_of : List ℕ → ℕ
sum_of [] = 0
sum_of (n ∷ ns) = n + sum_of ns

abbrev pub blocks_in : Answer LookupAnswer → ℕ
blocks_in (refused n) = 0
blocks_in (done a) = sum_of (sums_in a.blocks)

-- "make the same insertion into that store", under C and under D
abbrev pub under_c : State → OutList → ℕ → Span → Float → ℕ → Outcome OutList BringAnswer
under_c st l s sp time write = store_insert st l s sp time write

abbrev pub under_d : State → OutList → ℕ → Span → Float → ℕ → Outcome OutList BringAnswer
under_d st l s sp time write = store_insert st l s sp time write

-- "afterwards any hash list looked up through any one tier list", under C and under D
abbrev pub read_c : State → LookupLists → List ℕ → List ℕ → Outcome LookupLists LookupAnswer
read_c st l ts hs = lookup st l ts hs

abbrev pub read_d : State → LookupLists → List ℕ → List ℕ → Outcome LookupLists LookupAnswer
read_d st l ts hs = lookup st l ts hs

-- "Both accept or both refuse alike; if accepted, every block kept under C is kept under D, and afterwards any hash list looked up through any one tier
-- list gives at least as many blocks in all under D". `Holds` says that a range has the block
pub record MoreRoom (a b : State) (l : OutList) (s : ℕ) (sp : Span) (time : Float) (write : ℕ) : Type 0 where
  pub alike : Alike (under_c a l s sp time write).answer (under_d b l s sp time write).answer
  pub kept :
      (v : BringAnswer) → (under_c a l s sp time write).answer ≡ done v
      → (n o : ℕ) → Holds (store_of (under_c a l s sp time write).state s).ranges n o
      → Holds (store_of (under_d b l s sp time write).state s).ranges n o
  pub reads_alike :
      (v : BringAnswer) → (under_c a l s sp time write).answer ≡ done v
      → (k : LookupLists) (ts hs : List ℕ)
      → Alike (read_c (under_c a l s sp time write).state k ts hs).answer (read_d (under_d b l s sp time write).state k ts hs).answer
  pub reads :
      (v : BringAnswer) → (under_c a l s sp time write).answer ≡ done v
      → (k : LookupLists) (ts hs : List ℕ)
      → blocks_in (read_c (under_c a l s sp time write).state k ts hs).answer ≤ blocks_in (read_d (under_d b l s sp time write).state k ts hs).answer
