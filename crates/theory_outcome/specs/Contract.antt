-- What a public call's contract promises, as a claim of its parameters at entry, of its parameters at exit and of its answer. Every call names the columns
-- first and in one order, so they are read here once for all calls. Assumes nothing.
use Rattle.std.specs.Prelude.{ℕ, ◌≡◌, List, Float, Bool, true, false}
use seplogic.Ra.Ura.{Ura}
use base.Logic.{SProp, emp}
use prog.Memory.{Memory}
use prog.Routine.{Routine}
use types.Logic.{Logic}
use contract.Lifetimes.{Lfts}
use contract.Monad.{Fun, fact}
use Rattle.std.specs.Borrow.{Bor, MutBor}
use denote.Signature.{Signature}
use denote.Triple.Entry.{Args, Res}
use denote.Triple.Clauses.{Ended, AtExit}
use denote.Triple.Spec.{Spec, exits}
use Rattle.model.specs.Refusals.{PathList}
use Rattle.theory_outcome.specs.Settled.{Pools, Left}

-- ---- the columns among the parameters

-- a slice, lent by &mut where w is true, and else by &
abbrev pub Slice : Bool → Type 0 → Type 0
Slice true A = MutBor (List A)
Slice false A = Bor (List A)

abbrev pub items : (w : Bool) {A : Type 0} → Slice w A → List A
items true x = x.now
items false x = x.now

-- a list that a call answers with
abbrev pub Ints : Type 0
Ints = Slice true ℕ

-- which columns a call is lent by &mut: the tree's but its words, the words, those of the ranges, those of the pins, the marks, the byte table, the books
pub record Written : Type 0 where
  pub tree : Bool
  pub words : Bool
  pub ranges : Bool
  pub pins : Bool
  pub marks : Bool
  pub bytes : Bool
  pub books : Bool

-- the columns of the tree, of the ranges and of the pins, each with the parameters R after them
abbrev pub TreeLent : Written → Type 0 → Type 0
TreeLent w R = Slice w.tree ℕ × (Slice w.tree ℕ × (Slice w.tree ℕ × (Slice w.tree ℕ × (Slice w.words ℕ × R))))

abbrev pub RangesLent : Written → Type 0 → Type 0
RangesLent w R =
    Slice w.ranges ℕ × (Slice w.ranges ℕ × (Slice w.ranges ℕ × (Slice w.ranges ℕ × (Slice w.ranges ℕ × (Slice w.ranges Float × (Slice w.ranges ℕ × R))))))

abbrev pub PinsLent : Written → Type 0 → Type 0
PinsLent w R = Slice w.pins ℕ × (Slice w.pins ℕ × (Slice w.pins ℕ × (Slice w.pins ℕ × R)))

-- every column, with the parameters R after them
abbrev pub Lent : Written → Type 0 → Type 0
Lent w R = TreeLent w (RangesLent w (PinsLent w (Slice w.marks ℕ × (Slice w.bytes ℕ × (Slice w.books ℕ × R)))))

-- what the columns hold
abbrev pub columns : (w : Written) {R : Type 0} → Lent w R → Pools
columns w tree =
    let ranges = tree.1.1.1.1.1 in
    let pins = ranges.1.1.1.1.1.1.1 in
    let rest = pins.1.1.1.1 in
    record {
      parent = items w.tree tree.0;
      depth = items w.tree tree.1.0;
      len = items w.tree tree.1.1.0;
      run = items w.tree tree.1.1.1.0;
      words = items w.words tree.1.1.1.1.0;
      node = items w.ranges ranges.0;
      start = items w.ranges ranges.1.0;
      end = items w.ranges ranges.1.1.0;
      id = items w.ranges ranges.1.1.1.0;
      stamp = items w.ranges ranges.1.1.1.1.0;
      touched = items w.ranges ranges.1.1.1.1.1.0;
      write = items w.ranges ranges.1.1.1.1.1.1.0;
      pin_node = items w.pins pins.0;
      pin_start = items w.pins pins.1.0;
      pin_end = items w.pins pins.1.1.0;
      pin_count = items w.pins pins.1.1.1.0;
      marks = items w.marks rest.0;
      bytes = items w.bytes rest.1.0;
      books = items w.books rest.1.1.0;
    }

-- the parameters after the columns
abbrev pub after : (w : Written) {R : Type 0} → Lent w R → R
after w (_, (_, (_, (_, (_, (_, (_, (_, (_, (_, (_, (_, (_, (_, (_, (_, (_, (_, (_, rest))))))))))))))))))) = rest

-- the path lists of a call that answers with a path, first among the parameters after the columns
abbrev pub path_in : {R : Type 0} → Ints × (Ints × R) → PathList
path_in (node, (len, rest)) = record { node = node.now; len = len.now }

-- what a call leaves: the columns, the answer lists and its answer
abbrev pub leaves : (w : Written) {L B R : Type 0} → Lent w R → L → B → Left L B
leaves w s l b = record { world = record { pools = columns w s; lists = l }; answer = b }

-- ---- the columns that the calls write

-- none: a call that only reads
abbrev pub reads : Written
reads = record { tree = false; words = false; ranges = false; pins = false; marks = false; bytes = false; books = false }

-- those of a turn on a store
abbrev pub stores : Written
stores = record { tree = false; words = false; ranges = true; pins = false; marks = true; bytes = false; books = true }

-- those of a turn on a store's pins
abbrev pub pinned : Written
pinned = record { tree = false; words = false; ranges = false; pins = true; marks = false; bytes = false; books = true }

-- all but the byte table
abbrev pub grows : Written
grows = record { tree = true; words = true; ranges = true; pins = true; marks = true; bytes = false; books = true }

-- what a new tree has: a root, no marks, the byte table and the books
abbrev pub sets_up : Written
sets_up = record { tree = true; words = false; ranges = false; pins = false; marks = true; bytes = true; books = true }

-- ---- a contract

-- a function's contract as its theorem states it, in any model of the machine
abbrev pub Contract : Signature → Type 2
Contract S = (M : Type 1) (𝓤 : Ura M) → (𝓛 : Logic 𝓤) → (Memory → SProp 𝓤) → (Routine → Fun 𝓤) → Spec 𝓤 S

-- a claim of the parameters at entry, the parameters at exit and the answer
abbrev pub Claim : Ended → Type 1
Claim T = (κs : Lfts T.signature.lifetimes) → Args T.signature κs → AtExit T κs → Res T.signature κs → Type 0

-- the contract c asks nothing of a caller, and what it ensures is Q, neither less nor more
abbrev pub Promises : (T : Ended) → Contract T.signature → Claim T → Type 2
Promises T c Q =
    (M : Type 1) (𝓤 : Ura M) (𝓛 : Logic 𝓤) (mem : Memory → SProp 𝓤) (run : Routine → Fun 𝓤)
    → ◌≡◌ {A = Spec 𝓤 T.signature} (c M 𝓤 𝓛 mem run)
    (λ κs a.
    record {
      ghost = Unit {0};
      requires = λ g. emp 𝓤;
      ensures = λ g b. exits 𝓛 T.signature T.kept κs a (λ s. fact 𝓤 (Q κs a s b));
    })
