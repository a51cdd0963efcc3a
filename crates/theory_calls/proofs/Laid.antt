-- A state with another value for one store, whatever side of it was laid back: the store is the new one and nothing else is changed. Assumes nothing.
use Prim.Native.Nat.{ℕ, ◌+◌, ◌≤◌, ◌<◌}
use mathlib.Core.Path.{◌≡◌, refl, sym, ap, ◌∙◌}
use mathlib.Core.Logic.{◌≢◌}
use lib.ListN.{length}
use Rattle.model.specs.declared.Book.{Book}
use Rattle.model.specs.Sizes.{store_pins}
use Rattle.model.specs.State.{State, stores_of, book_of, entries_of}
use Rattle.model.specs.Sound.{Lent}
use Rattle.model.specs.Store.{Store, store_of, lay_book, lay_next, with_ranges, with_pins, with_next}
use Rattle.model.specs.Insert.{ranges_from}
use Rattle.theory_lay.proofs.Store.{Roomy, RangesFit, PinsFit, store-book, ranges-read, ranges-other, ranges-roomy, lent-ranges, pins-read, pins-other, lent-pins, next-store, lent-next}

-- st' is st with y for store s, the next id and the stalls aside
pub record Laid (s : ℕ) (y : Store) (st st' : State) : Type 0 where
  pub tree : st'.tree ≡ st.tree
  pub bytes : st'.bytes ≡ st.bytes
  pub stores : stores_of st' ≡ stores_of st
  pub lent : Lent st'
  pub own : store_of st' s ≡ y
  pub other : (q : ℕ) → q ≢ s → q < stores_of st → store_of st' q ≡ store_of st q

laid_then : {s : ℕ} {x y : Store} {st st₁ st₂ : State} → Laid s x st st₁ → Laid s y st₁ st₂ → Laid s y st st₂
laid_then h k =
    record {
      tree = k.tree ∙ h.tree;
      bytes = k.bytes ∙ h.bytes;
      stores = k.stores ∙ h.stores;
      lent = k.lent;
      own = k.own;
      other = λ q other less. k.other q other (rw h.stores less) ∙ h.other q other less;
    }

pub laid_next : {s : ℕ} {y : Store} {st st' : State} (next stalls : ℕ) → Laid s y st st' → Laid s y st (with_next next stalls st')
unfolding with_next lay_next
laid_next {s} {st' = st'} next stalls h =
    record {
      tree = h.tree;
      bytes = h.bytes;
      stores = h.stores;
      lent = lent-next next stalls st' h.lent;
      own = next-store next stalls st' s ∙ h.own;
      other = λ q other less. next-store next stalls st' q ∙ h.other q other less;
    }

-- the state's sizes: of all pools and of each store
pub record Sizes (st : State) : Type 0 where
  pub lent : Lent st
  pub roomy : (q : ℕ) → q < stores_of st → Roomy st q

module _ (st : State) (s need : ℕ) (y : Store) (sizes : Sizes st) (less : s < stores_of st) where
  pub laid-ranges : RangesFit st s need y → Laid s y st (with_ranges s need y st)
  unfolding with_ranges lay_book
  laid-ranges fit =
      let own = sizes.roomy s less in
      record {
        tree = refl;
        bytes = refl;
        stores = refl;
        lent = lent-ranges st s need y own fit sizes.lent;
        own = ranges-read st s need y own fit;
        other = λ q other l. ranges-other st s need y own fit q other (sizes.roomy q l).records;
      }

  ranges_sizes : RangesFit st s need y → Sizes (with_ranges s need y st)
  unfolding with_ranges lay_book
  ranges_sizes fit =
      record { lent = (laid-ranges fit).lent; roomy = λ q l. ranges-roomy st s need y (sizes.roomy s less) fit q (sizes.roomy q l) }

  pub laid-pins : PinsFit st s need y → Laid s y st (with_pins s need y st)
  unfolding with_pins lay_book
  laid-pins fit =
      let own = sizes.roomy s less in
      record {
        tree = refl;
        bytes = refl;
        stores = refl;
        lent = lent-pins st s need y own fit sizes.lent;
        own = pins-read st s need y own fit;
        other = λ q other l. pins-other st s need y own fit q other (sizes.roomy q l).entries;
      }

-- both sides of y, the ranges first
pub laid_both : (st : State) (s need : ℕ) (y : Store) → Sizes st → s < stores_of st → (entries : ℕ)
    → RangesFit st s need (ranges_from y (store_of st s)) → y.book.entries ≡ length y.pins
    → length y.pins ≤ entries_of st s + entries → entries_of st s + entries ≤ store_pins
    → Laid s y st (with_pins s entries y (with_ranges s need (ranges_from y (store_of st s)) st))
laid_both st s need y sizes less entries fit counted few room =
    laid_then first (laid-pins st₁ s entries y (ranges_sizes st s need y₁ sizes less fit) (rw first.stores less) fit_pins)
  where
    y₁ : Store
    y₁ = ranges_from y (store_of st s)

    st₁ : State
    st₁ = with_ranges s need y₁ st

    first : Laid s y₁ st st₁
    first = laid-ranges st s need y₁ sizes less fit

    book : book_of st₁ s ≡ y₁.book
    book = sym (store-book st₁ s) ∙ ap (λ (z : Store). z.book) first.own

    same : entries_of st₁ s ≡ entries_of st s
    same = ap (λ (b : Book). b.entries) book ∙ ap (λ (b : Book). b.entries) (store-book st s)

    fit_pins : PinsFit st₁ s entries y
    fit_pins =
        record {
          pins = rw same few;
          room = rw same room;
          counted = counted;
          records = sym (ap (λ (b : Book). b.records) book);
          ranges = sym (ap (λ (z : Store). z.ranges) first.own);
          marks = sym (ap (λ (z : Store). z.marks) first.own);
        }
