-- The stores of a state after an accepted bring-in: the one brought into has what `bring` leaves, every other is as it was. Assumes nothing.
use Prim.Native.Nat.{ℕ, zero, suc, ◌+◌, ◌≤◌, ◌<◌}
use mathlib.Core.Path.{◌≡◌, refl, sym, ap, ◌∙◌}
use mathlib.Core.Logic.{◌≢◌}
use mathlib.Core.List.{List}
use native.Mathlib.Omega.{arith}
use lib.Ieee.{Float}
use Rattle.model.specs.declared.Span.{Span}
use Rattle.model.specs.Sizes.{store_records, max_stamp}
use Rattle.model.specs.State.{Tree, State, stores_of, next_id_of, stalls_of, capacity_of, records_of, stamp_of}
use Rattle.model.specs.Sound.{Sound, Finite}
use Rattle.model.specs.Store.{Store, store_of, with_ranges, with_next, lay_book, lay_next}
use Rattle.model.specs.Trim.{stalls_after}
use Rattle.model.specs.Bring.{Brought, give_back, bring, bring_need}
use Rattle.model.specs.Refusals.{SpanIn}
use Rattle.model.specs.Calls.{brought, bring_in}
use Rattle.theory_lay.proofs.Store.{sound-roomy, RangesFit, records_length, ranges-read, ranges-other, next-store}
use Rattle.theory_bring.proofs.Bring.{bring_cases, bring-sound, bring_length, bring-steady}
use Rattle.theory_calls.proofs.Changed.{ranges_fit}
use Rattle.theory_calls.proofs.Stores.{store-sound, stamp-is}

capacity-is : (st : State) (s : ℕ) → (store_of st s).book.capacity ≡ capacity_of st s
unfolding store_of
capacity-is st s = refl

given_back : (t : Tree) (table : List ℕ) (x : Store) (next : ℕ) (sp : Span) (time : Float) (write : ℕ) → x.book.capacity ≡ 0
    → (bring t table x next sp time write).store ≡ x
unfolding give_back
given_back t table x next sp time write e = bring_cases t table next x sp time write (λ k b. b.store ≡ x) (λ z. refl) (λ c. absurd (c e))

-- what an accepted bring-in asks of the state
pub record Taken (st : State) (s : ℕ) (sp : Span) (time : Float) : Type 0 where
  pub sound : Sound st
  pub store : s < stores_of st
  pub span : SpanIn st.tree sp
  pub finite : Finite time
  pub records : records_of st s + bring_need (store_of st s) sp ≤ store_records
  pub stamps : stamp_of st s + bring_need (store_of st s) sp ≤ max_stamp

module _ (st : State) (s : ℕ) (sp : Span) (time : Float) (write : ℕ) (k : Taken st s sp time) where
  w : Brought
  w = brought st s sp time write

  need : ℕ
  need = bring_need (store_of st s) sp

  fit : RangesFit st s need w.store
  unfolding w need brought
  fit =
      let x = store_of st s in
      ranges_fit st s need (next_id_of st + need) w.store (bring-steady st.tree st.bytes (next_id_of st) x sp time write)
      (omega (arith, bring_length st.tree st.bytes (next_id_of st) x sp time write, records_length st s)) k.records
      (bring-sound st.tree st.bytes (next_id_of st) x sp time write (store-sound st s k.sound k.store) k.span k.finite
      k.sound.counts.first_id (omega (arith, k.records, records_length st s)) (omega (arith, k.stamps, stamp-is st s)))

  after : State
  after = with_next (next_id_of st + need) (stalls_after w.stalled (stalls_of st)) (with_ranges s need w.store st)

  after-ranges : (store_of after s).ranges ≡ w.store.ranges
  unfolding after
  after-ranges =
      ap (λ x. x.ranges) (next-store _ _ (with_ranges s need w.store st) s ∙ ranges-read st s need w.store (sound-roomy st s k.sound k.store) fit)

  after-other : (q : ℕ) → q ≢ s → q < stores_of st → store_of after q ≡ store_of st q
  unfolding after
  after-other q other less =
      next-store _ _ (with_ranges s need w.store st) q
      ∙ ranges-other st s need w.store (sound-roomy st s k.sound k.store) fit q other (sound-roomy st q k.sound less).records

  by-capacity : (P : State → Type 0) → ((store_of st s).book.capacity ≡ 0 → P st) → P after → P (bring_in st s sp time write)
  unfolding bring_in after w need
  by-capacity P z m = go (capacity_of st s) (capacity-is st s)
    where
      go : (c : ℕ) → (store_of st s).book.capacity ≡ c → P (elim c [ zero ↦ st | suc d ↦ after ])
      go zero e = z e
      go (suc c) e = m

  pub own : (store_of (bring_in st s sp time write) s).ranges ≡ (brought st s sp time write).store.ranges
  unfolding w brought
  own =
      by-capacity (λ a. (store_of a s).ranges ≡ w.store.ranges)
      (λ e. ap (λ x. x.ranges) (sym (given_back st.tree st.bytes (store_of st s) (next_id_of st) sp time write e))) after-ranges

  pub others : (q : ℕ) → q ≢ s → q < stores_of st → store_of (bring_in st s sp time write) q ≡ store_of st q
  others q other less = by-capacity (λ a. store_of a q ≡ store_of st q) (λ e. refl) (after-other q other less)

  -- the tree and the number of stores stay
  pub tree-stays : (bring_in st s sp time write).tree ≡ st.tree
  unfolding after with_next with_ranges lay_next lay_book
  tree-stays = by-capacity (λ a. a.tree ≡ st.tree) (λ e. refl) refl

  pub stores_stay : stores_of (bring_in st s sp time write) ≡ stores_of st
  unfolding after with_next with_ranges lay_next lay_book
  stores_stay = by-capacity (λ a. stores_of a ≡ stores_of st) (λ e. refl) refl
