-- A history is exact where each store holds just the blocks it names. A call that leaves the tree keeps it so where it holds what it held or brought in and
-- did not give up; a call that only moves blocks keeps it so where no name changes. Assumes nothing.
use Prim.Native.Nat.{ℕ, zero, suc, ◌≤◌, ◌<◌, zero-le}
use mathlib.Core.Path.{◌≡◌, sym, ap, subst, ◌∙◌}
use mathlib.Core.Logic.{◌⊎◌, inl, inr, ⊎_elim}
use mathlib.Core.List.{List, [], ◌∷◌}
use native.Mathlib.Omega.{arith}
use Rattle.model.specs.declared.Span.{Span}
use Rattle.model.specs.State.{Tree, State, Range, at, stores_of}
use Rattle.model.specs.Sound.{Sound, Inside}
use Rattle.model.specs.Store.{store_of}
use Rattle.model.specs.Refusals.{SpanIn}
use Rattle.theory_sound.specs.Facts.{All}
use Rattle.theory_sound.specs.StoreSound.{TreeSound, Parts}
use Rattle.theory_calls.proofs.Parts.{sound-parts}
use Rattle.model.specs.Blocks.{Holds, InSpan}
use Rattle.theory_history.specs.Names.{name_of, Named, Stored}
use Rattle.theory_history.specs.History.{Report, silent, History, next}
use Rattle.theory_history.proofs.Names.{same_name}

-- ---- blocks of the tree

pub record Real (t : Tree) (n o : ℕ) : Type 0 where
  pub root : 1 ≤ n
  pub node : n < t.nodes
  pub offset : o < at t.len n

real : (t : Tree) → TreeSound t → (n o : ℕ) → n < t.nodes → o < at t.len n → Real t n o
real t h zero o l m = absurd (omega (arith, h.root.len))
real t h (suc n) o l m = record { root = omega arith; node = l; offset = m }

held_in : (t : Tree) → TreeSound t → (rs : List Range) → All (Inside t) rs → (n o : ℕ) → Holds rs n o → Real t n o
unfolding Holds All
held_in t h [] a n o w = absurd w
held_in t h (r ∷ rs) a n o (inl w) =
    let e = w.node in
    real t h n o (subst (λ k. k < t.nodes) e a.0.in_use) (omega (arith, w.high, subst (λ k. r.end ≤ at t.len k) e a.0.ends))
held_in t h (r ∷ rs) a n o (inr w) = held_in t h rs a.1 n o w

pub real-parts : (st : State) (q : ℕ) → Parts st → q < stores_of st → (n o : ℕ) → Holds (store_of st q).ranges n o → Real st.tree n o
real-parts st q h less = held_in st.tree h.tree (store_of st q).ranges (h.each q zero-le less).ranges.inside

pub real-held : (st : State) (q : ℕ) → Sound st → q < stores_of st → (n o : ℕ) → Holds (store_of st q).ranges n o → Real st.tree n o
real-held st q h less = real-parts st q (sound-parts st h) less

pub real-span : (st : State) (sp : Span) → Sound st → SpanIn st.tree sp → (n o : ℕ) → InSpan sp n o → Real st.tree n o
real-span st sp h s n o i =
    real st.tree (sound-parts st h).tree n o (omega (arith, i.node, s.node)) (rw i.node (omega (arith, i.high, s.ends)))

pub same_block : (st : State) → Sound st → (n o m p : ℕ) → Real st.tree n o → Real st.tree m p → name_of st.tree n o ≡ name_of st.tree m p
    → (n ≡ m) × (o ≡ p)
same_block st h n o m p a b e =
    same_name st.tree (sound-parts st h).tree n o m p a.root a.node a.offset b.root b.node b.offset e

-- ---- exact

pub record Exact (st : State) (h : History) : Type 0 where
  pub only : (q : ℕ) (w : List ℕ) → q < stores_of st → Stored st q w → h q w
  pub all : (q : ℕ) (w : List ℕ) → h q w → (q < stores_of st) × Stored st q w

-- what a call that leaves the tree and reports `rep` does to the blocks of each store
pub record Changes (rep : Report) (a b : State) : Type 0 where
  pub tree : b.tree ≡ a.tree
  pub stores : stores_of b ≡ stores_of a
  pub came : (q n o : ℕ) → q < stores_of a → Holds (store_of b q).ranges n o → Holds (store_of a q).ranges n o ⊎ rep.brought_in q n o
  pub stayed : (q n o : ℕ) → q < stores_of a → Holds (store_of b q).ranges n o → rep.gone q n o → ⊥
  pub kept :
      (q n o : ℕ) → q < stores_of a → Holds (store_of a q).ranges n o ⊎ rep.brought_in q n o → (rep.gone q n o → ⊥) → Holds (store_of b q).ranges n o
  pub in_use : (q n o : ℕ) → rep.brought_in q n o → q < stores_of a
  pub gone_real : (q n o : ℕ) → rep.gone q n o → Real a.tree n o

module _ (rep : Report) (a b : State) (h : History) (s : Sound a) (t : Sound b) (k : Changes rep a b) (e : Exact a h) where
  only_of : (q : ℕ) (w : List ℕ) → q < stores_of b → Stored b q w → next a.tree rep h q w
  only_of q w l x =
      let less : q < stores_of a = rw k.stores at l in
      let n = x.node in
      let o = x.offset in
      let name : name_of a.tree n o ≡ w = subst (λ z. name_of z n o ≡ w) k.tree x.name in
      let there : Real a.tree n o = subst (λ z. Real z n o) k.tree (real-held b q t l n o x.is) in (
        ⊎_elim (λ y. inl (e.only q w less (record { node = n; offset = o; is = y; name = name })))
            (λ y. inr (record { node = n; offset = o; is = y; name = name })) (k.came q n o less x.is),
        λ g.
            let same = same_block a s g.node g.offset n o (k.gone_real q g.node g.offset g.is) there (g.name ∙ sym name) in
            k.stayed q n o less x.is (subst (rep.gone q n) same.1 (subst (λ z. rep.gone q z g.offset) same.0 g.is)),
      )

  back : (q : ℕ) (w : List ℕ) (P : ℕ → ℕ → Type 0) → q < stores_of a → ((n o : ℕ) → P n o → Holds (store_of a q).ranges n o ⊎ rep.brought_in q n o)
      → Named a.tree P w → (Named a.tree (rep.gone q) w → ⊥) → (q < stores_of b) × Stored b q w
  back q w P less f x g = (
    rw k.stores less,
    record {
      node = x.node;
      offset = x.offset;
      is = k.kept q x.node x.offset less (f x.node x.offset x.is)
          (λ y. g (record { node = x.node; offset = x.offset; is = y; name = x.name }));
      name = subst (λ z. name_of z x.node x.offset ≡ w) (sym k.tree) x.name;
    },
  )

  all_of : (q : ℕ) (w : List ℕ) → next a.tree rep h q w → (q < stores_of b) × Stored b q w
  all_of q w (inl x, g) = let y = e.all q w x in back q w (Holds (store_of a q).ranges) y.0 (λ n o z. inl z) y.1 g
  all_of q w (inr x, g) = back q w (rep.brought_in q) (k.in_use q x.node x.offset x.is) (λ n o z. inr z) x g

  pub changes_exact : Exact b (next a.tree rep h)
  changes_exact = record { only = only_of; all = all_of }

-- every store has in b the names that it has in a
pub record Renames (a b : State) : Type 0 where
  pub stores : stores_of b ≡ stores_of a
  pub came : (q : ℕ) (w : List ℕ) → q < stores_of a → Stored b q w → Stored a q w
  pub kept : (q : ℕ) (w : List ℕ) → q < stores_of a → Stored a q w → Stored b q w

pub renames_exact : (a b : State) (h : History) → Renames a b → Exact a h → Exact b (next a.tree silent h)
renames_exact a b h k e =
    record {
      only =
          λ q w l x.
          let less : q < stores_of a = rw k.stores at l in (inl (e.only q w less (k.came q w less x)), λ g. g.is);
      all =
          λ q w x.
          ⊎_elim (λ y. let z = e.all q w y in (rw k.stores z.0, k.kept q w z.0 z.1)) (λ y. absurd y.is) x.0;
    }

-- a call that leaves the state as it was and tells of no block
pub still : (a b : State) (h : History) → b ≡ a → Exact a h → Exact b (next a.tree silent h)
still a b h e =
    renames_exact a b h
    (record {
      stores = ap (λ x. stores_of x) e;
      came = λ q w l x. subst (λ z. Stored z q w) e x;
      kept = λ q w l x. subst (λ z. Stored z q w) (sym e) x;
    })
