-- What each accepted call adds at each place is the figure that its answer tells: places of two figures or of two stores differ. Assumes nothing.
use Prim.Native.Nat.{ℕ, zero, suc, ◌+◌, ◌≤◌, ◌<◌}
use mathlib.Core.Path.{◌≡◌, ap, ◌∙◌}
use mathlib.Core.List.{List, [], ◌∷◌}
use native.Mathlib.Omega.{arith}
use native.Mathlib.Decide.{ℕ_discrete}
use lib.ListN.{length}
use lib.Dec.{eqb}
use borrow.Author.Tests.{eq-eqb, ne_eqb}
use Rattle.model.specs.declared.BringAnswer.{BringAnswer}
use Rattle.model.specs.declared.RemoveAnswer.{RemoveAnswer}
use Rattle.model.specs.declared.ExpireAnswer.{ExpireAnswer}
use Rattle.model.specs.declared.LookupAnswer.{LookupAnswer}
use Rattle.model.specs.Words.{pick}
use Rattle.model.specs.Sizes.{max_stores}
use Rattle.model.specs.State.{at}
use Rattle.model.specs.Lookup.{sums_in}
use Rattle.model.specs.Refusals.{OutList}
use Rattle.model_sums.specs.Sums.{place_of, sum_places, More, more, add, listed_sum, listed_blocks, all_tiers, add_bring, add_expire, add_remove, add_lookup, brought_at, room_at, age_at, back_at, removed_at, bytes_at, dead_at, lookups_at, blocks_at, read_at}
use Rattle.theory_room.specs.Room.{sum_of}
use Rattle.theory_sums.specs.Figures.{Figures, of, given_blocks, given_bytes, given_dead, of_bring, of_expire, of_remove, of_lookup, Grew}
use Rattle.theory_sums.proofs.Places.{amount_at, PlacesIn, Apart, add_at, there, elsewhere}
use Rattle.theory_sums.proofs.Answers.{sum-list, blocks-list, tiers-sum}

-- ---- figure f of store q, where n was added to figure g of store s

placed : (f g q s n : ℕ) → q < max_stores → s < max_stores → pick (eqb (place_of f q) (place_of g s)) n 0 ≡ pick (eqb f g) (of s n q) 0
placed f g q s n l m = go (ℕ_discrete f g) (ℕ_discrete q s)
  where
    go : Dec (f ≡ g) → Dec (q ≡ s) → pick (eqb (place_of f q) (place_of g s)) n 0 ≡ pick (eqb f g) (of s n q) 0
    go (yes e) (yes d) = rw (eq-eqb f g e, eq-eqb q s d) (there (place_of f q) (place_of g s) n (omega arith))
    go (yes e) (no d) = rw (eq-eqb f g e, ne_eqb q s d) (elsewhere (place_of f q) (place_of g s) n (λ z. d (omega arith)))
    go (no e) d = rw (ne_eqb f g e) (elsewhere (place_of f q) (place_of g s) n (λ z. e (omega arith)))

-- all that is added, figure by figure
pub record Amounts (ms : List More) (f : Figures) : Type 0 where
  pub brought : (q : ℕ) → q < max_stores → amount_at (brought_at q) ms ≡ f.brought q
  pub room : (q : ℕ) → q < max_stores → amount_at (room_at q) ms ≡ f.room q
  pub age : (q : ℕ) → q < max_stores → amount_at (age_at q) ms ≡ f.age q
  pub back : (q : ℕ) → q < max_stores → amount_at (back_at q) ms ≡ f.back q
  pub removed : (q : ℕ) → q < max_stores → amount_at (removed_at q) ms ≡ f.removed q
  pub bytes : (q : ℕ) → q < max_stores → amount_at (bytes_at q) ms ≡ f.bytes q
  pub dead : (q : ℕ) → q < max_stores → amount_at (dead_at q) ms ≡ f.dead q
  pub lookups : amount_at lookups_at ms ≡ f.lookups
  pub blocks : amount_at blocks_at ms ≡ f.blocks
  pub read : amount_at read_at ms ≡ f.read

-- what a call adds, and what its answer tells
pub record Adds (ms : List More) (f : Figures) : Type 0 where
  pub inside : PlacesIn ms
  pub apart : Apart ms
  pub amounts : Amounts ms f

pub grown : {ms : List More} {f : Figures} (v : List ℕ) → sum_places ≤ length v → Adds ms f → Grew v (add ms v) f
grown {ms} {f} v long h =
    record {
      brought = λ q l. each (brought_at q) ∙ ap (λ (k : ℕ). at v (brought_at q) + k) (a.brought q l);
      room = λ q l. each (room_at q) ∙ ap (λ (k : ℕ). at v (room_at q) + k) (a.room q l);
      age = λ q l. each (age_at q) ∙ ap (λ (k : ℕ). at v (age_at q) + k) (a.age q l);
      back = λ q l. each (back_at q) ∙ ap (λ (k : ℕ). at v (back_at q) + k) (a.back q l);
      removed = λ q l. each (removed_at q) ∙ ap (λ (k : ℕ). at v (removed_at q) + k) (a.removed q l);
      bytes = λ q l. each (bytes_at q) ∙ ap (λ (k : ℕ). at v (bytes_at q) + k) (a.bytes q l);
      dead = λ q l. each (dead_at q) ∙ ap (λ (k : ℕ). at v (dead_at q) + k) (a.dead q l);
      lookups = each lookups_at ∙ ap (λ (k : ℕ). at v lookups_at + k) a.lookups;
      blocks = each blocks_at ∙ ap (λ (k : ℕ). at v blocks_at + k) a.blocks;
      read = each read_at ∙ ap (λ (k : ℕ). at v read_at + k) a.read;
    }
  where
    a : Amounts ms f
    a = h.amounts

    each : (p : ℕ) → at (add ms v) p ≡ at v p + amount_at p ms
    each p = add_at ms v p long h.inside

-- ---- the four calls

module _ (s : ℕ) (less : s < max_stores) where
  -- ---- given-out spans of store s, from the list as it stands and as the figures have it
  module _ (n : ℕ) (l : OutList) (q : ℕ) where
    blocks-out : of s (listed_blocks n l) q ≡ of s (given_blocks n l) q
    blocks-out = ap (λ (k : ℕ). of s k q) (blocks-list n l)

    bytes-out : of s (listed_sum n l.bytes) q ≡ of s (given_bytes n l) q
    bytes-out = ap (λ (k : ℕ). of s k q) (sum-list n l.bytes)

    dead-out : of s (listed_sum n l.dead) q ≡ of s (given_dead n l) q
    dead-out = ap (λ (k : ℕ). of s k q) (sum-list n l.dead)

  -- ---- a bring-in: by figure g its given-out blocks
  module _ (a : BringAnswer) (l : OutList) where
    bring-at : (g f q : ℕ) → q < max_stores
        → amount_at (place_of f q)
        (more (place_of 0 s) a.blocks
        ∷ more (place_of g s) (listed_blocks a.outs l)
        ∷ more (place_of 5 s) (listed_sum a.outs l.bytes)
        ∷ more (place_of 6 s) (listed_sum a.outs l.dead)
        ∷ [])
        ≡ pick (eqb f 0) (of s a.blocks q) 0
        + (pick (eqb f g) (of s (given_blocks a.outs l) q) 0
        + (pick (eqb f 5) (of s (given_bytes a.outs l) q) 0 + pick (eqb f 6) (of s (given_dead a.outs l) q) 0))
    bring-at g f q m =
        rw (← blocks-out a.outs l q, ← bytes-out a.outs l q, ← dead-out a.outs l q)
        (omega (
          arith,
          placed f 0 q s a.blocks m less,
          placed f g q s (listed_blocks a.outs l) m less,
          placed f 5 q s (listed_sum a.outs l.bytes) m less,
          placed f 6 q s (listed_sum a.outs l.dead) m less,
        ))

    pub bring-adds : (capacity : ℕ) → Adds (add_bring capacity s a l) (of_bring capacity s a l)
    bring-adds zero =
        record {
          inside = omega arith;
          apart = omega arith;
          amounts = record {
            brought = λ q m. omega (arith, bring-at 3 0 q m);
            room = λ q m. omega (arith, bring-at 3 1 q m);
            age = λ q m. omega (arith, bring-at 3 2 q m);
            back = λ q m. omega (arith, bring-at 3 3 q m);
            removed = λ q m. omega (arith, bring-at 3 4 q m);
            bytes = λ q m. omega (arith, bring-at 3 5 q m);
            dead = λ q m. omega (arith, bring-at 3 6 q m);
            lookups = omega (arith, bring-at 3 7 0 (omega arith));
            blocks = omega (arith, bring-at 3 7 1 (omega arith));
            read = omega (arith, bring-at 3 7 2 (omega arith));
          };
        }
    bring-adds (suc c) =
        record {
          inside = omega arith;
          apart = omega arith;
          amounts = record {
            brought = λ q m. omega (arith, bring-at 1 0 q m);
            room = λ q m. omega (arith, bring-at 1 1 q m);
            age = λ q m. omega (arith, bring-at 1 2 q m);
            back = λ q m. omega (arith, bring-at 1 3 q m);
            removed = λ q m. omega (arith, bring-at 1 4 q m);
            bytes = λ q m. omega (arith, bring-at 1 5 q m);
            dead = λ q m. omega (arith, bring-at 1 6 q m);
            lookups = omega (arith, bring-at 1 7 0 (omega arith));
            blocks = omega (arith, bring-at 1 7 1 (omega arith));
            read = omega (arith, bring-at 1 7 2 (omega arith));
          };
        }

  -- ---- an expiry
  module _ (a : ExpireAnswer) (l : OutList) where
    expire-at : (f q : ℕ) → q < max_stores
        → amount_at (place_of f q) (add_expire s a l)
        ≡ pick (eqb f 2) (of s (given_blocks a.outs l) q) 0
        + (pick (eqb f 5) (of s (given_bytes a.outs l) q) 0 + pick (eqb f 6) (of s (given_dead a.outs l) q) 0)
    expire-at f q m =
        rw (← blocks-out a.outs l q, ← bytes-out a.outs l q, ← dead-out a.outs l q)
        (omega (
          arith,
          placed f 2 q s (listed_blocks a.outs l) m less,
          placed f 5 q s (listed_sum a.outs l.bytes) m less,
          placed f 6 q s (listed_sum a.outs l.dead) m less,
        ))

    pub expire-adds : Adds (add_expire s a l) (of_expire s a l)
    expire-adds =
        record {
          inside = omega arith;
          apart = omega arith;
          amounts = record {
            brought = λ q m. omega (arith, expire-at 0 q m);
            room = λ q m. omega (arith, expire-at 1 q m);
            age = λ q m. omega (arith, expire-at 2 q m);
            back = λ q m. omega (arith, expire-at 3 q m);
            removed = λ q m. omega (arith, expire-at 4 q m);
            bytes = λ q m. omega (arith, expire-at 5 q m);
            dead = λ q m. omega (arith, expire-at 6 q m);
            lookups = omega (arith, expire-at 7 0 (omega arith));
            blocks = omega (arith, expire-at 7 1 (omega arith));
            read = omega (arith, expire-at 7 2 (omega arith));
          };
        }

  -- ---- a removal
  remove-at : (a : RemoveAnswer) (f q : ℕ) → q < max_stores → amount_at (place_of f q) (add_remove s a) ≡ pick (eqb f 4) (of s a.blocks q) 0
  remove-at a f q m = omega (arith, placed f 4 q s a.blocks m less)

  pub remove-adds : (a : RemoveAnswer) → Adds (add_remove s a) (of_remove s a)
  remove-adds a =
      record {
        inside = omega arith;
        apart = omega arith;
        amounts = record {
          brought = λ q m. omega (arith, remove-at a 0 q m);
          room = λ q m. omega (arith, remove-at a 1 q m);
          age = λ q m. omega (arith, remove-at a 2 q m);
          back = λ q m. omega (arith, remove-at a 3 q m);
          removed = λ q m. omega (arith, remove-at a 4 q m);
          bytes = λ q m. omega (arith, remove-at a 5 q m);
          dead = λ q m. omega (arith, remove-at a 6 q m);
          lookups = omega (arith, remove-at a 7 0 (omega arith));
          blocks = omega (arith, remove-at a 7 1 (omega arith));
          read = omega (arith, remove-at a 7 2 (omega arith));
        };
      }

-- ---- a lookup: the three places behind the stores'

look_at : (a : LookupAnswer) (f q : ℕ) → q < max_stores
    → amount_at (place_of f q) (add_lookup a)
    ≡ pick (eqb f 7) (of 0 1 q) 0
    + (pick (eqb f 7) (of 1 (sum_of (sums_in a.blocks)) q) 0 + pick (eqb f 7) (of 2 (sum_of (sums_in a.bytes)) q) 0)
look_at a f q m =
    rw (← tiers-sum a.blocks, ← tiers-sum a.bytes)
    (omega (
      arith,
      placed f 7 q 0 1 m (omega arith),
      placed f 7 q 1 (all_tiers a.blocks) m (omega arith),
      placed f 7 q 2 (all_tiers a.bytes) m (omega arith),
    ))

pub look_adds : (a : LookupAnswer) → Adds (add_lookup a) (of_lookup a)
look_adds a =
    record {
      inside = omega arith;
      apart = omega arith;
      amounts = record {
        brought = λ q m. omega (arith, look_at a 0 q m);
        room = λ q m. omega (arith, look_at a 1 q m);
        age = λ q m. omega (arith, look_at a 2 q m);
        back = λ q m. omega (arith, look_at a 3 q m);
        removed = λ q m. omega (arith, look_at a 4 q m);
        bytes = λ q m. omega (arith, look_at a 5 q m);
        dead = λ q m. omega (arith, look_at a 6 q m);
        lookups = omega (arith, look_at a 7 0 (omega arith));
        blocks = omega (arith, look_at a 7 1 (omega arith));
        read = omega (arith, look_at a 7 2 (omega arith));
      };
    }
