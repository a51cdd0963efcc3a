-- The figures of a report, as 02 and the report's form have them: for each a sum over the answers of the accepted steps, told without the list of sums.
-- Assumes nothing.
use Rattle.std.specs.Prelude.{ℕ, zero, suc, ◌+◌, ◌-◌, ◌<◌, ◌≡◌, List, [], ◌∷◌, take, eqb}
use Rattle.model.specs.declared.BringAnswer.{BringAnswer}
use Rattle.model.specs.declared.RemoveAnswer.{RemoveAnswer}
use Rattle.model.specs.declared.ExpireAnswer.{ExpireAnswer}
use Rattle.model.specs.declared.LookupAnswer.{LookupAnswer}
use Rattle.model.specs.Words.{pick}
use Rattle.model.specs.Sizes.{max_stores}
use Rattle.model.specs.State.{at, capacity_of}
use Rattle.model.specs.Lookup.{sums_in}
use Rattle.model.specs.Refusals.{OutList}
use Rattle.model.specs.Calls.{Answer, refused, done, Outcome}
use Rattle.model_sums.specs.Sums.{brought_at, room_at, age_at, back_at, removed_at, bytes_at, dead_at, lookups_at, blocks_at, read_at}
use Rattle.model_sums.specs.Tally.{Summed, summed, tally_insert, tally_expire, tally_remove, tally_lookup}
use Rattle.theory_room.specs.Room.{sum_of}
use Rattle.theory_sums.specs.Steps.{Step, brings, expires, removes, looks, plain, Run, after}

-- seven of each store, three over all
pub record Figures : Type 0 where
  pub brought : ℕ → ℕ
  pub room : ℕ → ℕ
  pub age : ℕ → ℕ
  pub back : ℕ → ℕ
  pub removed : ℕ → ℕ
  pub bytes : ℕ → ℕ
  pub dead : ℕ → ℕ
  pub lookups : ℕ
  pub blocks : ℕ
  pub read : ℕ

abbrev pub nothing : Figures
nothing =
    record {
      brought = λ q. 0;
      room = λ q. 0;
      age = λ q. 0;
      back = λ q. 0;
      removed = λ q. 0;
      bytes = λ q. 0;
      dead = λ q. 0;
      lookups = 0;
      blocks = 0;
      read = 0;
    }

abbrev pub together : Figures → Figures → Figures
together f g =
    record {
      brought = λ q. f.brought q + g.brought q;
      room = λ q. f.room q + g.room q;
      age = λ q. f.age q + g.age q;
      back = λ q. f.back q + g.back q;
      removed = λ q. f.removed q + g.removed q;
      bytes = λ q. f.bytes q + g.bytes q;
      dead = λ q. f.dead q + g.dead q;
      lookups = f.lookups + g.lookups;
      blocks = f.blocks + g.blocks;
      read = f.read + g.read;
    }

-- n, of store s alone
abbrev pub of : ℕ → ℕ → ℕ → ℕ
of s n q = pick (eqb q s) n 0

-- ---- what is given out: the first k spans of an answer list

-- the blocks of each, from its start and its end
abbrev pub blocks_from : List ℕ → List ℕ → List ℕ
blocks_from (a ∷ starts) (z ∷ ends) = (z - a) ∷ blocks_from starts ends
blocks_from (a ∷ starts) [] = []
blocks_from [] ends = ends

abbrev pub given_blocks : ℕ → OutList → ℕ
given_blocks k l = sum_of (blocks_from (take k l.start) (take k l.end))

abbrev pub given_bytes : ℕ → OutList → ℕ
given_bytes k l = sum_of (take k l.bytes)

abbrev pub given_dead : ℕ → OutList → ℕ
given_dead k l = sum_of (take k l.dead)

-- ---- what one accepted call tells

-- "the blocks of a bring-in's gaps; 0 at capacity 0"; "the blocks given out by a bring-in at capacity above 0 .. at capacity 0"; "of every span given out by a
-- bring-in or an expiry, at capacity 0 too"
abbrev pub of_bring : ℕ → ℕ → BringAnswer → OutList → Figures
of_bring capacity s a l =
    record {
      brought = of s a.blocks;
      room = elim capacity [ zero ↦ λ q. 0 | suc c ↦ of s (given_blocks a.outs l) ];
      age = λ q. 0;
      back = elim capacity [ zero ↦ of s (given_blocks a.outs l) | suc c ↦ λ q. 0 ];
      removed = λ q. 0;
      bytes = of s (given_bytes a.outs l);
      dead = of s (given_dead a.outs l);
      lookups = 0;
      blocks = 0;
      read = 0;
    }

abbrev pub of_expire : ℕ → ExpireAnswer → OutList → Figures
of_expire s a l =
    record {
      brought = λ q. 0;
      room = λ q. 0;
      age = of s (given_blocks a.outs l);
      back = λ q. 0;
      removed = λ q. 0;
      bytes = of s (given_bytes a.outs l);
      dead = of s (given_dead a.outs l);
      lookups = 0;
      blocks = 0;
      read = 0;
    }

-- "the blocks that a removal took"
abbrev pub of_remove : ℕ → RemoveAnswer → Figures
of_remove s a =
    record {
      brought = λ q. 0;
      room = λ q. 0;
      age = λ q. 0;
      back = λ q. 0;
      removed = of s a.blocks;
      bytes = λ q. 0;
      dead = λ q. 0;
      lookups = 0;
      blocks = 0;
      read = 0;
    }

-- "lookups; the blocks and bytes of all their tiers"
abbrev pub of_lookup : LookupAnswer → Figures
of_lookup a =
    record {
      brought = λ q. 0;
      room = λ q. 0;
      age = λ q. 0;
      back = λ q. 0;
      removed = λ q. 0;
      bytes = λ q. 0;
      dead = λ q. 0;
      lookups = 1;
      blocks = sum_of (sums_in a.blocks);
      read = sum_of (sums_in a.bytes);
    }

-- a refused call tells nothing
abbrev pub figures_if : {A : Type 0} → Answer A → (A → Figures) → Figures
figures_if (refused n) f = nothing
figures_if (done a) f = f a

-- ---- of a step, and of steps

abbrev pub tells : {L A : Type 0} → Outcome (Summed L) A → (A → L → Figures) → Figures
tells o f = figures_if o.answer (λ a. f a o.lists.lists)

abbrev pub told : Step → Run → Figures
told (brings l s sp time write) r = tells (tally_insert r.state (summed l r.sums) s sp time write) (of_bring (capacity_of r.state s) s)
told (expires l s now seconds) r = tells (tally_expire r.state (summed l r.sums) s now seconds) (of_expire s)
told (removes l s sp) r = tells (tally_remove r.state (summed l r.sums) s sp) (λ a l. of_remove s a)
told (looks l ts hs) r = tells (tally_lookup r.state (summed l r.sums) ts hs) (λ a l. of_lookup a)
told (plain c u) r = nothing

unfoldable pub figures : Run → List Step → Figures
figures r [] = nothing
figures r (c ∷ cs) = together (told c r) (figures (after c r) cs)

-- ---- the list of sums w has these figures more than v, each at its place

pub record Grew (v w : List ℕ) (f : Figures) : Type 0 where
  pub brought : (q : ℕ) → q < max_stores → at w (brought_at q) ≡ at v (brought_at q) + f.brought q
  pub room : (q : ℕ) → q < max_stores → at w (room_at q) ≡ at v (room_at q) + f.room q
  pub age : (q : ℕ) → q < max_stores → at w (age_at q) ≡ at v (age_at q) + f.age q
  pub back : (q : ℕ) → q < max_stores → at w (back_at q) ≡ at v (back_at q) + f.back q
  pub removed : (q : ℕ) → q < max_stores → at w (removed_at q) ≡ at v (removed_at q) + f.removed q
  pub bytes : (q : ℕ) → q < max_stores → at w (bytes_at q) ≡ at v (bytes_at q) + f.bytes q
  pub dead : (q : ℕ) → q < max_stores → at w (dead_at q) ≡ at v (dead_at q) + f.dead q
  pub lookups : at w lookups_at ≡ at v lookups_at + f.lookups
  pub blocks : at w blocks_at ≡ at v blocks_at + f.blocks
  pub read : at w read_at ≡ at v read_at + f.read
