-- Request P1: the running sums, in one lent list of 59 places, and what each accepted call adds to them: its answer says it all, beside the store and
-- whether that has a capacity. Assumes nothing.
use Rattle.std.specs.Prelude.{ℕ, zero, suc, ◌+◌, ◌-◌, ◌*◌, ◌<◌, Bool, false, ◌||◌, ◌⊎◌, List, [], ◌∷◌, set, replicate, ltb}
use Rattle.model.specs.declared.EachTier.{EachTier}
use Rattle.model.specs.declared.BringAnswer.{BringAnswer}
use Rattle.model.specs.declared.RemoveAnswer.{RemoveAnswer}
use Rattle.model.specs.declared.ExpireAnswer.{ExpireAnswer}
use Rattle.model.specs.declared.LookupAnswer.{LookupAnswer}
use Rattle.model.specs.Words.{sum_to}
use Rattle.model.specs.Sizes.{max_stores}
use Rattle.model.specs.State.{at}
use Rattle.model.specs.Refusals.{OutList}
use Rattle.model.specs.Calls.{Outcome, Answer, refused, done, LookupLists}

-- ---- the places: seven figures of each store, then three over all

-- the place of figure f of store s
abbrev pub place_of : ℕ → ℕ → ℕ
place_of f s = max_stores * f + s

-- "blocks brought in, given out for room, given out by age, given back for capacity 0, removed"
abbrev pub brought_at : ℕ → ℕ
brought_at s = place_of 0 s

abbrev pub room_at : ℕ → ℕ
room_at s = place_of 1 s

abbrev pub age_at : ℕ → ℕ
age_at s = place_of 2 s

abbrev pub back_at : ℕ → ℕ
back_at s = place_of 3 s

abbrev pub removed_at : ℕ → ℕ
removed_at s = place_of 4 s

-- "bytes given out and dead bytes"
abbrev pub bytes_at : ℕ → ℕ
bytes_at s = place_of 5 s

abbrev pub dead_at : ℕ → ℕ
dead_at s = place_of 6 s

-- "over all, lookups, their blocks and bytes"
abbrev pub lookups_at : ℕ
lookups_at = place_of 7 0

abbrev pub blocks_at : ℕ
blocks_at = place_of 7 1

abbrev pub read_at : ℕ
read_at = place_of 7 2

abbrev pub sum_places : ℕ
sum_places = place_of 7 3

-- as they are at set-up
abbrev pub no_sums : List ℕ
no_sums = replicate sum_places 0

-- ---- adding

-- so much more at a place
pub record More : Type 0 where
  pub place : ℕ
  pub amount : ℕ

abbrev pub more : ℕ → ℕ → More
more p n = record { place = p; amount = n }

unfoldable pub add : List More → List ℕ → List ℕ
add [] v = v
add (m ∷ ms) v = add ms (set v m.place (at v m.place + m.amount))

-- "a running sum would pass 2^63 - 1": one of those added to, also by nothing
abbrev pub max_sum : ℕ
max_sum = 9223372036854775807

unfoldable pub Passes : List More → List ℕ → Type 0
Passes [] v = ⊥
Passes (m ∷ ms) v = (max_sum < at v m.place + m.amount) ⊎ Passes ms v

unfoldable pub passes : List More → List ℕ → Bool
passes [] v = false
passes (m ∷ ms) v = ltb max_sum (at v m.place + m.amount) || passes ms v

-- ---- what is read of an answer

-- the sum of the first n numbers of a column
abbrev pub listed_sum : ℕ → List ℕ → ℕ
listed_sum n l = sum_to (at l) n

-- the blocks of the first n given-out spans
abbrev pub listed_blocks : ℕ → OutList → ℕ
listed_blocks n l = sum_to (λ i. at l.end i - at l.start i) n

-- of all tiers
abbrev pub all_tiers : EachTier → ℕ
all_tiers t = t.first + t.second + t.third + t.fourth + t.fifth + t.sixth + t.seventh + t.eighth

-- ---- what each accepted call adds

-- where a bring-in's given-out blocks count, by the store's capacity: given back for capacity 0, else given out for room
abbrev pub gave_at : ℕ → ℕ → ℕ
gave_at zero s = back_at s
gave_at (suc c) s = room_at s

abbrev pub add_bring : ℕ → ℕ → BringAnswer → OutList → List More
add_bring capacity s a l =
    more (brought_at s) a.blocks
    ∷ more (gave_at capacity s) (listed_blocks a.outs l)
    ∷ more (bytes_at s) (listed_sum a.outs l.bytes)
    ∷ more (dead_at s) (listed_sum a.outs l.dead)
    ∷ []

abbrev pub add_expire : ℕ → ExpireAnswer → OutList → List More
add_expire s a l =
    more (age_at s) (listed_blocks a.outs l)
    ∷ more (bytes_at s) (listed_sum a.outs l.bytes)
    ∷ more (dead_at s) (listed_sum a.outs l.dead)
    ∷ []

-- a removal answers no bytes and adds none
abbrev pub add_remove : ℕ → RemoveAnswer → List More
add_remove s a = more (removed_at s) a.blocks ∷ []

abbrev pub add_lookup : LookupAnswer → List More
add_lookup a = more lookups_at 1 ∷ more blocks_at (all_tiers a.blocks) ∷ more read_at (all_tiers a.bytes) ∷ []

-- a refused call adds nothing
abbrev pub more_if : {A : Type 0} → Answer A → (A → List More) → List More
more_if (refused n) f = []
more_if (done a) f = f a

abbrev pub by_bring : ℕ → ℕ → Outcome OutList BringAnswer → List More
by_bring capacity s o = more_if o.answer (λ a. add_bring capacity s a o.lists)

abbrev pub by_expire : ℕ → Outcome OutList ExpireAnswer → List More
by_expire s o = more_if o.answer (λ a. add_expire s a o.lists)

abbrev pub by_remove : ℕ → Outcome (List ℕ) RemoveAnswer → List More
by_remove s o = more_if o.answer (add_remove s)

abbrev pub by_lookup : Outcome LookupLists LookupAnswer → List More
by_lookup o = more_if o.answer add_lookup
