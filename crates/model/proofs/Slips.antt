-- The slips that no example shows: a cut's head keeps its id and the tail gets the new one, an unpin leaves everything but the pins alone, expiry
-- doesn't look at pins, the stall count stays at its end and the version wraps.
use Prim.Native.Nat.{ℕ, zero, suc, ◌-◌}
use mathlib.Core.Bool.{true}
use mathlib.Core.List.{List, [], ◌∷◌}
use mathlib.Core.Path.{◌≡◌, refl}
use lib.Dec.{ltb}
use lib.Ieee.{Float}
use Rattle.model.specs.declared.Span.{Span}
use Rattle.model.specs.Sizes.{max_stalls, versions}
use Rattle.model.specs.State.{Tree, State, Range, Pin}
use Rattle.model.specs.Store.{Store, part, with_pins}
use Rattle.model.specs.Trim.{Out, stalls_after, version_after}
use Rattle.model.specs.Pins.{repinned, unpin}
use Rattle.model.specs.Expire.{expire}
use Rattle.model.specs.Insert.{across, beyond, heads, tails, placed, cut_store}
use Rattle.model.specs.Refusals.{first_of, unpin_refusals}
use Rattle.model.specs.Calls.{Outcome, NoList, NoValue, unless, unpin_source}

-- ---- a cut through a held range

one_placed : (m : ℕ) (new : List Range) (r : Range) → ltb r.node m ≡ true → placed m new (r ∷ []) ≡ r ∷ new
unfolding placed
one_placed m new r low = rw (placed, low)

pub cut-across : (j k m next : ℕ) (x : Store) (r : Range) → x.ranges ≡ r ∷ [] → across j k r ≡ true → beyond j k r ≡ true → ltb r.node m ≡ true
    → (cut_store j k m next x).ranges ≡ part r r.node r.start k r.id ∷ part r m 0 (r.end - k) next ∷ []
unfolding cut_store heads tails
cut-across j k m next x r e a b low =
    rw (e, a, b) (one_placed m (part r m 0 (r.end - k) next ∷ []) (part r r.node r.start k r.id) low)

-- ---- unpin

-- the state of an outcome, refused or not, under a view that both states share
unless-same : {A : Type 0} (f : State → A) (n : ℕ) (st : State) (o : Outcome NoList NoValue) → f o.state ≡ f st → f (unless n st tt o).state ≡ f st
unless-same f zero st o e = e
unless-same f (suc n) st o e = refl

pub unpin-keeps-ranges : (st : State) (s : ℕ) (sp : Span) → (unpin_source st s sp).state.ranges ≡ st.ranges
unfolding unpin_source with_pins
unpin-keeps-ranges st s sp = unless-same (λ x. x.ranges) (first_of (unpin_refusals st s sp)) st _ refl

pub unpin-keeps-held : (x : Store) (sp : Span) → (unpin x sp).book.held ≡ x.book.held
unfolding unpin
unpin-keeps-held x sp = refl

-- ---- expiry

pub expire_ignores_pins : (t : Tree) (table : List ℕ) (x : Store) (ps : List Pin) (now seconds : Float)
    → ((expire t table (repinned x ps) now seconds).outs ≡ (expire t table x now seconds).outs)
    × ((expire t table (repinned x ps) now seconds).store.ranges ≡ (expire t table x now seconds).store.ranges)
unfolding expire
expire_ignores_pins t table x ps now seconds = (refl, refl)

-- ---- ends that no run reaches

pub stalls_stay : stalls_after true max_stalls ≡ max_stalls
stalls_stay = refl

pub version_wraps : (o : Out) → version_after (versions - 1) (o ∷ []) ≡ 0
version_wraps o = refl
