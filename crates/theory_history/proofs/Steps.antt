-- Each public call keeps the history exact: a refused one and one that only reads leave all as it was; the others by what they do to the blocks of their
-- store, and an insert by what it does to names. Assumes nothing.
use Prim.Native.Nat.{ℕ, zero, suc, ◌+◌, ◌*◌, ◌≤◌, ◌<◌}
use mathlib.Core.Bool.{Bool}
use mathlib.Core.Path.{◌≡◌, refl, sym, ap, subst, ◌∙◌}
use mathlib.Core.Logic.{◌⊎◌, inl, inr, ⊎_elim, ◌≢◌}
use mathlib.Core.List.{List, [], ◌∷◌}
use native.Mathlib.Omega.{arith}
use native.Mathlib.Decide.{ℕ_discrete}
use lib.ListN.{length}
use lib.Ieee.{Float}
use Rattle.model.specs.declared.Span.{Span}
use Rattle.model.specs.declared.Book.{Book}
use Rattle.model.specs.declared.BringAnswer.{BringAnswer}
use Rattle.model.specs.declared.TouchAnswer.{TouchAnswer}
use Rattle.model.specs.declared.RemoveAnswer.{RemoveAnswer}
use Rattle.model.specs.declared.ExpireAnswer.{ExpireAnswer}
use Rattle.model.specs.Sizes.{store_records, max_stamp}
use Rattle.model.specs.State.{State, Range, Pin, stores_of, next_id_of, stalls_of, records_of, stamp_of}
use Rattle.model.specs.Sound.{Sound, Finite}
use Rattle.model.specs.Store.{Store, ranges, store_of, lay_book, lay_next, with_ranges, with_pins, with_next}
use Rattle.model.specs.Bring.{bring_blocks}
use Rattle.model.specs.Remove.{Removed}
use Rattle.model.specs.Expire.{Expired, expire}
use Rattle.model.specs.Pins.{pin_of, add_pin, take_pin, repinned, pin, pin_need, unpin}
use Rattle.model.specs.Refusals.{first_of, OutList, SpanIn, no_span, touched_by, touch_span, turn_refusals, store_insert_refusals, store_used_refusals, store_remove_refusals, store_expire_refusals, pin_refusals, unpin_refusals}
use Rattle.model.specs.Calls as Calls
use Rattle.model.specs.Calls.{Outcome, done, unless, lay_outs, front, brought, bring_in, touch_spans, bytes_touched}
use Rattle.theory_refuse.proofs.Refused.{store_insert-kept, store_used-kept, store_remove-kept, store_expire-kept, pin-kept, unpin-kept}
use Rattle.theory_refuse.proofs.Unless.{unless-none}
use Rattle.theory_lay.proofs.Books.{book-read, book-other}
use Rattle.theory_lay.proofs.Store.{Roomy, sound-roomy, RangesFit, records_length, ranges-read, ranges-other, next-store}
use Rattle.theory_sound.specs.Facts.{All}
use Rattle.theory_sound.specs.StoreSound.{StoreSound}
use Rattle.theory_bring.proofs.Facts.{all_from}
use Rattle.theory_bring.proofs.Expire.{expire-sound, expire_length, expire-steady}
use Rattle.model.specs.Blocks.{Holds, InSpan}
use Rattle.theory_touch.proofs.Touch.{touch-holds, touch_length, touch-sound, touch-steady}
use Rattle.theory_touch.proofs.Remove.{remove-holds, remove_length, remove-sound, remove-steady}
use Rattle.theory_calls.proofs.Changed.{ranges_fit}
use Rattle.theory_calls.proofs.Accepted.{NoneHolds, neither, span_in_lem, is_finite, none_where}
use Rattle.theory_calls.proofs.Stores.{store-sound, removed_by, touch_span-sound, stamp-is}
use Rattle.theory_calls.proofs.Calls.{store_insert-sound, store_remove-sound, store_expire-sound}
use Rattle.theory_room.proofs.After.{Taken, own, others, tree-stays, stores_stay}
use Rattle.theory_room.proofs.Room.{taken}
use Rattle.theory_history.specs.Names.{name_of}
use Rattle.theory_history.specs.History.{Report, silent, by_bring_in, by_removal, by_expiry, History, next}
use Rattle.theory_history.proofs.Blocks.{InOuts}
use Rattle.theory_history.proofs.Exact.{Real, real-held, real-span, Exact, Changes, changes_exact, renames_exact, still}
use Rattle.theory_history.proofs.Stores.{Filled, bring-filled, expire-filled, listed-out, out_listed}

-- ---- accepted or refused

-- what holds of the outcome of an accepted call and of every refusal holds of a call's outcome
pub each_way : {L A : Type 0} (P : Outcome L A → Type 0) (n : ℕ) (st : State) (l : L) (o : Outcome L A) → (n ≡ 0 → P o)
    → ((m : ℕ) → P (unless (suc m) st l o)) → P (unless n st l o)
each_way P zero st l o f g = f refl
each_way P (suc n) st l o f g = g n

-- ---- a store of the state with other ranges

module _ (st : State) (s need next_id stalls : ℕ) (y : Store) (h : Sound st) (less : s < stores_of st) (fit : RangesFit st s need y) where
  laid-own : (store_of (with_next next_id stalls (with_ranges s need y st)) s).ranges ≡ y.ranges
  laid-own = ap (λ x. x.ranges) (next-store next_id stalls (with_ranges s need y st) s ∙ ranges-read st s need y (sound-roomy st s h less) fit)

  laid-other : (q : ℕ) → q ≢ s → q < stores_of st → store_of (with_next next_id stalls (with_ranges s need y st)) q ≡ store_of st q
  laid-other q other l =
      next-store next_id stalls (with_ranges s need y st) q
      ∙ ranges-other st s need y (sound-roomy st s h less) fit q other (sound-roomy st q h l).records

-- ---- a call that changes the ranges of store s alone: it has rs then, `In` was brought in and `Out` given up

record OneStore (rep : Report) (a b : State) (s : ℕ) (rs : List Range) (In Out : ℕ → ℕ → Type 0) : Type 0 where
  less : s < stores_of a
  tree : b.tree ≡ a.tree
  stores : stores_of b ≡ stores_of a
  own : (store_of b s).ranges ≡ rs
  other : (q : ℕ) → q ≢ s → q < stores_of a → store_of b q ≡ store_of a q
  in_of : (q v o : ℕ) → q ≡ s → In v o → rep.brought_in q v o
  of_in : (q v o : ℕ) → rep.brought_in q v o → (q ≡ s) × In v o
  gone_of : (q v o : ℕ) → q ≡ s → Out v o → rep.gone q v o
  of_gone : (q v o : ℕ) → rep.gone q v o → (q ≡ s) × Out v o
  came : (v o : ℕ) → Holds rs v o → Holds (store_of a s).ranges v o ⊎ In v o
  stayed : (v o : ℕ) → Holds rs v o → Out v o → ⊥
  kept : (v o : ℕ) → Holds (store_of a s).ranges v o ⊎ In v o → (Out v o → ⊥) → Holds rs v o
  out_real : (v o : ℕ) → Out v o → Real a.tree v o

module _ {rep : Report} {a b : State} {s : ℕ} {rs : List Range} {In Out : ℕ → ℕ → Type 0} (k : OneStore rep a b s rs In Out) where
  one-came : (q v o : ℕ) → q < stores_of a → Dec (q ≡ s) → Holds (store_of b q).ranges v o → Holds (store_of a q).ranges v o ⊎ rep.brought_in q v o
  one-came q v o less (yes i) = rw (i, k.own) (λ x. ⊎_elim (λ y. inl y) (λ y. inr (k.in_of s v o refl y)) (k.came v o x))
  one-came q v o less (no i) = rw (k.other q i less) (λ x. inl x)

  one-stayed : (q v o : ℕ) → q < stores_of a → Dec (q ≡ s) → Holds (store_of b q).ranges v o → rep.gone q v o → ⊥
  one-stayed q v o less (yes i) = rw (i, k.own) (λ x g. k.stayed v o x (k.of_gone s v o g).1)
  one-stayed q v o less (no i) = λ x g. i (k.of_gone q v o g).0

  one_kept : (q v o : ℕ) → q < stores_of a → Dec (q ≡ s) → Holds (store_of a q).ranges v o ⊎ rep.brought_in q v o → (rep.gone q v o → ⊥)
      → Holds (store_of b q).ranges v o
  one_kept q v o less (yes i) =
      rw (i, k.own)
      (λ x g. k.kept v o (⊎_elim (λ y. inl y) (λ y. inr (k.of_in s v o y).1) x) (λ z. g (k.gone_of s v o refl z)))
  one_kept q v o less (no i) = rw (k.other q i less) (λ x g. ⊎_elim (λ y. y) (λ y. absurd (i (k.of_in q v o y).0)) x)

  one_changes : Changes rep a b
  one_changes =
      record {
        tree = k.tree;
        stores = k.stores;
        came = λ q v o less. one-came q v o less (ℕ_discrete q s);
        stayed = λ q v o less. one-stayed q v o less (ℕ_discrete q s);
        kept = λ q v o less. one_kept q v o less (ℕ_discrete q s);
        in_use = λ q v o x. subst (λ z. z < stores_of a) (sym (k.of_in q v o x).0) k.less;
        gone_real = λ q v o x. k.out_real v o (k.of_gone q v o x).1;
      }

-- ---- bring in

module _ (a : State) (l : OutList) (s : ℕ) (sp : Span) (time : Float) (write : ℕ) (h : History) (sound : Sound a) (exact : Exact a h) where
  abbrev n₀ : ℕ
  n₀ = first_of (store_insert_refusals a l s sp time)

  made : Outcome OutList BringAnswer
  made =
      record {
        state = bring_in a s sp time write;
        lists = lay_outs (brought a s sp time write).outs l;
        answer = done (record { outs = length (brought a s sp time write).outs; blocks = bring_blocks (store_of a s) sp });
      }

  module _ (e : n₀ ≡ 0) where
    done-is : Calls.store_insert a l s sp time write ≡ made
    unfolding Calls.store_insert made
    done-is = unless-none a l made n₀ e

    took : Taken a s sp time
    unfolding Calls.store_insert
    took = taken a l s sp time sound (none_where _ _ _ (store_insert-kept a l s sp time write) e)

    filled : (v o : ℕ) → Filled (store_of a s) sp (brought a s sp time write) v o
    unfolding brought
    filled v o =
        bring-filled a.tree a.bytes (next_id_of a) (store_of a s) sp time write (store-sound a s sound took.store) took.span
        took.finite sound.counts.first_id v o

    one-brought :
        OneStore (by_bring_in s sp made) a (bring_in a s sp time write) s (brought a s sp time write).store.ranges (InSpan sp)
        (InOuts (brought a s sp time write).outs)
    unfolding made
    one-brought =
        record {
          less = took.store;
          tree = tree-stays a s sp time write took;
          stores = stores_stay a s sp time write took;
          own = own a s sp time write took;
          other = others a s sp time write took;
          in_of = λ q v o x y. (x, record { node = y.node; low = omega (arith, y.low); high = omega (arith, y.high) });
          of_in = λ q v o x. (x.0, record { node = x.1.node; low = omega (arith, x.1.low); high = omega (arith, x.1.high) });
          gone_of = λ q v o x y. (x, out_listed (brought a s sp time write).outs l v o y);
          of_gone = λ q v o x. (x.0, listed-out (brought a s sp time write).outs l v o x.1);
          came = λ v o. (filled v o).came;
          stayed = λ v o. (filled v o).stayed;
          kept = λ v o. (filled v o).kept;
          out_real =
              λ v o x.
              ⊎_elim (λ y. real-held a s sound took.store v o y) (λ y. real-span a sp sound took.span v o y) ((filled v o).was x);
        }

    insert-accepted : Exact made.state (next a.tree (by_bring_in s sp made) h)
    unfolding made
    insert-accepted =
        changes_exact (by_bring_in s sp made) a (bring_in a s sp time write) h sound
        (subst (λ (r : Outcome OutList BringAnswer). Sound r.state) done-is (store_insert-sound a l s sp time write sound)) (one_changes one-brought) exact

  pub store_insert_exact : Exact (Calls.store_insert a l s sp time write).state (next a.tree (by_bring_in s sp (Calls.store_insert a l s sp time write)) h)
  unfolding Calls.store_insert made
  store_insert_exact =
      each_way (λ (r : Outcome OutList BringAnswer). Exact r.state (next a.tree (by_bring_in s sp r) h)) n₀ a l made insert-accepted
      (λ m. still a a h refl exact)

-- ---- remove

module _ (a : State) (l : List ℕ) (s : ℕ) (sp : Span) (h : History) (sound : Sound a) (exact : Exact a h) where
  abbrev r₀ : ℕ
  r₀ = first_of (store_remove_refusals a l s sp)

  w : Removed
  w = removed_by a s sp

  removed : State
  removed = with_next (next_id_of a + w.need) (stalls_of a) (with_ranges s w.need w.store a)

  unmade : Outcome (List ℕ) RemoveAnswer
  unmade = record { state = removed; lists = front w.writes l; answer = done (record { writes = length w.writes; blocks = w.blocks }) }

  -- what an accepted removal asks of the state
  removable : NoneHolds (store_remove_refusals a l s sp)
      → (s < stores_of a) × (SpanIn a.tree sp × (records_of a s + w.need ≤ store_records))
  unfolding w
  removable (unsound, (short, (no_store, (bad_span, (few_records, (late, end)))))) = (omega arith, (span_in_lem a.tree sp bad_span, omega arith))

  module _ (e : r₀ ≡ 0) where
    gone-is : Calls.store_remove a l s sp ≡ unmade
    unfolding Calls.store_remove unmade removed w
    gone-is = unless-none a l unmade r₀ e

    asks : (s < stores_of a) × (SpanIn a.tree sp × (records_of a s + w.need ≤ store_records))
    unfolding Calls.store_remove
    asks = removable (none_where _ _ _ (store_remove-kept a l s sp) e)

    abbrev here : s < stores_of a
    here = asks.0

    abbrev inside : SpanIn a.tree sp
    inside = asks.1.0

    own-sound : StoreSound a.tree (next_id_of a) (store_of a s)
    own-sound = store-sound a s sound here

    first-id : 1 ≤ next_id_of a
    first-id = sound.counts.first_id

    fit_removed : RangesFit a s w.need w.store
    unfolding w
    fit_removed =
        ranges_fit a s w.need (next_id_of a + w.need) w.store (remove-steady (store_of a s) (next_id_of a) sp)
        (omega (arith, remove_length (store_of a s) (next_id_of a) sp own-sound inside first-id, records_length a s)) asks.1.1
        (remove-sound (store_of a s) (next_id_of a) sp own-sound inside first-id (omega (arith, asks.1.1, records_length a s)))

    holds-removed : (v o : ℕ) → (Holds w.store.ranges v o → Holds (store_of a s).ranges v o × (InSpan sp v o → ⊥))
        × (Holds (store_of a s).ranges v o × (InSpan sp v o → ⊥) → Holds w.store.ranges v o)
    unfolding w
    holds-removed v o = remove-holds (store_of a s) (next_id_of a) sp own-sound inside first-id v o

    one-removed : OneStore (by_removal s sp unmade) a removed s w.store.ranges (λ v o. ⊥) (InSpan sp)
    unfolding unmade removed with_next with_ranges lay_next lay_book
    one-removed =
        record {
          less = here;
          tree = refl;
          stores = refl;
          own = laid-own a s w.need (next_id_of a + w.need) (stalls_of a) w.store sound here fit_removed;
          other = laid-other a s w.need (next_id_of a + w.need) (stalls_of a) w.store sound here fit_removed;
          in_of = λ q v o x y. y;
          of_in = λ q v o x. absurd x;
          gone_of = λ q v o x y. (x, y);
          of_gone = λ q v o x. x;
          came = λ v o x. inl ((holds-removed v o).0 x).0;
          stayed = λ v o x. ((holds-removed v o).0 x).1;
          kept = λ v o x g. (holds-removed v o).1 (⊎_elim (λ y. y) (λ y. absurd y) x, g);
          out_real = λ v o x. real-span a sp sound inside v o x;
        }

    remove-accepted : Exact unmade.state (next a.tree (by_removal s sp unmade) h)
    unfolding unmade
    remove-accepted =
        changes_exact (by_removal s sp unmade) a removed h sound
        (subst (λ (z : Outcome (List ℕ) RemoveAnswer). Sound z.state) gone-is (store_remove-sound a l s sp sound)) (one_changes one-removed) exact

  pub store_remove_exact : Exact (Calls.store_remove a l s sp).state (next a.tree (by_removal s sp (Calls.store_remove a l s sp)) h)
  unfolding Calls.store_remove unmade removed w
  store_remove_exact =
      each_way (λ (z : Outcome (List ℕ) RemoveAnswer). Exact z.state (next a.tree (by_removal s sp z) h)) r₀ a l unmade remove-accepted
      (λ m. still a a h refl exact)

-- ---- expire

module _ (a : State) (l : OutList) (s : ℕ) (now seconds : Float) (h : History) (sound : Sound a) (exact : Exact a h) where
  abbrev x₀ : ℕ
  x₀ = first_of (store_expire_refusals a l s now seconds)

  aged : Expired
  aged = expire a.tree a.bytes (store_of a s) now seconds

  expired : State
  expired = with_ranges s 0 aged.store a

  outlived : Outcome OutList ExpireAnswer
  outlived = record { state = expired; lists = lay_outs aged.outs l; answer = done (record { outs = length aged.outs }) }

  expirable : NoneHolds (store_expire_refusals a l s now seconds) → s < stores_of a
  expirable (unsound, (short, (no_store, (bad_times, end)))) = omega arith

  module _ (e : x₀ ≡ 0) where
    aged-is : Calls.store_expire a l s now seconds ≡ outlived
    unfolding Calls.store_expire outlived expired aged
    aged-is = unless-none a l outlived x₀ e

    used : s < stores_of a
    unfolding Calls.store_expire
    used = expirable (none_where _ _ _ (store_expire-kept a l s now seconds) e)

    store_is : StoreSound a.tree (next_id_of a) (store_of a s)
    store_is = store-sound a s sound used

    fit_expired : RangesFit a s 0 aged.store
    unfolding aged
    fit_expired =
        ranges_fit a s 0 (next_id_of a) aged.store (expire-steady a.tree a.bytes (store_of a s) now seconds)
        (omega (arith, expire_length a.tree a.bytes (store_of a s) now seconds, records_length a s))
        (omega (arith, store_is.few, records_length a s)) (expire-sound a.tree a.bytes (store_of a s) now seconds (next_id_of a) store_is)

    -- what is left and what was given out, as of any ranges and outs
    split-here : (v o : ℕ)
        → (Holds aged.store.ranges v o → Holds (store_of a s).ranges v o) × ((Holds aged.store.ranges v o → InOuts aged.outs v o → ⊥)
        × ((Holds (store_of a s).ranges v o → (InOuts aged.outs v o → ⊥) → Holds aged.store.ranges v o)
        × (InOuts aged.outs v o → Holds (store_of a s).ranges v o)))
    unfolding aged expire
    split-here v o =
        let k = expire-filled a.tree a.bytes (next_id_of a) (store_of a s) now seconds store_is v o in
        (k.was, (k.apart, (λ y g. ⊎_elim (λ z. z) (λ z. absurd (g z)) (k.held y), k.out)))

    one-expired : OneStore (by_expiry s outlived) a expired s aged.store.ranges (λ v o. ⊥) (InOuts aged.outs)
    unfolding outlived expired with_ranges lay_book
    one-expired =
        record {
          less = used;
          tree = refl;
          stores = refl;
          own = ap (λ (y : Store). y.ranges) (ranges-read a s 0 aged.store (sound-roomy a s sound used) fit_expired);
          other = λ q i less. ranges-other a s 0 aged.store (sound-roomy a s sound used) fit_expired q i (sound-roomy a q sound less).records;
          in_of = λ q v o y z. z;
          of_in = λ q v o y. absurd y;
          gone_of = λ q v o y z. (y, out_listed aged.outs l v o z);
          of_gone = λ q v o y. (y.0, listed-out aged.outs l v o y.1);
          came = λ v o y. inl ((split-here v o).0 y);
          stayed = λ v o. (split-here v o).1.0;
          kept = λ v o y. (split-here v o).1.1.0 (⊎_elim (λ z. z) (λ z. absurd z) y);
          out_real = λ v o y. real-held a s sound used v o ((split-here v o).1.1.1 y);
        }

    expire-accepted : Exact outlived.state (next a.tree (by_expiry s outlived) h)
    unfolding outlived
    expire-accepted =
        changes_exact (by_expiry s outlived) a expired h sound
        (subst (λ (z : Outcome OutList ExpireAnswer). Sound z.state) aged-is (store_expire-sound a l s now seconds sound)) (one_changes one-expired) exact

  pub store_expire_exact : Exact (Calls.store_expire a l s now seconds).state (next a.tree (by_expiry s (Calls.store_expire a l s now seconds)) h)
  unfolding Calls.store_expire outlived expired aged
  store_expire_exact =
      each_way (λ (z : Outcome OutList ExpireAnswer). Exact z.state (next a.tree (by_expiry s z) h)) x₀ a l outlived expire-accepted
      (λ m. still a a h refl exact)

-- ---- touch: every store holds what it held

-- every store of b holds what it holds in a
record SameBlocks (a b : State) : Type 0 where
  tree : b.tree ≡ a.tree
  stores : stores_of b ≡ stores_of a
  came : (q n o : ℕ) → q < stores_of a → Holds (store_of b q).ranges n o → Holds (store_of a q).ranges n o
  kept : (q n o : ℕ) → q < stores_of a → Holds (store_of a q).ranges n o → Holds (store_of b q).ranges n o

same_then : {a b c : State} → SameBlocks a b → SameBlocks b c → SameBlocks a c
same_then {a} {b} {c} f g =
    record {
      tree = g.tree ∙ f.tree;
      stores = g.stores ∙ f.stores;
      came = λ q n o l y. f.came q n o l (g.came q n o (rw f.stores l) y);
      kept = λ q n o l y. g.kept q n o (rw f.stores l) (f.kept q n o l y);
    }

same_blocks : (a b : State) (h : History) → SameBlocks a b → Exact a h → Exact b (next a.tree silent h)
same_blocks a b h k =
    renames_exact a b h
    (record {
      stores = k.stores;
      came =
          λ q w l y.
          record {
            node = y.node;
            offset = y.offset;
            is = k.came q y.node y.offset l y.is;
            name = subst (λ t. name_of t y.node y.offset ≡ w) k.tree y.name;
          };
      kept =
          λ q w l y.
          record {
            node = y.node;
            offset = y.offset;
            is = k.kept q y.node y.offset l y.is;
            name = subst (λ t. name_of t y.node y.offset ≡ w) (sym k.tree) y.name;
          };
    })

touch-tree : (st : State) (s : ℕ) (sp : Span) (time : Float) (counted : Bool) → (touch_span st s sp time counted).tree ≡ st.tree
unfolding touch_span
touch-tree st s sp time counted = refl

touch-stores : (st : State) (s : ℕ) (sp : Span) (time : Float) (counted : Bool) → stores_of (touch_span st s sp time counted) ≡ stores_of st
unfolding touch_span
touch-stores st s sp time counted = refl

-- one span of a touch
module _ (st : State) (s : ℕ) (sp : Span) (time : Float) (counted : Bool) (h : Sound st) (less : s < stores_of st) (inside : SpanIn st.tree sp)
    (finite : Finite time) (room : records_of st s + (touched_by st s sp time counted).need ≤ store_records)
    (top : stamp_of st s + (touched_by st s sp time counted).stamps ≤ max_stamp) where
  abbrev y : Store
  y = (touched_by st s sp time counted).store

  touched-store : StoreSound st.tree (next_id_of st) (store_of st s)
  touched-store = store-sound st s h less

  fit_touched : RangesFit st s (touched_by st s sp time counted).need y
  fit_touched =
      let x = store_of st s in
      let first = h.counts.first_id in
      let need = (touched_by st s sp time counted).need in
      ranges_fit st s need (next_id_of st + need) y (touch-steady st.tree st.bytes x (next_id_of st) sp time counted)
      (omega (arith, touch_length st.tree st.bytes x (next_id_of st) sp time counted touched-store inside finite first, records_length st s)) room
      (touch-sound st.tree st.bytes x (next_id_of st) sp time counted touched-store inside finite first (omega (arith, records_length st s))
      (omega (arith, stamp-is st s)))

  holds-touched : (n o : ℕ) → (Holds y.ranges n o → Holds (store_of st s).ranges n o) × (Holds (store_of st s).ranges n o → Holds y.ranges n o)
  holds-touched n o =
      touch-holds st.tree st.bytes (store_of st s) (next_id_of st) sp time counted touched-store inside finite h.counts.first_id n o

  next-id : ℕ
  next-id = next_id_of st + (touched_by st s sp time counted).need

  touched-own : (store_of (touch_span st s sp time counted) s).ranges ≡ y.ranges
  unfolding touch_span next-id
  touched-own = laid-own st s (touched_by st s sp time counted).need next-id (stalls_of st) y h less fit_touched

  touched-other : (q : ℕ) → q ≢ s → q < stores_of st → store_of (touch_span st s sp time counted) q ≡ store_of st q
  unfolding touch_span next-id
  touched-other = laid-other st s (touched_by st s sp time counted).need next-id (stalls_of st) y h less fit_touched

  touched-came : (q n o : ℕ) → q < stores_of st → Dec (q ≡ s) → Holds (store_of (touch_span st s sp time counted) q).ranges n o
      → Holds (store_of st q).ranges n o
  touched-came q n o l (yes i) = rw (i, touched-own) (holds-touched n o).0
  touched-came q n o l (no i) = rw (touched-other q i l) (λ z. z)

  touched-kept : (q n o : ℕ) → q < stores_of st → Dec (q ≡ s) → Holds (store_of st q).ranges n o
      → Holds (store_of (touch_span st s sp time counted) q).ranges n o
  touched-kept q n o l (yes i) = rw (i, touched-own) (holds-touched n o).1
  touched-kept q n o l (no i) = rw (touched-other q i l) (λ z. z)

  touched-same : SameBlocks st (touch_span st s sp time counted)
  touched-same =
      record {
        tree = touch-tree st s sp time counted;
        stores = touch-stores st s sp time counted;
        came = λ q n o l. touched-came q n o l (ℕ_discrete q s);
        kept = λ q n o l. touched-kept q n o l (ℕ_discrete q s);
      }

same_start : (a : State) → SameBlocks a a
same_start a = record { tree = refl; stores = refl; came = λ q n o l z. z; kept = λ q n o l z. z }

same_or : {L A : Type 0} (a b : State) (l l' : L) (v : A) (n : ℕ) → (n ≡ 0 → SameBlocks a b)
    → SameBlocks a (unless n a l (record { state = b; lists = l'; answer = done v })).state
same_or a b l l' v zero k = k refl
same_or a b l l' v (suc n) k = same_start a

spans-same : (st : State) (s : ℕ) (sps : List Span) (time : Float) (counted : Bool) → Sound st → s < stores_of st → All (SpanIn st.tree) sps
    → Finite time → NoneHolds (turn_refusals st s sps time counted) → SameBlocks st (touch_spans st s sps time counted)
unfolding touch_spans All
spans-same st s [] time counted h less inside finite none = same_start st
spans-same st s (sp ∷ sps) time counted h less inside finite none =
    let late = neither none.1.0 in
    let room : records_of st s + (touched_by st s sp time counted).need ≤ store_records = omega (arith, none.0) in
    same_then (touched-same st s sp time counted h less inside.0 finite room late.0)
    (spans-same (touch_span st s sp time counted) s sps time counted
    (touch_span-sound st s h less sp time counted inside.0 finite room late.0 late.1) (rw (touch-stores st s sp time counted) less)
    (subst (λ t. All (SpanIn t) sps) (sym (touch-tree st s sp time counted)) inside.1) finite none.1.1)

module _ (a : State) (s : ℕ) (sps : List Span) (time : Float) (counted : Bool) (h : History) (sound : Sound a) (exact : Exact a h) where
  abbrev u₀ : ℕ
  u₀ = first_of (store_used_refusals a s sps time counted)

  spans-of : NoneHolds (store_used_refusals a s sps time counted) → SameBlocks a (touch_spans a s sps time counted)
  spans-of (unsound, (no_store, (many, (bad_spans, (bad_time, turns))))) =
      spans-same a s sps time counted sound (omega arith)
      (all_from (SpanIn a.tree) no_span sps (λ i l. span_in_lem a.tree _ (λ bad. bad_spans (i, l, bad)))) (is_finite time bad_time) turns

  used-same : SameBlocks a (Calls.store_used a s sps time counted).state
  unfolding Calls.store_used
  used-same =
      let told : TouchAnswer = record { bytes = bytes_touched a s sps time counted } in
      same_or a (touch_spans a s sps time counted) _ _ told u₀
      (λ e. spans-of (none_where _ _ _ (store_used-kept a s sps time counted) e))

  pub store_used_exact : Exact (Calls.store_used a s sps time counted).state (next a.tree silent h)
  store_used_exact = same_blocks a (Calls.store_used a s sps time counted).state h used-same exact

-- ---- pins: no range moves

module _ (a : State) (s need : ℕ) (x : Store) (sound : Sound a) (less : s < stores_of a) (same : x.book.records ≡ records_of a s) where
  pins-records : (q : ℕ) → records_of (with_pins s need x a) q ≡ records_of a q
  unfolding with_pins
  pins-records q = go (ℕ_discrete q s)
    where
      roomy : Roomy a s
      roomy = sound-roomy a s sound less

      go : Dec (q ≡ s) → records_of (with_pins s need x a) q ≡ records_of a q
      go (yes e) = rw e (ap (λ (b : Book). b.records) (book-read s a.books roomy.store roomy.books x.book) ∙ same)
      go (no other) = ap (λ (b : Book). b.records) (book-other s a.books roomy.store roomy.books x.book q other)

  pins-ranges : (q : ℕ) → (store_of (with_pins s need x a) q).ranges ≡ (store_of a q).ranges
  unfolding with_pins store_of
  pins-ranges q = ap (ranges a.ranges (store_records * q)) (pins-records q)

  pins-same : SameBlocks a (with_pins s need x a)
  unfolding with_pins lay_book
  pins-same =
      record {
        tree = refl;
        stores = refl;
        came = λ q n o l z. rw (pins-ranges q) at z;
        kept = λ q n o l z. rw (pins-ranges q) z;
      }

-- the records of a store whose pins alone moved
unmoved-records : (a : State) (s : ℕ) (ps : List Pin) → (repinned (store_of a s) ps).book.records ≡ records_of a s
unfolding store_of
unmoved-records a s ps = refl

module _ (a : State) (s : ℕ) (sp : Span) (h : History) (sound : Sound a) (exact : Exact a h) where
  pin-there : NoneHolds (pin_refusals a s sp) → s < stores_of a
  pin-there (unsound, (no_store, rest)) = omega arith

  unpin-there : NoneHolds (unpin_refusals a s sp) → s < stores_of a
  unpin-there (unsound, (no_store, rest)) = omega arith

  pinned-same : SameBlocks a (Calls.pin_source a s sp).state
  unfolding Calls.pin_source pin
  pinned-same =
      same_or a (with_pins s (pin_need (store_of a s) sp) (pin (store_of a s) sp) a) _ _ _ (first_of (pin_refusals a s sp))
      (λ e. pins-same a s (pin_need (store_of a s) sp) (pin (store_of a s) sp) sound (pin-there (none_where _ _ _ (pin-kept a s sp) e))
      (unmoved-records a s (add_pin (pin_of sp 1) (store_of a s).pins)))

  unpinned_same : SameBlocks a (Calls.unpin_source a s sp).state
  unfolding Calls.unpin_source unpin
  unpinned_same =
      same_or a (with_pins s 0 (unpin (store_of a s) sp) a) _ _ _ (first_of (unpin_refusals a s sp))
      (λ e. pins-same a s 0 (unpin (store_of a s) sp) sound (unpin-there (none_where _ _ _ (unpin-kept a s sp) e))
      (unmoved-records a s (take_pin (pin_of sp 1) (store_of a s).pins)))

  pub pin_exact : Exact (Calls.pin_source a s sp).state (next a.tree silent h)
  pin_exact = same_blocks a (Calls.pin_source a s sp).state h pinned-same exact

  pub unpin_exact : Exact (Calls.unpin_source a s sp).state (next a.tree silent h)
  unpin_exact = same_blocks a (Calls.unpin_source a s sp).state h unpinned_same exact
