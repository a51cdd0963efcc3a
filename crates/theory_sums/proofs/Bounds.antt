-- An accepted call adds at most 2^17 blocks and 2^55 bytes to any sum: it gives out at most 128 spans, each small, and a store holds no more than 128
-- ranges, each inside its node. Assumes nothing.
use Prim.Native.Nat.{ℕ, ◌-◌, ◌≤◌, ◌<◌}
use mathlib.Core.Path.{◌≡◌, sym, ap, subst}
use mathlib.Core.List.{List}
use native.Mathlib.Omega.{arith}
use lib.ListN.{length}
use lib.Ieee.{Float}
use Rattle.model.specs.declared.Span.{Span}
use Rattle.model.specs.declared.Book.{Book}
use Rattle.model.specs.declared.BringAnswer.{BringAnswer}
use Rattle.model.specs.declared.RemoveAnswer.{RemoveAnswer}
use Rattle.model.specs.declared.ExpireAnswer.{ExpireAnswer}
use Rattle.model.specs.declared.LookupAnswer.{LookupAnswer}
use Rattle.model.specs.Sizes.{max_hashes, max_bytes, out_places}
use Rattle.model.specs.State.{State, stores_of, next_id_of}
use Rattle.model.specs.Store.{store_of}
use Rattle.model.specs.Trim.{Out}
use Rattle.model.specs.Refusals.{OutList}
use Rattle.model.specs.Calls.{done, lay_outs, LookupLists, brought, store_insert, store_remove, store_expire, lookup}
use Rattle.model_sums.specs.Sums.{all_tiers}
use Rattle.theory_refuse.proofs.Refused.{store_insert-kept, store_remove-kept, store_expire-kept, lookup-kept}
use Rattle.theory_lay.proofs.Store.{records_length, store-book}
use Rattle.theory_sound.specs.Facts.{All}
use Rattle.theory_bring.proofs.Facts.{all_map}
use Rattle.theory_calls.proofs.Accepted.{unless-done, is-sound, span_in_lem}
use Rattle.theory_calls.proofs.Parts.{sound-parts}
use Rattle.theory_calls.proofs.Stores.{store-sound}
use Rattle.theory_calls.proofs.Fits.{store_insert-fits, store_expire-fits}
use Rattle.theory_calls.proofs.Blocks.{store_remove-blocks}
use Rattle.theory_sums.specs.Bounds.{most_blocks, most_bytes, OutsMost}
use Rattle.theory_sums.proofs.Answers.{sum_laid, blocks-laid}
use Rattle.theory_sums.proofs.Made.{insert-made, expire-made, aged_by, look_made}
use Rattle.theory_sums.proofs.Outs.{Small, over-most, blocks-over, inside-fits, total-most, bring-small, gaps-few, expire-small}
use Rattle.theory_sums.proofs.Looked.{looked-blocks, looked-bytes}

-- small spans, laid in front of a list
laid-most : (os : List Out) (l : OutList) → All Small os → length os ≤ out_places → OutsMost (length os) (lay_outs os l)
laid-most os l small few =
    record {
      spans = few;
      blocks = omega (
        arith,
        blocks-laid os l,
        blocks-over os,
        over-most (λ o. o.end - o.start) max_hashes os (all_map (λ o s. s.blocks) os small),
      );
      bytes = omega (arith, sum_laid (λ o. o.bytes) os l.bytes, over-most (λ o. o.bytes) max_bytes os (all_map (λ o s. s.bytes) os small));
      dead = omega (arith, sum_laid (λ o. o.dead) os l.dead, over-most (λ o. o.dead) max_bytes os (all_map (λ o s. s.dead) os small));
    }

-- the lists that an accepted call leaves
left-most : (os : List Out) (l m : OutList) (n : ℕ) → m ≡ lay_outs os l → length os ≡ n → All Small os → n ≤ out_places → OutsMost n m
left-most os l m n lists long small few =
    subst (λ (x : OutList). OutsMost n x) (sym lists)
    (subst (λ (k : ℕ). OutsMost k (lay_outs os l)) long (laid-most os l small (omega (arith, long))))

module _ (st : State) where
  pub insert-most : (l : OutList) (s : ℕ) (sp : Span) (time : Float) (write : ℕ) (a : BringAnswer) → (store_insert st l s sp time write).answer ≡ done a
      → (a.blocks ≤ most_blocks) × OutsMost a.outs (store_insert st l s sp time write).lists
  unfolding store_insert brought
  insert-most l s sp time write a e =
      let (unsound, (short, (no_store, (bad_span, (bad_time, (few_records, rest)))))) =
      (unless-done _ _ _ (store_insert-kept st l s sp time write) a e).none
      in
      let h = is-sound st unsound in
      let less : s < stores_of st = omega arith in
      let parts = sound-parts st h in
      let own = store-sound st s h less in
      let inside = span_in_lem st.tree sp bad_span in
      let x = store_of st s in
      let (lists, value) = insert-made st l s sp time write a e in (
        omega (
          arith,
          gaps-few st.tree parts.tree st.bytes parts.table x (next_id_of st) own sp inside time write
              (omega (arith, few_records, records_length st s)),
          ap (λ (b : BringAnswer). b.blocks) value,
        ),
        left-most (brought st s sp time write).outs l (store_insert st l s sp time write).lists a.outs lists (ap (λ (b : BringAnswer). b.outs) value)
            (bring-small st.tree parts.tree st.bytes parts.table x (next_id_of st) own sp inside time write)
            (store_insert-fits st l s sp time write a e),
      )

  pub expire-most : (l : OutList) (s : ℕ) (now seconds : Float) (a : ExpireAnswer) → (store_expire st l s now seconds).answer ≡ done a
      → OutsMost a.outs (store_expire st l s now seconds).lists
  unfolding store_expire
  expire-most l s now seconds a e =
      let (unsound, (short, (no_store, rest))) = (unless-done _ _ _ (store_expire-kept st l s now seconds) a e).none in
      let h = is-sound st unsound in
      let less : s < stores_of st = omega arith in
      let parts = sound-parts st h in
      let (lists, value) = expire-made st l s now seconds a e in
      left-most (aged_by st s now seconds).outs l (store_expire st l s now seconds).lists a.outs lists (ap (λ (b : ExpireAnswer). b.outs) value)
      (expire-small st.tree parts.tree st.bytes parts.table now seconds (store_of st s) (store-sound st s h less))
      (store_expire-fits st l s now seconds a e)

  pub remove-most : (l : List ℕ) (s : ℕ) (sp : Span) (a : RemoveAnswer) → (store_remove st l s sp).answer ≡ done a → a.blocks ≤ most_blocks
  unfolding store_remove
  remove-most l s sp a e =
      let (unsound, (short, (no_store, rest))) = (unless-done _ _ _ (store_remove-kept st l s sp) a e).none in
      let h = is-sound st unsound in
      let less : s < stores_of st = omega arith in
      let own = store-sound st s h less in
      let rs = (store_of st s).ranges in
      omega (
        arith,
        store_remove-blocks st l s sp a e,
        total-most st.tree (sound-parts st h).tree rs (inside-fits st.tree (sound-parts st h).tree rs own.ranges.inside),
        own.held,
        own.few,
        ap (λ (b : Book). b.held) (store-book st s),
      )

  pub look_most : (l : LookupLists) (ts hs : List ℕ) (a : LookupAnswer) → (lookup st l ts hs).answer ≡ done a
      → (all_tiers a.blocks ≤ most_blocks) × (all_tiers a.bytes ≤ most_bytes)
  unfolding lookup
  look_most l ts hs a e =
      let (unsound, rest) = (unless-done _ _ _ (lookup-kept st l ts hs) a e).none in
      let h = is-sound st unsound in
      let value = look_made st l ts hs a e in (
        omega (arith, looked-blocks st h ts hs, ap (λ (b : LookupAnswer). all_tiers b.blocks) value),
        omega (arith, looked-bytes st h ts hs, ap (λ (b : LookupAnswer). all_tiers b.bytes) value),
      )
