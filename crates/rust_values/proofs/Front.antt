-- The spans of three lists are read one by one into the front of an array of 64, and a touch of more is refused by 2 or 3. Assumes nothing.
use Prim.Native.Nat.{ℕ, zero, suc, ◌+◌, ◌≤◌, ◌<◌, min}
use mathlib.Core.Bool.{Bool, true, false}
use mathlib.Core.List.{List, [], ◌∷◌, ◌++◌}
use mathlib.Core.Logic.{inl, inr, ⊎_elim}
use mathlib.Core.Path.{◌≡◌, refl, sym, ap, ◌∙◌}
use native.Mathlib.Omega.{arith}
use lib.ListN.{length, take, set, get_or, length-set}
use lib.Seq.{take_all, take-suc, take-suc-set}
use lib.Dec.{leb}
use lib.Ieee.{Float}
use borrow.Author.Tests.{leb-true, leb-false}
use Rattle.model.specs.declared.Span.{Span}
use Rattle.model.specs.declared.TouchAnswer.{TouchAnswer}
use Rattle.model.specs.State.{State, at, stores_of}
use Rattle.model.specs.Sound.{Sound}
use Rattle.model.specs.Refusals.{First, no_span, store_used_refusals}
use Rattle.model.specs.Calls.{NoList, refused, touch_spans, bytes_touched, store_used}
use Rattle.theory_refuse.proofs.Refusals.{first-is, store_used_exact}
use Rattle.theory_refuse.proofs.Says.{le_or_lt}
use Rattle.shape_answer.specs.Answers.{outcome}
use Rattle.rust_values.specs.Spans.{span, spans_of, too_many}

-- ---- the spans of three lists

pub spans_length : (on from upto : List ℕ) → length (spans_of on from upto) ≡ min (length on) (min (length from) (length upto))
unfolding spans_of
spans_length [] from upto = omega arith
spans_length (n ∷ on) [] upto = omega arith
spans_length (n ∷ on) (a ∷ from) [] = omega arith
spans_length (n ∷ on) (a ∷ from) (z ∷ upto) = omega (arith, spans_length on from upto)

pub spans-at : (on from upto : List ℕ) (i : ℕ) → i < length (spans_of on from upto)
    → get_or (spans_of on from upto) i no_span ≡ span (at on i) (at from i) (at upto i)
unfolding spans_of
spans-at [] from upto i l = absurd (omega arith)
spans-at (n ∷ on) [] upto i l = absurd (omega arith)
spans-at (n ∷ on) (a ∷ from) [] i l = absurd (omega arith)
spans-at (n ∷ on) (a ∷ from) (z ∷ upto) zero l = refl
spans-at (n ∷ on) (a ∷ from) (z ∷ upto) (suc i) l = spans-at on from upto i (omega arith)

-- ---- n spans are read into an array of m, the first i of them so far

pub record Reading (m : ℕ) (on from upto : List ℕ) (n : ℕ) (sps : List Span) (i : ℕ) : Type 0 where
  pub long : length sps ≡ m
  pub most : n ≡ min (length (spans_of on from upto)) m
  pub within : i ≤ n
  pub front : take i sps ≡ take i (spans_of on from upto)

module _ {m : ℕ} {on from upto : List ℕ} {n : ℕ} {sps : List Span} {i : ℕ} (r : Reading m on from upto n sps i) where
  pub inside : i < n → (i < length on) × (i < length from) × (i < length upto)
  inside l =
      let count = spans_length on from upto in
      (omega (arith, count, r.most, l), omega (arith, count, r.most, l), omega (arith, count, r.most, l))

  pub read_more : {v : Span} → i < n → v ≡ span (at on i) (at from i) (at upto i) → Reading m on from upto n (set sps i v) (i + 1)
  read_more {v} l e =
      let spans = spans_of on from upto in
      let here : i < length sps = omega (arith, r.long, r.most, l) in
      let there : i < length spans = omega (arith, r.most, l) in
      let next : i + 1 ≡ suc i = omega arith in
      record {
        long = length-set sps i v ∙ r.long;
        most = r.most;
        within = omega (arith, l);
        front =
            ap (λ (k : ℕ). take k (set sps i v)) next
            ∙ take-suc-set sps i v here
            ∙ ap (λ (x : List Span). x ++ (v ∷ [])) r.front
            ∙ ap (λ (w : Span). take i spans ++ (w ∷ [])) (e ∙ sym (spans-at on from upto i there))
            ∙ sym (take-suc spans i no_span there)
            ∙ ap (λ (k : ℕ). take k spans) (sym next);
      }

  pub read_all : n ≤ i → take (length (spans_of on from upto)) sps ≡ take m (spans_of on from upto)
  read_all end = ⊎_elim few many (le_or_lt (length (spans_of on from upto)) m)
    where
      few : length (spans_of on from upto) ≤ m → take (length (spans_of on from upto)) sps ≡ take m (spans_of on from upto)
      few h =
          let all : i ≡ length (spans_of on from upto) = omega (arith, r.most, r.within, end, h) in
          ap (λ (k : ℕ). take k sps) (sym all) ∙ r.front ∙ take_all i _ (omega (arith, all)) ∙ sym (take_all m _ h)

      many : m < length (spans_of on from upto) → take (length (spans_of on from upto)) sps ≡ take m (spans_of on from upto)
      many h =
          let full : i ≡ m = omega (arith, r.most, r.within, end, h) in
          take_all (length (spans_of on from upto)) sps (omega (arith, r.long, h))
          ∙ sym (take_all i sps (omega (arith, r.long, full)))
          ∙ r.front
          ∙ ap (λ (k : ℕ). take k (spans_of on from upto)) full

-- ---- where there are no more than 64, all stand in front

pub all_in_front : (spans sps : List Span) {n : ℕ} → n ≡ length spans → n ≤ 64 → take (length spans) sps ≡ take 64 spans → take n sps ≡ spans
all_in_front spans sps e few front = ap (λ (k : ℕ). take k sps) e ∙ front ∙ take_all 64 spans (omega (arith, e, few))

-- ---- more are refused by 2 or 3

module _ (st : State) (sound : Sound st) (s : ℕ) (sps : List Span) (time : Float) (counted : Bool) (many : 64 < length sps) where
  refused-is : (n : ℕ) → First (store_used_refusals st s sps time counted) (suc n) → outcome {L = NoList} {A = TouchAnswer} st tt (refused (suc n)) ≡ store_used st s sps time counted
  unfolding store_used touch_spans bytes_touched
  refused-is n f = rw (first-is (store_used_refusals st s sps time counted) (store_used_exact st s sps time counted) (suc n) f)

  pub too_many-is : {n : ℕ} → n ≡ too_many (leb (stores_of st) s) → outcome {L = NoList} {A = TouchAnswer} st tt (refused n) ≡ store_used st s sps time counted
  too_many-is {n} e = go (leb (stores_of st) s) refl e
    where
      go : (b : Bool) → leb (stores_of st) s ≡ b → n ≡ too_many b
          → outcome {L = NoList} {A = TouchAnswer} st tt (refused n) ≡ store_used st s sps time counted
      go true t e = ap (λ (k : ℕ). outcome st tt (refused k)) e ∙ refused-is 1 (inr (λ n. n sound, inl (leb-true _ _ t, refl)))
      go false t e =
          ap (λ (k : ℕ). outcome st tt (refused k)) e ∙ refused-is 2 (inr (λ n. n sound, inr (λ l. omega (arith, leb-false (stores_of st) s t), inl (many, refl))))
