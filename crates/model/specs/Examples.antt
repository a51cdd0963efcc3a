-- Document 01, "Examples to be kept": each run on the public calls, as numbers, beside what 01 prints. `proofs/Table.antt` has the one statement.
-- Assumes nothing.
use Rattle.std.specs.Prelude.{ℕ, zero, suc, ◌+◌, true, false, List, [], ◌∷◌, ◌++◌, map, ◌≡◌, take, replicate, pos, Float, Option, None, Some}
use Rattle.std.specs.Float.{binary64}
use Rattle.std.specs.Float.Ieee.{of_int}
use Rattle.model.specs.declared.Span.{Span}
use Rattle.model.specs.declared.Cut.{Cut}
use Rattle.model.specs.declared.ResolveAnswer.{ResolveAnswer}
use Rattle.model.specs.declared.InsertAnswer.{InsertAnswer}
use Rattle.model.specs.declared.BringAnswer.{BringAnswer}
use Rattle.model.specs.declared.TouchAnswer.{TouchAnswer}
use Rattle.model.specs.declared.RemoveAnswer.{RemoveAnswer}
use Rattle.model.specs.declared.ExpireAnswer.{ExpireAnswer}
use Rattle.model.specs.declared.LookupAnswer.{LookupAnswer}
use Rattle.model.specs.Sizes.{max_nodes, max_words, max_records, max_pins, max_marks, max_numbers, table_length, path_places, out_places, tier_places}
use Rattle.model.specs.State.{State, at, stalls_of, held_of, version_of}
use Rattle.model.specs.Store.{store_of, no_time}
use Rattle.model.specs.Lookup.{sums_in}
use Rattle.model.specs.Refusals.{PathList, OutList, TierList}
use Rattle.model.specs.Calls.{refused, done, Outcome, LookupLists, set_up, resolve_call, insert, store_insert, store_used, store_remove, store_expire, pin_source, lookup}

-- ---- pools as they are lent: all zero

abbrev blanks : ℕ → List ℕ
blanks n = replicate n 0

abbrev pub pools : State
pools =
    record {
      tree = record {
        parent = blanks max_nodes;
        depth = blanks max_nodes;
        len = blanks max_nodes;
        run = blanks max_nodes;
        words = blanks max_words;
        nodes = 0;
        used = 0;
      };
      ranges = record {
        node = blanks max_records;
        start = blanks max_records;
        end = blanks max_records;
        id = blanks max_records;
        stamp = blanks max_records;
        touched = replicate max_records no_time;
        write = blanks max_records;
      };
      pins = record { node = blanks max_pins; start = blanks max_pins; end = blanks max_pins; count = blanks max_pins };
      marks = blanks max_marks;
      bytes = blanks table_length;
      books = blanks max_numbers;
    }

abbrev pub paths : PathList
paths = record { node = blanks path_places; len = blanks path_places }

abbrev pub outs : OutList
outs =
    record {
      node = blanks out_places;
      start = blanks out_places;
      end = blanks out_places;
      write = blanks out_places;
      bytes = blanks out_places;
      dead = blanks out_places;
    }

abbrev pub tier_spans : TierList
tier_spans = record { tier = blanks tier_places; node = blanks tier_places; start = blanks tier_places; end = blanks tier_places }

-- ---- "Byte table 100k. A = 11,12,13,14,15; B = 11,12,13,24,25. Store 0: capacity 4, refreshing. Store 1: capacity 0."

unfoldable pub multiples : ℕ → ℕ → ℕ → List ℕ
multiples each zero from = []
multiples each (suc n) from = from ∷ multiples each n (from + each)

abbrev pub table : List ℕ
table = multiples 100 table_length 0

abbrev pub list_a : List ℕ
list_a = 11 ∷ 12 ∷ 13 ∷ 14 ∷ 15 ∷ []

abbrev pub list_b : List ℕ
list_b = 11 ∷ 12 ∷ 13 ∷ 24 ∷ 25 ∷ []

abbrev pub fresh : State
fresh = (set_up pools table (4 ∷ 0 ∷ []) (true ∷ false ∷ [])).state

abbrev pub span : ℕ → ℕ → Span
span start end = record { node = 1; start = start; end = end }

abbrev pub time : ℕ → Float
time n = of_int binary64 (pos n)

-- ---- the calls, each as a function of the state before it, and what they leave

abbrev pub call1 : State → Outcome PathList ResolveAnswer
call1 st = resolve_call st paths []

abbrev pub call2 : State → Outcome PathList InsertAnswer
call2 st = insert st paths list_a

abbrev pub call3 : State → Outcome PathList ResolveAnswer
call3 st = resolve_call st paths (11 ∷ 12 ∷ [])

abbrev pub call4 : State → Outcome PathList ResolveAnswer
call4 st = resolve_call st paths (11 ∷ 12 ∷ 13 ∷ 24 ∷ [])

abbrev pub call5 : State → Outcome PathList InsertAnswer
call5 st = insert st paths list_b

abbrev pub call6 : State → Outcome OutList BringAnswer
call6 st = store_insert st outs 1 (span 0 5) (time 10) 0

abbrev pub call7 : State → Outcome OutList BringAnswer
call7 st = store_insert st outs 0 (span 0 5) (time 10) 7

abbrev pub call8 : State → Outcome (Unit {0}) TouchAnswer
call8 st = store_used st 0 (span 1 3 ∷ []) (time 20) true

abbrev pub call9 : State → Outcome OutList BringAnswer
call9 st = store_insert st outs 0 (span 4 5) (time 30) 0

abbrev pub call10 : State → Outcome OutList ExpireAnswer
call10 st = store_expire st outs 0 (time 40) (time 20)

abbrev pub call11 : State → Outcome (List ℕ) RemoveAnswer
call11 st = store_remove st (blanks out_places) 0 (span 1 2)

abbrev pub run1 : Outcome PathList ResolveAnswer
run1 = call1 fresh

abbrev pub run2 : Outcome PathList InsertAnswer
run2 = call2 fresh

abbrev pub run3 : Outcome PathList ResolveAnswer
run3 = call3 run2.state

abbrev pub run4 : Outcome PathList ResolveAnswer
run4 = call4 run2.state

abbrev pub run5 : Outcome PathList InsertAnswer
run5 = call5 run2.state

abbrev pub run6 : Outcome OutList BringAnswer
run6 = call6 run2.state

abbrev pub run7 : Outcome OutList BringAnswer
run7 = call7 run2.state

abbrev pub run8 : Outcome (Unit {0}) TouchAnswer
run8 = call8 run7.state

abbrev pub run9 : Outcome OutList BringAnswer
run9 = call9 run8.state

abbrev pub run10 : Outcome OutList ExpireAnswer
run10 = call10 run9.state

abbrev pub run11 : Outcome (List ℕ) RemoveAnswer
run11 = call11 run10.state

-- "tiers X, Y; X holds 2-4, Y holds 0-4"
abbrev pub two : State
two = (insert (set_up pools table (9 ∷ 9 ∷ []) (false ∷ false ∷ [])).state paths (1 ∷ 2 ∷ 3 ∷ 4 ∷ [])).state

abbrev pub run12 : Outcome LookupLists LookupAnswer
run12 =
    lookup (store_insert (store_insert two outs 0 (span 2 4) (time 1) 0).state outs 1 (span 0 4) (time 1) 0).state
    (record { path = paths; spans = tier_spans }) (0 ∷ 1 ∷ []) (1 ∷ 2 ∷ 3 ∷ 4 ∷ [])

-- "capacity 2, held 0-2, pin 0-4, bring 2-4"
abbrev pub one : State
one = (insert (set_up pools table (2 ∷ []) (false ∷ [])).state paths (1 ∷ 2 ∷ 3 ∷ 4 ∷ [])).state

abbrev pub half : State
half = (store_insert one outs 0 (span 0 2) (time 1) 0).state

abbrev pub call_pin : State → Outcome (Unit {0}) (Unit {0})
call_pin st = pin_source st 0 (span 0 4)

abbrev pub call13 : State → Outcome OutList BringAnswer
call13 st = store_insert st outs 0 (span 2 4) (time 2) 0

abbrev pub run13 : Outcome OutList BringAnswer
run13 = call13 (call_pin half).state

-- ---- answers as numbers

-- a refusal, as a list that no accepted answer gives
abbrev pub refusal : ℕ → List (List ℕ)
refusal n = (n ∷ []) ∷ [] ∷ (n ∷ []) ∷ []

-- (node, blocks) of the first n segments
unfoldable pub segs_of : ℕ → List ℕ → List ℕ → List (List ℕ)
segs_of zero ns ls = []
segs_of (suc n) [] ls = []
segs_of (suc n) (x ∷ ns) [] = []
segs_of (suc n) (x ∷ ns) (y ∷ ls) = (x ∷ y ∷ []) ∷ segs_of n ns ls

abbrev pub path_says : Outcome PathList ResolveAnswer → List (List ℕ)
path_says o = elim o.answer [ refused n ↦ refusal n | done a ↦ (a.path.blocks ∷ []) ∷ segs_of a.path.segs o.lists.node o.lists.len ]

-- node, k and the new number of a cut
abbrev pub cut_says : Option Cut → List (List ℕ)
cut_says None = []
cut_says (Some c) = (c.node ∷ c.at ∷ c.new ∷ []) ∷ []

abbrev pub insert_says : Outcome PathList InsertAnswer → List (List ℕ)
insert_says o =
    elim o.answer [
      | refused n ↦ refusal n
      | done a ↦
          (a.path.blocks ∷ [])
          ∷ segs_of a.path.segs o.lists.node o.lists.len ++ cut_says a.split
    ]

-- node, start, end, write, bytes, dead of the first n spans
unfoldable pub outs_of : ℕ → OutList → List (List ℕ)
outs_of zero l = []
outs_of (suc n) l = outs_of n l ++ ((at l.node n ∷ at l.start n ∷ at l.end n ∷ at l.write n ∷ at l.bytes n ∷ at l.dead n ∷ []) ∷ [])

-- store s: held and version
abbrev pub figures : State → ℕ → List ℕ
figures st s = held_of st s ∷ version_of st s ∷ []

abbrev pub out_says : ℕ → State → OutList → ℕ → List (List ℕ)
out_says s st l n = outs_of n l ++ (figures st s ∷ [])

-- P1's blocks first
abbrev pub bring_says : ℕ → Outcome OutList BringAnswer → List (List ℕ)
bring_says s o = elim o.answer [ refused n ↦ refusal n | done a ↦ (a.blocks ∷ []) ∷ out_says s o.state o.lists a.outs ]

abbrev pub expire_says : ℕ → Outcome OutList ExpireAnswer → List (List ℕ)
expire_says s o = elim o.answer [ refused n ↦ refusal n | done a ↦ out_says s o.state o.lists a.outs ]

-- start, end, id and stamp of each range of store s
abbrev pub ranges_say : State → ℕ → List (List ℕ)
ranges_say st s = map (λ r. r.start ∷ r.end ∷ r.id ∷ r.stamp ∷ []) (store_of st s).ranges

abbrev pub touch_says : ℕ → Outcome (Unit {0}) TouchAnswer → List (List ℕ)
touch_says s o = elim o.answer [ refused n ↦ refusal n | done a ↦ (a.bytes ∷ []) ∷ ranges_say o.state s ]

abbrev pub remove_says : ℕ → Outcome (List ℕ) RemoveAnswer → List (List ℕ)
remove_says s o = elim o.answer [ refused n ↦ refusal n | done a ↦ (a.blocks ∷ []) ∷ take a.writes o.lists ∷ figures o.state s ∷ ranges_say o.state s ]

-- tier, node, start, end of the first n tier spans; then the blocks for each of k tiers
unfoldable pub tiers_of : ℕ → TierList → List (List ℕ)
tiers_of zero l = []
tiers_of (suc n) l = tiers_of n l ++ ((at l.tier n ∷ at l.node n ∷ at l.start n ∷ at l.end n ∷ []) ∷ [])

abbrev pub lookup_says : ℕ → Outcome LookupLists LookupAnswer → List (List ℕ)
lookup_says k o = elim o.answer [ refused n ↦ refusal n | done a ↦ tiers_of a.spans o.lists.spans ++ (take k (sums_in a.blocks) ∷ []) ]

-- ---- the table

pub record Row : Type 0 where
  pub computed : List (List ℕ)
  pub document : List (List ℕ)

-- each row's run gives what the document prints
abbrev pub Agree : List Row → Type 0
Agree [] = Unit {0}
Agree (r ∷ rs) = (r.computed ≡ r.document) × Agree rs

-- E1 to E13. Beside the figures that 01 prints stand those that follow from them: the version of E6, E9 and E13, E10's write, bytes and held, the
-- range 4-5 of E10 and E11, E12's sums; and the blocks that request P1 adds to the answers of a bring-in and a removal
abbrev pub rows : List Row
rows =
    record { computed = path_says run1; document = (0 ∷ []) ∷ [] }
    ∷ record { computed = insert_says run2; document = (5 ∷ []) ∷ (1 ∷ 5 ∷ []) ∷ [] }
    ∷ record { computed = path_says run3; document = (2 ∷ []) ∷ (1 ∷ 2 ∷ []) ∷ [] }
    ∷ record { computed = path_says run4; document = (3 ∷ []) ∷ (1 ∷ 3 ∷ []) ∷ [] }
    ∷ record { computed = insert_says run5; document = (5 ∷ []) ∷ (1 ∷ 3 ∷ []) ∷ (3 ∷ 2 ∷ []) ∷ (1 ∷ 3 ∷ 2 ∷ []) ∷ [] }
    ∷ record { computed = bring_says 1 run6; document = (0 ∷ []) ∷ (1 ∷ 0 ∷ 5 ∷ 0 ∷ 500 ∷ 0 ∷ []) ∷ (0 ∷ 0 ∷ []) ∷ [] }
    ∷ record { computed = bring_says 0 run7; document = (5 ∷ []) ∷ (1 ∷ 4 ∷ 5 ∷ 7 ∷ 100 ∷ 100 ∷ []) ∷ (4 ∷ 1 ∷ []) ∷ [] }
    ∷ record {
      computed = touch_says 0 run8;
      document = (200 ∷ []) ∷ (0 ∷ 1 ∷ 1 ∷ 1 ∷ []) ∷ (1 ∷ 3 ∷ 2 ∷ 2 ∷ []) ∷ (3 ∷ 4 ∷ 3 ∷ 1 ∷ []) ∷ [];
    }
    ∷ record { computed = bring_says 0 run9; document = (1 ∷ []) ∷ (1 ∷ 0 ∷ 1 ∷ 7 ∷ 100 ∷ 0 ∷ []) ∷ (4 ∷ 2 ∷ []) ∷ [] }
    ∷ record {
      computed = expire_says 0 run10 ++ ranges_say run10.state 0;
      document = (1 ∷ 3 ∷ 4 ∷ 7 ∷ 100 ∷ 100 ∷ []) ∷ (3 ∷ 3 ∷ []) ∷ (1 ∷ 3 ∷ 2 ∷ 2 ∷ []) ∷ (4 ∷ 5 ∷ 4 ∷ 3 ∷ []) ∷ [];
    }
    ∷ record {
      computed = remove_says 0 run11;
      document = (1 ∷ []) ∷ (7 ∷ []) ∷ (2 ∷ 4 ∷ []) ∷ (2 ∷ 3 ∷ 2 ∷ 2 ∷ []) ∷ (4 ∷ 5 ∷ 4 ∷ 3 ∷ []) ∷ [];
    }
    ∷ record { computed = lookup_says 2 run12; document = (1 ∷ 1 ∷ 0 ∷ 4 ∷ []) ∷ (0 ∷ 4 ∷ []) ∷ [] }
    ∷ record { computed = bring_says 0 run13 ++ ((stalls_of run13.state ∷ []) ∷ []); document = (2 ∷ []) ∷ (4 ∷ 0 ∷ []) ∷ (1 ∷ []) ∷ [] }
    ∷ []
