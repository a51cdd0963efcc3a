-- An answer as a number and a lent list: 0 and the values, or the refusal's number and the list as it was. Assumes nothing.
use Rattle.std.specs.Prelude.{ℕ, zero, suc, ◌≡◌, List, [], ◌∷◌, ◌++◌, drop, Option, None, Some}
use Rattle.std.proofs.lemmas.List.Edits.{sets}
use Rattle.model.specs.declared.Path.{Path}
use Rattle.model.specs.declared.Cut.{Cut}
use Rattle.model.specs.declared.ResolveAnswer.{ResolveAnswer}
use Rattle.model.specs.declared.InsertAnswer.{InsertAnswer}
use Rattle.model.specs.declared.BringAnswer.{BringAnswer}
use Rattle.model.specs.declared.TouchAnswer.{TouchAnswer}
use Rattle.model.specs.declared.RemoveAnswer.{RemoveAnswer}
use Rattle.model.specs.declared.ExpireAnswer.{ExpireAnswer}
use Rattle.model.specs.declared.LookupAnswer.{LookupAnswer}
use Rattle.model.specs.State.{State, at}
use Rattle.model.specs.Lookup.{each_tier, sums_in}
use Rattle.model.specs.Calls.{Outcome, Answer, refused, done, NoValue}
use Rattle.shape_answer.specs.Answers.{outcome}

-- ---- what a number and a list tell

abbrev pub told : {A : Type 0} → (List ℕ → A) → ℕ → List ℕ → Answer A
told read zero l = done (read l)
told read (suc n) l = refused (suc n)

abbrev pub told_plain : ℕ → Answer NoValue
told_plain zero = done tt
told_plain (suc n) = refused (suc n)

abbrev pub count_at : List ℕ → ℕ
count_at l = at l 0

abbrev pub path_at : List ℕ → Path
path_at l = record { segs = at l 0; blocks = at l 1 }

abbrev pub resolve_at : List ℕ → ResolveAnswer
resolve_at l = record { path = path_at l }

-- no cut, or the cut node, the blocks that it keeps and the new node
abbrev pub split_at : ℕ → List ℕ → Option Cut
split_at zero l = None
split_at (suc k) l = Some (record { node = at l 3; at = at l 4; new = at l 5 })

abbrev pub insert_at : List ℕ → InsertAnswer
insert_at l = record { path = path_at l; split = split_at (at l 2) l }

abbrev pub bring_at : List ℕ → BringAnswer
bring_at l = record { outs = at l 0; blocks = at l 1 }

abbrev pub touch_at : List ℕ → TouchAnswer
touch_at l = record { bytes = at l 0 }

abbrev pub remove_at : List ℕ → RemoveAnswer
remove_at l = record { writes = at l 0; blocks = at l 1 }

abbrev pub expire_at : List ℕ → ExpireAnswer
expire_at l = record { outs = at l 0 }

-- a path, the number of tier spans, then eight sums of blocks and eight of bytes
abbrev pub lookup_at : List ℕ → LookupAnswer
lookup_at l = record { path = path_at l; spans = at l 2; blocks = each_tier (drop 3 l); bytes = each_tier (drop 11 l) }

-- ---- an answer's number, and the list with its values in front

abbrev pub number_of : {A : Type 0} → Answer A → ℕ
number_of (refused n) = n
number_of (done v) = 0

abbrev pub laid : {A : Type 0} → (A → List ℕ) → Answer A → List ℕ → List ℕ
laid values (refused n) l = l
laid values (done v) l = sets l 0 (values v)

abbrev pub count_values : ℕ → List ℕ
count_values k = k ∷ []

abbrev pub resolve_values : ResolveAnswer → List ℕ
resolve_values v = v.path.segs ∷ v.path.blocks ∷ []

abbrev pub split_values : Option Cut → List ℕ
split_values None = 0 ∷ []
split_values (Some c) = 1 ∷ c.node ∷ c.at ∷ c.new ∷ []

abbrev pub insert_values : InsertAnswer → List ℕ
insert_values v = v.path.segs ∷ v.path.blocks ∷ split_values v.split

abbrev pub bring_values : BringAnswer → List ℕ
bring_values v = v.outs ∷ v.blocks ∷ []

abbrev pub touch_values : TouchAnswer → List ℕ
touch_values v = v.bytes ∷ []

abbrev pub remove_values : RemoveAnswer → List ℕ
remove_values v = v.writes ∷ v.blocks ∷ []

abbrev pub expire_values : ExpireAnswer → List ℕ
expire_values v = v.outs ∷ []

abbrev pub lookup_values : LookupAnswer → List ℕ
lookup_values v = v.path.segs ∷ v.path.blocks ∷ v.spans ∷ (sums_in v.blocks ++ sums_in v.bytes)

-- ---- what an exported call leaves

-- State and answer lists, and the answer that number and list tell, are the call's outcome o. Each place of the list is known: on a refusal all are as
-- they were, else the values stand in front and the rest is as it was.
pub record Tells {L A : Type 0} (read : List ℕ → A) (values : A → List ℕ) (o : Outcome L A) (st : State) (l : L) (r : ℕ) (before after : List ℕ) : Type 0 where
  pub says : outcome st l (told read r after) ≡ o
  pub places : after ≡ laid values o.answer before
