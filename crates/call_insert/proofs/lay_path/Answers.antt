-- `call_insert::lay_path` meets its contract: two copies.
-- Assumes nothing.
use mathlib.Core.Path.{ap₂}
use mathlib.Core.List.{List}
use Prim.Native.Nat.{ℕ}
use Rattle.shape_answer.specs.Lists.{path_list_of}
use Rattle.call_insert.proofs.lay_path.Goals as goal

pub returns : goal.returns
returns c = ap₂ (λ (a b : List ℕ). path_list_of a b) c.copy_front.ensures c.copy_front-2.ensures
